use Rattle.vat_read.proofs.Bytes.{first_byte}
use Rattle.vat_read.proofs.File.byte.Goals as goal

pub returns : goal.returns
returns c = first_byte _ _ _ c.bytes_from.ensures
