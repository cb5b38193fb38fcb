-- `vat_file_written::tail_of` meets its contract: two splices into zeros (`tail_written`). Assumes nothing.
use Rattle.fields.specs.Regid.{identifier, regid}
use Rattle.model.specs.Vat.{vat_name}
use Rattle.vat_file_written.proofs.Laws.{tail_written}
use Rattle.vat_file_written.proofs.tail_of.Goals as goal

pub returns : goal.returns
unfolding vat_name regid identifier
returns c = tail_written _ _ _ c.write_regid.ensures c.write.ensures
