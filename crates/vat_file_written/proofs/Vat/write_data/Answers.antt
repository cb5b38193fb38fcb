-- `vat_file_written::Vat::write_data` meets its contract: data sector number i is the file from entry 512 i on (`data-written`). Assumes nothing.
use native.Mathlib.Omega.{arith}
use Rattle.model.proofs.WrittenVat.{data-sectors-most}
use Rattle.vat_file_written.proofs.Laws.{data-written}
use Rattle.vat_file_written.proofs.Vat.write_data.Goals as goal

pub overflow_mul-first : goal.overflow_mul-first
overflow_mul-first c = let d = data-sectors-most _ c.args.self.now.few in omega arith

pub write_file-requires : goal.write_file-requires
write_file-requires c = let d = data-sectors-most _ c.args.self.now.few in record { s_len = omega arith; first_bound = omega arith }

pub returns : goal.returns
returns c = let a = c.args in
    data-written a.self.now.entries.now _ a.self.now.previous.0 a.i _ c.requires.i_bound c.requires.sector_len c.write_file.ensures
