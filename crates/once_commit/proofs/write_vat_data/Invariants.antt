-- `once_commit::write_vat_data` meets its contract. The loop's invariant is that of any run of writes upward. Assumes nothing.
use Rattle.std.proofs.Common.{◌+◌, length}
use Rattle.model.specs.Disc.{disc as disc_of}
use Rattle.model.specs.VatWritten.{data_sectors, written_data}
use Rattle.disc_writes.proofs.Laws.{Writing}
use Rattle.once_commit.proofs.write_vat_data.Given as goal

abbrev pub invariant-loop-i : goal.invariant-loop-i
invariant-loop-i l = Writing 1 l.cut (data_sectors (length l.vat.entries.now)) l.first.0 (written_data l.vat.entries.now l.vat.previous.0) (disc_of l.initial.disc l.initial.marks) (disc_of l.disc l.marks) l.i (l.i + 1)
