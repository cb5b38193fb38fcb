-- `disc_writes::write_zeros` meets its contract. The loop's invariant is that of any run of writes upward, here of zeros. Assumes nothing.
use Rattle.std.proofs.Common.{◌*◌}
use Rattle.model.specs.Disc.{disc as disc_of}
use Rattle.model.specs.Writes.{no_cut}
use Rattle.disc_writes.proofs.Laws.{zeros as zeros_of, Written}
use Rattle.disc_writes.proofs.write_zeros.Given as goal

abbrev pub invariant-loop-written : goal.invariant-loop-written
invariant-loop-written l = Written 1 no_cut l.count l.first.0 (zeros_of (2048 * l.count)) (disc_of l.initial.disc l.initial.marks) (disc_of l.disc l.marks) l.written
