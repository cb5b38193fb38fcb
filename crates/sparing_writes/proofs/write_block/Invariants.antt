-- `sparing_writes::write_block` meets its contract. The loop's invariant: what is left to write, on the disc as it is, gives what all writes give
-- on the disc as it came, and the sectors that are left are as they came. Assumes nothing.
use Rattle.std.proofs.Common.{◌+◌}
use Rattle.model.specs.Disc.{disc as disc_of}
use Rattle.sparing_writes.proofs.Laws.{Rewriting}
use Rattle.sparing_writes.proofs.write_block.Given as goal

abbrev pub invariant-loop-k : goal.invariant-loop-k
invariant-loop-k l = Rewriting l.cut l.first.0 l.i l.block (disc_of l.initial.disc l.initial.marks) (disc_of l.disc l.marks) l.k (l.k + 1)
