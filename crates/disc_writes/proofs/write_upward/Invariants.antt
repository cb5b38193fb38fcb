-- `disc_writes::write_upward` meets its contract. The loop's invariant: what is left to write, on the disc as it is, gives what the whole run gives
-- on the disc as it came. Assumes nothing.
use Rattle.model.specs.Disc.{disc as disc_of}
use Rattle.disc_writes.proofs.Laws.{Written}
use Rattle.disc_writes.proofs.write_upward.Given as goal

abbrev pub invariant-loop-i : goal.invariant-loop-i
invariant-loop-i l = Written l.number l.cut l.count l.first.0 l.bytes (disc_of l.initial.disc l.initial.marks) (disc_of l.disc l.marks) l.i
