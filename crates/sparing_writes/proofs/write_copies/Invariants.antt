-- `sparing_writes::write_copies` meets its contract. The loop's invariant: what is left to write, on the disc as it is, gives what all writes give
-- on the disc as it came. Assumes nothing.
use Rattle.model.specs.Disc.{disc as disc_of}
use Rattle.sparing_writes.proofs.Laws.{Copying}
use Rattle.sparing_writes.specs.Order.{numbers_of}
use Rattle.sparing_writes.proofs.write_copies.Given as goal

abbrev pub invariant-loop-k : goal.invariant-loop-k
invariant-loop-k l = Copying l.number l.cut (numbers_of l.places) l.bytes (disc_of l.initial.disc l.initial.marks) (disc_of l.disc l.marks) l.k
