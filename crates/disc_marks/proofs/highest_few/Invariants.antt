-- `disc_marks::highest_few` meets its contract. The loop's invariant: the highest so far and the highest of the marks that are left are together
-- the highest of all. Assumes nothing.
use Rattle.std.proofs.Common.{◌≡◌, max, drop}
use Rattle.disc_marks.specs.Marks.{highest_of}
use Rattle.disc_marks.proofs.highest_few.Given as goal

abbrev pub invariant-loop-m : goal.invariant-loop-m
invariant-loop-m l = max l.top (highest_of (drop l.m-index l.marks)) ≡ max l.least (highest_of l.marks)
