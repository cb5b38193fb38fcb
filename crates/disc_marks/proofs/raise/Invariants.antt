-- `disc_marks::raise` meets its contract. The loop's invariant: the highest so far and the highest of the marks that are left are together the
-- highest of both. Assumes nothing.
use Rattle.std.proofs.Common.{◌≡◌, max, drop}
use Rattle.disc_marks.specs.Marks.{highest_of}
use Rattle.disc_marks.proofs.raise.Given as goal

abbrev pub invariant-loop-i : goal.invariant-loop-i
invariant-loop-i l = max (highest_of l.tops) (highest_of (drop l.i l.marks)) ≡ max (highest_of l.initial.tops) (highest_of l.marks)
