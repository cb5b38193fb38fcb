-- `disc_marks::highest_many` meets its contract. The loop's invariant: the highest so far and the highest of the marks that are left are together
-- the highest of all. Assumes nothing.
use Rattle.std.proofs.Common.{◌≡◌, ◌*◌, max, drop}
use Rattle.disc_marks.specs.Marks.{highest_of}
use Rattle.disc_marks.proofs.highest_many.Given as goal

abbrev pub invariant-loop-turn : goal.invariant-loop-turn
invariant-loop-turn l = max (highest_of l.tops) (highest_of (drop (l.turn-index * 64) l.marks)) ≡ highest_of l.marks
