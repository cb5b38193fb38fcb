-- `disc_marks::skip_blank` meets its contract. The loop's invariant: the marks are those left, and blank ones. Assumes nothing.
use Rattle.std.proofs.Common.{◌≡◌, ◌-◌, ◌++◌, length, replicate}
use Rattle.disc_marks.proofs.skip_blank.Given as goal

abbrev pub invariant-loop-below : goal.invariant-loop-below
invariant-loop-below g l = l.left ++ replicate (length l.marks - length l.left) 0 ≡ l.marks

abbrev pub decreases-loop-below : goal.decreases-loop-below
decreases-loop-below g l = length l.left
