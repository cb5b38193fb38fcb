-- `disc_read::first_mark` meets its contract. The loop's invariant: the first that is not recorded is among those left to be looked at. Assumes
-- nothing.
use Rattle.std.proofs.Common.{◌≡◌, ℕ, ◌+◌, ◌-◌, List}
use Rattle.model.specs.Disc.{disc, first_mark}
use Rattle.disc_read.proofs.first_mark.Given as goal

abbrev pub invariant-loop-mark : goal.invariant-loop-mark
invariant-loop-mark l =
    (bytes : List ℕ) → first_mark (disc bytes l.marks) (l.from + l.mark-index) (l.count - l.mark-index) ≡ first_mark (disc bytes l.marks) l.from l.count
