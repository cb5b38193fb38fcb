-- `vat_scan::last_possible` meets its contract. The loop's invariant: the first k blocks give what all give. Assumes nothing.
use Prim.Native.Nat.{ℕ}
use mathlib.Core.Path.{◌≡◌}
use mathlib.Core.List.{List}
use Rattle.model.specs.Disc.{disc}
use Rattle.model.specs.Vat.{scan}
use Rattle.vat_scan.proofs.last_possible.Given as goal

abbrev pub invariant-loop-k : goal.invariant-loop-k
invariant-loop-k l = (marks : List ℕ) → scan (disc l.disc marks) l.s l.k ≡ scan (disc l.disc marks) l.s l.end
