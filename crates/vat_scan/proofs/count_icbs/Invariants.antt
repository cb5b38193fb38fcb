-- `vat_scan::count_icbs` meets its contract. The loop's invariant: where none was counted, none of the blocks looked at is a VAT ICB. Assumes nothing.
use Prim.Native.Nat.{ℕ, ◌+◌, ◌≤◌, ◌<◌}
use mathlib.Core.Path.{◌≡◌}
use mathlib.Core.Bool.{false}
use mathlib.Core.List.{List}
use Rattle.model.specs.Disc.{disc}
use Rattle.model.specs.Vat.{vat_icb}
use Rattle.vat_scan.proofs.count_icbs.Given as goal

-- none of the first i blocks from k on is a VAT ICB
abbrev pub None : List ℕ → ℕ → ℕ → ℕ → Type 0
None b s k i = (marks : List ℕ) (j : ℕ) → j < i → vat_icb (disc b marks) s (k + j) ≡ false

abbrev pub invariant-loop-i : goal.invariant-loop-i
invariant-loop-i l = (l.count ≤ l.i) × (l.count ≡ 0 → None l.disc l.s l.k.0 l.i)
