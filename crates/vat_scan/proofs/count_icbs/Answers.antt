use Prim.Native.Nat.{ℕ, ◌+◌}
use mathlib.Core.Path.{◌≡◌, sym, ap, ◌∙◌}
use mathlib.Core.Bool.{false}
use mathlib.Core.List.{List}
use native.Mathlib.Omega.{arith}
use Rattle.model.specs.Disc.{disc}
use Rattle.model.specs.Vat.{vat_icb}
use Rattle.model.proofs.Basics.{by-lt}
use Rattle.vat_scan.proofs.count_icbs.Invariants.{None}
use Rattle.vat_scan.proofs.count_icbs.Goals as goal
use Rattle.vat_scan.proofs.count_icbs.Goals.{then-can_be_icb, else-can_be_icb}

-- one block more
none-next : (b : List ℕ) (s k i : ℕ) → None b s k i → ((marks : List ℕ) → vat_icb (disc b marks) s (k + i) ≡ false) → None b s k (i + 1)
none-next b s k i f g marks j h =
    by-lt j i (f marks j)
    (λ l. let e : k + j ≡ k + i = omega arith in ap (vat_icb (disc b marks) s) e ∙ g marks)

pub loop-i-init : goal.loop-i-init
loop-i-init c = (omega arith, λ e marks j h. absurd (omega arith))

pub loop-i-preserved : goal.loop-i-preserved
loop-i-preserved c = let l = c.loop-i in
    elim c.if-can_be_icb.branch [
      | then-can_be_icb x ↦ (omega (arith, x.count-is), λ e. absurd (omega (arith, e, x.count-is)))
      | else-can_be_icb x ↦ (omega (arith, x.count-is), λ e. none-next _ _ _ l.i (l.invariant.1 (sym x.count-is ∙ e)) (c.can_be_icb.ensures x.if-can_be_icb.false))
    ]

pub returns : goal.returns
returns c e marks j h = c.loop-i.invariant.1 e marks j (omega arith)
