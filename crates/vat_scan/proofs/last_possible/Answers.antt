use Prim.Native.Nat.{ℕ, ◌+◌, ◌-◌, ◌<◌}
use mathlib.Core.Path.{◌≡◌, refl, sym, ap, ◌∙◌}
use native.Mathlib.Omega.{arith}
use Rattle.model.specs.Disc.{Disc}
use Rattle.model.specs.Vat.{scan}
use Rattle.vat_scan.proofs.Laws.{scan-bottom, scan-pass}
use Rattle.vat_scan.proofs.last_possible.Goals as goal

-- up to block k - 1, and below block k
up-to : (d : Disc) (s k : ℕ) → 0 < k → scan d s (k - 1 + 1) ≡ scan d s k
up-to d s k h = let e : k - 1 + 1 ≡ k = omega arith in ap (scan d s) e

pub loop-k-init : goal.loop-k-init
loop-k-init c marks = refl

pub returns-then-can_be_icb : goal.returns-then-can_be_icb
returns-then-can_be_icb c marks = let l = c.loop-k in
    let e = c.skip_steps-end.ensures in
    (omega (arith, e.0), up-to _ _ l.k c.loop-k-test.true ∙ l.invariant marks ∙ e.1 marks)

pub loop-k-preserved : goal.loop-k-preserved
loop-k-preserved c marks = let l = c.loop-k in
    scan-pass _ _ _ (c.can_be_icb.ensures c.if-can_be_icb.false marks) ∙ up-to _ _ l.k c.loop-k-test.true ∙ l.invariant marks

pub returns : goal.returns
returns c marks = let l = c.loop-k in
    sym (l.invariant marks ∙ c.skip_steps-end.ensures.1 marks) ∙ scan-bottom _ _ l.k (omega arith)
