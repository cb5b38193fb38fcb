use Prim.Native.Nat.{◌+◌, ◌-◌}
use mathlib.Core.Path.{◌≡◌, refl, ap, ◌∙◌}
use native.Mathlib.Omega.{arith}
use Rattle.model.specs.Disc.{disc}
use Rattle.model.specs.Vat.{scan}
use Rattle.vat_scan.proofs.Laws.{scan-pass-all}
use Rattle.vat_scan.proofs.skip_steps.Goals as goal

pub loop-k-init : goal.loop-k-init
loop-k-init c = (omega arith, λ marks. refl)

pub loop-k-preserved : goal.loop-k-preserved
loop-k-preserved c = let l = c.loop-k in
    let b = c.count_icbs.ensures c.if-count_icbs-eq0.true in
    let a = c.args in
    let e : l.k - 8 + 8 ≡ l.k = omega arith in (
      omega arith,
      λ marks. scan-pass-all (disc a.disc.now marks) a.s (l.k - 8) 8 (b marks) ∙ ap (scan (disc a.disc.now marks) a.s) e ∙ l.invariant.1 marks,
    )
