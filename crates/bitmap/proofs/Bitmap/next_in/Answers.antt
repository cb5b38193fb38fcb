use Prim.Native.Nat.{ℕ, suc, ◌+◌, ◌*◌, ◌/◌}
use mathlib.Core.Logic.{⊎_elim}
use mathlib.Core.List.{List}
use mathlib.Core.Path.{◌≡◌}
use native.Mathlib.Omega.{arith}
use native.Mathlib.Decide.{dec_le}
use Rattle.fields.proofs.Laws.{by-dec}
use Rattle.bitmap.specs.Scan.{Shows}
use Rattle.bitmap.proofs.Windows.{enough, next-hit, next-passed}
use Rattle.bitmap.proofs.Bitmap.next_in.Goals as goal

pub returns-then-low-zeros : goal.returns-then-low-zeros
returns-then-low-zeros c = let v = c.loop-s in
    let passed = next-passed _ _ v.s _ _ c.look-w.ensures in
    record {
      above = omega arith;
      below = omega arith;
      other = λ i l n. by-dec (λ h. passed i h (omega arith) (omega arith)) (λ h. v.invariant.1 i l (omega (arith, h)) (omega arith)) (dec_le v.s i);
      here = λ h. next-hit _ _ v.s _ _ c.look-w.ensures c.if-low-zeros.true _ (omega arith);
    }

-- the window ends at the byte from which on words are skipped
ends : {b : List ℕ} {state q n x : ℕ} → Shows b state q n x → 8 * (q + n / 8) ≡ 8 * q + n
ends sh = ⊎_elim (λ e. omega (arith, e)) (λ e. omega (arith, e)) sh.size

pub loop-s-preserved : goal.loop-s-preserved
loop-s-preserved c = let v = c.loop-s in
    let m = enough c.look-w.ensures in
    let passed = next-passed _ _ v.s _ _ c.look-w.ensures in
    let e = ends c.look-w.ensures in (
      omega (arith, m, e, c.skip-s.ensures.above),
      λ i l n w.
          by-dec
          (λ h. v.invariant.1 i l h w)
          (λ h.
          by-dec
          (λ y. passed i (omega (arith, h)) (omega (arith, c.if-low-zeros.false, y)) y)
          (λ y. c.skip-s.ensures.other i (omega (arith, e, y)) n)
          (dec_le (suc i) (8 * (v.s / 8) + c.look-w.result.count)))
          (dec_le (suc i) v.s),
    )
