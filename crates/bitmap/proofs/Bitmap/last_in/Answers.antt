use native.Mathlib.Omega.{arith}
use native.Mathlib.Decide.{dec_le}
use Rattle.fields.proofs.Laws.{by-dec}
use Rattle.bitmap.proofs.Windows.{holds, last-hit, last-passed}
use Rattle.bitmap.proofs.Bitmap.last_in.Goals as goal

pub returns-then-up-zeros-lt-WORD : goal.returns-then-up-zeros-lt-WORD
returns-then-up-zeros-lt-WORD c = let v = c.loop-e in
    let h = holds c.back_from-q.ensures c.look-w.ensures in
    let passed = last-passed _ _ _ v.e _ _ c.look-w.ensures (omega arith) (omega arith) in
    record {
      above = omega arith;
      below = omega arith;
      other = λ i l n. by-dec (λ y. v.invariant.1 i (omega arith) y n) (λ y. passed i (omega arith) (omega (arith, y)) (omega arith)) (dec_le v.e i);
      here = λ y. last-hit _ _ _ v.e _ _ c.look-w.ensures (omega arith) (omega arith) (omega arith) _ (omega arith);
    }

pub loop-e-preserved : goal.loop-e-preserved
loop-e-preserved c = let v = c.loop-e in
    let h = holds c.back_from-q.ensures c.look-w.ensures in
    let passed = last-passed _ _ _ v.e _ _ c.look-w.ensures (omega arith) (omega arith) in
    (omega arith, λ i l n w. by-dec (λ y. v.invariant.1 i l y w) (λ y. passed i n (omega (arith, y)) (omega arith)) (dec_le v.e i))
