use Prim.Native.Nat.{ℕ, ◌*◌, ◌/◌, ◌%◌}
use mathlib.Core.Path.{◌≡◌, refl, ap, ◌∙◌}
use native.Mathlib.Omega.{arith}
use Rattle.bitmap.specs.Bits.{free_from}
use Rattle.bitmap.proofs.Ones.{word_more, byte_more, bits_more}
use Rattle.bitmap.proofs.Bitmap.count_free.Goals as goal

pub loop-i-init : goal.loop-i-init
unfolding free_from
loop-i-init c = (refl, omega arith)

pub loop-i-preserved : goal.loop-i-preserved
loop-i-preserved c = let m = word_more _ c.args.self.small _ _ _ c.loop-i.invariant.0 c.read.ensures in (m.0, omega (arith, m.1))

pub loop-q-preserved : goal.loop-q-preserved
loop-q-preserved c = let m = byte_more _ c.args.self.small _ _ c.loop-q.invariant.0 in (m.0, omega (arith, m.1))

pub overflow_add-result-2 : goal.overflow_add-result-2
overflow_add-result-2 c = let v = c.loop-q in
    let l = c.args.self.len in
    let e : 8 * v.q ≡ 8 * (l / 8) = omega arith in
    let m = bits_more _ c.args.self.small _ (l / 8) (l % 8) l (v.invariant.0 ∙ ap (λ (n : ℕ). free_from c.args.self.bytes.now 0 n) e) (omega arith) (omega arith) in
    record { fits = omega (arith, m.1) }

pub returns : goal.returns
returns c = let v = c.loop-q in
    let l = c.args.self.len in
    let e : 8 * v.q ≡ 8 * (l / 8) = omega arith in
    (bits_more _ c.args.self.small _ (l / 8) (l % 8) l (v.invariant.0 ∙ ap (λ (n : ℕ). free_from c.args.self.bytes.now 0 n) e) (omega arith) (omega arith)).0
