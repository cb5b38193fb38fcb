use Prim.Native.Nat.{ℕ, ◌+◌, ◌-◌, ◌/◌, ◌%◌, ◌≤◌, ◌<◌}
use mathlib.Core.Path.{◌≡◌, refl, sym, ap, ◌∙◌}
use native.Mathlib.Omega.{arith}
use lib.ListN.{length, get_or, set, length-set}
use Rattle.bitmap.specs.Bits.{bit_at}
use Rattle.bitmap.specs.State.{state_bit}
use Rattle.bitmap.proofs.Windows.{state-small}
use Rattle.bitmap_written.specs.Changed.{changed}
use Rattle.bitmap_written.proofs.Rows.{byte-off, byte_put, one_byte, left_over, none_left, other-bits}
use Rattle.bitmap_written.proofs.change_bits.Goals as goal

pub loop-s-init : goal.loop-s-init
loop-s-init c = let a = c.args in
    let e : a.first + a.count - a.first ≡ a.count = omega arith in
    (omega arith, refl, ap (λ (n : ℕ). changed a.b.now a.first n (state_bit a.state)) e, λ i l u. c.requires.2 i l u)

pub moved-requires : goal.moved-requires
moved-requires c = let v = c.loop-s in
    let r = c.min-high.ensures in
    let o = c.ones_between.ensures in
    let inside : 24 + v.s / 8 < length v.b = omega arith in
    let state : (i : ℕ) → v.s ≤ i → i < v.s - v.s % 8 + c.min-high.result → bit_at v.b i ≡ 1 - state_bit c.args.state =
    λ i l u. v.invariant.3 i l (omega (arith, r)) in (
      λ e. (let z = byte-off v.b v.s _ _ inside (omega (arith, r)) (omega (arith, r)) (state-small _) state e in omega (arith, z, o)),
      λ e. (let z = byte_put v.b v.s _ _ inside (omega (arith, r)) (omega (arith, r)) (state-small _) state e (c.type_inv.b (24 + v.s / 8)).fits in omega (arith, z, o)),
    )

pub loop-s-preserved : goal.loop-s-preserved
loop-s-preserved c = let v = c.loop-s in
    let r = c.min-high.ensures in
    let a = c.args in
    let o = c.ones_between.ensures in
    let m = c.moved.ensures in
    let x = c.moved.result in
    let h = c.min-high.result in
    let inside : 24 + v.s / 8 < length v.b = omega arith in
    let state : (i : ℕ) → v.s ≤ i → i < v.s - v.s % 8 + h → bit_at v.b i ≡ 1 - state_bit a.state = λ i l u. v.invariant.3 i l (omega (arith, r)) in
    let byte = get_or v.b (24 + v.s / 8) 0 in
    let one = one_byte v.b v.s h (state_bit a.state) inside (omega (arith, r)) (omega (arith, r)) (state-small _) state x
    (λ e. m.0 e ∙ ap (λ (n : ℕ). byte - n) o) (λ e. m.1 e ∙ ap (λ (n : ℕ). byte + n) o) in (
      omega (arith, r),
      length-set v.b (24 + v.s / 8) x ∙ v.invariant.1,
      left_over v.b (set v.b (24 + v.s / 8) x) v.s _ (h - v.s % 8) _ _ (state_bit a.state) one (omega (arith, r)) (omega (arith, r)) ∙ v.invariant.2,
      λ i l u. other-bits v.b (v.s / 8) x i (λ e. omega (arith, r)) ∙ v.invariant.3 i (omega (arith, r)) u,
    )

pub returns : goal.returns
returns c = let v = c.loop-s in
    sym (none_left v.b v.s _ _ (omega arith)) ∙ v.invariant.2
