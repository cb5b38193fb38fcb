-- Laws of what taking and giving back leave: the tag renewed, and every byte restored where what was taken is given back. Assumes nothing.
use Prim.Native.Nat.{ℕ, suc, ◌+◌, ◌*◌, ◌/◌, ◌%◌, ◌^◌, ◌≤◌, ◌<◌}
use mathlib.Core.Path.{◌≡◌, sym, ap, ap₂, ◌∙◌}
use mathlib.Core.Bool.{true}
use mathlib.Core.Logic.{inl, inr}
use mathlib.Core.List.{List}
use native.Mathlib.Omega.{arith}
use native.Mathlib.Decide.{dec_le}
use lib.Dec.{lit<}
use lib.ListN.{length, get_or}
use Rattle.fields.specs.Number.{field}
use Rattle.fields.proofs.Laws.{by-dec, AllBytes, field-2}
use Rattle.tag.specs.Sound.{sound, renewed}
use Rattle.tag.proofs.Renewed.{renewed-long, renewed-other, renewed-bytes, renewed-same, sound-kept}
use Rattle.bitmap.specs.Bits.{bit_at}
use Rattle.bitmap_written.specs.Changed.{changed}
use Rattle.bitmap_written.proofs.After.{changed-long, changed-bytes, changed-inside, changed-outside, changed-elsewhere, changed-back, byte-same}

-- bits lie behind the tag
pub renewed-bits : (b : List ℕ) → 16 ≤ length b → (i : ℕ) → bit_at (renewed b) i ≡ bit_at b i
unfolding bit_at
renewed-bits b long i = ap (λ (y : ℕ). y / 2 ^ (i % 8) % 2) (renewed-other b long (24 + i / 8) (λ z. omega arith) (inr (omega arith)))

-- giving back what was taken restores every byte
pub given-back-taken : (b : List ℕ) (f n : ℕ) → 24 ≤ length b → 192 + (f + n) ≤ 8 * length b → AllBytes b → sound b ≡ true → ((i : ℕ) → f ≤ i → i < f + n → bit_at b i ≡ 1)
    → renewed (changed (renewed (changed b f n 0)) f n 1) ≡ b
given-back-taken b f n long h a r free =
    let c = changed b f n 0 in
    let lc = changed-long b f n 0 h (lit< tt) in
    let ac = changed-bytes b f n 0 h (lit< tt) a in
    let sc : 16 ≤ length c = omega (arith, lc) in
    let d = renewed c in
    let ld = renewed-long c sc in
    let hc : 192 + (f + n) ≤ 8 * length c = omega (arith, lc) in
    let hd : 192 + (f + n) ≤ 8 * length d = omega (arith, lc, ld) in
    let x = changed d f n 1 in
    let y = changed c f n 1 in
    let lx = changed-long d f n 1 hd (lit< tt) in
    let ly = changed-long c f n 1 hc (lit< tt) in
    let ax = changed-bytes d f n 1 hd (lit< tt) (renewed-bytes c sc ac) in
    let ay = changed-bytes c f n 1 hc (lit< tt) ac in
    renewed-same x y (omega (arith, lx, ld, lc)) (lx ∙ ld ∙ sym ly)
    (λ k z o.
    by-dec
    (λ u.
    byte-same x y ax ay
    (λ i.
    by-dec
    (λ p.
    by-dec
    (λ q. changed-inside d f n 1 hd (lit< tt) i p q ∙ sym (changed-inside c f n 1 hc (lit< tt) i p q))
    (λ q. changed-outside d f n 1 hd (lit< tt) i (inr (omega (arith, q))) ∙ renewed-bits c sc i ∙ sym (changed-outside c f n 1 hc (lit< tt) i (inr (omega (arith, q)))))
    (dec_le (suc i) (f + n)))
    (λ p. changed-outside d f n 1 hd (lit< tt) i (inl (omega (arith, p))) ∙ renewed-bits c sc i ∙ sym (changed-outside c f n 1 hc (lit< tt) i (inl (omega (arith, p)))))
    (dec_le f i))
    k u)
    (λ u.
    changed-elsewhere d f n 1 hd (lit< tt) k (λ i p q m. omega (arith, u, m)) ∙ renewed-other c sc k z o
    ∙ sym (changed-elsewhere c f n 1 hc (lit< tt) k (λ i p q m. omega (arith, u, m))))
    (dec_le 24 k))
    ∙ ap renewed (changed-back b f n 0 1 h (lit< tt) (lit< tt) a free)
    ∙ sound-kept b (omega arith) a r

-- a changed bitmap has its tag
pub changed-ready : (b x : List ℕ) (f n v : ℕ) → x ≡ changed b f n v → 192 + (f + n) ≤ 8 * length b → v < 2 → 16 + field b 10 2 ≤ length b → 16 + field x 10 2 ≤ length x
changed-ready b x f n v e h w l =
    let c = changed b f n v in
    let k : (j : ℕ) → j < 24 → get_or c j 0 ≡ get_or b j 0 = λ j u. changed-elsewhere b f n v h w j (λ i p q m. omega arith) in
    let len : length x ≡ length b = ap length e ∙ changed-long b f n v h w in
    let fx : field x 10 2 ≡ field b 10 2 =
    ap (λ (y : List ℕ). field y 10 2) e ∙ field-2 c 10 ∙ ap₂ (λ (y z : ℕ). y + 256 * z) (k 10 (lit< tt)) (k 11 (lit< tt)) ∙ sym (field-2 b 10) in
    omega (arith, len, fx)
