-- Free blocks counted: by the byte and by the word what they are by the bit. Assumes nothing.
use Prim.Native.Nat.{ℕ, zero, suc, ◌+◌, ◌-◌, ◌*◌, ◌/◌, ◌%◌, ◌^◌, ◌≤◌, ◌<◌}
use mathlib.Core.Path.{◌≡◌, refl, sym, ap, ap₂, ◌∙◌}
use mathlib.Core.List.{List}
use native.Mathlib.Omega.{arith}
use native.Mathlib.Nat.{mod-lt, mod-eq_of_lt, div-eq_of_lt, div-one}
use lib.ListN.{get_or}
use lib.Dec.{lit<}
use lib.Pow.{pow_pos, field, mod-mod-pow, shl_exact}
use lib.Count.{ones, ones_step, ones_cat}
use Rattle.fields.specs.Number as number
use Rattle.fields.proofs.Laws.{AllBytes, field_next, field-none}
use Rattle.bitmap.specs.Bits.{free_from}
use Rattle.bitmap.proofs.Digits.{halves}
use Rattle.bitmap.proofs.Windows.{bit-small, bit-of}

ones-zero : ones 0 ≡ 0
unfolding ones
ones-zero = refl

-- two spans one after the other
pub free_on : (b : List ℕ) (s n m : ℕ) → free_from b s (n + m) ≡ free_from b s n + free_from b (s + n) m
unfolding free_from
free_on b s zero m =
    let e : s ≡ s + 0 = omega arith in
    let k : 0 + m ≡ m = omega arith in
    let g = ap₂ (λ (y z : ℕ). free_from b y z) e k in
    omega (arith, g)
free_on b s (suc n) m =
    let e : s + 1 + n ≡ s + suc n = omega arith in
    let k : suc n + m ≡ suc (n + m) = omega arith in
    let g = ap (λ (y : ℕ). free_from b s y) k in
    let ih = free_on b (s + 1) n m in
    let f = ap (λ (y : ℕ). free_from b y m) e in
    omega (arith, g, ih, f)

-- no more than there are
pub free-few : (b : List ℕ) (s n : ℕ) → free_from b s n ≤ n
unfolding free_from
free-few b s zero = omega arith
free-few b s (suc n) = let m = bit-small b s in let ih = free-few b (s + 1) n in omega (arith, m, ih)

-- the low digits of a byte
pub low_digit : (x j n : ℕ) → j < n → x % 2 ^ n / 2 ^ j % 2 ≡ x / 2 ^ j % 2
low_digit x j n h =
    let m = n - suc j in
    let e : m + 1 + j ≡ n = omega arith in
    ap (λ (y : ℕ). x % 2 ^ y / 2 ^ j % 2) (sym e) ∙ ap (λ (y : ℕ). y % 2) (field x (m + 1) j) ∙ mod-mod-pow (x / 2 ^ j) m 1

free-from-digit : (b : List ℕ) (q n j m : ℕ) → n ≤ 8 → j + m ≡ n → free_from b (8 * q + j) m ≡ ones (get_or b (24 + q) 0 % 2 ^ n / 2 ^ j)
unfolding free_from
free-from-digit b q n j zero h e =
    let x = get_or b (24 + q) 0 in
    let s : n ≡ j = omega arith in
    sym (ap (λ (y : ℕ). ones (x % 2 ^ y / 2 ^ j)) s ∙ ap ones (div-eq_of_lt (mod-lt x (pow_pos j))) ∙ ones-zero)
free-from-digit b q n j (suc m) h e =
    let x = get_or b (24 + q) 0 in
    let k : 8 * q + j + 1 ≡ 8 * q + suc j = omega arith in
    ap₂ (λ (y z : ℕ). y + z) (bit-of b q j (omega arith) ∙ sym (low_digit x j n (omega arith)))
    (ap (λ (y : ℕ). free_from b y m) k ∙ free-from-digit b q n (suc j) m h (omega arith) ∙ ap ones (halves (x % 2 ^ n) j))
    ∙ sym (ones_step (x % 2 ^ n / 2 ^ j))

-- the first n bits of a byte
pub free-low : (b : List ℕ) (q n : ℕ) → n ≤ 8 → free_from b (8 * q) n ≡ ones (get_or b (24 + q) 0 % 2 ^ n)
free-low b q n h =
    let e : 8 * q ≡ 8 * q + 0 = omega arith in
    ap (λ (y : ℕ). free_from b y n) e ∙ free-from-digit b q n 0 n h (omega arith) ∙ ap ones (div-one (get_or b (24 + q) 0 % 2 ^ n))

-- all of w bytes
pub free-field : (b : List ℕ) → AllBytes b → (w q : ℕ) → free_from b (8 * q) (8 * w) ≡ ones (number.field b (24 + q) w)
unfolding free_from
free-field b bytes zero q = sym (ap ones (field-none b (24 + q)) ∙ ones-zero)
free-field b bytes (suc w) q =
    let x = get_or b (24 + q) 0 in
    let f = number.field b (24 + q + 1) w in
    let n : 8 * suc w ≡ 8 + 8 * w = omega arith in
    let k : 8 * q + 8 ≡ 8 * (q + 1) = omega arith in
    let a : 24 + (q + 1) ≡ 24 + q + 1 = omega arith in
    let e : f * 2 ^ 8 + x ≡ number.field b (24 + q) (suc w) = let g = field_next b (24 + q) (24 + q + 1) w refl in omega (arith, g) in
    let one : free_from b (8 * q) 8 ≡ ones x = free-low b q 8 (omega arith) ∙ ap ones (mod-eq_of_lt (bytes (24 + q))) in
    let rest : free_from b (8 * q + 8) (8 * w) ≡ ones f = ap (λ (y : ℕ). free_from b y (8 * w)) k ∙ free-field b bytes w (q + 1) ∙ ap (λ (y : ℕ). ones (number.field b y w)) a in
    let cat = ones_cat 8 f x (bytes (24 + q)) in
    ap (λ (y : ℕ). free_from b (8 * q) y) n ∙ free_on b (8 * q) 8 (8 * w) ∙ omega (arith, one, rest, cat) ∙ ap ones e

-- a span more
pub free_more : (b : List ℕ) (free n m z to : ℕ) → free ≡ free_from b 0 n → z ≡ free_from b n m → n + m ≡ to → (free + z ≡ free_from b 0 to) × (z ≤ m)
free_more b free n m z to e f g =
    let s = free_on b 0 n m in
    let k : 0 + n ≡ n = omega arith in
    let t = ap (λ (y : ℕ). free_from b y m) k in
    let u = ap (λ (y : ℕ). free_from b 0 y) g in
    let w = free-few b n m in
    (omega (arith, e, f, s, t, u), omega (arith, f, w))

-- a bit's weight in a byte
pub weight-8 : (h : ℕ) → h < 8 → (1 * 2 ^ h % 256 ≡ 2 ^ h) × (1 ≤ 2 ^ h)
weight-8 h l = (shl_exact 1 h 8 (lit< tt) (omega arith) ∙ (let z : 1 * 2 ^ h ≡ 2 ^ h = omega arith in z), pow_pos h)

-- ---- counted so far, and some more

module _ (b : List ℕ) (bytes : AllBytes b) (free : ℕ) where
  -- a word more
  pub word_more : (i x : ℕ) → free ≡ free_from b 0 (64 * i) → x ≡ number.field b (24 + 8 * i) 8 → (free + ones x ≡ free_from b 0 (64 * (i + 1))) × (ones x ≤ 64)
  word_more i x e f =
      let at : 8 * (8 * i) ≡ 64 * i = omega arith in
      free_more b free (64 * i) 64 (ones x) (64 * (i + 1)) e (ap ones f ∙ sym (free-field b bytes 8 (8 * i)) ∙ ap (λ (y : ℕ). free_from b y 64) at) (omega arith)

  -- a byte more
  pub byte_more : (q : ℕ) → free ≡ free_from b 0 (8 * q) → (free + ones (get_or b (24 + q) 0) ≡ free_from b 0 (8 * (q + 1))) × (ones (get_or b (24 + q) 0) ≤ 8)
  byte_more q e =
      free_more b free (8 * q) 8 (ones (get_or b (24 + q) 0)) (8 * (q + 1)) e (ap ones (sym (mod-eq_of_lt (bytes (24 + q)))) ∙ sym (free-low b q 8 (omega arith))) (omega arith)

  -- the first n bits of a byte more
  pub bits_more : (q n l : ℕ) → free ≡ free_from b 0 (8 * q) → n < 8 → 8 * q + n ≡ l
      → (free + ones (get_or b (24 + q) 0 % (1 * 2 ^ n % 256)) ≡ free_from b 0 l) × (ones (get_or b (24 + q) 0 % (1 * 2 ^ n % 256)) ≤ n)
  bits_more q n l e h g =
      free_more b free (8 * q) n (ones (get_or b (24 + q) 0 % (1 * 2 ^ n % 256))) l e
      (ap (λ (y : ℕ). ones (get_or b (24 + q) 0 % y)) (weight-8 n h).0 ∙ sym (free-low b q n (omega arith))) g
