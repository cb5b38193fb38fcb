-- What changing a run of bits leaves: each bit, each byte elsewhere, the length, the count; and that changing back restores every byte. Assumes nothing.
use Prim.Native.Nat.{ℕ, zero, suc, ◌+◌, ◌-◌, ◌*◌, ◌/◌, ◌%◌, ◌^◌, ◌≤◌, ◌<◌}
use mathlib.Core.Path.{◌≡◌, refl, sym, ap, ap₂, ◌∙◌, subst}
use mathlib.Core.List.{List}
use mathlib.Core.Logic.{◌⊎◌, inl, inr, ⊎_elim}
use native.Mathlib.Omega.{arith}
use native.Mathlib.Nat.{add-mul, pow-suc}
use native.Mathlib.Decide.{ℕ_discrete, dec_le}
use lib.ListN.{length, get_or, length-set}
use lib.Seq.{ext_get_or, get_or-set_same, get_or-set_other}
use lib.Pow.{split, low, high}
use Rattle.fields.proofs.Laws.{by-dec, AllBytes}
use Rattle.bitmap.specs.Bits.{bit_at, free_from}
use Rattle.bitmap_written.specs.Changed.{set_bit, changed}
use Rattle.bitmap.proofs.Digits.{off-fits, put-above, put-fits, kept_above, put-split, rest_lt, digit-zero, next-digit}
use Rattle.bitmap.proofs.Windows.{bit-of}
use Rattle.bitmap_written.proofs.Rows.{left_over}
use Rattle.bitmap.proofs.Ones.{free_on, low_digit}

-- ---- one digit

-- two numbers that are the same modulo 2 ^ j have the same digits below j
low-kept : (x y j i : ℕ) → y % 2 ^ j ≡ x % 2 ^ j → i < j → y / 2 ^ i % 2 ≡ x / 2 ^ i % 2
low-kept x y j i e h = sym (low_digit y i j h) ∙ ap (λ (z : ℕ). z / 2 ^ i % 2) e ∙ low_digit x i j h

module _ (x j : ℕ) where
  put_low : x / 2 ^ j % 2 ≡ 0 → (x + 2 ^ j) % 2 ^ j ≡ x % 2 ^ j
  put_low d = ap (λ (z : ℕ). z % 2 ^ j) (put-split x j d) ∙ low (x / 2 ^ j + 1) j (rest_lt x j)

  put-here : x / 2 ^ j % 2 ≡ 0 → (x + 2 ^ j) / 2 ^ j % 2 ≡ 1
  put-here d =
      let e : (x / 2 ^ j + 1) % 2 ≡ 1 = omega (arith, d) in
      ap (λ (z : ℕ). z / 2 ^ j % 2) (put-split x j d) ∙ ap (λ (z : ℕ). z % 2) (high (x / 2 ^ j + 1) j (rest_lt x j)) ∙ e

  put_other : x / 2 ^ j % 2 ≡ 0 → (i : ℕ) → (i ≡ j → ⊥) → (x + 2 ^ j) / 2 ^ i % 2 ≡ x / 2 ^ i % 2
  put_other d i n =
      by-dec (λ l. low-kept x (x + 2 ^ j) j i (put_low d) l) (λ l. kept_above x j (x + 2 ^ j) i (put-above x j d) (omega (arith, l, n))) (dec_le (suc i) j)

  -- taking off is the way back
  off-put : x / 2 ^ j % 2 ≡ 1 → (x - 2 ^ j) / 2 ^ j % 2 ≡ 0
  off-put d =
      let h = x / 2 ^ j / 2 in
      let f = off-fits x j d in
      let p = split x j in
      let y : x / 2 ^ j ≡ 2 * h + 1 = omega (arith, d) in
      let q : x / 2 ^ j * 2 ^ j ≡ 2 * h * 2 ^ j + 2 ^ j = ap (λ (z : ℕ). z * 2 ^ j) y ∙ add-one-mul (2 * h) (2 ^ j) in
      let e : x - 2 ^ j ≡ 2 * h * 2 ^ j + x % 2 ^ j = omega (arith, p, q) in
      let even : 2 * h % 2 ≡ 0 = omega arith in
      ap (λ (z : ℕ). z / 2 ^ j % 2) e ∙ ap (λ (z : ℕ). z % 2) (high (2 * h) j (rest_lt x j)) ∙ even
    where
      add-one-mul : (a c : ℕ) → (a + 1) * c ≡ a * c + c
      add-one-mul a c = add-mul a 1 c ∙ omega arith

  off-other : x / 2 ^ j % 2 ≡ 1 → (i : ℕ) → (i ≡ j → ⊥) → (x - 2 ^ j) / 2 ^ i % 2 ≡ x / 2 ^ i % 2
  off-other d i n =
      let f = off-fits x j d in
      let e : x - 2 ^ j + 2 ^ j ≡ x = omega (arith, f) in
      sym (sym (ap (λ (z : ℕ). z / 2 ^ i % 2) e) ∙ other-of (x - 2 ^ j) (off-put d) i n)
    where
      other-of : (y : ℕ) → y / 2 ^ j % 2 ≡ 0 → (i : ℕ) → (i ≡ j → ⊥) → (y + 2 ^ j) / 2 ^ i % 2 ≡ y / 2 ^ i % 2
      other-of y d i n =
          by-dec
          (λ l. low-kept y (y + 2 ^ j) j i (ap (λ (z : ℕ). z % 2 ^ j) (put-split y j d) ∙ low (y / 2 ^ j + 1) j (rest_lt y j)) l)
          (λ l. kept_above y j (y + 2 ^ j) i (put-above y j d) (omega (arith, l, n)))
          (dec_le (suc i) j)

-- ---- one bit

-- a byte with digit j made v
abbrev made : ℕ → ℕ → ℕ → ℕ
made x j v = x + v * 2 ^ j - x / 2 ^ j % 2 * 2 ^ j

record Made (x j v y : ℕ) : Type 0 where
  pub here : y / 2 ^ j % 2 ≡ v
  pub other : (i : ℕ) → (i ≡ j → ⊥) → y / 2 ^ i % 2 ≡ x / 2 ^ i % 2
  pub small : j < 8 → x < 256 → y < 256

made-is : (x j v : ℕ) → v < 2 → Made x j v (made x j v)
made-is x j v h =
    by-dec
    (λ e.
    let s : x ≡ made x j v = (let z : x ≡ x + v * 2 ^ j - v * 2 ^ j = omega arith in z) ∙ ap (λ (y : ℕ). x + v * 2 ^ j - y * 2 ^ j) (sym e) in
    subst (λ (y : ℕ). Made x j v y) s (record { here = e; other = λ i n. refl; small = λ l u. u }))
    (λ n.
    by-dec
    (λ z.
    let d : x / 2 ^ j % 2 ≡ 1 = omega (arith, n, z) in
    let s : x - 2 ^ j ≡ made x j v = (let k : x - 2 ^ j ≡ x + 0 * 2 ^ j - 1 * 2 ^ j = omega arith in k) ∙ ap₂ (λ (a c : ℕ). x + a * 2 ^ j - c * 2 ^ j) (sym z) (sym d) in
    subst (λ (y : ℕ). Made x j v y) s (record { here = off-put x j d ∙ sym z; other = off-other x j d; small = λ l u. omega arith }))
    (λ z.
    let one : v ≡ 1 = omega (arith, z) in
    let d : x / 2 ^ j % 2 ≡ 0 = omega (arith, n, one) in
    let s : x + 2 ^ j ≡ made x j v = (let k : x + 2 ^ j ≡ x + 1 * 2 ^ j - 0 * 2 ^ j = omega arith in k) ∙ ap₂ (λ (a c : ℕ). x + a * 2 ^ j - c * 2 ^ j) (sym one) (sym d) in
    subst (λ (y : ℕ). Made x j v y) s (record { here = put-here x j d ∙ sym one; other = put_other x j d; small = λ l u. put-fits x j 8 l u d }))
    (ℕ_discrete v 0))
    (ℕ_discrete (x / 2 ^ j % 2) v)

module _ (b : List ℕ) (s v : ℕ) (inside : 24 + s / 8 < length b) (w : v < 2) where
  abbrev byte : ℕ
  byte = get_or b (24 + s / 8) 0

  at_byte : get_or (set_bit b s v) (24 + s / 8) 0 ≡ made byte (s % 8) v
  unfolding set_bit bit_at
  at_byte = get_or-set_same b (24 + s / 8) (made byte (s % 8) v) 0 inside

  elsewhere : (k : ℕ) → (k ≡ 24 + s / 8 → ⊥) → get_or (set_bit b s v) k 0 ≡ get_or b k 0
  unfolding set_bit bit_at
  elsewhere k n = get_or-set_other b (24 + s / 8) k (made byte (s % 8) v) 0 n

  long : length (set_bit b s v) ≡ length b
  unfolding set_bit bit_at
  long = length-set b (24 + s / 8) (made byte (s % 8) v)

  bit-here : bit_at (set_bit b s v) s ≡ v
  unfolding bit_at
  bit-here = ap (λ (y : ℕ). y / 2 ^ (s % 8) % 2) at_byte ∙ (made-is byte (s % 8) v w).here

  bit-other : (i : ℕ) → (i ≡ s → ⊥) → bit_at (set_bit b s v) i ≡ bit_at b i
  unfolding bit_at
  bit-other i n =
      by-dec
      (λ e.
      let k : 24 + i / 8 ≡ 24 + s / 8 = omega (arith, e) in
      ap (λ (y : ℕ). get_or (set_bit b s v) y 0 / 2 ^ (i % 8) % 2) k
      ∙ ap (λ (y : ℕ). y / 2 ^ (i % 8) % 2) at_byte
      ∙ (made-is byte (s % 8) v w).other (i % 8) (λ m. n (omega (arith, e, m)))
      ∙ ap (λ (y : ℕ). get_or b y 0 / 2 ^ (i % 8) % 2) (sym k))
      (λ e. ap (λ (y : ℕ). y / 2 ^ (i % 8) % 2) (elsewhere (24 + i / 8) (λ m. e (omega (arith, m)))))
      (ℕ_discrete (i / 8) (s / 8))

  bytes-kept : AllBytes b → AllBytes (set_bit b s v)
  bytes-kept h k =
      by-dec
      (λ e. subst (λ (y : ℕ). y < 256) (sym (ap (λ (y : ℕ). get_or (set_bit b s v) y 0) e ∙ at_byte)) ((made-is byte (s % 8) v w).small (let z : s % 8 < 8 = omega arith in z) (h (24 + s / 8))))
      (λ e. subst (λ (y : ℕ). y < 256) (sym (elsewhere k e)) (h k))
      (ℕ_discrete k (24 + s / 8))

-- ---- a run of bits

pub changed-long : (b : List ℕ) (s n v : ℕ) → 192 + (s + n) ≤ 8 * length b → v < 2 → length (changed b s n v) ≡ length b
unfolding changed
changed-long b s zero v h w = refl
changed-long b s (suc n) v h w =
    let e = long b s v (omega arith) w in changed-long (set_bit b s v) (s + 1) n v (omega (arith, e)) w ∙ e

pub changed-bytes : (b : List ℕ) (s n v : ℕ) → 192 + (s + n) ≤ 8 * length b → v < 2 → AllBytes b → AllBytes (changed b s n v)
unfolding changed
changed-bytes b s zero v h w a = a
changed-bytes b s (suc n) v h w a =
    let e = long b s v (omega arith) w in changed-bytes (set_bit b s v) (s + 1) n v (omega (arith, e)) w (bytes-kept b s v (omega arith) w a)

-- bits outside the run are as before
pub changed-outside : (b : List ℕ) (s n v : ℕ) → 192 + (s + n) ≤ 8 * length b → v < 2 → (i : ℕ) → (i < s) ⊎ (s + n ≤ i) → bit_at (changed b s n v) i ≡ bit_at b i
unfolding changed
changed-outside b s zero v h w i o = refl
changed-outside b s (suc n) v h w i o =
    let e = long b s v (omega arith) w in
    changed-outside (set_bit b s v) (s + 1) n v (omega (arith, e)) w i (⊎_elim (λ l. inl (omega arith)) (λ l. inr (omega arith)) o)
    ∙ bit-other b s v (omega arith) w i (λ z. ⊎_elim (λ l. omega arith) (λ l. omega arith) o)

-- those inside are v
pub changed-inside : (b : List ℕ) (s n v : ℕ) → 192 + (s + n) ≤ 8 * length b → v < 2 → (i : ℕ) → s ≤ i → i < s + n → bit_at (changed b s n v) i ≡ v
unfolding changed
changed-inside b s zero v h w i l u = absurd (omega arith)
changed-inside b s (suc n) v h w i l u =
    let e = long b s v (omega arith) w in
    by-dec
    (λ z. changed-outside (set_bit b s v) (s + 1) n v (omega (arith, e)) w i (inl (omega (arith, z))) ∙ ap (bit_at (set_bit b s v)) z ∙ bit-here b s v (omega arith) w)
    (λ z. changed-inside (set_bit b s v) (s + 1) n v (omega (arith, e)) w i (omega (arith, z)) (omega arith))
    (ℕ_discrete i s)

-- and so are all bytes that hold no bit of it
pub changed-elsewhere : (b : List ℕ) (s n v : ℕ) → 192 + (s + n) ≤ 8 * length b → v < 2 → (k : ℕ) → ((i : ℕ) → s ≤ i → i < s + n → k ≡ 24 + i / 8 → ⊥) → get_or (changed b s n v) k 0 ≡ get_or b k 0
unfolding changed
changed-elsewhere b s zero v h w k o = refl
changed-elsewhere b s (suc n) v h w k o =
    let e = long b s v (omega arith) w in
    changed-elsewhere (set_bit b s v) (s + 1) n v (omega (arith, e)) w k (λ i l u. o i (omega arith) (omega arith))
    ∙ elsewhere b s v (omega arith) w k (o s (omega arith) (omega arith))

-- ---- bytes by their bits

same_digits : (n x y : ℕ) → x < 2 ^ n → y < 2 ^ n → ((i : ℕ) → i < n → x / 2 ^ i % 2 ≡ y / 2 ^ i % 2) → x ≡ y
same_digits zero x y l u h = omega arith
same_digits (suc n) x y l u h =
    let p = pow-suc 2 n in
    let a : x % 2 ≡ y % 2 = sym (digit-zero x) ∙ h 0 (omega arith) ∙ digit-zero y in
    let c = same_digits n (x / 2) (y / 2) (omega (arith, p)) (omega (arith, p)) (λ i z. next-digit x i ∙ h (suc i) (omega arith) ∙ sym (next-digit y i)) in
    omega (arith, a, c)

-- a byte by its bits
pub byte-same : (b c : List ℕ) → AllBytes b → AllBytes c → ((i : ℕ) → bit_at b i ≡ bit_at c i) → (k : ℕ) → 24 ≤ k → get_or b k 0 ≡ get_or c k 0
byte-same b c hb hc bits k z =
    let q = k - 24 in
    let s : 24 + q ≡ k = omega (arith, z) in
    ap (λ (y : ℕ). get_or b y 0) (sym s)
    ∙ same_digits 8 (get_or b (24 + q) 0) (get_or c (24 + q) 0) (hb (24 + q)) (hc (24 + q)) (λ i u. sym (bit-of b q i u) ∙ bits (8 * q + i) ∙ bit-of c q i u)
    ∙ ap (λ (y : ℕ). get_or c y 0) s

pub same_bits : (b c : List ℕ) → AllBytes b → AllBytes c → length b ≡ length c → ((k : ℕ) → k < 24 → get_or b k 0 ≡ get_or c k 0) → ((i : ℕ) → bit_at b i ≡ bit_at c i) → b ≡ c
same_bits b c hb hc e low bits =
    ext_get_or 0 b c e (λ k l. by-dec (λ z. byte-same b c hb hc bits k z) (λ z. low k (omega (arith, z))) (dec_le 24 k))

-- changing back restores every byte
pub changed-back : (b : List ℕ) (s n v u : ℕ) → 192 + (s + n) ≤ 8 * length b → v < 2 → u < 2 → AllBytes b → ((i : ℕ) → s ≤ i → i < s + n → bit_at b i ≡ u)
    → changed (changed b s n v) s n u ≡ b
changed-back b s n v u h w z a r =
    let e = changed-long b s n v h w in
    let c = changed b s n v in
    let g : 192 + (s + n) ≤ 8 * length c = omega (arith, e) in
    same_bits (changed c s n u) b (changed-bytes c s n u g z (changed-bytes b s n v h w a)) a (changed-long c s n u g z ∙ e)
    (λ k l. changed-elsewhere c s n u g z k (λ i p q m. omega arith) ∙ changed-elsewhere b s n v h w k (λ i p q m. omega arith))
    (λ i.
    by-dec
    (λ l.
    by-dec
    (λ m. changed-inside c s n u g z i l m ∙ sym (r i l m))
    (λ m. changed-outside c s n u g z i (inr (omega (arith, m))) ∙ changed-outside b s n v h w i (inr (omega (arith, m))))
    (dec_le (suc i) (s + n)))
    (λ l. changed-outside c s n u g z i (inl (omega (arith, l))) ∙ changed-outside b s n v h w i (inl (omega (arith, l))))
    (dec_le s i))

-- ---- the count

pub free-same : (b c : List ℕ) (s n : ℕ) → ((i : ℕ) → s ≤ i → i < s + n → bit_at b i ≡ bit_at c i) → free_from b s n ≡ free_from c s n
unfolding free_from
free-same b c s zero h = refl
free-same b c s (suc n) h = ap₂ (λ (x y : ℕ). x + y) (h s (omega arith) (omega arith)) (free-same b c (s + 1) n (λ i l u. h i (omega arith) (omega arith)))

-- of blocks in one state all or none are free
pub free_all : (b : List ℕ) (s n v : ℕ) → v < 2 → ((i : ℕ) → s ≤ i → i < s + n → bit_at b i ≡ v) → free_from b s n ≡ v * n
unfolding free_from
free_all b s zero v w h = omega arith
free_all b s (suc n) v w h =
    let a = h s (omega arith) (omega arith) in
    let c = free_all b (s + 1) n v w (λ i l u. h i (omega arith) (omega arith)) in
    by-dec
    (λ z. let k : v * n ≡ 0 * n = ap (λ (y : ℕ). y * n) z in let m : v * suc n ≡ 0 * suc n = ap (λ (y : ℕ). y * suc n) z in omega (arith, a, c, k, m, z))
    (λ z. let one : v ≡ 1 = omega (arith, z) in let k : v * n ≡ 1 * n = ap (λ (y : ℕ). y * n) one in let m : v * suc n ≡ 1 * suc n = ap (λ (y : ℕ). y * suc n) one in omega (arith, a, c, k, m, one))
    (ℕ_discrete v 0)

-- the free blocks of all L, before and after: the run's own and the others
pub changed-count : (b : List ℕ) (s n l v u : ℕ) → 192 + (s + n) ≤ 8 * length b → s + n ≤ l → v < 2 → u < 2 → ((i : ℕ) → s ≤ i → i < s + n → bit_at b i ≡ u)
    → free_from (changed b s n v) 0 l + u * n ≡ free_from b 0 l + v * n
changed-count b s n l v u h f w z r =
    let c = changed b s n v in
    let m = l - (s + n) in
    let e : s + (n + m) ≡ l = omega arith in
    let at : 0 + s ≡ s = omega arith in
    let parts : (x : List ℕ) → free_from x 0 l ≡ free_from x 0 s + (free_from x s n + free_from x (s + n) m) =
    λ x.
    ap (λ (y : ℕ). free_from x 0 y) (sym e) ∙ free_on x 0 s (n + m)
    ∙ ap (λ (y : ℕ). free_from x 0 s + y) (ap (λ (y : ℕ). free_from x y (n + m)) at ∙ free_on x s n m) in
    let low = free-same c b 0 s (λ i p q. changed-outside b s n v h w i (inl (omega arith))) in
    let top = free-same c b (s + n) m (λ i p q. changed-outside b s n v h w i (inr p)) in
    let old = free_all b s n u z r in
    let new = free_all c s n v w (λ i p q. changed-inside b s n v h w i p q) in
    let pc = parts c in
    let pb = parts b in
    omega (arith, low, top, old, new, pc, pb)

-- ---- a run in three parts

-- what a change leaves for the next one
module _ (b x : List ℕ) (s n v : ℕ) (e : x ≡ changed b s n v) (h : 192 + (s + n) ≤ 8 * length b) (w : v < 2) where
  pub part-long : length x ≡ length b
  part-long = ap length e ∙ changed-long b s n v h w

  pub part-kept : (i : ℕ) → s + n ≤ i → bit_at x i ≡ bit_at b i
  part-kept i l = ap (λ (y : List ℕ). bit_at y i) e ∙ changed-outside b s n v h w i (inr l)

pub three-parts : (b x y z : List ℕ) (s n f q m t k v : ℕ) → x ≡ changed b s n v → q ≡ s + n → y ≡ changed x q m v → t ≡ q + m → z ≡ changed y t k v → f ≡ n + (m + k)
    → z ≡ changed b s f v
three-parts b x y z s n f q m t k v ex eq ey et ez ef =
    ez ∙ left_over x y q t m (m + k) k v ey et refl ∙ left_over b x s q n f (m + k) v ex eq ef

-- what two of them leave for the third
pub two-parts : (b x y : List ℕ) (s n q m v : ℕ) → x ≡ changed b s n v → q ≡ s + n → y ≡ changed x q m v → 192 + (q + m) ≤ 8 * length b → v < 2
    → (length y ≡ length b) × ((i : ℕ) → q + m ≤ i → bit_at y i ≡ bit_at b i)
two-parts b x y s n q m v ex eq ey h w =
    let hb : 192 + (s + n) ≤ 8 * length b = omega arith in
    let lx = part-long b x s n v ex hb w in
    let hx : 192 + (q + m) ≤ 8 * length x = omega (arith, lx) in
    (part-long x y q m v ey hx w ∙ lx, λ i l. part-kept x y q m v ey hx w i l ∙ part-kept b x s n v ex hb w i (omega arith))
