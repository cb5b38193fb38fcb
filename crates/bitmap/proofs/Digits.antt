-- Binary digits: where a number has its lowest and its highest one, its complement, its shifts, and the digits of bytes in a row.
-- Digit j of n is n / 2 ^ j % 2. Assumes nothing.
use Prim.Native.Nat.{ℕ, zero, suc, ◌+◌, ◌-◌, ◌*◌, ◌/◌, ◌%◌, ◌^◌, ◌≤◌, ◌<◌}
use mathlib.Core.Path.{◌≡◌, refl, sym, ap, ◌∙◌, subst}
use mathlib.Core.List.{List}
use native.Mathlib.Omega.{arith}
use native.Mathlib.Nat.{pow-suc, div-one, div-eq_of_lt, div-eq_of_lt-le, add-mul-div_right, add-mul-mod_self_right, lt_of_lt_of_le, eq-zero-or-pos, mul_comm, mul_assoc, add-mul, mul-le-mul_right, mod-lt}
use native.Mathlib.Decide.{dec_le}
use mathlib.Core.Logic.{⊎_elim}
use lib.ListN.{get_or}
use lib.Arith.{digits_lt}
use lib.Pow.{pow_pos, pow_mono, pow-add, split, shr_lt, shr-shr, shl-shr, high, field, mod-mod-pow}
use lib.Count.{count_trailing_zeros, under, count_leading_zeros, leading_of_zero, leading_top, leading_length}
use Rattle.fields.specs.Number as number
use Rattle.fields.proofs.Laws.{by-dec, AllBytes, field_next}

-- a digit of the half is the next digit
pub next-digit : (n i : ℕ) → n / 2 / 2 ^ i % 2 ≡ n / 2 ^ suc i % 2
next-digit n i = let e : 1 + i ≡ suc i = omega arith in ap (λ (x : ℕ). x % 2) (shr-shr n 1 i ∙ ap (λ (x : ℕ). n / 2 ^ x) e)

pub digit-zero : (n : ℕ) → n / 2 ^ 0 % 2 ≡ n % 2
digit-zero n = ap (λ (x : ℕ). x % 2) (div-one n)

-- below the trailing zeros' end there is no one
pub trailing-zero : (k n i : ℕ) → i < count_trailing_zeros k n → n / 2 ^ i % 2 ≡ 0
unfolding count_trailing_zeros
trailing-zero zero n i h = absurd (omega arith)
trailing-zero (suc k) n i h = go (λ i l. trailing-zero k (n / 2) i l) (n % 2) refl i h
  where
    go : ((i : ℕ) → i < count_trailing_zeros k (n / 2) → n / 2 / 2 ^ i % 2 ≡ 0)
        → (d : ℕ) → n % 2 ≡ d → (i : ℕ) → i < under d (count_trailing_zeros k (n / 2)) → n / 2 ^ i % 2 ≡ 0
    go rest zero e zero l = digit-zero n ∙ e
    go rest zero e (suc i) l = sym (next-digit n i) ∙ rest i (omega arith)
    go rest (suc d) e i l = absurd (omega arith)

-- and there it stands
pub trailing-one : (k n : ℕ) → count_trailing_zeros k n < k → n / 2 ^ count_trailing_zeros k n % 2 ≡ 1
unfolding count_trailing_zeros
trailing-one zero n h = absurd (omega arith)
trailing-one (suc k) n h = go (trailing-one k (n / 2)) (n % 2) refl h
  where
    go : (count_trailing_zeros k (n / 2) < k → n / 2 / 2 ^ count_trailing_zeros k (n / 2) % 2 ≡ 1)
        → (d : ℕ) → n % 2 ≡ d → under d (count_trailing_zeros k (n / 2)) < suc k → n / 2 ^ under d (count_trailing_zeros k (n / 2)) % 2 ≡ 1
    go rest zero e l = sym (next-digit n (count_trailing_zeros k (n / 2))) ∙ rest (omega arith)
    go rest (suc d) e l = let one : n % 2 ≡ 1 = omega arith in digit-zero n ∙ one

-- above the leading zeros' end there is no one
pub leading-zero : (k a i : ℕ) → a < 2 ^ k → k ≤ i + count_leading_zeros k a → a / 2 ^ i % 2 ≡ 0
leading-zero k a i h l =
    let m = leading_length k a h in
    let e : m.0 ≤ i = omega (arith, m.1) in
    ap (λ (x : ℕ). x % 2) (div-eq_of_lt (lt_of_lt_of_le m.2 (pow_mono e)))

-- and there it stands
pub leading-one : (k a i : ℕ) → a < 2 ^ k → i + 1 + count_leading_zeros k a ≡ k → a / 2 ^ i % 2 ≡ 1
leading-one k a i h e =
    ⊎_elim
    (λ z. let y : count_leading_zeros k a ≡ k = ap (λ (x : ℕ). count_leading_zeros k x) z ∙ leading_of_zero k in absurd (omega arith))
    (λ p.
    let t = leading_top k a p h in
    let at : t.0 ≡ i = omega (arith, t.1) in
    let low : 2 ^ i ≤ a = subst (λ (x : ℕ). 2 ^ x ≤ a) at t.2 in
    let top : a < 2 ^ i * 2 = subst (λ (x : ℕ). a < x) (ap (λ (x : ℕ). 2 ^ suc x) at ∙ pow-suc 2 i) t.3 in
    ap (λ (x : ℕ). x % 2) (div-eq_of_lt-le {k = 1} (2 ^ i) (omega (arith, low)) (omega (arith, top))))
    (eq-zero-or-pos a)

-- the digits of the complement
pub complement-digit : (n x j : ℕ) → x < 2 ^ n → j < n → (2 ^ n - 1 - x) / 2 ^ j % 2 ≡ 1 - x / 2 ^ j % 2
complement-digit zero x j h l = absurd (omega arith)
complement-digit (suc n) x zero h l =
    let p = pow-suc 2 n in
    digit-zero (2 ^ suc n - 1 - x) ∙ (let e : (2 ^ suc n - 1 - x) % 2 ≡ 1 - x % 2 = omega (arith, p) in e) ∙ ap (λ (y : ℕ). 1 - y) (sym (digit-zero x))
complement-digit (suc n) x (suc j) h l =
    let p = pow-suc 2 n in
    let e : (2 ^ suc n - 1 - x) / 2 ≡ 2 ^ n - 1 - x / 2 = omega (arith, p) in
    sym (next-digit (2 ^ suc n - 1 - x) j) ∙ ap (λ (y : ℕ). y / 2 ^ j % 2) e
    ∙ complement-digit n (x / 2) j (omega (arith, p)) (omega arith)
    ∙ ap (λ (y : ℕ). 1 - y) (next-digit x j)

-- the digits after a shift down
pub down-digit : (n low j : ℕ) → n / 2 ^ low / 2 ^ j % 2 ≡ n / 2 ^ (low + j) % 2
down-digit n low j = ap (λ (x : ℕ). x % 2) (shr-shr n low j)

-- the digits after a shift up, of which the highest are lost
pub up-digit : (k n up j : ℕ) → up + j < k → n * 2 ^ up % 2 ^ k / 2 ^ (up + j) % 2 ≡ n / 2 ^ j % 2
up-digit k n up j h =
    let i = up + j in
    let m = k - suc i in
    let e : m + 1 + i ≡ k = omega arith in
    ap (λ (x : ℕ). n * 2 ^ up % 2 ^ x / 2 ^ i % 2) (sym e)
    ∙ ap (λ (x : ℕ). x % 2) (field (n * 2 ^ up) (m + 1) i)
    ∙ mod-mod-pow (n * 2 ^ up / 2 ^ i) m 1
    ∙ ap (λ (x : ℕ). x % 2) (sym (shr-shr (n * 2 ^ up) up j) ∙ ap (λ (x : ℕ). x / 2 ^ j) (shl-shr n up))

-- the digits of bytes in a row
pub field-digit : (b : List ℕ) → AllBytes b → (w at j : ℕ) → j < 8 * w → number.field b at w / 2 ^ j % 2 ≡ get_or b (at + j / 8) 0 / 2 ^ (j % 8) % 2
field-digit b bytes zero at j h = absurd (omega arith)
field-digit b bytes (suc w) at j h =
    let x = get_or b at 0 in
    let f = number.field b (at + 1) w in
    ap (λ (y : ℕ). y / 2 ^ j % 2) (field_next b at (at + 1) w refl)
    ∙ by-dec
    (λ l.
    let j' = j - 8 in
    let e : 8 + j' ≡ j = omega (arith, l) in
    let a : at + 1 + j' / 8 ≡ at + j / 8 = omega (arith, l) in
    let m : j' % 8 ≡ j % 8 = omega (arith, l) in
    let u : x + 256 * f ≡ f * 2 ^ 8 + x = omega arith in
    ap (λ (y : ℕ). (x + 256 * f) / 2 ^ y % 2) (sym e)
    ∙ sym (down-digit (x + 256 * f) 8 j')
    ∙ ap (λ (y : ℕ). y / 2 ^ j' % 2) (ap (λ (y : ℕ). y / 2 ^ 8) u ∙ high f 8 (bytes at))
    ∙ field-digit b bytes w (at + 1) j' (omega (arith, l))
    ∙ ap (λ (y : ℕ). get_or b y 0 / 2 ^ (j' % 8) % 2) a
    ∙ ap (λ (y : ℕ). get_or b (at + j / 8) 0 / 2 ^ y % 2) m)
    (λ l.
    let k = 7 - j in
    let p : 256 ≡ 2 ^ k * 2 * 2 ^ j =
    let s : k + 1 + j ≡ 8 = omega (arith, l) in
    ap (λ (y : ℕ). 2 ^ y) (sym s) ∙ pow-add 2 (k + 1) j ∙ ap (λ (y : ℕ). y * 2 ^ j) (pow-add 2 k 1) in
    let v : x + 256 * f ≡ x + f * 2 ^ k * 2 * 2 ^ j =
    ap (λ (y : ℕ). x + y) (mul_comm 256 f ∙ ap (λ (y : ℕ). f * y) p ∙ sym (mul_assoc f (2 ^ k * 2) (2 ^ j)) ∙ ap (λ (y : ℕ). y * 2 ^ j) (sym (mul_assoc f (2 ^ k) 2))) in
    let a : at ≡ at + j / 8 = omega (arith, l) in
    let m : j ≡ j % 8 = omega (arith, l) in
    ap (λ (y : ℕ). y / 2 ^ j % 2) v
    ∙ ap (λ (y : ℕ). y % 2) (add-mul-div_right x (f * 2 ^ k * 2) (pow_pos j))
    ∙ add-mul-mod_self_right (x / 2 ^ j) (f * 2 ^ k) 2
    ∙ ap (λ (y : ℕ). get_or b y 0 / 2 ^ j % 2) a
    ∙ ap (λ (y : ℕ). get_or b (at + j / 8) 0 / 2 ^ y % 2) m)
    (dec_le 8 j)

-- ---- one digit taken off, or put in

-- a number by its digits above j, from j on
pub halves : (x j : ℕ) → x / 2 ^ suc j ≡ x / 2 ^ j / 2
halves x j = let e : suc j ≡ j + 1 = omega arith in ap (λ (y : ℕ). x / 2 ^ y) e ∙ sym (shr-shr x j 1)

module _ (x j : ℕ) where
  abbrev pub rest : ℕ
  rest = x % 2 ^ j

  pub rest_lt : rest < 2 ^ j
  rest_lt = mod-lt x (pow_pos j)

  parts : x / 2 ^ j * 2 ^ j + rest ≡ x
  parts = split x j

  -- where it is set, it may be taken off, and nothing above changes
  pub off-fits : x / 2 ^ j % 2 ≡ 1 → 2 ^ j ≤ x
  off-fits d =
      let one : 1 ≤ x / 2 ^ j = omega (arith, d) in
      let m = mul-le-mul_right (2 ^ j) one in
      let p = parts in
      omega (arith, m, p)

  pub off-above : x / 2 ^ j % 2 ≡ 1 → (x - 2 ^ j) / 2 ^ suc j ≡ x / 2 ^ suc j
  off-above d =
      let h = x / 2 ^ j / 2 in
      let y : x / 2 ^ j ≡ 2 * h + 1 = omega (arith, d) in
      let p = parts in
      let q : x / 2 ^ j * 2 ^ j ≡ 2 * h * 2 ^ j + 2 ^ j = ap (λ (z : ℕ). z * 2 ^ j) y ∙ add-mul (2 * h) 1 (2 ^ j) ∙ omega arith in
      let e : x - 2 ^ j ≡ 2 * h * 2 ^ j + rest = omega (arith, p, q) in
      let half : 2 * h / 2 ≡ h = omega arith in
      halves (x - 2 ^ j) j ∙ ap (λ (z : ℕ). z / 2 ^ j / 2) e ∙ ap (λ (z : ℕ). z / 2) (high (2 * h) j rest_lt) ∙ half ∙ sym (halves x j)

  -- where it is not, it may be put in
  pub put-split : x / 2 ^ j % 2 ≡ 0 → x + 2 ^ j ≡ (x / 2 ^ j + 1) * 2 ^ j + rest
  put-split d =
      let p = parts in
      let q : (x / 2 ^ j + 1) * 2 ^ j ≡ x / 2 ^ j * 2 ^ j + 2 ^ j = add-mul (x / 2 ^ j) 1 (2 ^ j) ∙ omega arith in
      omega (arith, p, q)

  pub put-above : x / 2 ^ j % 2 ≡ 0 → (x + 2 ^ j) / 2 ^ suc j ≡ x / 2 ^ suc j
  put-above d =
      let same : (x / 2 ^ j + 1) / 2 ≡ x / 2 ^ j / 2 = omega (arith, d) in
      halves (x + 2 ^ j) j ∙ ap (λ (z : ℕ). z / 2 ^ j / 2) (put-split d) ∙ ap (λ (z : ℕ). z / 2) (high (x / 2 ^ j + 1) j rest_lt) ∙ same ∙ sym (halves x j)

  pub put-fits : (k : ℕ) → j < k → x < 2 ^ k → x / 2 ^ j % 2 ≡ 0 → x + 2 ^ j < 2 ^ k
  put-fits k l u d =
      let m = k - suc j in
      let e : suc m + j ≡ k = omega (arith, l) in
      let w : x / 2 ^ j < 2 ^ suc m = shr_lt (suc m) j (subst (λ (z : ℕ). x < 2 ^ z) (sym e) u) in
      let two = pow-suc 2 m in
      let y : x / 2 ^ j + 1 < 2 ^ suc m = omega (arith, w, two, d) in
      let big : 2 ^ suc m * 2 ^ j ≡ 2 ^ k = sym (pow-add 2 (suc m) j) ∙ ap (λ (z : ℕ). 2 ^ z) e in
      let t = digits_lt y rest_lt in
      let s = put-split d in
      omega (arith, t, s, big)

  -- so digits above are kept
  pub kept_above : (y i : ℕ) → y / 2 ^ suc j ≡ x / 2 ^ suc j → j < i → y / 2 ^ i % 2 ≡ x / 2 ^ i % 2
  kept_above y i e l =
      let k = i - suc j in
      let s : suc j + k ≡ i = omega (arith, l) in
      ap (λ (z : ℕ). y / 2 ^ z % 2) (sym s) ∙ sym (down-digit y (suc j) k) ∙ ap (λ (z : ℕ). z / 2 ^ k % 2) e ∙ down-digit x (suc j) k ∙ ap (λ (z : ℕ). x / 2 ^ z % 2) s
