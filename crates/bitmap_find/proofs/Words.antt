-- Rows of ones in a word, and the runs that they are. Assumes nothing.
use Prim.Native.Nat.{ℕ, suc, ◌+◌, ◌/◌, ◌%◌, ◌^◌, ◌≤◌, ◌<◌, min}
use mathlib.Core.Path.{◌≡◌, ap, ◌∙◌, subst}
use native.Mathlib.Omega.{arith}
use native.Mathlib.Nat.{div-eq_of_lt, lt_of_lt_of_le, lt_of_le_of_lt}
use native.Mathlib.Decide.{dec_le}
use lib.Bits.{bit_and, and_shr, and_step, and_le_l}
use lib.Pow.{pow_mono}
use Rattle.fields.proofs.Laws.{by-dec}
use Rattle.bitmap.proofs.Digits.{down-digit}
use Rattle.bitmap_find.specs.Runs.{Folded}

-- a digit of two numbers' common ones
and-digit : (a b j : ℕ) → bit_and a b / 2 ^ j % 2 ≡ min (a / 2 ^ j % 2) (b / 2 ^ j % 2)
and-digit a b j =
    let x = a / 2 ^ j in
    let y = b / 2 ^ j in
    let s = and_step x y in
    let m : bit_and x y % 2 ≡ min (x % 2) (y % 2) = omega (arith, s) in
    ap (λ (n : ℕ). n % 2) (and_shr a b j) ∙ m

-- a number has no digit past its size
pub no_digit : (n x j : ℕ) → x < 2 ^ n → n ≤ j → x / 2 ^ j % 2 ≡ 0
no_digit n x j h l = ap (λ (y : ℕ). y % 2) (div-eq_of_lt (lt_of_lt_of_le h (pow_mono l)))

pub folded-one : (x : ℕ) → x < 2 ^ 64 → Folded x 1 x
folded-one x h =
    record {
      row = λ j d i l u. (let e : i ≡ j = omega arith in ap (λ (y : ℕ). x / 2 ^ y % 2) e ∙ d);
      here = λ j o. o j (omega arith) (omega arith);
      small = h;
    }

-- a row of k, and one that begins m further on, at most k: a row of k + m
pub folded_more : (x k m y : ℕ) → m ≤ k → Folded x k y → Folded x (k + m) (bit_and y (y / 2 ^ m))
folded_more x k m y h f =
    record {
      row = λ j d i l u.
          let e = and-digit y (y / 2 ^ m) j in
          let s = down-digit y m j in
          let a : y / 2 ^ j % 2 ≡ 1 = omega (arith, d, e) in
          let c : y / 2 ^ (m + j) % 2 ≡ 1 = omega (arith, d, e, s) in
          by-dec (λ z. f.row j a i l z) (λ z. f.row (m + j) c i (omega (arith, z)) (omega arith)) (dec_le (suc i) (j + k));
      here = λ j o.
          let e = and-digit y (y / 2 ^ m) j in
          let s = down-digit y m j in
          let a = f.here j (λ i l u. o i l (omega arith)) in
          let c = f.here (m + j) (λ i l u. o i (omega arith) (omega arith)) in
          omega (arith, e, s, a, c);
      small = lt_of_le_of_lt (and_le_l y (y / 2 ^ m)) f.small;
    }

pub folded-all : (x k w y : ℕ) → k ≡ w → Folded x k y → Folded x w y
folded-all x k w y e f = subst (λ (n : ℕ). Folded x n y) e f
