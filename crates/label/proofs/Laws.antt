-- Slip 4: fullness is the nearest whole number, the even one of two, and no other number is. Assumes nothing.
use Prim.Native.Nat.{ℕ, zero, suc, ◌+◌, ◌-◌, ◌*◌, ◌/◌, ◌%◌, ◌≤◌, ◌<◌}
use mathlib.Core.Bool.{Bool, true, false, cond}
use mathlib.Core.Path.{◌≡◌, refl, sym, ap, subst, ◌∙◌}
use native.Mathlib.Omega.{arith}
use native.Mathlib.Nat.{div-add-mod, div-le_of_le-mul, mod-lt, mul-add, mul_comm, mul-le-mul_left}
use borrow.Author.Tests.{ltb-true, ltb-false, lt-ltb, le-ltb}
use lib.Dec.{ltb}
use Rattle.label.specs.PerMille.{nearest, per_mille, Nearest, PerMilleNearest}

-- ---- the three kinds of remainder

-- a choice that is settled
chosen-first : {b : Bool} (x y : ℕ) → b ≡ true → cond b x y ≡ x
chosen-first x y h = ap (λ (b : Bool). cond b x y) h

chosen-second : {b : Bool} (x y : ℕ) → b ≡ false → cond b x y ≡ y
chosen-second x y h = ap (λ (b : Bool). cond b x y) h

module _ (q r l : ℕ) where
  -- below a half
  pub below_half : 2 * r < l → nearest q r l ≡ q
  unfolding nearest
  below_half h = chosen-first q _ (lt-ltb (2 * r) l h)

  -- above it
  pub above_half : l < 2 * r → nearest q r l ≡ q + 1
  unfolding nearest
  above_half h = chosen-second q _ (le-ltb (2 * r) l (omega arith)) ∙ chosen-first (q + 1) _ (lt-ltb l (2 * r) h)

  -- a half
  pub at-half : 2 * r ≡ l → nearest q r l ≡ q + q % 2
  unfolding nearest
  at-half h = chosen-second q _ (le-ltb (2 * r) l (omega arith)) ∙ chosen-second (q + 1) _ (le-ltb l (2 * r) (omega arith))

  -- it is one of the three
  by_kind : {P : Type 0} → (2 * r < l → P) → (l < 2 * r → P) → (2 * r ≡ l → P) → P
  by_kind {P} f g h = go (ltb (2 * r) l) (ltb l (2 * r)) refl refl
    where
      go : (u v : Bool) → ltb (2 * r) l ≡ u → ltb l (2 * r) ≡ v → P
      go true v x y = f (ltb-true (2 * r) l x)
      go false true x y = g (ltb-true l (2 * r) y)
      go false false x y = h (let i = ltb-false (2 * r) l x in let j = ltb-false l (2 * r) y in omega arith)

-- ---- of any division

module _ (a l q r : ℕ) (is : l * q + r ≡ a) (less : r < l) where
  -- the number below, up to the half, and the one above, from it on
  low : 2 * r < l → Nearest a l q
  low h = record { near = omega arith; even = λ e. absurd (omega arith) }

  high : l < 2 * r → Nearest a l (q + 1)
  high h = let m = mul-add l q 1 in record { near = omega (arith, m); even = λ e. absurd (omega (arith, m)) }

  middle : (b : ℕ) → b ≡ q % 2 → 2 * r ≡ l → Nearest a l (q + b)
  middle zero p h = record { near = omega arith; even = λ e. omega arith }
  middle (suc zero) p h = let m = mul-add l q 1 in record { near = omega (arith, m); even = λ e. omega arith }
  middle (suc (suc b)) p h = absurd (omega arith)

  pub is-nearest : Nearest a l (nearest q r l)
  is-nearest =
      by_kind
      q
      r
      l
      (λ h. subst (Nearest a l) (sym (below_half q r l h)) (low h))
      (λ h. subst (Nearest a l) (sym (above_half q r l h)) (high h))
      (λ h. subst (Nearest a l) (sym (at-half q r l h)) (middle (q % 2) refl h))

  -- any other is no less than q, and no more than the next
  from-quotient : (f : ℕ) → Nearest a l f → (b : Bool) → ltb f q ≡ b → q ≤ f
  from-quotient f n true h = let x = ltb-true f q h in let m = mul-le-mul_left l (add-one x) in let k = mul-add l f 1 in absurd (omega (arith, m, k, n.near))
    where
      add-one : f < q → f + 1 ≤ q
      add-one x = omega arith
  from-quotient f n false h = ltb-false f q h

  to-next : (f : ℕ) → Nearest a l f → (b : Bool) → ltb (q + 1) f ≡ b → f ≤ q + 1
  to-next f n true h = let x = ltb-true (q + 1) f h in let m = mul-le-mul_left l (add-two x) in let k = mul-add l q 2 in absurd (omega (arith, m, k, n.near))
    where
      add-two : q + 1 < f → q + 2 ≤ f
      add-two x = omega arith
  to-next f n false h = ltb-false (q + 1) f h

  -- and of the two it is the same
  chosen : (b : ℕ) → b ≤ 1 → Nearest a l (q + b) → q + b ≡ nearest q r l
  chosen zero p n =
      by_kind
      q
      r
      l
      (λ h. omega (arith, below_half q r l h))
      (λ h. absurd (omega (arith, n.near)))
      (λ h. omega (arith, at-half q r l h, n.even (omega arith)))
  chosen (suc zero) p n =
      let m = mul-add l q 1 in
      by_kind
      q
      r
      l
      (λ h. absurd (omega (arith, m, n.near)))
      (λ h. omega (arith, above_half q r l h))
      (λ h. omega (arith, at-half q r l h, n.even (omega (arith, m))))
  chosen (suc (suc b)) p n = absurd (omega arith)

  pub is-only : (f : ℕ) → Nearest a l f → f ≡ nearest q r l
  is-only f n =
      let x = from-quotient f n (ltb f q) refl in
      let y = to-next f n (ltb (q + 1) f) refl in
      let e : f ≡ q + (f - q) = omega arith in
      e ∙ chosen (f - q) (omega arith) (subst (Nearest a l) e n)

-- ---- of per mille

-- rounded down, no more than the whole has at most 1,000
pub down-most : (n l : ℕ) → n ≤ l → 1000 * n / l ≤ 1000
down-most n l h = div-le_of_le-mul l (omega arith)

fullness-is : (n l : ℕ) → 0 < l → Nearest (1000 * n) l (per_mille n l)
unfolding per_mille
fullness-is n l h = is-nearest (1000 * n) l (1000 * n / l) (1000 * n % l) (div-add-mod (1000 * n) l) (mod-lt (1000 * n) h)

fullness-only : (n l f : ℕ) → 0 < l → Nearest (1000 * n) l f → f ≡ per_mille n l
unfolding per_mille
fullness-only n l f h x = is-only (1000 * n) l (1000 * n / l) (1000 * n % l) (div-add-mod (1000 * n) l) (mod-lt (1000 * n) h) f x

-- at most 1,000: one more would be a whole l too many
fullness-most : (n l : ℕ) → 0 < l → n ≤ l → per_mille n l ≤ 1000
fullness-most n l h x = go (ltb 1000 (per_mille n l)) refl
  where
    go : (b : Bool) → ltb 1000 (per_mille n l) ≡ b → per_mille n l ≤ 1000
    go true y =
        let m = mul-le-mul_left l (more (ltb-true 1000 (per_mille n l) y)) in
        absurd (omega (arith, m, (fullness-is n l h).near))
      where
        more : 1000 < per_mille n l → 1001 ≤ per_mille n l
        more z = omega arith
    go false y = ltb-false 1000 (per_mille n l) y

pub told-most : (n l : ℕ) {r : ℕ} → 0 < l → n ≤ l → r ≡ per_mille n l → r ≤ 1000
told-most n l h x e = let m = fullness-most n l h x in omega arith

-- slip 4
pub per-mille-nearest : PerMilleNearest
per-mille-nearest =
    record {
      holds = fullness-is;
      only = fullness-only;
      some = (record { near = omega arith; even = λ e. absurd (omega arith) }, record { near = omega arith; even = λ e. refl }, record { near = omega arith; even = λ e. refl });
      unused = λ l h. sym (fullness-only 0 l 0 h (record { near = omega arith; even = λ e. refl }));
      full = λ l h. sym (fullness-only l l 1000 h (let m = mul_comm l 1000 in record { near = omega arith; even = λ e. refl }));
      most = fullness-most;
    }
