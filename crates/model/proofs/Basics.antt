-- Case analysis on tests and numbers, as terms. Assumes nothing.
use Prim.Native.Nat.{ℕ, ◌≤◌, ◌<◌}
use mathlib.Core.Bool.{Bool, true, false, cond, ◌&&◌, ◌||◌, false≢true}
use mathlib.Core.Logic.{◌≢◌, ◌⊎◌, inl, inr}
use mathlib.Core.Path.{◌≡◌, refl, sym, ◌∙◌}
use lib.Dec.{ltb, eqb}
use borrow.Author.Tests.{ltb-true, ltb-false, eqb-true, eqb-false}

-- what holds of both cases holds of a choice
pub cond-elim {ℓ κ} : {A : Type ℓ} (P : A → Type κ) (b : Bool) {x y : A} → (b ≡ true → P x) → (b ≡ false → P y) → P (cond b x y)
cond-elim P true f g = f refl
cond-elim P false f g = g refl

-- two choices by one test, whose cases agree
pub cond_both {ℓ κ} : {A : Type ℓ} {B : Type κ} (f : A → B) (a b : Bool) {x y : A} {u v : B} → a ≡ b → f x ≡ u → f y ≡ v → f (cond a x y) ≡ cond b u v
cond_both f a true e p q = rw e p
cond_both f a false e p q = rw e q

-- by a test that holds or not
pub by_bool {ℓ} : {P : Type ℓ} (b : Bool) → (b ≡ true → P) → (b ≡ false → P) → P
by_bool true f g = f refl
by_bool false f g = g refl

-- by the order of two numbers
pub by-lt {ℓ} : {P : Type ℓ} (a b : ℕ) → (a < b → P) → (b ≤ a → P) → P
by-lt a b f g = by_bool (ltb a b) (λ e. f (ltb-true a b e)) (λ e. g (ltb-false a b e))

-- by whether two numbers are equal
pub by-eq {ℓ} : {P : Type ℓ} (a b : ℕ) → (a ≡ b → P) → (a ≢ b → P) → P
by-eq a b f g = by_bool (eqb a b) (λ e. f (eqb-true a b e)) (λ e. g (eqb-false a b e))

-- the parts of a conjunction that holds
pub and-true : (a b : Bool) → a && b ≡ true → (a ≡ true) × (b ≡ true)
and-true true b e = (refl, e)
and-true false b e = absurd (false≢true e)

-- the first of them, and the second
pub and_first : (a b : Bool) → a && b ≡ true → a ≡ true
and_first a b e = (and-true a b e).0

pub and_second : (a b : Bool) → a && b ≡ true → b ≡ true
and_second a b e = (and-true a b e).1

-- a conjunction of what holds
pub both : {a b : Bool} → a ≡ true → b ≡ true → a && b ≡ true
both e f = rw (e, f)

-- the first two of three parts exchanged
pub and-swap : (a b c : Bool) → a && (b && c) ≡ b && (a && c)
and-swap true b c = refl
and-swap false true c = refl
and-swap false false c = refl

-- a conjunction with a part that does not hold
pub and-false : (a : Bool) {b : Bool} → b ≡ false → a && b ≡ false
and-false true e = e
and-false false e = refl

pub and-false-left : {a : Bool} (b : Bool) → a ≡ false → a && b ≡ false
and-false-left b e = rw e

-- conjunctions that agree as far as they are looked at
pub and-cong : {a b : Bool} {x y : Bool} → a ≡ b → (a ≡ true → x ≡ y) → a && x ≡ b && y
and-cong {a} {b} {x} {y} e h = rw (← e) (go a h)
  where
    go : (c : Bool) → (c ≡ true → x ≡ y) → c && x ≡ c && y
    go true k = k refl
    go false k = refl

-- what is true is not false
pub differ {ℓ} : {P : Type ℓ} {b : Bool} → b ≡ true → b ≡ false → P
differ e f = absurd (false≢true (sym f ∙ e))

-- a disjunction that holds
pub or_cases {ℓ} : {P : Type ℓ} (a b : Bool) → a || b ≡ true → (a ≡ true → P) → (b ≡ true → P) → P
or_cases true b e f g = f refl
or_cases false b e f g = g e

-- as a sum, and the second part where the first does not hold
pub either : (a b : Bool) → a || b ≡ true → (a ≡ true) ⊎ (b ≡ true)
either a b e = or_cases a b e inl inr

pub other : (a b : Bool) → a || b ≡ true → a ≡ false → b ≡ true
other a b e f = or_cases a b e (λ q. differ q f) (λ q. q)

-- a disjunction one part of which holds
pub or_left : {a : Bool} (b : Bool) → a ≡ true → a || b ≡ true
or_left b e = rw e

pub or_right : (a : Bool) {b : Bool} → b ≡ true → a || b ≡ true
or_right true e = refl
or_right false e = e
