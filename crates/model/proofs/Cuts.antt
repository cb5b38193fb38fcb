-- When a write of a call that was cut is whole, and what the plain store makes of a sparing that was. Assumes nothing.
use Prim.Native.Nat.{ℕ, ◌≤◌}
use mathlib.Core.Bool.{true, false, cond, ◌&&◌, false≢true}
use mathlib.Core.Logic.{◌≢◌}
use mathlib.Core.Path.{◌≡◌, refl, sym, ap, ◌∙◌}
use mathlib.Core.List.{List}
use native.Mathlib.Omega.{arith}
use lib.Dec.{ltb, eqb}
use borrow.Author.Tests.{ltb-true, eqb-true, lt-ltb, eq-eqb}
use Rattle.model.specs.declared.Cut.{Cut}
use Rattle.model.specs.declared.Effect.{Effect}
use Rattle.model.specs.declared.Landing.{Landing}
use Rattle.model.specs.Writes.{on_effect, landing}
use Rattle.model.specs.Calls.{spare_packet}
use Rattle.model.specs.Store.{Store, Shape, store, puts, slots_in, is_whole, whole_at, taken}
use Rattle.model.proofs.Basics.{cond-elim, by_bool, by-lt, by-eq, and-true, both, or_cases, or_left, or_right, differ}
use Rattle.model.proofs.Sectors.{landing-before, landing-at, landing-after}

-- a write of a cut call is whole exactly if it lands as done
whole-effect : (f : Effect) → is_whole f ≡ true → on_effect f ≡ Landing.Done
unfolding is_whole on_effect
whole-effect Effect.Old q = absurd (false≢true q)
whole-effect Effect.Unreadable q = absurd (false≢true q)
whole-effect Effect.Whole q = refl

pub whole-lands : (n : ℕ) (c : Cut) → 1 ≤ n → whole_at n c ≡ true → landing n c ≡ Landing.Done
unfolding whole_at
whole-lands n c h q =
    or_cases (ltb n c.at) _ q
    (λ w. landing-before n c (ltb-true _ _ w))
    (λ w.
    let p = and-true (eqb n c.at) _ w in
    landing-at n c (sym (eqb-true _ _ p.0)) h ∙ whole-effect c.effect p.1)

pub unreadable-differs : Landing.Unreadable ≡ Landing.Done → ⊥
unreadable-differs q = let z : ◌≡◌ {A = ℕ} 0 1 = cc in omega arith

pub old-differs : Landing.Old ≡ Landing.Done → ⊥
old-differs q = let z : ◌≡◌ {A = ℕ} 0 1 = cc in omega arith

untouched-differs : Landing.Untouched ≡ Landing.Done → ⊥
untouched-differs q = let z : ◌≡◌ {A = ℕ} 0 1 = cc in omega arith

broken-effect : (f : Effect) → is_whole f ≡ false → on_effect f ≢ Landing.Done
unfolding is_whole on_effect
broken-effect Effect.Old q = old-differs
broken-effect Effect.Unreadable q = unreadable-differs
broken-effect Effect.Whole q = absurd (false≢true (sym q))

-- and where it is not whole it lands otherwise
pub broken-lands : (n : ℕ) (c : Cut) → 1 ≤ n → 1 ≤ c.at → whole_at n c ≡ false → landing n c ≢ Landing.Done
unfolding whole_at
broken-lands n c h k q w =
    by-lt n c.at
    (λ u. differ (or_left (eqb n c.at && is_whole c.effect) (lt-ltb n c.at u)) q)
    (λ u.
    by-eq c.at n
    (λ v.
    by_bool (is_whole c.effect)
    (λ x. differ (or_right (ltb n c.at) (both (eq-eqb n c.at (sym v)) x)) q)
    (λ x. broken-effect c.effect x (sym (landing-at n c v h) ∙ w)))
    (λ v. untouched-differs (sym (landing-after n c k (omega arith)) ∙ w)))

-- the same write
pub whole_same : (n m : ℕ) (c : Cut) → n ≡ m → whole_at n c ≡ whole_at m c
whole_same n m c q = ap (λ (x : ℕ). whole_at x c) q

-- a choice by whether a write is whole
pub choice-same : (n m : ℕ) (c : Cut) (σ τ : Store) → n ≡ m → cond (whole_at n c) σ τ ≡ cond (whole_at m c) σ τ
choice-same n m c σ τ q = ap (λ (x : ℕ). cond (whole_at x c) σ τ) q

-- write 33 of a cut sparing, the first new copy, decides
spare-choice : (h : Shape) (σ : Store) (b : ℕ) (x : List ℕ) (c : Cut)
    → taken h σ (spare_packet b x c) true ≡ cond (whole_at 33 c) (store (puts σ.blocks b (slots_in 32 x 0)) σ.copy) σ
unfolding taken
spare-choice h σ b x c = choice-same _ _ c _ _ (omega arith)

-- it is done exactly if that write is whole
pub spared-cut : (h : Shape) (σ : Store) (b : ℕ) (x : List ℕ) (c : Cut) (P : Store → Type 0) → 1 ≤ c.at
    → (landing 33 c ≡ Landing.Done → P (store (puts σ.blocks b (slots_in 32 x 0)) σ.copy))
    → (landing 33 c ≢ Landing.Done → P σ)
    → P (taken h σ (spare_packet b x c) true)
spared-cut h σ b x c P k f g =
    rw (spare-choice h σ b x c)
    (cond-elim P (whole_at 33 c) (λ w. f (whole-lands 33 c (omega arith) w)) (λ w. g (broken-lands 33 c (omega arith) k w)))
