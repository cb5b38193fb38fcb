-- Laws of a list of tests, one for each way a call goes on or stops. Assumes nothing.
use Prim.Native.Nat.{ℕ}
use mathlib.Core.Path.{◌≡◌, refl, ap, ◌∙◌, sym}
use mathlib.Core.List.{List, [], ◌∷◌, ◌++◌}
use mathlib.Core.Bool.{Bool, true, false, not}
use native.Mathlib.Omega.{arith}
use borrow.Author.Tests.{eq-eqb, ne_eqb}
use lib.Dec.{eqb}
use Rattle.refusal.specs.Tests.{Test, test, first, need, and_then}
use Rattle.refusal.specs.declared.Refusal.{Refusal}
use Rattle.refusal.specs.Verdict.{Verdict, answered}
use Rattle.refusal.specs.Number.{answer_number}
use Rattle.std.specs.Prelude.{Ok, Err}

-- a call that is turned down does not go on
pub stop-go : {A : Type 0} {v : Verdict} {why : Refusal} → v ≡ Err why → v ≡ Ok tt → A
stop-go e f = let z : ◌≡◌ {A = ℕ} 0 1 = cc in absurd (omega arith)

-- a test that holds, and one that does not
pub goes : {b : Bool} (why : Refusal) {v w : Verdict} → b ≡ true → w ≡ v → w ≡ need b why v
unfolding need
goes why h q = rw h q

pub stops : {b : Bool} {why : Refusal} (v : Verdict) → b ≡ false → Err why ≡ need b why v
unfolding need
stops v h = rw h

pub ne : (a b : ℕ) → (a ≡ b → ⊥) → not (eqb a b) ≡ true
ne a b h = ap not (ne_eqb a b h)

pub eq : (a b : ℕ) → a ≡ b → not (eqb a b) ≡ false
eq a b h = ap not (eq-eqb a b h)

-- where no reason applies, every test holds
abbrev pub All : List Test → Type 0
All [] = Unit
All (test ok why ∷ l) = (ok ≡ true) × All l

pub passed : (l : List Test) → first l ≡ Ok tt → All l
unfolding need
passed [] q = tt
passed (test true why ∷ l) q = (refl, passed l q)
passed (test false why ∷ l) q = let z : ◌≡◌ {A = ℕ} 0 1 = cc in absurd (omega arith)

-- ---- two lists of tests, one after the other

pub first-append : (a b : List Test) → first (a ++ b) ≡ and_then (first a) (first b)
unfolding need
first-append [] b = refl
first-append (test true why ∷ a) b = first-append a b
first-append (test false why ∷ a) b = refl

-- asked after a verdict, the second list is asked after the verdict on the first
pub asked-after : (v : Verdict) (a b : List Test) → and_then v (first (a ++ b)) ≡ and_then (and_then v (first a)) (first b)
asked-after (Ok _) a b = first-append a b
asked-after (Err why) a b = refl

-- what stops the first stops both
pub stops-all : (a b : List Test) {why : Refusal} → first a ≡ Err why → Err why ≡ first (a ++ b)
stops-all a b e = sym (first-append a b ∙ ap (λ (x : Verdict). and_then x (first b)) e)

-- where the first lets go on, the verdict is that of the second
pub goes-all : (a b : List Test) (w : Verdict) → first a ≡ Ok tt → w ≡ first b → w ≡ first (a ++ b)
goes-all a b w e q = q ∙ sym (first-append a b ∙ ap (λ (x : Verdict). and_then x (first b)) e)

-- both let go on
pub both_go : (a b : List Test) → first (a ++ b) ≡ Ok tt → (first a ≡ Ok tt) × (first b ≡ Ok tt)
unfolding need
both_go [] b q = (refl, q)
both_go (test true why ∷ a) b q = both_go a b q
both_go (test false why ∷ a) b q = let z : ◌≡◌ {A = ℕ} 0 1 = cc in absurd (omega arith)

-- ---- an answer

-- equal verdicts make equal answers
pub answered-same : {A : Type 0} {x y : Verdict} (a : A) → x ≡ y → answered x a ≡ answered y a
answered-same a q = ap (λ (x : Verdict). answered x a) q

-- a value is given only where no test stops the call
pub given : {A : Type 0} (x : Verdict) {a b : A} → answered x a ≡ Ok b → (x ≡ Ok tt) × (a ≡ b)
given (Ok _) q = (refl, cc)
given (Err why) q = let z : ◌≡◌ {A = ℕ} 0 1 = cc in absurd (omega arith)

-- the number of an answer is that of its verdict
pub answered-number : {A : Type 0} (x : Verdict) (a : A) → answer_number (answered x a) ≡ answer_number x
answered-number (Ok _) a = refl
answered-number (Err why) a = refl
