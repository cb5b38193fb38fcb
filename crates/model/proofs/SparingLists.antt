-- Tests, cases and membership: what the laws of the sparing table are proved with. Assumes nothing.
use Prim.Native.Nat.{ℕ, zero, suc, ◌%◌, ◌<◌}
use mathlib.Core.Bool.{true, not, ◌&&◌}
use mathlib.Core.Logic.{◌⊎◌, inl, inr, ⊎_elim}
use mathlib.Core.Path.{◌≡◌, refl, ap}
use mathlib.Core.List.{List, [], ◌∷◌, ◌++◌}
use native.Mathlib.Omega.{arith}
use lib.Dec.{eqb}
use lib.ListN.{length, get_or}
use borrow.Author.Tests.{eqb-false, ne_eqb, not-true}
use Rattle.maps.specs.Kinds.{absent, tables_apart}
use Rattle.model.proofs.Basics.{and-true, both}

-- ---- tests

-- ---- membership

-- x is one of l
abbrev pub In : ℕ → List ℕ → Type 0
In x [] = ⊥
In x (y ∷ l) = (x ≡ y) ⊎ In x l

-- x is in the first of two lists
pub in_left : (x : ℕ) (a b : List ℕ) → In x a → In x (a ++ b)
in_left x [] b h = absurd h
in_left x (y ∷ a) b (inl e) = inl e
in_left x (y ∷ a) b (inr h) = inr (in_left x a b h)

-- or in the second
pub in_right : (x : ℕ) (a b : List ℕ) → In x b → In x (a ++ b)
in_right x [] b h = h
in_right x (y ∷ a) b h = inr (in_right x a b h)

-- what is in two lists joined is in one of them
pub in_either : (x : ℕ) (a b : List ℕ) → In x (a ++ b) → In x a ⊎ In x b
in_either x [] b h = inr h
in_either x (y ∷ a) b (inl e) = inl (inl e)
in_either x (y ∷ a) b (inr h) = ⊎_elim (λ l. inl (inr l)) (λ r. inr r) (in_either x a b h)

-- what stands at a place of a list is in it
pub in_place_law : (l : List ℕ) (i : ℕ) → i < length l → In (get_or l i 0) l
in_place_law [] i h = absurd (omega arith)
in_place_law (x ∷ l) zero h = inl refl
in_place_law (x ∷ l) (suc i) h = inr (in_place_law l i (omega arith))

-- an absent number is not in the list
pub absent-not-in : (x : ℕ) (l : List ℕ) → absent x l ≡ true → In x l → ⊥
unfolding absent
absent-not-in x [] h i = i
absent-not-in x (y ∷ l) h (inl e) =
    eqb-false x y (not-true (eqb x y) (and-true (not (eqb x y)) (absent x l) h).0) e
absent-not-in x (y ∷ l) h (inr i) = absent-not-in x l (and-true (not (eqb x y)) (absent x l) h).1 i

-- a number that is not in the list is absent
pub not-in-absent : (x : ℕ) (l : List ℕ) → (In x l → ⊥) → absent x l ≡ true
unfolding absent
not-in-absent x [] n = refl
not-in-absent x (y ∷ l) n =
    both (ap not (ne_eqb x y (λ e. n (inl e)))) (not-in-absent x l (λ i. n (inr i)))

-- ---- lists without repetition

-- each number of l stands there once
abbrev pub Distinct : List ℕ → Type 0
Distinct [] = Unit {0}
Distinct (x ∷ l) = (In x l → ⊥) × Distinct l

-- two such lists with nothing in common
pub distinct_append : (a b : List ℕ) → Distinct a → Distinct b → ((t : ℕ) → In t a → In t b → ⊥) → Distinct (a ++ b)
distinct_append [] b ha hb n = hb
distinct_append (x ∷ a) b ha hb n =
    (λ i. ⊎_elim ha.0 (n x (inl refl)) (in_either x a b i), distinct_append a b ha.1 hb (λ t i j. n t (inr i) j))

-- table sectors of which none is named twice
pub tables-distinct : (ts : List ℕ) → tables_apart ts ≡ true → Distinct ts
unfolding tables_apart
tables-distinct [] h = tt
tables-distinct (t ∷ ts) h =
    let a = and-true (eqb (t % 32) 0) (absent t ts && tables_apart ts) h in
    let b = and-true (absent t ts) (tables_apart ts) a.1 in
    (absent-not-in t ts b.0, tables-distinct ts b.1)
