-- Laws of the four places of table sectors, of which up to four are used. Assumes nothing.
use Prim.Native.Nat.{ℕ, zero, suc, ◌≤◌, ◌<◌, ◌^◌}
use mathlib.Core.Path.{◌≡◌, refl}
use mathlib.Core.List.{List, [], ◌∷◌, ◌++◌}
use native.Mathlib.Omega.{arith}
use lib.Dec.{lit<}
use lib.ListN.{length, get_or, take, replicate}
use Rattle.maps.specs.Kinds.{used}

-- what holds of four sectors holds of every list of length 4
pub four : (P : List ℕ → Type 0) → ((a b c d : ℕ) → P (a ∷ b ∷ c ∷ d ∷ [])) → (t : List ℕ) → length t ≡ 4 → P t
four P f [] e = absurd (omega arith)
four P f (a ∷ []) e = absurd (omega arith)
four P f (a ∷ b ∷ []) e = absurd (omega arith)
four P f (a ∷ b ∷ c ∷ []) e = absurd (omega arith)
four P f (a ∷ b ∷ c ∷ d ∷ []) e = f a b c d
four P f (a ∷ b ∷ c ∷ d ∷ x ∷ t) e = absurd (omega arith)

-- what holds of 0 to 4 holds of every number of tables
pub few : (P : ℕ → Type 0) → P 0 → P 1 → P 2 → P 3 → P 4 → (n : ℕ) → n ≤ 4 → P n
few P p0 p1 p2 p3 p4 zero h = p0
few P p0 p1 p2 p3 p4 (suc zero) h = p1
few P p0 p1 p2 p3 p4 (suc (suc zero)) h = p2
few P p0 p1 p2 p3 p4 (suc (suc (suc zero))) h = p3
few P p0 p1 p2 p3 p4 (suc (suc (suc (suc zero)))) h = p4
few P p0 p1 p2 p3 p4 (suc (suc (suc (suc (suc n))))) h = absurd (omega arith)

-- the places that are used, of places of which they are used already
module _ (n : ℕ) (h : n ≤ 4) where
  pub used-again : (t : List ℕ) → length t ≡ 4 → used n (used n t) ≡ used n t
  unfolding used
  used-again =
      four (λ (l : List ℕ). used n (used n l) ≡ used n l)
      (λ a b c d.
      few (λ (k : ℕ). used k (used k (a ∷ b ∷ c ∷ d ∷ [])) ≡ used k (a ∷ b ∷ c ∷ d ∷ [])) refl refl refl refl refl n h)

  pub take-used : (t : List ℕ) → length t ≡ 4 → take n (used n t) ≡ take n t
  unfolding used
  take-used =
      four (λ (l : List ℕ). take n (used n l) ≡ take n l)
      (λ a b c d.
      few (λ (k : ℕ). take k (used k (a ∷ b ∷ c ∷ d ∷ [])) ≡ take k (a ∷ b ∷ c ∷ d ∷ [])) refl refl refl refl refl n h)

-- sectors that are numbers of 4 bytes
abbrev pub Sectors : List ℕ → Type 0
Sectors t = (i : ℕ) → get_or t i 0 < 2 ^ 32

-- so are the first of them, those of two lists, zeros, and those that are used
sectors-take : (n : ℕ) (t : List ℕ) → Sectors t → Sectors (take n t)
sectors-take zero t h i = lit< tt
sectors-take (suc n) [] h i = lit< tt
sectors-take (suc n) (x ∷ t) h zero = h zero
sectors-take (suc n) (x ∷ t) h (suc i) = sectors-take n t (λ k. h (suc k)) i

sectors-append : (t l : List ℕ) → Sectors t → Sectors l → Sectors (t ++ l)
sectors-append [] l h k i = k i
sectors-append (x ∷ t) l h k zero = h zero
sectors-append (x ∷ t) l h k (suc i) = sectors-append t l (λ j. h (suc j)) k i

sectors-zero : (n : ℕ) → Sectors (replicate n 0)
sectors-zero zero i = lit< tt
sectors-zero (suc n) zero = lit< tt
sectors-zero (suc n) (suc i) = sectors-zero n i

pub sectors-used : (n : ℕ) (t : List ℕ) → Sectors t → Sectors (used n t)
unfolding used
sectors-used n t h =
    sectors-take 4 (take n t ++ replicate 4 0)
    (sectors-append (take n t) (replicate 4 0) (sectors-take n t h) (sectors-zero 4))
