-- Laws of the table sectors of a rewritable volume: four places, of which up to four are used. Assumes nothing.
use Prim.Native.Nat.{ℕ, zero, suc, ◌+◌, ◌*◌, ◌%◌, ◌≤◌, ◌<◌}
use mathlib.Core.Path.{◌≡◌, refl, sym, ap, ◌∙◌}
use mathlib.Core.List.{List, [], ◌∷◌}
use mathlib.Core.Bool.{true, false}
use native.Mathlib.Omega.{arith}
use native.Mathlib.Numerals.{add-one}
use borrow.Author.Tests.{eq-eqb, ne_eqb, leb-true}
use lib.Dec.{leb}
use lib.ListN.{length, get_or, take, drop, set, replicate, length-append, length-take, drop_of_length-le}
use lib.Seq.{get_or-take, drop-cons}
use Rattle.fields.specs.Number.{field}
use Rattle.maps.specs.Kinds.{words, tables_in_range, used, absent, tables_apart}
use Rattle.fields.proofs.Tests.{both}

-- ---- four places

-- four places of table sectors, whatever is used of them
pub length-used : (n : ℕ) (t : List ℕ) → length (used n t) ≡ 4
unfolding used
length-used n t = simp (length-take, length-append) (omega arith)

-- where the numbers of a map are in range, the tables are at most 4
pub few-tables : (n size : ℕ) → tables_in_range n size ≡ true → n ≤ 4
unfolding tables_in_range
few-tables n size q = leb-true _ _ (both (leb n 4) _ (both (leb 1 n) _ q).1).0

-- ---- the table sectors, one place at a time

-- none is read yet
pub used-none : (l : List ℕ) → used 0 l ≡ replicate 4 0
unfolding used
used-none l = refl

-- one is read more
pub used-next : (s : List ℕ) (i : ℕ) → i < 4 → set (used i (words s 48 4)) i (field s (48 + 4 * i) 4) ≡ used (i + 1) (words s 48 4)
unfolding used words
used-next s zero h = refl
used-next s (suc zero) h = refl
used-next s (suc (suc zero)) h = refl
used-next s (suc (suc (suc zero))) h = refl
used-next s (suc (suc (suc (suc i)))) h = absurd (omega arith)

-- ---- of line 6, what a map list shows: the tables from a place on

module _ (t : List ℕ) (n i : ℕ) (h : n ≤ length t) where
  -- the table at a place, and those after it
  at_place : i < n → drop i (take n t) ≡ get_or t i 0 ∷ drop (i + 1) (take n t)
  at_place l =
      drop-cons (take n t) i 0 (simp length-take (omega arith))
      ∙ ap (λ (x : ℕ). x ∷ drop (suc i) (take n t)) (get_or-take n t i 0 l)
      ∙ ap (λ (k : ℕ). get_or t i 0 ∷ drop k (take n t)) (sym (add-one i))

  -- and none past the last
  past-last : n ≤ i → drop i (take n t) ≡ []
  past-last l = drop_of_length-le (take n t) {i = i} (simp length-take (omega arith))

  -- no sector is left
  pub absent-end : (x : ℕ) → n ≤ i → true ≡ absent x (drop i (take n t))
  unfolding absent
  absent-end x l = sym (ap (absent x) (past-last l))

  -- the sector is named here
  pub absent-found : (x : ℕ) → i < n → x ≡ get_or t i 0 → false ≡ absent x (drop i (take n t))
  unfolding absent
  absent-found x l e = sym (ap (absent x) (at_place l) ∙ simp (eq-eqb x (get_or t i 0) e))

  -- it is not
  pub absent-next : (x : ℕ) → i < n → (x ≡ get_or t i 0 → ⊥) → absent x (drop (i + 1) (take n t)) ≡ absent x (drop i (take n t))
  unfolding absent
  absent-next x l e = sym (ap (absent x) (at_place l) ∙ simp (ne_eqb x (get_or t i 0) e))

  -- no table is left
  pub apart-end : n ≤ i → true ≡ tables_apart (drop i (take n t))
  unfolding tables_apart
  apart-end l = sym (ap tables_apart (past-last l))

  -- the sector starts no packet
  pub apart-off : i < n → (get_or t i 0 % 32 ≡ 0 → ⊥) → false ≡ tables_apart (drop i (take n t))
  unfolding tables_apart
  apart-off l e = sym (ap tables_apart (at_place l) ∙ simp (ne_eqb (get_or t i 0 % 32) 0 e))

  -- it is named again
  pub apart-twice : i < n → get_or t i 0 % 32 ≡ 0 → absent (get_or t i 0) (drop (i + 1) (take n t)) ≡ false → false ≡ tables_apart (drop i (take n t))
  unfolding tables_apart
  apart-twice l e a = sym (ap tables_apart (at_place l) ∙ simp (eq-eqb (get_or t i 0 % 32) 0 e, a))

  -- neither
  pub apart_next : i < n → get_or t i 0 % 32 ≡ 0 → absent (get_or t i 0) (drop (i + 1) (take n t)) ≡ true → tables_apart (drop (i + 1) (take n t)) ≡ tables_apart (drop i (take n t))
  unfolding tables_apart
  apart_next l e a = sym (ap tables_apart (at_place l) ∙ simp (eq-eqb (get_or t i 0 % 32) 0 e, a))
