-- Laws of extents: runs of recorded sectors, the extents of an ICB from one of them on, and all of them tested one after the other. Assumes
-- nothing.
use Prim.Native.Nat.{ℕ, zero, suc, ◌+◌, ◌-◌, ◌*◌, ◌/◌, ◌%◌, ◌^◌, ◌≤◌, ◌<◌}
use mathlib.Core.Path.{◌≡◌, refl, sym, ap, ap₂, ◌∙◌}
use mathlib.Core.Bool.{Bool, true, false, ◌&&◌, and_assoc, and-true, and-false}
use mathlib.Core.List.{List, [], ◌∷◌}
use native.Mathlib.Omega.{arith}
use lib.Dec.{eqb, leb, ltb}
use lib.ListN.{length, take, drop}
use borrow.Author.Tests.{eq-eqb, ne_eqb, ltb-true}
use Rattle.fields.specs.Bytes.{part}
use Rattle.fields.specs.Number.{field}
use Rattle.fields.proofs.Laws.{field-part, field-take, field-drop}
use Rattle.model.specs.Disc.{Disc, recorded_run}
use Rattle.model.specs.Vat.{Extent, form, file_length, attributes, allocation, entry_fits, allocation_fits, extents, pairs, up_to_zero, blocks_in, sizes_fit, sizes, blocks_fit}
use Rattle.model.proofs.Basics.{by_bool, and-true as both_true}
use Rattle.vat_icb.proofs.Entry.{entry_ends}
use Rattle.vat_icb.specs.declared.Extents.{Extents}
use Rattle.vat_icb.specs.Extents.{extent_fits, extents_fit, extents_left}

-- a run from the sector that a translation gave
pub run_there : (d : Disc) (n : ℕ) {q p : ℕ} {x : Bool} → q ≡ p → x ≡ recorded_run d q n → x ≡ recorded_run d p n
run_there d n at e = e ∙ ap (λ (p : ℕ). recorded_run d p n) at

-- ---- the extents of a row of pairs

-- two rows with the same first pair and the same others
pair-same : {x y u v : ℕ} {l m : List Extent} → x ≡ y → u ≡ v → l ≡ m → ◌≡◌ {A = List Extent} (record { size = x; block = u } ∷ l) (record { size = y; block = v } ∷ m)
pair-same p q r = cc

-- those of a part of a row
pairs-inside : (b : List ℕ) (at w from n : ℕ) → from + 8 * n ≤ w → pairs (part b at w) from n ≡ pairs b (at + from) n
unfolding pairs
pairs-inside b at w from zero h = refl
pairs-inside b at w from (suc n) h =
    let next : at + (from + 4) ≡ at + from + 4 = omega arith in
    let others : at + (from + 8) ≡ at + from + 8 = omega arith in
    pair-same (field-part b at w from 4 (omega arith))
    (field-part b at w (from + 4) 4 (omega arith) ∙ ap (λ (k : ℕ). field b k 4) next)
    (pairs-inside b at w (from + 8) n (omega arith) ∙ ap (λ (k : ℕ). pairs b k n) others)

-- those behind the first pair
pairs-behind : (b : List ℕ) (at n : ℕ) → pairs b (8 + at) n ≡ pairs (drop 8 b) at n
unfolding pairs
pairs-behind b at zero = refl
pairs-behind b at (suc n) =
    let next : 8 + at + 4 ≡ 8 + (at + 4) = omega arith in
    let others : 8 + at + 8 ≡ 8 + (at + 8) = omega arith in
    pair-same (sym (field-drop b 8 at 4))
    (ap (λ (k : ℕ). field b k 4) next ∙ sym (field-drop b 8 (at + 4) 4))
    (ap (λ (k : ℕ). pairs b k n) others ∙ pairs-behind b (at + 8) n)

-- there are no more of them than pairs
few : (b : List ℕ) (at n : ℕ) → length (up_to_zero (pairs b at n)) ≤ n
unfolding pairs up_to_zero
few b at zero = omega arith
few b at (suc n) =
    let h = few b (at + 8) n in
    by_bool (eqb (field b at 4) 0)
    (λ z. rw z (omega arith))
    (λ z. rw z (omega arith))

-- ---- what is left of a row e, whose first pair is p

module _ (e : Extents) where
  -- no pair is left
  pub left_none : length e.pairs.now < 8 → extents_left e ≡ []
  unfolding extents_left pairs up_to_zero
  left_none h = let n : length e.pairs.now / 8 ≡ 0 = omega arith in rw n

  module _ (p : List ℕ) (at : p ≡ take 8 e.pairs.now) (h : 8 ≤ length e.pairs.now) (size : ℕ) (q : size ≡ field p 0 4) where
    -- its length stands first in the row
    first-size : field e.pairs.now 0 4 ≡ size
    first-size = sym (field-take e.pairs.now 8 0 4 (omega arith)) ∙ sym (q ∙ ap (λ (b : List ℕ). field b 0 4) at)

    -- a zero length ends the list
    pub left_zero : size ≡ 0 → extents_left e ≡ []
    unfolding extents_left pairs up_to_zero
    left_zero z =
        let n : length e.pairs.now / 8 ≡ suc (length e.pairs.now / 8 - 1) = omega arith in
        rw (n, first-size, eq-eqb _ _ z)

    -- any other is that of the next extent
    pub left_next : (size ≡ 0 → ⊥) → (block : ℕ) (o : Extents) → block ≡ field p 4 4 → o.pairs.now ≡ drop 8 e.pairs.now → length o.pairs.now + 8 ≡ length e.pairs.now → extents_left e ≡ record { size = size; block = block } ∷ extents_left o
    unfolding extents_left pairs up_to_zero
    left_next z block o r d l =
        let n : length e.pairs.now / 8 ≡ suc (length o.pairs.now / 8) = omega arith in
        let second : field e.pairs.now (0 + 4) 4 ≡ block = sym (field-take e.pairs.now 8 4 4 (omega arith)) ∙ sym (r ∙ ap (λ (b : List ℕ). field b 4 4) at) in
        let others = pairs-behind e.pairs.now 0 (length o.pairs.now / 8) ∙ ap (λ (b : List ℕ). pairs b 0 (length o.pairs.now / 8)) (sym d) in
        rw (n, first-size, second, ne_eqb _ _ z) (ap (λ (l : List Extent). record { size = size; block = block } ∷ up_to_zero l) others)

-- the row of an ICB
pub left_all : (b : List ℕ) (e : Extents) → e.pairs.now ≡ part b (176 + attributes b) (allocation b) → length e.pairs.now ≡ allocation b → extents_left e ≡ extents b
unfolding extents_left extents
left_all b e h n =
    let at : 176 + attributes b + 0 ≡ 176 + attributes b = omega arith in
    ap up_to_zero
    (ap₂ (λ (r : List ℕ) (m : ℕ). pairs r 0 (m / 8)) h n
    ∙ pairs-inside b (176 + attributes b) (allocation b) 0 (allocation b / 8) (omega arith)
    ∙ ap (λ (k : ℕ). pairs b k (allocation b / 8)) at)

-- there are fewer than 256 of them
pub extents_few : (b : List ℕ) → entry_fits b ≡ true → length (extents b) < 256
unfolding extents
extents_few b h = omega (arith, few b (176 + attributes b) (allocation b / 8), entry_ends b h)

-- ---- extents tested one after the other

-- the tests of two extents in the order of document 01
shuffle : (a l r m f e b : Bool) → (a && (l && r)) && (m && (f && (e && b))) ≡ (a && (m && f)) && (e && (l && (r && b)))
shuffle true true true m f e b = sym (and_assoc m f (e && b))
shuffle true true false m f e b = sym (ap (λ (x : Bool). m && f && x) (and-false e) ∙ and-false (m && f))
shuffle true false r m f e b = sym (ap (λ (x : Bool). m && f && x) (and-false e) ∙ and-false (m && f))
shuffle false l r m f e b = refl

-- and of one
shuffle-one : (a l r e : Bool) → (a && (l && r)) && e ≡ a && (e && (l && (r && true)))
shuffle-one true true true e = sym (and-true e)
shuffle-one true true false e = sym (and-false e)
shuffle-one true false r e = sym (and-false e)
shuffle-one false l r e = refl

module _ (d : Disc) (s k f : ℕ) where
  -- an extent and those after it, by what document 01 says of all of them
  some_fit : (x : Extent) (l : List Extent) (whole : Bool) (sum : ℕ) → extents_fit d s k f whole sum (x ∷ l) ≡ whole && (sizes_fit (x ∷ l) && (eqb (sum + sizes (x ∷ l)) f && blocks_fit d s k (x ∷ l)))
  unfolding extents_fit extent_fits sizes_fit sizes blocks_fit
  some_fit x [] whole sum =
      let e : sum + x.size ≡ sum + (x.size + 0) = omega arith in
      ap (λ (y : Bool). whole && y)
      (shuffle-one (ltb x.size (2 ^ 30)) (leb (x.block + blocks_in x.size) k) (recorded_run d (s + x.block) (blocks_in x.size)) _
      ∙ ap (λ (n : ℕ). ltb x.size (2 ^ 30) && (eqb n f && (leb (x.block + blocks_in x.size) k && (recorded_run d (s + x.block) (blocks_in x.size) && true)))) e)
  some_fit x (y ∷ l) whole sum =
      let e : sum + x.size + sizes (y ∷ l) ≡ sum + (x.size + sizes (y ∷ l)) = omega arith in
      let a = ltb x.size (2 ^ 30) in
      let m = eqb (x.size % 2048) 0 in
      let below = leb (x.block + blocks_in x.size) k in
      let run = recorded_run d (s + x.block) (blocks_in x.size) in
      ap (λ (z : Bool). whole && z)
      (ap (λ (z : Bool). (a && (below && run)) && z) (some_fit y l m (sum + x.size))
      ∙ shuffle a below run m (sizes_fit (y ∷ l)) (eqb (sum + x.size + sizes (y ∷ l)) f) (blocks_fit d s k (y ∷ l))
      ∙ ap (λ (n : ℕ). (a && (m && sizes_fit (y ∷ l))) && (eqb n f && (below && (run && blocks_fit d s k (y ∷ l))))) e)

  -- all of them
  pub extents_fit_all : (l : List Extent) → extents_fit d s k f true 0 l ≡ sizes_fit l && (eqb (sizes l) f && blocks_fit d s k l)
  unfolding extents_fit sizes_fit sizes blocks_fit
  extents_fit_all [] = sym (and-true (eqb 0 f))
  extents_fit_all (x ∷ l) =
      let e : 0 + sizes (x ∷ l) ≡ sizes (x ∷ l) = omega arith in
      some_fit x l true 0 ∙ ap (λ (n : ℕ). sizes_fit (x ∷ l) && (eqb n f && blocks_fit d s k (x ∷ l))) e

-- an extent that fits is shorter than 2 ^ 30 bytes
pub fits_short : (d : Disc) (s k size block : ℕ) → extent_fits d s k size block ≡ true → size < 2 ^ 30
unfolding extent_fits
fits_short d s k size block h = ltb-true _ _ (both_true (ltb size (2 ^ 30)) _ h).0

-- ---- a loop over the extents: what is left answers for the whole

module _ (d : Disc) (s k f : ℕ) (whole : Bool) (sum : ℕ) (l : List Extent) where
  -- no extent is left
  pub none_left : l ≡ [] → eqb sum f ≡ extents_fit d s k f whole sum l
  unfolding extents_fit
  none_left e = sym (rw e)

  module _ (x : Extent) (m : List Extent) (e : l ≡ x ∷ m) where
    -- one is left behind the last
    pub too_many : whole ≡ false → false ≡ extents_fit d s k f whole sum l
    unfolding extents_fit
    too_many w = sym (rw (e, w))

    -- the next does not fit
    pub next_unfit : extent_fits d s k x.size x.block ≡ false → false ≡ extents_fit d s k f whole sum l
    unfolding extents_fit
    next_unfit u = sym (rw (e, u) (and-false whole))

    -- the next fits
    pub next_fits : extent_fits d s k x.size x.block ≡ true → whole ≡ true → extents_fit d s k f (eqb (x.size % 2048) 0) (sum + x.size) m ≡ extents_fit d s k f whole sum l
    unfolding extents_fit
    next_fits u w = sym (rw (e, w, u))

-- ---- an allocation by extents

pub allocation_extents : (d : Disc) (s k : ℕ) (b : List ℕ) → (form b ≡ 3 → ⊥) → allocation b % 8 ≡ 0 → extents_fit d s k (file_length b) true 0 (extents b) ≡ allocation_fits d s k b
unfolding allocation_fits
allocation_extents d s k b e o = rw (ne_eqb _ _ e, eq-eqb _ _ o) (extents_fit_all d s k (file_length b) (extents b))
