-- The table once a packet took the free entry of lowest index, as parts of the lent one (document 01, "Calls and their sector writes"; 02, slip 1).
-- Assumes nothing.
use Prim.Native.Nat.{ℕ, zero, suc, ◌+◌, ◌-◌, ◌*◌, ◌≤◌, ◌<◌}
use mathlib.Core.Path.{◌≡◌, refl, sym, ap, ap₂, ◌∙◌}
use mathlib.Core.List.{List, [], ◌∷◌, ◌++◌, append_assoc, append-nil}
use mathlib.Core.Logic.{◌≢◌}
use mathlib.Core.Bool.{Bool, true, false, cond, true≢false}
use native.Mathlib.Omega.{arith}
use native.Mathlib.Nat.{zero-add}
use borrow.Author.Tests.{lt-ltb, le-ltb, eqb-true, ne_eqb}
use lib.Dec.{eqb, ltb}
use lib.ListN.{length, get_or, take, drop, length-append, length-drop}
use lib.Seq.{take-nil, take_at, drop_at, take-take, take_all, drop-drop, length-take-le}
use Rattle.fields.specs.Bytes.{part}
use Rattle.fields.proofs.Laws.{part-take, length_part}
use Rattle.model.specs.Vat.{none}
use Rattle.model.specs.Sparing.{Entry, entries, flat, is_free, defective, is_defective, is_used, used_of, defective_of, free_of, ascending, mapped_to, in_place, spot_of, inserted, first_free, rest, without, turned_defective, resorted}
use Rattle.model.specs.Rewrite.{no_entry}
use Rattle.model.proofs.SparingLaws.{free-means, defective-means, used-means, Each, Above, Rising, rising, each-used, each-defective, each_free, spot-used, turned-own, turned_none, resorted-parts}
use Rattle.model.proofs.Basics.{by-lt}
use Rattle.model.proofs.SparingEntries.{spot-none}
use Rattle.sparing_copy.proofs.Entries.{entries-drop}
use Rattle.sparing_table.specs.Table.{lent_entry, has, above, place_where}
use Rattle.sparing_written.specs.Written.{spared_numbers, respared_numbers, Ordered}
use Rattle.sparing_table.proofs.Table.{lent-step, lent-end, lent_length, place_most, spot-found, spot-missing, free-found, free-at}
use Rattle.sparing_written.proofs.Written.{flat_append, length-spared, length-respared}

-- ---- places

-- where a test fails on each of some entries, its place is behind them
place-behind : (f k : Entry → Bool) (a b : List Entry) → Each k a → ((e : Entry) → k e ≡ true → f e ≡ false) → place_where f (a ++ b) ≡ length a + place_where f b
unfolding place_where
place-behind f k [] b h n = sym (zero-add (place_where f b))
place-behind f k (e ∷ a) b h n = rw (n e h.0) (omega (arith, place-behind f k a b h.1 n))

-- the first of the free ones is free
place-free : (l : List Entry) → Each is_free l → place_where (has none) l ≡ 0
unfolding place_where is_free
place-free [] h = refl
place-free (e ∷ l) h = rw h.0

-- an entry above every packet changes no place before it
place-above : (p : ℕ) (a : List Entry) (f : Entry) (r : List Entry) → p < f.original → place_where (above p) (a ++ (f ∷ r)) ≡ place_where (above p) a
unfolding place_where
place-above p [] f r h = rw (lt-ltb p f.original h)
place-above p (e ∷ a) f r h = ap (λ (n : ℕ). cond (ltb p e.original) 0 (suc n)) (place-above p a f r h)

-- an entry in its place
inserted-parts : (x : Entry) (a : List Entry) → inserted x a ≡ take (place_where (above x.original) a) a ++ (x ∷ drop (place_where (above x.original) a) a)
unfolding inserted place_where
inserted-parts x [] = refl
inserted-parts x (e ∷ a) = go (ltb x.original e.original) (inserted-parts x a)
  where
    go : (b : Bool) → inserted x a ≡ take (place_where (above x.original) a) a ++ (x ∷ drop (place_where (above x.original) a) a) → cond b (x ∷ e ∷ a) (e ∷ inserted x a) ≡ take (cond b 0 (suc (place_where (above x.original) a))) (e ∷ a) ++ (x ∷ drop (cond b 0 (suc (place_where (above x.original) a))) (e ∷ a))
    go true h = refl
    go false h = ap (λ (l : List Entry). e ∷ l) h

drop-take : (k u : ℕ) (l : List Entry) → drop k (take u l) ≡ take (u - k) (drop k l)
drop-take zero u l =
    let e : u ≡ u - 0 = omega arith in
    ap (λ (n : ℕ). take n l) e
drop-take (suc k) zero l =
    let e : 0 ≡ 0 - suc k = omega arith in
    ap (λ (n : ℕ). take n (drop (suc k) l)) e
drop-take (suc k) (suc u) [] = sym (take-nil (suc u - suc k))
drop-take (suc k) (suc u) (x ∷ l) =
    let e : u - k ≡ suc u - suc k = omega arith in
    drop-take k u l ∙ ap (λ (n : ℕ). take n (drop k l)) e

-- a part of the first of two lists
take-front : (k : ℕ) (a b : List Entry) → k ≤ length a → take k (a ++ b) ≡ take k a
take-front zero a b h = refl
take-front (suc k) [] b h = absurd (omega arith)
take-front (suc k) (e ∷ a) b h = ap (λ (l : List Entry). e ∷ l) (take-front k a b (omega arith))

drop-front : (k : ℕ) (a b : List Entry) → k ≤ length a → drop k (a ++ b) ≡ drop k a ++ b
drop-front zero a b h = refl
drop-front (suc k) [] b h = absurd (omega arith)
drop-front (suc k) (e ∷ a) b h = drop-front k a b (omega arith)

rest-drop : (l : List Entry) → rest l ≡ drop 1 l
unfolding rest
rest-drop [] = refl
rest-drop (e ∷ l) = refl

-- where there is one
some-long : (l : List Entry) → no_entry l ≡ false → 1 ≤ length l
unfolding no_entry
some-long [] h = absurd (true≢false h)
some-long (f ∷ r) h = omega arith

-- ---- the packet's own entry

-- where a packet has none, none goes
without-none : (p : ℕ) (u : List Entry) → spot_of u p ≡ in_place → without p u ≡ u
unfolding without
without-none p [] q = refl
without-none p (e ∷ u) q =
    let k = spot-none e u p q in
    rw (ne_eqb e.original p k.0) (ap (λ (l : List Entry). e ∷ l) (without-none p u k.1))

without-above : (p n : ℕ) (u : List Entry) → p ≤ n → Above n u → without p u ≡ u
unfolding without
without-above p n [] l h = refl
without-above p n (e ∷ u) l h = rw (ne_eqb e.original p (omega (arith, h.0))) (ap (λ (l : List Entry). e ∷ l) (without-above p n u l h.1))

inserted_above : (x : Entry) (u : List Entry) → Above x.original u → inserted x u ≡ x ∷ u
unfolding inserted
inserted_above x [] h = refl
inserted_above x (e ∷ u) h = rw (lt-ltb x.original e.original h.0)

above_place : (p n : ℕ) (u : List Entry) (x : Entry) (r : List Entry) → Above n u → drop (place_where (has p) u) u ≡ x ∷ r → n < p
unfolding place_where
above_place p n [] x r h q = let z : ◌≡◌ {A = ℕ} 0 1 = cc in absurd (omega arith)
above_place p n (e ∷ u) x r h q = go (eqb e.original p) refl q (above_place p n u x r h.1)
  where
    go : (b : Bool) → eqb e.original p ≡ b → drop (cond b 0 (suc (place_where (has p) u))) (e ∷ u) ≡ x ∷ r → (drop (place_where (has p) u) u ≡ x ∷ r → n < p) → n < p
    go true w k f = omega (arith, eqb-true e.original p w, h.0)
    go false w k f = f k

-- its entry gives place to the new one
swapped : (y : Entry) (u : List Entry) (x : Entry) (r : List Entry) → Rising u → drop (place_where (has y.original) u) u ≡ x ∷ r
    → inserted y (without y.original u) ≡ take (place_where (has y.original) u) u ++ (y ∷ r)
unfolding without place_where inserted
swapped y [] x r h q = let z : ◌≡◌ {A = ℕ} 0 1 = cc in absurd (omega arith)
swapped y (e ∷ u) x r h q = go (eqb e.original y.original) refl q (swapped y u x r h.1)
  where
    p : ℕ
    p = y.original

    go : (b : Bool) → eqb e.original y.original ≡ b → drop (cond b 0 (suc (place_where (has y.original) u))) (e ∷ u) ≡ x ∷ r
        → (drop (place_where (has y.original) u) u ≡ x ∷ r → inserted y (without y.original u) ≡ take (place_where (has y.original) u) u ++ (y ∷ r))
        → inserted y (cond b (without y.original u) (e ∷ without y.original u)) ≡ take (cond b 0 (suc (place_where (has y.original) u))) (e ∷ u) ++ (y ∷ r)
    go true w k f =
        let o : e.original ≡ y.original = eqb-true e.original y.original w in
        let same : u ≡ r = cc in
        ap (inserted y) (without-above y.original e.original u (omega arith) h.0)
        ∙ inserted_above y u (rw o at h.0)
        ∙ ap (λ (l : List Entry). y ∷ l) same
    go false w k f =
        rw (le-ltb y.original e.original (omega (arith, above_place y.original e.original u x r h.0 k)))
        (ap (λ (l : List Entry). e ∷ l) (f k))

-- the entry of a packet stands among those in which it is found
spot-place : (u r : List Entry) (p m : ℕ) → spot_of u p ≡ mapped_to m → (place_where (has p) (u ++ r) ≡ place_where (has p) u) × (place_where (has p) u < length u)
unfolding place_where spot_of
spot-place [] r p m q = let z : ◌≡◌ {A = ℕ} 0 1 = cc in absurd (omega arith)
spot-place (e ∷ u) r p m q = go (eqb e.original p) q (spot-place u r p m)
  where
    go : (b : Bool) → cond b (mapped_to e.mapped) (spot_of u p) ≡ mapped_to m → (spot_of u p ≡ mapped_to m → (place_where (has p) (u ++ r) ≡ place_where (has p) u) × (place_where (has p) u < length u))
        → (cond b 0 (suc (place_where (has p) (u ++ r))) ≡ cond b 0 (suc (place_where (has p) u))) × (cond b 0 (suc (place_where (has p) u)) < suc (length u))
    go true k f = (refl, omega arith)
    go false k f = let w = f k in (ap suc w.0, omega (arith, w.1))

drop-step : (k : ℕ) (l : List Entry) → k < length l → (y : Entry) × (drop k l ≡ y ∷ drop (k + 1) l)
drop-step k [] h = absurd (omega arith)
drop-step zero (e ∷ l) h = (e, refl)
drop-step (suc k) (e ∷ l) h =
    let w = drop-step k l (omega arith) in
    let n : suc k + 1 ≡ suc (k + 1) = omega arith in
    (w.0, w.1 ∙ ap (λ (j : ℕ). w.0 ∷ drop j (e ∷ l)) (sym n))

-- ---- the resorted entries

-- u is the place of the first free one
module _ (es : List Entry) (u : ℕ) (o : Ordered es) (free : u ≡ place_where (has none) es) where
  -- those before it, used and defective
  abbrev held : List Entry
  held = used_of es ++ defective_of es

  split : es ≡ held ++ free_of es
  split = o.whole ∙ sym (append_assoc (used_of es) (defective_of es) (free_of es))

  used-there : (e : Entry) → is_used e ≡ true → has none e ≡ false
  used-there e h = ne_eqb e.original none (used-means e h).0

  defective-there : (e : Entry) → is_defective e ≡ true → has none e ≡ false
  unfolding none defective
  defective-there e h = ne_eqb e.original none (omega (arith, defective-means e h))

  -- the first free entry stands behind them
  free-place : u ≡ length held
  free-place =
      let a = place-behind (has none) is_used (used_of es) (defective_of es ++ free_of es) (each-used es) used-there in
      let b = place-behind (has none) is_defective (defective_of es) (free_of es) (each-defective es) defective-there in
      free ∙ ap (place_where (has none)) o.whole
      ∙ omega (arith, a, b, place-free (free_of es) (each_free es), length-append (used_of es) (defective_of es))

  held-is : take u es ≡ held
  held-is = ap (take u) split ∙ take_at held (free_of es) u (sym free-place)

  free-is : drop u es ≡ free_of es
  free-is = ap (drop u) split ∙ drop_at held (free_of es) u (sym free-place)

  rest-is : rest (free_of es) ≡ drop (u + 1) es
  rest-is = ap rest (sym free-is) ∙ rest-drop (drop u es) ∙ drop-drop 1 u es

  -- it is one of the entries
  pub free-within : u < length es
  free-within = omega (arith, free-place, ap (λ (l : List Entry). length l) split, length-append held (free_of es), some-long (free_of es) o.some)

  used-rise : Rising (used_of es)
  used-rise = rising (used_of es) (defective_of es ++ free_of es) (each-used es) (ap ascending (sym o.whole) ∙ o.rises)

  -- a part of the used ones, and the defective ones, as a part of the entries
  front-part : (k : ℕ) → k ≤ length (used_of es) → take k (used_of es) ≡ take k es
  front-part k h = sym (ap (take k) o.whole ∙ take-front k (used_of es) (defective_of es ++ free_of es) h)

  back-part : (k : ℕ) → k ≤ length (used_of es) → drop k (used_of es) ++ defective_of es ≡ take (u - k) (drop k es)
  back-part k h = sym (drop-front k (used_of es) (defective_of es) h) ∙ ap (drop k) (sym held-is) ∙ drop-take k u es

  module _ (p : ℕ) (low : p < 0xfffffff0) where
    not_none : p ≢ none
    unfolding none
    not_none = omega arith

    not-defective : p ≢ defective
    unfolding defective
    not-defective = omega arith

    abbrev own : Entry
    own = record { original = p; mapped = first_free (free_of es) }

    -- ---- a packet that has no entry; k is its place
    module _ (k : ℕ) (at : k ≡ place_where (above p) es) (missing : spot_of es p ≡ in_place) where
      first_above : (d f : List Entry) → Each is_defective d → Each is_free f → no_entry f ≡ false → place_where (above p) (used_of es ++ (d ++ f)) ≡ place_where (above p) (used_of es)
      unfolding none defective no_entry
      first_above [] [] hd hf s = absurd (true≢false s)
      first_above [] (x ∷ f) hd hf s = place-above p (used_of es) x f (omega (arith, free-means x hf.0))
      first_above (x ∷ d) f hd hf s = place-above p (used_of es) x (d ++ f) (omega (arith, defective-means x hd.0))

      above-is : k ≡ place_where (above p) (used_of es)
      above-is = at ∙ ap (place_where (above p)) o.whole ∙ first_above (defective_of es) (free_of es) (each-defective es) (each_free es) o.some

      among : k ≤ length (used_of es)
      among = omega (arith, above-is, place_most (above p) (used_of es))

      -- its place is not behind the first free one
      pub place-before : k ≤ u
      place-before = omega (arith, among, free-place, length-append (used_of es) (defective_of es))

      -- those before its place, its own, those up to the free one, and those behind that
      pub spared-parts : resorted es p ≡ take k es ++ (own ∷ (take (u - k) (drop k es) ++ drop (u + 1) es))
      spared-parts =
          let lacks : spot_of (used_of es) p ≡ in_place = sym (spot-used es p not_none not-defective) ∙ missing in
          let w : without p (used_of es) ≡ used_of es = without-none p (used_of es) lacks in
          let t : turned_defective p (used_of es) ≡ [] = turned_none p (used_of es) lacks in
          let n : inserted own (used_of es) ≡ take k (used_of es) ++ (own ∷ drop k (used_of es)) =
          inserted-parts own (used_of es) ∙ ap (λ (j : ℕ). take j (used_of es) ++ (own ∷ drop j (used_of es))) (sym above-is) in
          resorted-parts es p
          ∙ (λ i. inserted own (w i) ++ ((defective_of es ++ t i) ++ rest-is i))
          ∙ ap₂ (λ (a d : List Entry). a ++ (d ++ drop (u + 1) es)) n (append-nil (defective_of es))
          ∙ append_assoc (take k (used_of es)) (own ∷ drop k (used_of es)) (defective_of es ++ drop (u + 1) es)
          ∙ ap (λ (l : List Entry). take k (used_of es) ++ (own ∷ l)) (sym (append_assoc (drop k (used_of es)) (defective_of es) (drop (u + 1) es)))
          ∙ ap₂ (λ (a b : List Entry). a ++ (own ∷ (b ++ drop (u + 1) es))) (front-part k among) (back-part k among)

    -- ---- a packet that has the entry x, at place k
    module _ (k : ℕ) (x : Entry) (at : k ≡ place_where (has p) es) (found : drop k es ≡ x ∷ drop (k + 1) es) where
      -- its old spare
      abbrev old : Entry
      old = record { original = defective; mapped = x.mapped }

      spotted : spot_of (used_of es) p ≡ mapped_to x.mapped
      spotted =
          sym (spot-used es p not_none not-defective) ∙ spot-found es p x (drop (k + 1) es) (ap (λ (j : ℕ). drop j es) (sym at) ∙ found)

      -- its entry is a used one
      own-place : (k ≡ place_where (has p) (used_of es)) × (k < length (used_of es))
      own-place =
          let q = spot-place (used_of es) (defective_of es ++ free_of es) p x.mapped spotted in
          let e : k ≡ place_where (has p) (used_of es) = at ∙ ap (place_where (has p)) o.whole ∙ q.0 in
          (e, omega (arith, e, q.1))

      -- it is not behind the first free one
      pub own-before : k < u
      own-before = omega (arith, own-place.1, free-place, length-append (used_of es) (defective_of es))

      -- those before it, its own with the spare that was free, those up to the free one, its old spare, and those behind that
      pub respared-parts : resorted es p ≡ take k es ++ (own ∷ (take (u - (k + 1)) (drop (k + 1) es) ++ (old ∷ drop (u + 1) es)))
      respared-parts =
          let us : List Entry = used_of es in
          let ds : List Entry = defective_of es in
          let y = drop-step k us own-place.1 in
          let w : inserted own (without p us) ≡ take k us ++ (own ∷ drop (k + 1) us) =
          swapped own us y.0 (drop (k + 1) us) used-rise (ap (λ (j : ℕ). drop j us) (sym own-place.0) ∙ y.1)
          ∙ ap (λ (j : ℕ). take j us ++ (own ∷ drop (k + 1) us)) (sym own-place.0) in
          let t : turned_defective p us ≡ old ∷ [] = turned-own p x.mapped us used-rise spotted in
          let r : List Entry = drop (u + 1) es in
          resorted-parts es p
          ∙ (λ i. w i ++ ((ds ++ t i) ++ rest-is i))
          ∙ append_assoc (take k us) (own ∷ drop (k + 1) us) ((ds ++ (old ∷ [])) ++ r)
          ∙ ap (λ (l : List Entry). take k us ++ (own ∷ (drop (k + 1) us ++ l))) (append_assoc ds (old ∷ []) r)
          ∙ ap (λ (l : List Entry). take k us ++ (own ∷ l)) (sym (append_assoc (drop (k + 1) us) ds (old ∷ r)))
          ∙ ap₂ (λ (a b : List Entry). a ++ (own ∷ (b ++ (old ∷ r)))) (front-part k (omega (arith, own-place.1))) (back-part (k + 1) (omega (arith, own-place.1)))

-- ---- the numbers of a part of the entries

entries-take : (j : ℕ) (l : List ℕ) → take j (entries l) ≡ entries (take (2 * j) l)
unfolding entries
entries-take zero l = refl
entries-take (suc j) l =
    let e : 2 * suc j ≡ suc (suc (2 * j)) = omega arith in
    go l (entries-take j) ∙ ap (λ (k : ℕ). entries (take k l)) (sym e)
  where
    go : (l : List ℕ) → ((r : List ℕ) → take j (entries r) ≡ entries (take (2 * j) r)) → take (suc j) (entries l) ≡ entries (take (suc (suc (2 * j))) l)
    go [] f = refl
    go (o ∷ []) f = refl
    go (o ∷ m ∷ l) f = ap (λ (x : List Entry). record { original = o; mapped = m } ∷ x) (f l)

-- the numbers of the entries of an even list are the list
flat-entries : (j : ℕ) (l : List ℕ) → length l ≡ 2 * j → flat (entries l) ≡ l
unfolding entries flat
flat-entries zero [] h = refl
flat-entries zero (x ∷ l) h = absurd (omega arith)
flat-entries (suc j) [] h = absurd (omega arith)
flat-entries (suc j) (o ∷ []) h = absurd (omega arith)
flat-entries (suc j) (o ∷ m ∷ l) h = ap (λ (x : List ℕ). o ∷ m ∷ x) (flat-entries j l (omega arith))

flat-part : (l : List ℕ) (k j : ℕ) → 2 * k + 2 * j ≤ length l → flat (take j (drop k (entries l))) ≡ part l (2 * k) (2 * j)
unfolding part
flat-part l k j h =
    ap (λ (x : List Entry). flat (take j x)) (entries-drop k l)
    ∙ ap flat (entries-take j (drop (2 * k) l))
    ∙ flat-entries j (part l (2 * k) (2 * j)) (length_part l (2 * k) (2 * j) h)

-- ---- the numbers of the resorted entries

-- u is the place of the first free entry of the lent table
module _ (t : List ℕ) (n u : ℕ) (fits : 2 * n ≤ length t) (o : Ordered (entries (take (2 * n) t))) (free : u ≡ place_where (has none) (entries (take (2 * n) t))) where
  abbrev es : List Entry
  es = entries (take (2 * n) t)

  -- it is one of the entries
  pub spared-within : u < n
  spared-within = omega (arith, free-within es u o free, lent_length t n fits)

  taken_is : first_free (free_of es) ≡ get_or t (2 * u + 1) 0
  taken_is =
      sym (free-at (free_of es) (record { 0 = get_or t (2 * u + 1) 0 })
      (free-found es (lent_entry t u) (drop (u + 1) es) _ (rw (sym free) (lent-step t n u fits spared-within)) refl)).1

  -- the numbers of some of the entries
  first_part : (k : ℕ) → k ≤ n → flat (take k es) ≡ take (2 * k) t
  unfolding part
  first_part k h =
      flat-part (take (2 * n) t) 0 k (omega (arith, length-take-le (2 * n) t fits)) ∙ take-take (2 * k) (2 * n) t (omega arith)

  some-part : (k j : ℕ) → k + j ≤ n → flat (take j (drop k es)) ≡ part t (2 * k) (2 * j)
  some-part k j h =
      flat-part (take (2 * n) t) k j (omega (arith, length-take-le (2 * n) t fits)) ∙ part-take t (2 * n) (2 * k) (2 * j) (omega arith)

  last-part : flat (drop (u + 1) es) ≡ part t (2 * u + 2) (2 * (n - u - 1))
  last-part =
      let hu : u < n = spared-within in
      let e : 2 * (u + 1) ≡ 2 * u + 2 = omega arith in
      ap flat (sym (take_all (n - u - 1) (drop (u + 1) es) (omega (arith, length-drop (u + 1) es, lent_length t n fits))))
      ∙ some-part (u + 1) (n - u - 1) (omega arith)
      ∙ ap (λ (j : ℕ). part t j (2 * (n - u - 1))) e

  module _ (p : ℕ) (low : p < 0xfffffff0) where
    abbrev m : ℕ
    m = first_free (free_of es)

    -- ---- a packet that has no entry; k is its place
    module _ (k : ℕ) (at : k ≡ place_where (above p) es) (missing : drop (place_where (has p) es) es ≡ []) where
      -- its place is not behind the first free one
      pub spared-before : k ≤ u
      spared-before = place-before es u o free p low k at (spot-missing es p missing)

      -- the parts that are written are the resorted table
      pub spared-is : flat (resorted es p) ≡ spared_numbers t n p k u
      unfolding flat spared_numbers
      spared-is =
          let hk = spared-before in
          let hu = spared-within in
          ap flat (spared-parts es u o free p low k at (spot-missing es p missing))
          ∙ flat_append (take k es) (record { original = p; mapped = m } ∷ (take (u - k) (drop k es) ++ drop (u + 1) es))
          ∙ ap₂ (λ (x y : List ℕ). x ++ (p ∷ m ∷ y)) (first_part k (omega arith))
          (flat_append (take (u - k) (drop k es)) (drop (u + 1) es) ∙ ap₂ (λ (x y : List ℕ). x ++ y) (some-part k (u - k) (omega arith)) last-part)
          ∙ ap (λ (x : ℕ). take (2 * k) t ++ (p ∷ x ∷ (part t (2 * k) (2 * (u - k)) ++ part t (2 * u + 2) (2 * (n - u - 1))))) taken_is

    -- ---- a packet whose entry is at place k
    module _ (k : ℕ) (at : k ≡ place_where (has p) es) (there : k < n) where
      found : drop k es ≡ lent_entry t k ∷ drop (k + 1) es
      found = lent-step t n k fits there

      -- it is not behind the first free one
      pub respared-before : k < u
      respared-before = own-before es u o free p low k (lent_entry t k) at found

      -- the parts that are written are the resorted table
      pub respared-is : flat (resorted es p) ≡ respared_numbers t n p k u
      unfolding flat respared_numbers
      respared-is =
          let hk = respared-before in
          let hu = spared-within in
          let e : 2 * (k + 1) ≡ 2 * k + 2 = omega arith in
          let j : 2 * (u - (k + 1)) ≡ 2 * (u - k - 1) = omega arith in
          let old : ℕ = get_or t (2 * k + 1) 0 in
          ap flat (respared-parts es u o free p low k (lent_entry t k) at found)
          ∙ flat_append (take k es) (record { original = p; mapped = m } ∷ (take (u - (k + 1)) (drop (k + 1) es) ++ (record { original = defective; mapped = old } ∷ drop (u + 1) es)))
          ∙ ap₂ (λ (x y : List ℕ). x ++ (p ∷ m ∷ y)) (first_part k (omega arith))
          (flat_append (take (u - (k + 1)) (drop (k + 1) es)) (record { original = defective; mapped = old } ∷ drop (u + 1) es)
          ∙ ap₂ (λ (x y : List ℕ). x ++ (defective ∷ old ∷ y)) (some-part (k + 1) (u - (k + 1)) (omega arith) ∙ ap₂ (part t) e j) last-part)
          ∙ ap (λ (x : ℕ). take (2 * k) t ++ (p ∷ x ∷ (part t (2 * k + 2) (2 * (u - k - 1)) ++ (defective ∷ old ∷ part t (2 * u + 2) (2 * (n - u - 1)))))) taken_is

    -- either way there are as many as before
    pub length-resorted : length (flat (resorted es p)) ≡ 2 * n
    length-resorted =
        let k : ℕ = place_where (has p) es in
        by-lt k n
        (λ there.
        ap (λ (l : List ℕ). length l) (respared-is k refl there)
        ∙ length-respared t n p k u spared-within fits (respared-before k refl there))
        (λ past.
        let missing = lent-end t n k fits past in
        let a : ℕ = place_where (above p) es in
        ap (λ (l : List ℕ). length l) (spared-is a refl missing)
        ∙ length-spared t n p a u spared-within fits (spared-before a refl missing))
