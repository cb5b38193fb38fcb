-- The table once a packet, spared before or not, took the free entry of lowest index: it fits, that packet is found there, every other one
-- where it was, and its old spare is the last of the defective ones. Assumes nothing.
use Prim.Native.Nat.{ℕ, suc, ◌+◌, ◌%◌, ◌≤◌, ◌<◌}
use mathlib.Core.Bool.{Bool, true, false, cond, not, ◌&&◌, ◌||◌, and_assoc, true≢false}
use mathlib.Core.Logic.{◌≢◌, inl, inr, ⊎_elim}
use mathlib.Core.Path.{◌≡◌, refl, sym, ap, ap₂, ◌∙◌, subst}
use mathlib.Core.List.{List, [], ◌∷◌, ◌++◌, append_assoc}
use native.Mathlib.Omega.{arith}
use lib.Dec.{ltb, eqb}
use lib.ListN.{length, length-append}
use borrow.Author.Tests.{ltb-true, ltb-false, eqb-true, eqb-false, ne_eqb, eq-eqb}
use Rattle.maps.specs.Kinds.{absent}
use Rattle.model.specs.Vat.{none}
use Rattle.model.specs.Sparing.{Geometry, Entry, is_free, defective, is_defective, is_used, used_of, defective_of, free_of, original_fits, originals_fit, may_follow, ascending, apart_from, whole_packet, mapped_of, mapped_fit, original_clear, originals_clear, entries_fit, mapped_to, in_place, spot_of, inserted, first_free, rest, without, turned_defective, retired, free_taken, resorted}
use Rattle.model.specs.Rewrite.{no_entry}
use Rattle.model.proofs.Basics.{and-true, both, and-swap, or_right, by-eq, cond-elim}
use Rattle.model.proofs.SparingLists.{In, absent-not-in}
use Rattle.model.proofs.SparingEntries.{fits-size, fits-originals, fits-ascending, fits-mapped, fits-clear, fits_all, three-parts, none-original, defective-original, packet-original, multiple-none, multiple-defective, entry-cases, free-means, defective-means, used-means, free-tests, defective-tests, used-tests, used-follows, follows-lower, follows-free, follows-defective, ascending-first, ascending-rest, originals-first, spot-here, spot-next, spot-none, mapped-first, mapped-cons}

-- ---- lists of one kind

-- a test holds of each entry
abbrev pub Each : (Entry → Bool) → List Entry → Type 0
Each f [] = Unit {0}
Each f (e ∷ l) = (f e ≡ true) × Each f l

each_append : (f : Entry → Bool) (a b : List Entry) → Each f a → Each f b → Each f (a ++ b)
each_append f [] b h k = k
each_append f (e ∷ a) b h k = (h.0, each_append f a b h.1 k)

-- what passes one test passes another
each-so : (f h : Entry → Bool) (l : List Entry) → ((e : Entry) → f e ≡ true → h e ≡ true) → Each f l → Each h l
each-so f h [] k u = tt
each-so f h (e ∷ l) k u = (k e u.0, each-so f h l k u.1)

-- the used ones are among all
each-among : (f : Entry → Bool) (es : List Entry) → Each f es → Each f (used_of es)
unfolding used_of
each-among f [] h = tt
each-among f (e ∷ l) h =
    cond-elim (λ (z : List Entry). Each f z) (is_used e) (λ _. (h.0, each-among f l h.1)) (λ _. each-among f l h.1)

-- the used ones are used
pub each-used : (es : List Entry) → Each is_used (used_of es)
unfolding used_of
each-used [] = tt
each-used (e ∷ l) = cond-elim (λ (z : List Entry). Each is_used z) (is_used e) (λ h. (h, each-used l)) (λ _. each-used l)

-- the defective ones
pub each-defective : (es : List Entry) → Each is_defective (defective_of es)
unfolding defective_of
each-defective [] = tt
each-defective (e ∷ l) = cond-elim (λ (z : List Entry). Each is_defective z) (is_defective e) (λ h. (h, each-defective l)) (λ _. each-defective l)

-- and the free ones
pub each_free : (es : List Entry) → Each is_free (free_of es)
unfolding free_of
each_free [] = tt
each_free (e ∷ l) = cond-elim (λ (z : List Entry). Each is_free z) (is_free e) (λ h. (h, each_free l)) (λ _. each_free l)

each-rest : (f : Entry → Bool) (l : List Entry) → Each f l → Each f (rest l)
unfolding rest
each-rest f [] h = tt
each-rest f (e ∷ l) h = h.1

each-without : (f : Entry → Bool) (p : ℕ) (u : List Entry) → Each f u → Each f (without p u)
unfolding without
each-without f p [] h = tt
each-without f p (e ∷ u) h =
    cond-elim (λ (z : List Entry). Each f z) (eqb e.original p) (λ _. each-without f p u h.1) (λ _. (h.0, each-without f p u h.1))

each-turned : (p : ℕ) (u : List Entry) → Each is_defective (turned_defective p u)
unfolding turned_defective is_defective
each-turned p [] = tt
each-turned p (e ∷ u) =
    cond-elim (λ (z : List Entry). Each is_defective z) (eqb e.original p) (λ _. (eq-eqb defective defective refl, each-turned p u)) (λ _. each-turned p u)

each-inserted : (f : Entry → Bool) (x : Entry) (u : List Entry) → f x ≡ true → Each f u → Each f (inserted x u)
unfolding inserted
each-inserted f x [] k h = (k, tt)
each-inserted f x (e ∷ u) k h =
    cond-elim (λ (z : List Entry). Each f z) (ltb x.original e.original) (λ _. (k, h)) (λ _. (h.0, each-inserted f x u k h.1))

-- ---- the parts of a table

-- entries put together, used ones first, then defective and then free ones: none of the free is used
used-free : (f : List Entry) → Each is_free f → used_of f ≡ []
unfolding used_of
used-free [] h = refl
used-free (e ∷ f) h = rw (free-tests e (free-means e h.0)).2 (used-free f h.1)

used-defective : (d f : List Entry) → Each is_defective d → Each is_free f → used_of (d ++ f) ≡ []
unfolding used_of
used-defective [] f h k = used-free f k
used-defective (e ∷ d) f h k = rw (defective-tests e (defective-means e h.0)).2 (used-defective d f h.1 k)

-- has these used ones
pub used-parts : (u d f : List Entry) → Each is_used u → Each is_defective d → Each is_free f → used_of (u ++ (d ++ f)) ≡ u
unfolding used_of
used-parts [] d f hu hd hf = used-defective d f hd hf
used-parts (e ∷ u) d f hu hd hf = rw hu.0 (ap (λ (l : List Entry). e ∷ l) (used-parts u d f hu.1 hd hf))

defective-free : (f : List Entry) → Each is_free f → defective_of f ≡ []
unfolding defective_of
defective-free [] h = refl
defective-free (e ∷ f) h = rw (free-tests e (free-means e h.0)).1 (defective-free f h.1)

defective-defective : (d f : List Entry) → Each is_defective d → Each is_free f → defective_of (d ++ f) ≡ d
unfolding defective_of
defective-defective [] f h k = defective-free f k
defective-defective (e ∷ d) f h k = rw h.0 (ap (λ (l : List Entry). e ∷ l) (defective-defective d f h.1 k))

-- these defective ones
pub defective-parts : (u d f : List Entry) → Each is_used u → Each is_defective d → Each is_free f → defective_of (u ++ (d ++ f)) ≡ d
unfolding defective_of
defective-parts [] d f hu hd hf = defective-defective d f hd hf
defective-parts (e ∷ u) d f hu hd hf =
    let k = used-means e hu.0 in
    rw (used-tests e k.0 k.1).1 (defective-parts u d f hu.1 hd hf)

free-free : (f : List Entry) → Each is_free f → free_of f ≡ f
unfolding free_of
free-free [] h = refl
free-free (e ∷ f) h = rw h.0 (ap (λ (l : List Entry). e ∷ l) (free-free f h.1))

free-defective : (d f : List Entry) → Each is_defective d → Each is_free f → free_of (d ++ f) ≡ f
unfolding free_of
free-defective [] f h k = free-free f k
free-defective (e ∷ d) f h k = rw (defective-tests e (defective-means e h.0)).0 (free-defective d f h.1 k)

-- and these free ones
pub free-parts : (u d f : List Entry) → Each is_used u → Each is_defective d → Each is_free f → free_of (u ++ (d ++ f)) ≡ f
unfolding free_of
free-parts [] d f hu hd hf = free-defective d f hd hf
free-parts (e ∷ u) d f hu hd hf =
    let k = used-means e hu.0 in
    rw (used-tests e k.0 k.1).0 (free-parts u d f hu.1 hd hf)

-- the table once p has no entry, and then once it took the first free one, from the parts of the table before
module _ (es : List Entry) (p : ℕ) where
  -- the used entries of other packets, and the defective ones with that of p
  abbrev others : List Entry
  others = without p (used_of es)

  abbrev marked : List Entry
  marked = defective_of es ++ turned_defective p (used_of es)

  abbrev own : Entry
  own = record { original = p; mapped = first_free (free_of es) }

  others-used : Each is_used others
  others-used = each-without is_used p (used_of es) (each-used es)

  marked-defective : Each is_defective marked
  marked-defective = each_append is_defective (defective_of es) (turned_defective p (used_of es)) (each-defective es) (each-turned p (used_of es))

  retired-parts : retired es p ≡ others ++ (marked ++ free_of es)
  unfolding retired
  retired-parts = ap (λ (l : List Entry). others ++ l) (sym (append_assoc (defective_of es) (turned_defective p (used_of es)) (free_of es)))

  -- "its entry turns defective and a free one is taken"
  pub resorted-parts : resorted es p ≡ inserted own others ++ (marked ++ rest (free_of es))
  unfolding resorted free_taken
  resorted-parts =
      let r : List Entry = others ++ (marked ++ free_of es) in
      let u : used_of r ≡ others = used-parts others marked (free_of es) others-used marked-defective (each_free es) in
      let d : defective_of r ≡ marked = defective-parts others marked (free_of es) others-used marked-defective (each_free es) in
      let f : free_of r ≡ free_of es = free-parts others marked (free_of es) others-used marked-defective (each_free es) in
      ap (λ (l : List Entry). free_taken l p) retired-parts
      ∙ (λ i. inserted (record { original = p; mapped = first_free (f i) }) (u i) ++ (d i ++ rest (f i)))

  module _ (not_none : p ≢ none) (not-defective : p ≢ defective) where
    own-used : Each is_used (inserted own others)
    own-used = each-inserted is_used own others (used-tests own not_none not-defective).2 others-used

    free-left : Each is_free (rest (free_of es))
    free-left = each-rest is_free (free_of es) (each_free es)

    -- the used entries after it
    pub resorted-used : used_of (resorted es p) ≡ inserted own others
    resorted-used = ap used_of resorted-parts ∙ used-parts (inserted own others) marked (rest (free_of es)) own-used marked-defective free-left

    -- the defective ones: those before it, and the packet's old spare last
    pub resorted-defective : defective_of (resorted es p) ≡ marked
    resorted-defective = ap defective_of resorted-parts ∙ defective-parts (inserted own others) marked (rest (free_of es)) own-used marked-defective free-left

    -- the free ones: all but the first
    pub resorted-free : free_of (resorted es p) ≡ rest (free_of es)
    resorted-free = ap free_of resorted-parts ∙ free-parts (inserted own others) marked (rest (free_of es)) own-used marked-defective free-left

-- ---- lengths

length_inserted : (x : Entry) (u : List Entry) → length (inserted x u) ≡ suc (length u)
unfolding inserted
length_inserted x [] = refl
length_inserted x (e ∷ u) =
    cond-elim (λ (l : List Entry). length l ≡ suc (suc (length u))) (ltb x.original e.original)
    (λ _. refl)
    (λ _. ap suc (length_inserted x u))

length-turned : (p : ℕ) (u : List Entry) → length (without p u) + length (turned_defective p u) ≡ length u
unfolding without turned_defective
length-turned p [] = refl
length-turned p (e ∷ u) = go (eqb e.original p) (length-turned p u)
  where
    go : (b : Bool) → length (without p u) + length (turned_defective p u) ≡ length u
        → length (cond b (without p u) (e ∷ without p u)) + length (cond b (record { original = defective; mapped = e.mapped } ∷ turned_defective p u) (turned_defective p u)) ≡ suc (length u)
    go true h = omega arith
    go false h = omega arith

length_rest : (f : List Entry) → no_entry f ≡ false → length f ≡ suc (length (rest f))
unfolding rest no_entry
length_rest [] h = absurd (true≢false h)
length_rest (e ∷ f) h = refl

-- ---- originals

-- a test of each, from the rule, and back
originals-each : (n : ℕ) (l : List Entry) → originals_fit n l ≡ true → Each (λ e. original_fits n e.original) l
originals-each n [] h = tt
originals-each n (e ∷ l) h = let p = originals-first n e l h in (p.0, originals-each n l p.1)

each-originals : (n : ℕ) (l : List Entry) → Each (λ e. original_fits n e.original) l → originals_fit n l ≡ true
unfolding originals_fit
each-originals n [] h = refl
each-originals n (e ∷ l) h = both h.0 (each-originals n l h.1)

clear-each : (s : ℕ) (ms : List ℕ) (l : List Entry) → originals_clear s ms l ≡ true → Each (original_clear s ms) l
unfolding originals_clear
clear-each s ms [] h = tt
clear-each s ms (e ∷ l) h = let p = and-true (original_clear s ms e) (originals_clear s ms l) h in (p.0, clear-each s ms l p.1)

each-clear : (s : ℕ) (ms : List ℕ) (l : List Entry) → Each (original_clear s ms) l → originals_clear s ms l ≡ true
unfolding originals_clear
each-clear s ms [] h = refl
each-clear s ms (e ∷ l) h = both h.0 (each-clear s ms l h.1)

-- what passes each entry of a table, the new one, and each that is defective or free, passes each after it
resorted-each : (f : Entry → Bool) (es : List Entry) (p : ℕ) → Each f es → f (own es p) ≡ true → ((e : Entry) → is_defective e ≡ true → f e ≡ true)
    → ((e : Entry) → is_free e ≡ true → f e ≡ true) → Each f (resorted es p)
resorted-each f es p h n d r =
    subst (Each f) (sym (resorted-parts es p))
    (each_append f (inserted (own es p) (others es p)) (marked es p ++ rest (free_of es))
    (each-inserted f (own es p) (others es p) n (each-without f p (used_of es) (each-among f es h)))
    (each_append f (marked es p) (rest (free_of es))
    (each-so is_defective f (marked es p) d (marked-defective es p))
    (each-so is_free f (rest (free_of es)) r (each-rest is_free (free_of es) (each_free es)))))

-- the original of an entry of another kind than a packet's is clear
unused-clear : (s : ℕ) (ms : List ℕ) (e : Entry) → is_used e ≡ false → original_clear s ms e ≡ true
unfolding original_clear
unused-clear s ms e h = rw h

-- and that of a packet, where its place is none of those
place-clear : (s : ℕ) (ms : List ℕ) (e : Entry) → absent (s + e.original) ms ≡ true → original_clear s ms e ≡ true
unfolding original_clear
place-clear s ms e h = or_right (not (is_used e)) h

-- as it is of other places with the same among them
clear-same : (s : ℕ) (ms ns : List ℕ) (e : Entry) → ((m : ℕ) → absent m ms ≡ absent m ns) → original_clear s ms e ≡ original_clear s ns e
unfolding original_clear
clear-same s ms ns e h = ap (λ (b : Bool). not (is_used e) || b) (h (s + e.original))

-- ---- ascending

-- each original is above n
abbrev pub Above : ℕ → List Entry → Type 0
Above n [] = Unit {0}
Above n (e ∷ l) = (n < e.original) × Above n l

above-less : (m n : ℕ) (l : List Entry) → m ≤ n → Above n l → Above m l
above-less m n [] h k = tt
above-less m n (e ∷ l) h k = (omega (arith, k.0), above-less m n l h k.1)

-- each original is above those before it
abbrev pub Rising : List Entry → Type 0
Rising [] = Unit {0}
Rising (e ∷ l) = Above e.original l × Rising l

-- used entries that ascend, whatever is behind them
pub rising : (u r : List Entry) → Each is_used u → ascending (u ++ r) ≡ true → Rising u
rising [] r h a = tt
rising (e ∷ []) r h a = (tt, tt)
rising (e ∷ f ∷ u) r h a =
    let k = rising (f ∷ u) r h.1 (ascending-rest e (f ∷ u ++ r) a) in
    let w = used-means f h.1.0 in
    let l : e.original < f.original = used-follows e.original f.original w.0 w.1 (ascending-first e f (u ++ r) a) in
    ((l, above-less e.original f.original u (omega arith) k.0), k)

above-without : (n p : ℕ) (u : List Entry) → Above n u → Above n (without p u)
unfolding without
above-without n p [] h = tt
above-without n p (e ∷ u) h =
    cond-elim (λ (z : List Entry). Above n z) (eqb e.original p) (λ _. above-without n p u h.1) (λ _. (h.0, above-without n p u h.1))

rising-without : (p : ℕ) (u : List Entry) → Rising u → Rising (without p u)
unfolding without
rising-without p [] h = tt
rising-without p (e ∷ u) h =
    cond-elim (λ (z : List Entry). Rising z) (eqb e.original p)
    (λ _. rising-without p u h.1)
    (λ _. (above-without e.original p u h.0, rising-without p u h.1))

above-inserted : (n : ℕ) (x : Entry) (u : List Entry) → n < x.original → Above n u → Above n (inserted x u)
unfolding inserted
above-inserted n x [] h k = (h, tt)
above-inserted n x (e ∷ u) h k =
    cond-elim (λ (z : List Entry). Above n z) (ltb x.original e.original) (λ _. (h, k)) (λ _. (k.0, above-inserted n x u h k.1))

-- no entry is p's
abbrev Lacks : ℕ → List Entry → Type 0
Lacks p [] = Unit {0}
Lacks p (e ∷ l) = (e.original ≢ p) × Lacks p l

lacks-without : (p : ℕ) (u : List Entry) → Lacks p (without p u)
unfolding without
lacks-without p [] = tt
lacks-without p (e ∷ u) =
    cond-elim (λ (z : List Entry). Lacks p z) (eqb e.original p) (λ _. lacks-without p u) (λ h. (eqb-false e.original p h, lacks-without p u))

rising-inserted : (x : Entry) (u : List Entry) → Lacks x.original u → Rising u → Rising (inserted x u)
unfolding inserted
rising-inserted x [] n h = (tt, tt)
rising-inserted x (e ∷ u) n h =
    cond-elim (λ (z : List Entry). Rising z) (ltb x.original e.original)
    (λ q.
    let l = ltb-true x.original e.original q in
    ((l, above-less x.original e.original u (omega arith) h.0), h))
    (λ q.
    let l = ltb-false x.original e.original q in
    (above-inserted e.original x u (omega (arith, l, n.0)) h.0, rising-inserted x u n.1 h.1))

ascending-cons : (e f : Entry) (l : List Entry) → may_follow e.original f.original ≡ true → ascending (f ∷ l) ≡ true → ascending (e ∷ f ∷ l) ≡ true
unfolding ascending
ascending-cons e f l h k = both h k

ascending-free : (f : List Entry) → Each is_free f → ascending f ≡ true
unfolding ascending
ascending-free [] h = refl
ascending-free (e ∷ []) h = refl
ascending-free (e ∷ f ∷ l) h =
    ascending-cons e f l (rw (free-means f h.1.0) (follows-free e.original)) (ascending-free (f ∷ l) h.1)

-- an entry that is not free, before defective ones and free ones
ascending-behind : (e : Entry) (d f : List Entry) → e.original ≢ none → Each is_defective d → Each is_free f → ascending (e ∷ d ++ f) ≡ true
unfolding ascending
ascending-behind e [] [] n h k = refl
ascending-behind e [] (f ∷ l) n h k = ascending-cons e f l (rw (free-means f k.0) (follows-free e.original)) (ascending-free (f ∷ l) k)
ascending-behind e (x ∷ d) f n h k =
    let q = defective-means x h.0 in
    ascending-cons e x (d ++ f) (rw q (follows-defective e.original n))
    (ascending-behind x d f (not_none x q) h.1 k)
  where
    not_none : (y : Entry) → y.original ≡ defective → y.original ≢ none
    not_none y q z = true≢false (sym (free-tests y z).0 ∙ (defective-tests y q).0)

-- used ones that rise, then defective ones, then free ones
ascending-parts : (u d f : List Entry) → Rising u → Each is_used u → Each is_defective d → Each is_free f → ascending (u ++ (d ++ f)) ≡ true
unfolding ascending
ascending-parts [] [] f r hu hd hf = ascending-free f hf
ascending-parts [] (e ∷ d) f r hu hd hf =
    ascending-behind e d f (λ z. true≢false (sym (free-tests e z).0 ∙ (defective-tests e (defective-means e hd.0)).0)) hd.1 hf
ascending-parts (e ∷ []) d f r hu hd hf = ascending-behind e d f (used-means e hu.0).0 hd hf
ascending-parts (e ∷ x ∷ u) d f r hu hd hf =
    ascending-cons e x (u ++ (d ++ f)) (follows-lower e.original x.original r.0.0) (ascending-parts (x ∷ u) d f r.1 hu.1 hd hf)

-- ---- spots

-- an entry of no packet is not that of q
spot_past : (f : Entry → Bool) (l : List Entry) (q : ℕ) → Each f l → ((e : Entry) → f e ≡ true → e.original ≢ q) → spot_of l q ≡ in_place
unfolding spot_of
spot_past f [] q h n = refl
spot_past f (e ∷ l) q h n = spot-next e l q (n e h.0) ∙ spot_past f l q h.1 n

-- entries among which q has none change no spot of q before them
spot-before : (a b : List Entry) (q : ℕ) → spot_of b q ≡ in_place → spot_of (a ++ b) q ≡ spot_of a q
unfolding spot_of
spot-before [] b q h = h
spot-before (e ∷ a) b q h = ap (cond (eqb e.original q) (mapped_to e.mapped)) (spot-before a b q h)

-- defective and free ones are such
spot-marked : (d f : List Entry) (q : ℕ) → q ≢ none → q ≢ defective → Each is_defective d → Each is_free f → spot_of (d ++ f) q ≡ in_place
spot-marked d f q n m hd hf =
    spot-before d f q (spot_past is_free f q hf (λ e h z. n (sym z ∙ free-means e h)))
    ∙ spot_past is_defective d q hd (λ e h z. m (sym z ∙ defective-means e h))

-- a packet's spot is among the used entries
pub spot-used : (es : List Entry) (q : ℕ) → q ≢ none → q ≢ defective → spot_of es q ≡ spot_of (used_of es) q
unfolding spot_of used_of
spot-used [] q n m = refl
spot-used (e ∷ l) q n m =
    entry-cases e
    (λ h. rw (free-tests e h).2 (spot-next e l q (λ z. n (sym z ∙ h)) ∙ spot-used l q n m))
    (λ h. rw (defective-tests e h).2 (spot-next e l q (λ z. m (sym z ∙ h)) ∙ spot-used l q n m))
    (λ a b. rw (used-tests e a b).2 (ap (cond (eqb e.original q) (mapped_to e.mapped)) (spot-used l q n m)))

spot-without : (u : List Entry) (p q : ℕ) → q ≢ p → spot_of (without p u) q ≡ spot_of u q
unfolding spot_of without
spot-without [] p q n = refl
spot-without (e ∷ u) p q n =
    cond-elim (λ (z : List Entry). spot_of z q ≡ spot_of (e ∷ u) q) (eqb e.original p)
    (λ h. spot-without u p q n ∙ sym (spot-next e u q (λ z. n (sym z ∙ eqb-true e.original p h))))
    (λ _. ap (cond (eqb e.original q) (mapped_to e.mapped)) (spot-without u p q n))

spot-own : (x : Entry) (u r : List Entry) → Lacks x.original u → spot_of (inserted x u ++ r) x.original ≡ mapped_to x.mapped
unfolding inserted
spot-own x [] r h = spot-here x r x.original refl
spot-own x (e ∷ u) r h =
    cond-elim (λ (l : List Entry). spot_of (l ++ r) x.original ≡ mapped_to x.mapped) (ltb x.original e.original)
    (λ _. spot-here x (e ∷ u ++ r) x.original refl)
    (λ _. spot-next e (inserted x u ++ r) x.original h.0 ∙ spot-own x u r h.1)

spot-elsewhere : (x : Entry) (u r : List Entry) (q : ℕ) → q ≢ x.original → spot_of (inserted x u ++ r) q ≡ spot_of (u ++ r) q
unfolding inserted spot_of
spot-elsewhere x [] r q n = spot-next x r q (λ e. n (sym e))
spot-elsewhere x (e ∷ u) r q n =
    cond-elim (λ (l : List Entry). spot_of (l ++ r) q ≡ spot_of (e ∷ u ++ r) q) (ltb x.original e.original)
    (λ _. spot-next x (e ∷ u ++ r) q (λ e. n (sym e)))
    (λ _. ap (cond (eqb e.original q) (mapped_to e.mapped)) (spot-elsewhere x u r q n))

-- ---- mapped starts

in-more : (m : ℕ) (u : List Entry) (f : Entry) (r : List Entry) → In m (mapped_of (u ++ r)) → In m (mapped_of (u ++ f ∷ r))
unfolding mapped_of
in-more m [] f r h = inr h
in-more m (e ∷ u) f r (inl q) = inl q
in-more m (e ∷ u) f r (inr h) = inr (in-more m u f r h)

in-there : (u : List Entry) (f : Entry) (r : List Entry) → In f.mapped (mapped_of (u ++ f ∷ r))
unfolding mapped_of
in-there [] f r = inl refl
in-there (e ∷ u) f r = inr (in-there u f r)

in-front : (m : ℕ) (u : List Entry) (f : Entry) (r : List Entry) → In m (mapped_of (u ++ f ∷ r)) → In m (mapped_of (f ∷ u ++ r))
unfolding mapped_of
in-front m [] f r h = h
in-front m (e ∷ u) f r (inl q) = inr (inl q)
in-front m (e ∷ u) f r (inr h) = ⊎_elim (λ q. inl q) (λ i. inr (inr i)) (in-front m u f r h)

in-inserted : (m : ℕ) (x : Entry) (u r : List Entry) → In m (mapped_of (inserted x u ++ r)) → In m (mapped_of (x ∷ u ++ r))
unfolding mapped_of inserted
in-inserted m x [] r h = h
in-inserted m x (e ∷ u) r h =
    cond-elim (λ (z : List Entry). In m (mapped_of (z ++ r)) → In m (x.mapped ∷ e.mapped ∷ mapped_of (u ++ r))) (ltb x.original e.original)
    (λ _ k. k)
    (λ _ k. ⊎_elim (λ q. inr (inl q)) (λ i. ⊎_elim (λ q. inl q) (λ j. inr (inr j)) (in-inserted m x u r i)) k)
    h

-- an entry brought to the front
mapped-front : (g : Geometry) (u : List Entry) (f : Entry) (r : List Entry) → mapped_fit g (u ++ f ∷ r) ≡ true → mapped_fit g (f ∷ u ++ r) ≡ true
unfolding mapped_of
mapped-front g [] f r h = h
mapped-front g (e ∷ u) f r h =
    let a = mapped-first g e (u ++ f ∷ r) h in
    let b = mapped-first g f (u ++ r) (mapped-front g u f r a.3) in
    let n = absent-not-in e.mapped (mapped_of (u ++ f ∷ r)) a.2 in
    mapped-cons g f (e ∷ u ++ r) b.0 b.1
    (λ i. ⊎_elim (λ q. n (rw (← q) (in-there u f r))) (absent-not-in f.mapped (mapped_of (u ++ r)) b.2) i)
    (mapped-cons g e (u ++ r) a.0 a.1 (λ i. n (in-more e.mapped u f r i)) b.3)

-- and from there behind others
mapped-behind : (g : Geometry) (u : List Entry) (f : Entry) (r : List Entry) → mapped_fit g (f ∷ u ++ r) ≡ true → mapped_fit g (u ++ f ∷ r) ≡ true
unfolding mapped_of
mapped-behind g [] f r h = h
mapped-behind g (e ∷ u) f r h =
    let a = mapped-first g f (e ∷ u ++ r) h in
    let b = mapped-first g e (u ++ r) a.3 in
    let n = absent-not-in f.mapped (mapped_of (e ∷ u ++ r)) a.2 in
    mapped-cons g e (u ++ f ∷ r) b.0 b.1
    (λ i. ⊎_elim (λ q. n (inl (sym q))) (absent-not-in e.mapped (mapped_of (u ++ r)) b.2) (in-front e.mapped u f r i))
    (mapped-behind g u f r (mapped-cons g f (u ++ r) a.0 a.1 (λ i. n (inr i)) b.3))

-- with another original
mapped-same : (g : Geometry) (e f : Entry) (l : List Entry) → e.mapped ≡ f.mapped → mapped_fit g (e ∷ l) ≡ true → mapped_fit g (f ∷ l) ≡ true
unfolding mapped_fit
mapped-same g e f l q h = rw q at h

mapped-inserted : (g : Geometry) (x : Entry) (u r : List Entry) → mapped_fit g (x ∷ u ++ r) ≡ true → mapped_fit g (inserted x u ++ r) ≡ true
unfolding inserted mapped_of
mapped-inserted g x [] r h = h
mapped-inserted g x (e ∷ u) r h =
    let a = mapped-first g x (e ∷ u ++ r) h in
    let b = mapped-first g e (u ++ r) a.3 in
    let n = absent-not-in x.mapped (mapped_of (e ∷ u ++ r)) a.2 in
    cond-elim (λ (z : List Entry). mapped_fit g (z ++ r) ≡ true) (ltb x.original e.original)
    (λ _. h)
    (λ _. mapped-cons g e (inserted x u ++ r) b.0 b.1
    (λ i. ⊎_elim (λ q. n (inl (sym q))) (absent-not-in e.mapped (mapped_of (u ++ r)) b.2) (in-inserted e.mapped x u r i))
    (mapped-inserted g x u r (mapped-cons g x (u ++ r) a.0 a.1 (λ i. n (inr i)) b.3)))

-- the entry of p moved behind the entries d, as a defective one
module _ (p : ℕ) (d : List Entry) where
  in-turned : (m : ℕ) (u r : List Entry) → In m (mapped_of (without p u ++ (d ++ (turned_defective p u ++ r)))) → In m (mapped_of (u ++ (d ++ r)))
  unfolding mapped_of without turned_defective
  in-turned m [] r h = h
  in-turned m (e ∷ u) r h = go (eqb e.original p) (in-turned m u r) h
    where
      go : (b : Bool) → (In m (mapped_of (without p u ++ (d ++ (turned_defective p u ++ r)))) → In m (mapped_of (u ++ (d ++ r)))) → In m (mapped_of (cond b (without p u) (e ∷ without p u) ++ (d ++ (cond b (record { original = defective; mapped = e.mapped } ∷ turned_defective p u) (turned_defective p u) ++ r)))) → In m (mapped_of (e ∷ u ++ (d ++ r)))
      go true more k =
          let x : Entry = record { original = defective; mapped = e.mapped } in
          let w : List Entry = turned_defective p u ++ r in
          ⊎_elim (λ q. inl q) (λ i. inr (more (rw (append_assoc (without p u) d w) at i)))
          (in-front m (without p u ++ d) x w (rw (← append_assoc (without p u) d (x ∷ w)) at k))
      go false more (inl q) = inl q
      go false more (inr i) = inr (more i)

  mapped-turned : (g : Geometry) (u r : List Entry) → mapped_fit g (u ++ (d ++ r)) ≡ true → mapped_fit g (without p u ++ (d ++ (turned_defective p u ++ r))) ≡ true
  unfolding without turned_defective
  mapped-turned g [] r h = h
  mapped-turned g (e ∷ u) r h =
      let a = mapped-first g e (u ++ (d ++ r)) h in
      go (eqb e.original p) a.0 a.1 (λ i. absent-not-in e.mapped (mapped_of (u ++ (d ++ r))) a.2 (in-turned e.mapped u r i))
      (mapped-turned g u r a.3)
    where
      go : (b : Bool) → whole_packet g e.mapped ≡ true → apart_from e.mapped g.tables ≡ true → (In e.mapped (mapped_of (without p u ++ (d ++ (turned_defective p u ++ r)))) → ⊥)
          → mapped_fit g (without p u ++ (d ++ (turned_defective p u ++ r))) ≡ true
          → mapped_fit g (cond b (without p u) (e ∷ without p u) ++ (d ++ (cond b (record { original = defective; mapped = e.mapped } ∷ turned_defective p u) (turned_defective p u) ++ r))) ≡ true
      go true o t n k =
          let x : Entry = record { original = defective; mapped = e.mapped } in
          let w : List Entry = turned_defective p u ++ r in
          let c : mapped_fit g (x ∷ without p u ++ (d ++ w)) ≡ true = mapped-cons g x (without p u ++ (d ++ w)) o t n k in
          ap (mapped_fit g) (sym (append_assoc (without p u) d (x ∷ w)))
          ∙ mapped-behind g (without p u ++ d) x w
          (ap (λ (l : List Entry). mapped_fit g (x ∷ l)) (append_assoc (without p u) d w) ∙ c)
      go false o t n k = mapped-cons g e (without p u ++ (d ++ (turned_defective p u ++ r))) o t n k

-- the first free one taken
mapped-taken : (g : Geometry) (p : ℕ) (u d f : List Entry) → mapped_fit g (u ++ (d ++ f)) ≡ true → no_entry f ≡ false
    → mapped_fit g (inserted (record { original = p; mapped = first_free f }) u ++ (d ++ rest f)) ≡ true
unfolding rest no_entry first_free
mapped-taken g p u d [] h k = absurd (true≢false k)
mapped-taken g p u d (f ∷ r) h k =
    let x : Entry = record { original = p; mapped = f.mapped } in
    mapped-inserted g x u (d ++ r)
    (mapped-same g f x (u ++ (d ++ r)) refl
    (ap (λ (l : List Entry). mapped_fit g (f ∷ l)) (sym (append_assoc u d r))
    ∙ mapped-front g (u ++ d) f r (ap (mapped_fit g) (append_assoc u d (f ∷ r)) ∙ h)))

-- a number is among the mapped starts of the table exactly if it was before
module _ (m : ℕ) where
  -- it is none of them
  abbrev unmapped : List Entry → Bool
  unmapped l = absent m (mapped_of l)

  unmapped-append : (a b : List Entry) → unmapped (a ++ b) ≡ unmapped a && unmapped b
  unfolding mapped_of absent
  unmapped-append [] b = refl
  unmapped-append (e ∷ a) b =
      ap (λ (z : Bool). not (eqb m e.mapped) && z) (unmapped-append a b) ∙ sym (and_assoc (not (eqb m e.mapped)) (unmapped a) (unmapped b))

  unmapped-inserted : (x : Entry) (u : List Entry) → unmapped (inserted x u) ≡ not (eqb m x.mapped) && unmapped u
  unfolding inserted mapped_of absent
  unmapped-inserted x [] = refl
  unmapped-inserted x (e ∷ u) =
      cond-elim (λ (z : List Entry). unmapped z ≡ not (eqb m x.mapped) && unmapped (e ∷ u)) (ltb x.original e.original)
      (λ _. refl)
      (λ _. ap (λ (z : Bool). not (eqb m e.mapped) && z) (unmapped-inserted x u) ∙ and-swap (not (eqb m e.mapped)) (not (eqb m x.mapped)) (unmapped u))

  unmapped-turned : (p : ℕ) (u : List Entry) → unmapped (without p u) && unmapped (turned_defective p u) ≡ unmapped u
  unfolding without turned_defective mapped_of absent
  unmapped-turned p [] = refl
  unmapped-turned p (e ∷ u) = go (eqb e.original p) (unmapped-turned p u)
    where
      go : (b : Bool) → unmapped (without p u) && unmapped (turned_defective p u) ≡ unmapped u
          → unmapped (cond b (without p u) (e ∷ without p u)) && unmapped (cond b (record { original = defective; mapped = e.mapped } ∷ turned_defective p u) (turned_defective p u)) ≡ unmapped (e ∷ u)
      go true h =
          and-swap (unmapped (without p u)) (not (eqb m e.mapped)) (unmapped (turned_defective p u)) ∙ ap (λ (z : Bool). not (eqb m e.mapped) && z) h
      go false h =
          and_assoc (not (eqb m e.mapped)) (unmapped (without p u)) (unmapped (turned_defective p u)) ∙ ap (λ (z : Bool). not (eqb m e.mapped) && z) h

  unmapped-rest : (f : List Entry) → no_entry f ≡ false → not (eqb m (first_free f)) && unmapped (rest f) ≡ unmapped f
  unfolding rest no_entry first_free mapped_of absent
  unmapped-rest [] h = absurd (true≢false h)
  unmapped-rest (e ∷ f) h = refl

  -- the new entry, the used ones, the defective ones, the one that turns defective and the free ones left, put in the order of the table before
  put_back : (n o d t r : Bool) → (n && o) && ((d && t) && r) ≡ (o && t) && (d && (n && r))
  put_back true true true true r = refl
  put_back true true true false r = refl
  put_back true true false true r = refl
  put_back true true false false r = refl
  put_back true false d t r = refl
  put_back false true true true r = refl
  put_back false true true false r = refl
  put_back false true false true r = refl
  put_back false true false false r = refl
  put_back false false d t r = refl

-- ---- the entry that turns defective

turned-above : (p n : ℕ) (u : List Entry) → p ≤ n → Above n u → turned_defective p u ≡ []
unfolding turned_defective
turned-above p n [] l h = refl
turned-above p n (e ∷ u) l h = rw (ne_eqb e.original p (omega (arith, h.0))) (turned-above p n u l h.1)

-- that of a packet which has one
pub turned-own : (p m : ℕ) (u : List Entry) → Rising u → spot_of u p ≡ mapped_to m → turned_defective p u ≡ record { original = defective; mapped = m } ∷ []
unfolding turned_defective spot_of
turned-own p m [] h q = absurd (let z : ◌≡◌ {A = ℕ} 0 1 = cc in omega arith)
turned-own p m (e ∷ u) h q =
    by-eq e.original p
    (λ o.
    let k : mapped_to e.mapped ≡ mapped_to m = sym (spot-here e u p o) ∙ q in
    let s : e.mapped ≡ m = cc in
    rw (eq-eqb e.original p o, s, turned-above p e.original u (omega arith) h.0))
    (λ o. rw (ne_eqb e.original p o) (turned-own p m u h.1 (sym (spot-next e u p o) ∙ q)))

-- none where it has none
pub turned_none : (p : ℕ) (u : List Entry) → spot_of u p ≡ in_place → turned_defective p u ≡ []
unfolding turned_defective
turned_none p [] q = refl
turned_none p (e ∷ u) q = let k = spot-none e u p q in rw (ne_eqb e.original p k.0) (turned_none p u k.1)

-- ---- the laws

-- a block of a disc is not numbered so
below_none : (q n : ℕ) → q < n → n ≤ 1048576 → (q ≢ none) × (q ≢ defective)
unfolding none defective
below_none q n l h = (omega arith, omega arith)

-- in a table that fits the used entries rise
pub used-rise : (g : Geometry) (es : List Entry) → entries_fit g es ≡ true → g.span ≤ 1048576 → Rising (used_of es)
used-rise g es fits small =
    rising (used_of es) (defective_of es ++ free_of es) (each-used es) (ap ascending (sym (three-parts g es fits small)) ∙ fits-ascending g es fits)

module _ (g : Geometry) (es : List Entry) (p : ℕ) (fits : entries_fit g es ≡ true) (multiple : p % 32 ≡ 0) (below : p < g.span) (small : g.span ≤ 1048576) (some : no_entry (free_of es) ≡ false) where
  whole : es ≡ used_of es ++ (defective_of es ++ free_of es)
  whole = three-parts g es fits small

  -- as many entries as before
  pub resorted-length : length (resorted es p) ≡ length es
  resorted-length =
      let u : List Entry = used_of es in
      let d : List Entry = defective_of es in
      let t : List Entry = turned_defective p u in
      let f : List Entry = free_of es in
      omega (
        arith,
        ap (λ (l : List Entry). length l) (resorted-parts es p),
        ap (λ (l : List Entry). length l) whole,
        length-append u (d ++ f),
        length-append d f,
        length-append (inserted (own es p) (without p u)) ((d ++ t) ++ rest f),
        length_inserted (own es p) (without p u),
        length-append (d ++ t) (rest f),
        length-append d t,
        length-turned p u,
        length_rest f some,
      )

  resorted-originals : originals_fit g.span (resorted es p) ≡ true
  resorted-originals =
      each-originals g.span (resorted es p)
      (resorted-each (λ e. original_fits g.span e.original) es p (originals-each g.span es (fits-originals g es fits))
      (packet-original g.span p multiple below)
      (λ e w. rw (defective-means e w) (defective-original g.span))
      (λ e w. rw (free-means e w) (none-original g.span)))

  resorted-ascending : ascending (resorted es p) ≡ true
  resorted-ascending =
      ap ascending (resorted-parts es p)
      ∙ ascending-parts (inserted (own es p) (others es p)) (marked es p) (rest (free_of es))
      (rising-inserted (own es p) (others es p) (lacks-without p (used_of es)) (rising-without p (used_of es) (used-rise g es fits small)))
      (own-used es p (multiple-none p multiple) (multiple-defective p multiple))
      (marked-defective es p)
      (each-rest is_free (free_of es) (each_free es))

  resorted-mapped : mapped_fit g (resorted es p) ≡ true
  resorted-mapped =
      let u : List Entry = used_of es in
      let d : List Entry = defective_of es in
      let t : List Entry = turned_defective p u in
      ap (mapped_fit g) (resorted-parts es p)
      ∙ mapped-taken g p (without p u) (d ++ t) (free_of es)
      (ap (λ (l : List Entry). mapped_fit g (without p u ++ l)) (append_assoc d t (free_of es))
      ∙ mapped-turned p d g u (free_of es) (ap (mapped_fit g) (sym whole) ∙ fits-mapped g es fits))
      some

  -- the set of mapped starts is as it was
  pub resorted-starts : (m : ℕ) → absent m (mapped_of (resorted es p)) ≡ absent m (mapped_of es)
  resorted-starts m =
      let o : List Entry = others es p in
      let d : List Entry = defective_of es in
      let t : List Entry = turned_defective p (used_of es) in
      let f : List Entry = free_of es in
      let n : Bool = not (eqb m (first_free f)) in
      ap (unmapped m) (resorted-parts es p)
      ∙ unmapped-append m (inserted (own es p) o) ((d ++ t) ++ rest f)
      ∙ ap₂ (λ (x y : Bool). x && y) (unmapped-inserted m (own es p) o)
      (unmapped-append m (d ++ t) (rest f) ∙ ap (λ (x : Bool). x && unmapped m (rest f)) (unmapped-append m d t))
      ∙ put_back m n (unmapped m o) (unmapped m d) (unmapped m t) (unmapped m (rest f))
      ∙ ap₂ (λ (x y : Bool). x && y) (unmapped-turned m p (used_of es))
      (ap (λ (x : Bool). unmapped m d && x) (unmapped-rest m f some) ∙ sym (unmapped-append m d f))
      ∙ sym (ap (unmapped m) whole ∙ unmapped-append m (used_of es) (d ++ f))

  -- the table fits again, where the packet's own place is none of them
  pub resorted-fits : absent (g.start + p) (mapped_of es) ≡ true → entries_fit g (resorted es p) ≡ true
  resorted-fits clear =
      let s : ℕ = g.start in
      let ms : List ℕ = mapped_of es in
      fits_all g (resorted es p) (omega (arith, fits-size g es fits, resorted-length)) resorted-originals resorted-ascending resorted-mapped
      (each-clear s (mapped_of (resorted es p)) (resorted es p)
      (each-so (original_clear s ms) (original_clear s (mapped_of (resorted es p))) (resorted es p)
      (λ e w. clear-same s (mapped_of (resorted es p)) ms e resorted-starts ∙ w)
      (resorted-each (original_clear s ms) es p (clear-each s ms es (fits-clear g es fits)) (place-clear s ms (own es p) clear)
      (λ e w. unused-clear s ms e (defective-tests e (defective-means e w)).2)
      (λ e w. unused-clear s ms e (free-tests e (free-means e w)).2))))

  -- the packet is at the start that was free
  pub spot-same : spot_of (resorted es p) p ≡ mapped_to (first_free (free_of es))
  spot-same =
      ap (λ (l : List Entry). spot_of l p) (resorted-parts es p)
      ∙ spot-own (own es p) (others es p) (marked es p ++ rest (free_of es)) (lacks-without p (used_of es))

  -- every other one is where it was
  pub spot-other : (q : ℕ) → q ≢ p → q < g.span → spot_of (resorted es p) q ≡ spot_of es q
  spot-other q n l =
      let k = below_none q g.span l small in
      ap (λ (x : List Entry). spot_of x q) (resorted-parts es p)
      ∙ spot-elsewhere (own es p) (others es p) (marked es p ++ rest (free_of es)) q n
      ∙ spot-before (others es p) (marked es p ++ rest (free_of es)) q
      (spot-marked (marked es p) (rest (free_of es)) q k.0 k.1 (marked-defective es p) (each-rest is_free (free_of es) (each_free es)))
      ∙ spot-without (used_of es) p q n
      ∙ sym (spot-used es q k.0 k.1)

-- the entry of a packet that has one turns defective
pub turned-spared : (g : Geometry) (es : List Entry) (p m : ℕ) → entries_fit g es ≡ true → g.span ≤ 1048576 → p % 32 ≡ 0 → spot_of es p ≡ mapped_to m
    → turned_defective p (used_of es) ≡ record { original = defective; mapped = m } ∷ []
turned-spared g es p m fits small multiple q =
    turned-own p m (used_of es) (used-rise g es fits small) (sym (spot-used es p (multiple-none p multiple) (multiple-defective p multiple)) ∙ q)

-- and where it has none nothing does
pub turned-unspared : (es : List Entry) (p : ℕ) → p % 32 ≡ 0 → spot_of es p ≡ in_place → turned_defective p (used_of es) ≡ []
turned-unspared es p multiple q =
    turned_none p (used_of es) (sym (spot-used es p (multiple-none p multiple) (multiple-defective p multiple)) ∙ q)
