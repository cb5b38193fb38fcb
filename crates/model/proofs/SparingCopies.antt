-- The copies of a sparing table: which count, which are current, and in what order they are written. Assumes nothing.
use Prim.Native.Nat.{ℕ, suc, ◌+◌, ◌≤◌}
use mathlib.Core.Bool.{Bool, true, false, cond, not, ◌&&◌, true≢false}
use mathlib.Core.Logic.{◌↔◌, ◌⊎◌, inl, inr, ⊎_elim}
use mathlib.Core.Path.{◌≡◌, refl, sym, ap, ap₂, ◌∙◌}
use mathlib.Core.List.{List, [], ◌∷◌, ◌++◌}
use native.Mathlib.Omega.{arith}
use lib.Dec.{ltb, eqb}
use lib.ListN.{length, length-append}
use borrow.Author.Tests.{ltb-true, ltb-false, le-ltb, eqb-true, eqb-false, eq-eqb, not-true}
use Rattle.maps.specs.Kinds.{tables_apart}
use Rattle.model.specs.Disc.{Disc, sector, mark, recorded}
use Rattle.model.specs.Writes.{Write}
use Rattle.model.specs.Sparing.{Geometry, counts, counting_of, counting, sequence_in, sequence_at, table_in, table_at, highest, with_sequence, current_sequence, current, first_table, current_table}
use Rattle.model.specs.Examine.{Setting, geometry}
use Rattle.model.specs.Rewrite.{is_none, not_in, stale, copies_to, copy_order}
use Rattle.model.proofs.Basics.{and-true, cond-elim}
use Rattle.model.proofs.SparingLists.{In, in_left, in_right, in_either, Distinct, distinct_append, tables-distinct}

-- ---- the elements of a list that pass a test

kept : (ℕ → Bool) → List ℕ → List ℕ
kept f [] = []
kept f (x ∷ l) = cond (f x) (x ∷ kept f l) (kept f l)

kept_in : (f : ℕ → Bool) (l : List ℕ) (t : ℕ) → In t (kept f l) → In t l × (f t ≡ true)
unfolding kept
kept_in f [] t i = absurd i
kept_in f (x ∷ l) t i =
    cond-elim (λ (z : List ℕ). In t z → In t (x ∷ l) × (f t ≡ true)) (f x)
    (λ h k. ⊎_elim (λ q. (inl q, ap f q ∙ h)) (λ j. let r = kept_in f l t j in (inr r.0, r.1)) k)
    (λ _ k. let r = kept_in f l t k in (inr r.0, r.1))
    i

in_kept : (f : ℕ → Bool) (l : List ℕ) (t : ℕ) → In t l → f t ≡ true → In t (kept f l)
unfolding kept
in_kept f [] t i h = absurd i
in_kept f (x ∷ l) t (inl q) h = rw (ap f (sym q) ∙ h) (inl q)
in_kept f (x ∷ l) t (inr i) h =
    cond-elim (λ (z : List ℕ). In t z) (f x) (λ _. inr (in_kept f l t i h)) (λ _. in_kept f l t i h)

-- tests that agree on the list keep the same
kept-agree : (f k : ℕ → Bool) (l : List ℕ) → ((t : ℕ) → In t l → f t ≡ k t) → kept f l ≡ kept k l
unfolding kept
kept-agree f k [] h = refl
kept-agree f k (x ∷ l) h = rw (h x (inl refl), kept-agree f k l (λ t i. h t (inr i)))

-- kept by one test and then by another
kept-both : (f k : ℕ → Bool) (l : List ℕ) → kept k (kept f l) ≡ kept (λ t. f t && k t) l
unfolding kept
kept-both f k [] = refl
kept-both f k (x ∷ l) = go (f x) (kept-both f k l)
  where
    go : (b : Bool) → kept k (kept f l) ≡ kept (λ t. f t && k t) l → kept k (cond b (x ∷ kept f l) (kept f l)) ≡ cond (b && k x) (x ∷ kept (λ t. f t && k t) l) (kept (λ t. f t && k t) l)
    go true q = rw q
    go false q = q

-- those that pass and those that do not are all
kept-length : (f : ℕ → Bool) (l : List ℕ) → length (kept (λ t. not (f t)) l) + length (kept f l) ≡ length l
unfolding kept
kept-length f [] = refl
kept-length f (x ∷ l) = go (f x) (kept-length f l)
  where
    go : (b : Bool) → length (kept (λ t. not (f t)) l) + length (kept f l) ≡ length l → length (cond (not b) (x ∷ kept (λ t. not (f t)) l) (kept (λ t. not (f t)) l)) + length (cond b (x ∷ kept f l) (kept f l)) ≡ suc (length l)
    go true q = omega arith
    go false q = omega arith

kept-distinct : (f : ℕ → Bool) (l : List ℕ) → Distinct l → Distinct (kept f l)
unfolding kept
kept-distinct f [] d = tt
kept-distinct f (x ∷ l) d =
    cond-elim (λ (z : List ℕ). Distinct z) (f x)
    (λ _. (λ i. d.0 (kept_in f l x i).0, kept-distinct f l d.1))
    (λ _. kept-distinct f l d.1)

-- a list with an element is not empty
pub in_some : (t : ℕ) (l : List ℕ) → In t l → is_none l ≡ false
unfolding is_none
in_some t [] i = absurd i
in_some t (x ∷ l) i = refl

-- ---- the copies that count

counting_kept : (d : Disc) (g : Geometry) (ts : List ℕ) → counting_of d g ts ≡ kept (counts d g) ts
unfolding counting_of kept
counting_kept d g [] = refl
counting_kept d g (t ∷ ts) = rw (counting_kept d g ts)

-- a copy that counts is a table of the map, and counts
pub counting-counts : (d : Disc) (g : Geometry) (t : ℕ) → In t (counting d g) → In t g.tables × (counts d g t ≡ true)
unfolding counting
counting-counts d g t i = kept_in (counts d g) g.tables t (rw (counting_kept d g g.tables) at i)

-- a table that counts is among them
pub counts-counting : (d : Disc) (g : Geometry) (t : ℕ) → In t g.tables → counts d g t ≡ true → In t (counting d g)
unfolding counting
counts-counting d g t i h = rw (counting_kept d g g.tables) (in_kept (counts d g) g.tables t i h)

-- ---- the highest sequence

highest-above : (d : Disc) (ts : List ℕ) (t : ℕ) → In t ts → sequence_at d t ≤ highest d ts
unfolding highest
highest-above d [] t i = absurd i
highest-above d (x ∷ ts) t (inl q) =
    cond-elim (λ (h : ℕ). sequence_at d t ≤ h) (ltb (sequence_at d x) (highest d ts))
    (λ l. omega (arith, ltb-true (sequence_at d x) (highest d ts) l, ap (sequence_at d) q))
    (λ _. omega (arith, ap (sequence_at d) q))
highest-above d (x ∷ ts) t (inr i) =
    cond-elim (λ (h : ℕ). sequence_at d t ≤ h) (ltb (sequence_at d x) (highest d ts))
    (λ _. highest-above d ts t i)
    (λ l. omega (arith, ltb-false (sequence_at d x) (highest d ts) l, highest-above d ts t i))

highest-some : (d : Disc) (ts : List ℕ) → is_none ts ≡ false → (t : ℕ) × In t ts × (sequence_at d t ≡ highest d ts)
unfolding highest is_none
highest-some d [] n = absurd (true≢false n)
highest-some d (t ∷ []) n = (t, inl refl, rw (le-ltb (sequence_at d t) 0 (omega arith)))
highest-some d (t ∷ u ∷ ts) n =
    let r = highest-some d (u ∷ ts) refl in
    cond-elim (λ (h : ℕ). (c : ℕ) × In c (t ∷ u ∷ ts) × (sequence_at d c ≡ h)) (ltb (sequence_at d t) (highest d (u ∷ ts)))
    (λ _. (r.0, inr r.1, r.2))
    (λ _. (t, inl refl, refl))

-- no copy that counts has a higher sequence than the current one
pub counting-below : (d : Disc) (g : Geometry) (t : ℕ) → In t (counting d g) → sequence_at d t ≤ current_sequence d g
unfolding current_sequence
counting-below d g t i = highest-above d (counting d g) t i

-- some copy that counts has the current sequence
pub some-highest : (d : Disc) (g : Geometry) → is_none (counting d g) ≡ false → (t : ℕ) × In t (counting d g) × (sequence_at d t ≡ current_sequence d g)
unfolding current_sequence
some-highest d g n = highest-some d (counting d g) n

-- ---- the current copies

with-kept : (d : Disc) (n : ℕ) (ts : List ℕ) → with_sequence d n ts ≡ kept (λ t. eqb (sequence_at d t) n) ts
unfolding with_sequence kept
with-kept d n [] = refl
with-kept d n (t ∷ ts) = rw (with-kept d n ts)

-- a current copy counts
pub current-counting : (d : Disc) (g : Geometry) (t : ℕ) → In t (current d g) → In t (counting d g)
unfolding current
current-counting d g t i =
    (kept_in (λ c. eqb (sequence_at d c) (current_sequence d g)) (counting d g) t (rw (with-kept d (current_sequence d g) (counting d g)) at i)).0

-- so it is a table of the map
pub current-table : (d : Disc) (g : Geometry) (t : ℕ) → In t (current d g) → In t g.tables
current-table d g t i = (counting-counts d g t (current-counting d g t i)).0

-- and has the current sequence
pub current-sequence : (d : Disc) (g : Geometry) (t : ℕ) → In t (current d g) → sequence_at d t ≡ current_sequence d g
unfolding current
current-sequence d g t i =
    eqb-true (sequence_at d t) (current_sequence d g)
    (kept_in (λ c. eqb (sequence_at d c) (current_sequence d g)) (counting d g) t (rw (with-kept d (current_sequence d g) (counting d g)) at i)).1

-- a copy that counts and has the current sequence is current
pub sequence-current : (d : Disc) (g : Geometry) (t : ℕ) → In t (counting d g) → sequence_at d t ≡ current_sequence d g → In t (current d g)
unfolding current
sequence-current d g t i e =
    rw (with-kept d (current_sequence d g) (counting d g))
    (in_kept (λ c. eqb (sequence_at d c) (current_sequence d g)) (counting d g) t i (eq-eqb (sequence_at d t) (current_sequence d g) e))

-- a copy is current exactly if it counts and no copy that counts has a higher sequence
pub current-is : (d : Disc) (g : Geometry) (t : ℕ) → In t (current d g) ↔ (In t (counting d g) × ((c : ℕ) → In c (counting d g) → sequence_at d c ≤ sequence_at d t))
current-is d g t = (
  λ i. (current-counting d g t i, λ c j. omega (arith, current-sequence d g t i, counting-below d g c j)),
  λ p.
      let r = some-highest d g (in_some t (counting d g) p.0) in
      sequence-current d g t p.0 (omega (arith, p.1 r.0 r.1, r.2, counting-below d g t p.0)),
)

-- where a copy counts, one is current
pub current-some : (d : Disc) (g : Geometry) → is_none (counting d g) ≡ false → is_none (current d g) ≡ false
current-some d g n =
    let r = some-highest d g n in
    in_some r.0 (current d g) (sequence-current d g r.0 r.1 r.2)

-- the current copies are the tables that count and have the current sequence, in map order
is_current : Disc → Geometry → ℕ → Bool
is_current d g t = counts d g t && eqb (sequence_at d t) (current_sequence d g)

current-kept : (d : Disc) (g : Geometry) → current d g ≡ kept (is_current d g) g.tables
unfolding current counting is_current
current-kept d g =
    with-kept d (current_sequence d g) (counting d g)
    ∙ ap (kept (λ t. eqb (sequence_at d t) (current_sequence d g))) (counting_kept d g g.tables)
    ∙ kept-both (counts d g) (λ t. eqb (sequence_at d t) (current_sequence d g)) g.tables

-- they are all different, if the tables are
pub current-distinct : (d : Disc) (g : Geometry) → Distinct g.tables → Distinct (current d g)
current-distinct d g h = rw (current-kept d g) (kept-distinct (is_current d g) g.tables h)

-- ---- the copies that are not current

-- a sector that is none of some is not among them
pub not-in-means : (cs : List ℕ) (t : ℕ) → not_in cs t ≡ true → In t cs → ⊥
unfolding not_in
not-in-means [] t h i = i
not-in-means (x ∷ cs) t h (inl q) = eqb-false x t (not-true (eqb x t) (and-true (not (eqb x t)) (not_in cs t) h).0) (sym q)
not-in-means (x ∷ cs) t h (inr i) = not-in-means cs t (and-true (not (eqb x t)) (not_in cs t) h).1 i

-- one that is not none of them is
pub in-means : (cs : List ℕ) (t : ℕ) → not_in cs t ≡ false → In t cs
unfolding not_in
in-means [] t h = absurd (true≢false h)
in-means (x ∷ cs) t h = go (eqb x t) refl h (in-means cs t)
  where
    go : (b : Bool) → eqb x t ≡ b → not b && not_in cs t ≡ false → (not_in cs t ≡ false → In t cs) → In t (x ∷ cs)
    go true q k r = inl (sym (eqb-true x t q))
    go false q k r = inr (r k)

-- the test from the fact
pub in-tested : (cs : List ℕ) (t : ℕ) → In t cs → not_in cs t ≡ false
in-tested cs t i = go (not_in cs t) refl
  where
    go : (b : Bool) → not_in cs t ≡ b → not_in cs t ≡ false
    go true q = absurd (not-in-means cs t q i)
    go false q = q

-- and its opposite
pub not-in-tested : (cs : List ℕ) (t : ℕ) → (In t cs → ⊥) → not_in cs t ≡ true
not-in-tested cs t n = go (not_in cs t) refl
  where
    go : (b : Bool) → not_in cs t ≡ b → not_in cs t ≡ true
    go true q = q
    go false q = absurd (n (in-means cs t q))

stale-kept : (cs ts : List ℕ) → stale cs ts ≡ kept (not_in cs) ts
unfolding stale kept
stale-kept cs [] = refl
stale-kept cs (t ∷ ts) = rw (stale-kept cs ts)

-- a stale sector is a table's, and none of the current copies
pub stale-in : (cs ts : List ℕ) (t : ℕ) → In t (stale cs ts) → In t ts × (In t cs → ⊥)
stale-in cs ts t i =
    let r = kept_in (not_in cs) ts t (rw (stale-kept cs ts) at i) in
    (r.0, not-in-means cs t r.1)

-- a table sector is stale, or among the current copies
pub stale-or : (cs ts : List ℕ) (t : ℕ) → In t ts → In t (stale cs ts) ⊎ In t cs
stale-or cs ts t i = go (not_in cs t) refl
  where
    go : (b : Bool) → not_in cs t ≡ b → In t (stale cs ts) ⊎ In t cs
    go true q = inl (rw (stale-kept cs ts) (in_kept (not_in cs) ts t i q))
    go false q = inr (in-means cs t q)

-- a table sector is stale, or among the current copies
pub stale-or-current : (d : Disc) (g : Geometry) (t : ℕ) → In t g.tables → In t (stale (current d g) g.tables) ⊎ In t (current d g)
stale-or-current d g t i = stale-or (current d g) g.tables t i

not-current : (d : Disc) (g : Geometry) (t : ℕ) → In t g.tables → not_in (current d g) t ≡ not (is_current d g t)
not-current d g t i = go (is_current d g t) refl
  where
    go : (b : Bool) → is_current d g t ≡ b → not_in (current d g) t ≡ not b
    go true q = in-tested (current d g) t (rw (current-kept d g) (in_kept (is_current d g) g.tables t i q))
    go false q =
        not-in-tested (current d g) t
        (λ j. true≢false (sym (kept_in (is_current d g) g.tables t (rw (current-kept d g) at j)).1 ∙ q))

-- the stale ones and the current ones are as many as the tables
order-length : (d : Disc) (g : Geometry) → length (stale (current d g) g.tables ++ current d g) ≡ length g.tables
order-length d g =
    let a : stale (current d g) g.tables ≡ kept (λ t. not (is_current d g t)) g.tables =
    stale-kept (current d g) g.tables ∙ kept-agree (not_in (current d g)) (λ t. not (is_current d g t)) g.tables (not-current d g) in
    length-append (stale (current d g) g.tables) (current d g)
    ∙ ap₂ (λ (x y : List ℕ). length x + length y) a (current-kept d g)
    ∙ kept-length (is_current d g) g.tables

-- they are the tables
order-in : (d : Disc) (g : Geometry) (t : ℕ) → In t (stale (current d g) g.tables ++ current d g) ↔ In t g.tables
order-in d g t = (
  λ i. ⊎_elim (λ a. (stale-in (current d g) g.tables t a).0) (λ b. current-table d g t b) (in_either t (stale (current d g) g.tables) (current d g) i),
  λ i. ⊎_elim (in_left t (stale (current d g) g.tables) (current d g)) (in_right t (stale (current d g) g.tables) (current d g)) (stale-or-current d g t i),
)

-- each once
order-distinct : (d : Disc) (g : Geometry) → Distinct g.tables → Distinct (stale (current d g) g.tables ++ current d g)
order-distinct d g h =
    distinct_append (stale (current d g) g.tables) (current d g)
    (rw (stale-kept (current d g) g.tables) (kept-distinct (not_in (current d g)) g.tables h))
    (current-distinct d g h)
    (λ t i j. (stale-in (current d g) g.tables t i).1 j)

-- the same of the order in which the copies of a disc are written
pub copy-order-length : (e : Setting) (d : Disc) → length (copy_order e d) ≡ length (geometry e d).tables
unfolding copy_order
copy-order-length e d = order-length d (geometry e d)

-- it has exactly the tables
pub copy-order-in : (e : Setting) (d : Disc) (t : ℕ) → In t (copy_order e d) ↔ In t (geometry e d).tables
unfolding copy_order
copy-order-in e d t = order-in d (geometry e d) t

-- each once
pub copy-order-distinct : (e : Setting) (d : Disc) → tables_apart (geometry e d).tables ≡ true → Distinct (copy_order e d)
unfolding copy_order
copy-order-distinct e d h = order-distinct d (geometry e d) (tables-distinct (geometry e d).tables h)

-- ---- the writes of the copies

-- one write for each
pub length-copies : (ts : List ℕ) (bytes : List ℕ) → length (copies_to ts bytes) ≡ length ts
unfolding copies_to
length-copies [] bytes = refl
length-copies (t ∷ ts) bytes = ap suc (length-copies ts bytes)

-- those of two lists in a row
pub copies-append : (a b bytes : List ℕ) → copies_to (a ++ b) bytes ≡ copies_to a bytes ++ copies_to b bytes
unfolding copies_to
copies-append [] b bytes = refl
copies-append (t ∷ a) b bytes = ap (λ (l : List Write). record { place = t; bytes = bytes } ∷ l) (copies-append a b bytes)

-- ---- two discs that agree

-- two discs have the same bytes and marks at each sector of a list
pub record SameAt (d e : Disc) (ts : List ℕ) : Type 0 where
  pub sectors : (t : ℕ) → In t ts → sector d t ≡ sector e t
  pub marks : (t : ℕ) → In t ts → mark d t ≡ mark e t

highest-agree : (d e : Disc) (ts : List ℕ) → ((t : ℕ) → In t ts → sequence_at d t ≡ sequence_at e t) → highest d ts ≡ highest e ts
unfolding highest
highest-agree d e [] h = refl
highest-agree d e (t ∷ ts) h = rw (h t (inl refl), highest-agree d e ts (λ c i. h c (inr i)))

first-agree : (d e : Disc) (ts : List ℕ) → ((t : ℕ) → In t ts → sector d t ≡ sector e t) → first_table d ts ≡ first_table e ts
unfolding first_table table_at
first-agree d e [] h = refl
first-agree d e (t ∷ ts) h = ap table_in (h t (inl refl))

module _ (d e : Disc) (g : Geometry) (same : SameAt d e g.tables) where
  -- a table counts on both or on neither
  pub counts-agree : (t : ℕ) → In t g.tables → counts d g t ≡ counts e g t
  unfolding counts recorded
  counts-agree t i = rw (same.sectors t i, same.marks t i)

  -- the same copies count
  pub counting-agree : counting d g ≡ counting e g
  unfolding counting
  counting-agree =
      counting_kept d g g.tables ∙ kept-agree (counts d g) (counts e g) g.tables counts-agree ∙ sym (counting_kept e g g.tables)

  -- a table's sequence is the same
  pub sequence-agree : (t : ℕ) → In t g.tables → sequence_at d t ≡ sequence_at e t
  unfolding sequence_at
  sequence-agree t i = ap sequence_in (same.sectors t i)

  -- and so is the current sequence
  pub current-sequence-agree : current_sequence d g ≡ current_sequence e g
  unfolding current_sequence
  current-sequence-agree =
      highest-agree d e (counting d g) (λ t i. sequence-agree t (counting-counts d g t i).0) ∙ ap (highest e) counting-agree

  -- the same copies are current
  pub current-agree : current d g ≡ current e g
  unfolding is_current
  current-agree =
      current-kept d g
      ∙ kept-agree (is_current d g) (is_current e g) g.tables
      (λ t i. rw (counts-agree t i, sequence-agree t i, current-sequence-agree))
      ∙ sym (current-kept e g)

  -- the current table is the same
  pub current-table-agree : current_table d g ≡ current_table e g
  unfolding current_table
  current-table-agree =
      first-agree d e (current d g) (λ t i. same.sectors t (current-table d g t i)) ∙ ap (first_table e) current-agree

  -- all of this at once
  pub copies-agree : (counting d g ≡ counting e g) × (current d g ≡ current e g) × (current_sequence d g ≡ current_sequence e g) × (current_table d g ≡ current_table e g)
  copies-agree = (counting-agree, current-agree, current-sequence-agree, current-table-agree)
