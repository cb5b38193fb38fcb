-- Laws of the lent table: filling it, looking for an entry in it, and where a packet is. Assumes nothing.
use Rattle.std.proofs.Common.{◌≡◌, ℕ, zero, suc, ◌+◌, ◌*◌, ◌%◌, ◌≤◌, ◌<◌, Bool, true, false, cond, eqb, ltb, List, [], ◌∷◌, ◌++◌, Option, Some, None, unwrap_or, length, get_or, take, drop, set, refl, sym, ap, ap₂, subst, ◌∙◌, zero-add, arith, length-append, length-take, get_or-take, drop_of_length-le}
use Rattle.std.specs.List.{position, position_or_len}
use Rattle.std.specs.Slice.Iter.{chunks_exact_size, chunks_exact_rest, chunks_exact_steps}
use Rattle.std.specs.Iterator.{AlwaysYields}
use Rattle.std.proofs.lemmas.Iterator.{YieldsList}
use Rattle.std.proofs.lemmas.List.Recursion.{is_position_or_len}
use Rattle.std.proofs.lemmas.List.Quantifiers.{position-Some}
use Rattle.std.proofs.lemmas.List.Sums.{position_or_len_is}
use Rattle.std.proofs.lemmas.Bool.Decides.{nat_tests}
use denote.Ref.{Bor}
use lib.Seq.{take_all}
use Rattle.fields.specs.Bytes.{splice, same}
use Rattle.fields.specs.Number.{field, words}
use Rattle.fields.proofs.Laws.{Copying, copying-next, copying-last, front-next, same-equal, same-false-of-difference}
use Rattle.model.specs.Vat.{none}
use Rattle.model.specs.Sparing.{Entry, entries, count_in, table_in, is_free, free_of, first_free, Spot, mapped_to, in_place, spot_of, packet_of, start_at, locate}
use Rattle.model.specs.Once.{filled_from}
use Rattle.model.specs.Rewrite.{no_entry}
use Rattle.model.proofs.OnceOpen.{length-words}
use Rattle.model.proofs.SparingLaws.{packet-own}
use Rattle.address.specs.declared.PhysicalAddress.{PhysicalAddress}
use Rattle.sparing_table.specs.Table.{lent_entry, has, place_where, free_in}
use Rattle.sparing_copy.proofs.Words.{get_or-words}
use Rattle.sparing_copy.proofs.Entries.{entries-step, entries-end}

-- ---- the entries of the lent table

module _ (t : List ℕ) (n i : ℕ) (fits : 2 * n ≤ length t) where
  -- an entry, and those after it
  pub lent-step : i < n → drop i (entries (take (2 * n) t)) ≡ lent_entry t i ∷ drop (i + 1) (entries (take (2 * n) t))
  lent-step h =
      entries-step (take (2 * n) t) i (omega (arith, length-take (2 * n) t))
      ∙ ap₂ (λ (x y : ℕ). record { original = x; mapped = y } ∷ drop (i + 1) (entries (take (2 * n) t)))
      (get_or-take (2 * n) t (2 * i) 0 (omega arith))
      (get_or-take (2 * n) t (2 * i + 1) 0 (omega arith))

  -- none past the last
  pub lent-end : n ≤ i → drop i (entries (take (2 * n) t)) ≡ []
  lent-end h = entries-end (take (2 * n) t) i (omega (arith, length-take (2 * n) t))

-- as many as half the numbers
length_entries : (l : List ℕ) (n : ℕ) → length l ≡ 2 * n → length (entries l) ≡ n
unfolding entries
length_entries [] n h = omega arith
length_entries (o ∷ []) n h = absurd (omega arith)
length_entries (o ∷ m ∷ l) zero h = absurd (omega arith)
length_entries (o ∷ m ∷ l) (suc n) h = ap suc (length_entries l n (omega arith))

pub lent_length : (t : List ℕ) (n : ℕ) → 2 * n ≤ length t → length (entries (take (2 * n) t)) ≡ n
lent_length t n h = length_entries (take (2 * n) t) n (omega (arith, length-take (2 * n) t))

-- ---- filling it

-- one number more
pub filling-next : (s b t : List ℕ) (i v : ℕ) → i < length s → i < length b → v ≡ get_or b i 0 → Copying s 0 b t i → Copying s 0 b (set t i v) (i + 1)
filling-next s b t i v hs hb e c =
    subst (λ (k : ℕ). Copying s 0 b (set t k v) (i + 1)) (zero-add i) (copying-next s 0 b t i v (omega arith) hb e c)

-- all of them
pub filling-last : (s b t : List ℕ) (i : ℕ) → length b ≤ i → Copying s 0 b t i → t ≡ filled_from b s
unfolding splice filled_from
filling-last s b t i h c = copying-last s 0 b t i h c ∙ ap (λ (k : ℕ). b ++ drop k s) (zero-add (length b))

-- ---- comparing it with a sector

module _ (b t : List ℕ) (n i : ℕ) where
  -- a number is another
  pub numbers-differ : i < n → (get_or t i 0 ≡ field b (56 + 4 * i) 4 → ⊥) → false ≡ same (take n t) (words b 56 n)
  numbers-differ h q =
      sym (same-false-of-difference (take n t) (words b 56 n) i
      (λ e. q (sym (get_or-take n t i 0 h) ∙ e ∙ get_or-words b 56 n i h)))

  -- it is the same
  pub numbers-next : n ≤ length t → i < n → get_or t i 0 ≡ field b (56 + 4 * i) 4 → take i (take n t) ≡ take i (words b 56 n) → take (i + 1) (take n t) ≡ take (i + 1) (words b 56 n)
  numbers-next l h q f =
      front-next (take n t) (words b 56 n) i (omega (arith, length-take n t)) (omega (arith, length-words b 56 n))
      (get_or-take n t i 0 h ∙ q ∙ sym (get_or-words b 56 n i h))
      f

  -- all are
  pub numbers-same : n ≤ i → take i (take n t) ≡ take i (words b 56 n) → true ≡ same (take n t) (words b 56 n)
  numbers-same h f =
      sym (same-equal (take n t) (words b 56 n)
      (sym (take_all i (take n t) (omega (arith, length-take n t))) ∙ f ∙ take_all i (words b 56 n) (omega (arith, length-words b 56 n))))

-- as many numbers as the sector counts
pub lent_same : (b t : List ℕ) (r n : ℕ) → n ≡ 2 * r → r ≡ count_in b → same (take n t) (words b 56 n) ≡ same (take (2 * r) t) (table_in b)
unfolding table_in
lent_same b t r n e q =
    ap (λ (k : ℕ). same (take k t) (words b 56 k)) e ∙ ap (λ (k : ℕ). same (take (2 * r) t) (words b 56 (2 * k))) q

-- ---- looking for an entry

-- an entry as two numbers
abbrev pub entry_of : Bor (List ℕ) → Entry
entry_of x = record { original = get_or x.now 0 0; mapped = get_or x.now 1 0 }

-- the first two of some numbers, and the others
first_two : (x r l : List ℕ) (o m : ℕ) → length x ≡ 2 → o ∷ m ∷ l ≡ x ++ r → (x ≡ o ∷ m ∷ []) × (r ≡ l)
first_two [] r l o m h e = absurd (omega arith)
first_two (a ∷ []) r l o m h e = absurd (omega arith)
first_two (a ∷ b ∷ []) r l o m h e = (cc, cc)
first_two (a ∷ b ∷ c ∷ x) r l o m h e = absurd (omega arith)

-- numbers two by two are the entries
always_yields : (l : List ℕ) (s : _) → chunks_exact_size s ≡ 2 → chunks_exact_rest s ≡ l → AlwaysYields chunks_exact_steps entry_of s (entries l)
unfolding entries
always_yields [] s z e = λ x j h. absurd (omega (arith, ap length h.1.0, ap length e, length-append {A = ℕ}))
always_yields (o ∷ []) s z e = λ x j h. absurd (omega (arith, ap length h.1.0, ap length e, length-append {A = ℕ}))
always_yields (o ∷ m ∷ l) s z e = (
  λ j h. absurd (omega (arith, h.1.0, ap length e)),
  λ x j h. let q = first_two x.now (chunks_exact_rest j) l o m (h.1.1 ∙ z) (sym e ∙ h.1.0) in
      (ap (λ (v : List ℕ). record { original = get_or v 0 0; mapped = get_or v 1 0 }) q.0, always_yields l j (h.0 ∙ z) q.1),
)

pub entries_yielded : (l : List ℕ) (s : _) → chunks_exact_size s ≡ 2 → chunks_exact_rest s ≡ l → YieldsList chunks_exact_steps entry_of s (entries l)
entries_yielded l s z e = record { runs = always_yields l s z e }

-- ---- what was found

-- a value for `get_or` where no entry is
none_such : Entry
none_such = record { original = 0; mapped = 0 }

-- a place that is none is past the last
past : (n m : ℕ) → cond (ltb n m) (Some n) None ≡ None → m ≤ n
past n m e = go (ltb n m) refl e
  where
    go : (b : Bool) → ltb n m ≡ b → cond b (Some n) None ≡ None → m ≤ n
    go true q k = cc
    go false q k = grind (arith, nat_tests)

pub place_most : (f : Entry → Bool) (es : List Entry) → place_where f es ≤ length es
unfolding place_where
place_most f [] = omega arith
place_most f (e ∷ l) = go (f e) (place_most f l)
  where
    go : (b : Bool) → place_where f l ≤ length l → cond b 0 (suc (place_where f l)) ≤ suc (length l)
    go true h = omega arith
    go false h = omega arith

module _ (f : Entry → Bool) (l : List ℕ) where
  place_is : place_where f (entries l) ≡ position_or_len f (entries l)
  unfolding place_where
  place_is = is_position_or_len (place_where f) f refl (λ e es. let q : suc (place_where f es) ≡ 1 + place_where f es = omega arith in ap (cond (f e) 0) q) (entries l)

  -- there is a place
  pub place_some : (i : ℕ) → position f (entries l) ≡ Some i → place_where f (entries l) ≡ i
  place_some i e =
      let at = position-Some f (entries l) i none_such e in
      place_is ∙ position_or_len_is f (entries l) i none_such (omega arith) at.2 (λ _. at.1)

  -- an entry stands there
  pub entry_found : (i : ℕ) → position f (entries l) ≡ Some i → 2 * i + 2 ≤ length l → drop (place_where f (entries l)) (entries l) ≡ lent_entry l i ∷ drop (i + 1) (entries l)
  entry_found i e h = rw (place_some i e) (entries-step l i h)

  -- none does
  pub entry-missing : position f (entries l) ≡ None → drop (place_where f (entries l)) (entries l) ≡ []
  entry-missing e =
      let q : length (entries l) ≤ position_or_len f (entries l) = past (position_or_len f (entries l)) (length (entries l)) e in
      rw place_is (drop_of_length-le (entries l) {i = position_or_len f (entries l)} q)

  -- the place, and the number of entries where there is none
  pub place_or : (n : ℕ) → length (entries l) ≡ n → unwrap_or (position f (entries l)) n ≡ place_where f (entries l)
  place_or n e = go (position f (entries l)) refl
    where
      go : (r : Option ℕ) → position f (entries l) ≡ r → unwrap_or r n ≡ place_where f (entries l)
      go (Some i) q = sym (place_some i q)
      go None q = omega (arith, past (position_or_len f (entries l)) (length (entries l)) q, place_most f (entries l), place_is)

-- an entry at the place: the packet is read at its mapped start
pub spot-found : (es : List Entry) (o : ℕ) (e : Entry) (r : List Entry) → drop (place_where (has o) es) es ≡ e ∷ r → spot_of es o ≡ mapped_to e.mapped
unfolding place_where spot_of
spot-found [] o e r h = let z : ◌≡◌ {A = ℕ} 0 1 = cc in absurd (omega arith)
spot-found (x ∷ l) o e r h = go (eqb x.original o) h (spot-found l o e r)
  where
    go : (b : Bool) → drop (cond b 0 (suc (place_where (has o) l))) (x ∷ l) ≡ e ∷ r → (drop (place_where (has o) l) l ≡ e ∷ r → spot_of l o ≡ mapped_to e.mapped) → cond b (mapped_to x.mapped) (spot_of l o) ≡ mapped_to e.mapped
    go true k f = let q : x ≡ e = cc in ap (λ (y : Entry). mapped_to y.mapped) q
    go false k f = f k

-- none: it is in its place
pub spot-missing : (es : List Entry) (o : ℕ) → drop (place_where (has o) es) es ≡ [] → spot_of es o ≡ in_place
unfolding place_where spot_of
spot-missing [] o h = refl
spot-missing (x ∷ l) o h = go (eqb x.original o) h (spot-missing l o)
  where
    go : (b : Bool) → drop (cond b 0 (suc (place_where (has o) l))) (x ∷ l) ≡ [] → (drop (place_where (has o) l) l ≡ [] → spot_of l o ≡ in_place) → cond b (mapped_to x.mapped) (spot_of l o) ≡ in_place
    go true k f = let z : ◌≡◌ {A = ℕ} 0 1 = cc in absurd (omega arith)
    go false k f = f k

-- the first entry of the original that no packet has is the first that is free
pub free-found : (es : List Entry) (e : Entry) (r : List Entry) (p : PhysicalAddress) → drop (place_where (has none) es) es ≡ e ∷ r → p.0 ≡ e.mapped → Some p ≡ free_in (free_of es)
unfolding place_where free_of is_free free_in
free-found [] e r p h m = let z : ◌≡◌ {A = ℕ} 0 1 = cc in absurd (omega arith)
free-found (x ∷ l) e r p h m = go (eqb x.original none) h (λ k. free-found l e r p k m)
  where
    go : (b : Bool) → drop (cond b 0 (suc (place_where (has none) l))) (x ∷ l) ≡ e ∷ r → (drop (place_where (has none) l) l ≡ e ∷ r → Some p ≡ free_in (free_of l)) → Some p ≡ free_in (cond b (x ∷ free_of l) (free_of l))
    go true k f = let q : e ≡ x = cc in ap (λ (n : ℕ). Some (record { 0 = n })) (m ∙ ap (λ (y : Entry). y.mapped) q)
    go false k f = f k

-- none is free
pub free-missing : (es : List Entry) → drop (place_where (has none) es) es ≡ [] → None ≡ free_in (free_of es)
unfolding place_where free_of is_free free_in
free-missing [] h = refl
free-missing (x ∷ l) h = go (eqb x.original none) h (free-missing l)
  where
    go : (b : Bool) → drop (cond b 0 (suc (place_where (has none) l))) (x ∷ l) ≡ [] → (drop (place_where (has none) l) l ≡ [] → None ≡ free_in (free_of l)) → None ≡ free_in (cond b (x ∷ free_of l) (free_of l))
    go true k f = let z : ◌≡◌ {A = ℕ} 0 1 = cc in absurd (omega arith)
    go false k f = f k

-- ---- where a packet is

-- the sector of a packet's first block
start-of-packet : (s : ℕ) (es : List Entry) (p : ℕ) → p % 32 ≡ 0 → locate s es p ≡ start_at (spot_of es p) s p
unfolding locate
start-of-packet s es p h =
    let k : packet_of p ≡ p = packet-own p h in
    rw (k) (omega arith)

-- by its entry
pub packet-mapped : (s : ℕ) (es : List Entry) (p : ℕ) (e : Entry) (r : List Entry) → p % 32 ≡ 0 → drop (place_where (has p) es) es ≡ e ∷ r → e.mapped ≡ locate s es p
unfolding start_at
packet-mapped s es p e r h q = sym (start-of-packet s es p h ∙ ap (λ (x : Spot). start_at x s p) (spot-found es p e r q))

-- without one
pub packet-in-place : (s : ℕ) (es : List Entry) (p : ℕ) → p % 32 ≡ 0 → drop (place_where (has p) es) es ≡ [] → s + p ≡ locate s es p
unfolding start_at
packet-in-place s es p h q = sym (start-of-packet s es p h ∙ ap (λ (x : Spot). start_at x s p) (spot-missing es p q))

-- ---- the free entry of lowest index, for those who cite it

-- there is one, and this is its mapped start
pub free-at : (l : List Entry) (m : PhysicalAddress) → Some m ≡ free_in l → (no_entry l ≡ false) × (m.0 ≡ first_free l)
unfolding free_in no_entry first_free
free-at [] m h = let z : ◌≡◌ {A = ℕ} 0 1 = cc in absurd (omega arith)
free-at (e ∷ l) m h = (refl, cc)

-- there is none
pub free-none : (l : List Entry) → None ≡ free_in l → no_entry l ≡ true
unfolding free_in no_entry
free-none [] h = refl
free-none (e ∷ l) h = let z : ◌≡◌ {A = ℕ} 0 1 = cc in absurd (omega arith)
