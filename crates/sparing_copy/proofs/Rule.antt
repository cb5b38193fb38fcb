-- Laws of the copy rule, an entry at a time (document 01, "The sparing table"). Assumes nothing.
use Rattle.std.proofs.Common.{◌≡◌, ℕ, zero, suc, ◌+◌, ◌*◌, ◌<◌, ◌≤◌, Bool, true, false, not, ◌&&◌, eqb, leb, List, [], ◌∷◌, length, drop, sym, refl, ap, ◌∙◌, arith, drop-drop, eq-eqb, ne_eqb, le-leb}
use borrow.Author.Tests.{lt-leb, not-true}
use Rattle.fields.specs.Number.{field}
use Rattle.fields.specs.Regid.{has_regid}
use Rattle.maps.specs.Kinds.{absent}
use Rattle.fields.proofs.Tests.{fails, holds}
use Rattle.model.specs.Vat.{none}
use Rattle.model.specs.Sparing.{Geometry, Entry, defective, is_free, is_defective, is_used, original_fits, originals_fit, may_follow, ascending, apart_from, whole_packet, mapped_of, mapped_fit, original_clear, originals_clear, sparing_name, older_name, entries, entries_fit, count_in, table_in, none_defective, named, copy_fits}
use Rattle.model.specs.Both.{spare_entries}
use Rattle.model.proofs.Basics.{and-true, both, and-false, and-false-left, differ, or_left}
use Rattle.model.proofs.SparingLaws.{table-count, clear-away}
use Rattle.sparing_copy.specs.Entries.{entries_in, placed, packets_fit}
use Rattle.sparing_copy.specs.Slots.{inside, none_inside}
use Rattle.sparing_copy.proofs.Places.{inside-here}
use Rattle.sparing_copy.proofs.Entries.{sector-table, length-spares}

-- tests in a row, grouped the other way
and_assoc : (a b c : Bool) → (a && b) && c ≡ a && (b && c)
and_assoc true b c = refl
and_assoc false b c = refl

-- a test, with none after it
pub and-end : (a : Bool) → a ≡ a && true
and-end true = refl
and-end false = refl

-- what was found, after one more test: where it holds there is one, and else what was found stays
module _ (a b t r whole : Bool) (w : (a && not t) && r ≡ whole) where
  pub scan-found : b ≡ false → t ≡ true → b && r ≡ whole
  scan-found e q = ap (λ (x : Bool). x && r) (e ∙ sym (and-false a (ap not q))) ∙ w

  pub scan-next : b ≡ a → t ≡ false → b && r ≡ whole
  scan-next e q = ap (λ (x : Bool). x && r) (e ∙ and-end a ∙ ap (λ (x : Bool). a && x) (sym (ap not q))) ∙ w

-- ---- no entry is left

module _ (es : List Entry) (i : ℕ) (h : drop i es ≡ []) where
  pub originals-end : (l : ℕ) → true ≡ originals_fit l (drop i es)
  unfolding originals_fit
  originals-end l = sym (ap (originals_fit l) h)

  -- what was found of a rule is the whole answer
  found-end : (rule : List Entry → Bool) → true ≡ rule [] → (a whole : Bool) → a && rule (drop i es) ≡ whole → a ≡ whole
  found-end rule z a whole w = and-end a ∙ ap (λ (x : Bool). a && x) (z ∙ sym (ap rule h)) ∙ w

  -- so of the mapped starts
  pub absent-end : (m : ℕ) (a whole : Bool) → a && absent m (mapped_of (drop i es)) ≡ whole → a ≡ whole
  unfolding absent mapped_of
  absent-end m = found-end (λ l. absent m (mapped_of l)) refl

  -- and of the defective spares
  pub defective-end : (a whole : Bool) → a && none_defective (drop i es) ≡ whole → a ≡ whole
  unfolding none_defective
  defective-end = found-end none_defective refl

  -- and of those in the partition
  pub inside-end : (s l : ℕ) (a whole : Bool) → a && none_inside s l (drop i es) ≡ whole → a ≡ whole
  unfolding none_inside
  inside-end s l = found-end (none_inside s l) refl

  pub mapped_end : (g : Geometry) → true ≡ mapped_fit g (drop i es)
  unfolding mapped_fit
  mapped_end g = sym (ap (mapped_fit g) h)

  pub clear-end : (s : ℕ) (ms : List ℕ) → true ≡ originals_clear s ms (drop i es)
  unfolding originals_clear
  clear-end s ms = sym (ap (originals_clear s ms) h)

-- one entry is left at most
pub ascending-end : (es : List Entry) (i : ℕ) → drop (i + 1) es ≡ [] → true ≡ ascending (drop i es)
unfolding ascending
ascending-end es i h = go (drop i es) (drop-drop 1 i es ∙ h)
  where
    go : (l : List Entry) → drop 1 l ≡ [] → true ≡ ascending l
    go [] q = refl
    go (e ∷ []) q = refl
    go (e ∷ f ∷ l) q = cc

-- ---- the entry e is next

module _ (es : List Entry) (i : ℕ) (e : Entry) (h : drop i es ≡ e ∷ drop (i + 1) es) where
  -- its original does not fit
  pub originals-off : (l o : ℕ) → o ≡ e.original → original_fits l o ≡ false → false ≡ originals_fit l (drop i es)
  unfolding originals_fit
  originals-off l o s q = sym (ap (originals_fit l) h ∙ rw (← s, q))

  -- it does
  pub originals-next : (l o : ℕ) → o ≡ e.original → original_fits l o ≡ true → originals_fit l (drop (i + 1) es) ≡ originals_fit l (drop i es)
  unfolding originals_fit
  originals-next l o s q = sym (ap (originals_fit l) h ∙ rw (← s, q))

  -- its packet is one of ms
  pub clear-off : (s : ℕ) (ms : List ℕ) (r : Bool) → r ≡ original_clear s ms e → r ≡ false → false ≡ originals_clear s ms (drop i es)
  unfolding originals_clear
  clear-off s ms r p q = sym (ap (originals_clear s ms) h ∙ rw (← p, q))

  -- it is not
  pub clear_next : (s : ℕ) (ms : List ℕ) (r : Bool) → r ≡ original_clear s ms e → r ≡ true → originals_clear s ms (drop (i + 1) es) ≡ originals_clear s ms (drop i es)
  unfolding originals_clear
  clear_next s ms r p q = sym (ap (originals_clear s ms) h ∙ rw (← p, q))

  -- whether a holds and the entries left follow a rule, which asks t of this one
  found-next : (rule : List Entry → Bool) (a t whole : Bool) → rule (e ∷ drop (i + 1) es) ≡ t && rule (drop (i + 1) es) → a && rule (drop i es) ≡ whole → (a && t) && rule (drop (i + 1) es) ≡ whole
  found-next rule a t whole q w = and_assoc a t _ ∙ ap (λ (x : Bool). a && x) (sym (ap rule h ∙ q)) ∙ w

  -- whether a holds and none of the entries left, of which this is mapped to k, is mapped to m
  pub absent-next : (m k : ℕ) → k ≡ e.mapped → (a whole : Bool) → a && absent m (mapped_of (drop i es)) ≡ whole → (a && not (eqb m k)) && absent m (mapped_of (drop (i + 1) es)) ≡ whole
  unfolding absent mapped_of
  absent-next m k s a whole w = found-next (λ l. absent m (mapped_of l)) a (not (eqb m k)) whole (rw s) w

  -- whether a holds and none of the entries left, of which this has original o, is defective
  pub defective-next : (o : ℕ) → o ≡ e.original → (a whole : Bool) → a && none_defective (drop i es) ≡ whole → (a && not (eqb o 0xfffffff0)) && none_defective (drop (i + 1) es) ≡ whole
  unfolding none_defective is_defective defective
  defective-next o s a whole w = found-next none_defective a (not (eqb o 0xfffffff0)) whole (rw s) w

  -- whether a holds and none of the entries left, of which this is mapped to m, is mapped into the partition
  pub inside-next : (s l m : ℕ) → m ≡ e.mapped → (r a whole : Bool) → r ≡ inside s l m → a && none_inside s l (drop i es) ≡ whole → (a && not r) && none_inside s l (drop (i + 1) es) ≡ whole
  unfolding none_inside
  inside-next s l m em r a whole q w = found-next (none_inside s l) a (not r) whole (rw (q, em)) w

  -- the rule for it, its place first
  grouped : (g : Geometry) (m : ℕ) → m ≡ e.mapped → mapped_fit g (drop i es) ≡ placed g m && (absent m (mapped_of (drop (i + 1) es)) && mapped_fit g (drop (i + 1) es))
  unfolding mapped_fit placed
  grouped g m s =
      ap (mapped_fit g) h
      ∙ rw (← s) (sym (and_assoc (whole_packet g m) (apart_from m g.tables) (absent m (mapped_of (drop (i + 1) es)) && mapped_fit g (drop (i + 1) es))))

  -- its mapped start is no spare's
  pub mapped-off : (g : Geometry) (m : ℕ) → m ≡ e.mapped → (r : Bool) → r ≡ placed g m → r ≡ false → false ≡ mapped_fit g (drop i es)
  mapped-off g m s r p q = sym (grouped g m s ∙ rw (← p, q))

  -- its mapped start stands again behind it
  pub mapped-twice : (g : Geometry) (m : ℕ) → m ≡ e.mapped → (r a : Bool) → r ≡ placed g m → r ≡ true → a ≡ absent m (mapped_of (drop (i + 1) es)) → a ≡ false → false ≡ mapped_fit g (drop i es)
  mapped-twice g m s r a p q u v = sym (grouped g m s ∙ rw (← p, q, ← u, v))

  -- neither
  pub mapped_next : (g : Geometry) (m : ℕ) → m ≡ e.mapped → (r a : Bool) → r ≡ placed g m → r ≡ true → a ≡ absent m (mapped_of (drop (i + 1) es)) → a ≡ true → mapped_fit g (drop (i + 1) es) ≡ mapped_fit g (drop i es)
  mapped_next g m s r a p q u v = sym (grouped g m s ∙ rw (← p, q, ← u, v))

-- ---- the entry e is next, and the entry f after it at place j

module _ (es : List Entry) (i j : ℕ) (e f : Entry) (h : drop i es ≡ e ∷ drop j es) (k : drop j es ≡ f ∷ drop (j + 1) es) (o p : ℕ) (s : o ≡ e.original) (t : p ≡ f.original) where
  -- f does not follow it
  pub ascending-off : may_follow o p ≡ false → false ≡ ascending (drop i es)
  unfolding ascending
  ascending-off q = sym (ap ascending (h ∙ ap (λ (x : List Entry). e ∷ x) k) ∙ rw (← s, ← t, q))

  -- it does
  pub ascending-next : may_follow o p ≡ true → ascending (drop j es) ≡ ascending (drop i es)
  unfolding ascending
  ascending-next q =
      let w : may_follow e.original f.original ≡ true = rw (← s, ← t) q in
      ap ascending k ∙ sym (ap ascending (h ∙ ap (λ (x : List Entry). e ∷ x) k) ∙ ap (λ (a : Bool). a && ascending (f ∷ drop (j + 1) es)) w)

-- where entries from a place on do not fit, all do not
pub mapped-rest : (g : Geometry) (es : List Entry) (i : ℕ) → false ≡ mapped_fit g (drop i es) → false ≡ mapped_fit g es
unfolding mapped_fit
mapped-rest g es zero q = q
mapped-rest g [] (suc i) q = q
mapped-rest g (e ∷ es) (suc i) q =
    sym (and-false (whole_packet g e.mapped) (and-false (apart_from e.mapped g.tables) (and-false (absent e.mapped (mapped_of es)) (sym (mapped-rest g es i q)))))

-- ---- the packet of an entry, against the packets ms

module _ (s : ℕ) (ms : List ℕ) (e : Entry) where
  -- of one that is used
  pub clear-used : is_used e ≡ true → (m : ℕ) → m ≡ s + e.original → (r : Bool) → r ≡ absent m ms → r ≡ original_clear s ms e
  unfolding original_clear
  clear-used q m w r p = rw (q, ← w) p

-- where no entry maps into the partition no place of it is a mapped start
none_inside_law : (s l q : ℕ) (es : List Entry) → none_inside s l es ≡ true → q < l → absent (s + q) (mapped_of es) ≡ true
unfolding none_inside mapped_of absent
none_inside_law s l q [] h k = refl
none_inside_law s l q (e ∷ es) h k =
    let p = and-true (not (inside s l e.mapped)) (none_inside s l es) h in
    both
    (ap not (ne_eqb (s + q) e.mapped (λ z. differ (ap (inside s l) (sym z) ∙ inside-here s l q k) (not-true _ p.0))))
    (none_inside_law s l q es p.1 k)

module _ (g : Geometry) (es : List Entry) where
  -- the mapped starts do not fit
  pub packets-off : mapped_fit g es ≡ false → false ≡ packets_fit g es
  unfolding packets_fit
  packets-off m = fails _ m

  -- they do, and none is in the partition
  pub packets-apart : originals_fit g.span es ≡ true → mapped_fit g es ≡ true → none_inside g.start g.span es ≡ true → true ≡ packets_fit g es
  unfolding packets_fit
  packets-apart o m n = holds m (sym (clear-away g.start g.span (mapped_of es) es o (λ q. none_inside_law g.start g.span q es n)))

  -- else the packets of used entries decide
  pub packets-clear : mapped_fit g es ≡ true → (r : Bool) → r ≡ originals_clear g.start (mapped_of es) es → r ≡ packets_fit g es
  unfolding packets_fit
  packets-clear m r q = holds m q

-- ---- the names of a copy

module _ (b : List ℕ) where
  -- the newer one
  pub named-newer : has_regid b 16 sparing_name ≡ true → true ≡ named b
  unfolding named
  named-newer q = sym (or_left _ q)

  module _ (other : has_regid b 16 sparing_name ≡ false) where
    -- neither
    pub named-neither : has_regid b 16 older_name ≡ false → false ≡ named b
    unfolding named
    named-neither q = rw (other, q)

    -- the older one: by its n entries
    pub named-older : has_regid b 16 older_name ≡ true → (n : ℕ) → n ≡ count_in b → (r : Bool) → r ≡ none_defective (entries_in b n) → r ≡ named b
    unfolding named
    named-older q n count r d = d ∙ ap none_defective (ap (entries_in b) count ∙ sector-table b) ∙ rw (other, q)

-- ---- a copy, test by test

module _ (g : Geometry) (b : List ℕ) where
  -- bytes 0 and 1 are not 0
  pub copy-tag : (field b 0 2 ≡ 0 → ⊥) → false ≡ copy_fits g b
  unfolding copy_fits
  copy-tag e = fails _ (ne_eqb _ _ e)

  module _ (tag : field b 0 2 ≡ 0) (n : ℕ) (count : n ≡ count_in b) where
    -- the rest is the name and the rule over n entries
    rest : (r : Bool) → r ≡ named b && (leb (56 + 8 * n) g.size && (originals_fit g.span (entries_in b n) && (ascending (entries_in b n) && packets_fit g (entries_in b n)))) → r ≡ copy_fits g b
    unfolding copy_fits entries_fit packets_fit
    rest r q =
        let es : entries_in b n ≡ entries (table_in b) = ap (entries_in b) count ∙ sector-table b in
        let l : n ≡ length (entries (table_in b)) = count ∙ sym (table-count b) in
        holds (eq-eqb _ _ tag) (q ∙ rw (es, l))

    -- more entries than fit the map's size
    pub copy-long : g.size < 56 + 8 * n → false ≡ copy_fits g b
    copy-long h = rest false (sym (and-false (named b) (and-false-left _ (lt-leb _ _ h))))

    -- it is not named as a table
    pub copy_name : named b ≡ false → false ≡ copy_fits g b
    copy_name q = rest false (fails _ q)

    module _ (short : 56 + 8 * n ≤ g.size) (name : named b ≡ true) where
      -- an original does not fit
      pub copy-originals : originals_fit g.span (entries_in b n) ≡ false → false ≡ copy_fits g b
      copy-originals o = rest false (holds name (holds (le-leb _ _ short) (fails _ o)))

      -- they do not ascend
      pub copy-ascending : originals_fit g.span (entries_in b n) ≡ true → ascending (entries_in b n) ≡ false → false ≡ copy_fits g b
      copy-ascending o a = rest false (holds name (holds (le-leb _ _ short) (holds o (fails _ a))))

      -- they do
      pub copy-packets : originals_fit g.span (entries_in b n) ≡ true → ascending (entries_in b n) ≡ true → (r : Bool) → r ≡ packets_fit g (entries_in b n) → r ≡ copy_fits g b
      copy-packets o a r q = rest r (holds name (holds (le-leb _ _ short) (holds o (holds a q))))

-- ---- a list of spares

-- they are free, so that their originals fit and ascend
spares-free : (l : ℕ) (s : List ℕ) → originals_fit l (spare_entries s) ≡ true
unfolding originals_fit original_fits spare_entries none
spares-free l [] = refl
spares-free l (m ∷ s) = spares-free l s

spares-ascend : (s : List ℕ) → ascending (spare_entries s) ≡ true
unfolding ascending may_follow spare_entries none
spares-ascend [] = refl
spares-ascend (m ∷ []) = refl
spares-ascend (m ∷ k ∷ s) = spares-ascend (k ∷ s)

-- and none has a packet
spares-clear : (s : ℕ) (ms l : List ℕ) → originals_clear s ms (spare_entries l) ≡ true
unfolding originals_clear original_clear is_used is_free is_defective spare_entries none
spares-clear s ms [] = refl
spares-clear s ms (m ∷ l) = spares-clear s ms l

-- more than fit the map's size
pub spares-long : (g : Geometry) (s : List ℕ) → g.size < 56 + 8 * length s → false ≡ entries_fit g (spare_entries s)
unfolding entries_fit
spares-long g s h = fails _ (lt-leb (56 + 8 * length (spare_entries s)) g.size (omega (arith, length-spares s)))

-- no more
pub spares-short : (g : Geometry) (s : List ℕ) (r : Bool) → 56 + 8 * length s ≤ g.size → r ≡ mapped_fit g (spare_entries s) → r ≡ entries_fit g (spare_entries s)
unfolding entries_fit
spares-short g s r h q =
    holds (le-leb (56 + 8 * length (spare_entries s)) g.size (omega (arith, length-spares s)))
    (holds (spares-free g.span s)
    (holds (spares-ascend s)
    (q ∙ and-end _ ∙ ap (λ (x : Bool). mapped_fit g (spare_entries s) && x) (sym (spares-clear g.start (mapped_of (spare_entries s)) s)))))
