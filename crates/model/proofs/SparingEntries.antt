-- The entries of a sparing table: flat and back, used, defective and free ones, and their mapped starts. Assumes nothing.
use Prim.Native.Nat.{ℕ, zero, suc, ◌+◌, ◌*◌, ◌%◌, ◌≤◌, ◌<◌}
use mathlib.Core.Bool.{Bool, true, false, not, ◌&&◌, true≢false, false≢true}
use mathlib.Core.Logic.{◌≢◌, ◌⊎◌, inl, inr, ⊎_elim}
use mathlib.Core.Path.{◌≡◌, refl, sym, ap, ◌∙◌}
use mathlib.Core.List.{List, [], ◌∷◌, ◌++◌}
use native.Mathlib.Omega.{arith}
use lib.Dec.{leb, ltb, eqb}
use lib.ListN.{length, get_or}
use borrow.Author.Tests.{ltb-true, leb-true, eqb-true, eq-eqb, ne_eqb, lt-ltb, le-leb}
use Rattle.fields.specs.Number.{field, words}
use Rattle.maps.specs.Kinds.{absent}
use Rattle.model.specs.Vat.{none}
use Rattle.model.specs.Sparing.{Geometry, Entry, count_in, table_in, entries, flat, is_free, defective, is_defective, is_used, used_of, defective_of, free_of, original_fits, originals_fit, may_follow, ascending, apart_from, whole_packet, mapped_of, mapped_fit, original_clear, originals_clear, entries_fit, Spot, mapped_to, in_place, spot_of, first_free}
use Rattle.model.specs.Rewrite.{no_entry}
use Rattle.model.proofs.Basics.{and-true, and-false-left, both, by-eq, cond-elim, or_cases, or_left, or_right, other}
use Rattle.model.proofs.SparingLists.{In, absent-not-in, not-in-absent}

-- ---- flat and back

-- the entries of the numbers of some entries are those
pub entries-flat : (es : List Entry) → entries (flat es) ≡ es
unfolding entries flat
entries-flat [] = refl
entries-flat (e ∷ l) = ap (λ (x : List Entry). e ∷ x) (entries-flat l)

-- two numbers an entry
pub length-flat : (es : List Entry) → length (flat es) ≡ 2 * length es
unfolding flat
length-flat [] = refl
length-flat (e ∷ l) = omega (arith, length-flat l)

-- ---- what the copy rule says

-- its parts
record Rule (g : Geometry) (es : List Entry) : Type 0 where
  size : leb (56 + 8 * length es) g.size ≡ true
  originals : originals_fit g.span es ≡ true
  ascends : ascending es ≡ true
  mapped : mapped_fit g es ≡ true
  clear : originals_clear g.start (mapped_of es) es ≡ true

rule : (g : Geometry) (es : List Entry) → entries_fit g es ≡ true → Rule g es
unfolding entries_fit
rule g es h =
    let m : Bool = mapped_fit g es in
    let c : Bool = originals_clear g.start (mapped_of es) es in
    let a = and-true (leb (56 + 8 * length es) g.size) (originals_fit g.span es && (ascending es && (m && c))) h in
    let b = and-true (originals_fit g.span es) (ascending es && (m && c)) a.1 in
    let r = and-true (ascending es) (m && c) b.1 in
    let q = and-true m c r.1 in
    record { size = a.0; originals = b.0; ascends = r.0; mapped = q.0; clear = q.1 }

-- the entries fit the map's size
pub fits-size : (g : Geometry) (es : List Entry) → entries_fit g es ≡ true → 56 + 8 * length es ≤ g.size
fits-size g es h = leb-true (56 + 8 * length es) g.size (rule g es h).size

-- the originals fit
pub fits-originals : (g : Geometry) (es : List Entry) → entries_fit g es ≡ true → originals_fit g.span es ≡ true
fits-originals g es h = (rule g es h).originals

-- they ascend
pub fits-ascending : (g : Geometry) (es : List Entry) → entries_fit g es ≡ true → ascending es ≡ true
fits-ascending g es h = (rule g es h).ascends

-- the mapped starts fit
pub fits-mapped : (g : Geometry) (es : List Entry) → entries_fit g es ≡ true → mapped_fit g es ≡ true
fits-mapped g es h = (rule g es h).mapped

-- no original is a packet that is mapped
pub fits-clear : (g : Geometry) (es : List Entry) → entries_fit g es ≡ true → originals_clear g.start (mapped_of es) es ≡ true
fits-clear g es h = (rule g es h).clear

-- the rule from its parts
pub fits_all : (g : Geometry) (es : List Entry) → 56 + 8 * length es ≤ g.size → originals_fit g.span es ≡ true → ascending es ≡ true → mapped_fit g es ≡ true
    → originals_clear g.start (mapped_of es) es ≡ true → entries_fit g es ≡ true
unfolding entries_fit
fits_all g es size originals ascends mapped clear =
    both (le-leb (56 + 8 * length es) g.size size) (both originals (both ascends (both mapped clear)))

-- ---- originals

-- an original that fits is none, defective, or a multiple of 32 below L
pub original-cases {ℓ} : {P : Type ℓ} (n o : ℕ) → original_fits n o ≡ true → (o ≡ none → P) → (o ≡ defective → P) → (o % 32 ≡ 0 → o < n → P) → P
unfolding original_fits
original-cases n o h f d u =
    or_cases (eqb o none) _ h
    (λ q. f (eqb-true o none q))
    (λ r. or_cases (eqb o defective) _ r
    (λ q. d (eqb-true o defective q))
    (λ q. let p = and-true (eqb (o % 32) 0) (ltb o n) q in u (eqb-true (o % 32) 0 p.0) (ltb-true o n p.1)))

-- each of them fits
pub none-original : (n : ℕ) → original_fits n none ≡ true
unfolding original_fits
none-original n = or_left _ (eq-eqb none none refl)

pub defective-original : (n : ℕ) → original_fits n defective ≡ true
unfolding original_fits
defective-original n = or_right (eqb defective none) (or_left _ (eq-eqb defective defective refl))

pub packet-original : (n o : ℕ) → o % 32 ≡ 0 → o < n → original_fits n o ≡ true
unfolding original_fits
packet-original n o m l = or_right (eqb o none) (or_right (eqb o defective) (both (eq-eqb (o % 32) 0 m) (lt-ltb o n l)))

-- a multiple of 32 is neither
pub multiple-none : (p : ℕ) → p % 32 ≡ 0 → p ≢ none
unfolding none
multiple-none p h = omega arith

pub multiple-defective : (p : ℕ) → p % 32 ≡ 0 → p ≢ defective
unfolding defective
multiple-defective p h = omega arith

-- an entry is used, defective or free
pub entry-cases {ℓ} : {P : Type ℓ} (e : Entry) → (e.original ≡ none → P) → (e.original ≡ defective → P) → (e.original ≢ none → e.original ≢ defective → P) → P
entry-cases e f d u = by-eq e.original none f (λ a. by-eq e.original defective d (λ b. u a b))

-- what the tests say of it
pub free-means : (e : Entry) → is_free e ≡ true → e.original ≡ none
unfolding is_free
free-means e h = eqb-true e.original none h

pub defective-means : (e : Entry) → is_defective e ≡ true → e.original ≡ defective
unfolding is_defective
defective-means e h = eqb-true e.original defective h

pub used-means : (e : Entry) → is_used e ≡ true → (e.original ≢ none) × (e.original ≢ defective)
unfolding is_used is_free is_defective
used-means e h = (
  λ q. true≢false (sym h ∙ ap not (or_left _ (eq-eqb e.original none q))),
  λ q. true≢false (sym h ∙ ap not (or_right (eqb e.original none) (eq-eqb e.original defective q))),
)

-- and how they come out
module _ (e : Entry) where
  -- of a free one
  pub free-tests : e.original ≡ none → (is_free e ≡ true) × (is_defective e ≡ false) × (is_used e ≡ false)
  unfolding is_used is_free is_defective none defective
  free-tests q = (
    eq-eqb e.original none q,
    ne_eqb e.original defective (omega arith),
    ap not (or_left _ (eq-eqb e.original none q)),
  )

  -- of a defective one
  pub defective-tests : e.original ≡ defective → (is_free e ≡ false) × (is_defective e ≡ true) × (is_used e ≡ false)
  unfolding is_used is_free is_defective none defective
  defective-tests q = (
    ne_eqb e.original none (omega arith),
    eq-eqb e.original defective q,
    ap not (or_right (eqb e.original none) (eq-eqb e.original defective q)),
  )

  -- of a used one
  pub used-tests : e.original ≢ none → e.original ≢ defective → (is_free e ≡ false) × (is_defective e ≡ false) × (is_used e ≡ true)
  unfolding is_used is_free is_defective
  used-tests a b = (ne_eqb e.original none a, ne_eqb e.original defective b, rw (ne_eqb e.original none a, ne_eqb e.original defective b))

-- ---- which entry may follow which

-- a used one follows a lower original
pub used-follows : (o n : ℕ) → n ≢ none → n ≢ defective → may_follow o n ≡ true → o < n
unfolding may_follow
used-follows o n a b h =
    ltb-true o n
    (other (eqb n defective && not (eqb o none)) (ltb o n)
    (other (eqb n none) _ h (ne_eqb n none a))
    (and-false-left (not (eqb o none)) (ne_eqb n defective b)))

-- a defective one follows none that is free
pub defective-follows : (o : ℕ) → may_follow o defective ≡ true → o ≢ none
unfolding may_follow none defective
defective-follows o h q = false≢true (rw q at h)

-- and what may follow does
pub follows-lower : (o n : ℕ) → o < n → may_follow o n ≡ true
unfolding may_follow
follows-lower o n h = or_right (eqb n none) (or_right (eqb n defective && not (eqb o none)) (lt-ltb o n h))

pub follows-free : (o : ℕ) → may_follow o none ≡ true
unfolding may_follow
follows-free o = or_left _ (eq-eqb none none refl)

pub follows-defective : (o : ℕ) → o ≢ none → may_follow o defective ≡ true
unfolding may_follow
follows-defective o n = or_right (eqb defective none) (or_left _ (both (eq-eqb defective defective refl) (ap not (ne_eqb o none n))))

-- ---- used, then defective, then free

-- the first of two entries that ascend may stand before the second
pub ascending-first : (e f : Entry) (l : List Entry) → ascending (e ∷ f ∷ l) ≡ true → may_follow e.original f.original ≡ true
unfolding ascending
ascending-first e f l a = (and-true (may_follow e.original f.original) (ascending (f ∷ l)) a).0

-- all but the first ascend too
pub ascending-rest : (e : Entry) (l : List Entry) → ascending (e ∷ l) ≡ true → ascending l ≡ true
unfolding ascending
ascending-rest e [] a = refl
ascending-rest e (f ∷ l) a = (and-true (may_follow e.original f.original) (ascending (f ∷ l)) a).1

-- the first original fits, and those behind it
pub originals-first : (n : ℕ) (e : Entry) (l : List Entry) → originals_fit n (e ∷ l) ≡ true → (original_fits n e.original ≡ true) × (originals_fit n l ≡ true)
unfolding originals_fit
originals-first n e l h = and-true (original_fits n e.original) (originals_fit n l) h

-- an entry of a packet does not stand behind another kind
behind-other : (n : ℕ) (e f : Entry) (l : List Entry) → n ≤ 1048576 → 0xfffffff0 ≤ e.original → ascending (e ∷ f ∷ l) ≡ true → originals_fit n (f ∷ l) ≡ true → 0xfffffff0 ≤ f.original
unfolding none defective
behind-other n e f l s k a o =
    original-cases n f.original (originals-first n f l o).0
    (λ q. omega arith)
    (λ q. omega arith)
    (λ m b. absurd (omega (arith, used-follows e.original f.original (multiple-none f.original m) (multiple-defective f.original m) (ascending-first e f l a))))

-- behind a defective or a free entry none is used
none-used : (n : ℕ) (e : Entry) (l : List Entry) → n ≤ 1048576 → 0xfffffff0 ≤ e.original → ascending (e ∷ l) ≡ true → originals_fit n l ≡ true → used_of l ≡ []
unfolding used_of none defective
none-used n e [] s k a o = refl
none-used n e (f ∷ l) s k a o =
    let h : 0xfffffff0 ≤ f.original = behind-other n e f l s k a o in
    let r : used_of l ≡ [] = none-used n f l s h (ascending-rest e (f ∷ l) a) (originals-first n f l o).1 in
    original-cases n f.original (originals-first n f l o).0
    (λ q. rw (free-tests f q).2 r)
    (λ q. rw (defective-tests f q).2 r)
    (λ m b. absurd (omega arith))

-- behind a free one none is defective
none-defective : (n : ℕ) (e : Entry) (l : List Entry) → n ≤ 1048576 → e.original ≡ none → ascending (e ∷ l) ≡ true → originals_fit n l ≡ true → defective_of l ≡ []
unfolding defective_of none
none-defective n e [] s k a o = refl
none-defective n e (f ∷ l) s k a o =
    let low = behind-other n e f l s (omega arith) a o in
    original-cases n f.original (originals-first n f l o).0
    (λ q. rw (free-tests f q).1 (none-defective n f l s q (ascending-rest e (f ∷ l) a) (originals-first n f l o).1))
    (λ q. absurd (defective-follows e.original (rw q at (ascending-first e f l a)) k))
    (λ m b. absurd (omega arith))

-- the used entries are before the defective ones, and those before the free ones
parts-in-order : (n : ℕ) (es : List Entry) → n ≤ 1048576 → ascending es ≡ true → originals_fit n es ≡ true → es ≡ used_of es ++ (defective_of es ++ free_of es)
unfolding used_of defective_of free_of none defective
parts-in-order n [] s a o = refl
parts-in-order n (e ∷ l) s a o =
    let po = originals-first n e l o in
    let r : l ≡ used_of l ++ (defective_of l ++ free_of l) = parts-in-order n l s (ascending-rest e l a) po.1 in
    entry-cases e
    (λ q.
    let t = free-tests e q in
    let u = none-used n e l s (omega arith) a po.1 in
    let d = none-defective n e l s q a po.1 in
    let f : l ≡ free_of l = r ∙ (λ i. u i ++ (d i ++ free_of l)) in
    rw (t.2, t.1, t.0, u, d) (ap (λ (x : List Entry). e ∷ x) f))
    (λ q.
    let t = defective-tests e q in
    let u = none-used n e l s (omega arith) a po.1 in
    let f : l ≡ defective_of l ++ free_of l = r ∙ (λ i. u i ++ (defective_of l ++ free_of l)) in
    rw (t.2, t.1, t.0, u) (ap (λ (x : List Entry). e ∷ x) f))
    (λ x y.
    let t = used-tests e x y in
    rw (t.2, t.1, t.0) (ap (λ (x : List Entry). e ∷ x) r))

-- a table that fits is its used entries, then its defective ones, and then its free ones
pub three-parts : (g : Geometry) (es : List Entry) → entries_fit g es ≡ true → g.span ≤ 1048576 → es ≡ used_of es ++ (defective_of es ++ free_of es)
three-parts g es h s = parts-in-order g.span es s (fits-ascending g es h) (fits-originals g es h)

-- ---- mapped starts

-- the parts of the rule for the first entry, and the rule for the others
pub mapped-first : (g : Geometry) (e : Entry) (l : List Entry) → mapped_fit g (e ∷ l) ≡ true → (whole_packet g e.mapped ≡ true) × (apart_from e.mapped g.tables ≡ true) × (absent e.mapped (mapped_of l) ≡ true) × (mapped_fit g l ≡ true)
unfolding mapped_fit
mapped-first g e l h =
    let a = and-true (whole_packet g e.mapped) (apart_from e.mapped g.tables && (absent e.mapped (mapped_of l) && mapped_fit g l)) h in
    let b = and-true (apart_from e.mapped g.tables) (absent e.mapped (mapped_of l) && mapped_fit g l) a.1 in
    let c = and-true (absent e.mapped (mapped_of l)) (mapped_fit g l) b.1 in
    (a.0, b.0, c.0, c.1)

-- the rule from its parts
pub mapped-cons : (g : Geometry) (e : Entry) (l : List Entry) → whole_packet g e.mapped ≡ true → apart_from e.mapped g.tables ≡ true → (In e.mapped (mapped_of l) → ⊥) → mapped_fit g l ≡ true → mapped_fit g (e ∷ l) ≡ true
unfolding mapped_fit
mapped-cons g e l a b c d =
    both a
    (both b
    (both (not-in-absent e.mapped (mapped_of l) c) d))

-- each is a whole packet of the disc
pub mapped-whole : (g : Geometry) (es : List Entry) (m : ℕ) → mapped_fit g es ≡ true → In m (mapped_of es) → whole_packet g m ≡ true
unfolding mapped_of
mapped-whole g [] m h i = absurd i
mapped-whole g (e ∷ l) m h (inl q) = rw q (mapped-first g e l h).0
mapped-whole g (e ∷ l) m h (inr i) = mapped-whole g l m (mapped-first g e l h).3 i

-- and apart from every table's packet
pub mapped-apart : (g : Geometry) (es : List Entry) (m : ℕ) → mapped_fit g es ≡ true → In m (mapped_of es) → apart_from m g.tables ≡ true
unfolding mapped_of
mapped-apart g [] m h i = absurd i
mapped-apart g (e ∷ l) m h (inl q) = rw q (mapped-first g e l h).1
mapped-apart g (e ∷ l) m h (inr i) = mapped-apart g l m (mapped-first g e l h).3 i

-- that of the entry at a place is one of them
pub in-mapped : (es : List Entry) (i : ℕ) (x : Entry) → i < length es → In (get_or es i x).mapped (mapped_of es)
unfolding mapped_of
in-mapped [] i x l = absurd (omega arith)
in-mapped (e ∷ es) zero x l = inl refl
in-mapped (e ∷ es) (suc i) x l = inr (in-mapped es i x (omega arith))

-- so what holds of each entry's holds of each
pub mapped-each : (f : ℕ → Bool) (es : List Entry) (x : Entry) → ((i : ℕ) → i < length es → f (get_or es i x).mapped ≡ true) → (m : ℕ) → In m (mapped_of es) → f m ≡ true
unfolding mapped_of
mapped-each f [] x h m i = absurd i
mapped-each f (e ∷ es) x h m (inl q) = ap f q ∙ h 0 (omega arith)
mapped-each f (e ∷ es) x h m (inr i) = mapped-each f es x (λ j l. h (suc j) (omega arith)) m i

-- ---- originals that are no mapped packet (02, slip 8)

-- a used one's place is none of those
pub clear_at : (s : ℕ) (ms : List ℕ) (es : List Entry) (i : ℕ) (x : Entry) → originals_clear s ms es ≡ true → i < length es → is_used (get_or es i x) ≡ true
    → absent (s + (get_or es i x).original) ms ≡ true
unfolding originals_clear original_clear
clear_at s ms [] i x h l u = absurd (omega arith)
clear_at s ms (e ∷ es) zero x h l u =
    other (not (is_used e)) (absent (s + e.original) ms) (and-true (original_clear s ms e) (originals_clear s ms es) h).0 (ap not u)
clear_at s ms (e ∷ es) (suc i) x h l u = clear_at s ms es i x (and-true (original_clear s ms e) (originals_clear s ms es) h).1 (omega arith) u

-- where no place of the partition is one of those, all are clear
pub clear-away : (s n : ℕ) (ms : List ℕ) (es : List Entry) → originals_fit n es ≡ true → ((q : ℕ) → q < n → absent (s + q) ms ≡ true) → originals_clear s ms es ≡ true
unfolding originals_clear original_clear
clear-away s n ms [] o h = refl
clear-away s n ms (e ∷ es) o h =
    let p = originals-first n e es o in
    both
    (original-cases n e.original p.0
    (λ q. or_left _ (ap not (free-tests e q).2))
    (λ q. or_left _ (ap not (defective-tests e q).2))
    (λ m l. or_right (not (is_used e)) (h e.original l)))
    (clear-away s n ms es p.1 h)

-- the first entry is the packet's
pub spot-here : (e : Entry) (l : List Entry) (p : ℕ) → e.original ≡ p → spot_of (e ∷ l) p ≡ mapped_to e.mapped
unfolding spot_of
spot-here e l p h = rw (eq-eqb e.original p h)

-- the first entry is another packet's
pub spot-next : (e : Entry) (l : List Entry) (p : ℕ) → e.original ≢ p → spot_of (e ∷ l) p ≡ spot_of l p
unfolding spot_of
spot-next e l p h = rw (ne_eqb e.original p h)

-- a packet without an entry has neither the first nor a later one
pub spot-none : (e : Entry) (l : List Entry) (p : ℕ) → spot_of (e ∷ l) p ≡ in_place → (e.original ≢ p) × (spot_of l p ≡ in_place)
spot-none e l p h = by-eq e.original p
    (λ q. absurd (let k = spot-here e l p q in let z : ◌≡◌ {A = ℕ} 0 1 = cc in omega arith))
    (λ n. (n, sym (spot-next e l p n) ∙ h))

-- the spot of a packet is one of the mapped starts
pub spot_in : (es : List Entry) (p m : ℕ) → spot_of es p ≡ mapped_to m → In m (mapped_of es)
unfolding spot_of mapped_of
spot_in [] p m h = absurd (let z : ◌≡◌ {A = ℕ} 0 1 = cc in omega arith)
spot_in (e ∷ l) p m h =
    cond-elim (λ (z : Spot). z ≡ mapped_to m → In m (mapped_of (e ∷ l))) (eqb e.original p)
    (λ _ q. inl (cc))
    (λ _ q. inr (spot_in l p m q))
    h

not-again : (g : Geometry) (e : Entry) (l : List Entry) (q m : ℕ) → mapped_fit g (e ∷ l) ≡ true → mapped_to e.mapped ≡ mapped_to m → spot_of l q ≡ mapped_to m → ⊥
not-again g e l q m h a b =
    let c : spot_of l q ≡ mapped_to e.mapped = cc in
    absent-not-in e.mapped (mapped_of l) (mapped-first g e l h).2 (spot_in l q e.mapped c)

-- two packets have not one spot
pub spots-apart : (g : Geometry) (es : List Entry) (p q m : ℕ) → mapped_fit g es ≡ true → spot_of es p ≡ mapped_to m → spot_of es q ≡ mapped_to m → p ≡ q
unfolding spot_of
spots-apart g [] p q m h a b = absurd (let z : ◌≡◌ {A = ℕ} 0 1 = cc in omega arith)
spots-apart g (e ∷ l) p q m h a b =
    cond-elim (λ (z : Spot). z ≡ mapped_to m → p ≡ q) (eqb e.original p)
    (λ ep ap. cond-elim (λ (z : Spot). z ≡ mapped_to m → p ≡ q) (eqb e.original q)
    (λ eq bq. omega (arith, eqb-true e.original p ep, eqb-true e.original q eq))
    (λ _ bq. absurd (not-again g e l q m h ap bq))
    b)
    (λ _ ap. cond-elim (λ (z : Spot). z ≡ mapped_to m → p ≡ q) (eqb e.original q)
    (λ _ bq. absurd (not-again g e l p m h bq ap))
    (λ _ bq. spots-apart g l p q m (mapped-first g e l h).3 ap bq)
    b)
    a

-- an entry of some kind maps k
abbrev pub Maps : (Entry → Bool) → ℕ → List Entry → Type 0
Maps f k [] = ⊥
Maps f k (e ∷ l) = ((f e ≡ true) × (k ≡ e.mapped)) ⊎ Maps f k l

-- it is one of the mapped starts
pub maps-in : (f : Entry → Bool) (k : ℕ) (es : List Entry) → Maps f k es → In k (mapped_of es)
unfolding mapped_of
maps-in f k [] i = i
maps-in f k (e ∷ l) (inl q) = inl q.1
maps-in f k (e ∷ l) (inr i) = inr (maps-in f k l i)

-- of a kind that is no packet's, it is not that of a packet
pub spot-not-kind : (f : Entry → Bool) (g : Geometry) (es : List Entry) (p m k : ℕ) → mapped_fit g es ≡ true → ((e : Entry) → f e ≡ true → e.original ≢ p)
    → Maps f k es → spot_of es p ≡ mapped_to m → m ≢ k
spot-not-kind f g [] p m k h n i a = absurd i
spot-not-kind f g (e ∷ l) p m k h n (inl (w, q)) a = λ z.
    let y : e.mapped ≡ m = sym (z ∙ q) in
    absent-not-in e.mapped (mapped_of l) (mapped-first g e l h).2 (rw y (spot_in l p m (sym (spot-next e l p (n e w)) ∙ a)))
spot-not-kind f g (e ∷ l) p m k h n (inr i) a =
    by-eq e.original p
    (λ q z.
    let s : mapped_to e.mapped ≡ mapped_to m = sym (spot-here e l p q) ∙ a in
    let t : e.mapped ≡ k = cc in
    absent-not-in e.mapped (mapped_of l) (mapped-first g e l h).2 (rw t (maps-in f k l i)))
    (λ q. spot-not-kind f g l p m k (mapped-first g e l h).3 n i (sym (spot-next e l p q) ∙ a))

-- the free entries, and that of lowest index among them
pub free-maps : (es : List Entry) (k : ℕ) → In k (mapped_of (free_of es)) → Maps is_free k es
unfolding free_of mapped_of
free-maps [] k i = i
free-maps (e ∷ l) k i =
    cond-elim (λ (f : List Entry). In k (mapped_of f) → Maps is_free k (e ∷ l)) (is_free e)
    (λ w j. ⊎_elim (λ q. inl (w, q)) (λ q. inr (free-maps l k q)) j)
    (λ _ j. inr (free-maps l k j))
    i

pub first-free : (f : List Entry) → no_entry f ≡ false → In (first_free f) (mapped_of f)
unfolding first_free no_entry mapped_of
first-free [] h = absurd (true≢false h)
first-free (e ∷ l) h = inl refl

pub free_in_law : (es : List Entry) → no_entry (free_of es) ≡ false → In (first_free (free_of es)) (mapped_of es)
free_in_law es h = maps-in is_free (first_free (free_of es)) es (free-maps es (first_free (free_of es)) (first-free (free_of es) h))

-- the defective ones
pub defective-maps : (es : List Entry) (k : ℕ) → In k (mapped_of (defective_of es)) → Maps is_defective k es
unfolding defective_of mapped_of
defective-maps [] k i = i
defective-maps (e ∷ l) k i =
    cond-elim (λ (d : List Entry). In k (mapped_of d) → Maps is_defective k (e ∷ l)) (is_defective e)
    (λ w j. ⊎_elim (λ q. inl (w, q)) (λ q. inr (defective-maps l k q)) j)
    (λ _ j. inr (defective-maps l k j))
    i

defective-in : (es : List Entry) (k : ℕ) → In k (mapped_of (defective_of es)) → In k (mapped_of es)
defective-in es k i = maps-in is_defective k es (defective-maps es k i)

-- a defective spare is not the free entry of lowest index
pub free-not-defective : (g : Geometry) (es : List Entry) (k : ℕ) → mapped_fit g es ≡ true → no_entry (free_of es) ≡ false → In k (mapped_of (defective_of es)) → first_free (free_of es) ≢ k
unfolding free_of defective_of first_free no_entry mapped_of
free-not-defective g [] k h s i = absurd i
free-not-defective g (e ∷ l) k h s i =
    let f = mapped-first g e l h in
    let away = absent-not-in e.mapped (mapped_of l) f.2 in
    entry-cases e
    (λ q.
    let t = free-tests e q in
    let j : In k (mapped_of (defective_of l)) = rw t.1 at i in
    rw t.0 (λ z. away (rw z (defective-in l k j))))
    (λ q.
    let t = defective-tests e q in
    let n : no_entry (free_of l) ≡ false = rw t.0 at s in
    let j : In k (mapped_of (e ∷ defective_of l)) = rw t.1 at i in
    rw t.0
    (⊎_elim (λ p z. let y : e.mapped ≡ first_free (free_of l) = sym (z ∙ p) in away (rw y (free_in_law l n))) (λ p. free-not-defective g l k f.3 n p) j))
    (λ a b.
    let t = used-tests e a b in
    let n : no_entry (free_of l) ≡ false = rw t.0 at s in
    let j : In k (mapped_of (defective_of l)) = rw t.1 at i in
    rw t.0 (free-not-defective g l k f.3 n j))

-- ---- a table as it is read

-- two numbers of 4 bytes an entry
entries-words : (b : List ℕ) (at n : ℕ) → (flat (entries (words b at (2 * n))) ≡ words b at (2 * n)) × (length (entries (words b at (2 * n))) ≡ n)
unfolding entries flat words
entries-words b at zero = (refl, refl)
entries-words b at (suc n) =
    let e : 2 * suc n ≡ suc (suc (2 * n)) = omega arith in
    let r = entries-words b (at + 4 + 4) n in
    rw e
    (ap (λ (l : List ℕ). field b at 4 ∷ field b (at + 4) 4 ∷ l) r.0, ap suc r.1)

-- the numbers of a table's entries are the table
pub flat-table : (b : List ℕ) → flat (entries (table_in b)) ≡ table_in b
unfolding table_in
flat-table b = (entries-words b 56 (count_in b)).0

-- and there are as many as it says
pub table-count : (b : List ℕ) → length (entries (table_in b)) ≡ count_in b
unfolding table_in
table-count b = (entries-words b 56 (count_in b)).1
