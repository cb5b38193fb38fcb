-- Sparing a packet on a rewritable disc keeps the invariant, wherever it is cut: it is done exactly if a new table copy is whole.
-- Assumes nothing.
use Prim.Native.Nat.{ℕ, ◌+◌, ◌*◌, ◌%◌, ◌≤◌, ◌<◌}
use mathlib.Core.Bool.{true, false, false≢true}
use mathlib.Core.Logic.{◌≢◌, ◌⊎◌, inl, inr}
use mathlib.Core.Path.{◌≡◌, refl, sym, ap, ap₂, subst, ◌∙◌}
use mathlib.Core.List.{List, [], ◌∷◌, ◌++◌, append_assoc}
use native.Mathlib.Omega.{arith}
use lib.Dec.{leb, eqb}
use lib.ListN.{length, get_or, drop, length-append}
use lib.Seq.{take_at}
use borrow.Author.Tests.{leb-true, ltb-true, eqb-true, eqb-false, not-true}
use Rattle.fields.specs.Bytes.{part}
use Rattle.maps.specs.Kinds.{absent}
use Rattle.model.specs.declared.Cut.{Cut}
use Rattle.model.specs.declared.Landing.{Landing}
use Rattle.model.specs.Disc.{Disc, sector, mark, recorded, shapely, inside}
use Rattle.model.specs.Writes.{Write, landing, landed, write, writes, upward, struck}
use Rattle.model.specs.Sparing.{Geometry, Entry, entries, flat, used_of, defective_of, free_of, mapped_of, first_free, turned_defective, resorted, written_table, entries_fit, counts, counting, current, sequence_at, sequence_in, table_at, table_in, copy_fits, packet_of, of_spare, locate}
use Rattle.model.specs.Examine.{Setting, geometry, lent_table}
use Rattle.model.specs.Once.{filled_from}
use Rattle.model.specs.Rewrite.{is_none, no_entry, entries_on, stale, copies_to, copy_order, packet_writes, packet_tests, spare_test, packet_lent, spare_tests, spared_table, spare_writes, spare_plan}
use Rattle.model.specs.Calls.{spare_packet, State, step}
use Rattle.model.specs.Store.{Slot, holds, unused, slot_at, slot_after, puts, slots_in, Store, Shape, cut_in, writes_in, taken}
use Rattle.model.proofs.Basics.{by-eq, cond-elim, and-true}
use Rattle.model.proofs.Sectors.{Made, Placed, Elsewhere, shapely-made, landed_made, landed-marks-length, sector-other, mark-other, sector-done, mark-done, mark-unreadable, sector-unreadable, writes-marks-length, writes-shapely, writes-inside, writes-made, writes-other, writes-append, landing-uncut, landing-done-before, landing-lost}
use Rattle.model.proofs.SectorsRuns.{length-upward, placed-upward, elsewhere-upward, upward-sector, upward-mark}
use Rattle.model.proofs.SparingLaws.{In, Distinct, multiple-none, multiple-defective, resorted-defective, entries-flat, tables-distinct, length-written, written-sequence, written-table, written-fits, resorted-length, resorted-starts, resorted-fits, packet-rest, packet-inside, packet-own, packet-unmapped, spare-same, spare-packet, first-free, table-outside, locate-not-table, locate-not-free, free-not-table, free_on, locate-spared, locate-unspared, current-some, current-table, current-counting, current-sequence, current-distinct, counting-counts, stale-in, copy-order-length, copy-order-in, copy-order-distinct, length-copies, SameAt, counts-agree, sequence-agree, counts-recorded, fits-counts, Settled, settled-some, settled-sequence}
use Rattle.model.proofs.Cuts.{spared-cut}
use Rattle.model.proofs.Ground.{Ground, geometry-same}
use Rattle.model.proofs.Ready.{Ready, Holds, LiveAgain, ready-fits, ready-entries, ready-count, ready-sequence, ready-spare, same_place, same-spare, table-length}
use Rattle.model.proofs.ReadyOpen.{Keeps, AgainOk}
use Rattle.model.proofs.ReadySave.{run-cases, settled_same}
use Rattle.model.proofs.ReadyCalls.{again-tells, other-packet}
use Rattle.model.proofs.Slots.{slot_same, slot-landed, length-blocks, block_in, length-puts, puts-other, puts-inside}
use Rattle.model.proofs.OnceOpen.{filled-long}
use Rattle.model.proofs.Steps.{Told, told-plan, Sound, sound-plan, sound-carried}

-- ---- copies written one after the other

-- what became of a sector: as it was, unreadable, or the new copy
pub data Became (d' d : Disc) (x : List ℕ) (t : ℕ) : Type 0 where
  as-was : sector d' t ≡ sector d t → mark d' t ≡ mark d t → Became d' d x t
  spoilt : mark d' t ≡ 2 → Became d' d x t
  renewed : sector d' t ≡ x → mark d' t ≡ 1 → Became d' d x t

became-landed : (lg : Landing) (p : ℕ) (x : List ℕ) (d : Disc) → length x ≡ 2048 → p < length d.marks → Made d → Became (landed lg p x d) d x p
unfolding landed
became-landed Landing.Done p x d e h m = renewed (sector-done p x d e h m) (mark-done p x d h)
became-landed Landing.Old p x d e h m = as-was refl refl
became-landed Landing.Unreadable p x d e h m = spoilt (mark-unreadable p x d h)
became-landed Landing.Untouched p x d e h m = as-was refl refl

became-then : (d'' d' d : Disc) (x : List ℕ) (t : ℕ) → Became d'' d' x t → Became d' d x t → Became d'' d x t
became-then d'' d' d x t (as-was a b) (as-was u v) = as-was (a ∙ u) (b ∙ v)
became-then d'' d' d x t (as-was a b) (spoilt v) = spoilt (b ∙ v)
became-then d'' d' d x t (as-was a b) (renewed u v) = renewed (a ∙ u) (b ∙ v)
became-then d'' d' d x t (spoilt b) w = spoilt b
became-then d'' d' d x t (renewed a b) w = renewed a b

-- each table sector after copies were written, however they were cut
pub became : (ts : List ℕ) (n : ℕ) (c : Cut) (x : List ℕ) (d : Disc) (t : ℕ) → length x ≡ 2048 → Made d → ((y : ℕ) → In y ts → y < length d.marks)
    → Became (writes n c (copies_to ts x) d) d x t
unfolding copies_to writes write
became [] n c x d t e m on = as-was refl refl
became (y ∷ ts) n c x d t e m on =
    let lg : Landing = landing n c in
    let d₁ : Disc = landed lg y x d in
    let h : y < length d.marks = on y (inl refl) in
    let ml = landed-marks-length lg y x d in
    became-then (writes (n + 1) c (copies_to ts x) d₁) d₁ d x t
    (became ts (n + 1) c x d₁ t e (landed_made lg y x d e h m) (λ z i. rw ml (on z (inr i))))
    (by-eq t y
    (λ q. rw q (became-landed lg y x d e h m))
    (λ q. as-was (sector-other lg y x d t e h m q) (mark-other lg y x d t q)))

-- writes that are all untouched change nothing
untouched : (ws : List Write) (n : ℕ) (c : Cut) (d : Disc) → ((j : ℕ) → n ≤ j → landing j c ≡ Landing.Untouched) → writes n c ws d ≡ d
unfolding writes write landed
untouched [] n c d h = refl
untouched (w ∷ ws) n c d h =
    ap (λ (lg : Landing). writes (n + 1) c ws (landed lg w.place w.bytes d)) (h n (omega arith))
    ∙ untouched ws (n + 1) c d (λ j k. h j (omega arith))

-- copies stand in table sectors
pub placed-copies : (n : ℕ) (ts : List ℕ) (x : List ℕ) → length x ≡ 2048 → ((y : ℕ) → In y ts → y < n) → Placed n (copies_to ts x)
unfolding Placed copies_to
placed-copies n [] x e on = tt
placed-copies n (y ∷ ts) x e on = (on y (inl refl), e, placed-copies n ts x e (λ z i. on z (inr i)))

pub elsewhere-copies : (q : ℕ) (ts : List ℕ) (x : List ℕ) → ((y : ℕ) → In y ts → q ≢ y) → Elsewhere q (copies_to ts x)
unfolding Elsewhere copies_to
elsewhere-copies q [] x h = tt
elsewhere-copies q (y ∷ ts) x h = (h y (inl refl), elsewhere-copies q ts x (λ z i. h z (inr i)))

-- what a sector holds: these bytes, and that it is recorded
pub record Has (d : Disc) (t : ℕ) (x : List ℕ) : Type 0 where
  pub own : sector d t ≡ x
  pub one : mark d t ≡ 1

has_done : (y : ℕ) (x : List ℕ) (d : Disc) → length x ≡ 2048 → y < length d.marks → Made d → Has (landed Landing.Done y x d) y x
has_done y x d e h m = record { own = sector-done y x d e h m; one = mark-done y x d h }

has-still : (y : ℕ) (x : List ℕ) (d : Disc) (t : ℕ) → length x ≡ 2048 → y < length d.marks → Made d → Has d t x → Has (landed Landing.Done y x d) t x
has-still y x d t e h m k =
    by-eq t y
    (λ q. rw q (has_done y x d e h m))
    (λ q. record { own = sector-other Landing.Done y x d t e h m q ∙ k.own; one = mark-other Landing.Done y x d t q ∙ k.one })

-- where all copies are done each of them has the bytes, and one that had them keeps them
pub has-copies : (ts : List ℕ) (n : ℕ) (c : Cut) (x : List ℕ) (d : Disc) (t : ℕ) → length x ≡ 2048 → Made d → ((y : ℕ) → In y ts → y < length d.marks)
    → ((j : ℕ) → n ≤ j → j < n + length ts → landing j c ≡ Landing.Done)
    → In t ts ⊎ Has d t x → Has (writes n c (copies_to ts x) d) t x
unfolding copies_to writes write
has-copies [] n c x d t e m on done (inl i) = absurd i
has-copies [] n c x d t e m on done (inr k) = k
has-copies (y ∷ ts) n c x d t e m on done k =
    let d₁ : Disc = landed Landing.Done y x d in
    let ml = landed-marks-length Landing.Done y x d in
    subst (λ (lg : Landing). Has (writes (n + 1) c (copies_to ts x) (landed lg y x d)) t x) (sym (done n (omega arith) (omega arith)))
    (has-copies ts (n + 1) c x d₁ t e (landed_made Landing.Done y x d e on-first m) (λ z i. rw ml (on z (inr i))) (λ j h l. done j (omega arith) (omega arith)) (after k))
  where
    on-first : y < length d.marks
    on-first = on y (inl refl)

    after : In t (y ∷ ts) ⊎ Has d t x → In t ts ⊎ Has (landed Landing.Done y x d) t x
    after (inl (inl q)) = inr (rw q (has_done y x d e on-first m))
    after (inl (inr i)) = inl i
    after (inr h) = inr (has-still y x d t e on-first m h)

-- ---- the first copy that a sparing writes is not the only current one

other-of : (a b : List ℕ) (t : ℕ) (ts : List ℕ) → Distinct b → 2 ≤ length (a ++ b) → is_none b ≡ false → ((z : ℕ) → In z a → In z b → ⊥)
    → a ++ b ≡ t ∷ ts → (y : ℕ) × In y b × (y ≢ t)
unfolding is_none
other-of [] [] t ts apart two some n q = absurd (false≢true (sym some))
other-of [] (y ∷ []) t ts apart two some n q = absurd (omega arith)
other-of [] (y ∷ z ∷ b) t ts apart two some n q =
    let yt : y ≡ t = cc in
    (z, inr (inl refl), λ zt. apart.0 (inl (yt ∙ sym zt)))
other-of (y ∷ a) [] t ts apart two some n q = absurd (false≢true (sym some))
other-of (y ∷ a) (z ∷ b) t ts apart two some n q =
    let yt : y ≡ t = cc in
    (z, inl refl, λ zt. n y (inl refl) (inl (yt ∙ sym zt)))

other-current : (e : Setting) (d : Disc) (t : ℕ) (ts : List ℕ) → Distinct (geometry e d).tables → 2 ≤ length (geometry e d).tables → is_none (counting d (geometry e d)) ≡ false
    → copy_order e d ≡ t ∷ ts → (y : ℕ) × In y (current d (geometry e d)) × (y ≢ t)
unfolding copy_order
other-current e d t ts apart two some eq =
    let g : Geometry = geometry e d in
    other-of (stale (current d g) g.tables) (current d g) t ts (current-distinct d g apart) (omega (arith, copy-order-length e d)) (current-some d g some)
    (λ z i. (stale-in (current d g) g.tables z i).1) eq

-- ---- a copy whose sector and mark are the same on two discs

counts_same : (d' d : Disc) (g : Geometry) (t : ℕ) → sector d' t ≡ sector d t → mark d' t ≡ mark d t → counts d' g t ≡ counts d g t
unfolding counts recorded
counts_same d' d g t a b = rw (a, b)

sequence-same : (d' d : Disc) (t : ℕ) → sector d' t ≡ sector d t → sequence_at d' t ≡ sequence_at d t
unfolding sequence_at
sequence-same d' d t a = ap sequence_in a

table_same : (d' d : Disc) (t : ℕ) → sector d' t ≡ sector d t → table_at d' t ≡ table_at d t
unfolding table_at
table_same d' d t a = ap table_in a

-- a copy that counts is recorded
counts-mark : (d : Disc) (g : Geometry) (t : ℕ) → counts d g t ≡ true → mark d t ≡ 1
unfolding recorded
counts-mark d g t h = eqb-true _ _ (counts-recorded d g t h)

-- ---- the sparing of packet b
module _ (e : Setting) (g : Geometry) (γ : Ground e g) (d : Disc) (n : ℕ) (l : List ℕ) (bs : List Slot) (r : Ready e g d n l bs)
    (b : ℕ) (x : List ℕ) (c : Cut) (multiple : b % 32 ≡ 0) (below : b < g.span) (own-place : of_spare g.start (entries l) b ≡ false) (long : length x ≡ 65536) (two : 2 ≤ length g.tables)
    (some : no_entry (free_of (entries l)) ≡ false) (more : n ≢ 4294967295) where
  -- the spare, the new entries and the new copy
  abbrev m : ℕ
  m = first_free (free_of (entries l))

  abbrev es' : List Entry
  es' = resorted (entries l) b

  abbrev copy : List ℕ
  copy = written_table (n + 1) (flat es')

  -- the copies in the order in which they are written
  abbrev order : List ℕ
  order = copy_order e d

  -- the disc once the packet is written, and then the copies
  abbrev d₁ : Disc
  d₁ = writes 1 c (upward 32 m x 0) d

  abbrev d₂ : Disc
  d₂ = writes 33 c (copies_to order copy) d₁

  span_small : g.span ≤ 1048576
  span_small = omega (arith, γ.inside, γ.sectors)

  sectors : length d.marks ≡ g.sectors
  unfolding geometry
  sectors = ap (λ (y : Geometry). y.sectors) r.geo

  made : Made d
  made = shapely-made d r.shape

  on-spare : m + 32 ≤ length d.marks
  on-spare = omega (arith, sectors, free_on g (entries l) (ready-fits r) γ.start-32 γ.span-32 some)

  placed₁ : Placed (length d.marks) (upward 32 m x 0)
  placed₁ = placed-upward (length d.marks) 32 m x 0 on-spare (omega arith)

  -- a sector outside the spare is as it was
  kept₁ : (y : ℕ) → (y < m) ⊎ (m + 32 ≤ y) → (sector d₁ y ≡ sector d y) × (mark d₁ y ≡ mark d y)
  kept₁ y h = writes-other 1 c (upward 32 m x 0) d y placed₁ made (elsewhere-upward y 32 m x 0 h)

  table-away : (t : ℕ) → In t g.tables → (t < m) ⊎ (m + 32 ≤ t)
  table-away t i =
      run-cases t m
      (λ j h w. absurd (free-not-table g (entries l) (ready-fits r) γ.start-32 γ.span-32 t 0 j γ.outside i some (omega arith) h (omega arith)))
      (λ h. h)

  block-away : (y : ℕ) → of_spare g.start (entries l) y ≡ false → (locate g.start (entries l) y < m) ⊎ (m + 32 ≤ locate g.start (entries l) y)
  block-away y h =
      run-cases (locate g.start (entries l) y) m
      (λ j u w. absurd (locate-not-free g (entries l) (ready-fits r) γ.start-32 γ.span-32 y m j h (first-free (free_of (entries l)) some) u w))
      (λ u. u)

  same₁ : SameAt d₁ d g.tables
  same₁ = record { sectors = λ t i. (kept₁ t (table-away t i)).0; marks = λ t i. (kept₁ t (table-away t i)).1 }

  settled₁ : Settled d₁ g n l
  settled₁ = settled_same d₁ d g n l same₁ r.settled

  made₁ : Made d₁
  made₁ = writes-made 1 c (upward 32 m x 0) d placed₁ made

  marks₁ : length d₁.marks ≡ length d.marks
  marks₁ = writes-marks-length 1 c (upward 32 m x 0) d

  -- ---- the copies
  fits' : entries_fit g es' ≡ true
  fits' = resorted-fits g (entries l) b (ready-fits r) multiple below span_small some (packet-unmapped g.start (entries l) b multiple own-place)

  small' : n + 1 < 4294967296
  small' = omega (arith, r.small)

  long-copy : length copy ≡ 2048
  long-copy = length-written g es' (n + 1) fits' γ.size γ.sectors span_small small'

  order-table : (t : ℕ) → In t order → In t g.tables
  order-table t i = rw r.geo at ((copy-order-in e d t).0 i)

  order-many : length order ≡ length g.tables
  order-many = rw r.geo at (copy-order-length e d)

  order-apart : Distinct order
  order-apart = copy-order-distinct e d (rw r.geo γ.apart)

  on-table : (t : ℕ) → In t g.tables → t < length d₁.marks
  on-table t i = omega (arith, marks₁, sectors, (table-outside g g.tables t γ.outside i).on)

  placed₂ : Placed (length d₁.marks) (copies_to order copy)
  placed₂ = placed-copies (length d₁.marks) order copy long-copy (λ t i. on-table t (order-table t i))

  -- a sector that is no table's is as it was
  kept₂ : (y : ℕ) → ((t : ℕ) → In t g.tables → y ≢ t) → (sector d₂ y ≡ sector d₁ y) × (mark d₂ y ≡ mark d₁ y)
  kept₂ y h = writes-other 33 c (copies_to order copy) d₁ y placed₂ made₁ (elsewhere-copies y order copy (λ t i. h t (order-table t i)))

  each : (t : ℕ) → Became d₂ d₁ copy t
  each t = became order 33 c copy d₁ t long-copy made₁ (λ y i. on-table y (order-table y i))

  -- where none of its writes is cut every copy is the new one
  pub spare-stands : struck c (32 + length g.tables) ≡ false → (t : ℕ) → In t g.tables → Has d₂ t copy
  spare-stands uncut t i =
      has-copies order 33 c copy d₁ t long-copy made₁ (λ y k. on-table y (order-table y k))
      (λ j h k. landing-uncut j (32 + length g.tables) c uncut (omega arith) (omega (arith, order-many)))
      (inl ((copy-order-in e d t).1 (rw r.geo i)))

  -- a block that is read through the old table reads as before
  slot_kept : (y : ℕ) → y < g.span → of_spare g.start (entries l) y ≡ false → slot_at d₂ (locate g.start (entries l) y) ≡ slot_at d (locate g.start (entries l) y)
  slot_kept y h u =
      let p : ℕ = locate g.start (entries l) y in
      let a = kept₁ p (block-away y u) in
      let w = kept₂ p (λ t i q. locate-not-table g (entries l) (ready-fits r) γ.start-32 γ.span-32 y t 0 h γ.outside i (omega arith) (omega (arith, q))) in
      slot_same d₂ d p p (w.0 ∙ a.0) (w.1 ∙ a.1)

  shape₂ : shapely d₂ ≡ true
  shape₂ = writes-shapely 33 c (copies_to order copy) d₁ placed₂ (writes-shapely 1 c (upward 32 m x 0) d placed₁ r.shape)

  within₂ : inside d₂ e.start e.span ≡ true
  within₂ =
      sym (writes-inside 33 c (copies_to order copy) d₁ e.start e.span)
      ∙ sym (writes-inside 1 c (upward 32 m x 0) d e.start e.span) ∙ r.within

  geo₂ : geometry e d₂ ≡ g
  geo₂ = geometry-same e d d₂ (writes-marks-length 33 c (copies_to order copy) d₁ ∙ marks₁) ∙ r.geo

  -- ---- where the first new copy is not whole nothing is done
  module _ (broken : landing 33 c ≢ Landing.Done) where
    -- the first copy to be written, and another that is current
    module _ (t : ℕ) (ts : List ℕ) (eq : order ≡ t ∷ ts) where
      another : (y : ℕ) × In y (current d g) × (y ≢ t)
      another =
          rw r.geo at
          (other-current e d t ts (rw r.geo (tables-distinct g.tables γ.apart)) (rw r.geo two) (rw r.geo (settled-some d g n l r.settled)) eq)

      one-write : d₂ ≡ landed (landing 33 c) t copy d₁
      unfolding writes write copies_to
      one-write =
          ap (λ (o : List ℕ). writes 33 c (copies_to o copy) d₁) eq
          ∙ untouched (copies_to ts copy) (33 + 1) c (landed (landing 33 c) t copy d₁) (λ j h. landing-lost 33 j c broken (omega arith))

      torn : (lg : Landing) → lg ≢ Landing.Done → Settled (landed lg t copy d₁) g n l
      unfolding landed
      torn Landing.Done w = absurd (w refl)
      torn Landing.Old w = settled₁
      torn Landing.Untouched w = settled₁
      torn Landing.Unreadable w =
          let d' : Disc = landed Landing.Unreadable t copy d₁ in
          let y : ℕ = another.0 in
          let it : In t g.tables = order-table t (rw eq (inl refl)) in
          let lost : mark d' t ≡ 2 = mark-unreadable t copy d₁ (on-table t it) in
          let iy : In y g.tables = current-table d g y another.1 in
          let good : counts d g y ≡ true = (counting-counts d g y (current-counting d g y another.1)).1 in
          let newest : sequence_at d y ≡ n = current-sequence d g y another.1 ∙ settled-sequence d g n l r.settled in
          let other : (z : ℕ) → counts d' g z ≡ true → z ≢ t = λ z h q. omega (arith, ap (mark d') (sym q) ∙ counts-mark d' g z h) in
          let marked : (z : ℕ) → z ≢ t → mark d' z ≡ mark d₁ z = λ z q. mark-other Landing.Unreadable t copy d₁ z q in
          let kept : (z : ℕ) → sector d' z ≡ sector d₁ z = λ z. sector-unreadable t copy d₁ z in
          record {
            one = y;
            table = iy;
            good = counts_same d' d₁ g y (kept y) (marked y another.2) ∙ counts-agree d₁ d g same₁ y iy ∙ good;
            newest = sequence-same d' d₁ y (kept y) ∙ sequence-agree d₁ d g same₁ y iy ∙ newest;
            below = λ z i h. rw (sequence-same d' d₁ z (kept z)) (settled₁.below z i (sym (counts_same d' d₁ g z (kept z) (marked z (other z h))) ∙ h));
            alike = λ z i h q.
                table_same d' d₁ z (kept z)
                ∙ settled₁.alike z i (sym (counts_same d' d₁ g z (kept z) (marked z (other z h))) ∙ h) (sym (sequence-same d' d₁ z (kept z)) ∙ q);
          }

    settled-torn : (o : List ℕ) → order ≡ o → Settled d₂ g n l
    settled-torn [] q = absurd (omega (arith, ap length q, order-many))
    settled-torn (t ∷ ts) q = rw (one-write t ts q) (torn t ts q (landing 33 c) broken)

    pub spare-torn : Ready e g d₂ n l bs
    spare-torn =
        record {
          shape = shape₂;
          within = within₂;
          geo = geo₂;
          settled = settled-torn order refl;
          small = r.small;
          even = r.even;
          count = r.count;
          same = λ y h.
              cond-elim (λ (z : Slot). get_or bs y unused ≡ z) (of_spare g.start (entries l) y)
              (λ u. same-spare r y h u)
              (λ u. same_place r y h u ∙ sym (slot_kept y h u));
        }

  -- ---- where it is whole the packet is spared
  module _ (whole : landing 33 c ≡ Landing.Done) where
    -- the first copy is there
    first-copy : (o : List ℕ) → order ≡ o → (t : ℕ) × In t g.tables × (sector d₂ t ≡ copy) × (mark d₂ t ≡ 1)
    unfolding writes write copies_to landed
    first-copy [] q = absurd (omega (arith, ap length q, order-many))
    first-copy (t ∷ ts) q =
        let it : In t g.tables = order-table t (rw q (inl refl)) in
        let h : t < length d₁.marks = on-table t it in
        let d₃ : Disc = landed Landing.Done t copy d₁ in
        let apart : Distinct (t ∷ ts) = rw q at order-apart in
        let run : d₂ ≡ writes (33 + 1) c (copies_to ts copy) d₃ =
        ap (λ (o : List ℕ). writes 33 c (copies_to o copy) d₁) q
        ∙ ap (λ (lg : Landing). writes (33 + 1) c (copies_to ts copy) (landed lg t copy d₁)) whole in
        let ml : length d₃.marks ≡ length d₁.marks = landed-marks-length Landing.Done t copy d₁ in
        let k = writes-other (33 + 1) c (copies_to ts copy) d₃ t
        (placed-copies (length d₃.marks) ts copy long-copy (λ y i. rw ml (on-table y (order-table y (rw q (inr i))))))
        (landed_made Landing.Done t copy d₁ long-copy h made₁)
        (elsewhere-copies t ts copy (λ y i w. apart.0 (rw w i))) in
        (t, it, rw run (k.0 ∙ sector-done t copy d₁ long-copy h made₁), rw run (k.1 ∙ mark-done t copy d₁ h))

    -- what the copy says
    copy-sequence : sequence_in copy ≡ n + 1
    copy-sequence = written-sequence g es' (n + 1) fits' γ.size γ.sectors span_small small'

    copy-table : table_in copy ≡ flat es'
    copy-table = written-table g es' (n + 1) fits' γ.size γ.sectors span_small small'

    copy-fits : copy_fits g copy ≡ true
    copy-fits = written-fits g es' (n + 1) fits' γ.size γ.sectors span_small small'

    newer : (t : ℕ) → sector d₂ t ≡ copy → sequence_at d₂ t ≡ n + 1
    unfolding sequence_at
    newer t q = ap sequence_in q ∙ copy-sequence

    below_new : (t : ℕ) → In t g.tables → counts d₂ g t ≡ true → Became d₂ d₁ copy t → sequence_at d₂ t ≤ n + 1
    below_new t i h (as-was a b) =
        rw (sequence-same d₂ d₁ t a) (omega (arith, settled₁.below t i (sym (counts_same d₂ d₁ g t a b) ∙ h)))
    below_new t i h (spoilt b) = absurd (omega (arith, b, counts-mark d₂ g t h))
    below_new t i h (renewed a b) = omega (arith, newer t a)

    alike-new : (t : ℕ) → In t g.tables → counts d₂ g t ≡ true → sequence_at d₂ t ≡ n + 1 → Became d₂ d₁ copy t → table_at d₂ t ≡ flat es'
    unfolding table_at
    alike-new t i h q (as-was a b) =
        absurd (omega (arith, sequence-same d₂ d₁ t a, settled₁.below t i (sym (counts_same d₂ d₁ g t a b) ∙ h)))
    alike-new t i h q (spoilt b) = absurd (omega (arith, b, counts-mark d₂ g t h))
    alike-new t i h q (renewed a b) = ap table_in a ∙ copy-table

    settled-new : Settled d₂ g (n + 1) (flat es')
    unfolding recorded
    settled-new =
        let f = first-copy order refl in
        record {
          one = f.0;
          table = f.1;
          good = fits-counts d₂ g f.0 (ap (λ (y : ℕ). eqb y 1) f.3) (ap (copy_fits g) f.2 ∙ copy-fits);
          newest = newer f.0 f.2;
          below = λ t i h. below_new t i h (each t);
          alike = λ t i h q. alike-new t i h q (each t);
        }

    -- the packet in the spare
    spare-slot : (j : ℕ) → j < 32 → slot_at d₂ (m + j) ≡ holds (part x (0 + 2048 * j) 2048)
    unfolding slot_after
    spare-slot j h =
        let w = kept₂ (m + j) (λ t i q. free-not-table g (entries l) (ready-fits r) γ.start-32 γ.span-32 t 0 j γ.outside i some (omega arith) h (omega (arith, q))) in
        slot_same d₂ d₁ (m + j) (m + j) w.0 w.1
        ∙ slot_same d₁ (landed (landing (1 + j) c) (m + j) (part x (0 + 2048 * j) 2048) d) (m + j) (m + j)
        (upward-sector 32 1 c m x 0 d j h made on-spare (omega arith))
        (upward-mark 32 1 c m x 0 d j h on-spare)
        ∙ slot-landed (landing (1 + j) c) (m + j) (part x (0 + 2048 * j) 2048) d
        (Rattle.fields.proofs.Laws.length_part x (0 + 2048 * j) 2048 (omega arith)) (omega (arith, on-spare)) made
        ∙ ap (λ (lg : Landing). slot_after lg (slot_at d (m + j)) (holds (part x (0 + 2048 * j) 2048)))
        (landing-done-before 33 (1 + j) c whole (omega arith) (omega arith))

    fits-blocks : b + length (slots_in 32 x 0) ≤ length bs
    fits-blocks = omega (arith, length-blocks 32 x 0, r.count, packet-inside b g.span γ.span-32 below, packet-rest b)

    -- the new table has the spares of the old one
    spares-same : (y : ℕ) → of_spare g.start es' y ≡ of_spare g.start (entries l) y
    spares-same y = spare-same g.start es' (entries l) y (resorted-starts g (entries l) b (ready-fits r) multiple below span_small some)

    pub spare-done : Ready e g d₂ (n + 1) (flat es') (puts bs b (slots_in 32 x 0))
    spare-done =
        record {
          shape = shape₂;
          within = within₂;
          geo = geo₂;
          settled = settled-new;
          small = small';
          even = ap flat (entries-flat es');
          count = length-puts bs b (slots_in 32 x 0) ∙ r.count;
          same = λ y h.
              rw (entries-flat es', spares-same y)
              (by-eq (packet_of y) b
              (λ w.
              let j : ℕ = y % 32 in
              let yj : y ≡ b + j = omega (arith, packet-rest y) in
              let u : of_spare g.start (entries l) y ≡ false = spare-packet g.start (entries l) y b (w ∙ sym (packet-own b multiple)) ∙ own-place in
              rw (u, yj)
              (puts-inside bs b (slots_in 32 x 0) j (rw (length-blocks 32 x 0) (omega arith)) fits-blocks
              ∙ block_in 32 x 0 j (omega arith)
              ∙ sym (spare-slot j (omega arith))
              ∙ ap (slot_at d₂) (sym (locate-spared g (entries l) b (ready-fits r) multiple below span_small some j (omega arith)))))
              (λ w.
              puts-other bs b (slots_in 32 x 0) y (rw (length-blocks 32 x 0) (other-packet b y multiple w))
              ∙ cond-elim (λ (z : Slot). get_or bs y unused ≡ z) (of_spare g.start (entries l) y)
              (λ u. same-spare r y h u)
              (λ u.
              same_place r y h u
              ∙ sym (slot_kept y h u)
              ∙ ap (slot_at d₂) (sym (locate-unspared g (entries l) b (ready-fits r) multiple below span_small some y h w)))));
        }

-- ---- the call

-- the defective spares stay, and are the first; and so do the mapped starts
keeps-spared : (es : List Entry) (l : List ℕ) (b : ℕ) → b % 32 ≡ 0 → ((m : ℕ) → absent m (mapped_of (resorted (entries l) b)) ≡ absent m (mapped_of (entries l)))
    → Keeps es l → Keeps es (flat (resorted (entries l) b))
keeps-spared es l b m starts k =
    record {
      later = k.later ++ turned_defective b (used_of (entries l));
      defectives =
          ap defective_of (entries-flat (resorted (entries l) b))
          ∙ resorted-defective (entries l) b (multiple-none b m) (multiple-defective b m)
          ∙ ap (λ (x : List Entry). x ++ turned_defective b (used_of (entries l))) k.defectives
          ∙ append_assoc (defective_of es) k.later (turned_defective b (used_of (entries l)));
      starts = λ x. ap (λ (e : List Entry). absent x (mapped_of e)) (entries-flat (resorted (entries l) b)) ∙ starts x ∙ k.starts x;
    }

-- a packet to the same place and the same copies in the same order
same_writes : (p q : ℕ) (x : List ℕ) (o o' : List ℕ) (m n : ℕ) (l l' : List ℕ) → p ≡ q → o ≡ o' → m ≡ n → l ≡ l'
    → upward 32 p x 0 ++ copies_to o (written_table m l) ≡ upward 32 q x 0 ++ copies_to o' (written_table n l')
same_writes p q x o o' m n l l' a b c d = λ i. upward 32 (a i) x 0 ++ copies_to (b i) (written_table (c i) (d i))

-- the writes of a sparing, by the table on the disc
spare_writes_law : (e : Setting) (g : Geometry) (d : Disc) (n : ℕ) (l : List ℕ) (bs : List Slot) (b : ℕ) (x : List ℕ) → Ready e g d n l bs
    → spare_writes e d b x
    ≡ upward 32 (first_free (free_of (entries l))) x 0
    ++ copies_to (copy_order e d) (written_table (n + 1) (flat (resorted (entries l) b)))
unfolding spare_writes packet_writes copy_order spared_table
spare_writes_law e g d n l bs b x r =
    let m = ready-sequence r in
    same_writes _ _ x _ _ _ _ _ _ (ap (λ (es : List Entry). first_free (free_of es)) (ready-entries r)) (cc) (omega arith) (ap (λ (es : List Entry). flat (resorted es b)) (ready-entries r))

-- they are 32, and one for each table
spare-count : (e : Setting) (g : Geometry) (d : Disc) (n : ℕ) (l : List ℕ) (bs : List Slot) (b : ℕ) (x : List ℕ) → Ready e g d n l bs
    → length (spare_writes e d b x) ≡ 32 + length g.tables
spare-count e g d n l bs b x r =
    let o : List ℕ = copy_order e d in
    let tb : List ℕ = written_table (n + 1) (flat (resorted (entries l) b)) in
    let up : List Write = upward 32 (first_free (free_of (entries l))) x 0 in
    ap length (spare_writes_law e g d n l bs b x r)
    ∙ length-append up (copies_to o tb)
    ∙ ap₂ (λ (y z : ℕ). y + z) (length-upward 32 (first_free (free_of (entries l))) x 0) (length-copies o tb ∙ rw r.geo at (copy-order-length e d))

module _ (e : Setting) (g : Geometry) (γ : Ground e g) (h : Shape) (copies : h.tables ≡ length g.tables) (st : State) (σ : Store) (n : ℕ) (l : List ℕ) (i : LiveAgain e g st n l σ) (b : ℕ) (x : List ℕ) (c : Cut) where
  -- a sparing, refused, cut or carried out
  pub sound-spare : (es : List Entry) → Keeps es l → Sound (AgainOk e g es) h σ (spare_packet b x c) (step e st (spare_packet b x c))
  unfolding step spare_plan AgainOk cut_in writes_in taken spare_tests packet_tests spare_test packet_lent spared_table Holds filled_from struck
  sound-spare es kept =
      sound-plan (AgainOk e g es) h σ (spare_packet b x c) c st _ _ _ _ (n, l, i, kept) λ go.
      let d : Disc = st.disc in
      let p = again-tells e d st.table _ st.held (spare_tests e d b) go in
      let u = and-true (lent_table st.table) _ p.0.lengths in
      let v = and-true (eqb (b % 32) 0) _ p.1.0 in
      let r = i.ready in
      let multiple : b % 32 ≡ 0 = eqb-true _ _ v.0 in
      let below : b < g.span = rw (← γ.span-is) (ltb-true _ _ v.1) in
      let long : length x ≡ 65536 = eqb-true _ _ u.1 in
      let own-place : of_spare g.start (entries l) b ≡ false = sym (ready-spare γ r b) ∙ not-true _ p.1.1.0 in
      let two : 2 ≤ length g.tables = leb-true _ _ (rw r.geo at p.1.1.1.0) in
      let some : no_entry (free_of (entries l)) ≡ false = not-true _ (rw (ready-entries r) at p.1.1.1.1.0) in
      let more : n ≢ 4294967295 = eqb-false _ _ (not-true _ (rw (ready-sequence r) at p.1.1.1.1.1.0)) in
      let small : g.span ≤ 1048576 = omega (arith, γ.inside, γ.sectors) in
      let still = keeps-spared es l b multiple (resorted-starts g (entries l) b (ready-fits r) multiple below small some) kept in
      let ws : List Write = spare_writes e d b x in
      let o : List ℕ = copy_order e d in
      let tb : List ℕ = written_table (n + 1) (flat (resorted (entries l) b)) in
      let up : List Write = upward 32 (first_free (free_of (entries l))) x 0 in
      let e₁ : ws ≡ up ++ copies_to o tb = spare_writes_law e g d n l σ.blocks b x r in
      let ln : length ws ≡ 32 + length g.tables = spare-count e g d n l σ.blocks b x r in
      let e₂ : writes 1 c ws d ≡ writes 33 c (copies_to o tb) (writes 1 c up d) =
      ap (λ (w : List Write). writes 1 c w d) e₁
      ∙ writes-append 1 c up (copies_to o tb) d
      ∙ ap (λ (y : ℕ). writes (1 + y) c (copies_to o tb) (writes 1 c up d)) (length-upward 32 (first_free (free_of (entries l))) x 0) in
      let same_count : length (resorted (entries l) b) ≡ length (entries l) =
      resorted-length g (entries l) b (ready-fits r) multiple below small some in
      sound-carried (AgainOk e g es) h σ (spare_packet b x c) c st _ _ _ refl (ap (λ (y : ℕ). 32 + y) copies ∙ sym ln)
      (λ k.
      let at_least : 1 ≤ c.at = leb-true _ _ (and-true (leb 1 c.at) _ k).0 in
      spared-cut h σ b x c (AgainOk e g es true (record { disc = writes 1 c ws d; table = st.table; held = st.held })) at_least
      (λ w.
      rw e₂ (
        n + 1,
        flat (resorted (entries l) b),
        spare-done e g γ d n l σ.blocks r b x c multiple below own-place long two some more w,
        i.lent,
        still,
      ))
      (λ w. rw e₂ (n, l, spare-torn e g γ d n l σ.blocks r b x c multiple below own-place long two some more w, i.lent, kept)))
      (λ k.
      let w : landing 33 c ≡ Landing.Done = landing-uncut 33 (length ws) c k (omega arith) (omega (arith, ln)) in
      let l' : List ℕ = flat (resorted (entries l) b) in
      let R : length (entries l') ≡ length (entries l) = ap length (entries-flat (resorted (entries l) b)) ∙ same_count in (
        n + 1,
        l',
        record {
          ready = rw e₂ (spare-done e g γ d n l σ.blocks r b x c multiple below own-place long two some more w);
          held = (ready-count r ∙ sym R, ap (λ (y : ℕ). y + 1) (ready-sequence r));
          front =
              rw (ready-entries r)
              (take_at l' (drop (length l') st.table) (2 * length (entries l')) (table-length l' (ap flat (entries-flat (resorted (entries l) b)))));
          lent = omega (arith, filled-long (flat (resorted (entries_on e d) b)) st.table, i.lent);
        },
        still,
      ))

  -- its answer says that it was cut exactly if the plain store knows it
  pub told-spare : Told h σ (spare_packet b x c) (step e st (spare_packet b x c)).answer
  unfolding step spare_plan cut_in writes_in
  told-spare =
      told-plan h σ (spare_packet b x c) c st _ _ _ _ refl
      (λ go. ap (λ (y : ℕ). 32 + y) copies ∙ sym (spare-count e g st.disc n l σ.blocks b x i.ready))
