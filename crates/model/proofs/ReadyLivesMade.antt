-- The disc that making leaves of a rewritable volume: zeros in the partition and the same table of free entries in every copy. Assumes nothing.
use Prim.Native.Nat.{ℕ, zero, suc, ◌+◌, ◌-◌, ◌*◌, ◌%◌, ◌≤◌, ◌<◌}
use mathlib.Core.Bool.{true, false, cond, ◌||◌, false≢true}
use mathlib.Core.Logic.{◌≢◌, inl, ⊎_elim}
use mathlib.Core.Path.{◌≡◌, refl, sym, ap, ◌∙◌}
use mathlib.Core.List.{List, [], ◌∷◌, ◌++◌}
use native.Mathlib.Omega.{arith}
use lib.Dec.{leb, eqb}
use lib.ListN.{length, get_or, take, drop, replicate, length-append, length-take, length-replicate}
use borrow.Author.Tests.{leb-true}
use Rattle.refusal.specs.declared.Refusal.TheVariants.{Misaligned}
use Rattle.refusal.specs.Verdict.{Verdict, verdict_of, answered}
use Rattle.std.specs.Prelude.{Ok, Err}
use Rattle.refusal.specs.Tests.{test, first}
use Rattle.refusal.proofs.Laws.{passed}
use Rattle.fields.specs.Bytes.{part}
use Rattle.fields.specs.Number.{field, words}
use Rattle.fields.proofs.Laws.{length_part}
use Rattle.maps.specs.Walk.{Walked, short, maps, walk}
use Rattle.maps.specs.Kinds.{sparable_name, type_two, tables_in_range, is_write_once, is_rewritable, used, volume_of, volume_in, no_volume, volume_with, tables_in, tables_of, kind_tests, judged, read_maps, volume_read}
use Rattle.model.specs.declared.Landing.{Landing}
use Rattle.model.specs.Disc.{Disc, sector, mark, recorded}
use Rattle.model.specs.Writes.{Write, landing, landed, writes, upward, no_cut}
use Rattle.model.specs.Vat.{none}
use Rattle.model.specs.Sparing.{Geometry, Entry, entries, flat, free_of, is_free, entries_fit, copy_fits, counts, sequence_in, sequence_at, table_in, table_at, spot_of, in_place, packet_of, of_spare, start_at, locate, written_table}
use Rattle.model.specs.Examine.{Setting, volume, is_once, write_once, geometry, examined}
use Rattle.model.specs.Rewrite.{no_entry, table_on, entries_on, place_of, of_spare_on, copies_to}
use Rattle.model.specs.Both.{spare_entries, make_tests, make_verdict, make_writes, made_by, made}
use Rattle.model.specs.Store.{holds, unused, reserved, slot_at, place_slot, blocks_on}
use Rattle.model.specs.LivesAgain.{zero_block, in_spare}
use Rattle.model.proofs.ReadyOpen.{length-places, place-slot}
use Rattle.model.proofs.ReadySpare.{elsewhere-copies, placed-copies, Has, has-copies}
use Rattle.model.proofs.Basics.{and-true}
use Rattle.model.proofs.Verdicts.{Examined, examined-tells, then-go}
use Rattle.model.proofs.Ground.{Ground, ground, geometry-same}
use Rattle.model.proofs.Sectors.{Made, Placed, shapely-made, sector-done, mark-done, writes-marks-length, writes-shapely, writes-inside, writes-made, writes-other, writes-append, landing-none}
use Rattle.model.proofs.SectorsRuns.{placed-upward, upward-sector, upward-mark}
use Rattle.model.proofs.SparingEntries.{spot-next}
use Rattle.model.proofs.SparingLaws.{In, entries-flat, length-written, written-sequence, written-table, written-fits, packet-multiple, packet-rest, table-outside, fits-counts, Settled, settled-table}
use Rattle.model.proofs.Slots.{slot-recorded}
use Rattle.model.proofs.Ready.{Ready}

-- ---- a rewritable map list names a table

used-some : (n : ℕ) (t : List ℕ) → 1 ≤ n → 1 ≤ length (take n (used n t))
unfolding used
used-some n t h =
    omega (arith, length-take n (take 4 (take n t ++ replicate 4 0)), length-take 4 (take n t ++ replicate 4 0), length-append (take n t) (replicate 4 0))

some_of : (ms : List (List ℕ)) → is_write_once ms || is_rewritable ms ≡ true → is_once (volume_of ms).kind ≡ false → 1 ≤ length (tables_of (volume_of ms))
unfolding is_write_once is_rewritable volume_of no_volume volume_with is_once tables_in_range tables_of tables_in
some_of [] h k = absurd (false≢true h)
some_of (a ∷ []) h k =
    let p = and-true (type_two sparable_name a) _ h in
    let q = and-true (eqb (field a 40 2) 32) _ p.1 in
    used-some (get_or a 42 0) (words a 48 4) (leb-true 1 (get_or a 42 0) (and-true (leb 1 (get_or a 42 0)) _ q.1).0)
some_of (a ∷ b ∷ l) h k = absurd (false≢true (sym k))

some_in_law : (w : Walked) → judged w ≡ Ok tt → is_once (volume_in w).kind ≡ false → 1 ≤ length (tables_of (volume_in w))
unfolding judged volume_in kind_tests
some_in_law short h k = let z : ◌≡◌ {A = ℕ} 0 1 = cc in absurd (omega arith)
some_in_law (maps ms) h k = some_of ms (passed (kind_tests ms) h).0 k

some-answered : (v : Verdict) (w : Walked) → v ≡ judged w → verdict_of (answered v (volume_in w)) ≡ Ok tt → is_once (volume_read (answered v (volume_in w))).kind ≡ false
    → 1 ≤ length (tables_of (volume_read (answered v (volume_in w))))
unfolding volume_read
some-answered (Ok _) w q h k = some_in_law w (sym q) k
some-answered (Err why) w q h k = let z : ◌≡◌ {A = ℕ} 0 1 = cc in absurd (omega arith)

-- a map list that is read as rewritable names a table
pub maps-some : (s : List ℕ) → verdict_of (read_maps s) ≡ Ok tt → is_once (volume_read (read_maps s)).kind ≡ false → 1 ≤ length (tables_of (volume_read (read_maps s)))
unfolding read_maps
maps-some s h k = some-answered (judged (walk s)) (walk s) refl h k

-- ---- zeros

take_same : (x w n : ℕ) → w ≤ n → take w (replicate n x) ≡ replicate w x
take_same x zero n h = refl
take_same x (suc w) zero h = absurd (omega arith)
take_same x (suc w) (suc n) h = ap (λ (l : List ℕ). x ∷ l) (take_same x w n (omega arith))

drop-same : (x k n : ℕ) → drop k (replicate n x) ≡ replicate (n - k) x
drop-same x zero n = let q : n ≡ n - 0 = omega arith in ap (λ (m : ℕ). replicate m x) q
drop-same x (suc k) zero = let q : 0 ≡ 0 - suc k = omega arith in ap (λ (m : ℕ). replicate m x) q
drop-same x (suc k) (suc n) =
    let q : n - k ≡ suc n - suc k = omega arith in
    drop-same x k n ∙ ap (λ (m : ℕ). replicate m x) q

part_same : (x n at w : ℕ) → at + w ≤ n → part (replicate n x) at w ≡ replicate w x
unfolding part
part_same x n at w h = ap (take w) (drop-same x at n) ∙ take_same x w (n - at) (omega arith)

-- a block out of zeros
zero-part : (n at : ℕ) → at + 2048 ≤ n → part (replicate n 0) at 2048 ≡ zero_block
unfolding zero_block
zero-part n at h = part_same 0 n at 2048 h

-- with no cut every write is done
uncut : (n : ℕ) → landing n no_cut ≡ Landing.Done
unfolding no_cut
uncut n = landing-none n no_cut refl

-- ---- entries that are all free

-- no packet has one
free-spot : (spares : List ℕ) (p : ℕ) → p ≢ none → spot_of (spare_entries spares) p ≡ in_place
unfolding spare_entries spot_of
free-spot [] p h = refl
free-spot (m ∷ l) p h = spot-next (record { original = none; mapped = m }) (spare_entries l) p (λ q. h (sym q)) ∙ free-spot l p h

-- a packet's start is not none
start-some : (p : ℕ) → p % 32 ≡ 0 → p ≢ none
unfolding none
start-some p h = omega arith

-- so every block is in its place
free-place : (spares : List ℕ) (s b : ℕ) → locate s (spare_entries spares) b ≡ s + b
unfolding locate start_at
free-place spares s b =
    rw (free-spot spares (packet_of b) (start-some (packet_of b) (packet-multiple b))) (omega (arith, packet-rest b))

-- where there is a spare there is a free entry
pub some-free : (spares : List ℕ) → 1 ≤ length spares → no_entry (free_of (spare_entries spares)) ≡ false
unfolding spare_entries free_of is_free none no_entry
some-free [] h = absurd (omega arith)
some-free (m ∷ l) h = refl

-- there is one for each spare
pub length-spares : (spares : List ℕ) → length (spare_entries spares) ≡ length spares
unfolding spare_entries
length-spares [] = refl
length-spares (m ∷ l) = ap suc (length-spares l)

-- ---- the blocks of a rewritable disc, one by one

-- ---- making

first-in : (l : List ℕ) → 1 ≤ length l → (t : ℕ) × In t l
first-in [] h = absurd (omega arith)
first-in (t ∷ l) h = (t, inl refl)

module _ (e : Setting) (d : Disc) (spares : List ℕ) (again : write_once e ≡ false) (go : make_verdict e d spares ≡ Ok tt) where
  abbrev g : Geometry
  g = geometry e d

  abbrev es : List Entry
  es = spare_entries spares

  -- the table that every copy gets
  abbrev copy : List ℕ
  copy = written_table 0 (flat es)

  abbrev zs : List ℕ
  zs = replicate (2048 * e.span) 0

  abbrev up : List Write
  up = upward e.span e.start zs 0

  -- the disc once the partition is written, and then the copies
  abbrev d₁ : Disc
  d₁ = writes 1 no_cut up d

  abbrev d₂ : Disc
  d₂ = writes (1 + length up) no_cut (copies_to g.tables copy) d₁

  made-is : made e d spares ≡ d₂
  unfolding made made_by make_writes
  made-is = rw (go, again) (writes-append 1 no_cut up (copies_to g.tables copy) d)

  record Told : Type 0 where
    examines : Examined e d true
    fits : entries_fit g es ≡ true

  told : Told
  unfolding make_verdict make_tests
  told =
      let p = then-go (examined e d true) _ go in
      let q : first (test (entries_fit g es) Misaligned ∷ []) ≡ (Ok tt) = rw again at p.1 in
      record { examines = examined-tells e d true p.0; fits = (passed (test (entries_fit g es) Misaligned ∷ []) q).0 }

  -- the map list is read
  pub made-maps : verdict_of (read_maps e.maps) ≡ Ok tt
  made-maps = told.examines.maps

  -- partition, tables and spares lie in packets of the disc
  pub made-ground : Ground e g
  made-ground = ground e d true again told.examines

  γ : Ground e g
  γ = made-ground

  made₀ : Made d
  made₀ = shapely-made d told.examines.shape

  sectors : length d.marks ≡ g.sectors
  unfolding geometry
  sectors = refl

  span_small : g.span ≤ 1048576
  span_small = omega (arith, γ.inside, γ.sectors)

  on : e.start + e.span ≤ length d.marks
  on = omega (arith, γ.inside, γ.start_is, γ.span-is, sectors)

  enough : 0 + 2048 * e.span ≤ length zs
  enough = omega (arith, length-replicate (2048 * e.span) (zero))

  placed₁ : Placed (length d.marks) up
  placed₁ = placed-upward (length d.marks) e.span e.start zs 0 on enough

  marks₁ : length d₁.marks ≡ length d.marks
  marks₁ = writes-marks-length 1 no_cut up d

  made₁ : Made d₁
  made₁ = writes-made 1 no_cut up d placed₁ made₀

  -- the partition is zeros
  zeros₁ : (i : ℕ) → i < e.span → Has d₁ (e.start + i) zero_block
  zeros₁ i h =
      let s : ℕ = e.start + i in
      let x : List ℕ = part zs (0 + 2048 * i) 2048 in
      let lx : length x ≡ 2048 = length_part zs (0 + 2048 * i) 2048 (omega (arith, enough)) in
      let done : landing (1 + i) no_cut ≡ Landing.Done = uncut (1 + i) in
      record {
        own =
            upward-sector e.span 1 no_cut e.start zs 0 d i h made₀ on enough
            ∙ ap (λ (lg : Landing). sector (landed lg s x d) s) done
            ∙ sector-done s x d lx (omega (arith, on)) made₀
            ∙ zero-part (2048 * e.span) (0 + 2048 * i) (omega arith);
        one =
            upward-mark e.span 1 no_cut e.start zs 0 d i h on
            ∙ ap (λ (lg : Landing). mark (landed lg s x d) s) done
            ∙ mark-done s x d (omega (arith, on));
      }

  -- ---- the copies
  long-copy : length copy ≡ 2048
  long-copy = length-written g es 0 told.fits γ.size γ.sectors span_small (omega arith)

  on-table : (t : ℕ) → In t g.tables → t < length d₁.marks
  on-table t i = omega (arith, marks₁, sectors, (table-outside g g.tables t γ.outside i).on)

  placed₂ : Placed (length d₁.marks) (copies_to g.tables copy)
  placed₂ = placed-copies (length d₁.marks) g.tables copy long-copy on-table

  -- a table's sector is none of the partition
  aside : (i : ℕ) → i < e.span → (t : ℕ) → In t g.tables → e.start + i ≢ t
  aside i h t k q =
      ⊎_elim (λ a. omega (arith, γ.start_is)) (λ a. omega (arith, γ.start_is, γ.span-is)) (table-outside g g.tables t γ.outside k).aside

  zeros₂ : (i : ℕ) → i < e.span → Has d₂ (e.start + i) zero_block
  zeros₂ i h =
      let k = writes-other (1 + length up) no_cut (copies_to g.tables copy) d₁ (e.start + i) placed₂ made₁ (elsewhere-copies (e.start + i) g.tables copy (aside i h)) in
      let z = zeros₁ i h in
      record { own = k.0 ∙ z.own; one = k.1 ∙ z.one }

  each : (t : ℕ) → In t g.tables → Has d₂ t copy
  each t i = has-copies g.tables (1 + length up) no_cut copy d₁ t long-copy made₁ on-table (λ j h k. uncut j) (inl i)

  copy-sequence : (t : ℕ) → In t g.tables → sequence_at d₂ t ≡ 0
  unfolding sequence_at
  copy-sequence t i = ap sequence_in (each t i).own ∙ written-sequence g es 0 told.fits γ.size γ.sectors span_small (omega arith)

  copy-table : (t : ℕ) → In t g.tables → table_at d₂ t ≡ flat es
  unfolding table_at
  copy-table t i = ap table_in (each t i).own ∙ written-table g es 0 told.fits γ.size γ.sectors span_small (omega arith)

  copy-counts : (t : ℕ) → In t g.tables → counts d₂ g t ≡ true
  unfolding recorded
  copy-counts t i =
      fits-counts d₂ g t (ap (λ (m : ℕ). eqb m 1) (each t i).one)
      (ap (copy_fits g) (each t i).own ∙ written-fits g es 0 told.fits γ.size γ.sectors span_small (omega arith))

  one_table_law : (t : ℕ) × In t g.tables
  unfolding geometry volume write_once
  one_table_law = first-in (tables_of (volume e)) (maps-some e.maps made-maps again)

  settled₂ : Settled d₂ g 0 (flat es)
  settled₂ =
      record {
        one = one_table_law.0;
        table = one_table_law.1;
        good = copy-counts one_table_law.0 one_table_law.1;
        newest = copy-sequence one_table_law.0 one_table_law.1;
        below = λ t i h. omega (arith, copy-sequence t i);
        alike = λ t i h q. copy-table t i;
      }

  geo₂ : geometry e d₂ ≡ g
  geo₂ = geometry-same e d d₂ (writes-marks-length (1 + length up) no_cut (copies_to g.tables copy) d₁ ∙ marks₁)

  -- ---- what is read there
  table₂ : table_on e d₂ ≡ flat es
  unfolding table_on
  table₂ = rw geo₂ (settled-table d₂ g 0 (flat es) settled₂)

  place₂ : (b : ℕ) → place_of e d₂ b ≡ e.start + b
  unfolding place_of entries_on
  place₂ b = rw (table₂, entries-flat es) (free-place spares e.start b)

  slot₂ : (b : ℕ) → b < e.span → slot_at d₂ (e.start + b) ≡ holds zero_block
  unfolding recorded
  slot₂ b h = slot-recorded d₂ (e.start + b) (ap (λ (m : ℕ). eqb m 1) (zeros₂ b h).one) ∙ ap holds (zeros₂ b h).own

  count₂ : length (blocks_on e d₂) ≡ e.span
  unfolding blocks_on
  count₂ = rw again (length-places e d₂ 0 e.span)

  spare₂ : (b : ℕ) → of_spare_on e d₂ b ≡ in_spare e spares b
  unfolding of_spare_on entries_on in_spare
  spare₂ b = rw (table₂, entries-flat es)

  block₂ : (b : ℕ) → b < e.span → get_or (blocks_on e d₂) b unused ≡ cond (in_spare e spares b) reserved (holds zero_block)
  unfolding blocks_on place_slot
  block₂ b h =
      let q : 0 + b ≡ b = omega arith in
      rw again
      (place-slot e d₂ 0 e.span b h
      ∙ ap (place_slot e d₂) q
      ∙ (λ i. cond (spare₂ b i) reserved ((ap (slot_at d₂) (place₂ b) ∙ slot₂ b h) i)))

  spare-is : (b : ℕ) → in_spare e spares b ≡ of_spare g.start (entries (flat es)) b
  unfolding in_spare
  spare-is b = sym (rw (entries-flat es, ← γ.start_is))

  slot_is : (b : ℕ) → b < e.span → holds zero_block ≡ slot_at d₂ (locate g.start (entries (flat es)) b)
  slot_is b h = sym (slot₂ b h) ∙ ap (slot_at d₂) (sym (rw (entries-flat es, ← γ.start_is) (free-place spares e.start b)))

  ready₂ : Ready e g d₂ 0 (flat es) (blocks_on e d₂)
  ready₂ =
      record {
        shape = writes-shapely (1 + length up) no_cut (copies_to g.tables copy) d₁ placed₂ (writes-shapely 1 no_cut up d placed₁ told.examines.shape);
        within =
            sym (writes-inside (1 + length up) no_cut (copies_to g.tables copy) d₁ e.start e.span)
            ∙ sym (writes-inside 1 no_cut up d e.start e.span) ∙ told.examines.within;
        geo = geo₂;
        settled = settled₂;
        small = omega arith;
        even = ap flat (entries-flat es);
        count = count₂ ∙ γ.span-is;
        same = λ b h.
            block₂ b (rw γ.span-is h)
            ∙ (λ i. cond (spare-is b i) reserved (slot_is b (rw γ.span-is h) i));
      }

  -- the disc that making leaves: its copies are of sequence 0, with the spares as free entries
  pub made-ready : Ready e g (made e d spares) 0 (flat es) (blocks_on e (made e d spares))
  made-ready = rw made-is ready₂

  -- it has L blocks
  pub made-count : length (blocks_on e (made e d spares)) ≡ e.span
  made-count = rw made-is count₂

  -- each of a spare, or of zeros
  pub made-blocks : (b : ℕ) → b < e.span → get_or (blocks_on e (made e d spares)) b unused ≡ cond (in_spare e spares b) reserved (holds zero_block)
  made-blocks = rw made-is block₂

  -- each of its copies is the table with the spares as free entries
  pub made-stands : (t : ℕ) → In t g.tables → Has (made e d spares) t copy
  made-stands t i = rw made-is (each t i)
