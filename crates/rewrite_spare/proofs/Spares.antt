-- Laws of a sparing: its own lines, what it may rely on once nothing stops it, the table that it writes and its writes. Assumes nothing.
use Prim.Native.Nat.{ℕ, zero, suc, ◌+◌, ◌*◌, ◌≤◌, ◌<◌}
use mathlib.Core.Bool.{Bool, true, false, not, ◌&&◌}
use mathlib.Core.Path.{◌≡◌, refl, sym, ap, ap₂, subst, ◌∙◌}
use mathlib.Core.List.{List, [], ◌∷◌, ◌++◌}
use native.Mathlib.Omega.{arith}
use borrow.Author.Tests.{eq-eqb, ne_eqb, le-leb, lt-leb, not-true}
use lib.Dec.{eqb, leb}
use lib.ListN.{length, get_or, take, length-append, length-take}
use Rattle.std.proofs.Common.{get_or-take}
use Rattle.std.specs.Prelude.{Ok, Err, Result, Option, Some, None, SomeIff}
use Rattle.std.specs.Option.{ok_or}
use Rattle.std.proofs.lemmas.Result.{IfOk-from_err}
use Rattle.refusal.specs.declared.Refusal.{Refusal}
use Rattle.refusal.specs.declared.Refusal.TheVariants.{OneTable, NoSpare, LastSequence}
use Rattle.refusal.specs.Verdict.{Verdict, verdict_of}
use Rattle.refusal.specs.Tests.{Test, test, first}
use Rattle.refusal.proofs.Laws.{goes, stops, passed, stops-all, goes-all, both_go}
use Rattle.address.specs.declared.PhysicalAddress.{PhysicalAddress}
use Rattle.model.specs.declared.Cut.{Cut}
use Rattle.model.specs.declared.Record.{Record}
use Rattle.model.specs.declared.Reply.{Reply}
use Rattle.model.specs.Disc.{Disc}
use Rattle.model.specs.Writes.{writes, upward, struck}
use Rattle.model.specs.Sparing.{Geometry, Entry, entries, flat, free_of, entries_fit, count_in, table_in, counts, first_free, resorted, written_table}
use Rattle.model.specs.Examine.{Setting, geometry, lent_table}
use Rattle.model.specs.Once.{filled_from}
use Rattle.model.specs.Plan.{carry}
use Rattle.model.specs.Lent.{Lent, Spares}
use Rattle.model.specs.Rewrite.{entries_on, sequence_on, count_on, rewritable_verdict, of_spare_on, packet_tests, packet_lent, packet_writes, no_entry, spare_tests, copies_to, spared_table, copy_order, spare_writes, spare_plan}
use Rattle.model.proofs.Verdicts.{unless-go, unless-stop}
use Rattle.model.proofs.Plans.{refused, cut_short, carried}
use Rattle.model.proofs.Ground.{Ground}
use Rattle.model.proofs.Sectors.{writes-append}
use Rattle.model.proofs.SectorsRuns.{length-upward}
use Rattle.model.proofs.SparingLaws.{fits-ascending, three-parts, free_on, written_count, written-table, packet-unmapped, resorted-length, resorted-fits, length-copies, copy-order-length}
use Rattle.sparing_copy.specs.Layout.{geometry_in, TablesOn}
use Rattle.sparing_table.specs.Table.{free_in}
use Rattle.sparing_table.proofs.Table.{free-at, free-none}
use Rattle.sparing_written.specs.Written.{Ordered}
use Rattle.sparing_writes.specs.Order.{numbers_of, order_of}
use Rattle.sparing_writes.proofs.Order.{order-current}
use Rattle.sparing_current.specs.declared.Looked.{Looked}
use Rattle.sparing_current.specs.Looked.{Judges}
use Rattle.sparing_current.specs.Held.{count_held, sequence_held, entries_lent}
use Rattle.sparing_current.proofs.Laws.{Common}
use Rattle.sparing_current.proofs.Held.{count_held_law, sequence-held, room-held, entries-lent}
use Rattle.sparing_current.proofs.Looks.{span-start, span-length, sectors-are}
use Rattle.sparing_place.specs.Placed.{JudgesStart}
use Rattle.sparing_place.proofs.Laws.{stops_call, going, goes-call, going-all}
use Rattle.sparing_place.proofs.Packets.{packet-bytes, packet-tells}
use Rattle.rewrite_spare.specs.declared.Sparing.{Sparing}
use Rattle.rewrite_spare.specs.Parts.{JudgesSparing, sparing_writes}

-- ---- an option that a refusal stands for where it is none

refused_for : {A : Type 0} (f : Option A) {e why : Refusal} → Err why ≡ ok_or f e → (f ≡ None) × (why ≡ e)
refused_for None q = (refl, cc)
refused_for (Some a) q = (cc, cc)

-- a number of 32 bits plus 1
raised : (q : ℕ) (g : Option ℕ) {n : ℕ} → SomeIff g (q + 1 < 4294967296) (q + 1) → g ≡ Some n → (q + 1 < 4294967296) × (n ≡ q + 1)
raised q None s h = let z : ◌≡◌ {A = ℕ} 0 1 = cc in absurd (omega arith)
raised q (Some m) s h = (s.0, cc)

-- which the last has not
at_last : (q : ℕ) (g : Option ℕ) → q < 4294967296 → SomeIff g (q + 1 < 4294967296) (q + 1) → g ≡ None → q ≡ 0xffffffff
at_last q None r s h = omega (arith, s)
at_last q (Some m) r s h = let z : ◌≡◌ {A = ℕ} 0 1 = cc in absurd (omega arith)

-- ---- the lines of a sparing; k is what the test of its lent lengths did

-- the lines after 12 and 30
abbrev own_tests : Setting → Disc → List Test
own_tests e d =
    test (leb 2 (length (geometry e d).tables)) OneTable
    ∷ test (not (no_entry (free_of (entries_on e d)))) NoSpare
    ∷ test (not (eqb (sequence_on e d) 0xffffffff)) LastSequence
    ∷ []

module _ (x : Lent) (t : List ℕ) (held : Record) (b : ℕ) (packet : List ℕ) {k : Bool} (lent : k ≡ (lent_table t && eqb (length packet) 65536)) where
  abbrev e : Setting
  e = x.setting

  abbrev d : Disc
  d = x.disc

  -- what is asked with that test is asked with those lengths
  judged : {r : Result Looked Refusal} → Judges e d t k held r → Judges e d t (packet_lent t packet) held r
  unfolding packet_lent
  judged {r} h = subst (λ (y : Bool). Judges e d t y held r) lent h

  -- a line turns it down
  stopped_at : {why : Refusal} {r : Result Sparing Refusal} → Err why ≡ rewritable_verdict e d t (packet_lent t packet) held (spare_tests e d b) → r ≡ Err why → JudgesSparing x t held b packet r
  stopped_at {r = r} h z = record { verdict = ap verdict_of z ∙ h; sparing = IfOk-from_err r _ (rw z) }

  -- lines 1 to 8, 10 and 11
  pub spare-stops : {why : Refusal} {r : Result Sparing Refusal} → Judges e d t k held (Err why) → r ≡ Err why → JudgesSparing x t held b packet r
  spare-stops j = stopped_at (stops_call (spare_tests e d b) (judged j))

  -- y is what was found, w the verdict of lines 12 and 30
  module _ {y : Looked} (j : Judges e d t k held (Ok y)) {w : Verdict} (start : JudgesStart y.layout.volume.span t held b w) where
    told : Common e d t (packet_lent t packet) held
    told = going (judged j)

    start_is : w ≡ first (packet_tests e d b)
    start_is = start e d (sym (span-start j.found.layout)) (sym (span-length j.found.layout)) (sym (entries-lent told))

    -- these
    pub spare-number : {why : Refusal} {r : Result Sparing Refusal} → w ≡ Err why → r ≡ Err why → JudgesSparing x t held b packet r
    unfolding spare_tests
    spare-number h = stopped_at (goes-call (judged j) (spare_tests e d b) (stops-all (packet_tests e d b) (own_tests e d) (sym start_is ∙ h)))

    module _ (on : w ≡ Ok tt) where
      after : {v : Verdict} → v ≡ first (own_tests e d) → v ≡ rewritable_verdict e d t (packet_lent t packet) held (spare_tests e d b)
      unfolding spare_tests
      after {v} h = goes-call (judged j) (spare_tests e d b) (goes-all (packet_tests e d b) (own_tests e d) v (sym start_is ∙ on) h)

      -- there is one table
      pub spare-one : y.layout.count < 2 → JudgesSparing x t held b packet (Err OneTable)
      spare-one h = stopped_at (after (stops _ (lt-leb 2 _ (omega (arith, h, j.found.layout.copies))))) refl

      -- f is the free entry of lowest index, if there is one
      module _ (two : 2 ≤ y.layout.count) {n : ℕ} (count : n ≡ count_held held) {f : Option PhysicalAddress} (free : f ≡ free_in (free_of (entries (take (2 * n) t)))) where
        tables : leb 2 (length (geometry e d).tables) ≡ true
        tables = le-leb 2 _ (omega (arith, two, j.found.layout.copies))

        on_disc : f ≡ free_in (free_of (entries_on e d))
        unfolding entries_lent
        on_disc = free ∙ ap (λ (m : ℕ). free_in (free_of (entries (take (2 * m) t)))) count ∙ ap (λ (es : List Entry). free_in (free_of es)) (entries-lent told)

        -- none is free
        pub spare-none : {why : Refusal} {r : Result Sparing Refusal} → Err why ≡ ok_or f NoSpare → r ≡ Err why → JudgesSparing x t held b packet r
        spare-none h z =
            let is = refused_for f h in
            stopped_at (after (goes _ tables (stops _ (ap not (free-none (free_of (entries_on e d)) (sym is.0 ∙ on_disc)))))) (rw (sym is.1) z)

        -- m is where it is mapped, and q the sequence
        module _ {m : PhysicalAddress} (some : f ≡ Some m) {q : ℕ} (sequence : q ≡ sequence_held held) (g : Option ℕ) (plus : SomeIff g (q + 1 < 4294967296) (q + 1)) where
          there : (no_entry (free_of (entries_on e d)) ≡ false) × (m.0 ≡ first_free (free_of (entries_on e d)))
          there = free-at (free_of (entries_on e d)) m (sym some ∙ on_disc)

          current : q ≡ sequence_on e d
          current = sequence ∙ sequence-held told

          -- it is the last
          pub spare-last : {why : Refusal} {r : Result Sparing Refusal} → q < 4294967296 → Err why ≡ ok_or g LastSequence → r ≡ Err why → JudgesSparing x t held b packet r
          spare-last small h z =
              let is = refused_for g h in
              let last = at_last q g small plus is.0 in
              stopped_at (after (goes _ tables (goes _ (ap not there.0) (stops _ (ap not (eq-eqb (sequence_on e d) 0xffffffff (sym current ∙ last))))))) (rw (sym is.1) z)

          -- none of the lines
          pub spare-fits : {next : ℕ} → g ≡ Some next → JudgesSparing x t held b packet (Ok (record { looked = y; first = m; next = next }))
          spare-fits h =
              let is = raised q g plus h in
              let low : sequence_on e d ≡ 0xffffffff → ⊥ = λ z. omega (arith, is.0, current, z) in
              record {
                verdict = after (goes _ tables (goes _ (ap not there.0) (goes _ (ap not (ne_eqb (sequence_on e d) 0xffffffff low)) refl)));
                sparing = record { found = j.found; first = there.1; next = is.1 ∙ ap (λ (n : ℕ). n + 1) current };
              }

-- ---- what a sparing may rely on once nothing stops it; j is what it goes by

record Sure (e : Setting) (d : Disc) (t : List ℕ) (held : Record) (b : ℕ) (packet : List ℕ) : Type 0 where
  pub most : length d.marks ≤ 1048576
  pub shape : length d.bytes ≡ 2048 * length d.marks
  pub bytes : length packet ≡ 65536
  pub count : count_held held ≡ count_on e d
  pub room : 2 * count_held held ≤ length t
  pub short : 56 + 8 * count_held held ≤ 2048
  pub low : b < 0xfffffff0
  pub lent : entries_lent t held ≡ entries_on e d
  pub ordered : Ordered (entries_on e d)
  pub on : first_free (free_of (entries_on e d)) + 32 ≤ length d.marks
  pub fits : entries_fit (geometry e d) (resorted (entries_on e d) b) ≡ true
  pub many : length (resorted (entries_on e d) b) ≡ count_on e d
  pub lies : Ground e (geometry e d)

-- from its verdict
sure : (e : Setting) (d : Disc) (t : List ℕ) (held : Record) (b : ℕ) (packet : List ℕ) → rewritable_verdict e d t (packet_lent t packet) held (spare_tests e d b) ≡ Ok tt → Sure e d t held b packet
unfolding geometry count_on of_spare_on spare_tests
sure e d t held b packet g =
    let a = going-all e d t (packet_lent t packet) held (spare_tests e d b) g in
    let h : Common e d t (packet_lent t packet) held = a.0 in
    let p = both_go (packet_tests e d b) (own_tests e d) a.1 in
    let k = packet-tells e d b p.0 in
    let some : no_entry (free_of (entries_on e d)) ≡ false = not-true _ (passed (own_tests e d) p.1).1.0 in
    let small : e.span ≤ 1048576 = omega (arith, h.span, h.few) in
    record {
      most = h.few;
      shape = h.shape;
      bytes = packet-bytes t packet h.lengths;
      count = count_held_law h;
      room = room-held h;
      short = omega (arith, h.short, count_held_law h);
      low = omega (arith, k.low, small);
      lent = entries-lent h;
      ordered =
          record {
            whole = three-parts (geometry e d) (entries_on e d) h.fits small;
            rises = fits-ascending (geometry e d) (entries_on e d) h.fits;
            some = some;
          };
      on = free_on (geometry e d) (entries_on e d) h.fits h.start-32 h.span-32 some;
      fits = resorted-fits (geometry e d) (entries_on e d) b h.fits k.start k.low small some (packet-unmapped e.start (entries_on e d) b k.start k.place);
      many = resorted-length (geometry e d) (entries_on e d) b h.fits k.start k.low small some;
      lies = h.lies;
    }

-- a refusal leaves everything as it came
pub spare-refused : (x : Lent) (t : List ℕ) (held : Record) (b : ℕ) (packet : List ℕ) (c : Cut) {why : Refusal} {r : Result Reply Refusal} → JudgesSparing x t held b packet (Err why) → r ≡ Err why → Spares x t held b packet c r x.disc t
unfolding spare_plan
spare-refused x t held b packet c h z = rw z (refused _ _ _ _ (unless-stop _ (sym h.verdict)))

module _ (x : Lent) (t : List ℕ) (held : Record) (b : ℕ) (packet : List ℕ) {j : Sparing} (h : JudgesSparing x t held b packet (Ok j)) where
  abbrev es : List Entry
  es = entries_on x.setting x.disc

  abbrev lies_in : Geometry
  lies_in = geometry x.setting x.disc

  safe : Sure x.setting x.disc t held b packet
  safe = sure x.setting x.disc t held b packet (sym h.verdict)

  -- what is asked of the layout, of the disc, of the place and of the copy
  pub spare-layout : (j.looked.layout.count ≤ 4) × (j.looked.layout.size ≤ 2048) × TablesOn j.looked.layout
  spare-layout = let x = h.sparing.found.layout in (x.few, x.short, x.on)

  pub spare-disc : (length x.disc.marks ≤ 1048576) × (length x.disc.bytes ≡ 2048 * length x.disc.marks) × (j.looked.layout.sectors ≡ length x.disc.marks)
  spare-disc = (safe.most, safe.shape, sectors-are h.sparing.found.layout)

  pub spare-place : (j.first.0 + 32 ≤ length x.disc.marks) × (length packet ≡ 65536)
  spare-place = (omega (arith, safe.on, h.sparing.first), safe.bytes)

  pub spare-copy : (j.looked.current.at.0 < length x.disc.marks) × (counts x.disc (geometry_in j.looked.layout) j.looked.current.at.0 ≡ true)
  unfolding geometry
  spare-copy = (
    h.sparing.found.current.place,
    ap (λ (y : Geometry). counts x.disc y j.looked.current.at.0) h.sparing.found.layout.same ∙ h.sparing.found.current.counted,
  )

  -- the next sequence is a number of 32 bits
  module _ (small : j.next < 4294967296) {r : ℕ} (is : r ≡ count_held held) where
    -- ---- the table that it writes; r is R

    by_count : entries (take (2 * r) t) ≡ es
    unfolding entries_lent
    by_count = ap (λ (k : ℕ). entries (take (2 * k) t)) is ∙ safe.lent

    -- what is asked of the lent entries
    pub spare-asks : (56 + 8 * r ≤ 2048) × (2 * r ≤ length t) × (b < 0xfffffff0)
    spare-asks = (omega (arith, safe.short, is), omega (arith, safe.room, is), safe.low)

    pub spare-ordered : Ordered (entries (take (2 * r) t))
    spare-ordered = rw by_count safe.ordered

    -- s is its sector
    module _ {s : List ℕ} (made : s ≡ written_table j.next (flat (resorted (entries (take (2 * r) t)) b))) where
      sector_is : s ≡ written_table (sequence_on x.setting x.disc + 1) (spared_table x.setting x.disc b)
      unfolding spared_table
      sector_is = made ∙ ap₂ (λ (k : ℕ) (l : List Entry). written_table k (flat (resorted l b))) h.sparing.next by_count

      small_span : lies_in.span ≤ 1048576
      small_span = omega (arith, safe.lies.inside, safe.lies.sectors)

      small_next : sequence_on x.setting x.disc + 1 < 4294967296
      small_next = omega (arith, small, h.sparing.next)

      -- the number of its entries
      count_is : count_in s ≡ count_on x.setting x.disc
      unfolding spared_table
      count_is =
          ap count_in sector_is
          ∙ written_count lies_in (resorted es b) (sequence_on x.setting x.disc + 1) safe.fits safe.lies.size safe.lies.sectors small_span small_next
          ∙ safe.many

      -- they fit a sector and the lent table
      pub spare-room : (56 + 8 * count_in s ≤ 2048) × (2 * count_in s ≤ length t)
      spare-room = (omega (arith, count_is, safe.count, safe.short), omega (arith, count_is, safe.count, safe.room))

      -- ---- its writes; d is the disc after them, and u tells whether the power failed at one

      module _ (c : Cut) {d : Disc} (w : d ≡ writes 1 c (sparing_writes x.disc (geometry_in j.looked.layout) j.looked.current.sequence j.first.0 packet s) x.disc) {u : Bool} (power : u ≡ struck c (32 + j.looked.layout.count)) where
        plan : spare_plan x.setting x.disc t held b packet ≡ carry (spare_writes x.setting x.disc b packet) (filled_from (spared_table x.setting x.disc b) t) (Record.Rewritable (count_on x.setting x.disc) (sequence_on x.setting x.disc + 1))
        unfolding spare_plan
        plan = unless-go _ (sym h.verdict)

        -- they are the plan's
        written : d ≡ writes 1 c (spare_writes x.setting x.disc b packet) x.disc
        unfolding sparing_writes spare_writes copy_order sequence_on
        written =
            let f = h.sparing.found in
            let order : order_of x.disc (geometry_in j.looked.layout) j.looked.current.sequence ≡ copy_order x.setting x.disc =
            ap (λ (g : Geometry). order_of x.disc g j.looked.current.sequence) f.layout.same ∙ order-current x.disc lies_in j.looked.current.sequence f.current.sequence in
            w
            ∙ ap (λ (k : ℕ). writes 1 c (packet_writes k packet ++ copies_to (order_of x.disc (geometry_in j.looked.layout) j.looked.current.sequence) s) x.disc) h.sparing.first
            ∙ ap₂ (λ (ts y : List ℕ). writes 1 c (packet_writes (first_free (free_of es)) packet ++ copies_to ts y) x.disc) order sector_is

        -- 32, and one for each table
        many : length (spare_writes x.setting x.disc b packet) ≡ 32 + j.looked.layout.count
        unfolding spare_writes packet_writes
        many =
            let ws = upward 32 (first_free (free_of es)) packet 0 in
            let us = copies_to (copy_order x.setting x.disc) (written_table (sequence_on x.setting x.disc + 1) (spared_table x.setting x.disc b)) in
            omega (
              arith,
              length-append ws us,
              length-upward 32 (first_free (free_of es)) packet 0,
              length-copies (copy_order x.setting x.disc) (written_table (sequence_on x.setting x.disc + 1) (spared_table x.setting x.disc b)),
              copy-order-length x.setting x.disc,
              h.sparing.found.layout.copies,
            )

        -- it failed
        pub spare-cut : u ≡ true → Spares x t held b packet c (Ok Reply.Cut) d t
        spare-cut g = cut_short _ _ _ _ plan (ap (struck c) many ∙ sym power ∙ g) written

        -- it did not, and the lent table has the new entries
        pub spare-done : {t' : List ℕ} → u ≡ false → t' ≡ filled_from (table_in s) t → Spares x t held b packet c (Ok (Reply.Done (Record.Rewritable r j.next))) d t'
        unfolding spared_table
        spare-done g f =
            carried _ _ _ _ plan (ap (struck c) many ∙ sym power ∙ g) written
            (ap₂ (λ (k m : ℕ). Record.Rewritable k m) (is ∙ safe.count) h.sparing.next)
            (f ∙ ap (λ (l : List ℕ). filled_from l t)
            (ap table_in sector_is
            ∙ written-table lies_in (resorted es b) (sequence_on x.setting x.disc + 1) safe.fits safe.lies.size safe.lies.sectors small_span small_next))

-- ---- the writes in turn: the packet's, then the copies'

-- the first sectors of a list
numbers-take : (n : ℕ) (ps : List PhysicalAddress) → numbers_of (take n ps) ≡ take n (numbers_of ps)
unfolding numbers_of
numbers-take zero ps = refl
numbers-take (suc n) [] = refl
numbers-take (suc n) (p ∷ ps) = ap (λ (l : List ℕ). p.0 ∷ l) (numbers-take n ps)

-- each of them is one of the disc's n sectors
pub copies_on : (k : ℕ) (ps : List PhysicalAddress) {n : ℕ} → ((i : ℕ) → i < k → get_or (numbers_of ps) i 0 < n) → (i : ℕ) → i < length (take k ps) → get_or (numbers_of (take k ps)) i 0 < n
copies_on k ps on i l =
    let low : i < k = omega (arith, length-take k ps) in
    rw (numbers-take k ps, get_or-take k (numbers_of ps) i 0 low) (on i low)

-- the writes to them come after those of the packet
pub sparing-written : (d : Disc) (g : Geometry) (q k : ℕ) (ps : List PhysicalAddress) → take k (numbers_of ps) ≡ order_of d g q → (c : Cut) (p : ℕ) (packet s : List ℕ) {d₁ d₂ : Disc} → d₁ ≡ writes 1 c (upward 32 p packet 0) d → d₂ ≡ writes 33 c (copies_to (numbers_of (take k ps)) s) d₁ → d₂ ≡ writes 1 c (sparing_writes d g q p packet s) d
unfolding sparing_writes packet_writes
sparing-written d g q k ps order c p packet s f w =
    let n : 1 + length (upward 32 p packet 0) ≡ 33 = omega (arith, length-upward 32 p packet 0) in
    w
    ∙ ap₂ (λ (l : List ℕ) (y : Disc). writes 33 c (copies_to l s) y) (numbers-take k ps ∙ order) f
    ∙ sym (ap (λ (m : ℕ). writes m c (copies_to (order_of d g q) s) (writes 1 c (upward 32 p packet 0) d)) n)
    ∙ sym (writes-append 1 c (upward 32 p packet 0) (copies_to (order_of d g q) s) d)
