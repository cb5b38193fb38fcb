-- Discs from newer writers (02, slip 1): no refusal has the number 18, which copies count, what is written, and the table after a sparing. Assumes
-- nothing.
use Prim.Native.Nat.{ℕ, zero, suc, ◌+◌, ◌%◌, ◌≤◌, ◌<◌}
use mathlib.Core.Path.{◌≡◌, refl, sym, ap, ap₂, ◌∙◌}
use mathlib.Core.Bool.{true, false, not}
use mathlib.Core.Logic.{◌≢◌}
use mathlib.Core.List.{List, [], ◌∷◌, ◌++◌}
use native.Mathlib.Omega.{arith}
use lib.Dec.{eqb}
use lib.ListN.{length, get_or, take, length-append}
use lib.Seq.{take_at}
use borrow.Author.Tests.{eq-eqb, eqb-true, eqb-false, ltb-true, leb-true, not-true}
use Rattle.refusal.specs.declared.Refusal.{Refusal}
use Rattle.refusal.specs.declared.Refusal.TheVariants.{DiscShape, SpanOutside, LentLength, BitmapMalformed, MapCut, NeitherKind, Misaligned, OtherKind, NoTable, TooManyEntries, CopiesDiffer, StaleRecord, NumberOutside, BelongsToSpare, WrongRun, NoRun, UnusedEntry, BlankSector, UnreadableSector, PassesAsIcb, NoRoom, OneTable, NoSpare, LastSequence, NotBlank}
use Rattle.refusal.specs.Verdict.{Verdict}
use Rattle.std.specs.Prelude.{Ok, Err, Result}
use Rattle.refusal.specs.Number.{number_of, answer_number}
use Rattle.refusal.specs.Tests.{Test, test}
use Rattle.refusal.proofs.Laws.{passed, both_go}
use Rattle.fields.specs.Bytes.{part, same, splice, join}
use Rattle.fields.specs.Number.{value, field, words, digits, quads}
use Rattle.fields.specs.Regid.{has_regid, identifier, regid}
use Rattle.fields.proofs.Laws.{same_true}
use Rattle.model.specs.declared.Cut.{Cut}
use Rattle.model.specs.declared.Record.{Record}
use Rattle.model.specs.declared.Reply.{Reply}
use Rattle.model.specs.declared.Opened.{Opened}
use Rattle.model.specs.declared.Forecast.{Forecast}
use Rattle.model.specs.Disc.{Disc, recorded}
use Rattle.model.specs.Writes.{Write, writes, upward, struck}
use Rattle.model.specs.Vat.{none}
use Rattle.model.specs.VatWritten.{filled}
use Rattle.model.specs.Told.{reply_number, forecast_number}
use Rattle.model.specs.Sparing.{sparing_name, older_name, Geometry, Entry, entries, flat, is_free, defective, is_defective, is_used, used_of, defective_of, free_of, original_fits, originals_fit, may_follow, ascending, apart, apart_from, whole_packet, original_clear, originals_clear, mapped_of, mapped_fit, entries_fit, count_in, table_in, none_defective, named, copy_fits, spot_of, inserted, first_free, rest, without, turned_defective, retired, free_taken, resorted, written_table, counts, counting_of, counting, sequence_in, sequence_at, table_at, highest, with_sequence, current_sequence, current, first_table, current_table, agree}
use Rattle.maps.specs.Kinds.{absent}
use Rattle.model.specs.Plan.{unless, disc_after}
use Rattle.model.specs.Examine.{Setting, write_once, geometry, examined, lent_table}
use Rattle.model.specs.Rewrite.{table_on, entries_on, sequence_on, copy_tests, held_current, rewritable_verdict, packet_tests, packet_lent, packet_writes, no_entry, spare_tests, copies_to, spared_table, copy_order, spare_writes, spare_plan, of_spare_on, spare_test}
use Rattle.model.specs.Both.{open_verdict}
use Rattle.model.specs.Store.{blocks_on}
use Rattle.model.specs.Demand.{Below}
use Rattle.model.specs.Examples.{entry}
use Rattle.model.specs.ReadBack.{Stands, small_geometry, each_entry}
use Rattle.model.specs.NewerWriters.{NoEighteen, Copies, NamesAside, NewerWritten, Respared, defective_after, DefectiveStays, table_under, plain_table, reserved_table, spent_table, spent_geometry, NewerMet}
use Rattle.model.proofs.Basics.{by_bool, and-true, and-false, both, or_left, or_right}
use Rattle.model.proofs.SparingLaws.{In, fits-originals, fits-mapped, free-not-defective, original-cases, originals-first, multiple-none, multiple-defective, three-parts, resorted-used, resorted-defective, resorted-free, resorted-length, resorted-fits, spot-same, spot-other, turned-spared, turned-unspared, locate-not-defective, written-name, written-suffix, length-copies, copy-order-length, packet-unmapped, in_place_law, in-mapped}
use Rattle.model.proofs.Sectors.{writes-append}
use Rattle.model.proofs.SectorsRuns.{length-upward}
use Rattle.model.proofs.Verdicts.{then-go, go-then, examined-tells, examined-go}
use Rattle.model.proofs.Ready.{ready-spare}
use Rattle.model.proofs.ReadyOpen.{first-ground, first-ready}
use Rattle.model.proofs.ReadyCalls.{again-tells}
use Rattle.model.proofs.ReadyDemand.{entries-stay}
use Rattle.model.proofs.ReadySpare.{Has, spare-stands}
use Rattle.model.proofs.ReadyLivesMade.{made-stands}
use Rattle.model.proofs.ReadBack.{plan-done}

-- ---- 18

-- no refusal has it
line : (why : Refusal) → number_of why ≢ 18
line DiscShape = omega arith
line SpanOutside = omega arith
line LentLength = omega arith
line BitmapMalformed = omega arith
line MapCut = omega arith
line NeitherKind = omega arith
line Misaligned = omega arith
line OtherKind = omega arith
line NoTable = omega arith
line TooManyEntries = omega arith
line CopiesDiffer = omega arith
line StaleRecord = omega arith
line NumberOutside = omega arith
line BelongsToSpare = omega arith
line WrongRun = omega arith
line NoRun = omega arith
line UnusedEntry = omega arith
line BlankSector = omega arith
line UnreadableSector = omega arith
line PassesAsIcb = omega arith
line NoRoom = omega arith
line OneTable = omega arith
line NoSpare = omega arith
line LastSequence = omega arith
line NotBlank = omega arith

told-verdict : (v : Verdict) → answer_number v ≢ 18
told-verdict (Ok _) = omega arith
told-verdict (Err why) = line why

told-reply : (r : Result Reply Refusal) → reply_number r ≢ 18
told-reply (Ok (Reply.Done r)) = omega arith
told-reply (Ok Reply.Cut) = omega arith
told-reply (Err why) = line why

told-opened : (o : Result Opened Refusal) → answer_number o ≢ 18
told-opened (Ok o) = omega arith
told-opened (Err why) = line why

told-given : (r : Verdict) → answer_number r ≢ 18
told-given (Ok _) = omega arith
told-given (Err why) = line why

told-forecast : (f : Result Forecast Refusal) → forecast_number f ≢ 18
told-forecast (Ok (Forecast.Ends next n)) = omega arith
told-forecast (Ok (Forecast.Stops i why)) = omega arith
told-forecast (Err why) = line why

-- 18 is the number of nothing that a call answers
pub no-eighteen : NoEighteen
no-eighteen =
    record {
      line = line;
      list = λ e st c why q. line why;
      verdict = told-verdict;
      reply = told-reply;
      opened = told-opened;
      given = told-given;
      forecast = told-forecast;
    }

-- ---- which copies count

-- a sector has not both identifiers
one_name : (b : List ℕ) → has_regid b 16 older_name ≡ true → has_regid b 16 sparing_name ≡ false
unfolding has_regid identifier older_name sparing_name
one_name b h =
    by_bool (has_regid b 16 sparing_name)
    (λ k.
    let x = same_true (part b 16 24) (0 ∷ identifier older_name) h in
    let y = same_true (part b 16 24) (0 ∷ identifier sparing_name) k in
    let z : ◌≡◌ {A = ℕ} 79 85 = ap (λ (l : List ℕ). get_or l 2 0) (sym x ∙ y) in
    absurd (omega (arith, z)))
    (λ k. k)

originals-at : (n : ℕ) (es : List Entry) (i : ℕ) (x : Entry) → originals_fit n es ≡ true → i < length es → original_fits n (get_or es i x).original ≡ true
originals-at n [] i x h l = absurd (omega arith)
originals-at n (e ∷ es) zero x h l = (originals-first n e es h).0
originals-at n (e ∷ es) (suc i) x h l = originals-at n es i x (originals-first n e es h).1 (omega arith)

-- the entries of a copy fit
copy-entries : (g : Geometry) (b : List ℕ) → copy_fits g b ≡ true → entries_fit g (entries (table_in b)) ≡ true
unfolding copy_fits
copy-entries g b h = (and-true (named b) _ (and-true (eqb (field b 0 2) 0) _ h).1).1

-- both identifiers, the mark under the older one, reserved originals, and the order of entries
pub copies : Copies
unfolding copy_fits named none defective
copies =
    record {
      newer = λ g b z h f. both (eq-eqb (field b 0 2) 0 z) (both (or_left _ h) f);
      older = λ g b z h n f. both (eq-eqb (field b 0 2) 0 z) (both (or_right (has_regid b 16 sparing_name) (both h n)) f);
      older_defective = λ g b h n. rw (one_name b h, h, n) (and-false (eqb (field b 0 2) 0) refl);
      neither = λ g b h k. rw (h, k) (and-false (eqb (field b 0 2) 0) refl);
      reserved = λ g b i l low high.
          by_bool (copy_fits g b)
          (λ q.
          original-cases g.span _ (originals-at g.span (entries (table_in b)) i (entry 0 0) (fits-originals g (entries (table_in b)) (copy-entries g b q)) l)
          (λ o. absurd (omega arith))
          (λ o. absurd (omega arith))
          (λ m o. absurd (omega arith)))
          (λ q. q);
      order = λ g b s h. three-parts g (entries (table_in b)) (copy-entries g b h) s;
    }

-- ---- the identifier has no other part

module _ (d d' : Disc) (g : Geometry) (same : (t : ℕ) → counts d g t ≡ counts d' g t) (sequence : (t : ℕ) → sequence_at d t ≡ sequence_at d' t)
    (table : (t : ℕ) → table_at d t ≡ table_at d' t) where
  counting-same : (ts : List ℕ) → counting_of d g ts ≡ counting_of d' g ts
  unfolding counting_of
  counting-same [] = refl
  counting-same (t ∷ ts) = rw (same t, counting-same ts)

  highest-same : (ts : List ℕ) → highest d ts ≡ highest d' ts
  unfolding highest
  highest-same [] = refl
  highest-same (t ∷ ts) = rw (sequence t, highest-same ts)

  with-same : (n : ℕ) (ts : List ℕ) → with_sequence d n ts ≡ with_sequence d' n ts
  unfolding with_sequence
  with-same n [] = refl
  with-same n (t ∷ ts) = rw (sequence t, with-same n ts)

  first-same : (ts : List ℕ) → first_table d ts ≡ first_table d' ts
  unfolding first_table
  first-same [] = refl
  first-same (t ∷ ts) = table t

  agree_same : (l ts : List ℕ) → agree d l ts ≡ agree d' l ts
  unfolding agree
  agree_same l [] = refl
  agree_same l (t ∷ ts) = rw (table t, agree_same l ts)

  current-sequence-same : current_sequence d g ≡ current_sequence d' g
  unfolding current_sequence counting
  current-sequence-same = highest-same (counting_of d g g.tables) ∙ ap (highest d') (counting-same g.tables)

  current-same : current d g ≡ current d' g
  unfolding current counting
  current-same =
      with-same (current_sequence d g) (counting_of d g g.tables)
      ∙ ap₂ (with_sequence d') current-sequence-same (counting-same g.tables)

  current-table-same : current_table d g ≡ current_table d' g
  unfolding current_table
  current-table-same = first-same (current d g) ∙ ap (first_table d') current-same

-- copies of both identifiers side by side
pub names-aside : NamesAside
unfolding NamesAside
names-aside d d' g same sequence table = (
  current-same d d' g same sequence table,
  current-sequence-same d d' g same sequence table,
  current-table-same d d' g same sequence table,
  agree_same d d' g same sequence table,
)

-- ---- what is written

stands : (d : Disc) (t : ℕ) (x : List ℕ) → Has d t x → Stands d t x
unfolding recorded
stands d t x h = record { marked = ap (λ (m : ℕ). eqb m 1) h.one; holds = h.own }

module _ (e : Setting) (d : Disc) (t : List ℕ) (held : Record) (b : ℕ) (packet : List ℕ) (c : Cut) (low : Below 256 d.bytes)
    (go : rewritable_verdict e d t (packet_lent t packet) held (spare_tests e d b) ≡ Ok tt) (uncut : struck c (length (spare_writes e d b packet)) ≡ false) where
  abbrev g : Geometry
  g = geometry e d

  -- what the tests tell
  record Lines : Type 0 where
    kind : write_once e ≡ false
    opens : open_verdict e d t ≡ Ok tt
    start : b % 32 ≡ 0
    below : b < e.span
    place : of_spare_on e d b ≡ false
    bytes : length packet ≡ 65536
    two : 2 ≤ length g.tables
    some : no_entry (free_of (entries_on e d)) ≡ false
    more : sequence_on e d ≢ 0xffffffff

  lines : Lines
  unfolding rewritable_verdict spare_tests packet_tests spare_test packet_lent open_verdict
  lines =
      let p = then-go (examined e d (packet_lent t packet)) _ go in
      let x = examined-tells e d (packet_lent t packet) p.0 in
      let own : List Test = test (held_current e d t held) StaleRecord ∷ spare_tests e d b in
      let again : Test = test (not (write_once e)) OtherKind in
      let q = both_go (again ∷ copy_tests e d) own p.1 in
      let kind : write_once e ≡ false = not-true _ (passed (again ∷ copy_tests e d) q.0).0 in
      let copies-pass = both_go (again ∷ []) (copy_tests e d) q.0 in
      let l = and-true (lent_table t) _ x.lengths in
      let k = again-tells e d t (packet_lent t packet) held (spare_tests e d b) go in
      let v = and-true (eqb (b % 32) 0) _ k.1.0 in
      record {
        kind = kind;
        opens =
            go-then _ (examined-go e d (lent_table t) (record { shape = x.shape; within = x.within; lengths = l.0; maps = x.maps; places = x.places }))
            ∙ rw kind copies-pass.1;
        start = eqb-true _ _ v.0;
        below = ltb-true _ _ v.1;
        place = not-true _ k.1.1.0;
        bytes = eqb-true _ _ l.1;
        two = leb-true _ _ k.1.1.1.0;
        some = not-true _ k.1.1.1.1.0;
        more = eqb-false _ _ (not-true _ k.1.1.1.1.1.0);
      }

  -- every copy is the new table
  spared-stands : (k : ℕ) → In k g.tables → Has (writes 1 c (spare_writes e d b packet) d) k (written_table (sequence_on e d + 1) (spared_table e d b))
  unfolding spare_writes packet_writes spared_table sequence_on entries_on table_on
  spared-stands k i =
      let h = lines in
      let γ = first-ground e h.kind d t low h.opens in
      let r = first-ready e h.kind d t low h.opens in
      let l : List ℕ = table_on e d in
      let up : List Write = upward 32 (first_free (free_of (entries_on e d))) packet 0 in
      let cs : List Write = copies_to (copy_order e d) (written_table (sequence_on e d + 1) (spared_table e d b)) in
      let many : length (up ++ cs) ≡ 32 + length g.tables =
      length-append up cs
      ∙ ap₂ (λ (x y : ℕ). x + y) (length-upward 32 (first_free (free_of (entries_on e d))) packet 0)
      (length-copies (copy_order e d) (written_table (sequence_on e d + 1) (spared_table e d b)) ∙ copy-order-length e d) in
      let run : writes 1 c (up ++ cs) d ≡ writes 33 c cs (writes 1 c up d) =
      writes-append 1 c up cs d
      ∙ ap (λ (y : ℕ). writes (1 + y) c cs (writes 1 c up d)) (length-upward 32 (first_free (free_of (entries_on e d))) packet 0) in
      rw run
      (spare-stands e g γ d (sequence_on e d) l (blocks_on e d) r b packet c h.start (rw (← γ.span-is) h.below) (sym (ready-spare γ r b) ∙ h.place) h.bytes h.two h.some h.more
      (rw many at uncut) k i)

-- the newer identifier, in every copy that a sparing or making writes
pub newer-written : NewerWritten
unfolding spare_plan unless disc_after
newer-written =
    record {
      name = written-name;
      suffix = written-suffix;
      spared = λ e d t held b packet c r low q i h.
          let p = plan-done (rewritable_verdict e d t (packet_lent t packet) held (spare_tests e d b)) (spare_writes e d b packet) _ _ c r q in
          rw p.0
          (stands _ _ _ (spared-stands e d t held b packet c low p.0 p.1 _ (in_place_law (geometry e d).tables i h)));
      made = λ e d spares again go i h. stands _ _ _ (made-stands e d spares again go _ (in_place_law (geometry e d).tables i h));
    }

-- ---- a packet spared, once or again

-- the parts of the table after it
pub respared : Respared
respared =
    record {
      used = λ es p m. resorted-used es p (multiple-none p m) (multiple-defective p m);
      defectives = λ es p m. resorted-defective es p (multiple-none p m) (multiple-defective p m);
      free = λ es p m. resorted-free es p (multiple-none p m) (multiple-defective p m);
      turned = λ g es p m f s k q. turned-spared g es p m f s k q;
      kept = λ es p m q. turned-unspared es p m q;
      fits = λ g es p f s m l u k.
          let w = resorted-fits g es p f m l s k (packet-unmapped g.start es p m u) in
          (w, three-parts g (resorted es p) w s, resorted-length g es p f m l s k);
      own = λ g es p f s m l k. spot-same g es p f m l s k;
      others = λ g es p q f s m l k h n. spot-other g es p f m l s k q n h;
      unread = λ g es i v j f s n u h k. locate-not-defective g es f s n v _ j u (in-mapped (defective_of es) i (entry 0 0) k) h;
      untaken = λ g es i f s k. free-not-defective g es _ (fits-mapped g es f) s (in-mapped (defective_of es) i (entry 0 0) k);
    }

-- what was defective stays so, over whole lists
pub stays-defective : DefectiveStays
unfolding DefectiveStays entries_on
stays-defective e d t cs later again f =
    let k = entries-stay e d t f.low again f.opens cs later f.proper in
    let ds : List Entry = defective_after e d t cs in
    ap (take (length ds)) k.defectives ∙ take_at ds k.later (length ds) refl

-- ---- closed tables

-- the copies and tables of the instances
pub newer-met : NewerMet
unfolding small_geometry each_entry table_under plain_table reserved_table spent_table spent_geometry written_table filled join regid identifier sparing_name older_name digits quads flat splice part same value field words entries count_in sequence_in table_in has_regid none_defective named copy_fits original_fits originals_fit may_follow ascending apart apart_from whole_packet absent mapped_of mapped_fit original_clear originals_clear entries_fit none defective is_free is_defective is_used used_of defective_of free_of spot_of inserted first_free rest without turned_defective retired free_taken resorted
newer-met =
    record {
      newer = refl;
      older = (refl, refl, refl);
      older_defective = (refl, refl, refl);
      alike = (refl, refl, refl);
      reserved = refl;
      fits = refl;
      spared = (refl, refl);
      again = refl;
      first = refl;
    }
