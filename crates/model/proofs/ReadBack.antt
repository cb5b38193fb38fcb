-- What is written reads back (specs/ReadBack.antt), from the laws of each structure. Assumes nothing.
use Prim.Native.Nat.{ℕ, ◌+◌, ◌-◌, ◌*◌, ◌≤◌, ◌<◌}
use mathlib.Core.Bool.{true, false, false≢true}
use mathlib.Core.Path.{◌≡◌, refl, sym, ap, ◌∙◌}
use mathlib.Core.List.{List, [], ◌∷◌, ◌++◌}
use native.Mathlib.Omega.{arith}
use lib.Dec.{leb, eqb}
use lib.ListN.{length, get_or, take}
use lib.Seq.{length-take-le}
use borrow.Author.Tests.{leb-true, ltb-true, eqb-true, lt-ltb, eq-eqb}
use Rattle.refusal.specs.declared.Refusal.TheVariants.{OtherKind, StaleRecord}
use Rattle.refusal.specs.Verdict.{Verdict}
use Rattle.std.specs.Prelude.{Ok, Err}
use Rattle.refusal.specs.Tests.{test}
use Rattle.refusal.proofs.Laws.{passed}
use Rattle.fields.specs.Bytes.{part}
use Rattle.fields.specs.Number.{field}
use Rattle.fields.specs.Regid.{has_regid}
use Rattle.fields.proofs.Laws.{part-all, length_part}
use Rattle.fields.proofs.Words.{word_at}
use Rattle.maps.proofs.Written.{list-reads-back}
use Rattle.model.specs.declared.Cut.{Cut}
use Rattle.model.specs.declared.Landing.{Landing}
use Rattle.model.specs.declared.Record.{Record}
use Rattle.model.specs.declared.Reply.{Reply}
use Rattle.model.specs.Disc.{Disc, sector, mark, recorded, recorded_run, joined, shapely, inside}
use Rattle.model.specs.Writes.{Write, landing, landed, write, writes, upward, struck}
use Rattle.model.specs.Vat.{below_or_none, all_below, count_of, entries_of, previous_of, file_of, passes, vat_icb, vat_file, Found, icb_at}
use Rattle.model.specs.VatWritten.{file_bytes, data_sectors, written_file, written_data, written_icb}
use Rattle.model.specs.Sparing.{sparing_name, Geometry, Entry, entries, flat, sequence_at, sequence_in, table_at, table_in, count_in, copy_fits, written_table}
use Rattle.model.specs.Plan.{carry, unless, reply_of, disc_after}
use Rattle.model.specs.Examine.{Setting, write_once, examined, lent_table}
use Rattle.model.specs.Once.{next_on, entries_held, next_held, last_held, held_fits, once_verdict, is_found, found_at, newest, newest_file, room_to_commit, commit_tests, icb_block, commit_writes, commit_plan}
use Rattle.model.specs.Calls.{Call, commit, open_disc, State, step, carried, answer_of, answers, final, accepted, Proper, ends_cut}
use Rattle.model.specs.Store.{Store, shape_of}
use Rattle.model.specs.Demand.{after_opening}
use Rattle.model.specs.Consequences.{Follows, answer_after, store_after, lays_icb}
use Rattle.model.specs.ReadBack.{Stands, VatFrom, VatStands, VatBack, TableFrom, TableBack, NamesLast, ReadBack}
use Rattle.model.proofs.Basics.{by_bool, by-lt, and-true, and-false-left, both, or_right}
use Rattle.model.proofs.Verdicts.{then-go, examined-tells}
use Rattle.model.proofs.Scan.{below-mono}
use Rattle.model.proofs.Sectors.{Made, shapely-made, shapely-most, inside-fits, sector-other, recorded-other, sector-done, mark-done, recorded-done, writes-made, writes-marks-length, landing-uncut, landing-done-before}
use Rattle.model.proofs.SectorsRuns.{joined-parts, recorded_run-all, placed-upward, upward-sector, upward-mark}
use Rattle.model.proofs.WrittenVatFile.{embedded-none}
use Rattle.model.proofs.WrittenVat.{length-data, length-icb, file-count, file-entries, file-previous, icb-file, icb-passes, data-never}
use Rattle.model.proofs.SparingLaws.{entries-flat, written-name, length-written, written-sequence, written_count, written-table, written-fits, fits-counts}
use Rattle.model.proofs.OnceSave.{once-tells}
use Rattle.model.proofs.OnceRead.{Live, live-last}
use Rattle.model.proofs.OnceOpen.{kept-newest}
use Rattle.model.proofs.OnceCommit.{commit-number, commit-disc, laid_kept, laid-previous}
use Rattle.model.proofs.OnceDemand.{once-live}
use Rattle.model.proofs.ConsequencesLists.{final-append, proper-split}

-- a write that is whole
stand : (n : ℕ) (c : Cut) (p : ℕ) (b : List ℕ) (d : Disc) → shapely d ≡ true → p < length d.marks → length b ≡ 2048 → landing n c ≡ Landing.Done
    → Stands (write n c p b d) p b
unfolding write
stand n c p b d shape on long done =
    rw done (record { marked = recorded-done p b d on; holds = sector-done p b d long on (shapely-made d shape) })

-- ---- a VAT

module _ (d : Disc) (s k : ℕ) (t : List ℕ) (previous : ℕ) (f : VatFrom k t previous) (w : VatStands d s k t previous) where
  abbrev D : ℕ
  D = data_sectors (length t)

  -- a data sector, counted from the first
  place : (i : ℕ) → s + (k - D) + i ≡ s + (k - D + i)
  place i = omega arith

  marks : (i : ℕ) → i < D → mark d (s + (k - D) + i) ≡ 1
  unfolding recorded
  marks i h = ap (mark d) (place i) ∙ eqb-true _ _ (w.body i h).marked

  run : recorded_run d (s + (k - D)) D ≡ true
  run = recorded_run-all d (s + (k - D)) D marks

  held : 1 ≤ D → joined d (s + (k - D)) D ≡ written_data t previous
  held h =
      joined-parts D d (s + (k - D)) (written_data t previous) 0
      (λ i q.
      let z : 0 + 2048 * i ≡ 2048 * i = omega arith in
      ap (sector d) (place i) ∙ (w.body i q).holds ∙ ap (λ (at : ℕ). part (written_data t previous) at 2048) (sym z))
      ∙ part-all (written_data t previous) (2048 * D) (omega (arith, length-data t previous h))

  file : vat_file d s k ≡ written_file t previous
  unfolding vat_file
  file = ap (file_of d s) w.icb.holds ∙ icb-file t previous k f.few f.small d s held

  counted : count_of (vat_file d s k) ≡ length t
  counted = ap count_of file ∙ file-count t previous

  listed : entries_of (vat_file d s k) ≡ t
  listed = ap entries_of file ∙ file-entries t previous k f.below f.small

  -- it is found at its place and gives back what it was written from
  vat-back : VatBack d s k t previous
  unfolding vat_icb entries_of
  vat-back =
      record {
        icb =
            both w.icb.marked
            (ap (passes d s k) w.icb.holds ∙ icb-passes t previous k f.few f.below f.before f.small d s w.room run held);
        count = counted;
        each = λ v h.
            let z : 0 + 4 * v ≡ 4 * v = omega arith in
            ap (λ (at : ℕ). field (vat_file d s k) at 4) (sym z)
            ∙ sym (word_at (vat_file d s k) 0 (count_of (vat_file d s k)) v (omega (arith, counted)))
            ∙ ap (λ (l : List ℕ). get_or l v 0) listed;
        entries = listed;
        names = ap previous_of file ∙ file-previous t previous k f.before f.small;
      }

-- up to 458 entries are embedded
few-embedded : (t : List ℕ) → length t ≤ 458 → data_sectors (length t) ≡ 0
unfolding file_bytes
few-embedded t h = embedded-none (length t) (omega arith)

embedded-stands : (d : Disc) (s k : ℕ) (t : List ℕ) (previous : ℕ) → length t ≤ 458 → Stands d (s + k) (written_icb k t previous) → VatStands d s k t previous
embedded-stands d s k t previous h w =
    let z = few-embedded t h in
    record { icb = w; room = omega arith; body = λ i q. absurd (omega arith) }

-- ---- a commit

-- the writes of a commit whose ICB is whole leave its VAT standing
module _ (s : ℕ) (d : Disc) (c : Cut) (t : List ℕ) (i₀ last : ℕ) (made : Made d) (on : s + (i₀ + data_sectors (length t)) < length d.marks)
    (whole : landing (1 + data_sectors (length t)) c ≡ Landing.Done) where
  abbrev E : ℕ
  E = data_sectors (length t)

  abbrev bytes : List ℕ
  bytes = written_data t last

  abbrev icb : List ℕ
  icb = written_icb (i₀ + E) t last

  abbrev d₁ : Disc
  d₁ = writes 1 c (upward E (s + i₀) bytes 0) d

  enough : 0 + 2048 * E ≤ length bytes
  enough = by-lt 0 E (λ h. omega (arith, length-data t last h)) (λ h. omega arith)

  fits : s + i₀ + E ≤ length d.marks
  fits = omega arith

  made₁ : Made d₁
  made₁ = writes-made 1 c (upward E (s + i₀) bytes 0) d (placed-upward (length d.marks) E (s + i₀) bytes 0 fits enough) made

  on₁ : s + (i₀ + E) < length d₁.marks
  on₁ = omega (arith, writes-marks-length 1 c (upward E (s + i₀) bytes 0) d)

  sector-body : (i : ℕ) → i < E → Stands (landed Landing.Done (s + (i₀ + E)) icb d₁) (s + i₀ + i) (part bytes (0 + 2048 * i) 2048)
  unfolding recorded
  sector-body i h =
      let x : List ℕ = part bytes (0 + 2048 * i) 2048 in
      let lx : length x ≡ 2048 = length_part bytes (0 + 2048 * i) 2048 (omega (arith, enough)) in
      let l : landing (1 + i) c ≡ Landing.Done = landing-done-before (1 + E) (1 + i) c whole (omega arith) (omega arith) in
      let p : s + i₀ + i < length d.marks = omega arith in
      record {
        marked =
            recorded-other Landing.Done (s + (i₀ + E)) icb d₁ (s + i₀ + i) (omega arith)
            ∙ eq-eqb _ _
            (upward-mark E 1 c (s + i₀) bytes 0 d i h fits
            ∙ ap (λ (lg : Landing). mark (landed lg (s + i₀ + i) x d) (s + i₀ + i)) l
            ∙ mark-done (s + i₀ + i) x d p);
        holds =
            sector-other Landing.Done (s + (i₀ + E)) icb d₁ (s + i₀ + i) (length-icb t last (i₀ + E)) on₁ made₁ (omega arith)
            ∙ upward-sector E 1 c (s + i₀) bytes 0 d i h made fits enough
            ∙ ap (λ (lg : Landing). sector (landed lg (s + i₀ + i) x d) (s + i₀ + i)) l
            ∙ sector-done (s + i₀ + i) x d lx p made;
      }

  pub commit-stands : VatStands (landed (landing (1 + E) c) (s + (i₀ + E)) icb d₁) s (i₀ + E) t last
  commit-stands =
      rw whole
      (record {
        icb = record { marked = recorded-done (s + (i₀ + E)) icb d₁ on₁; holds = sector-done (s + (i₀ + E)) icb d₁ (length-icb t last (i₀ + E)) on₁ made₁ };
        room = omega arith;
        body = λ i h.
            let z : s + i₀ + i ≡ s + (i₀ + E - E + i) = omega arith in
            let y : 0 + 2048 * i ≡ 2048 * i = omega arith in
            rw (← z, ← y) (sector-body i h);
      })

-- what line 11 and the other lines of a commit that goes on tell
record Committing (e : Setting) (d : Disc) (t : List ℕ) (held : Record) : Type 0 where
  shape : shapely d ≡ true
  within : inside d e.start e.span ≡ true
  long : 4096 ≤ length t
  few : entries_held held ≤ 4096
  fresh : all_below (next_held held) (take (entries_held held) t) ≡ true
  before : last_held held < next_held held
  room : next_held held + data_sectors (entries_held held) + 1 ≤ e.span

held_tells : (e : Setting) (d : Disc) (t : List ℕ) (held : Record) → held_fits e d t held ≡ true
    → (entries_held held ≤ 4096) × (all_below (next_held held) (take (entries_held held) t) ≡ true) × (last_held held < next_held held)
unfolding held_fits entries_held next_held last_held
held_tells e d t (Record.WriteOnce n next last) h =
    let a = and-true (eqb next (next_on e d)) _ h in
    let b = and-true (leb n 4096) _ a.1 in
    let c = and-true (all_below next (take n t)) _ b.1 in
    (leb-true _ _ b.0, c.0, ltb-true _ _ c.1)
held_tells e d t (Record.Rewritable n sequence) h = absurd (false≢true h)

commit-tells : (e : Setting) (d : Disc) (t : List ℕ) (held : Record) → once_verdict e d t (lent_table t) held (commit_tests e held) ≡ Ok tt → Committing e d t held
unfolding once_verdict commit_tests room_to_commit lent_table
commit-tells e d t held g =
    let p = then-go (examined e d (lent_table t)) _ g in
    let x = examined-tells e d (lent_table t) p.0 in
    let q = passed (test (write_once e) OtherKind ∷ test (held_fits e d t held) StaleRecord ∷ commit_tests e held) p.1 in
    let h = held_tells e d t held q.1.0 in
    record {
      shape = x.shape;
      within = x.within;
      long = leb-true _ _ x.lengths;
      few = h.0;
      fresh = h.1;
      before = h.2;
      room = leb-true _ _ q.1.1.0;
    }

-- the VAT of a commit that goes on and whose ICB is whole
module _ (e : Setting) (d : Disc) (t : List ℕ) (held : Record) (c : Cut) (m : Committing e d t held) where
  abbrev u : List ℕ
  u = take (entries_held held) t

  count : length u ≡ entries_held held
  count = length-take-le (entries_held held) t (omega (arith, m.few, m.long))

  at-k : next_held held + data_sectors (length u) ≡ icb_block held
  unfolding icb_block
  at-k = omega (arith, ap data_sectors count)

  below_end : e.start + (next_held held + data_sectors (length u)) < length d.marks
  below_end = omega (arith, m.room, ap data_sectors count, inside-fits d e.start e.span m.within)

  from-table : VatFrom (next_held held + data_sectors (length u)) u (last_held held)
  unfolding below_or_none
  from-table =
      record {
        few = omega (arith, count, m.few);
        below = below-mono (next_held held) _ u (omega arith) m.fresh;
        before = or_right (eqb (last_held held) _) (lt-ltb (last_held held) _ (omega (arith, m.before)));
        small = omega (arith, below_end, shapely-most d m.shape);
      }

  commit-back : landing (1 + data_sectors (length u)) c ≡ Landing.Done → VatBack (writes 1 c (commit_writes e u held) d) e.start (icb_block held) u (last_held held)
  commit-back whole =
      rw (commit-disc e u held (sym count) c d, ← at-k)
      (vat-back _ e.start _ u (last_held held) from-table
      (commit-stands e.start d c u (next_held held) (last_held held) (shapely-made d m.shape) below_end whole))

-- a plan that answers that it is done
pub plan-done : (v : Verdict) (ws : List Write) (tb : List ℕ) (q : Record) (c : Cut) (r : Record) → reply_of (unless v (carry ws tb q)) c ≡ Ok (Reply.Done r)
    → (v ≡ Ok tt) × (struck c (length ws) ≡ false) × (r ≡ q)
unfolding unless reply_of
plan-done (Ok _) ws tb q c r h =
    by_bool (struck c (length ws))
    (λ z. let y : (Ok Reply.Cut) ≡ (Ok (Reply.Done r)) = rw z at h in let n : ◌≡◌ {A = ℕ} 0 1 = cc in absurd (omega arith))
    (λ z. let y : (Ok (Reply.Done q)) ≡ (Ok (Reply.Done r)) = rw z at h in (refl, z, cc))
plan-done (Err why) ws tb q c r h = let n : ◌≡◌ {A = ℕ} 0 1 = cc in absurd (omega arith)

commit-done : (e : Setting) (d : Disc) (t : List ℕ) (held : Record) (c : Cut) (r : Record) → reply_of (commit_plan e d t held) c ≡ Ok (Reply.Done r)
    → VatBack (disc_after (commit_plan e d t held) c d) e.start (icb_block held) (take (entries_held held) t) (last_held held)
    × (r ≡ Record.WriteOnce (entries_held held) (icb_block held + 1) (icb_block held))
unfolding commit_plan unless disc_after
commit-done e d t held c r h =
    let p = plan-done _ _ _ _ c r h in
    let m = commit-tells e d t held p.0 in
    let n = commit-number e (u e d t held c m) held (sym (count e d t held c m)) in
    let w : landing (1 + data_sectors (length (u e d t held c m))) c ≡ Landing.Done = landing-uncut _ _ c p.1 (omega arith) (omega arith) in
    (rw p.0 (commit-back e d t held c m w), p.2)

-- ---- a commit in a list of calls

-- a call by its plan, accepted
plan-goes : (v : Verdict) (ws : List Write) (tb : List ℕ) (r : Record) (c : Cut) (st : State) → accepted (carried (unless v (carry ws tb r)) c st).answer ≡ true
    → (v ≡ Ok tt) × ((carried (unless v (carry ws tb r)) c st).state.disc ≡ writes 1 c ws st.disc)
unfolding carried unless reply_of disc_after answer_of accepted
plan-goes (Ok _) ws tb r c st h = (refl, refl)
plan-goes (Err why) ws tb r c st h = absurd (false≢true h)

-- a commit that was accepted is on a write-once disc
commit-kind : (e : Setting) (st : State) (c : Cut) → accepted (step e st (commit c)).answer ≡ true → write_once e ≡ true
unfolding step commit_plan once_verdict
commit-kind e st c a =
    let p = then-go (examined e st.disc (lent_table st.table)) _ (plan-goes _ _ _ _ c st a).0 in
    (passed (test (write_once e) OtherKind ∷ test (held_fits e st.disc st.table st.held) StaleRecord ∷ commit_tests e st.held) p.1).0

not-opening : (c : Cut) → commit c ≡ open_disc → ⊥
not-opening c q = let z : ◌≡◌ {A = ℕ} 0 1 = cc in omega arith

-- the ICB that is found where one is
found-is : (f : Found) (k : ℕ) → f ≡ icb_at k → (is_found f ≡ true) × (found_at f ≡ k)
unfolding is_found found_at
found-is f k q = rw q (refl, refl)

module _ (e : Setting) (st : State) (σ : Store) (i : Live e st σ) (c : Cut) (a : accepted (step e st (commit c)).answer ≡ true)
    (whole : lays_icb (shape_of e) σ (commit c) ≡ true) where
  commit-goes : (once_verdict e st.disc st.table (lent_table st.table) st.held (commit_tests e st.held) ≡ Ok tt)
      × ((step e st (commit c)).state.disc ≡ writes 1 c (commit_writes e (take (entries_held st.held) st.table) st.held) st.disc)
  unfolding step commit_plan
  commit-goes = plan-goes _ _ _ _ c st a

  names-last : NamesLast e st.disc (step e st (commit c)).state.disc
  unfolding newest_file
  names-last =
      let g = commit-goes.0 in
      let maps-go = (once-tells e st.disc st.table _ st.held (commit_tests e st.held) g).0.maps in
      let one = commit-kind e st c a in
      let κ = laid_kept e (shape_of e) st σ i c g whole in
      let b = found-is (newest e st.disc) _ (kept-newest e one maps-go st.disc _ i.kept) in
      let d' : Disc = writes 1 c (commit_writes e (take (entries_held st.held) st.table) st.held) st.disc in
      let f = found-is (newest e d') _ (kept-newest e one maps-go d' _ κ) in
      rw commit-goes.1
      (record {
        before = b.0;
        after = f.0;
        above = omega (arith, b.1, f.1, live-last e st σ i);
        names = omega (arith, b.1, ap (λ (k : ℕ). previous_of (vat_file d' e.start k)) f.1, laid-previous e (shape_of e) st σ i c g whole);
      })

-- each commit of a list whose ICB is whole
chain : (e : Setting) (d : Disc) (t : List ℕ) (cs : List Call) (c : Cut) → Follows e d t (cs ++ (commit c ∷ []))
    → accepted (answer_after e d t cs (commit c)) ≡ true → lays_icb (shape_of e) (store_after e d t cs) (commit c) ≡ true
    → NamesLast e (final e (after_opening e d t) cs).disc (final e (after_opening e d t) (cs ++ (commit c ∷ []))).disc
unfolding final Proper answers
chain e d t cs c f a whole =
    let p = proper-split e cs (commit c ∷ []) (after_opening e d t) false f.proper in
    let q : ends_cut false (answers e (after_opening e d t) cs) ≡ false =
    by_bool (ends_cut false (answers e (after_opening e d t) cs)) (λ z. absurd (not-opening c (p.1.0 z))) (λ z. z) in
    let one : write_once e ≡ true = commit-kind e (final e (after_opening e d t) cs) c a in
    rw (final-append e cs (commit c ∷ []) (after_opening e d t))
    (names-last e (final e (after_opening e d t) cs) (store_after e d t cs) (once-live e d t one f.opens cs p.0 q) c a whole)

-- ---- a sparing table

span_small : (g : Geometry) (es : List Entry) (n : ℕ) → TableFrom g es n → g.span ≤ 1048576
span_small g es n f = omega (arith, f.inside, f.sectors)

table-back : (d : Disc) (g : Geometry) (p : ℕ) (es : List Entry) (n : ℕ) → TableFrom g es n → Stands d p (written_table n (flat es)) → TableBack d g p es n
unfolding sequence_at table_at
table-back d g p es n f w =
    let span = span_small g es n f in
    let small : n < 4294967296 = f.sequence in
    let numbers : table_in (sector d p) ≡ flat es = ap table_in w.holds ∙ written-table g es n f.fits f.size f.sectors span small in
    record {
      counting = fits-counts d g p w.marked (ap (copy_fits g) w.holds ∙ written-fits g es n f.fits f.size f.sectors span small);
      name = ap (λ (b : List ℕ). has_regid b 16 sparing_name) w.holds ∙ written-name n (flat es);
      count = ap count_in w.holds ∙ written_count g es n f.fits f.size f.sectors span small;
      sequence = ap sequence_in w.holds ∙ written-sequence g es n f.fits f.size f.sectors span small;
      table = ap entries numbers ∙ entries-flat es;
      numbers = numbers;
    }

-- ---- all of it
pub read_back : ReadBack
unfolding passes
read_back =
    record {
      lands = stand;
      icb_size = λ k t previous. length-icb t previous k;
      data_size = length-data;
      table_size = λ g es n f. length-written g es n f.fits f.size f.sectors (span_small g es n f) f.sequence;
      embedded = λ d s k t previous h f w. vat-back d s k t previous f (embedded-stands d s k t previous h w);
      beside = λ d s k t previous h f w. vat-back d s k t previous f w;
      never = λ k t previous f d s j i. and-false-left _ (data-never t previous k f.below f.before f.small i j);
      committed = commit-done;
      chained = chain;
      table = table-back;
      maps = list-reads-back;
    }
