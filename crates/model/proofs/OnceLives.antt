-- A write-once disc that was made opens, takes a first block and gives it back. Assumes nothing.
use Prim.Native.Nat.{ℕ, ◌+◌, ◌-◌, ◌≤◌, ◌<◌}
use mathlib.Core.Bool.{Bool, true, false}
use mathlib.Core.Path.{◌≡◌, refl, sym, ap, ◌∙◌}
use mathlib.Core.List.{List, [], ◌∷◌}
use native.Mathlib.Omega.{arith}
use lib.Dec.{eqb}
use lib.ListN.{length, set, take}
use borrow.Author.Tests.{eqb-true, le-leb, eq-eqb}
use Rattle.refusal.specs.declared.Refusal.TheVariants.{NotBlank}
use Rattle.std.specs.Prelude.{Ok}
use Rattle.refusal.specs.Tests.{Test, test, first, need}
use Rattle.refusal.proofs.Laws.{passed}
use Rattle.maps.specs.Kinds.{read_maps}
use Rattle.model.specs.declared.Landing.{Landing}
use Rattle.model.specs.declared.Record.{Record}
use Rattle.model.specs.Disc.{Disc, sector, recorded_run, joined, shapely, inside, nwa}
use Rattle.model.specs.Writes.{landed, writes, struck, no_cut}
use Rattle.model.specs.Vat.{none, all_below, passes, vat_icb, vat_file, count_of, entries_of, file_of, icb_at}
use Rattle.model.specs.VatWritten.{file_bytes, data_sectors, written_file, written_data, written_icb}
use Rattle.model.specs.Plan.{unless, reply_of, disc_after, table_after}
use Rattle.model.specs.Examine.{Setting, write_once, examined, lent_table}
use Rattle.model.specs.Once.{next_on, entries_held, next_held, last_held, once_verdict, found_at, newest, newest_file, found_record, filled_from, count_after, room_to_save, number_fits, save_tests, save_lent, save_plan, room_to_commit, commit_tests, icb_block, commit_writes, commit_plan}
use Rattle.model.specs.Both.{record_on, numbers_on, passed_on, opened_by, filled_by, opening, opened_table, make_tests, make_verdict, make_writes, made_by, made}
use Rattle.model.specs.Calls.{save_virtual, commit, open_disc, done, opened, State, Stepped, answer_of, held_after, carried, answer_of_opening, held_after_opening, step, answers, final, accepted, is_cut}
use Rattle.model.specs.Store.{Slot, holds, entry_slots, Store, store, Shape, shape_of, put, cut_in, writes_in, was_cut, taken, next, seen_as, bytes, look}
use Rattle.model.specs.Demand.{after_opening, seen}
use Rattle.model.specs.Lives.{OnceMadeOpens, first_block, OnceLives}
use Rattle.model.proofs.Basics.{both}
use Rattle.model.proofs.Verdicts.{Examined, examined-tells, then-go, go-then, examined-once}
use Rattle.model.proofs.Scan.{below_none, length-slots, not-recorded}
use Rattle.model.proofs.Sectors.{shapely-made, inside-fits, landed-shapely, landed-inside, sector-done, recorded-done, writes_one, landing-none}
use Rattle.model.proofs.WrittenVatFile.{file-count, file-entries}
use Rattle.model.proofs.WrittenVatIcb.{length-icb, icb-file, icb-passes}
use Rattle.model.proofs.Once.{Kept, BlankFrom, on-disc, blank-next, blank-landed, next-done}
use Rattle.model.proofs.OnceFits.{once_held}
use Rattle.model.proofs.OnceRead.{Live, live-held, read-once}
use Rattle.model.proofs.OnceSave.{OnceOk, sound-save}
use Rattle.model.proofs.OnceOpen.{length-entries, kept-newest, passed-kept, open-goes, reopened}
use Rattle.model.proofs.OnceCommit.{sound-commit}
use Rattle.refusal.specs.Verdict.{verdict_of}

-- ---- what making leaves

-- the empty VAT has no data sectors
empty-none : data_sectors 0 ≡ 0
unfolding data_sectors file_bytes
empty-none = refl

-- the first block of a blank partition with the ICB of an empty VAT
module _ (s l : ℕ) (d : Disc) (shape : shapely d ≡ true) (within : inside d s l ≡ true) (blank : BlankFrom s l d 0) where
  abbrev icb : List ℕ
  icb = written_icb 0 [] none

  abbrev d' : Disc
  d' = landed Landing.Done (s + 0) icb d

  room : 1 ≤ l
  room = (inside-fits d s l within).0

  on : s + 0 < length d.marks
  on = on-disc s l d 0 within (omega (arith, room))

  long : length icb ≡ 2048
  long = length-icb [] none 0

  bytes-there : sector d' (s + 0) ≡ icb
  bytes-there = sector-done (s + 0) icb d long on (shapely-made d shape)

  run : recorded_run d' (s + (0 - data_sectors 0)) (data_sectors 0) ≡ true
  unfolding recorded_run
  run = rw empty-none refl

  no-data : 1 ≤ data_sectors 0 → joined d' (s + (0 - data_sectors 0)) (data_sectors 0) ≡ written_data [] none
  no-data h = absurd (omega (arith, empty-none))

  here : vat_icb d' s 0 ≡ true
  unfolding vat_icb all_below
  here =
      both (recorded-done (s + 0) icb d on)
      (ap (passes d' s 0) bytes-there
      ∙ icb-passes [] none 0 (omega arith) refl (below_none 0) (omega arith) d' s (omega (arith, empty-none)) run no-data)

  file : vat_file d' s 0 ≡ written_file [] none
  unfolding vat_file
  file = ap (file_of d' s) bytes-there ∙ icb-file [] none 0 (omega arith) (omega arith) d' s no-data

  blank' : BlankFrom s l d' 1
  blank' = blank-landed Landing.Done s l 0 icb d blank

  -- keeps that VAT, with no blocks
  empty-kept : Kept s l d' 0 []
  unfolding all_below entry_slots
  empty-kept =
      record {
        shape = landed-shapely Landing.Done (s + 0) icb d long on shape;
        within = sym (landed-inside Landing.Done (s + 0) icb d s l) ∙ within;
        newest = record {
          here = here;
          below = omega (arith, room);
          above = λ j u v. not-recorded d' s j 0 (blank'.blank j (omega arith) v) (omega arith);
        };
        few = rw (file, file-count [] none) (omega arith);
        same =
            ap (λ (f : List ℕ). entry_slots d' s (entries_of f)) file
            ∙ ap (entry_slots d' s) (file-entries [] none 0 refl (omega arith));
      }

  -- and has NWA 1
  empty-next : nwa d' s l ≡ 1
  empty-next = next-done s l 0 icb d blank (omega (arith, room)) on

-- ---- opening a disc that keeps a VAT at a, whose NWA is n

module _ (e : Setting) (once : write_once e ≡ true) (maps-go : verdict_of (read_maps e.maps) ≡ Ok tt) where
  module _ (d : Disc) (a n : ℕ) (bs : List Slot) (κ : Kept e.start e.span d a bs) (top : next_on e d ≡ n) where
    found : newest e d ≡ icb_at a
    found = kept-newest e once maps-go d a κ

    place : found_at (newest e d) ≡ a
    unfolding found_at
    place = ap found_at found

    -- as many entries as blocks
    count : count_of (newest_file e d) ≡ length bs
    unfolding newest_file
    count =
        ap (λ (k : ℕ). count_of (vat_file d e.start k)) place
        ∙ sym (length-entries (vat_file d e.start a))
        ∙ sym (length-slots d e.start (entries_of (vat_file d e.start a)))
        ∙ ap length κ.same

    kept_record : record_on e d ≡ Record.WriteOnce (length bs) n a
    unfolding record_on found_record
    kept_record = rw (once, count, top, place)

    kept-passed : passed_on e d ≡ n - 1 - a
    unfolding passed_on
    kept-passed = rw (once, ← top) (passed-kept e once maps-go d a κ)

    kept-opening : (t : List ℕ) → 4096 ≤ length t → opening e d t ≡ Ok (record { handed = Record.WriteOnce (length bs) n a; passed = n - 1 - a })
    unfolding opening opened_by
    kept-opening t long = rw (open-goes e once maps-go d t a κ long, kept_record, kept-passed)

-- ---- a disc that was made

module _ (e : Setting) (d : Disc) (spares : List ℕ) (once : write_once e ≡ true) (goes : make_verdict e d spares ≡ Ok tt) where
  record Told : Type 0 where
    examines : Examined e d true
    empty : next_on e d ≡ 0

  told : Told
  unfolding make_verdict make_tests
  told =
      let p = then-go (examined e d true) _ goes in
      let q : first (test (eqb (next_on e d) 0) NotBlank ∷ []) ≡ (Ok tt) = rw once at p.1 in
      record { examines = examined-tells e d true p.0; empty = eqb-true _ _ (passed (test (eqb (next_on e d) 0) NotBlank ∷ []) q).0 }

  made-maps : verdict_of (read_maps e.maps) ≡ Ok tt
  made-maps = told.examines.maps

  was-blank : BlankFrom e.start e.span d 0
  unfolding next_on
  was-blank = blank-next e.start e.span 0 d told.empty

  -- is the old one with the ICB of an empty VAT in the first block
  made-is : made e d spares ≡ landed Landing.Done (e.start + 0) (written_icb 0 [] none) d
  unfolding made made_by make_writes no_cut
  made-is =
      let w : e.start ≡ e.start + 0 = omega arith in
      rw (goes, once)
      (writes_one 1 no_cut e.start (written_icb 0 [] none) d
      ∙ ap (λ (x : Landing). landed x e.start (written_icb 0 [] none) d) (landing-none 1 no_cut refl)
      ∙ ap (λ (p : ℕ). landed Landing.Done p (written_icb 0 [] none) d) w)

  made_kept : Kept e.start e.span (made e d spares) 0 []
  made_kept = rw made-is (empty-kept e.start e.span d told.examines.shape told.examines.within was-blank)

  made-next : next_on e (made e d spares) ≡ 1
  unfolding next_on
  made-next = rw made-is (empty-next e.start e.span d told.examines.shape told.examines.within was-blank)

-- no entries, no change
filled_none : (l t : List ℕ) → l ≡ [] → filled_from l t ≡ t
unfolding filled_from
filled_none l t q = rw q

no_words : (l : List ℕ) → length l ≡ 0 → l ≡ []
no_words [] h = refl
no_words (x ∷ l) h = absurd (omega arith)

-- every write-once disc that was made opens, with no entries, NWA 1 and the last ICB at 0, and no sector is passed over
pub once-made-opens : OnceMadeOpens
unfolding OnceMadeOpens numbers_on opened_table filled_by
once-made-opens e d spares t once goes long =
    let d₀ : Disc = made e d spares in
    let m = made-maps e d spares once goes in
    let κ = made_kept e d spares once goes in
    let n = made-next e d spares once goes in
    let g = open-goes e once m d₀ t 0 κ long in
    let none-on : entries_of (newest_file e d₀) ≡ [] = no_words (entries_of (newest_file e d₀)) (length-entries (newest_file e d₀) ∙ count e once m d₀ 0 1 [] κ n) in
    record {
      accepts = g;
      held = kept_record e once m d₀ 0 1 [] κ n;
      numbers = rw once none-on;
      passed = kept-passed e once m d₀ 0 1 [] κ n;
      answer = kept-opening e once m d₀ 0 1 [] κ n t long;
      table = rw (g, once) (filled_none (entries_of (newest_file e d₀)) t none-on);
    }

-- ---- a first block

-- a call whose own tests hold goes on
live-goes : (e : Setting) → write_once e ≡ true → verdict_of (read_maps e.maps) ≡ Ok tt → (st : State) (σ : Store) → Live e st σ
    → (lent : Bool) (own : List Test) → lent ≡ true → first own ≡ Ok tt → once_verdict e st.disc st.table lent st.held own ≡ Ok tt
unfolding once_verdict need
live-goes e once maps-go st σ i lent own q g =
    go-then _ (examined-once e once maps-go st.disc lent i.kept.shape i.kept.within q)
    ∙ rw (once, live-held e st σ i) g

module _ (e : Setting) (once : write_once e ≡ true) (maps-go : verdict_of (read_maps e.maps) ≡ Ok tt) (d : Disc) (t b : List ℕ)
    (κ : Kept e.start e.span d 0 []) (top : next_on e d ≡ 1) (three : 3 ≤ e.span) (lent : 4096 ≤ length t) (whole : length b ≡ 2048)
    (plain : passes d e.start 1 b ≡ false) where
  abbrev h : Shape
  h = shape_of e

  -- the state that the disc is opened in
  abbrev st₀ : State
  st₀ = record { disc = d; table = t; held = Record.WriteOnce 0 1 0 }

  live₀ : Live e st₀ (store [] [])
  unfolding once_held entries_held next_held last_held all_below entry_slots
  live₀ =
      record {
        once = refl;
        kept = κ;
        top = sym top;
        fresh = refl;
        few = omega arith;
        lent = lent;
        now = refl;
      }

  -- saved
  abbrev st₁ : State
  st₁ =
      record {
        disc = writes 1 no_cut (record { place = e.start + 1; bytes = b } ∷ []) d;
        table = set t 0 1;
        held = Record.WriteOnce 1 2 0;
      }

  save-goes : once_verdict e d t (save_lent t b) (Record.WriteOnce 0 1 0) (save_tests e d (Record.WriteOnce 0 1 0) 0 b) ≡ Ok tt
  unfolding save_lent lent_table number_fits save_tests room_to_save count_after entries_held next_held need data_sectors file_bytes
  save-goes =
      live-goes e once maps-go st₀ (store [] []) live₀ _ _ (both (le-leb _ _ lent) (eq-eqb _ _ whole)) (rw (plain, le-leb 3 e.span three) refl)

  saved : step e st₀ (save_virtual 0 b no_cut) ≡ record { answer = done (Record.WriteOnce 1 2 0); state = st₁ }
  unfolding step save_plan unless carried reply_of disc_after table_after answer_of held_after struck no_cut count_after entries_held next_held last_held
  saved = rw save-goes refl

  live₁ : Live e st₁ (store (holds b ∷ []) [])
  unfolding OnceOk is_cut accepted next was_cut cut_in writes_in struck no_cut taken put
  live₁ = rw saved at (sound-save e h st₀ (store [] []) live₀ 0 b no_cut)

  -- committed
  abbrev st₂ : State
  st₂ =
      record {
        disc = writes 1 no_cut (commit_writes e (take 1 (set t 0 1)) (Record.WriteOnce 1 2 0)) st₁.disc;
        table = set t 0 1;
        held = Record.WriteOnce 1 3 2;
      }

  commit-goes : once_verdict e st₁.disc st₁.table (lent_table st₁.table) st₁.held (commit_tests e st₁.held) ≡ Ok tt
  unfolding lent_table commit_tests room_to_commit entries_held next_held need data_sectors file_bytes
  commit-goes = live-goes e once maps-go st₁ (store (holds b ∷ []) []) live₁ _ _ (le-leb _ _ live₁.lent) (rw (le-leb 3 e.span three) refl)

  committed : step e st₁ (commit no_cut) ≡ record { answer = done (Record.WriteOnce 1 3 2); state = st₂ }
  unfolding step commit_plan unless carried reply_of disc_after table_after answer_of held_after struck no_cut icb_block entries_held next_held last_held data_sectors file_bytes
  committed = rw commit-goes refl

  live₂ : Live e st₂ (store (holds b ∷ []) (holds b ∷ []))
  unfolding OnceOk is_cut accepted next was_cut cut_in struck no_cut taken
  live₂ = rw committed at (sound-commit e h st₁ (store (holds b ∷ []) []) live₁ no_cut)

  -- and opened again
  abbrev st₃ : State
  st₃ = record { disc = st₂.disc; table = opened_table e st₂.disc st₂.table; held = Record.WriteOnce 1 3 2 }

  opening₂ : opening e st₂.disc st₂.table ≡ Ok (record { handed = Record.WriteOnce 1 3 2; passed = 0 })
  unfolding last_held next_held
  opening₂ = kept-opening e once maps-go st₂.disc 2 3 (holds b ∷ []) live₂.kept (sym live₂.top) st₂.table live₂.lent

  reopens : step e st₂ open_disc ≡ record { answer = opened (Record.WriteOnce 1 3 2) 0; state = st₃ }
  unfolding step answer_of_opening held_after_opening
  reopens = rw opening₂ refl

  live₃ : Live e st₃ (store (holds b ∷ []) (holds b ∷ []))
  unfolding OnceOk is_cut accepted next was_cut cut_in writes_in struck no_cut taken shape_of last_held
  live₃ = rw (reopens, once) at (reopened e once maps-go h once st₂ (store (holds b ∷ []) (holds b ∷ [])) 2 live₂.kept live₂.lent).sound

  -- the whole list
  all-answers : answers e st₀ (first_block b) ≡ done (Record.WriteOnce 1 2 0) ∷ done (Record.WriteOnce 1 3 2) ∷ opened (Record.WriteOnce 1 3 2) 0 ∷ []
  unfolding answers first_block
  all-answers = rw (saved, committed, reopens) refl

  all-final : final e st₀ (first_block b) ≡ st₃
  unfolding final first_block
  all-final =
      ap (λ (r : Stepped). final e r.state (commit no_cut ∷ open_disc ∷ [])) saved
      ∙ ap (λ (r : Stepped). final e r.state (open_disc ∷ [])) committed
      ∙ ap (λ (r : Stepped). r.state) reopens

  -- reading number 0 shows the bytes
  shown : (out : List ℕ) → length out ≡ 2048 → seen e (final e st₀ (first_block b)) 0 out ≡ bytes b
  unfolding look seen_as
  shown out q = rw all-final (read-once e once maps-go st₃ (store (holds b ∷ []) (holds b ∷ [])) live₃ 0 out q)

-- every write-once disc that was made with three blocks or more takes a block that line 15 does not refuse, commits it, is opened again and
-- shows it
pub once-lives : OnceLives
unfolding OnceLives OnceMadeOpens after_opening
once-lives e d spares t b once goes three lent whole plain =
    let d₀ : Disc = made e d spares in
    let m = made-maps e d spares once goes in
    let κ = made_kept e d spares once goes in
    let n = made-next e d spares once goes in
    let o = once-made-opens e d spares t once goes lent in
    let s : after_opening e d₀ t ≡ st₀ e once m d₀ t b κ n three lent whole plain = rw (o.table, o.held) refl in
    record {
      answered = ap (λ (st : State). answers e st (first_block b)) s ∙ all-answers e once m d₀ t b κ n three lent whole plain;
      reads = λ out q.
          ap (λ (st : State). seen e (final e st (first_block b)) 0 out) s
          ∙ shown e once m d₀ t b κ n three lent whole plain out q;
    }
