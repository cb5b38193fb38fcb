-- Opening a write-once disc: it is accepted wherever a VAT is kept, and gives back its blocks. Assumes nothing.
use Prim.Native.Nat.{ℕ, zero, suc, ◌+◌, ◌-◌, ◌≤◌, ◌<◌}
use mathlib.Core.Bool.{true, false, false≢true}
use mathlib.Core.Path.{◌≡◌, refl, ap, ◌∙◌}
use mathlib.Core.List.{List}
use native.Mathlib.Omega.{arith}
use lib.Dec.{leb}
use lib.ListN.{length, take, drop, length-append, length-drop}
use lib.Seq.{take_at}
use borrow.Author.Tests.{leb-true, le-leb}
use Rattle.std.specs.Prelude.{Ok}
use Rattle.refusal.specs.Tests.{first, need}
use Rattle.refusal.proofs.Laws.{passed}
use Rattle.fields.specs.Number.{words}
use Rattle.maps.specs.Kinds.{read_maps}
use Rattle.model.specs.Disc.{Disc, nwa}
use Rattle.model.specs.Writes.{struck, no_cut}
use Rattle.model.specs.Vat.{Found, icb_at, nowhere, vat_file, count_of, entries_of}
use Rattle.model.specs.Examine.{Setting, write_once, examined, lent_table}
use Rattle.model.specs.Once.{next_on, entries_held, next_held, last_held, is_found, found_at, newest, newest_file, open_once_tests, found_record, passed_over, filled_from}
use Rattle.model.specs.Both.{open_verdict, record_on, numbers_on, opened_by, filled_by, opening, opened_table}
use Rattle.model.specs.Calls.{open_disc, State, Stepped, step, answer_of_opening, held_after_opening, accepted, is_cut, is_opened}
use Rattle.model.specs.Store.{Slot, entry_slots, Store, store, Shape, blocks_on, start, cut_in, writes_in, was_cut, taken, next}
use Rattle.model.specs.Demand.{after_opening}
use Rattle.model.proofs.Basics.{by-lt}
use Rattle.model.proofs.Verdicts.{Examined, examined-tells, then-go, go-then, examined-once}
use Rattle.model.proofs.Scan.{newest-found, found-newest, entries_below, icb-recorded, not-recorded, below-mono}
use Rattle.model.proofs.Sectors.{nwa-above, nwa-most, nwa-blank}
use Rattle.model.proofs.Once.{Kept}
use Rattle.model.proofs.OnceFits.{once_held}
use Rattle.model.proofs.OnceRead.{Live}
use Rattle.model.proofs.OnceSave.{OnceOk}
use Rattle.model.proofs.Steps.{Sound}
use Rattle.refusal.specs.Verdict.{verdict_of}

-- as many words as were asked for
pub length-words : (s : List ℕ) (at n : ℕ) → length (words s at n) ≡ n
unfolding words
length-words s at zero = refl
length-words s at (suc n) = ap suc (length-words s (at + 4) n)

-- a VAT has as many entries as it counts
pub length-entries : (f : List ℕ) → length (entries_of f) ≡ count_of f
unfolding entries_of
length-entries f = length-words f 0 (count_of f)

-- a table filled from its start is no shorter
pub filled-long : (l t : List ℕ) → length t ≤ length (filled_from l t)
unfolding filled_from
filled-long l t = rw (length-append, length-drop) (omega arith)

-- what it was filled with stands at its start
pub filled-front : (f t : List ℕ) → take (count_of f) (filled_from (entries_of f) t) ≡ entries_of f
unfolding filled_from
filled-front f t = take_at (entries_of f) (drop (length (entries_of f)) t) (count_of f) (length-entries f)

-- where a scan found an ICB
found-place : (f : Found) (a : ℕ) → f ≡ icb_at a → found_at f ≡ a
unfolding found_at
found-place f a e = ap found_at e

-- a VAT that is kept stands below NWA
pub kept-below : (e : Setting) (d : Disc) (a : ℕ) {bs : List Slot} → Kept e.start e.span d a bs → a < next_on e d
unfolding next_on
kept-below e d a κ =
    nwa-above d e.start e.span a κ.newest.below (λ q. omega (arith, icb-recorded d e.start a κ.newest.here))

-- the state after an opening that goes on
live-open : (e : Setting) (st : State) (σ : Store) (a : ℕ) → Kept e.start e.span st.disc a σ.copy → 4096 ≤ length st.table
    → newest e st.disc ≡ icb_at a
    → Live e (record { disc = st.disc; table = filled_from (entries_of (newest_file e st.disc)) st.table; held = found_record e st.disc }) (record { blocks = σ.copy; copy = σ.copy })
unfolding found_record once_held last_held next_held entries_held newest_file
live-open e st σ a κ long found =
    let d = st.disc in
    let w : found_at (newest e d) ≡ a = found-place (newest e d) a found in
    let f : List ℕ = vat_file d e.start a in
    let front = filled-front f st.table in
    let last : a < next_on e d = kept-below e d a κ in
    rw w
    (record {
      once = refl;
      kept = κ;
      top = refl;
      fresh = rw front (below-mono a (next_on e d) (entries_of f) (omega arith) (entries_below d e.start a κ.newest.here));
      few = κ.few;
      lent = omega (arith, filled-long (entries_of f) st.table);
      now = ap (entry_slots d e.start) front ∙ κ.same;
    })

module _ (e : Setting) (once : write_once e ≡ true) (maps-go : verdict_of (read_maps e.maps) ≡ Ok tt) where
  -- the scan finds the VAT that is kept
  pub kept-newest : (d : Disc) (a : ℕ) {bs : List Slot} → Kept e.start e.span d a bs → newest e d ≡ icb_at a
  unfolding newest next_on
  kept-newest d a κ =
      newest-found d e.start (nwa d e.start e.span) a
      (record {
        here = κ.newest.here;
        below = kept-below e d a κ;
        above = λ j u v. κ.newest.above j u (omega (arith, nwa-most d e.start e.span));
      })

  -- and passes over what lies between it and NWA
  pub passed-kept : (d : Disc) (a : ℕ) {bs : List Slot} → Kept e.start e.span d a bs → passed_over e d ≡ next_on e d - 1 - a
  unfolding passed_over found_at
  passed-kept d a κ = rw (kept-newest d a κ)

  -- opening goes on
  pub open-goes : (d : Disc) (t : List ℕ) (a : ℕ) {bs : List Slot} → Kept e.start e.span d a bs → 4096 ≤ length t → open_verdict e d t ≡ Ok tt
  unfolding open_verdict open_once_tests need is_found found_at newest_file lent_table
  open-goes d t a κ long =
      go-then _ (examined-once e once maps-go d _ κ.shape κ.within (le-leb _ _ long))
      ∙ rw (once, kept-newest d a κ, le-leb (count_of (vat_file d e.start a)) 4096 κ.few)

  -- every opening is accepted, and returns to the store's copy
  pub record Reopened (h : Shape) (σ : Store) (r : Stepped) : Type 1 where
    pub sound : Sound (OnceOk e) h σ open_disc r
    pub live : Live e r.state (store σ.copy σ.copy)
    pub accepts : is_opened r.answer ≡ true
    pub uncut : is_cut r.answer ≡ false

  pub reopened : (h : Shape) → h.once ≡ true → (st : State) (σ : Store) (a : ℕ) → Kept e.start e.span st.disc a σ.copy → 4096 ≤ length st.table
      → Reopened h σ (step e st open_disc)
  unfolding step opening opened_table opened_by filled_by answer_of_opening held_after_opening accepted is_cut is_opened next was_cut cut_in writes_in struck no_cut taken OnceOk record_on numbers_on
  reopened h one st σ a κ long =
      rw (open-goes st.disc st.table a κ long, once)
      (record {
        sound = rw one (live-open e st σ a κ long (kept-newest st.disc a κ));
        live = live-open e st σ a κ long (kept-newest st.disc a κ);
        accepts = refl;
        uncut = refl;
      })

  -- ---- the disc that opening accepts at first
  module _ (d : Disc) (t : List ℕ) (g : open_verdict e d t ≡ Ok tt) where
    record First : Type 0 where
      examines : Examined e d (lent_table t)
      found : is_found (newest e d) ≡ true
      few : leb (count_of (newest_file e d)) 4096 ≡ true

    first-tells : First
    unfolding open_verdict open_once_tests
    first-tells =
        let p = then-go (examined e d (lent_table t)) _ g in
        let q : first (open_once_tests e d) ≡ (Ok tt) = rw once at p.1 in
        let w = passed (open_once_tests e d) q in
        record { examines = examined-tells e d (lent_table t) p.0; found = w.0; few = w.1.0 }

    is_at : (f : Found) → is_found f ≡ true → f ≡ icb_at (found_at f)
    unfolding is_found found_at
    is_at (icb_at k) q = refl
    is_at nowhere q = absurd (false≢true q)

    pub first-kept : Kept e.start e.span d (found_at (newest e d)) (blocks_on e d)
    unfolding blocks_on newest newest_file next_on
    first-kept =
        let k : ℕ = found_at (newest e d) in
        let w = found-newest d e.start (nwa d e.start e.span) k (is_at (newest e d) first-tells.found) in
        let m = nwa-most d e.start e.span in
        record {
          shape = first-tells.examines.shape;
          within = first-tells.examines.within;
          newest = record {
            here = w.here;
            below = omega (arith, w.below);
            above = λ j u v. by-lt j (nwa d e.start e.span) (w.above j u)
                (λ q. not-recorded d e.start j 0 (nwa-blank d e.start e.span j q v) (omega arith));
          };
          few = leb-true _ _ first-tells.few;
          same = rw once;
        }

    pub first-long : 4096 ≤ length t
    unfolding lent_table
    first-long = leb-true _ _ first-tells.examines.lengths

    pub first_live : Live e (after_opening e d t) (start e d)
    unfolding after_opening start opened_table filled_by record_on numbers_on
    first_live =
        rw (g, once)
        (live-open e (record { disc = d; table = t; held = found_record e d }) (start e d) (found_at (newest e d)) first-kept first-long (is_at (newest e d) first-tells.found))
