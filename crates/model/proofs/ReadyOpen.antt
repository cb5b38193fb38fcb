-- Opening a rewritable disc: it is accepted wherever the newest copies agree, and takes their table. Assumes nothing.
use Prim.Native.Nat.{ℕ, zero, suc, ◌+◌, ◌*◌, ◌≤◌, ◌<◌}
use mathlib.Core.Bool.{Bool, true, false, cond}
use mathlib.Core.Path.{◌≡◌, refl, sym, ap, ◌∙◌}
use mathlib.Core.List.{List, [], ◌++◌, append-nil}
use native.Mathlib.Omega.{arith}
use lib.ListN.{length, get_or, drop, get_or-eq_default}
use lib.Seq.{take_at}
use borrow.Author.Tests.{leb-true, le-leb, not-true}
use Rattle.std.specs.Prelude.{Ok}
use Rattle.refusal.specs.Tests.{first}
use Rattle.refusal.proofs.Laws.{passed}
use Rattle.fields.proofs.Laws.{AllBytes, bytes-part}
use Rattle.maps.specs.Kinds.{absent, read_maps}
use Rattle.model.specs.Disc.{Disc, sector}
use Rattle.model.specs.Writes.{struck, no_cut}
use Rattle.model.specs.Sparing.{Geometry, Entry, entries, defective_of, mapped_of, counting, current, current_table, current_sequence, agree, sequence_at, of_spare, locate}
use Rattle.model.specs.Examine.{Setting, write_once, geometry, examined, lent_table}
use Rattle.model.specs.Once.{filled_from}
use Rattle.model.specs.Rewrite.{is_none, table_on, entries_on, copy_tests, current_record, place_of, of_spare_on}
use Rattle.model.specs.Both.{open_verdict, record_on, numbers_on, opened_by, filled_by, opening, opened_table}
use Rattle.model.specs.Calls.{open_disc, State, Stepped, step, answer_of_opening, held_after_opening, accepted, is_cut, is_opened}
use Rattle.model.specs.Store.{unused, reserved, slot_at, place_slot, place_slots, blocks_on, start, Store, Shape, cut_in, writes_in, was_cut, taken, next}
use Rattle.model.specs.Demand.{after_opening, Below}
use Rattle.model.proofs.Basics.{by-lt}
use Rattle.model.proofs.Verdicts.{Examined, examined-tells, then-go}
use Rattle.model.proofs.Ground.{Ground, ground}
use Rattle.model.proofs.SparingLaws.{flat-current, sequence-below, Settled, current-settled}
use Rattle.model.proofs.OnceOpen.{filled-long}
use Rattle.model.proofs.Ready.{Ready, Holds, LiveAgain, ready-table, ready-count, ready-sequence, table-length, examined-again, copies-go}
use Rattle.model.proofs.Steps.{Sound}
use Rattle.refusal.specs.Verdict.{verdict_of}

-- what a table keeps of the entries es that were there before: its defective spares begin with theirs, and its mapped starts are theirs
pub record Keeps (es : List Entry) (l : List ℕ) : Type 0 where
  pub later : List Entry
  pub defectives : defective_of (entries l) ≡ defective_of es ++ later
  pub starts : (m : ℕ) → absent m (mapped_of (entries l)) ≡ absent m (mapped_of es)

-- a table keeps its own
pub keeps-own : (l : List ℕ) → Keeps (entries l) l
keeps-own l = record { later = []; defectives = sym (append-nil (defective_of (entries l))); starts = λ m. refl }

-- after a cut: a table on the disc that leads to the store's blocks, and the lent table long enough; else what holds between calls. The table
-- keeps of the entries es what is kept
unfoldable pub AgainOk : Setting → Geometry → List Entry → Bool → State → Store → Type 0
AgainOk e g es true st σ = (n : ℕ) × (l : List ℕ) × Ready e g st.disc n l σ.blocks × (4096 ≤ length st.table) × Keeps es l
AgainOk e g es false st σ = (n : ℕ) × (l : List ℕ) × LiveAgain e g st n l σ × Keeps es l

-- the state after an opening that goes on
live-opened : (e : Setting) (g : Geometry) (d : Disc) (t : List ℕ) (n : ℕ) (l : List ℕ) (σ : Store) → Ready e g d n l σ.blocks → 4096 ≤ length t
    → LiveAgain e g (record { disc = d; table = filled_from (table_on e d) t; held = current_record e d }) n l σ
unfolding current_record Holds filled_from
live-opened e g d t n l σ r long =
    record {
      ready = r;
      held = (ready-count r, ready-sequence r);
      front = rw (ready-table r) (take_at l (drop (length l) t) (2 * length (entries l)) (table-length l r.even));
      lent = omega (arith, filled-long (table_on e d) t);
    }

module _ (e : Setting) (g : Geometry) (again : write_once e ≡ false) (γ : Ground e g) (maps-go : verdict_of (read_maps e.maps) ≡ Ok tt) where
  -- every opening is accepted, and changes no block
  pub record ReopenedAgain (h : Shape) (es : List Entry) (σ : Store) (r : Stepped) : Type 1 where
    pub sound : Sound (AgainOk e g es) h σ open_disc r
    pub accepts : is_opened r.answer ≡ true

  pub reopened-again : (h : Shape) → h.once ≡ false → (st : State) (σ : Store) (n : ℕ) (l : List ℕ) → Ready e g st.disc n l σ.blocks → 4096 ≤ length st.table
      → (es : List Entry) → Keeps es l → ReopenedAgain h es σ (step e st open_disc)
  unfolding step opening opened_table open_verdict opened_by filled_by answer_of_opening held_after_opening accepted is_cut is_opened next was_cut cut_in writes_in struck no_cut taken AgainOk record_on numbers_on lent_table
  reopened-again h one st σ n l r long es kept =
      rw (examined-again e g again γ maps-go st.disc _ r (le-leb _ _ long), again, copies-go e g again γ maps-go st.disc r)
      (record {
        sound = rw one (n, l, live-opened e g st.disc st.table n l σ r long, kept);
        accepts = refl;
      })

-- ---- the disc that opening accepts at first

-- the blocks of a rewritable disc, one by one
pub place-slot : (e : Setting) (d : Disc) (b n i : ℕ) → i < n → get_or (place_slots e d b n) i unused ≡ place_slot e d (b + i)
unfolding place_slots
place-slot e d b zero i h = absurd (omega arith)
place-slot e d b (suc n) zero h = let q : b ≡ b + 0 = omega arith in ap (place_slot e d) q
place-slot e d b (suc n) (suc i) h =
    let q : b + 1 + i ≡ b + suc i = omega arith in
    place-slot e d (b + 1) n i (omega arith) ∙ ap (place_slot e d) q

pub length-places : (e : Setting) (d : Disc) (b n : ℕ) → length (place_slots e d b n) ≡ n
unfolding place_slots
length-places e d b zero = refl
length-places e d b (suc n) = ap suc (length-places e d (b + 1) n)

-- bytes are below 256, those past the end too
pub all-bytes : (s : List ℕ) → Below 256 s → AllBytes s
unfolding Below
all-bytes s h i = by-lt i (length s) (h i) (λ q. rw (get_or-eq_default s 0 q) (omega arith))

module _ (e : Setting) (again : write_once e ≡ false) (d : Disc) (t : List ℕ) (low : Below 256 d.bytes) (go : open_verdict e d t ≡ Ok tt) where
  record FirstAgain : Type 0 where
    examines : Examined e d (lent_table t)
    some : is_none (counting d (geometry e d)) ≡ false
    agreed : agree d (current_table d (geometry e d)) (current d (geometry e d)) ≡ true

  first-tells : FirstAgain
  unfolding open_verdict copy_tests table_on
  first-tells =
      let p = then-go (examined e d (lent_table t)) _ go in
      let q : first (copy_tests e d) ≡ (Ok tt) = rw again at p.1 in
      let w = passed (copy_tests e d) q in
      record { examines = examined-tells e d (lent_table t) p.0; some = not-true _ w.0; agreed = w.1.0 }

  pub first-ground : Ground e (geometry e d)
  first-ground = ground e d (lent_table t) again first-tells.examines

  first-settled : Settled d (geometry e d) (current_sequence d (geometry e d)) (current_table d (geometry e d))
  first-settled = current-settled d (geometry e d) first-tells.some first-tells.agreed

  pub first-ready : Ready e (geometry e d) d (current_sequence d (geometry e d)) (current_table d (geometry e d)) (blocks_on e d)
  unfolding blocks_on sequence_at sector place_slot place_of of_spare_on entries_on table_on
  first-ready =
      record {
        shape = first-tells.examines.shape;
        within = first-tells.examines.within;
        geo = refl;
        settled = first-settled;
        small = rw (← first-settled.newest) (sequence-below _ (bytes-part d.bytes _ 2048 (all-bytes d.bytes low)));
        even = flat-current d (geometry e d);
        count = rw again (length-places e d 0 e.span ∙ first-ground.span-is);
        same = λ b h.
            let q : 0 + b ≡ b = omega arith in
            rw again
            (place-slot e d 0 e.span b (rw first-ground.span-is h)
            ∙ ap (place_slot e d) q
            ∙ ap (λ (x : ℕ). cond (of_spare x (entries_on e d) b) reserved (slot_at d (locate x (entries_on e d) b))) first-ground.start_is);
      }

  pub first-again : (n : ℕ) × (l : List ℕ) × LiveAgain e (geometry e d) (after_opening e d t) n l (start e d) × Keeps (entries_on e d) l
  unfolding after_opening start opened_table filled_by record_on numbers_on lent_table entries_on table_on
  first-again =
      rw (go, again) (
        current_sequence d (geometry e d),
        current_table d (geometry e d),
        live-opened e (geometry e d) d t _ _ (start e d) first-ready (leb-true _ _ first-tells.examines.lengths),
        keeps-own (current_table d (geometry e d)),
      )
