-- The invariant of a rewritable disc: what a cut leaves, and what holds between calls; and that reading then shows what the plain store does.
-- Assumes nothing.
use Prim.Native.Nat.{ℕ, ◌*◌, ◌≤◌, ◌<◌}
use mathlib.Core.Bool.{Bool, true, false, cond, not}
use mathlib.Core.Path.{◌≡◌, sym, ap, ap₂, ◌∙◌}
use mathlib.Core.List.{List, ◌∷◌}
use native.Mathlib.Omega.{arith}
use lib.Dec.{ltb}
use lib.ListN.{length, get_or, take}
use borrow.Author.Tests.{lt-ltb, le-ltb, le-leb, eq-eqb}
use Rattle.refusal.specs.declared.Refusal.TheVariants.{NumberOutside, BelongsToSpare}
use Rattle.refusal.specs.Verdict.{Verdict, verdict_of}
use Rattle.std.specs.Prelude.{Ok, Err}
use Rattle.refusal.specs.Tests.{test, first, need}
use Rattle.fields.proofs.Laws.{same-equal}
use Rattle.maps.specs.Kinds.{read_maps}
use Rattle.model.specs.declared.Record.{Record}
use Rattle.model.specs.Disc.{Disc, sector, mark, mark_tests, shapely, inside}
use Rattle.model.specs.Sparing.{Geometry, Entry, entries, flat, entries_fit, of_spare, locate}
use Rattle.model.specs.Examine.{Setting, write_once, geometry, examined, lent_table}
use Rattle.model.specs.Rewrite.{table_on, entries_on, sequence_on, count_on, copy_tests, held_current, place_of, block_test, of_spare_on, spare_test}
use Rattle.model.specs.Both.{read_verdict, read_bytes, read_lent, read_rewritable_tests, block_sector, block_by}
use Rattle.model.specs.Calls.{State}
use Rattle.model.specs.Store.{Slot, unused, reserved, slot_at, Store, seen_as, look}
use Rattle.model.specs.Demand.{seen, seen_by}
use Rattle.model.proofs.Basics.{by_bool, by-lt, both}
use Rattle.model.proofs.Verdicts.{examined-go, go-then}
use Rattle.model.proofs.Marks.{sector-shown}
use Rattle.model.proofs.Ground.{Ground}
use Rattle.model.proofs.SparingLaws.{length-flat, counts-fits, Settled, settled-some, settled-sequence, settled-table, settled-agree}

-- what a disc needs to be read again, whatever the power did: its newest copies, of sequence n, hold the table l, and bs are the blocks that the
-- table leads to, or that belong to its spares
pub record Ready (e : Setting) (g : Geometry) (d : Disc) (n : ℕ) (l : List ℕ) (bs : List Slot) : Type 0 where
  pub shape : shapely d ≡ true
  pub within : inside d e.start e.span ≡ true
  pub geo : geometry e d ≡ g
  pub settled : Settled d g n l
  pub small : n < 4294967296
  pub even : flat (entries l) ≡ l
  pub count : length bs ≡ g.span
  pub same : (b : ℕ) → b < g.span → get_or bs b unused ≡ cond (of_spare g.start (entries l) b) reserved (slot_at d (locate g.start (entries l) b))

-- a record of a rewritable disc, with its R and sequence
unfoldable pub Holds : Record → ℕ → ℕ → Type 0
Holds (Record.WriteOnce a next last) r n = ⊥
Holds (Record.Rewritable a q) r n = (a ≡ r) × (q ≡ n)

-- what holds between calls where the power did not fail
pub record LiveAgain (e : Setting) (g : Geometry) (st : State) (n : ℕ) (l : List ℕ) (σ : Store) : Type 0 where
  pub ready : Ready e g st.disc n l σ.blocks
  pub held : Holds st.held (length (entries l)) n
  pub front : take (2 * length (entries l)) st.table ≡ l
  pub lent : 4096 ≤ length st.table

-- the copy rule holds of the table
pub ready-fits : {e : Setting} {g : Geometry} {d : Disc} {n : ℕ} {l : List ℕ} {bs : List Slot} → Ready e g d n l bs → entries_fit g (entries l) ≡ true
ready-fits {e} {g} {d} {n} {l} r =
    let s = r.settled in
    rw (← s.alike s.one s.table s.good s.newest) (counts-fits d g s.one s.good)

-- what the calls read off the disc
pub ready-table : {e : Setting} {g : Geometry} {d : Disc} {n : ℕ} {l : List ℕ} {bs : List Slot} → Ready e g d n l bs → table_on e d ≡ l
unfolding table_on
ready-table {e} {g} {d} {n} {l} r = rw r.geo (settled-table d g n l r.settled)

pub ready-sequence : {e : Setting} {g : Geometry} {d : Disc} {n : ℕ} {l : List ℕ} {bs : List Slot} → Ready e g d n l bs → sequence_on e d ≡ n
unfolding sequence_on
ready-sequence {e} {g} {d} {n} {l} r = rw r.geo (settled-sequence d g n l r.settled)

pub ready-entries : {e : Setting} {g : Geometry} {d : Disc} {n : ℕ} {l : List ℕ} {bs : List Slot} → Ready e g d n l bs → entries_on e d ≡ entries l
unfolding entries_on
ready-entries r = ap entries (ready-table r)

pub ready-count : {e : Setting} {g : Geometry} {d : Disc} {n : ℕ} {l : List ℕ} {bs : List Slot} → Ready e g d n l bs → count_on e d ≡ length (entries l)
unfolding count_on
ready-count r = ap length (ready-entries r)

pub ready-place : {e : Setting} {g : Geometry} {d : Disc} {n : ℕ} {l : List ℕ} {bs : List Slot} → Ground e g → Ready e g d n l bs → (b : ℕ) → place_of e d b ≡ locate g.start (entries l) b
unfolding place_of
ready-place γ r b = ap₂ (λ (s : ℕ) (es : List Entry). locate s es b) γ.start_is (ready-entries r)

pub ready-spare : {e : Setting} {g : Geometry} {d : Disc} {n : ℕ} {l : List ℕ} {bs : List Slot} → Ground e g → Ready e g d n l bs → (b : ℕ) → of_spare_on e d b ≡ of_spare g.start (entries l) b
unfolding of_spare_on
ready-spare γ r b = ap₂ (λ (s : ℕ) (es : List Entry). of_spare s es b) γ.start_is (ready-entries r)

-- a block of the plain store that belongs to no spare, and one that does
pub same_place : {e : Setting} {g : Geometry} {d : Disc} {n : ℕ} {l : List ℕ} {bs : List Slot} → Ready e g d n l bs → (b : ℕ) → b < g.span → of_spare g.start (entries l) b ≡ false
    → get_or bs b unused ≡ slot_at d (locate g.start (entries l) b)
same_place {d = d} r b h u = r.same b h ∙ rw u

pub same-spare : {e : Setting} {g : Geometry} {d : Disc} {n : ℕ} {l : List ℕ} {bs : List Slot} → Ready e g d n l bs → (b : ℕ) → b < g.span → of_spare g.start (entries l) b ≡ true
    → get_or bs b unused ≡ reserved
same-spare r b h u = r.same b h ∙ rw u

-- the numbers of a table are twice its entries
pub table-length : (l : List ℕ) → flat (entries l) ≡ l → length l ≡ 2 * length (entries l)
table-length l q = ap length (sym q) ∙ length-flat (entries l)

-- line 11 for such a record
held-go : (e : Setting) (d : Disc) (t : List ℕ) (r : Record) (n : ℕ) (l : List ℕ) → Holds r (length (entries l)) n
    → count_on e d ≡ length (entries l) → sequence_on e d ≡ n → table_on e d ≡ l → take (2 * length (entries l)) t ≡ l
    → held_current e d t r ≡ true
unfolding Holds held_current
held-go e d t (Record.WriteOnce a next last) n l h c s w f = absurd h
held-go e d t (Record.Rewritable a q) n l h c s w f =
    both (eq-eqb _ _ (h.0 ∙ sym c))
    (both (eq-eqb _ _ (h.1 ∙ sym s)) (same-equal _ _ (ap (λ (x : ℕ). take (2 * x) t) h.0 ∙ f ∙ sym w)))

module _ (e : Setting) (g : Geometry) (again : write_once e ≡ false) (γ : Ground e g) (maps-go : verdict_of (read_maps e.maps) ≡ Ok tt) where
  -- lines 1 to 6 let a call go on
  pub examined-again : (d : Disc) (lent : Bool) {n : ℕ} {l : List ℕ} {bs : List Slot} → Ready e g d n l bs → lent ≡ true → examined e d lent ≡ Ok tt
  examined-again d lent r c =
      examined-go e d lent (record { shape = r.shape; within = r.within; lengths = c; maps = maps-go; places = rw (again, r.geo) γ.flush })

  -- lines 8 and 10
  pub copies-go : (d : Disc) {n : ℕ} {l : List ℕ} {bs : List Slot} → Ready e g d n l bs → first (copy_tests e d) ≡ Ok tt
  unfolding copy_tests need table_on
  copies-go d {n} {l} r =
      rw (r.geo, settled-some d g n l r.settled, settled-table d g n l r.settled, settled-agree d g n l r.settled)

  -- line 11
  pub held-current : (st : State) {n : ℕ} {l : List ℕ} {σ : Store} → LiveAgain e g st n l σ → held_current e st.disc st.table st.held ≡ true
  held-current st {n} {l} i =
      held-go e st.disc st.table st.held n l i.held (ready-count i.ready) (ready-sequence i.ready) (ready-table i.ready) i.front

  -- ---- reading
  module _ (st : State) (n : ℕ) (l : List ℕ) (σ : Store) (i : LiveAgain e g st n l σ) (b : ℕ) (out : List ℕ) (long : length out ≡ 2048) where
    abbrev at_block : ℕ
    at_block = locate g.start (entries l) b

    -- a block is read where the table leads
    there : block_sector e st.disc st.table b ≡ at_block
    unfolding block_sector place_of
    there = rw again (omega (arith, ready-place γ i.ready b))

    read-tests : read_verdict e st.disc st.table st.held b out
        ≡ first (test (ltb b g.span) NumberOutside ∷ test (not (of_spare g.start (entries l) b)) BelongsToSpare ∷ mark_tests (mark st.disc at_block))
    unfolding read_verdict read_rewritable_tests block_test spare_test read_lent lent_table need copy_tests table_on
    read-tests =
        go-then _ (examined-again st.disc _ i.ready (both (le-leb _ _ i.lent) (eq-eqb _ _ long)))
        ∙ rw (again, i.ready.geo, settled-some st.disc g n l i.ready.settled, settled-table st.disc g n l i.ready.settled, settled-agree st.disc g n l i.ready.settled, held-current st i, there, ready-spare γ i.ready b, γ.span-is)

    shown : (w : Verdict) → read_verdict e st.disc st.table st.held b out ≡ w
        → seen e st b out ≡ seen_by w (block_by w (sector st.disc at_block) out)
    unfolding seen read_bytes
    shown w h = rw (h, there)

    -- reading shows what the plain store does
    pub read_again : seen e st b out ≡ look σ b
    unfolding look seen_as seen_by block_by need
    read_again =
        let ln = i.ready.count in
        by-lt b g.span
        (λ a.
        let la : ltb b g.span ≡ true = lt-ltb b g.span a in
        by_bool (of_spare g.start (entries l) b)
        (λ u. shown (Err BelongsToSpare) (read-tests ∙ rw (la, u)) ∙ sym (rw (ln, la, same-spare i.ready b a u)))
        (λ u.
        shown (first (mark_tests (mark st.disc at_block))) (read-tests ∙ rw (la, u))
        ∙ sector-shown st.disc at_block out
        ∙ sym (rw (ln, la, same_place i.ready b a u))))
        (λ a.
        let la : ltb b g.span ≡ false = le-ltb b g.span a in
        shown (Err NumberOutside) (read-tests ∙ rw la) ∙ sym (rw (ln, la)))
