-- Lines 1 to 7 and 11 of a call on a write-once disc taken apart: what they tell of any disc, table and record, be they of an opening or not, and
-- what reading then shows. Assumes nothing.
use Prim.Native.Nat.{ℕ, zero, suc, ◌+◌, ◌≤◌, ◌<◌}
use mathlib.Core.Bool.{Bool, true, false, not, ◌&&◌}
use mathlib.Core.Path.{◌≡◌, refl, sym, ap, ◌∙◌}
use mathlib.Core.List.{List, [], ◌∷◌}
use native.Mathlib.Omega.{arith}
use lib.Dec.{leb, ltb, eqb}
use lib.ListN.{length, get_or, take, get_or-map}
use lib.Seq.{get_or-take, length-take-le}
use borrow.Author.Tests.{ltb-true, leb-true, eqb-true, lt-ltb, le-ltb, le-leb, eq-eqb}
use Rattle.refusal.specs.declared.Refusal.TheVariants.{LentLength, OtherKind, StaleRecord, NumberOutside, UnusedEntry}
use Rattle.refusal.specs.Verdict.{Verdict, verdict_of}
use Rattle.std.specs.Prelude.{Ok, Err}
use Rattle.refusal.specs.Tests.{Test, test, first, need}
use Rattle.refusal.proofs.Laws.{passed}
use Rattle.maps.specs.Kinds.{read_maps}
use Rattle.model.specs.declared.Record.{Record}
use Rattle.model.specs.Disc.{Disc, sector, mark, mark_tests, shapely, inside}
use Rattle.model.specs.Vat.{none, all_below}
use Rattle.model.specs.Examine.{Setting, write_once, shape_tests, examined, lent_table}
use Rattle.model.specs.Once.{next_on, entries_held, next_held, last_held, held_fits, once_verdict, held_verdict, entry_tests}
use Rattle.model.specs.Both.{read_verdict, read_bytes, read_lent, read_once_tests, entry_sector, block_sector, block_by}
use Rattle.model.specs.Calls.{State}
use Rattle.model.specs.Store.{Slot, unused, entry_slot, entry_slots, Store, turned, seen_as, look}
use Rattle.model.specs.Demand.{seen, seen_by}
use Rattle.model.proofs.Basics.{by_bool, by-lt, and-true, and-false, both}
use Rattle.model.proofs.Verdicts.{then-go, go-then, examined-tells, examined-once}
use Rattle.model.proofs.Marks.{sector-shown}
use Rattle.model.proofs.Scan.{length-slots, slot-none}
use Rattle.model.proofs.Once.{BlankFrom, blank-next}

-- ---- the record

-- one of a write-once disc
unfoldable pub once_held : Record → Bool
once_held (Record.WriteOnce n next last) = true
once_held (Record.Rewritable n sequence) = false

-- line 11 for such a record
held-once : (e : Setting) (d : Disc) (t : List ℕ) (r : Record) → once_held r ≡ true
    → held_fits e d t r ≡ eqb (next_held r) (next_on e d) && (leb (entries_held r) 4096 && (all_below (next_held r) (take (entries_held r) t) && ltb (last_held r) (next_held r)))
unfolding once_held held_fits entries_held next_held last_held
held-once e d t (Record.WriteOnce n next last) h = refl
held-once e d t (Record.Rewritable n sequence) h = let z : ◌≡◌ {A = ℕ} 0 1 = cc in absurd (omega arith)

-- it holds
pub held-true : (e : Setting) (d : Disc) (t : List ℕ) (r : Record) → once_held r ≡ true → next_held r ≡ next_on e d → entries_held r ≤ 4096
    → all_below (next_held r) (take (entries_held r) t) ≡ true → last_held r < next_held r → held_fits e d t r ≡ true
held-true e d t r once top few fresh last =
    held-once e d t r once ∙ both (eq-eqb _ _ top) (both (le-leb _ _ few) (both fresh (lt-ltb _ _ last)))

-- the blocks from its NWA on are blank
pub held-blank : (e : Setting) (d : Disc) (r : Record) → next_held r ≡ next_on e d → BlankFrom e.start e.span d (next_held r)
unfolding next_on
held-blank e d r top = blank-next e.start e.span (next_held r) d (sym top)

-- one of the other kind never passes line 11
held-kind : (e : Setting) (d : Disc) (t : List ℕ) (r : Record) → held_fits e d t r ≡ true → once_held r ≡ true
unfolding held_fits once_held
held-kind e d t (Record.WriteOnce n next last) h = refl
held-kind e d t (Record.Rewritable n sequence) h = h

-- ---- what the lines tell

pub record Fits (e : Setting) (st : State) : Type 0 where
  pub kind : write_once e ≡ true
  pub maps : verdict_of (read_maps e.maps) ≡ Ok tt
  pub shape : shapely st.disc ≡ true
  pub within : inside st.disc e.start e.span ≡ true
  pub lent : 4096 ≤ length st.table
  pub once : once_held st.held ≡ true
  pub top : next_held st.held ≡ next_on e st.disc
  pub few : entries_held st.held ≤ 4096
  pub fresh : all_below (next_held st.held) (take (entries_held st.held) st.table) ≡ true
  pub last : last_held st.held < next_held st.held

module _ (e : Setting) (st : State) where
  -- a call that goes on has passed them
  pub goes-fits : (lent : Bool) (own : List Test) → (lent ≡ true → lent_table st.table ≡ true) → once_verdict e st.disc st.table lent st.held own ≡ Ok tt → Fits e st
  unfolding once_verdict lent_table
  goes-fits lent own table g =
      let p = then-go (examined e st.disc lent) _ g in
      let x = examined-tells e st.disc lent p.0 in
      let q = passed (test (write_once e) OtherKind ∷ test (held_fits e st.disc st.table st.held) StaleRecord ∷ own) p.1 in
      let k = held-kind e st.disc st.table st.held q.1.0 in
      let a = and-true (eqb (next_held st.held) (next_on e st.disc)) _ (sym (held-once e st.disc st.table st.held k) ∙ q.1.0) in
      let b = and-true (leb (entries_held st.held) 4096) _ a.1 in
      let c = and-true (all_below (next_held st.held) (take (entries_held st.held) st.table)) _ b.1 in
      record {
        kind = q.0;
        maps = x.maps;
        shape = x.shape;
        within = x.within;
        lent = leb-true _ _ (table x.lengths);
        once = k;
        top = eqb-true _ _ a.0;
        few = leb-true _ _ b.0;
        fresh = c.0;
        last = ltb-true _ _ c.1;
      }

  pub fits : held_verdict e st.disc st.table st.held ≡ Ok tt → Fits e st
  unfolding held_verdict
  fits g = goes-fits _ [] (λ q. q) g

  module _ (f : Fits e st) where
    -- line 11
    fits-held : held_fits e st.disc st.table st.held ≡ true
    fits-held = held-true e st.disc st.table st.held f.once f.top f.few f.fresh f.last

    -- lines 1 to 6, of a call that is lent what it asks for
    fits-examined : (lent : Bool) → lent ≡ true → examined e st.disc lent ≡ Ok tt
    fits-examined lent q = examined-once e f.kind f.maps st.disc lent f.shape f.within q

    pub fits-go : held_verdict e st.disc st.table st.held ≡ Ok tt
    unfolding held_verdict once_verdict lent_table need
    fits-go = go-then _ (fits-examined _ (le-leb _ _ f.lent)) ∙ rw (f.kind, fits-held)

-- ---- the blocks of the first n entries of a table

-- an element of a list is the same with any default
default-other {ℓ} : {A : Type ℓ} (l : List A) (i : ℕ) (a b : A) → i < length l → get_or l i a ≡ get_or l i b
default-other [] i a b h = absurd (omega arith)
default-other (x ∷ l) zero a b h = refl
default-other (x ∷ l) (suc i) a b h = default-other l i a b (omega arith)

-- there are n
pub slots-count : (d : Disc) (s n : ℕ) (t : List ℕ) → n ≤ length t → length (entry_slots d s (take n t)) ≡ n
slots-count d s n t h = length-slots d s (take n t) ∙ length-take-le n t h

-- block v is that of entry v
pub slots_at : (d : Disc) (s n : ℕ) (t : List ℕ) (v : ℕ) → n ≤ length t → v < n → get_or (entry_slots d s (take n t)) v unused ≡ entry_slot d s (get_or t v 0)
unfolding entry_slots
slots_at d s n t v on h =
    ap (λ (x : Slot). get_or (entry_slots d s (take n t)) v x) (sym (slot-none d s))
    ∙ get_or-map (entry_slot d s) (take n t) v none
    ∙ ap (entry_slot d s) (default-other (take n t) v none 0 (omega (arith, length-take-le n t on)) ∙ get_or-take n t v 0 h)

-- those of a state: its record's N, its table and its disc
abbrev pub blocks_of : Setting → State → List Slot
blocks_of e st = entry_slots st.disc e.start (take (entries_held st.held) st.table)

-- ---- reading

module _ (e : Setting) (st : State) (f : Fits e st) (v : ℕ) (out : List ℕ) (long : length out ≡ 2048) where
  read-tests : read_verdict e st.disc st.table st.held v out
      ≡ first (test (ltb v (entries_held st.held)) NumberOutside
      ∷ test (not (eqb (get_or st.table v 0) none)) UnusedEntry
      ∷ mark_tests (mark st.disc (e.start + get_or st.table v 0)))
  unfolding read_verdict read_once_tests entry_tests block_sector entry_sector read_lent lent_table need
  read-tests =
      go-then _ (fits-examined e st f _ (both (le-leb _ _ f.lent) (eq-eqb _ _ long)))
      ∙ rw (f.kind, fits-held e st f)

  shown : (w : Verdict) → read_verdict e st.disc st.table st.held v out ≡ w
      → seen e st v out ≡ seen_by w (block_by w (sector st.disc (e.start + get_or st.table v 0)) out)
  unfolding seen read_bytes block_sector entry_sector
  shown w h = rw (h, f.kind)

  -- it shows the block, as a plain store of these blocks does
  pub fits_read : (σ : Store) → blocks_of e st ≡ σ.blocks → seen e st v out ≡ look σ v
  unfolding look seen_by block_by entry_slot seen_as need
  fits_read σ same =
      let n = entries_held st.held in
      let x = get_or st.table v 0 in
      let on : n ≤ length st.table = omega (arith, f.few, f.lent) in
      let ln : length σ.blocks ≡ n = ap length (sym same) ∙ slots-count st.disc e.start n st.table on in
      by-lt v n
      (λ a.
      let la : ltb v n ≡ true = lt-ltb v n a in
      let bl : get_or σ.blocks v unused ≡ entry_slot st.disc e.start x =
      ap (λ (l : List Slot). get_or l v unused) (sym same) ∙ slots_at st.disc e.start n st.table v on a in
      by_bool (eqb x none)
      (λ b. shown (Err UnusedEntry) (read-tests ∙ rw (la, b)) ∙ sym (rw (ln, la, bl, b)))
      (λ b.
      shown (first (mark_tests (mark st.disc (e.start + x)))) (read-tests ∙ rw (la, b))
      ∙ sector-shown st.disc (e.start + x) out
      ∙ sym (rw (ln, la, bl, b))))
      (λ a.
      let la : ltb v n ≡ false = le-ltb v n a in
      shown (Err NumberOutside) (read-tests ∙ rw la) ∙ sym (rw (ln, la)))

-- with lent bytes of another length it is refused under 3
pub fits-unread : (e : Setting) (st : State) → Fits e st → (v : ℕ) (out : List ℕ) → eqb (length out) 2048 ≡ false → seen e st v out ≡ turned LentLength
unfolding seen seen_by read_verdict read_lent examined shape_tests need
fits-unread e st f v out short = rw (short, and-false (lent_table st.table) {b = false} refl, f.shape, f.within)
