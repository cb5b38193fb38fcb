-- What a save on a write-once disc leaves, from any disc, table and record; and saving and freeing keep the invariant. Assumes nothing.
use Prim.Native.Nat.{ℕ, ◌+◌, ◌≤◌, ◌<◌}
use mathlib.Core.Bool.{Bool, true, false, false≢true}
use mathlib.Core.Path.{◌≡◌, refl, sym, ap, ap₂, ◌∙◌}
use mathlib.Core.List.{List, [], ◌∷◌, ◌++◌}
use native.Mathlib.Omega.{arith}
use native.Mathlib.Numerals.{add-one}
use lib.Dec.{leb, eqb}
use lib.ListN.{length, set, take, length-set}
use lib.Seq.{take-suc-set, take-set-lt}
use borrow.Author.Tests.{ltb-true, leb-true, eqb-true, lt-ltb, le-ltb, eq-eqb, ne_eqb, not-true}
use Rattle.refusal.specs.declared.Refusal.TheVariants.{OtherKind, StaleRecord}
use Rattle.std.specs.Prelude.{Ok}
use Rattle.refusal.specs.Tests.{Test, test}
use Rattle.refusal.proofs.Laws.{All, passed}
use Rattle.model.specs.declared.Cut.{Cut}
use Rattle.model.specs.declared.Landing.{Landing}
use Rattle.model.specs.declared.Record.{Record}
use Rattle.model.specs.Disc.{Disc}
use Rattle.model.specs.Writes.{landing, landed, write, writes, struck, no_cut}
use Rattle.model.specs.Vat.{none, all_below, passes}
use Rattle.model.specs.VatWritten.{data_sectors}
use Rattle.model.specs.Examine.{Setting, write_once, examined, lent_table}
use Rattle.model.specs.Once.{next_on, entries_held, next_held, last_held, held_fits, once_verdict, count_after, room_to_save, number_fits, save_tests, saved_record, save_lent, save_plan, entry_tests, free_plan}
use Rattle.model.specs.Calls.{save_virtual, free_virtual, State, step}
use Rattle.model.specs.Store.{Slot, holds, entry_slot, entry_slots, slot_at, Store, Shape, cut_in, writes_in, put, taken}
use Rattle.model.proofs.Basics.{by-eq, and-true}
use Rattle.model.proofs.Verdicts.{Examined, examined-tells, then-go}
use Rattle.model.proofs.Agree.{Agree}
use Rattle.model.proofs.Scan.{below-mono, below_set, below-snoc, below-own, below_none, slots-agree, slot-none, slots_set, slots-snoc}
use Rattle.model.proofs.Sectors.{Made, shapely-made, shapely-most, landed-shapely, landed-inside, sector-done, recorded-done, landing-uncut}
use Rattle.model.proofs.Once.{Kept, on-disc, agree-landed, next-done, kept-write}
use Rattle.model.proofs.OnceFits.{once_held, held-blank, Fits, goes-fits, slots-count, blocks_of}
use Rattle.model.proofs.OnceRead.{Live}
use Rattle.model.proofs.Steps.{Told, told-plan, Sound, sound-plan, sound-carried}

-- N and NWA of a state
abbrev N : State → ℕ
N st = entries_held st.held

abbrev W : State → ℕ
W st = next_held st.held

-- after a cut: a VAT on the disc whose blocks are the store's copy, and the lent table long enough; else what holds between calls
unfoldable pub OnceOk : Setting → Bool → State → Store → Type 0
OnceOk e true st σ = (a : ℕ) × Kept e.start e.span st.disc a σ.copy × (4096 ≤ length st.table)
OnceOk e false st σ = Live e st σ

-- what the tests of a call on a write-once disc tell
pub once-tells : (e : Setting) (d : Disc) (t : List ℕ) (lent : Bool) (r : Record) (own : List Test) → once_verdict e d t lent r own ≡ Ok tt → Examined e d lent × All own
unfolding once_verdict
once-tells e d t lent r own g =
    let p = then-go (examined e d lent) _ g in
    (examined-tells e d lent p.0, (passed (test (write_once e) OtherKind ∷ test (held_fits e d t r) StaleRecord ∷ own) p.1).1.1)

-- the first entries of a table that grew
take-grown : (n x : ℕ) (t : List ℕ) → n < length t → take (n + 1) (set t n x) ≡ take n t ++ (x ∷ [])
take-grown n x t h = rw add-one (take-suc-set t n x h)

-- the first entries after a save
table-grown : (n v x : ℕ) (t : List ℕ) → n < length t → v ≡ n → take (count_after n v) (set t v x) ≡ take n t ++ (x ∷ [])
unfolding count_after
table-grown n v x t h q = rw (q, eq-eqb n n refl) (take-grown n x t h)

table-set : (n v x : ℕ) (t : List ℕ) → v < n → take (count_after n v) (set t v x) ≡ set (take n t) v x
unfolding count_after
table-set n v x t h = rw (ne_eqb v n (λ q. omega arith)) (take-set-lt n t v x h)

-- N after a save is at most 4,096,
pub saved-few : (n v : ℕ) → n ≤ 4096 → v < 4096 → count_after n v ≤ 4096
unfolding count_after
saved-few n v few small = by-eq v n (λ q. rw (eq-eqb v n q) (omega arith)) (λ q. rw (ne_eqb v n q) few)

-- and its entries are below the NWA after it; w is the one before
saved-fresh : (n v w : ℕ) (t : List ℕ) → v ≤ n → v < length t → all_below w (take n t) ≡ true → all_below (w + 1) (take (count_after n v) (set t v w)) ≡ true
saved-fresh n v w t most on fresh =
    let old : all_below (w + 1) (take n t) ≡ true = below-mono w (w + 1) (take n t) (omega arith) fresh in
    by-eq v n
    (λ q. rw (table-grown n v w t (omega arith) q) (below-snoc (w + 1) (take n t) w (below-own w) old))
    (λ q. rw (table-set n v w t (omega arith)) (below_set (w + 1) (take n t) v w (below-own w) old))

-- ---- save v, from any disc, table and record

module _ (e : Setting) (st : State) (v : ℕ) (b : List ℕ) (c : Cut)
    (g : once_verdict e st.disc st.table (save_lent st.table b) st.held (save_tests e st.disc st.held v b) ≡ Ok tt) where
  -- what its tests tell
  pub record Facts : Type 0 where
    pub fits : Fits e st
    pub long : length b ≡ 2048
    pub most : v ≤ N st
    pub small : v < 4096
    pub plain : passes st.disc e.start (W st) b ≡ false
    pub room : W st + 1 + data_sectors (count_after (N st) v) + 1 ≤ e.span

  pub facts : Facts
  unfolding number_fits save_tests room_to_save save_lent
  facts =
      let p = once-tells e st.disc st.table _ st.held (save_tests e st.disc st.held v b) g in
      let q = and-true (lent_table st.table) _ p.0.lengths in
      let w = and-true (leb v (entries_held st.held)) _ p.1.0 in
      record {
        fits = goes-fits e st _ _ (λ l. (and-true (lent_table st.table) _ l).0) g;
        long = eqb-true _ _ q.1;
        most = leb-true _ _ w.0;
        small = ltb-true _ _ w.1;
        plain = not-true _ p.1.1.0;
        room = leb-true _ _ p.1.1.1.0;
      }

  -- uncut, the sector is written
  module _ (uncut : struck c 1 ≡ false) where
    d' : Disc
    d' = landed Landing.Done (e.start + W st) b st.disc

    on : e.start + W st < length st.disc.marks
    on = on-disc e.start e.span st.disc (W st) facts.fits.within (omega (arith, facts.room))

    made : Made st.disc
    made = shapely-made st.disc facts.fits.shape

    is-done : writes 1 c (record { place = e.start + W st; bytes = b } ∷ []) st.disc ≡ d'
    unfolding writes write d'
    is-done = ap (λ (g : Landing). landed g (e.start + W st) b st.disc) (landing-uncut 1 1 c uncut (omega arith) (omega arith))

    next-nwa : W st + 1 ≡ next_on e d'
    unfolding next_on d'
    next-nwa =
        sym (next-done e.start e.span (W st) b st.disc (held-blank e st.disc st.held facts.fits.top) (omega (arith, facts.room)) on)

    agree : Agree e.start (W st) d' st.disc
    unfolding d'
    agree = agree-landed Landing.Done e.start (W st) b st.disc facts.long on made

    slot-new : entry_slot d' e.start (W st) ≡ holds b
    unfolding entry_slot slot_at d' none
    slot-new =
        let w : eqb (W st) 0xffffffff ≡ false = ne_eqb (W st) 0xffffffff (λ q. omega (arith, on, shapely-most st.disc facts.fits.shape)) in
        rw (w, recorded-done (e.start + W st) b st.disc on, sector-done (e.start + W st) b st.disc facts.long on made)

    slots-old : entry_slots d' e.start (take (N st) st.table) ≡ blocks_of e st
    slots-old = slots-agree (take (N st) st.table) agree facts.fits.fresh

    slots-new : entry_slots d' e.start (take (count_after (N st) v) (set st.table v (W st))) ≡ put (blocks_of e st) v (holds b)
    unfolding put
    slots-new =
        let ln : length (blocks_of e st) ≡ N st = slots-count st.disc e.start (N st) st.table (omega (arith, facts.fits.few, facts.fits.lent)) in
        by-eq v (N st)
        (λ q.
        ap (entry_slots d' e.start) (table-grown (N st) v (W st) st.table (omega (arith, facts.small, facts.fits.lent)) q)
        ∙ slots-snoc d' e.start (take (N st) st.table) (W st)
        ∙ ap₂ (λ (l : List Slot) (x : Slot). l ++ (x ∷ [])) slots-old slot-new
        ∙ sym (rw (ln, le-ltb v (N st) (omega arith))))
        (λ q.
        ap (entry_slots d' e.start) (table-set (N st) v (W st) st.table (omega (arith, facts.most)))
        ∙ slots_set d' e.start (take (N st) st.table) v (W st)
        ∙ ap₂ (λ (l : List Slot) (x : Slot). set l v x) slots-old slot-new
        ∙ sym (rw (ln, lt-ltb v (N st) (omega (arith, facts.most)))))

    -- the state after it
    abbrev st' : State
    st' = record {
      disc = writes 1 c (record { place = e.start + W st; bytes = b } ∷ []) st.disc;
      table = set st.table v (W st);
      held = saved_record st.held v;
    }

    -- lines 1 to 7 and 11 hold of it,
    pub saved-fits : Fits e st'
    unfolding once_held next_held entries_held last_held d'
    saved-fits =
        let f = facts.fits in
        record {
          kind = f.kind;
          maps = f.maps;
          shape = rw is-done (landed-shapely Landing.Done (e.start + W st) b st.disc facts.long on f.shape);
          within = rw is-done (sym (landed-inside Landing.Done (e.start + W st) b st.disc e.start e.span) ∙ f.within);
          lent = rw length-set f.lent;
          once = refl;
          top = next-nwa ∙ ap (next_on e) (sym is-done);
          few = saved-few (N st) v f.few facts.small;
          fresh = saved-fresh (N st) v (W st) st.table facts.most (omega (arith, facts.small, f.lent)) f.fresh;
          last = omega (arith, f.last);
        }

    -- and its blocks are those before it, with block v put
    pub saved-blocks : blocks_of e st' ≡ put (blocks_of e st) v (holds b)
    unfolding entries_held
    saved-blocks = ap (λ (x : Disc). entry_slots x e.start (take (count_after (N st) v) (set st.table v (W st)))) is-done ∙ slots-new

module _ (e : Setting) (h : Shape) (st : State) (σ : Store) (i : Live e st σ) where
  -- ---- save v, between calls
  module _ (v : ℕ) (b : List ℕ) (c : Cut) (g : once_verdict e st.disc st.table (save_lent st.table b) st.held (save_tests e st.disc st.held v b) ≡ Ok tt) where
    pub kept-saved : Kept e.start e.span (writes 1 c (record { place = e.start + W st; bytes = b } ∷ []) st.disc) (last_held st.held) σ.copy
    unfolding writes write
    kept-saved =
        let a = facts e st v b c g in
        kept-write (landing 1 c) e.start e.span (W st) b st.disc i.kept (omega (arith, a.room)) (held-blank e st.disc st.held i.top) a.long (λ _. a.plain)

    live-saved : (uncut : struck c 1 ≡ false) → Live e (st' e st v b c g uncut) (record { blocks = put σ.blocks v (holds b); copy = σ.copy })
    unfolding last_held
    live-saved uncut =
        let f = saved-fits e st v b c g uncut in
        record {
          once = f.once;
          kept = kept-saved;
          top = f.top;
          fresh = f.fresh;
          few = f.few;
          lent = f.lent;
          now = saved-blocks e st v b c g uncut ∙ ap (λ (l : List Slot). put l v (holds b)) i.now;
        }

  pub sound-save : (v : ℕ) (b : List ℕ) (c : Cut) → Sound (OnceOk e) h σ (save_virtual v b c) (step e st (save_virtual v b c))
  unfolding step save_plan OnceOk cut_in writes_in taken
  sound-save v b c =
      sound-plan (OnceOk e) h σ (save_virtual v b c) c st _ _ _ _ i λ g.
      sound-carried (OnceOk e) h σ (save_virtual v b c) c st _ _ _ refl refl
      (λ q. (last_held st.held, kept-saved v b c g, i.lent))
      (λ q. live-saved v b c g q)

  -- its answer says that it was cut exactly if the plain store knows it
  pub told-save : (v : ℕ) (b : List ℕ) (c : Cut) → Told h σ (save_virtual v b c) (step e st (save_virtual v b c)).answer
  unfolding step save_plan cut_in writes_in
  told-save v b c = told-plan h σ (save_virtual v b c) c st _ _ _ _ refl (λ g. refl)

  -- ---- free v
  pub sound-free : (v : ℕ) → Sound (OnceOk e) h σ (free_virtual v) (step e st (free_virtual v))
  unfolding step free_plan OnceOk cut_in writes_in taken writes struck no_cut entry_tests
  sound-free v =
      sound-plan (OnceOk e) h σ (free_virtual v) no_cut st _ _ _ _ i λ g.
      sound-carried (OnceOk e) h σ (free_virtual v) no_cut st _ _ _ refl refl
      (λ q. absurd (false≢true q))
      (λ q.
      let p = once-tells e st.disc st.table _ st.held (entry_tests st.table st.held v) g in
      let few : v < N st = ltb-true _ _ p.1.0 in
      let w : take (N st) (set st.table v none) ≡ set (take (N st) st.table) v none = take-set-lt (N st) st.table v none few in
      record {
        once = i.once;
        kept = i.kept;
        top = i.top;
        fresh = rw w (below_set (W st) (take (N st) st.table) v none (below_none (W st)) i.fresh);
        few = i.few;
        lent = rw length-set i.lent;
        now =
            ap (entry_slots st.disc e.start) w
            ∙ slots_set st.disc e.start (take (N st) st.table) v none
            ∙ ap₂ (λ (l : List Slot) (x : Slot). set l v x) i.now (slot-none st.disc e.start);
      })

  pub told_free : (v : ℕ) → Told h σ (free_virtual v) (step e st (free_virtual v)).answer
  unfolding step free_plan cut_in writes_in
  told_free v = told-plan h σ (free_virtual v) no_cut st _ _ _ _ refl (λ g. refl)
