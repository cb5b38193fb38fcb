-- What each call on a write-once disc answers and leaves, where N, NWA w and the last ICB a are known and the VAT is small enough to be
-- embedded. It serves a run whose numbers are written out. Assumes nothing.
use Prim.Native.Nat.{ℕ, ◌+◌, ◌-◌, ◌≤◌, ◌<◌}
use native.Mathlib.Nat.{add-zero}
use mathlib.Core.Bool.{Bool, true, false, not, ◌&&◌, ◌||◌, false≢true}
use mathlib.Core.Logic.{◌≢◌}
use mathlib.Core.Path.{◌≡◌, refl, sym, ap, ap₂, ◌∙◌, subst}
use mathlib.Core.List.{List, [], ◌∷◌}
use native.Mathlib.Omega.{arith}
use lib.Dec.{eqb}
use lib.ListN.{length, take, set, get_or}
use lib.Seq.{length-take-le}
use borrow.Author.Tests.{le-leb, lt-ltb, eq-eqb}
use Rattle.refusal.specs.declared.Refusal.{Refusal}
use Rattle.refusal.specs.Verdict.{Verdict, verdict_of}
use Rattle.std.specs.Prelude.{Ok, Err}
use Rattle.refusal.specs.Tests.{Test, first, need}
use Rattle.maps.specs.Kinds.{read_maps}
use Rattle.model.specs.declared.Cut.{Cut}
use Rattle.model.specs.declared.Landing.{Landing}
use Rattle.model.specs.declared.Record.{Record}
use Rattle.model.specs.Writes.{landing, landed, write, writes, upward, struck, no_cut}
use Rattle.model.specs.Vat.{none, passes, tag_fits, vat_file, count_of, all_below}
use Rattle.model.specs.VatWritten.{data_sectors, written_icb}
use Rattle.model.specs.Examine.{Setting, write_once, lent_table}
use Rattle.model.specs.Plan.{Plan, carry, unless, reply_of, disc_after, table_after}
use Rattle.model.specs.Once.{next_on, entries_held, next_held, last_held, once_verdict, newest_file, found_at, found_record, passed_over, count_after, save_tests, save_lent, save_plan, entry_tests, free_plan, room_to_commit, commit_tests, icb_block, commit_writes, commit_plan}
use Rattle.model.specs.Both.{opening, opened_by, record_on, passed_on}
use Rattle.model.specs.Calls.{Call, save_virtual, free_virtual, commit, save_block, save_packet, spare_packet, open_disc, Answer, done, cut, refused, opened, State, step, answers, carried, answer_of, held_after, answer_of_opening, held_after_opening, accepted, is_cut, Proper}
use Rattle.model.specs.Store.{holds, unused, entry_slot, entry_slots, Store, store, shape_of, next, was_cut, cut_in, writes_in, taken, put}
use Rattle.model.proofs.Basics.{and-true, both, and-false-left, by_bool}
use Rattle.model.proofs.Verdicts.{go-then, examined-once}
use Rattle.model.proofs.Scan.{length-slots}
use Rattle.model.proofs.WrittenVat.{length-icb}
use Rattle.model.proofs.Once.{Kept, BlankFrom, on-disc, next_after, next-landed, kept-write}
use Rattle.model.proofs.OnceFits.{held-blank}
use Rattle.model.proofs.OnceRead.{Live, live-held, live-last, live-block, live-length}
use Rattle.model.proofs.OnceSave.{OnceOk, sound-save, sound-free}
use Rattle.model.proofs.OnceOpen.{length-entries, kept-newest, open-goes, reopened}
use Rattle.model.proofs.OnceCommit.{commit-one, sound-commit, whole-left}

-- between calls: the record is N, NWA w and the last ICB a, and the plain store is σ
pub record Between (e : Setting) (st : State) (σ : Store) (n w a : ℕ) : Type 0 where
  pub once : write_once e ≡ true
  pub maps : verdict_of (read_maps e.maps) ≡ Ok tt
  pub live : Live e st σ
  pub held : st.held ≡ Record.WriteOnce n w a

-- after a cut: the VAT of the ICB at a is found, and NWA is w
pub record AfterCut (e : Setting) (st : State) (σ : Store) (w a : ℕ) : Type 0 where
  pub once : write_once e ≡ true
  pub maps : verdict_of (read_maps e.maps) ≡ Ok tt
  pub kept : Kept e.start e.span st.disc a σ.copy
  pub long : 4096 ≤ length st.table
  pub top : next_on e st.disc ≡ w

-- a call answers x and leaves a state of which P holds
pub record Goes (e : Setting) (st : State) (c : Call) (x : Answer) (P : State → Type 0) : Type 0 where
  pub says : (step e st c).answer ≡ x
  pub leaves : P (step e st c).state

-- the answers of a list: that of its first call, and those of the rest from what it leaves
pub told : {e : Setting} {st : State} {c : Call} {x : Answer} {P : State → Type 0} {xs : List Answer} (cs : List Call) → Goes e st c x P
    → (P (step e st c).state → answers e (step e st c).state cs ≡ xs) → answers e st (c ∷ cs) ≡ x ∷ xs
unfolding answers
told cs g rest = ap₂ ◌∷◌ g.says (rest g.leaves)

-- no calls, no answers
pub told_none : (e : Setting) (st : State) → answers e st [] ≡ []
unfolding answers
told_none e st = refl

-- whether a call is an opening
unfoldable pub is_opening : Call → Bool
is_opening (save_virtual v b c) = false
is_opening (free_virtual v) = false
is_opening (commit c) = false
is_opening (save_block b x c) = false
is_opening (save_packet b x c) = false
is_opening (spare_packet b x c) = false
is_opening open_disc = true

-- whether every call after a cut is one
unfoldable pub orderly : Bool → List Call → List Answer → Bool
orderly down [] al = true
orderly down (c ∷ cs) [] = true
orderly down (c ∷ cs) (a ∷ al) = (not down || is_opening c) && orderly (is_cut a) cs al

is-opening : (c : Call) → is_opening c ≡ true → c ≡ open_disc
unfolding is_opening
is-opening (save_virtual v b c) q = absurd (false≢true q)
is-opening (free_virtual v) q = absurd (false≢true q)
is-opening (commit c) q = absurd (false≢true q)
is-opening (save_block b x c) q = absurd (false≢true q)
is-opening (save_packet b x c) q = absurd (false≢true q)
is-opening (spare_packet b x c) q = absurd (false≢true q)
is-opening open_disc q = refl

-- then the list is proper
pub orderly-proper : (down : Bool) (cs : List Call) (al : List Answer) → orderly down cs al ≡ true → Proper down cs al
unfolding Proper orderly
orderly-proper down [] al q = tt
orderly-proper down (c ∷ cs) [] q = tt
orderly-proper down (c ∷ cs) (a ∷ al) q =
    let p = and-true (not down || is_opening c) _ q in
    (λ (h : down ≡ true). is-opening c (rw h at p.0), orderly-proper (is_cut a) cs al p.1)

-- what is planned of one write, to sector p, under a verdict
abbrev one_plan : Verdict → ℕ → List ℕ → List ℕ → Record → Plan
one_plan v p b table r = unless v (carry (record { place = p; bytes = b } ∷ []) table r)

module _ {e : Setting} {st : State} {σ : Store} {n w a : ℕ} (t : Between e st σ n w a) where
  -- the tests of a call between calls are its own
  own-tests : (lent : Bool) → lent ≡ true → (own : List Test) → once_verdict e st.disc st.table lent st.held own ≡ first own
  unfolding once_verdict need
  own-tests lent l own =
      go-then _ (examined-once e t.once t.maps st.disc lent t.live.kept.shape t.live.kept.within l)
      ∙ rw (t.once, live-held e st σ t.live)

  -- NWA is the record's, from there on all is blank, and the VAT of the last ICB is found
  top : w ≡ next_on e st.disc
  unfolding next_held
  top = ap next_held (sym t.held) ∙ t.live.top

  blank : BlankFrom e.start e.span st.disc w
  unfolding next_held
  blank = subst (λ (r : Record). BlankFrom e.start e.span st.disc (next_held r)) t.held (held-blank e st.disc st.held t.live.top)

  last-kept : Kept e.start e.span st.disc a σ.copy
  unfolding last_held
  last-kept = subst (λ (r : Record). Kept e.start e.span st.disc (last_held r) σ.copy) t.held t.live.kept

  on : w < e.span → e.start + w < length st.disc.marks
  on h = on-disc e.start e.span st.disc w last-kept.within h

  -- what an opening needs holds between calls too
  pub standing : AfterCut e st σ w a
  standing = record { once = t.once; maps = t.maps; kept = last-kept; long = t.live.lent; top = sym top }

  -- a call of one write that is carried out
  module _ (call : Call) (c : Cut) (b table : List ℕ) (r : Record) (is : step e st call ≡ carried (one_plan (Ok tt) (e.start + w) b table r) c st) where
    one-done : struck c 1 ≡ false → step e st call ≡ record { answer = done r; state = record { disc = writes 1 c (record { place = e.start + w; bytes = b } ∷ []) st.disc; table = table; held = r } }
    unfolding unless carried reply_of disc_after table_after answer_of held_after
    one-done q = is ∙ rw q

    one-cut : struck c 1 ≡ true → step e st call ≡ record { answer = cut; state = record { disc = landed (landing 1 c) (e.start + w) b st.disc; table = st.table; held = st.held } }
    unfolding unless carried reply_of disc_after table_after answer_of held_after writes write
    one-cut q = is ∙ rw q

  -- what a save is planned to do
  save-step : (v : ℕ) (b : List ℕ) (c : Cut) → length b ≡ 2048 → (p : Verdict) → first (save_tests e st.disc (Record.WriteOnce n w a) v b) ≡ p
      → step e st (save_virtual v b c) ≡ carried (one_plan p (e.start + w) b (set st.table v w) (Record.WriteOnce (count_after n v) (w + 1) a)) c st
  unfolding step save_plan save_lent lent_table next_held entries_held last_held
  save-step v b c long p q =
      ap (λ x. carried (one_plan x (e.start + next_held st.held) b (set st.table v (next_held st.held)) (Record.WriteOnce (count_after (entries_held st.held) v) (next_held st.held + 1) (last_held st.held))) c st)
      (own-tests _ (both (le-leb _ _ t.live.lent) (eq-eqb _ _ long)) _)
      ∙ ap (λ x. carried (one_plan (first (save_tests e st.disc x v b)) (e.start + next_held x) b (set st.table v (next_held x)) (Record.WriteOnce (count_after (entries_held x) v) (next_held x + 1) (last_held x))) c st)
      t.held
      ∙ ap (λ x. carried (one_plan x (e.start + w) b (set st.table v w) (Record.WriteOnce (count_after n v) (w + 1) a)) c st) q

  -- a save that is carried out
  pub saved : (v : ℕ) (b : List ℕ) (c : Cut) → length b ≡ 2048 → first (save_tests e st.disc (Record.WriteOnce n w a) v b) ≡ Ok tt → struck c 1 ≡ false
      → Goes e st (save_virtual v b c) (done (Record.WriteOnce (count_after n v) (w + 1) a)) (λ x. Between e x (store (put σ.blocks v (holds b)) σ.copy) (count_after n v) (w + 1) a)
  unfolding OnceOk is_cut accepted next was_cut cut_in writes_in taken
  saved v b c long go q =
      let is = one-done (save_virtual v b c) c b _ _ (save-step v b c long (Ok tt) go) q in
      let says = ap (λ x. x.answer) is in
      record {
        says = says;
        leaves = record { once = t.once; maps = t.maps; live = rw q at (rw says at (sound-save e (shape_of e) st σ t.live v b c)); held = ap (λ x. x.state.held) is };
      }

  -- a save that is turned down
  pub save-refused : (v : ℕ) (b : List ℕ) (c : Cut) (why : Refusal) → length b ≡ 2048 → first (save_tests e st.disc (Record.WriteOnce n w a) v b) ≡ Err why
      → Goes e st (save_virtual v b c) (refused why) (λ x. Between e x σ n w a)
  unfolding unless carried reply_of disc_after table_after answer_of held_after
  save-refused v b c why long stop =
      let is = save-step v b c long (Err why) stop in
      record { says = ap (λ x. x.answer) is; leaves = subst (λ x. Between e x σ n w a) (sym (ap (λ x. x.state) is)) t }

  -- NWA after a write there, however it landed
  top-after : (l : Landing) (b : List ℕ) → w < e.span → next_on e (landed l (e.start + w) b st.disc) ≡ next_after w l
  unfolding next_on
  top-after l b h = next-landed l e.start e.span w b st.disc (sym top) h (on h)

  -- what a cut of one write leaves, where the write does not make a new VAT
  cut_short : (call : Call) (c : Cut) (b table : List ℕ) (r : Record) → step e st call ≡ carried (one_plan (Ok tt) (e.start + w) b table r) c st → struck c 1 ≡ true
      → w < e.span → length b ≡ 2048 → (landing 1 c ≡ Landing.Done → passes st.disc e.start w b ≡ false)
      → Goes e st call cut (λ x. AfterCut e x σ (next_after w (landing 1 c)) a)
  cut_short call c b table r is q h long plain =
      let all = one-cut call c b table r is q in
      record {
        says = ap (λ x. x.answer) all;
        leaves =
            subst (λ x. AfterCut e x σ (next_after w (landing 1 c)) a) (sym (ap (λ x. x.state) all))
            (record {
              once = t.once;
              maps = t.maps;
              kept = kept-write (landing 1 c) e.start e.span w b st.disc last-kept h blank long plain;
              long = t.live.lent;
              top = top-after (landing 1 c) b h;
            });
      }

  -- a save that is cut
  pub save-cut : (v : ℕ) (b : List ℕ) (c : Cut) → length b ≡ 2048 → first (save_tests e st.disc (Record.WriteOnce n w a) v b) ≡ Ok tt → struck c 1 ≡ true
      → w < e.span → tag_fits w b ≡ false
      → Goes e st (save_virtual v b c) cut (λ x. AfterCut e x σ (next_after w (landing 1 c)) a)
  unfolding passes
  save-cut v b c long go q h plain =
      cut_short (save_virtual v b c) c b _ _ (save-step v b c long (Ok tt) go) q h long (λ _. and-false-left _ plain)

  -- what a free is planned to do
  free_step : (v : ℕ) → first (entry_tests st.table (Record.WriteOnce n w a) v) ≡ Ok tt
      → step e st (free_virtual v) ≡ record { answer = done (Record.WriteOnce n w a); state = record { disc = st.disc; table = set st.table v none; held = Record.WriteOnce n w a } }
  unfolding step free_plan lent_table unless carried reply_of disc_after table_after answer_of held_after writes struck no_cut
  free_step v go =
      ap (λ x. carried (unless x (carry [] (set st.table v none) st.held)) no_cut st)
      (own-tests _ (le-leb _ _ t.live.lent) _ ∙ ap (λ x. first (entry_tests st.table x v)) t.held ∙ go)
      ∙ rw t.held

  -- the entry of a block that holds something is used
  used-entry : (v : ℕ) (x : List ℕ) → v < n → get_or σ.blocks v unused ≡ holds x → eqb (get_or st.table v 0) none ≡ false
  unfolding entry_slot entries_held
  used-entry v x h q =
      let count : entries_held st.held ≡ n = ap entries_held t.held in
      let p = live-block e st σ t.live v (omega arith) in
      by_bool (eqb (get_or st.table v 0) none)
      (λ y. let r : holds x ≡ unused = sym q ∙ p ∙ rw y in let z : ◌≡◌ {A = ℕ} 0 1 = cc in absurd (omega arith))
      (λ y. y)

  -- a free of such a block
  pub freed : (v : ℕ) (x : List ℕ) → v < n → get_or σ.blocks v unused ≡ holds x
      → Goes e st (free_virtual v) (done (Record.WriteOnce n w a)) (λ x. Between e x (store (set σ.blocks v unused) σ.copy) n w a)
  unfolding OnceOk is_cut accepted next was_cut cut_in taken struck no_cut entry_tests entries_held need
  freed v x h q =
      let is = free_step v (rw (lt-ltb v n h, used-entry v x h q)) in
      let says = ap (λ x. x.answer) is in
      record {
        says = says;
        leaves = record { once = t.once; maps = t.maps; live = rw says at (sound-free e (shape_of e) st σ t.live v); held = ap (λ x. x.state.held) is };
      }

  -- ---- a commit of a VAT that is embedded
  module _ (embedded : data_sectors n ≡ 0) (h : w < e.span) where
    -- its entries and its ICB
    abbrev entries : List ℕ
    entries = take n st.table

    abbrev icb : List ℕ
    icb = written_icb w entries a

    count : length entries ≡ n
    unfolding entries_held
    count =
        let q : entries_held st.held ≡ n = ap entries_held t.held in
        length-take-le n st.table (omega (arith, t.live.few, t.live.lent))

    blocks-count : length σ.blocks ≡ n
    unfolding entries_held
    blocks-count = live-length e st σ t.live ∙ ap entries_held t.held

    no-data : data_sectors (length entries) ≡ 0
    no-data = ap data_sectors count ∙ embedded

    there-is-room : first (commit_tests e (Record.WriteOnce n w a)) ≡ Ok tt
    unfolding commit_tests room_to_commit next_held entries_held need
    there-is-room = rw (embedded, le-leb (w + 0 + 1) e.span (omega arith))

    one-write : commit_writes e entries (Record.WriteOnce n w a) ≡ record { place = e.start + w; bytes = icb } ∷ []
    unfolding next_held entries_held last_held
    one-write = commit-one e entries (Record.WriteOnce n w a) (sym count) no-data

    its-block : icb_block (Record.WriteOnce n w a) ≡ w
    unfolding icb_block next_held entries_held
    its-block = omega arith

    -- what it is planned to do
    commit-step : (c : Cut) → step e st (commit c) ≡ carried (one_plan (Ok tt) (e.start + w) icb st.table (Record.WriteOnce n (w + 1) w)) c st
    unfolding step commit_plan lent_table entries_held
    commit-step c =
        ap (λ x. carried (unless x (carry (commit_writes e (take (entries_held st.held) st.table) st.held) st.table (Record.WriteOnce (entries_held st.held) (icb_block st.held + 1) (icb_block st.held)))) c st)
        (own-tests _ (le-leb _ _ t.live.lent) _)
        ∙ ap (λ x. carried (unless (first (commit_tests e x)) (carry (commit_writes e (take (entries_held x) st.table) x) st.table (Record.WriteOnce (entries_held x) (icb_block x + 1) (icb_block x)))) c st)
        t.held
        ∙ rw (there-is-room, one-write, its-block)

    -- a commit that is carried out
    pub committed : (c : Cut) → struck c 1 ≡ false
        → Goes e st (commit c) (done (Record.WriteOnce n (w + 1) w)) (λ x. Between e x (store σ.blocks σ.blocks) n (w + 1) w)
    unfolding OnceOk is_cut accepted next was_cut cut_in writes_in taken
    committed c q =
        let is = one-done (commit c) c icb _ _ (commit-step c) q in
        let says = ap (λ x. x.answer) is in
        record {
          says = says;
          leaves = record { once = t.once; maps = t.maps; live = rw (blocks-count, embedded, q) at (rw says at (sound-commit e (shape_of e) st σ t.live c)); held = ap (λ x. x.state.held) is };
        }

    -- one that is cut, its ICB not whole
    pub commit-torn : (c : Cut) → struck c 1 ≡ true → landing 1 c ≢ Landing.Done
        → Goes e st (commit c) cut (λ x. AfterCut e x σ (next_after w (landing 1 c)) a)
    commit-torn c q broken = cut_short (commit c) c icb _ _ (commit-step c) q h (length-icb entries a w) (λ y. absurd (broken y))

    -- the VAT of an ICB that is whole
    whole-vat : (c : Cut) → landing 1 c ≡ Landing.Done → Kept e.start e.span (landed (landing 1 c) (e.start + w) icb st.disc) w σ.blocks
    unfolding writes upward entries_held next_held last_held
    whole-vat c whole =
        let fresh : all_below w entries ≡ true = rw t.held at t.live.fresh in
        let slots : entry_slots st.disc e.start entries ≡ σ.blocks = rw t.held at t.live.now in
        let before : a < w = rw t.held at (live-last e st σ t.live) in
        let few : n ≤ 4096 = rw t.held at t.live.few in
        rw (no-data, add-zero w, slots) at
        (whole-left e.start e.span st.disc c entries w a last-kept.shape last-kept.within blank (omega (arith, count)) fresh before (omega (arith, no-data)) (rw no-data whole)).kept

    -- one that is cut, its ICB whole
    pub commit-whole : (c : Cut) → struck c 1 ≡ true → landing 1 c ≡ Landing.Done
        → Goes e st (commit c) cut (λ x. AfterCut e x (store σ.blocks σ.blocks) (w + 1) w)
    unfolding next_after
    commit-whole c q whole =
        let is = one-cut (commit c) c icb _ _ (commit-step c) q in
        record {
          says = ap (λ x. x.answer) is;
          leaves =
              subst (λ x. AfterCut e x (store σ.blocks σ.blocks) (w + 1) w) (sym (ap (λ x. x.state) is))
              (record { once = t.once; maps = t.maps; kept = whole-vat c whole; long = t.live.lent; top = top-after (landing 1 c) icb h ∙ ap (next_after w) whole });
        }

-- ---- an opening, after a cut or not
module _ {e : Setting} {st : State} {σ : Store} {w a : ℕ} (f : AfterCut e st σ w a) where
  -- N is the number of blocks of the VAT that is found
  counted : count_of (vat_file st.disc e.start a) ≡ length σ.copy
  counted = sym (length-entries (vat_file st.disc e.start a)) ∙ sym (length-slots st.disc e.start _) ∙ ap length f.kept.same

  -- what opening finds
  open_is : opening e st.disc st.table ≡ Ok (record { handed = Record.WriteOnce (length σ.copy) w a; passed = w - 1 - a })
  unfolding opening opened_by record_on passed_on found_record passed_over newest_file found_at
  open_is = rw (open-goes e f.once f.maps st.disc st.table a f.kept f.long, f.once, kept-newest e f.once f.maps st.disc a f.kept, counted, f.top)

  open-says : (step e st open_disc).answer ≡ opened (Record.WriteOnce (length σ.copy) w a) (w - 1 - a)
  unfolding step answer_of_opening
  open-says = ap answer_of_opening open_is

  open-held : (step e st open_disc).state.held ≡ Record.WriteOnce (length σ.copy) w a
  unfolding step held_after_opening
  open-held = ap (λ x. held_after_opening x st.held) open_is

  -- every opening is accepted, and returns to the copy
  pub opened-again : Goes e st open_disc (opened (Record.WriteOnce (length σ.copy) w a) (w - 1 - a)) (λ x. Between e x (store σ.copy σ.copy) (length σ.copy) w a)
  unfolding shape_of
  opened-again =
      record {
        says = open-says;
        leaves = record { once = f.once; maps = f.maps; live = (reopened e f.once f.maps (shape_of e) f.once st σ a f.kept f.long).live; held = open-held };
      }
