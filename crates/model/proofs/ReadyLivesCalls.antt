-- When the calls on a rewritable disc are carried out, and what they then answer and leave. Assumes nothing.
use Prim.Native.Nat.{ℕ, ◌+◌, ◌-◌, ◌*◌, ◌%◌, ◌≤◌, ◌<◌}
use mathlib.Core.Bool.{Bool, true, false, cond}
use mathlib.Core.Logic.{◌≢◌}
use mathlib.Core.Path.{◌≡◌, sym, ap, ap₂, ◌∙◌}
use mathlib.Core.List.{List}
use native.Mathlib.Omega.{arith}
use lib.Dec.{eqb}
use lib.ListN.{length, get_or, set, take, drop}
use lib.Seq.{take_at}
use borrow.Author.Tests.{lt-ltb, le-leb, eq-eqb, ne_eqb, eqb-true}
use Rattle.refusal.specs.Verdict.{Verdict, verdict_of}
use Rattle.std.specs.Prelude.{Ok}
use Rattle.refusal.specs.Tests.{Test, first, need}
use Rattle.maps.specs.Kinds.{read_maps}
use Rattle.model.specs.declared.Record.{Record}
use Rattle.model.specs.Disc.{Disc, mark, recorded}
use Rattle.model.specs.Writes.{Write, writes, struck, no_cut}
use Rattle.model.specs.Sparing.{Geometry, Entry, entries, flat, free_of, resorted, packet_of, of_spare, locate}
use Rattle.model.specs.Examine.{Setting, write_once, lent_table}
use Rattle.model.specs.Once.{filled_from}
use Rattle.model.specs.Plan.{carry, unless, reply_of, disc_after, table_after}
use Rattle.model.specs.Rewrite.{no_entry, table_on, copy_tests, current_record, rewritable_verdict, other_mark, block_test, spare_test, save_block_tests, block_lent, save_block_plan, packet_tests, packet_lent, spare_tests, spared_table, spare_plan}
use Rattle.model.specs.Both.{open_verdict, record_on, passed_on, opened_by, opening}
use Rattle.model.specs.Calls.{Call, save_block, spare_packet, open_disc, done, opened, State, Stepped, answer_of, held_after, carried, answer_of_opening, step, accepted, is_cut}
use Rattle.model.specs.Store.{Slot, holds, unused, unreadable, blank, slot_at, puts, slots_in, Store, store, Shape, cut_in, writes_in, was_cut, taken, next}
use Rattle.model.proofs.Basics.{by_bool, both}
use Rattle.model.proofs.Marks.{mark-goes, other-mark}
use Rattle.model.proofs.Verdicts.{go-then}
use Rattle.model.proofs.Ground.{Ground}
use Rattle.model.proofs.SectorsRuns.{recorded_run-all}
use Rattle.model.proofs.SparingLaws.{entries-flat, length-flat, resorted-length, packet-multiple, packet-less, packet-inside, packet-start, spare-packet, settled-some, settled-table, settled-agree}
use Rattle.model.proofs.Ready.{Ready, Holds, LiveAgain, ready-fits, ready-entries, ready-count, ready-sequence, ready-place, ready-spare, same_place, examined-again, copies-go, held-current}
use Rattle.model.proofs.ReadyOpen.{Keeps, keeps-own, AgainOk, reopened-again}
use Rattle.model.proofs.ReadySave.{at_place}
use Rattle.model.proofs.ReadyCalls.{sound-block}
use Rattle.model.proofs.ReadySpare.{sound-spare}
use Rattle.model.proofs.Steps.{Sound}

-- ---- a call that no test stops, and that is not cut

-- it answers with its record, and leaves its disc, table and record
carried-out : (v : Verdict) (ws : List Write) (t : List ℕ) (r : Record) (st : State) → v ≡ Ok tt
    → carried (unless v (carry ws t r)) no_cut st
    ≡ record { answer = done r; state = record { disc = writes 1 no_cut ws st.disc; table = t; held = r } }
unfolding carried unless reply_of disc_after table_after answer_of held_after struck no_cut
carried-out v ws t r st h = rw h

-- an invariant that a call keeps holds of the plain store as an uncut call leaves it
sound-done : (Keeps : Bool → State → Store → Type 0) (h : Shape) (σ : Store) (c : Call) (r : Stepped) (held : Record)
    → r.answer ≡ done held → Sound Keeps h σ c r → Keeps false r.state (taken h σ c (was_cut h σ c))
unfolding accepted is_cut next
sound-done Keeps h σ c r held q s = rw q at s

sound-opened : (Keeps : Bool → State → Store → Type 0) (h : Shape) (σ : Store) (c : Call) (r : Stepped) (held : Record) (n : ℕ)
    → r.answer ≡ opened held n → Sound Keeps h σ c r → Keeps false r.state (taken h σ c (was_cut h σ c))
unfolding accepted is_cut next
sound-opened Keeps h σ c r held n q s = rw q at s

-- a sector that is a block of bytes is recorded
unread-differs : (b : Bool) (x : List ℕ) → cond b blank unreadable ≡ holds x → ⊥
unread-differs true x h = let z : ◌≡◌ {A = ℕ} 0 1 = cc in omega arith
unread-differs false x h = let z : ◌≡◌ {A = ℕ} 0 1 = cc in omega arith

holds-recorded : (d : Disc) (p : ℕ) (x : List ℕ) → slot_at d p ≡ holds x → mark d p ≡ 1
unfolding slot_at recorded
holds-recorded d p x h =
    by_bool (eqb (mark d p) 1) (eqb-true _ _) (λ q. absurd (unread-differs (eqb (mark d p) 0) x (rw q at h)))

-- the blocks of a packet all hold bytes
pub record Whole (p : ℕ) (bs : List Slot) : Type 0 where
  pub bytes : ℕ → List ℕ
  pub block : (j : ℕ) → j < 32 → get_or bs (p + j) unused ≡ holds (bytes j)

-- a record has one R and one sequence
held_both : (r : Record) {a n a' n' : ℕ} → Holds r a n → Holds r a' n' → (a ≡ a') × (n ≡ n')
unfolding Holds
held_both (Record.WriteOnce a next last) p q = absurd p
held_both (Record.Rewritable a s) p q = (sym p.0 ∙ q.0, sym p.1 ∙ q.1)

-- a state with the same table and record is of the same sequence and entries
live_same : (e : Setting) (g : Geometry) (st st' : State) (n : ℕ) (l : List ℕ) (σ σ' : Store) → LiveAgain e g st n l σ
    → (n' : ℕ) (l' : List ℕ) → LiveAgain e g st' n' l' σ' → st'.held ≡ st.held → st'.table ≡ st.table → LiveAgain e g st' n l σ'
live_same e g st st' n l σ σ' i n' l' j same-held same-table =
    let q = held_both st.held i.held (rw same-held at j.held) in
    let w : l ≡ l' = sym i.front ∙ ap₂ (λ (y : ℕ) (t : List ℕ). take (2 * y) t) q.0 (sym same-table) ∙ j.front in
    rw (q.1, w) j

-- ---- the calls
module _ (e : Setting) (g : Geometry) (again : write_once e ≡ false) (γ : Ground e g) (maps-go : verdict_of (read_maps e.maps) ≡ Ok tt) where
  -- opening goes on
  pub open-goes : (d : Disc) (t : List ℕ) {n : ℕ} {l : List ℕ} {bs : List Slot} → Ready e g d n l bs → 4096 ≤ length t → open_verdict e d t ≡ Ok tt
  unfolding open_verdict lent_table
  open-goes d t r long =
      go-then _ (examined-again e g again γ maps-go d _ r (le-leb _ _ long)) ∙ rw again (copies-go e g again γ maps-go d r)

  -- with R and the sequence of the table
  pub record-again : (d : Disc) {n : ℕ} {l : List ℕ} {bs : List Slot} → Ready e g d n l bs → record_on e d ≡ Record.Rewritable (length (entries l)) n
  unfolding record_on current_record
  record-again d r = rw (again, ready-count r, ready-sequence r)

  -- what is left of the tests of a call are its own
  pub own-tests : (st : State) (lent : Bool) (own : List Test) {n : ℕ} {l : List ℕ} {σ : Store} → LiveAgain e g st n l σ → lent ≡ true
      → rewritable_verdict e st.disc st.table lent st.held own ≡ first own
  unfolding rewritable_verdict need copy_tests table_on
  own-tests st lent own {n} {l} i c =
      go-then _ (examined-again e g again γ maps-go st.disc lent i.ready c)
      ∙ rw (again, i.ready.geo, settled-some st.disc g n l i.ready.settled, settled-table st.disc g n l i.ready.settled, settled-agree st.disc g n l i.ready.settled, held-current e g again γ maps-go st i)

  module _ (h : Shape) (st : State) (n : ℕ) (l : List ℕ) (σ : Store) (i : LiveAgain e g st n l σ) where
    -- a record with the table's R and sequence
    held-is : (r : Record) → Holds r (length (entries l)) n → r ≡ Record.Rewritable (length (entries l)) n
    unfolding Holds
    held-is (Record.WriteOnce a next last) q = absurd q
    held-is (Record.Rewritable a s) q = ap₂ (λ (x y : ℕ). Record.Rewritable x y) q.0 q.1

    -- ---- save b
    module _ (b : ℕ) (x : List ℕ) (below : b < g.span) (own-place : of_spare g.start (entries l) b ≡ false) (long : length x ≡ 2048) (whole : Whole (packet_of b) σ.blocks) where
      abbrev p : ℕ
      p = packet_of b

      abbrev start : ℕ
      start = locate g.start (entries l) p

      -- the packet is recorded
      each-recorded : (j : ℕ) → j < 32 → mark st.disc (start + j) ≡ 1
      each-recorded j u =
          let v : p + j < g.span = omega (arith, packet-inside b g.span γ.span-32 below) in
          let w : of_spare g.start (entries l) (p + j) ≡ false = spare-packet g.start (entries l) (p + j) b (packet-start p j (packet-multiple b) u) ∙ own-place in
          holds-recorded st.disc (start + j) (whole.bytes j)
          (ap (slot_at st.disc) (sym (at_place e g γ st.disc n l σ.blocks i.ready p (packet-multiple b) (packet-less b g.span below) j u))
          ∙ sym (same_place i.ready (p + j) v w)
          ∙ whole.block j u)

      others : eqb (other_mark st.disc start (b % 32)) 1 ≡ true
      others =
          let k : ℕ = b % 32 in
          other-mark st.disc start k
          ∙ both
          (recorded_run-all st.disc start k (λ j u. each-recorded j (omega arith)))
          (recorded_run-all st.disc (start + k + 1) (31 - k)
          (λ j u.
          let z : start + k + 1 + j ≡ start + (k + 1 + j) = omega arith in
          rw z (each-recorded (k + 1 + j) (omega arith))))

      save-goes : rewritable_verdict e st.disc st.table (block_lent st.table x) st.held (save_block_tests e st.disc b) ≡ Ok tt
      unfolding save_block_tests block_test spare_test block_lent lent_table need
      save-goes =
          own-tests st _ (save_block_tests e st.disc b) i (both (le-leb _ _ i.lent) (eq-eqb _ _ long))
          ∙ rw (ready-spare γ i.ready b, own-place, ready-place γ i.ready (packet_of b), γ.span-is, lt-ltb b g.span below) (sym (mark-goes _ others))

      -- it answers with the record as it was
      pub save-answer : (step e st (save_block b x no_cut)).answer ≡ done (Record.Rewritable (length (entries l)) n)
      unfolding step save_block_plan
      save-answer = ap (λ (r : Stepped). r.answer) (carried-out _ _ _ _ st save-goes) ∙ ap done (held-is st.held i.held)

      save-held : (step e st (save_block b x no_cut)).state.held ≡ st.held
      unfolding step save_block_plan
      save-held = ap (λ (r : Stepped). r.state.held) (carried-out _ _ _ _ st save-goes)

      save-table : (step e st (save_block b x no_cut)).state.table ≡ st.table
      unfolding step save_block_plan
      save-table = ap (λ (r : Stepped). r.state.table) (carried-out _ _ _ _ st save-goes)

      save-any : (n' : ℕ) × (l' : List ℕ) × LiveAgain e g (step e st (save_block b x no_cut)).state n' l' (store (set σ.blocks b (holds x)) σ.copy) × Keeps (entries l) l'
      unfolding AgainOk taken was_cut cut_in writes_in struck no_cut
      save-any = sound-done (AgainOk e g (entries l)) h σ (save_block b x no_cut) (step e st (save_block b x no_cut)) _ save-answer (sound-block e g γ h st σ n l i (entries l) (keeps-own l) b x no_cut)

      -- the table is as it was, and block b has its bytes
      pub save-live : LiveAgain e g (step e st (save_block b x no_cut)).state n l (store (set σ.blocks b (holds x)) σ.copy)
      save-live = live_same e g st _ n l σ _ i save-any.0 save-any.1 save-any.2 save-held save-table

    -- ---- spare p
    module _ (p : ℕ) (y : List ℕ) (multiple : p % 32 ≡ 0) (below : p < g.span) (own-place : of_spare g.start (entries l) p ≡ false) (long : length y ≡ 65536) (copies : h.tables ≡ length g.tables) (two : 2 ≤ length g.tables)
        (some : no_entry (free_of (entries l)) ≡ false) (more : n ≢ 4294967295) where
      spare-goes : rewritable_verdict e st.disc st.table (packet_lent st.table y) st.held (spare_tests e st.disc p) ≡ Ok tt
      unfolding spare_tests packet_tests spare_test packet_lent lent_table need
      spare-goes =
          own-tests st _ (spare_tests e st.disc p) i (both (le-leb _ _ i.lent) (eq-eqb _ _ long))
          ∙ rw (ready-spare γ i.ready p, own-place, ready-entries i.ready, ready-sequence i.ready, i.ready.geo, eq-eqb (p % 32) 0 multiple, le-leb 2 (length g.tables) two, some, ne_eqb n 4294967295 more, γ.span-is, lt-ltb p g.span below)

      -- it answers with the next sequence
      pub spare-answer : (step e st (spare_packet p y no_cut)).answer ≡ done (Record.Rewritable (length (entries l)) (n + 1))
      unfolding step spare_plan
      spare-answer =
          ap (λ (r : Stepped). r.answer) (carried-out _ _ _ _ st spare-goes)
          ∙ ap₂ (λ (a s : ℕ). done (Record.Rewritable a (s + 1))) (ready-count i.ready) (ready-sequence i.ready)

      spare-held : (step e st (spare_packet p y no_cut)).state.held ≡ Record.Rewritable (length (entries l)) (n + 1)
      unfolding step spare_plan
      spare-held =
          ap (λ (r : Stepped). r.state.held) (carried-out _ _ _ _ st spare-goes)
          ∙ ap₂ (λ (a s : ℕ). Record.Rewritable a (s + 1)) (ready-count i.ready) (ready-sequence i.ready)

      spare-any : (n' : ℕ) × (l' : List ℕ) × LiveAgain e g (step e st (spare_packet p y no_cut)).state n' l' (store (puts σ.blocks p (slots_in 32 y 0)) σ.copy) × Keeps (entries l) l'
      unfolding AgainOk taken was_cut cut_in writes_in struck no_cut
      spare-any =
          sound-done (AgainOk e g (entries l)) h σ (spare_packet p y no_cut) (step e st (spare_packet p y no_cut)) _ spare-answer (sound-spare e g γ h copies st σ n l i p y no_cut (entries l) (keeps-own l))

      -- the lent table begins with the entries resorted
      spare-table : (step e st (spare_packet p y no_cut)).state.table ≡ filled_from (flat (resorted (entries l) p)) st.table
      unfolding step spare_plan spared_table
      spare-table =
          ap (λ (r : Stepped). r.state.table) (carried-out _ _ _ _ st spare-goes)
          ∙ ap (λ (es : List Entry). filled_from (flat (resorted es p)) st.table) (ready-entries i.ready)

      -- as many as before
      pub spare-count : length (entries (flat (resorted (entries l) p))) ≡ length (entries l)
      spare-count =
          ap length (entries-flat (resorted (entries l) p))
          ∙ resorted-length g (entries l) p (ready-fits i.ready) multiple below (omega (arith, γ.inside, γ.sectors)) some

      -- the packet has its bytes
      pub spare-live : LiveAgain e g (step e st (spare_packet p y no_cut)).state (n + 1) (flat (resorted (entries l) p)) (store (puts σ.blocks p (slots_in 32 y 0)) σ.copy)
      unfolding Holds filled_from
      spare-live =
          let j = spare-any.2 in
          let l' : List ℕ = flat (resorted (entries l) p) in
          let k : Holds (Record.Rewritable (length (entries l)) (n + 1)) (length (entries spare-any.1)) spare-any.0 = rw spare-held at j.held in
          let same : spare-any.1 ≡ l' =
          sym j.front
          ∙ ap₂ (λ (c : ℕ) (t : List ℕ). take (2 * c) t) (sym k.0) spare-table
          ∙ take_at l' (drop (length l') st.table) (2 * length (entries l))
          (length-flat (resorted (entries l) p) ∙ ap (λ (c : ℕ). 2 * c) (sym (ap length (entries-flat (resorted (entries l) p))) ∙ spare-count)) in
          rw (k.1, ← same) j

    -- ---- opening again
    pub reopen-answer : (step e st open_disc).answer ≡ opened (Record.Rewritable (length (entries l)) n) 0
    unfolding step opening opened_by answer_of_opening passed_on
    reopen-answer = rw (open-goes st.disc st.table i.ready i.lent, record-again st.disc i.ready, again)

    -- no block changes
    pub reopen-live : h.once ≡ false → (n' : ℕ) × (l' : List ℕ) × LiveAgain e g (step e st open_disc).state n' l' σ
    unfolding AgainOk taken was_cut cut_in writes_in struck no_cut
    reopen-live one =
        let r =
        rw one at
        (sound-opened (AgainOk e g (entries l)) h σ open_disc (step e st open_disc) _ _ reopen-answer
        (reopened-again e g again γ maps-go h one st σ n l i.ready i.lent (entries l) (keeps-own l)).sound) in
        (r.0, r.1, r.2)
