-- The saves of a rewritable disc, refused, cut or carried out. Assumes nothing.
use Prim.Native.Nat.{ℕ, ◌+◌, ◌-◌, ◌*◌, ◌%◌, ◌≤◌, ◌<◌}
use mathlib.Core.Bool.{Bool, true, false, not, ◌&&◌}
use mathlib.Core.Logic.{◌≢◌, ◌⊎◌}
use mathlib.Core.Path.{◌≡◌, refl, sym, ap, ◌∙◌}
use mathlib.Core.List.{List, ◌∷◌, ◌++◌}
use native.Mathlib.Omega.{arith}
use lib.Dec.{eqb}
use lib.ListN.{length, get_or, set, take, drop, length-set, length-take, length-drop}
use lib.Seq.{get_or-set_same, get_or-set_other, get_or-take, get_or-drop}
use borrow.Author.Tests.{ltb-true, eqb-true, not-true}
use Rattle.refusal.specs.declared.Refusal.TheVariants.{OtherKind, StaleRecord}
use Rattle.std.specs.Prelude.{Ok}
use Rattle.refusal.specs.Tests.{Test, test}
use Rattle.refusal.proofs.Laws.{All, passed}
use Rattle.fields.specs.Bytes.{part}
use Rattle.fields.proofs.Laws.{length-splice, part-splice-width, part-splice-before, part-splice-after}
use Rattle.model.specs.declared.Cut.{Cut}
use Rattle.model.specs.declared.Landing.{Landing}
use Rattle.model.specs.declared.Record.{Record}
use Rattle.model.specs.Disc.{Disc, sector, recorded, recorded_run, mark_tests, joined}
use Rattle.model.specs.Writes.{landing, writes, upward, struck}
use Rattle.model.specs.Sparing.{Geometry, Entry, entries, packet_of, of_spare, locate}
use Rattle.model.specs.Examine.{Setting, write_once, examined, lent_table}
use Rattle.model.specs.Rewrite.{copy_tests, held_current, rewritable_verdict, place_of, block_test, spare_test, save_block_tests, block_lent, packet_writes, replaced, save_block_plan, packet_tests, packet_lent, save_packet_plan}
use Rattle.model.specs.Calls.{save_block, save_packet, State, step}
use Rattle.model.specs.Store.{Slot, holds, unused, slot_at, slot_after, puts, puts_cut, slots_in, packet_with, Store, Shape, cut_in, writes_in, taken}
use Rattle.model.proofs.Basics.{by-lt, by-eq, and-true}
use Rattle.model.proofs.Marks.{other-mark}
use Rattle.model.proofs.Verdicts.{Examined, examined-tells, then-go}
use Rattle.model.proofs.Sectors.{shapely-made, landing-uncut}
use Rattle.model.proofs.SectorsRuns.{length-joined, joined-part, recorded_run-each, length-upward}
use Rattle.model.proofs.SparingLaws.{packet-multiple, packet-less, packet-rest, packet-inside, packet-start, packet-own, spare-packet}
use Rattle.model.proofs.Ground.{Ground}
use Rattle.model.proofs.Ready.{Ready, LiveAgain, ready-place, ready-spare, same_place}
use Rattle.model.proofs.ReadyOpen.{Keeps, AgainOk}
use Rattle.model.proofs.ReadySave.{run-cases, ready-written, on-disc, at_place, in_place_law}
use Rattle.model.proofs.Slots.{length-blocks, block_in, length_cut, cut-other, cut_inside, length-puts, puts-other, puts-inside, slot-recorded}
use Rattle.model.proofs.Steps.{Told, told-plan, Sound, sound-plan, sound-carried}

-- what the tests of a call on a rewritable disc tell
pub again-tells : (e : Setting) (d : Disc) (t : List ℕ) (lent : Bool) (r : Record) (own : List Test) → rewritable_verdict e d t lent r own ≡ Ok tt → Examined e d lent × All own
unfolding rewritable_verdict copy_tests
again-tells e d t lent r own g =
    let p = then-go (examined e d lent) _ g in
    (examined-tells e d lent p.0, (passed (test (not (write_once e)) OtherKind ∷ (copy_tests e d ++ (test (held_current e d t r) StaleRecord ∷ own))) p.1).1.1.1.1)

-- a write that is done gives the block its bytes
after-done : {lg : Landing} (o x : Slot) → lg ≡ Landing.Done → slot_after lg o x ≡ x
unfolding slot_after
after-done o x w = rw w

-- a block of another packet is outside the run of this one
pub other-packet : (p b : ℕ) → p % 32 ≡ 0 → packet_of b ≢ p → (b < p) ⊎ (p + 32 ≤ b)
other-packet p b m w = run-cases b p (λ i h v. absurd (w (ap packet_of v ∙ packet-start p i m h))) (λ h. h)

-- the answer of a save says that it was cut exactly if the plain store knows it: both saves are 32 writes
pub told-packet : (e : Setting) (h : Shape) (st : State) (σ : Store) (b : ℕ) (x : List ℕ) (c : Cut) → Told h σ (save_packet b x c) (step e st (save_packet b x c)).answer
unfolding step save_packet_plan packet_writes cut_in writes_in
told-packet e h st σ b x c = told-plan h σ (save_packet b x c) c st _ _ _ _ refl (λ go. sym (length-upward 32 (place_of e st.disc b) x 0))

pub told-block : (e : Setting) (h : Shape) (st : State) (σ : Store) (b : ℕ) (x : List ℕ) (c : Cut) → Told h σ (save_block b x c) (step e st (save_block b x c)).answer
unfolding step save_block_plan packet_writes cut_in writes_in
told-block e h st σ b x c =
    told-plan h σ (save_block b x c) c st _ _ _ _ refl
    (λ go. sym (length-upward 32 (place_of e st.disc (packet_of b)) (replaced st.disc (place_of e st.disc (packet_of b)) (b % 32) x) 0))

module _ (e : Setting) (g : Geometry) (γ : Ground e g) (h : Shape) (st : State) (σ : Store) (n : ℕ) (l : List ℕ) (i : LiveAgain e g st n l σ) where
  abbrev d : Disc
  d = st.disc

  -- ---- save packet
  module _ (b : ℕ) (x : List ℕ) (c : Cut) (multiple : b % 32 ≡ 0) (below : b < g.span) (own-place : of_spare g.start (entries l) b ≡ false) (long : length x ≡ 65536) where
    fits : b + length (slots_in 32 x 0) ≤ length σ.blocks
    fits = omega (arith, length-blocks 32 x 0, i.ready.count, packet-inside b g.span γ.span-32 below, packet-rest b)

    edge : (j : ℕ) → packet_of j ≢ b → (j < b) ⊎ (b + length (slots_in 32 x 0) ≤ j)
    edge j w = rw (length-blocks 32 x 0) (other-packet b j multiple w)

    packet-cut : Ready e g (writes 1 c (upward 32 (locate g.start (entries l) b) x 0) d) n l (puts_cut 1 c σ.blocks b (slots_in 32 x 0))
    packet-cut =
        ready-written e g γ d n l σ.blocks i.ready b multiple below own-place x long c (puts_cut 1 c σ.blocks b (slots_in 32 x 0))
        (length_cut 1 c σ.blocks b (slots_in 32 x 0))
        (λ j w. cut-other 1 c σ.blocks b (slots_in 32 x 0) j (edge j w))
        (λ j u.
        cut_inside 1 c σ.blocks b (slots_in 32 x 0) j (rw (length-blocks 32 x 0) u) fits
        ∙ ap (slot_after (landing (1 + j) c) (get_or σ.blocks (b + j) unused)) (block_in 32 x 0 j u))

    packet-done : struck c 32 ≡ false → Ready e g (writes 1 c (upward 32 (locate g.start (entries l) b) x 0) d) n l (puts σ.blocks b (slots_in 32 x 0))
    packet-done uncut =
        ready-written e g γ d n l σ.blocks i.ready b multiple below own-place x long c (puts σ.blocks b (slots_in 32 x 0))
        (length-puts σ.blocks b (slots_in 32 x 0))
        (λ j w. puts-other σ.blocks b (slots_in 32 x 0) j (edge j w))
        (λ j u.
        puts-inside σ.blocks b (slots_in 32 x 0) j (rw (length-blocks 32 x 0) u) fits
        ∙ block_in 32 x 0 j u
        ∙ sym (after-done (get_or σ.blocks (b + j) unused) _ (landing-uncut (1 + j) 32 c uncut (omega arith) (omega arith))))

  pub sound-packet : (es : List Entry) → Keeps es l → (b : ℕ) (x : List ℕ) (c : Cut) → Sound (AgainOk e g es) h σ (save_packet b x c) (step e st (save_packet b x c))
  unfolding step save_packet_plan packet_writes AgainOk cut_in writes_in taken packet_tests spare_test packet_lent
  sound-packet es kept b x c =
      sound-plan (AgainOk e g es) h σ (save_packet b x c) c st _ _ _ _ (n, l, i, kept) λ go.
      let p = again-tells e d st.table _ st.held (packet_tests e d b) go in
      let u = and-true (lent_table st.table) _ p.0.lengths in
      let v = and-true (eqb (b % 32) 0) _ p.1.0 in
      let multiple : b % 32 ≡ 0 = eqb-true _ _ v.0 in
      let below : b < g.span = rw (← γ.span-is) (ltb-true _ _ v.1) in
      let own-place = sym (ready-spare γ i.ready b) ∙ not-true _ p.1.1.0 in
      let long : length x ≡ 65536 = eqb-true _ _ u.1 in
      let w = length-upward 32 (place_of e d b) x 0 in
      let place = ready-place γ i.ready b in
      sound-carried (AgainOk e g es) h σ (save_packet b x c) c st _ _ _ refl (sym w)
      (λ k. (n, l, rw place (packet-cut b x c multiple below own-place long), i.lent, kept))
      (λ k. (n, l, record { ready = rw place (packet-done b x c multiple below own-place long (rw w at k)); held = i.held; front = i.front; lent = i.lent }, kept))

  -- ---- save block
  module _ (b : ℕ) (x : List ℕ) (c : Cut) (below : b < g.span) (own-place : of_spare g.start (entries l) b ≡ false) (long : length x ≡ 2048) where
    abbrev p : ℕ
    p = packet_of b

    abbrev k : ℕ
    k = b % 32

    abbrev start : ℕ
    start = locate g.start (entries l) p

    abbrev bytes : List ℕ
    bytes = replaced d start k x

    p-below : p < g.span
    p-below = packet-less b g.span below

    p-place : of_spare g.start (entries l) p ≡ false
    p-place = spare-packet g.start (entries l) p b (packet-own p (packet-multiple b)) ∙ own-place

    on : start + 32 ≤ length d.marks
    on = on-disc e g γ d n l σ.blocks i.ready p (packet-multiple b) p-below

    long-joined : length (joined d start 32) ≡ 65536
    long-joined = length-joined d start 32 (shapely-made d i.ready.shape) on

    long-bytes : length bytes ≡ 65536
    unfolding replaced
    long-bytes = length-splice (joined d start 32) (2048 * k) x (omega (arith, long-joined)) ∙ long-joined

    -- the replaced block, and the others as they were
    part-own : part bytes (0 + 2048 * k) 2048 ≡ x
    unfolding replaced
    part-own =
        let z : 0 + 2048 * k ≡ 2048 * k = omega arith in
        rw z (part-splice-width (joined d start 32) (2048 * k) 2048 x long (omega (arith, long-joined)))

    part-other : (j : ℕ) → j < 32 → j ≢ k → part bytes (0 + 2048 * j) 2048 ≡ sector d (start + j)
    unfolding replaced
    part-other j u w =
        let z : 0 + 2048 * j ≡ 2048 * j = omega arith in
        rw z
        (by-lt j k
        (λ a. part-splice-before (joined d start 32) (2048 * k) x (2048 * j) 2048 (omega (arith, long-joined)) (omega arith))
        (λ a. part-splice-after (joined d start 32) (2048 * k) x (2048 * j) 2048 (omega (arith, long-joined)) (omega arith))
        ∙ joined-part d start 32 j u)

    module _ (others : (recorded_run d start k && recorded_run d (start + k + 1) (31 - k)) ≡ true) where
      recorded-other : (j : ℕ) → j < 32 → j ≢ k → recorded d (start + j) ≡ true
      unfolding recorded
      recorded-other j u w =
          let r = and-true (recorded_run d start k) _ others in
          by-lt j k
          (λ a. ap (λ (m : ℕ). eqb m 1) (recorded_run-each d start k j r.0 a))
          (λ a.
          let z : start + j ≡ start + k + 1 + (j - (k + 1)) = omega arith in
          rw z (ap (λ (m : ℕ). eqb m 1) (recorded_run-each d (start + k + 1) (31 - k) (j - (k + 1)) r.1 (omega arith))))

      -- a block of the packet that is not replaced holds what is rewritten
      old-block : (j : ℕ) → j < 32 → j ≢ k → get_or σ.blocks (p + j) unused ≡ holds (part bytes (0 + 2048 * j) 2048)
      old-block j u w =
          same_place i.ready (p + j) (omega (arith, packet-inside b g.span γ.span-32 below)) (in_place_law e g γ d n l σ.blocks i.ready p (packet-multiple b) p-below p-place j u)
          ∙ ap (slot_at d) (at_place e g γ d n l σ.blocks i.ready p (packet-multiple b) p-below j u)
          ∙ slot-recorded d (start + j) (recorded-other j u w)
          ∙ ap holds (sym (part-other j u w))

      long-blocks : p + 32 ≤ length σ.blocks
      long-blocks = omega (arith, i.ready.count, packet-inside b g.span γ.span-32 below)

      long-with : length (packet_with σ.blocks b x) ≡ 32
      unfolding packet_with
      long-with = rw (length-set, length-take, length-drop) (omega (arith, long-blocks))

      -- the packet's blocks with one replaced
      with-block : (j : ℕ) → j < 32 → get_or (packet_with σ.blocks b x) j unused ≡ holds (part bytes (0 + 2048 * j) 2048)
      unfolding packet_with
      with-block j u =
          let f : List Slot = take 32 (drop p σ.blocks) in
          by-eq j k
          (λ w. rw w (get_or-set_same f k (holds x) unused (rw (length-take, length-drop) (omega (arith, long-blocks))) ∙ ap holds (sym part-own)))
          (λ w.
          get_or-set_other f k j (holds x) unused w
          ∙ get_or-take 32 (drop p σ.blocks) j unused u
          ∙ get_or-drop p σ.blocks j unused
          ∙ old-block j u w)

      block-cut : Ready e g (writes 1 c (upward 32 start bytes 0) d) n l (puts_cut 1 c σ.blocks p (packet_with σ.blocks b x))
      block-cut =
          ready-written e g γ d n l σ.blocks i.ready p (packet-multiple b) p-below p-place bytes long-bytes c (puts_cut 1 c σ.blocks p (packet_with σ.blocks b x))
          (length_cut 1 c σ.blocks p (packet_with σ.blocks b x))
          (λ j w. cut-other 1 c σ.blocks p (packet_with σ.blocks b x) j (rw long-with (other-packet p j (packet-multiple b) w)))
          (λ j u.
          cut_inside 1 c σ.blocks p (packet_with σ.blocks b x) j (rw long-with u) (rw long-with long-blocks)
          ∙ ap (slot_after (landing (1 + j) c) (get_or σ.blocks (p + j) unused)) (with-block j u))

      block-done : struck c 32 ≡ false → Ready e g (writes 1 c (upward 32 start bytes 0) d) n l (set σ.blocks b (holds x))
      block-done uncut =
          ready-written e g γ d n l σ.blocks i.ready p (packet-multiple b) p-below p-place bytes long-bytes c (set σ.blocks b (holds x))
          (length-set σ.blocks b (holds x))
          (λ j w. get_or-set_other σ.blocks b j (holds x) unused (λ z. w (ap packet_of z)))
          (λ j u.
          by-eq j k
          (λ w.
          let z : p + j ≡ b = omega (arith, packet-rest b) in
          rw z (get_or-set_same σ.blocks b (holds x) unused (omega (arith, i.ready.count)))
          ∙ ap holds (sym part-own)
          ∙ ap (λ (y : ℕ). holds (part bytes (0 + 2048 * y) 2048)) (sym w))
          (λ w.
          let z : (p + j ≡ b) → ⊥ = λ v. w (omega (arith, packet-rest b)) in
          get_or-set_other σ.blocks b (p + j) (holds x) unused z ∙ old-block j u w)
          ∙ sym (after-done (get_or σ.blocks (p + j) unused) _ (landing-uncut (1 + j) 32 c uncut (omega arith) (omega arith))))

  pub sound-block : (es : List Entry) → Keeps es l → (b : ℕ) (x : List ℕ) (c : Cut) → Sound (AgainOk e g es) h σ (save_block b x c) (step e st (save_block b x c))
  unfolding step save_block_plan packet_writes AgainOk cut_in writes_in taken save_block_tests block_test spare_test block_lent mark_tests
  sound-block es kept b x c =
      sound-plan (AgainOk e g es) h σ (save_block b x c) c st _ _ _ _ (n, l, i, kept) λ go.
      let t = again-tells e d st.table _ st.held (save_block_tests e d b) go in
      let u = and-true (lent_table st.table) _ t.0.lengths in
      let below : b < g.span = rw (← γ.span-is) (ltb-true _ _ t.1.0) in
      let own-place = sym (ready-spare γ i.ready b) ∙ not-true _ t.1.1.0 in
      let long : length x ≡ 2048 = eqb-true _ _ u.1 in
      let place = ready-place γ i.ready (packet_of b) in
      let others = sym (other-mark d (locate g.start (entries l) (packet_of b)) (b % 32)) ∙ rw place at t.1.1.1.1.0 in
      let w = length-upward 32 (place_of e d (packet_of b)) (replaced d (place_of e d (packet_of b)) (b % 32) x) 0 in
      sound-carried (AgainOk e g es) h σ (save_block b x c) c st _ _ _ refl (sym w)
      (λ z. (n, l, rw place (block-cut b x c below own-place long others), i.lent, kept))
      (λ z. (n, l, record { ready = rw place (block-done b x c below own-place long others (rw w at z)); held = i.held; front = i.front; lent = i.lent }, kept))
