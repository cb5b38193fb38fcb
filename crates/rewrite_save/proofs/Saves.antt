-- Laws of a save of a block and of a packet: its lent lengths, its own lines, and what it may rely on once nothing stops it. Assumes nothing.
use Prim.Native.Nat.{ℕ, ◌+◌, ◌-◌, ◌%◌, ◌≤◌}
use mathlib.Core.Bool.{Bool, true, false, ◌&&◌}
use mathlib.Core.Path.{◌≡◌, refl, sym, ap, subst, ◌∙◌}
use mathlib.Core.List.{List}
use native.Mathlib.Omega.{arith}
use borrow.Author.Tests.{eqb-true}
use lib.ListN.{length}
use lib.Dec.{eqb}
use Rattle.std.specs.Prelude.{Ok, Err, Result}
use Rattle.refusal.specs.declared.Refusal.{Refusal}
use Rattle.refusal.specs.Verdict.{Verdict}
use Rattle.refusal.specs.Tests.{first}
use Rattle.address.specs.declared.PhysicalAddress.{PhysicalAddress}
use Rattle.model.specs.declared.Cut.{Cut}
use Rattle.model.specs.declared.Record.{Record}
use Rattle.model.specs.declared.Reply.{Reply}
use Rattle.model.specs.Disc.{Disc, first_mark, mark_tests}
use Rattle.model.specs.Writes.{writes, upward, struck}
use Rattle.model.specs.Examine.{Setting, lent_table}
use Rattle.model.specs.Rewrite.{rewritable_verdict, place_of, other_mark, save_block_tests, block_lent, packet_writes, replaced, save_block_plan, packet_tests, packet_lent, save_packet_plan}
use Rattle.model.specs.Plan.{carry}
use Rattle.model.specs.Lent.{Lent, SavesBlock, SavesPacket}
use Rattle.model.proofs.Basics.{and-true}
use Rattle.model.proofs.Marks.{others_below, others-above}
use Rattle.model.proofs.Verdicts.{unless-go, unless-stop}
use Rattle.model.proofs.Plans.{refused, cut_short, carried}
use Rattle.model.proofs.SectorsRuns.{length-upward}
use Rattle.model.proofs.SparingLaws.{packet-own}
use Rattle.sparing_current.proofs.Laws.{Common}
use Rattle.sparing_current.proofs.Held.{place-on}
use Rattle.sparing_place.specs.Placed.{Places, PlacesPacket}
use Rattle.sparing_place.proofs.Laws.{Safe, safe, going-all, placed-stop, place-stops, place-goes, place-tells}
use Rattle.sparing_place.proofs.Packets.{packet-bytes, packet-tells}
use Rattle.rewrite_save.specs.Placed.{JudgesBlock}

-- ---- the lines of a save of a block; k is what the test of its lent lengths did

module _ (x : Lent) (t : List ℕ) (held : Record) (b : ℕ) (block : List ℕ) {k : Bool} (lent : k ≡ (lent_table t && eqb (length block) 2048)) where
  abbrev e : Setting
  e = x.setting

  abbrev d : Disc
  d = x.disc

  -- what is asked with that test is asked with those lengths
  placed : {r : Result PhysicalAddress Refusal} → Places e d t k held b r → Places e d t (block_lent t block) held b r
  unfolding block_lent
  placed {r} h = subst (λ (y : Bool). Places e d t y held b r) lent h

  -- lines 1 to 8, 10 to 12 and 30
  pub block-stops : {why : Refusal} {r : Result PhysicalAddress Refusal} → Places e d t k held b (Err why) → r ≡ Err why → JudgesBlock x t held b block r
  unfolding save_block_tests
  block-stops h = placed-stop (place-stops e d t (block_lent t block) held b _ (placed h))

  -- the packet is at p
  module _ {p : PhysicalAddress} (h : Places e d t k held b (Ok p)) where
    -- what they tell
    pub block-safe : Safe e d t (block_lent t block) held b p.0
    block-safe = place-tells e d t (block_lent t block) held b (placed h)

    -- y is the verdict on the sectors before the block
    module _ {y : Verdict} (below : y ≡ first (mark_tests (first_mark d p.0 (b % 32)))) where
      -- the lines of all others
      others : first (mark_tests (other_mark d p.0 (b % 32))) ≡ rewritable_verdict e d t (block_lent t block) held (save_block_tests e d b)
      unfolding save_block_tests
      others =
          ap (λ (q : ℕ). first (mark_tests (other_mark d q (b % 32)))) h.place
          ∙ place-goes e d t (block_lent t block) held b (placed h) _

      -- one before it is not recorded
      pub block-before : {why : Refusal} {r : Result PhysicalAddress Refusal} → y ≡ Err why → r ≡ Err why → JudgesBlock x t held b block r
      block-before g = placed-stop (sym g ∙ below ∙ sym (others_below d p.0 (b % 32) (sym below ∙ g)) ∙ others)

      -- all those are, and z is the verdict on the sectors after it
      module _ (all : y ≡ Ok tt) {q : ℕ} (behind : q ≡ p.0 + (b % 32 + 1)) {z : Verdict} (above : z ≡ first (mark_tests (first_mark d q (31 - b % 32)))) where
        after : z ≡ rewritable_verdict e d t (block_lent t block) held (save_block_tests e d b)
        after =
            let n : q ≡ p.0 + b % 32 + 1 = omega (arith, behind) in
            above
            ∙ ap (λ (r : ℕ). first (mark_tests (first_mark d r (31 - b % 32)))) n
            ∙ sym (others-above d p.0 (b % 32) (sym below ∙ all))
            ∙ others

        -- one after it is not recorded
        pub block-after : {why : Refusal} {r : Result PhysicalAddress Refusal} → z ≡ Err why → r ≡ Err why → JudgesBlock x t held b block r
        block-after g = placed-stop (sym g ∙ after)

        -- all are
        pub block-fits : z ≡ Ok tt → JudgesBlock x t held b block (Ok p)
        block-fits g = record { verdict = sym g ∙ after; place = h.place }

-- ---- a save of a block

-- a packet is 32 writes
packet-struck : (c : Cut) (p : ℕ) (bytes : List ℕ) {x y : Bool} → x ≡ struck c 32 → x ≡ y → struck c (length (packet_writes p bytes)) ≡ y
unfolding packet_writes
packet-struck c p bytes h q = ap (struck c) (length-upward 32 p bytes 0) ∙ sym h ∙ q

module _ (x : Lent) (t : List ℕ) (held : Record) (b : ℕ) (block : List ℕ) (c : Cut) where
  -- a refusal leaves everything as it came
  pub block-refused : {why : Refusal} {r : Result Reply Refusal} → JudgesBlock x t held b block (Err why) → r ≡ Err why → SavesBlock x t held b block c r x.disc
  unfolding save_block_plan
  block-refused h z = rw z (refused _ _ _ _ (unless-stop _ (sym h.verdict)))

  -- the packet is at p
  module _ {p : PhysicalAddress} (h : JudgesBlock x t held b block (Ok p)) where
    -- what the save may rely on
    pub block-sure : Safe x.setting x.disc t (block_lent t block) held b p.0
    unfolding save_block_tests
    block-sure = safe x.setting x.disc t (block_lent t block) held b _ (sym h.verdict) h.place

    pub block-whole : length block ≡ 2048
    unfolding block_lent
    block-whole = eqb-true (length block) 2048 (and-true (lent_table t) _ block-sure.told.lengths).1

    plan : save_block_plan x.setting x.disc t held b block ≡ carry (packet_writes p.0 (replaced x.disc p.0 (b % 32) block)) t held
    unfolding save_block_plan
    plan =
        unless-go _ (sym h.verdict)
        ∙ ap (λ (n : ℕ). carry (packet_writes n (replaced x.disc n (b % 32) block)) t held) (sym h.place)

    -- its writes are made, and u tells whether the power failed at one
    module _ {u : Bool} (s : u ≡ struck c 32) {d : Disc} (w : d ≡ writes 1 c (packet_writes p.0 (replaced x.disc p.0 (b % 32) block)) x.disc) where
      pub block-cut : u ≡ true → SavesBlock x t held b block c (Ok Reply.Cut) d
      block-cut g = cut_short _ _ _ _ plan (packet-struck c _ _ s g) w

      pub block-done : u ≡ false → SavesBlock x t held b block c (Ok (Reply.Done held)) d
      block-done g = carried _ _ _ _ plan (packet-struck c _ _ s g) w refl refl

-- ---- a save of a packet; k is what the test of its lent lengths did

module _ (x : Lent) (t : List ℕ) (held : Record) (b : ℕ) (packet : List ℕ) (c : Cut) {k : Bool} (lent : k ≡ (lent_table t && eqb (length packet) 65536)) where
  -- what is asked with that test is asked with those lengths
  placed_packet : {r : Result PhysicalAddress Refusal} → PlacesPacket x.setting x.disc t k held b r → PlacesPacket x.setting x.disc t (packet_lent t packet) held b r
  unfolding packet_lent
  placed_packet {r} h = subst (λ (y : Bool). PlacesPacket x.setting x.disc t y held b r) lent h

  -- a refusal leaves everything as it came
  pub packet-refused : {why : Refusal} {r : Result Reply Refusal} → PlacesPacket x.setting x.disc t k held b (Err why) → r ≡ Err why → SavesPacket x t held b packet c r x.disc
  unfolding save_packet_plan
  packet-refused h z = rw z (refused _ _ _ _ (unless-stop _ (sym (placed_packet h).verdict)))

  -- the packet is at p
  module _ {p : PhysicalAddress} (h : PlacesPacket x.setting x.disc t k held b (Ok p)) where
    goes_on : Common x.setting x.disc t (packet_lent t packet) held × (first (packet_tests x.setting x.disc b) ≡ Ok tt)
    goes_on = going-all x.setting x.disc t (packet_lent t packet) held (packet_tests x.setting x.disc b) (sym (placed_packet h).verdict)

    -- what the save may rely on
    pub packet-told : Common x.setting x.disc t (packet_lent t packet) held
    packet-told = goes_on.0

    pub packet-whole : length packet ≡ 65536
    packet-whole = packet-bytes t packet packet-told.lengths

    pub packet-on : p.0 + 32 ≤ length x.disc.marks
    packet-on =
        let told = packet-tells x.setting x.disc b goes_on.1 in
        let own = ap (place_of x.setting x.disc) (packet-own b told.start) in
        omega (arith, h.place, own, place-on packet-told b told.low)

    plan_is : save_packet_plan x.setting x.disc t held b packet ≡ carry (packet_writes p.0 packet) t held
    unfolding save_packet_plan
    plan_is = unless-go _ (sym (placed_packet h).verdict) ∙ ap (λ (n : ℕ). carry (packet_writes n packet) t held) (sym h.place)

    -- its writes are made, and u tells whether the power failed at one
    module _ {u : Bool} (s : u ≡ struck c 32) {d : Disc} (w : d ≡ writes 1 c (upward 32 p.0 packet 0) x.disc) where
      written : d ≡ writes 1 c (packet_writes p.0 packet) x.disc
      unfolding packet_writes
      written = w

      pub packet-cut : u ≡ true → SavesPacket x t held b packet c (Ok Reply.Cut) d
      packet-cut g = cut_short _ _ _ _ plan_is (packet-struck c _ _ s g) written

      pub packet-done : u ≡ false → SavesPacket x t held b packet c (Ok (Reply.Done held)) d
      packet-done g = carried _ _ _ _ plan_is (packet-struck c _ _ s g) written refl refl
