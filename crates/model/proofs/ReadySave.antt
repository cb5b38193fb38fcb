-- Saving a block or a packet on a rewritable disc keeps the invariant, wherever it is cut. Assumes nothing.
use Prim.Native.Nat.{ℕ, ◌+◌, ◌-◌, ◌*◌, ◌%◌, ◌≤◌, ◌<◌}
use mathlib.Core.Bool.{false}
use mathlib.Core.Logic.{◌≢◌, ◌⊎◌, inl, inr}
use mathlib.Core.Path.{◌≡◌, sym, ap, ◌∙◌}
use mathlib.Core.List.{List}
use native.Mathlib.Omega.{arith}
use lib.ListN.{length, get_or}
use Rattle.fields.specs.Bytes.{part}
use Rattle.model.specs.declared.Cut.{Cut}
use Rattle.model.specs.Disc.{Disc, sector, mark}
use Rattle.model.specs.Writes.{landing, landed, writes, upward}
use Rattle.model.specs.Sparing.{Geometry, entries, table_at, packet_of, of_spare, locate}
use Rattle.model.specs.Examine.{Setting, geometry}
use Rattle.model.specs.Store.{Slot, holds, unused, slot_at, slot_after}
use Rattle.model.proofs.Basics.{by-lt, by-eq, cond-elim}
use Rattle.model.proofs.Sectors.{Made, Placed, shapely-made, writes-marks-length, writes-shapely, writes-inside, writes-other}
use Rattle.model.proofs.SectorsRuns.{placed-upward, elsewhere-upward, upward-sector, upward-mark}
use Rattle.model.proofs.SparingLaws.{In, packet-rest, packet-inside, packet-start, packet-own, spare-packet, locate-on, locate-apart, locate-packet, locate-not-table, SameAt, counts-agree, sequence-agree, Settled}
use Rattle.model.proofs.Ground.{Ground, geometry-same}
use Rattle.model.proofs.Ready.{Ready, ready-fits, same_place, same-spare}
use Rattle.model.proofs.Slots.{slot_same, slot-landed}

-- a number is in a run of 32, or outside it
pub run-cases {ℓ} : {P : Type ℓ} (x q : ℕ) → ((i : ℕ) → i < 32 → x ≡ q + i → P) → ((x < q) ⊎ (q + 32 ≤ x) → P) → P
run-cases x q f g =
    by-lt x q (λ a. g (inl a)) λ a.
    by-lt x (q + 32) (λ b. f (x - q) (omega arith) (omega arith)) λ b. g (inr b)

-- copies that no write touched are settled as before
pub settled_same : (d' d : Disc) (g : Geometry) (n : ℕ) (l : List ℕ) → SameAt d' d g.tables → Settled d g n l → Settled d' g n l
unfolding table_at
settled_same d' d g n l a s =
    record {
      one = s.one;
      table = s.table;
      good = counts-agree d' d g a s.one s.table ∙ s.good;
      newest = sequence-agree d' d g a s.one s.table ∙ s.newest;
      below = λ t i h. rw (sequence-agree d' d g a t i) (s.below t i (sym (counts-agree d' d g a t i) ∙ h));
      alike = λ t i h q.
          ap Rattle.model.specs.Sparing.table_in (a.sectors t i)
          ∙ s.alike t i (sym (counts-agree d' d g a t i) ∙ h) (sym (sequence-agree d' d g a t i) ∙ q);
    }

-- the packet of p
module _ (e : Setting) (g : Geometry) (γ : Ground e g) (d : Disc) (n : ℕ) (l : List ℕ) (bs : List Slot) (r : Ready e g d n l bs)
    (p : ℕ) (multiple : p % 32 ≡ 0) (below : p < g.span) where
  -- the sector at which it begins
  abbrev q : ℕ
  q = locate g.start (entries l) p

  sectors : length d.marks ≡ g.sectors
  unfolding geometry
  sectors = ap (λ (y : Geometry). y.sectors) r.geo

  pub in-packet : (i : ℕ) → i < 32 → p + i < g.span
  in-packet i h = omega (arith, packet-inside p g.span γ.span-32 below, packet-rest p)

  pub at_place : (i : ℕ) → i < 32 → locate g.start (entries l) (p + i) ≡ q + i
  at_place i h = locate-packet g (entries l) (ready-fits r) γ.start-32 γ.span-32 p i multiple h

  -- where it belongs to no spare, none of its blocks does
  pub in_place_law : of_spare g.start (entries l) p ≡ false → (i : ℕ) → i < 32 → of_spare g.start (entries l) (p + i) ≡ false
  in_place_law own-place i h = spare-packet g.start (entries l) (p + i) p (packet-start p i multiple h ∙ sym (packet-own p multiple)) ∙ own-place

  pub on-disc : q + 32 ≤ length d.marks
  on-disc =
      omega (arith, sectors, at_place 31 (omega arith), locate-on g (entries l) (ready-fits r) γ.start-32 γ.span-32 (p + 31) (in-packet 31 (omega arith)) γ.inside)

  made : Made d
  made = shapely-made d r.shape

  -- 32 writes upward to it
  module _ (own-place : of_spare g.start (entries l) p ≡ false) (x : List ℕ) (long : length x ≡ 65536) (c : Cut) where
    -- the disc after them
    abbrev d' : Disc
    d' = writes 1 c (upward 32 q x 0) d

    placed : Placed (length d.marks) (upward 32 q x 0)
    placed = placed-upward (length d.marks) 32 q x 0 on-disc (omega arith)

    -- a sector outside the packet is as it was
    kept : (y : ℕ) → (y < q) ⊎ (q + 32 ≤ y) → (sector d' y ≡ sector d y) × (mark d' y ≡ mark d y)
    kept y h = writes-other 1 c (upward 32 q x 0) d y placed made (elsewhere-upward y 32 q x 0 h)

    -- a sector of it is as its write landed
    slot-written : (i : ℕ) → i < 32 → slot_at d' (q + i) ≡ slot_after (landing (1 + i) c) (slot_at d (q + i)) (holds (part x (0 + 2048 * i) 2048))
    slot-written i h =
        slot_same d' (landed (landing (1 + i) c) (q + i) (part x (0 + 2048 * i) 2048) d) (q + i) (q + i)
        (upward-sector 32 1 c q x 0 d i h made on-disc (omega arith))
        (upward-mark 32 1 c q x 0 d i h on-disc)
        ∙ slot-landed (landing (1 + i) c) (q + i) (part x (0 + 2048 * i) 2048) d
        (Rattle.fields.proofs.Laws.length_part x (0 + 2048 * i) 2048 (omega arith)) (omega (arith, on-disc)) made

    -- the tables are as they were
    same_tables : SameAt d' d g.tables
    same_tables =
        record { sectors = λ t i. (kept t (away t i)).0; marks = λ t i. (kept t (away t i)).1 }
      where
        away : (t : ℕ) → In t g.tables → (t < q) ⊎ (q + 32 ≤ t)
        away t i =
            run-cases t q
            (λ j h w. absurd (locate-not-table g (entries l) (ready-fits r) γ.start-32 γ.span-32 (p + j) t 0 (in-packet j h) γ.outside i (omega arith) (at_place j h ∙ sym w ∙ (omega arith))))
            (λ h. h)

    -- blocks that say so are those of the disc after the writes
    pub ready-written : (bs' : List Slot) → length bs' ≡ length bs
        → ((b : ℕ) → packet_of b ≢ p → get_or bs' b unused ≡ get_or bs b unused)
        → ((i : ℕ) → i < 32 → get_or bs' (p + i) unused ≡ slot_after (landing (1 + i) c) (get_or bs (p + i) unused) (holds (part x (0 + 2048 * i) 2048)))
        → Ready e g d' n l bs'
    ready-written bs' ln other own =
        record {
          shape = writes-shapely 1 c (upward 32 q x 0) d placed r.shape;
          within = sym (writes-inside 1 c (upward 32 q x 0) d e.start e.span) ∙ r.within;
          geo = geometry-same e d d' (writes-marks-length 1 c (upward 32 q x 0) d) ∙ r.geo;
          settled = settled_same d' d g n l same_tables r.settled;
          small = r.small;
          even = r.even;
          count = ln ∙ r.count;
          same = λ b h.
              by-eq (packet_of b) p
              (λ w.
              let i : ℕ = b % 32 in
              let bi : b ≡ p + i = omega (arith, packet-rest b) in
              rw (bi, in_place_law own-place i (omega arith))
              (own i (omega arith)
              ∙ ap (λ (y : Slot). slot_after (landing (1 + i) c) y (holds (part x (0 + 2048 * i) 2048)))
              (same_place r (p + i) (omega arith) (in_place_law own-place i (omega arith)) ∙ ap (slot_at d) (at_place i (omega arith)))
              ∙ sym (slot-written i (omega arith))
              ∙ ap (slot_at d') (sym (at_place i (omega arith)))))
              (λ w.
              other b w
              ∙ cond-elim (λ (z : Slot). get_or bs b unused ≡ z) (of_spare g.start (entries l) b)
              (λ u. same-spare r b h u)
              (λ u.
              let y : ℕ = locate g.start (entries l) b in
              let k = kept y (run-cases y q
              (λ j a v. absurd (locate-apart g (entries l) (ready-fits r) γ.start-32 γ.span-32 b (p + j) u (in_place_law own-place j a)
              (λ z. w (ap packet_of z ∙ packet-start p j multiple a)) (v ∙ sym (at_place j a))))
              (λ a. a)) in
              same_place r b h u ∙ sym (slot_same d' d y y k.0 k.1)));
        }
