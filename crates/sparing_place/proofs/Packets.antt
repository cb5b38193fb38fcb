-- Laws of a call that names a packet: the lent lengths, line 12, which asks that block b is a packet's start, and line 30. Assumes nothing.
use Prim.Native.Nat.{ℕ, ◌%◌, ◌<◌}
use mathlib.Core.Bool.{Bool, true, false, not, ◌&&◌}
use mathlib.Core.Path.{◌≡◌, sym, ap, ap₂}
use mathlib.Core.List.{List, [], ◌∷◌}
use borrow.Author.Tests.{ltb-true, eqb-true, ne_eqb, not-true}
use lib.ListN.{length}
use lib.Dec.{eqb, ltb}
use Rattle.refusal.specs.declared.Refusal.TheVariants.{NumberOutside, BelongsToSpare}
use Rattle.std.specs.Prelude.{Ok, Err}
use Rattle.refusal.specs.Tests.{test, first}
use Rattle.refusal.proofs.Laws.{stops, passed}
use Rattle.address.specs.declared.LogicalAddress.{LogicalAddress}
use Rattle.address.specs.declared.Span.{Span}
use Rattle.model.specs.Sparing.{Entry, of_spare}
use Rattle.model.specs.Disc.{Disc}
use Rattle.model.specs.Examine.{Setting, lent_table}
use Rattle.model.specs.Rewrite.{entries_on, of_spare_on, block_test, spare_test, packet_verdict, packet_tests, packet_lent}
use Rattle.model.proofs.Basics.{and-true, and-false-left}

-- ---- the lent lengths

-- with those of a packet
pub packet-lent : (t packet : List ℕ) {x : Bool} → x ≡ (lent_table t && eqb (length packet) 65536) → x ≡ packet_lent t packet
unfolding packet_lent
packet-lent t packet h = h

-- a packet's bytes
pub packet-bytes : (t packet : List ℕ) → packet_lent t packet ≡ true → length packet ≡ 65536
unfolding packet_lent
packet-bytes t packet h = eqb-true (length packet) 65536 (and-true (lent_table t) (eqb (length packet) 65536) h).1

-- ---- lines 12 and 30

module _ (e : Setting) (d : Disc) where
  -- b is not a packet's start
  pub packet-off : (b : ℕ) → (b % 32 ≡ 0 → ⊥) → Err NumberOutside ≡ first (packet_tests e d b)
  unfolding packet_tests
  packet-off b h = stops _ (and-false-left _ (ne_eqb (b % 32) 0 h))

  -- the lines of a block, by the S and L and the entries of the disc
  pub as_lines : (b : LogicalAddress) {s : Span} {es : List Entry} → e.start ≡ s.start → e.span ≡ s.length → entries_on e d ≡ es → packet_verdict s es b ≡ first (block_test e b.0 ∷ spare_test e d b.0 ∷ [])
  unfolding block_test spare_test of_spare_on packet_verdict
  as_lines b start span lent =
      ap₂ (λ (m n : Bool). first (test m NumberOutside ∷ test (not n) BelongsToSpare ∷ []))
      (ap (ltb b.0) (sym span))
      (ap₂ (λ (s : ℕ) (es : List Entry). of_spare s es b.0) (sym start) (sym lent))

  -- it is one, and the lines are those of a block
  pub packet-as-block : (b : ℕ) → b % 32 ≡ 0 → first (block_test e b ∷ spare_test e d b ∷ []) ≡ first (packet_tests e d b)
  unfolding packet_tests block_test
  packet-as-block b m = rw m

  -- what the lines tell
  pub record PacketTold (b : ℕ) : Type 0 where
    pub start : b % 32 ≡ 0
    pub low : b < e.span
    pub place : of_spare_on e d b ≡ false

  pub packet-tells : (b : ℕ) → first (packet_tests e d b) ≡ Ok tt → PacketTold b
  unfolding packet_tests spare_test
  packet-tells b h =
      let a = passed (packet_tests e d b) h in
      let p = and-true (eqb (b % 32) 0) (ltb b e.span) a.0 in
      record { start = eqb-true (b % 32) 0 p.0; low = ltb-true b e.span p.1; place = not-true _ a.1.0 }
