-- Laws of reading on a rewritable disc, one for each way on or out. Assumes nothing.
use Prim.Native.Nat.{ℕ, ◌+◌, ◌*◌, ◌%◌, ◌≤◌, ◌<◌}
use mathlib.Core.Bool.{Bool, ◌&&◌}
use mathlib.Core.Path.{◌≡◌, sym, ap, subst, ◌∙◌}
use mathlib.Core.List.{List}
use native.Mathlib.Omega.{arith}
use borrow.Author.Tests.{eqb-true}
use lib.Dec.{eqb}
use lib.ListN.{length}
use Rattle.refusal.specs.declared.Refusal.{Refusal}
use Rattle.refusal.specs.Verdict.{Verdict}
use Rattle.std.specs.Prelude.{Ok, Err, Result}
use Rattle.refusal.specs.Tests.{first}
use Rattle.model.specs.declared.Record.{Record}
use Rattle.model.specs.Disc.{Disc, sector, mark, mark_tests}
use Rattle.model.specs.Sparing.{packet_of, locate}
use Rattle.model.specs.Examine.{Setting, geometry, lent_table}
use Rattle.model.specs.Rewrite.{entries_on, place_of}
use Rattle.model.specs.Both.{read_lent, block_by}
use Rattle.model.proofs.Basics.{and-true}
use Rattle.model.proofs.Sectors.{length-sector}
use Rattle.model.proofs.SparingLaws.{packet-multiple, packet-rest, locate-packet}
use Rattle.sparing_current.proofs.Laws.{Common}
use Rattle.sparing_place.specs.Placed.{Places}
use Rattle.address.specs.declared.PhysicalAddress.{PhysicalAddress}
use Rattle.sparing_place.proofs.Laws.{Safe, place-stops, place-goes, place-tells}
use Rattle.rewrite_open.specs.Calls.{read_block_verdict, reading_block, read_block_bytes}

-- ---- where a block is

-- in the run of its packet
block-place : {e : Setting} {d : Disc} {t : List ℕ} {lent : Bool} {held : Record} → Common e d t lent held → (b : ℕ) → place_of e d (packet_of b) + b % 32 ≡ place_of e d b
unfolding place_of geometry
block-place {e} {d} told b =
    sym (locate-packet (geometry e d) (entries_on e d) told.fits told.start-32 told.span-32 (packet_of b) (b % 32) (packet-multiple b) (omega arith))
    ∙ ap (locate e.start (entries_on e d)) (sym (packet-rest b))

-- ---- reading

module _ (e : Setting) (d : Disc) (t : List ℕ) (held : Record) (b : ℕ) (out : List ℕ) where
  -- a refusal leaves the lent bytes as they came
  read-refused : {why : Refusal} {r : Result (Unit {0}) Refusal} → read_block_verdict e d t held b out ≡ Err why → r ≡ Err why → (r ≡ reading_block e d t held b out) × (out ≡ read_block_bytes e d t held b out)
  unfolding reading_block read_block_bytes block_by
  read-refused h z = (z ∙ sym h, sym (ap (λ (w : Verdict). block_by w (sector d (place_of e d b)) out) h))

  -- k says whether the lent slices have their lengths
  module _ {k : Bool} (q : k ≡ (lent_table t && eqb (length out) 2048)) where
    -- what is asked with the test of the lent lengths, k, is asked with those
    placed : {r : Result PhysicalAddress Refusal} → Places e d t k held b r → Places e d t (read_lent t out) held b r
    unfolding read_lent
    placed {r} h = subst (λ (x : Bool). Places e d t x held b r) q h

    -- lines 1 to 8, 10 to 12 and 30
    pub read-stopped : {why : Refusal} {r : Result (Unit {0}) Refusal} → Places e d t k held b (Err why) → r ≡ Err why → (r ≡ reading_block e d t held b out) × (out ≡ read_block_bytes e d t held b out)
    unfolding read_block_verdict
    read-stopped h = read-refused (sym (place-stops e d t (read_lent t out) held b _ (placed h)))

    -- n is the sector of the packet
    module _ {n : PhysicalAddress} (h : Places e d t k held b (Ok n)) where
      -- what they tell
      pub read_found : Safe e d t (read_lent t out) held b n.0
      read_found = place-tells e d t (read_lent t out) held b (placed h)

      -- a block's bytes are lent
      pub read-room : length out ≡ 2048
      unfolding read_lent
      read-room = eqb-true (length out) 2048 (and-true (lent_table t) _ read_found.told.lengths).1

      -- p is the block's own sector
      module _ {p : ℕ} (up : p ≡ n.0 + b % 32) where
        -- it is one of the disc
        pub read-place : (p < length d.marks) × (2048 * p + 2048 ≤ length d.bytes)
        read-place = (omega (arith, up, read_found.on), omega (arith, up, read_found.on, read_found.told.shape))

        pub read-sector : length (sector d p) ≡ 2048
        read-sector = length-sector d p read-place.0 (record { sized = read_found.told.shape })

        at : p ≡ place_of e d b
        at = up ∙ ap (λ (m : ℕ). m + b % 32) read_found.place ∙ block-place read_found.told b

        -- y is the verdict of lines 25 and 14 on it
        module _ {y : Verdict} (m : y ≡ first (mark_tests (mark d p))) where
          marked : read_block_verdict e d t held b out ≡ y
          unfolding read_block_verdict
          marked =
              sym (place-goes e d t (read_lent t out) held b (placed h) (mark_tests (mark d (place_of e d b))))
              ∙ ap (λ (i : ℕ). first (mark_tests (mark d i))) (sym at)
              ∙ sym m

          -- lines 25 and 14
          pub read-unrecorded : {why : Refusal} {r : Result (Unit {0}) Refusal} → y ≡ Err why → r ≡ Err why → (r ≡ reading_block e d t held b out) × (out ≡ read_block_bytes e d t held b out)
          read-unrecorded s = read-refused (marked ∙ s)

          -- none of the lines, and the block is given
          pub read-given : y ≡ Ok tt → {u : List ℕ} → u ≡ sector d p → ((Ok tt) ≡ reading_block e d t held b out) × (u ≡ read_block_bytes e d t held b out)
          unfolding reading_block read_block_bytes block_by
          read-given s is =
              let all = marked ∙ s in
              (sym all, is ∙ ap (sector d) at ∙ sym (ap (λ (v : Verdict). block_by v (sector d (place_of e d b)) out) all))
