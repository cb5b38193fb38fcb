-- Laws of the record and of the lent table on a rewritable disc, and of where a packet is: what the common tests tell of them. Assumes nothing.
use Prim.Native.Nat.{ℕ, ◌+◌, ◌*◌, ◌%◌, ◌≤◌, ◌<◌}
use mathlib.Core.Bool.{Bool, not}
use mathlib.Core.Path.{◌≡◌, ap, ap₂, ◌∙◌}
use mathlib.Core.List.{List}
use native.Mathlib.Omega.{arith}
use lib.ListN.{length, take}
use Rattle.maps.specs.Kinds.{absent}
use Rattle.model.specs.declared.Record.{Record}
use Rattle.model.specs.Disc.{Disc}
use Rattle.model.specs.Sparing.{Geometry, Entry, entries, mapped_of, packet_of, of_spare, locate}
use Rattle.model.specs.Examine.{Setting, geometry}
use Rattle.model.specs.Rewrite.{entries_on, sequence_on, count_on, place_of, of_spare_on}
use Rattle.model.proofs.SparingLaws.{packet-multiple, packet-below, packet-inside, locate-on, locate-packet}
use Rattle.sparing_current.proofs.Laws.{Common}
use Rattle.sparing_current.specs.Held.{count_held, sequence_held, entries_lent}

-- ---- the record and the lent table

-- where the packet of a block, which begins at p, is read, by the entries of the lent table
pub place_found : (s b : ℕ) (t : List ℕ) (held : Record) {r p a : ℕ} → r ≡ count_held held → p ≡ packet_of b → a ≡ locate s (entries (take (2 * r) t)) p → a ≡ locate s (entries_lent t held) (packet_of b)
unfolding entries_lent
place_found s b t held q w f = f ∙ ap₂ (λ (n k : ℕ). locate s (entries (take (2 * n) t)) k) q w

-- whether it belongs to a spare, by them
pub spare-found : (s b : ℕ) (t : List ℕ) (held : Record) {r p m : ℕ} {u : Bool} → r ≡ count_held held → p ≡ packet_of b → m ≡ s + p → u ≡ absent m (mapped_of (entries (take (2 * r) t)))
    → not u ≡ of_spare s (entries_lent t held) b
unfolding entries_lent of_spare
spare-found s b t held q w p f =
    ap not (f ∙ ap₂ (λ (n k : ℕ). absent k (mapped_of (entries (take (2 * n) t)))) q (p ∙ ap (λ (k : ℕ). s + k) w))

-- what is asked of a packet's start
pub start-asks : (s b : ℕ) {p : ℕ} → p ≡ packet_of b → s + b < 4294967296 → (p % 32 ≡ 0) × (s + p < 4294967296)
start-asks s b q h = (omega (arith, packet-multiple b), omega (arith, packet-below b))

-- ---- what the common tests tell of them

module _ {e : Setting} {d : Disc} {t : List ℕ} {lent : Bool} {held : Record} (h : Common e d t lent held) where
  -- R
  pub count_held_law : count_held held ≡ count_on e d
  unfolding count_held
  count_held_law = ap count_held h.handed

  -- the sequence
  pub sequence-held : sequence_held held ≡ sequence_on e d
  unfolding sequence_held
  sequence-held = ap sequence_held h.handed

  -- the lent table has room for its entries
  pub room-held : 2 * count_held held ≤ length t
  room-held = omega (arith, h.room, count_held_law)

  -- and they are those of the current table
  pub entries-lent : entries_lent t held ≡ entries_on e d
  unfolding entries_lent entries_on
  entries-lent = ap (λ (n : ℕ). entries (take (2 * n) t)) count_held_law ∙ ap entries h.table

  -- ---- and of where a packet is

  -- where the packet of a block is read
  pub place-lent : (b : ℕ) → locate e.start (entries_lent t held) (packet_of b) ≡ place_of e d (packet_of b)
  unfolding place_of
  place-lent b = ap (λ (es : List Entry). locate e.start es (packet_of b)) entries-lent

  -- whether a block belongs to a spare
  pub spare-lent : (b : ℕ) → of_spare e.start (entries_lent t held) b ≡ of_spare_on e d b
  unfolding of_spare_on
  spare-lent b = ap (λ (es : List Entry). of_spare e.start es b) entries-lent

  -- its sectors are on the disc
  pub place-on : (b : ℕ) → b < e.span → place_of e d (packet_of b) + 32 ≤ length d.marks
  unfolding place_of geometry
  place-on b l =
      let g : Geometry = geometry e d in
      let p : packet_of b + 32 ≤ e.span = packet-inside b e.span h.span-32 l in
      let last : locate e.start (entries_on e d) (packet_of b + 31) < length d.marks =
      locate-on g (entries_on e d) h.fits h.start-32 h.span-32 (packet_of b + 31) (omega (arith, p)) h.span in
      let step : locate e.start (entries_on e d) (packet_of b + 31) ≡ locate e.start (entries_on e d) (packet_of b) + 31 =
      locate-packet g (entries_on e d) h.fits h.start-32 h.span-32 (packet_of b) 31 (packet-multiple b) (omega arith) in
      omega (arith, last, step)

  -- a block's number added to S is small
  pub sum-small : (b : ℕ) → b < e.span → e.start + b < 4294967296
  sum-small b l = omega (arith, h.span, h.few, l)
