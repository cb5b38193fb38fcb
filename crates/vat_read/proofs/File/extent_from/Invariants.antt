-- `vat_read::File::extent_from` meets its contract. The loop's invariant: the bytes stand where those of the extents that are left stand, from
-- `left` on. Assumes nothing.
use Prim.Native.Nat.{◌*◌}
use mathlib.Core.Path.{◌≡◌}
use mathlib.Core.Bool.{true}
use Rattle.address.specs.Translation.{most_sectors}
use Rattle.model.specs.Vat.{extents}
use Rattle.vat_icb.specs.Extents.{extents_left}
use Rattle.vat_read.specs.File.{position_of, left_of, on_disc}
use Rattle.vat_read.proofs.File.extent_from.Given as goal

abbrev pub invariant-loop-extent : goal.invariant-loop-extent
invariant-loop-extent l = (position_of l.self.s (extents_left l.extent-iterator) l.left ≡ position_of l.self.s (extents l.self.entry.icb.bytes.now) l.o)
    × (left_of (extents_left l.extent-iterator) l.left ≡ left_of (extents l.self.entry.icb.bytes.now) l.o)
    × (on_disc (2048 * most_sectors) l.self.s (extents_left l.extent-iterator) ≡ true)
