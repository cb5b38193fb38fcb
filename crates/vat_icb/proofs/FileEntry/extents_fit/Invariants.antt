-- `vat_icb::FileEntry::extents_fit` meets its contract. The loop's invariant: the extents that are left, after those passed, answer for all of
-- them; `whole` says that the last one passed is a multiple of a sector, and `sum` is the bytes passed. Assumes nothing.
use Prim.Native.Nat.{ℕ, ◌+◌, ◌*◌, ◌<◌}
use mathlib.Core.Path.{◌≡◌}
use mathlib.Core.Bool.{true}
use mathlib.Core.List.{List}
use lib.ListN.{length}
use Rattle.model.specs.Disc.{disc}
use Rattle.model.specs.Vat.{extents, file_length}
use Rattle.vat_icb.specs.Extents.{extents_fit, extents_left}
use Rattle.vat_icb.proofs.FileEntry.extents_fit.Given as goal

abbrev pub invariant-loop-extent : goal.invariant-loop-extent
invariant-loop-extent l = (l.sum + 4294967296 * length (extents_left l.extent-iterator) < 1099511627776)
    × ((bytes : List ℕ) → extents_fit (disc bytes l.marks) l.s l.k.0 (file_length l.self.icb.bytes.now) l.whole l.sum (extents_left l.extent-iterator) ≡ extents_fit (disc bytes l.marks) l.s l.k.0 (file_length l.self.icb.bytes.now) true 0 (extents l.self.icb.bytes.now))
