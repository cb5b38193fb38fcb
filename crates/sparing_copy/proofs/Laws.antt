-- The laws of sparing tables that others cite, and what a layout that was examined shows. Assumes nothing.
use Rattle.std.proofs.Common.{◌≡◌, ℕ, zero, suc, ◌<◌, ◌≤◌, true, List, [], ◌∷◌, length, get_or, take, sym, arith, length-take, get_or-take}
use Rattle.model.specs.Sparing.{Geometry, outside}
use Rattle.model.specs.Examine.{all_outside}
use Rattle.model.proofs.Basics.{and-true}
use Rattle.model.proofs.SparingLaws.{outside-means}
use Rattle.sparing_copy.specs.declared.shapes.Layout.{Layout}
use Rattle.sparing_copy.specs.Layout.{geometry_in, TablesOn}
-- numbers of 4 bytes in a row, and the bytes that they are read from
pub use Rattle.sparing_copy.proofs.Words.{get_or-words, words-part, same-words}
-- the entries of a list of numbers, of a sector and of a list of spares by their number
pub use Rattle.sparing_copy.proofs.Entries.{entries-drop, entries-step, entries-end, sector-step, sector-end, sector-table, length-spares, spare-step, spare-end}

-- ---- a layout

-- packets on the disc begin at sectors of it
pub all-on : (g : Geometry) (ts : List ℕ) → all_outside g ts ≡ true → (i : ℕ) → i < length ts → get_or ts i 0 < g.sectors
unfolding all_outside
all-on g [] h i l = absurd (omega arith)
all-on g (t ∷ ts) h zero l = omega (arith, (outside-means g t (and-true (outside g t) (all_outside g ts) h).0).on)
all-on g (t ∷ ts) h (suc i) l = all-on g ts (and-true (outside g t) (all_outside g ts) h).1 i (omega arith)

-- tables whose packets are on the disc are sectors of it
pub tables-on : (x : Layout) → x.count ≤ length x.volume.tables → all_outside (geometry_in x) (geometry_in x).tables ≡ true → TablesOn x
tables-on x c h i l =
    let k : i < length (take x.count x.volume.tables) = omega (arith, length-take x.count x.volume.tables) in
    rw (sym (get_or-take x.count x.volume.tables i 0 l)) (all-on (geometry_in x) (geometry_in x).tables h i k)
