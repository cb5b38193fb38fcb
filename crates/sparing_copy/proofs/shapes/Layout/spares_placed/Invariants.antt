-- `sparing_copy::Layout::spares_placed` meets its contract. The invariant: the spares left answer for all. Assumes nothing.
use Rattle.std.proofs.Common.{◌≡◌, drop}
use Rattle.sparing_copy.specs.Layout.{geometry_in}
use Rattle.model.specs.Both.{spare_entries}
use Rattle.model.specs.Sparing.{mapped_fit}
use Rattle.sparing_copy.proofs.shapes.Layout.spares_placed.Given as goal

abbrev pub invariant-loop-i : goal.invariant-loop-i
invariant-loop-i l = mapped_fit (geometry_in l.self) (drop l.i (spare_entries l.spares)) ≡ mapped_fit (geometry_in l.self) (spare_entries l.spares)
