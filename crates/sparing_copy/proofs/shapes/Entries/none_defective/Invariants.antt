-- `sparing_copy::Entries::none_defective` meets its contract. The invariant: what was found and the entries left answer together for all. Assumes nothing.
use Rattle.std.proofs.Common.{◌≡◌, ◌&&◌, drop}
use Rattle.model.specs.Sparing.{none_defective}
use Rattle.sparing_copy.specs.Layout.{listed}
use Rattle.sparing_copy.proofs.shapes.Entries.none_defective.Given as goal

abbrev pub invariant-loop-i : goal.invariant-loop-i
invariant-loop-i l = l.none && none_defective (drop l.i (listed l.self)) ≡ none_defective (listed l.self)
