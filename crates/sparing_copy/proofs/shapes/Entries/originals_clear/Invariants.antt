-- `sparing_copy::Entries::originals_clear` meets its contract. The invariant: the entries left answer for all. Assumes nothing.
use Rattle.std.proofs.Common.{◌≡◌, drop}
use Rattle.model.specs.Sparing.{mapped_of, originals_clear}
use Rattle.sparing_copy.specs.Layout.{listed}
use Rattle.sparing_copy.proofs.shapes.Entries.originals_clear.Given as goal

abbrev pub invariant-loop-i : goal.invariant-loop-i
invariant-loop-i l = originals_clear l.s (mapped_of (listed l.self)) (drop l.i (listed l.self)) ≡ originals_clear l.s (mapped_of (listed l.self)) (listed l.self)
