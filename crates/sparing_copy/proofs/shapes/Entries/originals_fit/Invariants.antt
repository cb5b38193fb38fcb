-- `sparing_copy::Entries::originals_fit` meets its contract. The invariant: the entries left answer for all. Assumes nothing.
use Rattle.std.proofs.Common.{◌≡◌, drop}
use Rattle.model.specs.Sparing.{originals_fit}
use Rattle.sparing_copy.specs.Layout.{listed}
use Rattle.sparing_copy.proofs.shapes.Entries.originals_fit.Given as goal

abbrev pub invariant-loop-i : goal.invariant-loop-i
invariant-loop-i l = originals_fit l.span (drop l.i (listed l.self)) ≡ originals_fit l.span (listed l.self)
