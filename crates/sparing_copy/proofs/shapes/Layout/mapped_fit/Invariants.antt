-- `sparing_copy::Layout::mapped_fit` meets its contract. The invariant: the entries passed fit, and the slots tell of them. Assumes nothing.
use Rattle.sparing_copy.specs.Layout.{geometry_in, listed}
use Rattle.sparing_copy.proofs.Slots.{Passed}
use Rattle.sparing_copy.proofs.shapes.Layout.mapped_fit.Given as goal

abbrev pub invariant-loop-i : goal.invariant-loop-i
invariant-loop-i l = Passed (geometry_in l.self) (listed l.entries) l.seen l.i
