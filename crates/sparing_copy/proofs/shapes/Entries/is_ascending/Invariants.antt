-- `sparing_copy::Entries::is_ascending` meets its contract. The invariant: the entries from the one before on answer for all. Assumes nothing.
use Rattle.std.proofs.Common.{◌≡◌, ◌-◌, drop}
use Rattle.model.specs.Sparing.{ascending}
use Rattle.sparing_copy.specs.Layout.{listed}
use Rattle.sparing_copy.proofs.shapes.Entries.is_ascending.Given as goal

abbrev pub invariant-loop-i : goal.invariant-loop-i
invariant-loop-i l = ascending (drop (l.i - 1) (listed l.self)) ≡ ascending (listed l.self)
