-- `examine::are_outside` meets its contract. The loop's invariant: the tables so far are outside. Assumes nothing.
use Rattle.std.proofs.Common.{◌≡◌, true, [], take}
use Rattle.model.specs.Sparing.{ground_of}
use Rattle.model.specs.Examine.{all_outside}
use Rattle.examine.proofs.are_outside.Given as goal

abbrev pub invariant-loop-table : goal.invariant-loop-table
invariant-loop-table l = all_outside (ground_of l.s l.l l.sectors [] 0) (take l.table-index l.table-items) ≡ true
