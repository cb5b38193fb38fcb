-- `examine::are_below` meets its contract. The loop's invariant: none of the entries so far was counted exactly if all are below. Assumes nothing.
use Rattle.std.proofs.Common.{◌≡◌, ◌≤◌, eqb, take}
use Rattle.model.specs.Vat.{all_below}
use Rattle.examine.proofs.are_below.Given as goal

abbrev pub invariant-loop-entry : goal.invariant-loop-entry
invariant-loop-entry l = (l.over ≤ l.entry-index) × (eqb l.over 0 ≡ all_below l.next (take l.entry-index l.entry-items))
