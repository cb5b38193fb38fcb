-- `disc_marks::all_recorded` meets its contract. The loop's invariant: whether each mark so far is that of a recorded sector. Assumes nothing.
use Rattle.std.proofs.Common.{◌≡◌, eqb, take}
use Rattle.std.specs.List.{list_all}
use Rattle.disc_marks.proofs.all_recorded.Given as goal

abbrev pub invariant-loop-m : goal.invariant-loop-m
invariant-loop-m l = l.all ≡ list_all (λ m. eqb m 1) (take l.m-index l.m-items)
