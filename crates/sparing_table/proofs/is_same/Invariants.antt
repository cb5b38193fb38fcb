-- `sparing_table::is_same` meets its contract. The invariant: the numbers passed are the same. Assumes nothing.
use Rattle.std.proofs.Common.{◌≡◌, take}
use Rattle.fields.specs.Number.{words}
use Rattle.sparing_table.proofs.is_same.Given as goal

abbrev pub invariant-loop-i : goal.invariant-loop-i
invariant-loop-i l = take l.i (take l.n l.table) ≡ take l.i (words l.b 56 l.n)
