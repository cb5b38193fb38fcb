-- `sparing_table::fill_table` meets its contract. The invariant: the numbers passed are put in. Assumes nothing.
use Rattle.fields.proofs.Laws.{Copying}
use Rattle.fields.specs.Number.{words}
use Rattle.sparing_table.proofs.fill_table.Given as goal

abbrev pub invariant-loop-k : goal.invariant-loop-k
invariant-loop-k l = Copying l.initial.table 0 (words l.b 56 l.n) l.table l.k
