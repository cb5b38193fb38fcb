-- `sparing_table::find_above` meets its contract: numbers two by two are the entries. Assumes nothing.
use Rattle.std.proofs.Common.{rules}
use Rattle.std.proofs.lemmas.Iterator.Search.{position_from_yields_List}
use Rattle.sparing_table.specs.Table.{above}
use Rattle.sparing_table.proofs.Table.{entries_yielded}
use Rattle.sparing_table.proofs.find_above.Goals as goal

pub returns-clause-value : goal.returns-clause-value
returns-clause-value c = position_from_yields_List (above c.args.p.0) _ _ _ c.position.ensures.ran (entries_yielded c.args.numbers.now _ c.chunks_exact.ensures.size c.chunks_exact.ensures.rest) (λ x b q k. search rules)
