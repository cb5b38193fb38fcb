-- `sparing_table::find_entry` meets its contract: numbers two by two are the entries. Assumes nothing.
use Rattle.std.proofs.Common.{rules}
use Rattle.std.proofs.lemmas.Iterator.Search.{position_from_yields_List}
use Rattle.sparing_table.specs.Table.{has}
use Rattle.sparing_table.proofs.Table.{entries_yielded}
use Rattle.sparing_table.proofs.find_entry.Goals as goal

pub returns-clause-value : goal.returns-clause-value
returns-clause-value c = position_from_yields_List (has c.args.original) _ _ _ c.position.ensures.ran (entries_yielded c.args.numbers.now _ c.chunks_exact.ensures.size c.chunks_exact.ensures.rest) (λ x b q k. search rules)
