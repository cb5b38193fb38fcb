-- `maps::tables_in_range` meets its contract, test by test. Assumes nothing.
use mathlib.Core.Path.{refl}
use borrow.Author.Tests.{le-leb, lt-leb}
use Rattle.maps.specs.Kinds.{tables_in_range}
use Rattle.fields.proofs.Tests.{fails, holds}
use Rattle.maps.proofs.tables_in_range.Goals as goal

pub returns-then-tables-lt-LEAST_TABLES : goal.returns-then-tables-lt-LEAST_TABLES
unfolding tables_in_range
returns-then-tables-lt-LEAST_TABLES c = fails _ (lt-leb _ _ c.if-tables-lt-LEAST_TABLES.true)

pub returns-then-tables-gt-MOST_TABLES : goal.returns-then-tables-gt-MOST_TABLES
unfolding tables_in_range
returns-then-tables-gt-MOST_TABLES c = holds (le-leb _ _ c.if-tables-lt-LEAST_TABLES.false) (fails _ (lt-leb _ _ c.if-tables-gt-MOST_TABLES.true))

pub returns-then-size-lt-LEAST_SIZE : goal.returns-then-size-lt-LEAST_SIZE
unfolding tables_in_range
returns-then-size-lt-LEAST_SIZE c = holds (le-leb _ _ c.if-tables-lt-LEAST_TABLES.false)
    (holds (le-leb _ _ c.if-tables-gt-MOST_TABLES.false) (fails _ (lt-leb _ _ c.if-size-lt-LEAST_SIZE.true)))

pub returns : goal.returns
unfolding tables_in_range
returns c = holds (le-leb _ _ c.if-tables-lt-LEAST_TABLES.false)
    (holds (le-leb _ _ c.if-tables-gt-MOST_TABLES.false) (holds (le-leb _ _ c.if-size-lt-LEAST_SIZE.false) refl))
