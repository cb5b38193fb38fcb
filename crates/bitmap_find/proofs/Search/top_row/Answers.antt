-- `bitmap_find::Search::top_row` meets its contract. Assumes nothing.
use native.Mathlib.Omega.{arith}
use Rattle.bitmap_find.proofs.TopRows.{long-row, no_row, row-place, top-row}
use Rattle.bitmap_find.proofs.Search.top_row.Goals as goal

pub returns-then-self-gt-WORD : goal.returns-then-self-gt-WORD
returns-then-self-gt-WORD c = long-row _ _ c.ranges.x.fits c.if-self-gt-WORD.true

pub returns-then-rows-eq0 : goal.returns-then-rows-eq0
returns-then-rows-eq0 c = no_row _ _ _ c.fold-rows.ensures c.if-rows-eq0.true

pub overflow_sub-result : goal.overflow_sub-result
overflow_sub-result c = let h = row-place _ _ _ c.fold-rows.ensures c.if-rows-eq0.false in omega (arith, h)

pub returns : goal.returns
returns c = top-row _ _ _ c.fold-rows.ensures c.if-rows-eq0.false
