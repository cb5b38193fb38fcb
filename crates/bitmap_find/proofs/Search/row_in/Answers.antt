-- `bitmap_find::Search::row_in` meets its contract. Assumes nothing.
use Rattle.bitmap_find.proofs.Rows.{no_row, no-rows, row_in}
use Rattle.bitmap_find.proofs.Search.row_in.Goals as goal

pub returns-then-self-gt-WORD : goal.returns-then-self-gt-WORD
returns-then-self-gt-WORD c = no_row _ _ c.ranges.x.fits c.if-self-gt-WORD.true

pub returns-then-rows-eq0 : goal.returns-then-rows-eq0
returns-then-rows-eq0 c = no-rows _ _ _ c.fold-rows.ensures c.if-rows-eq0.true

pub returns : goal.returns
returns c = row_in _ _ _ c.fold-rows.ensures c.if-rows-eq0.false
