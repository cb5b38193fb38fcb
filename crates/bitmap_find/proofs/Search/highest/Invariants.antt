-- `bitmap_find::Search::highest` meets its contract. The invariant is `Down`: the blocks from e up to `end` are free, and a run that is sought ends
-- by `end`. Assumes nothing.
use Rattle.bitmap_find.proofs.TopRows.{Down}
use Rattle.bitmap_find.proofs.Search.highest.Given as goal

abbrev pub invariant-loop-e : goal.invariant-loop-e
invariant-loop-e l = Down l.self.bitmap.bytes.now l.self.bitmap.len l.self.wanted l.low l.below l.e l.end

abbrev pub decreases-loop-e : goal.decreases-loop-e
decreases-loop-e l = l.e
