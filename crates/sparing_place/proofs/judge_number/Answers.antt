-- `sparing_place::judge_number` meets its contract: each return by the law of its line. Assumes nothing.
use Rattle.sparing_place.proofs.Laws.{number-outside, number-spared, number-fits}
use Rattle.sparing_place.proofs.judge_number.Goals as goal

pub returns-then-span-b : goal.returns-then-span-b
returns-then-span-b c = number-outside _ _ _ c.if-span-b.true

pub returns-then-is_of_spare : goal.returns-then-is_of_spare
returns-then-is_of_spare c = number-spared _ _ _ c.if-span-b.false c.is_of_spare.ensures c.if-is_of_spare.true

pub returns : goal.returns
returns c = number-fits _ _ _ c.if-span-b.false c.is_of_spare.ensures c.if-is_of_spare.false
