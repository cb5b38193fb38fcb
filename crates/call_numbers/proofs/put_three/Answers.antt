-- `call_numbers::put_three` meets its contract: each of the three places is set. Assumes nothing.
use Rattle.call_numbers.proofs.Laws.{three-set}
use Rattle.call_numbers.proofs.put_three.Goals as goal

pub returns : goal.returns
returns c = let a = c.args in three-set a.res.now a.a a.b a.c c.requires
