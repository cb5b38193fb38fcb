-- `sparing_copy::is_after` meets its contract, test by test. Assumes nothing.
use Rattle.std.proofs.Common.{arith}
use Rattle.std.proofs.lemmas.Bool.Decides.{nat_tests}
use Rattle.model.specs.Vat.{none}
use Rattle.model.specs.Sparing.{may_follow, defective}
use Rattle.sparing_copy.proofs.is_after.Goals as goal

pub returns-then-original-next : goal.returns-then-original-next
unfolding may_follow none defective
returns-then-original-next c = grind (arith, nat_tests)

pub returns-then-next-eq-FREE : goal.returns-then-next-eq-FREE
unfolding may_follow none defective
returns-then-next-eq-FREE c = grind (arith, nat_tests)

pub returns-then-next-eq-DEFECTIVE : goal.returns-then-next-eq-DEFECTIVE
unfolding may_follow none defective
returns-then-next-eq-DEFECTIVE c = grind (arith, nat_tests)

pub returns : goal.returns
unfolding may_follow none defective
returns c = grind (arith, nat_tests)
