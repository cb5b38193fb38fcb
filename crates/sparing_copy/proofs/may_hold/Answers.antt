-- `sparing_copy::may_hold` meets its contract. Assumes nothing.
use Rattle.std.proofs.Common.{arith}
use Rattle.std.proofs.lemmas.Bool.Decides.{nat_tests}
use Rattle.sparing_copy.specs.Slots.{may_hold}
use Rattle.sparing_copy.proofs.may_hold.Goals as goal

pub returns-then-held-eq-CROWDED : goal.returns-then-held-eq-CROWDED
unfolding may_hold
returns-then-held-eq-CROWDED c = grind (arith, nat_tests)

pub returns-else-held-eq-CROWDED : goal.returns-else-held-eq-CROWDED
unfolding may_hold
returns-else-held-eq-CROWDED c = grind (arith, nat_tests)
