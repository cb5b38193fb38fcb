-- `sparing_copy::held_with` meets its contract. Assumes nothing.
use Rattle.std.proofs.Common.{arith}
use Rattle.std.proofs.lemmas.Bool.Decides.{nat_tests}
use Rattle.sparing_copy.specs.Slots.{held_with}
use Rattle.sparing_copy.proofs.held_with.Goals as goal

pub returns-then-held-eq-EMPTY : goal.returns-then-held-eq-EMPTY
unfolding held_with
returns-then-held-eq-EMPTY c = grind (arith, nat_tests)

pub returns-else-held-eq-EMPTY : goal.returns-else-held-eq-EMPTY
unfolding held_with
returns-else-held-eq-EMPTY c = grind (arith, nat_tests)
