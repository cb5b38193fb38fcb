-- `sparing_copy::original_fits` meets its contract, test by test. Assumes nothing.
use Rattle.std.proofs.Common.{arith}
use Rattle.std.proofs.lemmas.Bool.Decides.{nat_tests}
use Rattle.model.specs.Vat.{none}
use Rattle.model.specs.Sparing.{original_fits, defective}
use Rattle.sparing_copy.proofs.original_fits.Goals as goal

pub returns-then-original-eq0 : goal.returns-then-original-eq0
unfolding original_fits none defective
returns-then-original-eq0 c = grind (arith, nat_tests)

pub returns-then-original-eq-FREE : goal.returns-then-original-eq-FREE
unfolding original_fits none defective
returns-then-original-eq-FREE c = grind (arith, nat_tests)

pub returns : goal.returns
unfolding original_fits none defective
returns c = grind (arith, nat_tests)
