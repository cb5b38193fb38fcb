-- `examine::is_lent` meets its contract. Assumes nothing.
use Rattle.std.proofs.Common.{refl}
use Rattle.model.specs.Examine.{lent_table}
use Rattle.examine.proofs.is_lent.Goals as goal

pub returns : goal.returns
unfolding lent_table
returns c = refl
