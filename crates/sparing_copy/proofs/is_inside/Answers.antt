-- `sparing_copy::is_inside` meets its contract. Assumes nothing.
use Rattle.std.proofs.Common.{rules}
use Rattle.sparing_copy.proofs.Places.{inside-wraps}
use Rattle.sparing_copy.proofs.is_inside.Goals as goal

pub returns : goal.returns
returns c = inside-wraps _ _ _ (search rules)
