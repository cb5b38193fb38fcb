-- `sparing_copy::is_apart` meets its contract. Assumes nothing.
use Rattle.std.proofs.Common.{ap, ◌∙◌, leb}
use Rattle.sparing_copy.proofs.Places.{apart-by}
use Rattle.sparing_copy.proofs.is_apart.Goals as goal

pub returns : goal.returns
returns c = ap (leb 32) c.abs_diff.ensures ∙ apart-by _ _
