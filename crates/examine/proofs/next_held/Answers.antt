-- `examine::next_held` meets its contract, by the kind of the record. Assumes nothing.
use Rattle.std.proofs.Common.{sym, ap}
use Rattle.model.specs.Once.{next_held}
use Rattle.examine.proofs.next_held.Goals as goal

pub returns-in-WriteOnce : goal.returns-in-WriteOnce
unfolding next_held
returns-in-WriteOnce c = sym (ap next_held c.in-WriteOnce.is)

pub returns-in-Rewritable : goal.returns-in-Rewritable
unfolding next_held
returns-in-Rewritable c = sym (ap next_held c.in-Rewritable.is)
