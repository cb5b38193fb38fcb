-- `examine::last_held` meets its contract, by the kind of the record. Assumes nothing.
use Rattle.std.proofs.Common.{sym, ap}
use Rattle.model.specs.Once.{last_held}
use Rattle.examine.proofs.last_held.Goals as goal

pub returns-in-WriteOnce : goal.returns-in-WriteOnce
unfolding last_held
returns-in-WriteOnce c = sym (ap last_held c.in-WriteOnce.is)

pub returns-in-Rewritable : goal.returns-in-Rewritable
unfolding last_held
returns-in-Rewritable c = sym (ap last_held c.in-Rewritable.is)
