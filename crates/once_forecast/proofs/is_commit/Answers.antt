-- `once_forecast::is_commit` meets its contract. Assumes nothing.
use mathlib.Core.Path.{refl}
use Rattle.model.specs.Forecast.{is_commit}
use Rattle.once_forecast.proofs.is_commit.Goals as goal

pub returns : goal.returns
unfolding is_commit
returns c = refl
