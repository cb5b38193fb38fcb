-- `call_numbers::cut_of` meets its contract: its effect is that of the number. Assumes nothing.
use mathlib.Core.Path.{ap}
use Rattle.model.specs.declared.Effect.{Effect}
use Rattle.call_numbers.proofs.cut_of.Goals as goal

pub returns : goal.returns
returns c = ap (λ (f : Effect). record { at = c.args.at; effect = f }) c.effect_of.ensures
