-- `once_forecast::forecast_items` meets its contract: the loop's invariant is that the items left give what all give. Assumes nothing.
use Rattle.once_forecast.proofs.Laws.{Foreseen}
use Rattle.once_forecast.proofs.forecast_items.Given as goal

abbrev pub invariant-loop-i : goal.invariant-loop-i
invariant-loop-i l = Foreseen l.l l.initial.held l.items l.held l.i
