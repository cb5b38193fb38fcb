-- `call_numbers::number_of_lengths` meets its contract: the examination stops at line 3 at the latest. Assumes nothing.
use mathlib.Core.Path.{ap, ◌∙◌}
use Rattle.refusal.specs.Number.{number_of}
use Rattle.refusal.specs.Verdict.{verdict_of}
use Rattle.call_numbers.proofs.Laws.{short-reason}
use Rattle.call_numbers.proofs.number_of_lengths.Goals as goal

pub returns-in-Ok : goal.returns-in-Ok
returns-in-Ok c = c.from.ensures ∙ ap number_of (short-reason _ _ c.examine.ensures (ap verdict_of c.in-Ok.is))

pub returns-in-Err : goal.returns-in-Err
returns-in-Err c = c.from-in-Err.ensures ∙ ap number_of (short-reason _ _ c.examine.ensures (ap verdict_of c.in-Err.is))
