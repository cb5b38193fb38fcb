-- `capi::tuormik_make` meets its contract: what is seen is the verdict of making. Assumes nothing.
use mathlib.Core.Path.{ap, ◌∙◌}
use Rattle.refusal.specs.Number.{answer_number}
use Rattle.capi.proofs.tuormik_make.Goals as goal

pub returns : goal.returns
returns c = record { value = c.number_of.ensures ∙ ap answer_number c.make-verdict.ensures.answer; marks_after = c.make-verdict.ensures.disc }
