-- `capi::tuormik_bitmap_take` meets its contract: the call's, and the number of its verdict. Assumes nothing.
use mathlib.Core.Path.{ap, ◌∙◌}
use Rattle.refusal.specs.Number.{answer_number}
use Rattle.capi.proofs.tuormik_bitmap_take.Goals as goal

pub returns : goal.returns
returns c = record { value = c.number_of.ensures ∙ ap answer_number c.take-verdict.ensures.value; bitmap_after = c.take-verdict.ensures.b_after }
