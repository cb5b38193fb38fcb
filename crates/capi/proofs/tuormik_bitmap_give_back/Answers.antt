-- `capi::tuormik_bitmap_give_back` meets its contract: the call's, and the number of its verdict. Assumes nothing.
use mathlib.Core.Path.{ap, ◌∙◌}
use Rattle.refusal.specs.Number.{answer_number}
use Rattle.capi.proofs.tuormik_bitmap_give_back.Goals as goal

pub returns : goal.returns
returns c = record { value = c.number_of.ensures ∙ ap answer_number c.give_back-verdict.ensures.value; bitmap_after = c.give_back-verdict.ensures.b_after }
