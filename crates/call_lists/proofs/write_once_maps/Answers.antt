-- `call_lists::write_once_maps` meets its contract: the volume is the definition's. Assumes nothing.
use mathlib.Core.Path.{ap, ◌∙◌}
use Rattle.maps.specs.Kinds.{volume_with}
use Rattle.refusal.specs.Number.{answer_number}
use Rattle.call_lists.specs.Lists.{volume_for, lent_verdict}
use Rattle.call_lists.proofs.write_once_maps.Goals as goal

pub returns : goal.returns
unfolding lent_verdict volume_for volume_with
returns c = record { by_index = λ size tables. c.number_of.ensures ∙ ap answer_number c.write_maps.ensures.value; by_index_2 = λ size tables. c.write_maps.ensures.out_after }
