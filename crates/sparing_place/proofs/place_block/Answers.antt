-- `sparing_place::place_block` meets its contract: the common tests, and then the translation. Assumes nothing.
use borrow.Author.Rules.{rules}
use Rattle.sparing_place.proofs.Laws.{stops_call, translation-asks, placed-stop, block-placed}
use Rattle.sparing_place.proofs.place_block.Goals as goal

pub returns-in_err-looked : goal.returns-in_err-looked
returns-in_err-looked c = placed-stop (stops_call _ c.in_err-looked.ensures) (search rules)

pub packet_to_physical-requires : goal.packet_to_physical-requires
packet_to_physical-requires c = translation-asks c.in_ok-looked.ensures

pub returns : goal.returns
returns c = block-placed c.in_ok-looked.ensures _ c.packet_to_physical.ensures.value
