-- `sparing_place::place_packet` meets its contract: the common tests, line 12 of a packet, and then the translation. Assumes nothing.
use mathlib.Core.Path.{sym, ◌∙◌}
use borrow.Author.Rules.{rules}
use borrow.Author.Tests.{eqb-true, eqb-false}
use Rattle.sparing_place.proofs.Laws.{stops_call, translation-asks, placed-stop, packet-stopped, packet-placed}
use Rattle.sparing_place.proofs.place_packet.Goals as goal

pub returns-in_err-looked : goal.returns-in_err-looked
returns-in_err-looked c = placed-stop (stops_call _ c.in_err-looked.ensures) (search rules)

pub returns-then-not-is_start : goal.returns-then-not-is_start
returns-then-not-is_start c = packet-stopped c.in_ok-looked.ensures _ (eqb-false _ _ (sym c.is_start.ensures ∙ c.if-not-is_start.true))

pub packet_to_physical-requires : goal.packet_to_physical-requires
packet_to_physical-requires c = translation-asks c.in_ok-looked.ensures

pub returns : goal.returns
returns c = packet-placed c.in_ok-looked.ensures _ (eqb-true _ _ (sym c.is_start.ensures ∙ c.if-not-is_start.false)) c.packet_to_physical.ensures.value
