-- `sparing_current::packet_place` meets its contract. Assumes nothing.
use Rattle.sparing_current.proofs.Held.{place_found, start-asks}
use Rattle.sparing_current.proofs.packet_place.Goals as goal

pub find_packet-requires-clause-p_value : goal.find_packet-requires-clause-p_value
find_packet-requires-clause-p_value c = start-asks _ _ c.packet_of-first.ensures c.requires.1

pub returns : goal.returns
returns c = place_found _ _ _ _ c.count_held-entries.ensures c.packet_of-first.ensures c.find_packet.ensures
