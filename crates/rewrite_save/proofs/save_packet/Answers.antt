-- `rewrite_save::save_packet` meets its contract: each return by the law of its way out. Assumes nothing.
use native.Mathlib.Omega.{arith}
use borrow.Author.Rules.{rules}
use Rattle.sparing_place.proofs.Laws.{table-lent}
use Rattle.rewrite_save.proofs.Saves.{packet-refused, packet-told, packet-whole, packet-on, packet-cut, packet-done}
use Rattle.rewrite_save.proofs.save_packet.Goals as goal

pub place_packet-requires : goal.place_packet-requires
place_packet-requires c = table-lent _ _ c.are_lent-lent.ensures

pub returns-in_err-first : goal.returns-in_err-first
returns-in_err-first c = packet-refused _ _ _ _ _ _ c.are_lent-lent.ensures c.in_err-first.ensures (search rules)

pub write_upward-requires : goal.write_upward-requires
write_upward-requires c =
    let lent = c.are_lent-lent.ensures in
    let h = c.in_ok-first.ensures in
    let told = packet-told _ _ _ _ _ c.args.cut lent h in
    record {
      count_in_bounds = (packet-on _ _ _ _ _ c.args.cut lent h, told.few);
      disc_len = told.shape;
      bytes_len = packet-whole _ _ _ _ _ c.args.cut lent h;
      count_bound = omega arith;
    }

pub returns-then-is_struck : goal.returns-then-is_struck
returns-then-is_struck c =
    packet-cut _ _ _ _ _ _ c.are_lent-lent.ensures c.in_ok-first.ensures c.is_struck.ensures c.write_upward.ensures c.if-is_struck.true

pub returns : goal.returns
returns c =
    packet-done _ _ _ _ _ _ c.are_lent-lent.ensures c.in_ok-first.ensures c.is_struck.ensures c.write_upward.ensures c.if-is_struck.false
