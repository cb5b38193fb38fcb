-- `rewrite_spare::spare_packet` meets its contract: each return by the law of its way out. Assumes nothing.
use Prim.Native.Nat.{ℕ, ◌+◌}
use mathlib.Core.Path.{ap, ◌∙◌}
use native.Mathlib.Omega.{arith}
use borrow.Author.Rules.{rules}
use Rattle.model.specs.Writes.{struck}
use Rattle.rewrite_spare.proofs.Spares.{spare-refused, spare-layout, spare-disc, spare-place, spare-copy, spare-asks, spare-ordered, spare-room, spare-cut, spare-done}
use Rattle.rewrite_spare.proofs.spare_packet.Goals as goal

pub returns-in_err-sparing : goal.returns-in_err-sparing
returns-in_err-sparing c = spare-refused _ _ _ _ _ _ c.in_err-sparing.ensures (search rules)

pub write_spared-requires-clause-r_bound : goal.write_spared-requires-clause-r_bound
write_spared-requires-clause-r_bound c = spare-asks _ _ _ _ _ c.in_ok-sparing.ensures (omega arith) c.count_held-entries.ensures

pub write_spared-requires-clause-ordered : goal.write_spared-requires-clause-ordered
write_spared-requires-clause-ordered c = spare-ordered _ _ _ _ _ c.in_ok-sparing.ensures (omega arith) c.count_held-entries.ensures

pub write_sparing-requires : goal.write_sparing-requires
write_sparing-requires c =
    let layout = spare-layout _ _ _ _ _ c.in_ok-sparing.ensures in
    let disc = spare-disc _ _ _ _ _ c.in_ok-sparing.ensures in
    let place = spare-place _ _ _ _ _ c.in_ok-sparing.ensures in
    record {
      count_bound = (layout.0, layout.1);
      sectors_value = (disc.2, layout.2);
      at_in_bounds = spare-copy _ _ _ _ _ c.in_ok-sparing.ensures;
      first_in_bounds = (place.0, disc.1, disc.0);
      packet_len = (place.1, c.write_spared.auto.sector);
    }

pub returns-then-is_struck : goal.returns-then-is_struck
returns-then-is_struck c =
    spare-cut _ _ _ _ _ c.in_ok-sparing.ensures (omega arith) c.count_held-entries.ensures c.write_spared.ensures _ c.write_sparing.ensures
    (c.is_struck.ensures ∙ ap (λ (n : ℕ). struck c.args.cut (32 + n)) c.from.ensures)
    c.if-is_struck.true

pub fill_table-requires-clause-b_bound : goal.fill_table-requires-clause-b_bound
fill_table-requires-clause-b_bound c = spare-room _ _ _ _ _ c.in_ok-sparing.ensures (omega arith) c.count_held-entries.ensures c.write_spared.ensures

pub returns : goal.returns
returns c =
    spare-done _ _ _ _ _ c.in_ok-sparing.ensures (omega arith) c.count_held-entries.ensures c.write_spared.ensures _ c.write_sparing.ensures
    (c.is_struck.ensures ∙ ap (λ (n : ℕ). struck c.args.cut (32 + n)) c.from.ensures)
    c.if-is_struck.false
    c.fill_table.ensures
