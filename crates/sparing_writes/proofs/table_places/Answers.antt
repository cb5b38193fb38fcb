-- `sparing_writes::table_places` meets its contract, sector by sector. Assumes nothing.
use Rattle.std.proofs.Common.{◌≡◌, length, sym, ◌∙◌, arith, rules}
use Rattle.sparing_writes.proofs.Order.{numbers-each}
use Rattle.sparing_writes.proofs.table_places.Goals as goal

pub returns : goal.returns
returns c =
    let four : length c.args.tables ≡ 4 = search rules in
    numbers-each c.map.result c.args.tables (c.map.ensures.items.long ∙ sym four) (λ i h.
    let k = c.map.ensures.items.at i 0 (record { 0 = 0 }) (omega arith) in
    search (rules, k.2))
