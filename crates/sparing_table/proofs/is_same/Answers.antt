use Rattle.std.proofs.Common.{◌*◌, refl, sym, ◌∙◌, arith}
use Rattle.sparing_table.proofs.Table.{numbers-differ, numbers-next, numbers-same, lent_same}
use Rattle.sparing_table.proofs.is_same.Goals as goal

pub returns-then-table-i : goal.returns-then-table-i
returns-then-table-i c = let a = c.args in
    numbers-differ a.b.now a.table.now (2 * a.r) c.loop-i.i c.loop-i-test.true (λ e. c.if-table-i.true (e ∙ sym c.number_at.ensures))
    ∙ lent_same a.b.now a.table.now a.r (2 * a.r) refl c.requires.r_value.0

pub loop-i-preserved : goal.loop-i-preserved
loop-i-preserved c = let a = c.args in
    numbers-next a.b.now a.table.now (2 * a.r) c.loop-i.i (omega arith) c.loop-i-test.true (c.if-table-i.false ∙ c.number_at.ensures) c.loop-i.invariant

pub returns : goal.returns
returns c = let a = c.args in
    numbers-same a.b.now a.table.now (2 * a.r) c.loop-i.i c.loop-i-test.false c.loop-i.invariant
    ∙ lent_same a.b.now a.table.now a.r (2 * a.r) refl c.requires.r_value.0
