use Rattle.std.proofs.Common.{◌*◌, take, refl, sym, eq-eqb, ne_eqb}
use Rattle.model.specs.Sparing.{entries}
use Rattle.sparing_copy.proofs.Rule.{absent-end, absent-next, scan-found, scan-next}
use Rattle.sparing_table.proofs.Table.{lent-step, lent-end}
use Rattle.sparing_table.proofs.is_unmapped.Goals as goal
use Rattle.sparing_table.proofs.is_unmapped.Goals.{then-table-i, else-table-i}

pub loop-i-preserved : goal.loop-i-preserved
loop-i-preserved c = let a = c.args in
    let next = absent-next (entries (take (2 * a.n) a.table.now)) c.loop-i.i _ (lent-step a.table.now a.n c.loop-i.i c.requires c.loop-i-test.true) a.m.0 _ refl _ _ c.loop-i.invariant in
    elim c.if-table-i.branch [
      | then-table-i w ↦ scan-found _ _ _ _ _ next w.none-is (eq-eqb _ _ (sym w.if-table-i.true))
      | else-table-i w ↦ scan-next _ _ _ _ _ next w.none-is (ne_eqb _ _ (λ e. w.if-table-i.false (sym e)))
    ]

pub returns : goal.returns
returns c = let a = c.args in
    absent-end (entries (take (2 * a.n) a.table.now)) c.loop-i.i (lent-end a.table.now a.n c.loop-i.i c.requires c.loop-i-test.false) _ _ _ c.loop-i.invariant
