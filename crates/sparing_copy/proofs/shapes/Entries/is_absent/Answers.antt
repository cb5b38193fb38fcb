use Rattle.std.proofs.Common.{arith, eq-eqb, ne_eqb}
use Rattle.sparing_copy.specs.Layout.{listed}
use Rattle.sparing_copy.proofs.Entries.{sector-step, sector-end}
use Rattle.sparing_copy.proofs.Rule.{absent-end, absent-next, scan-found, scan-next}
use Rattle.sparing_copy.proofs.shapes.Entries.is_absent.Goals as goal
use Rattle.sparing_copy.proofs.shapes.Entries.is_absent.Goals.{then-m-mapped, else-m-mapped}

pub loop-i-preserved : goal.loop-i-preserved
loop-i-preserved c = let es = c.args.self.now in
    let next = absent-next (listed es) c.loop-i.i _ (sector-step es.sector.now es.count c.loop-i.i (omega arith)) c.args.m.0 _ c.mapped.ensures _ _ c.loop-i.invariant in
    elim c.if-m-mapped.branch [
      | then-m-mapped w ↦ scan-found _ _ _ _ _ next w.none-is (eq-eqb _ _ w.if-m-mapped.true)
      | else-m-mapped w ↦ scan-next _ _ _ _ _ next w.none-is (ne_eqb _ _ w.if-m-mapped.false)
    ]

pub returns : goal.returns
returns c = let es = c.args.self.now in
    absent-end (listed es) c.loop-i.i (sector-end es.sector.now es.count c.loop-i.i (omega arith)) _ _ _ c.loop-i.invariant
