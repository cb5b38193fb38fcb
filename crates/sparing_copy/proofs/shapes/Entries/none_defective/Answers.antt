use Rattle.std.proofs.Common.{arith, eq-eqb, ne_eqb}
use Rattle.sparing_copy.specs.Layout.{listed}
use Rattle.sparing_copy.proofs.Entries.{sector-step, sector-end}
use Rattle.sparing_copy.proofs.Rule.{defective-end, defective-next, scan-found, scan-next}
use Rattle.sparing_copy.proofs.shapes.Entries.none_defective.Goals as goal
use Rattle.sparing_copy.proofs.shapes.Entries.none_defective.Goals.{then-original, else-original}

pub loop-i-preserved : goal.loop-i-preserved
loop-i-preserved c = let es = c.args.self.now in
    let next = defective-next (listed es) c.loop-i.i _ (sector-step es.sector.now es.count c.loop-i.i (omega arith)) _ c.original.ensures _ _ c.loop-i.invariant in
    elim c.if-original.branch [
      | then-original w ↦ scan-found _ _ _ _ _ next w.none-is (eq-eqb _ _ w.if-original.true)
      | else-original w ↦ scan-next _ _ _ _ _ next w.none-is (ne_eqb _ _ w.if-original.false)
    ]

pub returns : goal.returns
returns c = let es = c.args.self.now in
    defective-end (listed es) c.loop-i.i (sector-end es.sector.now es.count c.loop-i.i (omega arith)) _ _ c.loop-i.invariant
