use Rattle.std.proofs.Common.{arith}
use Rattle.sparing_copy.specs.Layout.{listed}
use Rattle.sparing_copy.proofs.Entries.{sector-step, sector-end}
use Rattle.sparing_copy.proofs.Rule.{inside-end, inside-next, scan-found, scan-next}
use Rattle.sparing_copy.proofs.shapes.Entries.none_inside.Goals as goal
use Rattle.sparing_copy.proofs.shapes.Entries.none_inside.Goals.{then-is_inside, else-is_inside}

pub loop-i-preserved : goal.loop-i-preserved
loop-i-preserved c = let es = c.args.self.now in
    let next = inside-next (listed es) c.loop-i.i _ (sector-step es.sector.now es.count c.loop-i.i (omega arith)) _ _ _ c.mapped.ensures _ _ _ c.is_inside.ensures c.loop-i.invariant in
    elim c.if-is_inside.branch [
      | then-is_inside w ↦ scan-found _ _ _ _ _ next w.none-is w.if-is_inside.true
      | else-is_inside w ↦ scan-next _ _ _ _ _ next w.none-is w.if-is_inside.false
    ]

pub returns : goal.returns
returns c = let es = c.args.self.now in
    inside-end (listed es) c.loop-i.i (sector-end es.sector.now es.count c.loop-i.i (omega arith)) _ _ _ _ c.loop-i.invariant
