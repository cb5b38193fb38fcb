use Rattle.std.proofs.Common.{arith, ◌∙◌}
use Rattle.sparing_copy.specs.Layout.{listed}
use Rattle.sparing_copy.proofs.Entries.{sector-step, sector-end}
use Rattle.sparing_copy.proofs.Rule.{clear-end, clear-off, clear_next}
use Rattle.sparing_copy.proofs.shapes.Entries.originals_clear.Goals as goal

pub returns-then-not-is_clear : goal.returns-then-not-is_clear
returns-then-not-is_clear c = let es = c.args.self.now in
    clear-off (listed es) c.loop-i.i _ (sector-step es.sector.now es.count c.loop-i.i (omega arith)) _ _ _ c.is_clear.ensures c.if-not-is_clear.true ∙ c.loop-i.invariant

pub loop-i-preserved : goal.loop-i-preserved
loop-i-preserved c = let es = c.args.self.now in
    clear_next (listed es) c.loop-i.i _ (sector-step es.sector.now es.count c.loop-i.i (omega arith)) _ _ _ c.is_clear.ensures c.if-not-is_clear.false ∙ c.loop-i.invariant

pub returns : goal.returns
returns c = let es = c.args.self.now in
    clear-end (listed es) c.loop-i.i (sector-end es.sector.now es.count c.loop-i.i (omega arith)) _ _ ∙ c.loop-i.invariant
