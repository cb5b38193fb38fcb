use Rattle.std.proofs.Common.{arith, sym, ◌∙◌}
use Rattle.sparing_copy.specs.Layout.{listed}
use Rattle.sparing_copy.proofs.Entries.{sector-step, sector-end}
use Rattle.sparing_copy.proofs.Rule.{originals-end, originals-off, originals-next}
use Rattle.sparing_copy.proofs.shapes.Entries.originals_fit.Goals as goal

pub returns-then-not-original_fits : goal.returns-then-not-original_fits
returns-then-not-original_fits c = let es = c.args.self.now in
    originals-off (listed es) c.loop-i.i _ (sector-step es.sector.now es.count c.loop-i.i (omega arith)) _ _ c.original.ensures (sym c.original_fits.ensures ∙ c.if-not-original_fits.true) ∙ c.loop-i.invariant

pub loop-i-preserved : goal.loop-i-preserved
loop-i-preserved c = let es = c.args.self.now in
    originals-next (listed es) c.loop-i.i _ (sector-step es.sector.now es.count c.loop-i.i (omega arith)) _ _ c.original.ensures (sym c.original_fits.ensures ∙ c.if-not-original_fits.false) ∙ c.loop-i.invariant

pub returns : goal.returns
returns c = let es = c.args.self.now in
    originals-end (listed es) c.loop-i.i (sector-end es.sector.now es.count c.loop-i.i (omega arith)) _ ∙ c.loop-i.invariant
