use native.Mathlib.Omega.{arith}
use Rattle.bitmap_find.proofs.Words.{folded-one, folded_more, folded-all}
use Rattle.bitmap_find.proofs.fold.Goals as goal

pub loop-k-init : goal.loop-k-init
loop-k-init c = (omega arith, omega arith, folded-one _ c.ranges.x.fits)

pub loop-k-preserved : goal.loop-k-preserved
loop-k-preserved c = let v = c.loop-k in
    (omega arith, omega arith, folded_more _ _ _ _ (omega (arith, c.min-more.ensures)) v.invariant.2)

pub returns : goal.returns
returns c = folded-all _ _ _ _ (omega arith) c.loop-k.invariant.2
