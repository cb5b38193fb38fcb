use Rattle.model.specs.Disc.{disc}
use Rattle.disc_read.proofs.Laws.{first-all, first-here, first_above, first-none}
use Rattle.disc_read.proofs.first_mark.Goals as goal

pub loop-mark-init : goal.loop-mark-init
loop-mark-init c bytes = first-all _ _ _

pub returns-then-mark-ne-RECORDED : goal.returns-then-mark-ne-RECORDED
returns-then-mark-ne-RECORDED c bytes = let l = c.loop-mark in
    first-here (disc bytes _) _ _ l.mark-index c.loop-mark-test.true c.requires (l.invariant bytes) c.if-mark-ne-RECORDED.true

pub loop-mark-preserved : goal.loop-mark-preserved
loop-mark-preserved c bytes = let l = c.loop-mark in
    first_above (disc bytes _) _ _ l.mark-index c.loop-mark-test.true c.requires (l.invariant bytes) c.if-mark-ne-RECORDED.false

pub returns : goal.returns
returns c bytes = first-none (disc bytes _) _ _ _ c.loop-mark-test.false c.requires (c.loop-mark.invariant bytes)
