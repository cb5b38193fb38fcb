use mathlib.Core.Path.{sym, ◌∙◌}
use Rattle.disc_marks.proofs.Laws.{blank_below}
use Rattle.disc_marks.proofs.skip_blank.Goals as goal

pub loop-below-preserved : goal.loop-below-preserved
loop-below-preserved g c = let cut = c.in-Some.ensures.cases in
    blank_below _ _ _ _ _ c.loop-below.invariant cut.0 cut.1 (sym c.highest_mark.ensures ∙ c.if-highest_mark-ne-BLANK.false)
