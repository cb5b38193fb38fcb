-- `disc_marks::is_next` meets its contract. Assumes nothing.
use mathlib.Core.Path.{refl}
use native.Mathlib.Omega.{arith}
use Rattle.model.specs.Disc.{disc}
use Rattle.disc_marks.proofs.Laws.{not-past, not-blank, first-is, next-above}
use Rattle.disc_marks.proofs.is_next.Goals as goal

pub returns-then-l-next : goal.returns-then-l-next
returns-then-l-next c bytes = not-past _ _ _ _ c.if-l-next.true

pub returns-then-highest_mark-ne-BLANK : goal.returns-then-highest_mark-ne-BLANK
returns-then-highest_mark-ne-BLANK c bytes = let cut = c.split_at.ensures in
    not-blank (disc bytes _) _ _ _ c.requires.l_in_bounds c.if-l-next.false cut.front cut.back c.highest_mark.ensures c.if-highest_mark-ne-BLANK.true

pub returns-in-empty : goal.returns-in-empty
returns-in-empty c bytes = let cut = c.split_at.ensures in
    first-is (disc bytes _) _ _ _ c.requires.l_in_bounds c.if-l-next.false cut.front cut.back c.highest_mark.ensures c.if-highest_mark-ne-BLANK.false (omega arith)

pub returns-in-len1-up : goal.returns-in-len1-up
returns-in-len1-up c bytes = let cut = c.split_at.ensures in
    next-above (disc bytes _) _ _ _ c.requires.l_in_bounds c.if-l-next.false cut.front cut.back c.highest_mark.ensures c.if-highest_mark-ne-BLANK.false c.in-len1-up.len_at_least refl
