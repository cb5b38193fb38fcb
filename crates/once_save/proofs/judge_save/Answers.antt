-- `once_save::judge_save` meets its contract: each return by the law of its line. Assumes nothing.
use Rattle.std.proofs.Common.{sym, ◌∙◌}
use Rattle.model.specs.Disc.{disc}
use Rattle.model.specs.Examine.{setting}
use Rattle.room.proofs.Laws.{number-low}
use Rattle.once_save.proofs.Saving.{save-outside, save-passes, save-full, save-fits}
use Rattle.once_save.proofs.judge_save.Goals as goal

pub returns-then-not-is_number : goal.returns-then-not-is_number
returns-then-not-is_number c maps = let a = c.args in
    save-outside (setting maps a.span.start a.span.length) (disc a.disc.now a.marks.now) _ _ a.block.now c.is_number.ensures c.if-not-is_number.true

pub returns-then-passes : goal.returns-then-passes
returns-then-passes c maps = let a = c.args in
    save-passes (setting maps a.span.start a.span.length) (disc a.disc.now a.marks.now) _ _ a.block.now c.is_number.ensures
    c.if-not-is_number.false
    c.next_held-next.ensures
    c.passes.ensures
    c.if-passes.true

pub has_room-requires : goal.has_room-requires
has_room-requires c = (c.requires.held_bound, number-low _ _ (sym c.is_number.ensures ∙ c.if-not-is_number.false))

pub returns-then-not-has_room : goal.returns-then-not-has_room
returns-then-not-has_room c maps = let a = c.args in
    save-full (setting maps a.span.start a.span.length) (disc a.disc.now a.marks.now) _ _ a.block.now c.is_number.ensures
    c.if-not-is_number.false
    c.next_held-next.ensures
    c.passes.ensures
    c.if-passes.false
    c.has_room.ensures
    c.if-not-has_room.true

pub returns : goal.returns
returns c maps = let a = c.args in
    save-fits (setting maps a.span.start a.span.length) (disc a.disc.now a.marks.now) _ _ a.block.now c.is_number.ensures
    c.if-not-is_number.false
    c.next_held-next.ensures
    c.passes.ensures
    c.if-passes.false
    c.has_room.ensures
    c.if-not-has_room.false
