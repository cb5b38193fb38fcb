-- `blocks::make` meets its contract: the half of the kind answers the same. Assumes nothing.
use mathlib.Core.Path.{sym, ◌∙◌}
use Rattle.model.specs.Disc.{disc}
use Rattle.model.specs.Examine.{setting}
use Rattle.blocks.proofs.Laws.{makes-once, makes-again, made_so}
use Rattle.blocks.proofs.make.Goals as goal

pub returns-then-is_write_once : goal.returns-then-is_write_once
returns-then-is_write_once c = made_so (setting c.args.maps.now c.args.s c.args.l) (disc c.args.disc.now c.args.marks.now)
    (makes-once (setting c.args.maps.now c.args.s c.args.l) (disc c.args.disc.now c.args.marks.now) (sym (c.is_write_once.ensures _ _) ∙ c.if-is_write_once.true) c.args.spares.now (c.make_write_once.ensures.value, c.make_write_once.ensures.marks_after))

pub returns : goal.returns
returns c = made_so (setting c.args.maps.now c.args.s c.args.l) (disc c.args.disc.now c.args.marks.now)
    (makes-again (setting c.args.maps.now c.args.s c.args.l) (disc c.args.disc.now c.args.marks.now) (sym (c.is_write_once.ensures _ _) ∙ c.if-is_write_once.false) c.args.spares.now (c.make_rewritable.ensures.value, c.make_rewritable.ensures.marks_after))
