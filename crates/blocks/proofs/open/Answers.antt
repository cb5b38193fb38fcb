-- `blocks::open` meets its contract: the half of the kind answers the same. Assumes nothing.
use mathlib.Core.Path.{sym, ◌∙◌}
use Rattle.model.specs.Disc.{disc}
use Rattle.model.specs.Examine.{setting}
use Rattle.blocks.proofs.Laws.{opens-once, opens-again, opened-so}
use Rattle.blocks.proofs.open.Goals as goal

pub returns-then-is_write_once : goal.returns-then-is_write_once
returns-then-is_write_once c = opened-so (setting c.args.maps.now c.args.s c.args.l) (disc c.args.disc.now c.args.marks.now)
    (opens-once (setting c.args.maps.now c.args.s c.args.l) (disc c.args.disc.now c.args.marks.now) (sym (c.is_write_once.ensures _ _) ∙ c.if-is_write_once.true) c.args.table.now (c.open_write_once.ensures.value, c.open_write_once.ensures.table_after))

pub returns : goal.returns
returns c = opened-so (setting c.args.maps.now c.args.s c.args.l) (disc c.args.disc.now c.args.marks.now)
    (opens-again (setting c.args.maps.now c.args.s c.args.l) (disc c.args.disc.now c.args.marks.now) (sym (c.is_write_once.ensures _ _) ∙ c.if-is_write_once.false) c.args.table.now (c.open_rewritable.ensures.value, c.open_rewritable.ensures.table_after))
