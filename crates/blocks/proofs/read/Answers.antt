-- `blocks::read` meets its contract: the half of the kind answers the same. Assumes nothing.
use mathlib.Core.Path.{sym, ◌∙◌}
use Rattle.model.specs.Disc.{disc}
use Rattle.model.specs.Examine.{setting}
use Rattle.blocks.proofs.Laws.{reads-once, reads-again, read-so}
use Rattle.blocks.proofs.read.Goals as goal

pub returns-then-is_write_once : goal.returns-then-is_write_once
returns-then-is_write_once c = read-so (setting c.args.maps.now c.args.s c.args.l) (disc c.args.disc.now c.args.marks.now)
    (reads-once (setting c.args.maps.now c.args.s c.args.l) (disc c.args.disc.now c.args.marks.now) (sym (c.is_write_once.ensures _ _) ∙ c.if-is_write_once.true) _ _ _ c.args.out.now (c.read_virtual.ensures.value, c.read_virtual.ensures.out_after))

pub returns : goal.returns
returns c = read-so (setting c.args.maps.now c.args.s c.args.l) (disc c.args.disc.now c.args.marks.now)
    (reads-again (setting c.args.maps.now c.args.s c.args.l) (disc c.args.disc.now c.args.marks.now) (sym (c.is_write_once.ensures _ _) ∙ c.if-is_write_once.false) _ _ _ c.args.out.now (c.read_block.ensures.value, c.read_block.ensures.out_after))
