-- `vat_icb_written::write_tag` meets its contract: a row of splices into zeros, and the checksum (`tag-written`). Assumes nothing.
use mathlib.Core.Path.{◌∙◌}
use lib.ListN.{length-set}
use Rattle.vat_icb_written.proofs.Laws.{tag-written}
use Rattle.vat_icb_written.proofs.write_tag.Goals as goal

pub shape_of-front : goal.shape_of-front
shape_of-front c = simp length-set (c.write-5.auto.s ∙ c.write-4.auto.s ∙ c.write-3.auto.s ∙ c.write-2.auto.s ∙ c.write.auto.s ∙ c.fill.ensures.len)

pub returns : goal.returns
returns c = tag-written c.args.k.0 c.args.crc c.args.covered _ c.args.front.now _ _ _ _ _ _ c.requires
    (c.fill.ensures.after (λ y e. e))
    c.write.ensures
    c.write-2.ensures
    c.write-3.ensures
    c.write-4.ensures
    c.write-5.ensures
    c.checksum-sum.ensures
