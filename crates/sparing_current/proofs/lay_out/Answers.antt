-- `sparing_current::lay_out` meets its contract: each return by the law of its line. Assumes nothing.
use borrow.Author.Rules.{rules}
use Rattle.sparing_current.proofs.Looks.{lay-examined, lay-other, lay-most, lay-fits}
use Rattle.sparing_current.proofs.lay_out.Goals as goal

pub returns-in_err-volume : goal.returns-in_err-volume
returns-in_err-volume c = lay-examined _ _ _ c.examine.ensures c.in_err-volume.was (search rules)

pub layout_of-requires : goal.layout_of-requires
layout_of-requires c = lay-most _ _ _ c.examine.ensures c.in_ok-volume.was

pub returns-in-WriteOnce : goal.returns-in-WriteOnce
returns-in-WriteOnce c = lay-other _ _ _ c.examine.ensures c.in_ok-volume.was c.in-WriteOnce.is

pub returns-in-Rewritable : goal.returns-in-Rewritable
returns-in-Rewritable c = lay-fits _ _ _ c.examine.ensures c.in_ok-volume.was c.in-Rewritable.is _ c.layout_of.ensures.0 c.layout_of.ensures.1
