-- `disc_read::judge_mark` meets its contract: each mark is its own line. Assumes nothing.
use borrow.Author.Tests.{eq-eqb, ne_eqb}
use Rattle.model.proofs.Marks.{mark-goes, mark-blank, mark-unread}
use Rattle.disc_read.proofs.judge_mark.Goals as goal

pub returns-then-mark-eq-RECORDED : goal.returns-then-mark-eq-RECORDED
returns-then-mark-eq-RECORDED c = mark-goes _ (eq-eqb _ _ c.if-mark-eq-RECORDED.true)

pub returns-then-mark-eq-BLANK : goal.returns-then-mark-eq-BLANK
returns-then-mark-eq-BLANK c = mark-blank _ (eq-eqb _ _ c.if-mark-eq-BLANK.true)

pub returns : goal.returns
returns c = mark-unread _ (ne_eqb _ _ c.if-mark-eq-BLANK.false) (ne_eqb _ _ c.if-mark-eq-RECORDED.false)
