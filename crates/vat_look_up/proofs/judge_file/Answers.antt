-- `vat_look_up::judge_file` meets its contract: each return is a case of the tests. Assumes nothing.
use mathlib.Core.Path.{sym, ◌∙◌}
use borrow.Author.Tests.{not-true, not-false}
use Rattle.fields.specs.Regid.{identifier, regid}
use Rattle.fields.proofs.Laws.{regid-told}
use Rattle.model.specs.Vat.{vat_name}
use Rattle.vat_look_up.proofs.Laws.{short, uneven, unnamed, too_many, judged}
use Rattle.vat_look_up.proofs.judge_file.Goals as goal

pub returns-then-bytes-lt-TAIL : goal.returns-then-bytes-lt-TAIL
returns-then-bytes-lt-TAIL c = short _ c.if-bytes-lt-TAIL.true

pub returns-then-tail-ne0 : goal.returns-then-tail-ne0
returns-then-tail-ne0 c = uneven _ c.if-bytes-lt-TAIL.false c.if-tail-ne0.true

pub returns-then-not-has_regid : goal.returns-then-not-has_regid
unfolding vat_name regid identifier
returns-then-not-has_regid c = unnamed _ c.if-bytes-lt-TAIL.false c.if-tail-ne0.false (sym (regid-told _ _ vat_name) ∙ sym c.has_regid.ensures ∙ not-true _ c.if-not-has_regid.true-raw)

pub returns-then-tail-gt-MOST : goal.returns-then-tail-gt-MOST
unfolding vat_name regid identifier
returns-then-tail-gt-MOST c = too_many _ c.if-bytes-lt-TAIL.false c.if-tail-ne0.false (sym (regid-told _ _ vat_name) ∙ sym c.has_regid.ensures ∙ not-false _ c.if-not-has_regid.false-raw) c.if-tail-gt-MOST.true

pub returns : goal.returns
unfolding vat_name regid identifier
returns c = judged _ c.if-bytes-lt-TAIL.false c.if-tail-ne0.false (sym (regid-told _ _ vat_name) ∙ sym c.has_regid.ensures ∙ not-false _ c.if-not-has_regid.false-raw) c.if-tail-gt-MOST.false
