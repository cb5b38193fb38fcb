-- `vat_look_up::read_previous` meets its contract: each return is a case of the definition. Assumes nothing.
use mathlib.Core.Path.{◌≡◌, sym, ◌∙◌}
use borrow.Author.Rules.{rules}
use Rattle.std.specs.Prelude.{Err}
use native.Mathlib.Omega.{arith}
use Rattle.vat_look_up.proofs.Laws.{long, not-told, told_none, told-block, previous-so}
use Rattle.vat_look_up.proofs.read_previous.Goals as goal

pub overflow_sub-file : goal.overflow_sub-file
overflow_sub-file c = let h = (long _ (sym c.judge_file.ensures ∙ c.in_ok-judge_file.was)).0 in omega arith

pub read-previous-requires : goal.read-previous-requires
read-previous-requires c = let h = (long _ (sym c.judge_file.ensures ∙ c.in_ok-judge_file.was)).0 in omega arith

pub returns-then-previous : goal.returns-then-previous
returns-then-previous c = previous-so _ (told_none _ (sym c.judge_file.ensures ∙ c.in_ok-judge_file.was) _ c.read-previous.ensures c.if-previous.true)

pub returns-in_err-judge_file : goal.returns-in_err-judge_file
returns-in_err-judge_file c =
    let e : c.from_residual.result ≡ Err c.in_err-judge_file.field-0.0 = search rules in
    previous-so _ (e ∙ not-told _ (sym c.judge_file.ensures ∙ c.in_err-judge_file.was))

pub returns : goal.returns
returns c = previous-so _ (told-block _ (sym c.judge_file.ensures ∙ c.in_ok-judge_file.was) _ c.read-previous.ensures c.if-previous.false)
