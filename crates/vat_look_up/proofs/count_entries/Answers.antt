-- `vat_look_up::count_entries` meets its contract: each return is a case of the definition. Assumes nothing.
use mathlib.Core.Path.{◌≡◌, sym, ◌∙◌}
use borrow.Author.Rules.{rules}
use Rattle.std.specs.Prelude.{Err}
use native.Mathlib.Omega.{arith}
use Rattle.vat_look_up.proofs.Laws.{long, not-counted, has-counted, counted-so}
use Rattle.vat_look_up.proofs.count_entries.Goals as goal

pub overflow_sub-result : goal.overflow_sub-result
overflow_sub-result c = let h = (long _ (sym c.judge_file.ensures ∙ c.in_ok-judge_file.was)).0 in omega arith

pub overflow_cast-result : goal.overflow_cast-result
overflow_cast-result c = let h = long _ (sym c.judge_file.ensures ∙ c.in_ok-judge_file.was) in omega (arith, h.1)

pub returns-in_err-judge_file : goal.returns-in_err-judge_file
returns-in_err-judge_file c =
    let e : c.from_residual.result ≡ Err c.in_err-judge_file.field-0.0 = search rules in
    counted-so _ (e ∙ not-counted _ (sym c.judge_file.ensures ∙ c.in_err-judge_file.was))

pub returns : goal.returns
returns c = counted-so _ (has-counted _ (sym c.judge_file.ensures ∙ c.in_ok-judge_file.was))
