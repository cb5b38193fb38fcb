-- `address::logical_to_physical` meets its contract: each return is a case of the definition.
use mathlib.Core.Path.{◌≡◌, ◌∙◌, sym}
use native.Mathlib.Omega.{arith}
use borrow.Author.Rules.{rules}
use Rattle.std.specs.Prelude.{Err}
use Rattle.address.proofs.Laws.{told-physical, off-disc, past_end, inside, fits}
use Rattle.address.proofs.logical_to_physical.Goals as goal

pub returns-in_err-judge_span : goal.returns-in_err-judge_span
returns-in_err-judge_span c =
    let e : c.from_residual.result ≡ Err c.in_err-judge_span.field-0.0 = search rules in
    let told = told-physical _ _ (e ∙ off-disc _ _ (sym c.judge_span.ensures ∙ c.in_err-judge_span.was)) in record { value = told.0; result_value = told.1 }

pub returns-then-span-b : goal.returns-then-span-b
returns-then-span-b c =
    let told = told-physical _ _ (past_end _ _ (sym c.judge_span.ensures ∙ c.in_ok-judge_span.was) c.if-span-b.true) in record { value = told.0; result_value = told.1 }

pub overflow_add-result : goal.overflow_add-result
overflow_add-result c =
    let h = fits c.args.span (sym c.judge_span.ensures ∙ c.in_ok-judge_span.was) in omega arith

pub returns : goal.returns
returns c =
    let told = told-physical _ _ (inside _ _ (sym c.judge_span.ensures ∙ c.in_ok-judge_span.was) c.if-span-b.false) in record { value = told.0; result_value = told.1 }
