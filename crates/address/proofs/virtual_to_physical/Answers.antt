-- `address::virtual_to_physical` meets its contract: the span is judged, then the two translations are composed.
use mathlib.Core.Path.{◌≡◌, ◌∙◌, sym, ap}
use borrow.Author.Rules.{rules}
use Rattle.std.specs.Prelude.{Err}
use Rattle.address.proofs.Laws.{told-virtual, off-disc-first, onward, composed}
use Rattle.address.proofs.virtual_to_physical.Goals as goal

pub returns-in_err-judge_span : goal.returns-in_err-judge_span
returns-in_err-judge_span c =
    let e : c.from_residual.result ≡ Err c.in_err-judge_span.field-0.0 = search rules in
    let told = told-virtual _ _ _ (e ∙ off-disc-first _ _ _ (sym c.judge_span.ensures ∙ c.in_err-judge_span.was)) in record { value = told.0; result_value = told.1 }

pub returns-in_err-b : goal.returns-in_err-b
returns-in_err-b c =
    let e : c.from_residual-in_err-b.result ≡ Err c.in_err-b.field-0.0 = search rules in
    let told = told-virtual _ _ _
    (e ∙ ap (onward _) (sym c.in_err-b.was ∙ c.virtual_to_logical.ensures.value) ∙
    composed _ _ _ (sym c.judge_span.ensures ∙ c.in_ok-judge_span.was)) in record { value = told.0; result_value = told.1 }

pub returns : goal.returns
returns c = let told = told-virtual _ _ _
    (c.logical_to_physical.ensures.value ∙
    ap (onward _) (sym c.in_ok-b.was ∙ c.virtual_to_logical.ensures.value) ∙
    composed _ _ _ (sym c.judge_span.ensures ∙ c.in_ok-judge_span.was)) in record { value = told.0; result_value = told.1 }
