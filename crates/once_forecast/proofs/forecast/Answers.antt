-- `once_forecast::forecast` meets its contract: each return by the law of its line. Assumes nothing.
use Rattle.std.proofs.Common.{◌≡◌, sym, ap, ◌∙◌, arith}
use borrow.Author.Rules.{rules}
use Rattle.std.specs.Prelude.{Err}
use Rattle.refusal.specs.Verdict.{verdict_of}
use Rattle.model.specs.Examine.{lent_table}
use Rattle.examine.proofs.Calls.{going, span-length, table-long}
use Rattle.once_forecast.proofs.Laws.{forecast-stopped, forecast-told}
use Rattle.once_forecast.proofs.forecast.Goals as goal

pub judge_once-requires : goal.judge_once-requires
judge_once-requires c = λ h. table-long c.args.table.now (sym c.is_lent-lent.ensures ∙ h)

pub returns-in_err-volume : goal.returns-in_err-volume
returns-in_err-volume c = let a = c.args in
    let e : c.from_residual.result ≡ Err c.in_err-volume.field-0.0 = search rules in
    e ∙ forecast-stopped _ _ a.table.now a.held a.items.now c.is_lent-lent.ensures c.judge_once.ensures.verdict (ap verdict_of c.in_err-volume.was)

pub forecast_items-requires : goal.forecast_items-requires
forecast_items-requires c = let a = c.args in
    let lent = lent_table a.table.now in
    let h = going _ _ a.table.now lent a.held c.is_lent-lent.ensures c.judge_once.ensures c.in_ok-volume.was in
    let l = span-length _ _ a.table.now lent a.held c.is_lent-lent.ensures c.judge_once.ensures c.in_ok-volume.was in
    (h.entries, omega (arith, h.next, l), omega (arith, h.span, h.few, l))

pub returns : goal.returns
returns c = let a = c.args in
    forecast-told _ _ a.table.now a.held a.items.now c.is_lent-lent.ensures c.judge_once.ensures.verdict (ap verdict_of c.in_ok-volume.was)
    (span-length _ _ a.table.now (lent_table a.table.now) a.held c.is_lent-lent.ensures c.judge_once.ensures c.in_ok-volume.was)
    (c.forecast_items.ensures a.maps.now a.s)
