-- `once_open::fullness` meets its contract: each return by the law of its line. Assumes nothing.
use Rattle.std.proofs.Common.{◌≡◌, sym, ap, ◌∙◌, arith}
use borrow.Author.Rules.{rules}
use Rattle.std.specs.Prelude.{Err}
use Rattle.refusal.specs.Verdict.{verdict_of}
use Rattle.model.specs.Examine.{lent_table}
use Rattle.examine.proofs.Calls.{going, span-length, table-long}
use Rattle.once_open.proofs.Laws.{full-stopped, full-told}
use Rattle.once_open.proofs.fullness.Goals as goal

pub judge_once-requires : goal.judge_once-requires
judge_once-requires c = λ h. table-long c.args.table.now (sym c.is_lent-lent.ensures ∙ h)

pub returns-in_err-volume : goal.returns-in_err-volume
returns-in_err-volume c =
    let e : c.from_residual.result ≡ Err c.in_err-volume.field-0.0 = search rules in
    e ∙ full-stopped _ _ c.args.table.now c.args.held c.is_lent-lent.ensures c.judge_once.ensures.verdict (ap verdict_of c.in_err-volume.was)

pub per_mille-requires : goal.per_mille-requires
per_mille-requires c = let a = c.args in
    let h = going _ _ a.table.now (lent_table a.table.now) a.held c.is_lent-lent.ensures c.judge_once.ensures c.in_ok-volume.was in
    let l = span-length _ _ a.table.now (lent_table a.table.now) a.held c.is_lent-lent.ensures c.judge_once.ensures c.in_ok-volume.was in
    (omega (arith, h.next, c.next_held-next.ensures, l), omega (arith, h.some, l))

pub returns : goal.returns
returns c = let a = c.args in
    full-told _ _ a.table.now a.held c.is_lent-lent.ensures c.judge_once.ensures.verdict (ap verdict_of c.in_ok-volume.was)
    c.next_held-next.ensures
    (span-length _ _ a.table.now (lent_table a.table.now) a.held c.is_lent-lent.ensures c.judge_once.ensures c.in_ok-volume.was)
    c.per_mille.ensures
