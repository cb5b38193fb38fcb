-- `once_open::free_virtual` meets its contract: each return by the law of its way out. Assumes nothing.
use Rattle.std.proofs.Common.{◌≡◌, refl, sym, ◌∙◌, arith}
use borrow.Author.Rules.{rules}
use Rattle.std.specs.Prelude.{Err}
use Rattle.model.specs.Vat.{none}
use Rattle.model.specs.Examine.{lent_table}
use Rattle.model.specs.Once.{free_plan}
use Rattle.model.proofs.Sectors.{writes-none}
use Rattle.model.proofs.Plans.{carried}
use Rattle.examine.proofs.Calls.{going, stopped, stopped-own, goes_on, handed-on, table-long}
use Rattle.once_open.proofs.Laws.{entry-refused, entry_found, entry-tells, uncut}
use Rattle.once_open.proofs.free_virtual.Goals as goal

pub judge_once-requires : goal.judge_once-requires
judge_once-requires c = λ h. table-long c.args.table.now (sym c.is_lent-lent.ensures ∙ h)

pub returns-in_err-judge_once : goal.returns-in_err-judge_once
unfolding free_plan
returns-in_err-judge_once c = let a = c.args in
    let e : c.from_residual.result ≡ Err c.in_err-judge_once.field-0.0 = search rules in
    handed-on _ _ _ _ e (stopped _ _ a.table.now (lent_table a.table.now) a.held c.is_lent-lent.ensures c.judge_once.ensures _ _ c.in_err-judge_once.was)

pub look_up-requires : goal.look_up-requires
look_up-requires c = let a = c.args in
    let h = going _ _ a.table.now (lent_table a.table.now) a.held c.is_lent-lent.ensures c.judge_once.ensures c.in_ok-judge_once.was in
    omega (arith, h.entries, table-long a.table.now h.lengths)

pub returns-in_err-look_up : goal.returns-in_err-look_up
unfolding free_plan
returns-in_err-look_up c = let a = c.args in
    let e : c.from_residual-in_err-look_up.result ≡ Err c.in_err-look_up.field-0.0 = search rules in
    handed-on _ _ _ _ e
    (stopped-own _ _ a.table.now (lent_table a.table.now) a.held c.is_lent-lent.ensures c.judge_once.ensures _ _ c.in_ok-judge_once.was refl
    (entry-refused _ _ _ c.look_up.ensures c.in_err-look_up.was))

pub bounds-table-v : goal.bounds-table-v
bounds-table-v c = let a = c.args in
    let h = going _ _ a.table.now (lent_table a.table.now) a.held c.is_lent-lent.ensures c.judge_once.ensures c.in_ok-judge_once.was in
    omega (arith, h.entries, table-long a.table.now h.lengths, entry-tells a.table.now a.held a.v (entry_found _ _ _ c.look_up.ensures c.in_ok-look_up.was).0)

pub returns : goal.returns
unfolding free_plan none
returns c = let a = c.args in
    carried _ _ _ _
    (goes_on _ _ a.table.now (lent_table a.table.now) a.held c.is_lent-lent.ensures c.judge_once.ensures _ _ c.in_ok-judge_once.was refl
    (entry_found _ _ _ c.look_up.ensures c.in_ok-look_up.was).0)
    uncut
    (sym (writes-none _ _ _))
    refl
    refl
