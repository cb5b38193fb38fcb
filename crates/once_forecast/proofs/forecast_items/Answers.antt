use native.Mathlib.Omega.{arith}
use Rattle.once_forecast.proofs.Laws.{foreseen-first, foreseen-stop, foreseen-next, foreseen-end}
use Rattle.once_forecast.proofs.forecast_items.Goals as goal

pub loop-i-init : goal.loop-i-init
loop-i-init c = foreseen-first _ _ _ c.requires.0 c.requires.1

pub judge_item-requires : goal.judge_item-requires
judge_item-requires c = c.loop-i.invariant.few

pub overflow_cast-result : goal.overflow_cast-result
overflow_cast-result c = let f = c.loop-i.invariant in
    omega (arith, f.index, f.within, c.requires.2)

pub returns-in-Err : goal.returns-in-Err
returns-in-Err c = foreseen-stop _ _ _ _ _ c.loop-i.invariant c.loop-i-test.true c.judge_item.ensures c.in-Err.is

pub after_item-held-requires : goal.after_item-held-requires
after_item-held-requires c = let f = c.loop-i.invariant in
    (f.few, omega (arith, f.within, c.requires.2))

pub loop-i-preserved : goal.loop-i-preserved
loop-i-preserved c = foreseen-next _ _ _ _ _ c.loop-i.invariant c.loop-i-test.true c.judge_item.ensures c.in_default.is
    c.after_item-held.ensures

pub returns : goal.returns
returns c = foreseen-end _ _ _ _ _ c.loop-i.invariant c.loop-i-test.false c.next_held.ensures c.entries_held.ensures
