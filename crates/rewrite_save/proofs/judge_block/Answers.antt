-- `rewrite_save::judge_block` meets its contract: each return by the law of its line. Assumes nothing.
use native.Mathlib.Omega.{arith}
use borrow.Author.Rules.{rules}
use Rattle.sparing_place.proofs.Laws.{table-lent}
use Rattle.rewrite_save.proofs.Saves.{block-stops, block-safe, block-before, block-after, block-fits}
use Rattle.rewrite_save.proofs.judge_block.Goals as goal

pub place_block-requires : goal.place_block-requires
place_block-requires c = table-lent _ _ c.are_lent-lent.ensures

pub returns-in_err-first : goal.returns-in_err-first
returns-in_err-first c = block-stops _ _ _ _ _ c.are_lent-lent.ensures c.in_err-first.ensures (search rules)

pub judge_run-requires : goal.judge_run-requires
judge_run-requires c =
    let safe = block-safe _ _ _ _ _ c.are_lent-lent.ensures c.in_ok-first.ensures in
    omega (arith, safe.on)

pub returns-in_err-judge_run : goal.returns-in_err-judge_run
returns-in_err-judge_run c =
    block-before _ _ _ _ _ c.are_lent-lent.ensures c.in_ok-first.ensures (c.judge_run.ensures _) c.in_err-judge_run.was (search rules)

pub up_from-after-requires : goal.up_from-after-requires
up_from-after-requires c =
    let safe = block-safe _ _ _ _ _ c.are_lent-lent.ensures c.in_ok-first.ensures in
    omega (arith, safe.on, safe.told.few)

pub judge_run-requires-2 : goal.judge_run-requires-2
judge_run-requires-2 c =
    let safe = block-safe _ _ _ _ _ c.are_lent-lent.ensures c.in_ok-first.ensures in
    omega (arith, safe.on, c.up_from-after.ensures)

pub returns-in_err-judge_run-2 : goal.returns-in_err-judge_run-2
returns-in_err-judge_run-2 c =
    block-after _ _ _ _ _ c.are_lent-lent.ensures c.in_ok-first.ensures (c.judge_run.ensures _) c.in_ok-judge_run.was c.up_from-after.ensures (c.judge_run-2.ensures _) c.in_err-judge_run-2.was (search rules)

pub returns : goal.returns
returns c =
    block-fits _ _ _ _ _ c.are_lent-lent.ensures c.in_ok-first.ensures (c.judge_run.ensures _) c.in_ok-judge_run.was c.up_from-after.ensures (c.judge_run-2.ensures _) c.in_ok-judge_run-2.was
