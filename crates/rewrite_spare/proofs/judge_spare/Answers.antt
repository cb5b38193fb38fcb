-- `rewrite_spare::judge_spare` meets its contract: the common tests, and then its own. Assumes nothing.
use native.Mathlib.Omega.{arith}
use borrow.Author.Rules.{rules}
use Rattle.sparing_current.specs.Held.{count_held}
use Rattle.sparing_place.proofs.Laws.{table-lent, translation-asks}
use Rattle.rewrite_spare.proofs.Spares.{spare-stops, spare-number, spare-one, spare-none, spare-last, spare-fits}
use Rattle.rewrite_spare.proofs.judge_spare.Goals as goal

pub judge-requires : goal.judge-requires
judge-requires c = table-lent _ _ c.are_lent-lent.ensures

pub returns-in_err-looked : goal.returns-in_err-looked
returns-in_err-looked c = spare-stops _ _ _ _ _ c.are_lent-lent.ensures c.in_err-looked.ensures (search rules)

pub judge_start-requires : goal.judge_start-requires
unfolding count_held
judge_start-requires c =
    let asks = translation-asks c.in_ok-looked.ensures in
    (omega (arith, asks.0), asks.1)

pub returns-in_err-judge_start : goal.returns-in_err-judge_start
returns-in_err-judge_start c = spare-number _ _ _ _ _ c.are_lent-lent.ensures c.in_ok-looked.ensures c.judge_start.ensures c.in_err-judge_start.was (search rules)

pub returns-then-layout-lt2 : goal.returns-then-layout-lt2
returns-then-layout-lt2 c = spare-one _ _ _ _ _ c.are_lent-lent.ensures c.in_ok-looked.ensures c.judge_start.ensures c.in_ok-judge_start.was c.if-layout-lt2.true

pub first_free-requires : goal.first_free-requires
first_free-requires c = omega (arith, (translation-asks c.in_ok-looked.ensures).0, c.count_held-entries.ensures)

pub returns-in_err-first : goal.returns-in_err-first
returns-in_err-first c =
    spare-none _ _ _ _ _ c.are_lent-lent.ensures c.in_ok-looked.ensures c.judge_start.ensures c.in_ok-judge_start.was c.if-layout-lt2.false
    c.count_held-entries.ensures c.first_free.ensures
    c.in_err-first.ensures.value (search rules)

pub returns-in_err-next : goal.returns-in_err-next
returns-in_err-next c =
    spare-last _ _ _ _ _ c.are_lent-lent.ensures c.in_ok-looked.ensures c.judge_start.ensures c.in_ok-judge_start.was c.if-layout-lt2.false
    c.count_held-entries.ensures c.first_free.ensures
    c.in_ok-first.ensures.ok_part c.sequence_held-sequence.ensures _ c.checked_add.ensures
    (omega arith) c.in_err-next.ensures.value (search rules)

pub returns : goal.returns
returns c =
    spare-fits _ _ _ _ _ c.are_lent-lent.ensures c.in_ok-looked.ensures c.judge_start.ensures c.in_ok-judge_start.was c.if-layout-lt2.false
    c.count_held-entries.ensures c.first_free.ensures
    c.in_ok-first.ensures.ok_part c.sequence_held-sequence.ensures _ c.checked_add.ensures
    c.in_ok-next.ensures.ok_part
