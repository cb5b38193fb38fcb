-- `rewrite_open::open_rewritable` meets its contract: each return by the law of its line. Assumes nothing.
use borrow.Author.Rules.{rules}
use Rattle.sparing_current.proofs.Laws.{part-sector}
use Rattle.sparing_current.proofs.Looks.{look-place}
use Rattle.rewrite_open.proofs.Opens.{open-stopped, open-room, open-opened}
use Rattle.rewrite_open.proofs.open_rewritable.Goals as goal

pub returns-in_err-looked : goal.returns-in_err-looked
returns-in_err-looked c =
    let told = open-stopped _ _ _ c.is_lent-lent.ensures c.in_err-looked.ensures (search rules) in
    record { value = told.0; table_after = told.1 }

pub slice_bounds-fill_table-end : goal.slice_bounds-fill_table-end
slice_bounds-fill_table-end c = (look-place c.in_ok-looked.ensures).0

pub fill_table-requires-clause-b_bound : goal.fill_table-requires-clause-b_bound
fill_table-requires-clause-b_bound c = open-room _ _ _ c.is_lent-lent.ensures c.in_ok-looked.ensures (part-sector _ _ _)

pub returns : goal.returns
returns c =
    let told = open-opened _ _ _ c.is_lent-lent.ensures c.in_ok-looked.ensures (part-sector _ _ _) c.fill_table.ensures in
    record { value = told.0; table_after = told.1 }
