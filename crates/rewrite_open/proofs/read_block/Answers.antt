-- `rewrite_open::read_block` meets its contract: each return by the law of its line. Assumes nothing.
use mathlib.Core.Path.{sym, ap, ◌∙◌}
use lib.ListN.{length}
use native.Mathlib.Omega.{arith}
use borrow.Author.Rules.{rules}
use Rattle.sparing_current.proofs.Laws.{part-sector}
use Rattle.sparing_place.proofs.Laws.{table-lent}
use Rattle.rewrite_open.proofs.Reading.{read-stopped, read_found, read-place, read-room, read-sector, read-unrecorded, read-given}
use Rattle.rewrite_open.proofs.read_block.Goals as goal

pub place_block-requires : goal.place_block-requires
place_block-requires c = table-lent _ _ c.are_lent-lent.ensures

pub returns-in_err-first : goal.returns-in_err-first
returns-in_err-first c =
    let told = read-stopped _ _ _ _ _ _ c.are_lent-lent.ensures c.in_err-first.ensures (search rules) in
    record { value = told.0; out_after = told.1 }

pub up_from-at-requires : goal.up_from-at-requires
up_from-at-requires c =
    let found = read_found _ _ _ _ _ _ c.are_lent-lent.ensures c.in_ok-first.ensures in
    omega (arith, found.on, found.told.few)

pub judge_sector-requires : goal.judge_sector-requires
judge_sector-requires c = (read-place _ _ _ _ _ _ c.are_lent-lent.ensures c.in_ok-first.ensures c.up_from-at.ensures).0

pub returns-in_err-judge_sector : goal.returns-in_err-judge_sector
returns-in_err-judge_sector c =
    let told = read-unrecorded _ _ _ _ _ _ c.are_lent-lent.ensures c.in_ok-first.ensures c.up_from-at.ensures (c.judge_sector.ensures _) c.in_err-judge_sector.was (search rules) in
    record { value = told.0; out_after = told.1 }

pub slice_bounds-copy_from_slice-end : goal.slice_bounds-copy_from_slice-end
slice_bounds-copy_from_slice-end c = (read-place _ _ _ _ _ _ c.are_lent-lent.ensures c.in_ok-first.ensures c.up_from-at.ensures).1

pub copy_from_slice-requires : goal.copy_from_slice-requires
copy_from_slice-requires c =
    let lent = c.are_lent-lent.ensures in
    let placed = c.in_ok-first.ensures in
    read-room _ _ _ _ _ _ lent placed
    ∙ sym (ap length (part-sector c.args.disc.now c.args.marks.now _) ∙ read-sector _ _ _ _ _ _ lent placed c.up_from-at.ensures)

pub returns : goal.returns
returns c =
    let told = read-given _ _ _ _ _ _ c.are_lent-lent.ensures c.in_ok-first.ensures c.up_from-at.ensures (c.judge_sector.ensures _) c.in_ok-judge_sector.was (c.copy_from_slice.ensures.after ∙ part-sector c.args.disc.now c.args.marks.now _) in
    record { value = told.0; out_after = told.1 }
