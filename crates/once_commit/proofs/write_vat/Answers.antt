-- `once_commit::write_vat` meets its contract: the data and then the ICB are the writes of a commit (`commit-written`). Assumes nothing.
use Rattle.std.proofs.Common.{◌≡◌, ◌≤◌, ℕ, List, [], length, take, ap, arith}
use Rattle.std.proofs.lemmas.List.{length-take-le}
use Rattle.model.specs.declared.Record.{Record}
use Rattle.model.specs.Examine.{setting}
use Rattle.model.specs.Once.{entries_held}
use Rattle.model.specs.VatWritten.{data_sectors}
use Rattle.disc_writes.proofs.Laws.{write-there}
use Rattle.once_commit.proofs.Commits.{vat-room, data-count, run-there, commit-written}
use Rattle.once_commit.proofs.write_vat.Goals as goal

-- the entries of the VAT are the first N of the table
counted : (t : List ℕ) (held : Record) {n : ℕ} → n ≡ entries_held held → (entries_held held ≤ 4096) × (entries_held held ≤ length t) → length (take n t) ≡ n
counted t held {n} en h = length-take-le n t (omega (arith, en, h.1))

pub sector_of-requires : goal.sector_of-requires
sector_of-requires c = let h = vat-room _ _ _ _ _ c.entries_held-n.ensures c.next_held-next.ensures c.requires.held_in_bounds.0 in
    omega (arith, h, c.requires.held_in_bounds.1)

pub write_vat_data-requires-clause-n_in_bounds : goal.write_vat_data-requires-clause-n_in_bounds
write_vat_data-requires-clause-n_in_bounds c = let h = vat-room _ _ _ _ _ c.entries_held-n.ensures c.next_held-next.ensures c.requires.held_in_bounds.0 in
    let n = ap data_sectors (counted c.args.table.now c.args.held c.entries_held-n.ensures c.requires.held_bound) in
    (omega (arith, h, n, c.sector_of.ensures), c.requires.held_in_bounds.1)

pub overflow_add-k : goal.overflow_add-k
overflow_add-k c = let h = vat-room _ _ _ _ _ c.entries_held-n.ensures c.next_held-next.ensures c.requires.held_in_bounds.0 in
    omega (arith, h, c.requires.held_in_bounds.1, c.data_sectors-count.ensures)

pub sector_of-at-requires : goal.sector_of-at-requires
sector_of-at-requires c = let h = vat-room _ _ _ _ _ c.entries_held-n.ensures c.next_held-next.ensures c.requires.held_in_bounds.0 in
    omega (arith, h, c.requires.held_in_bounds.1, c.data_sectors-count.ensures)

pub overflow_add-count : goal.overflow_add-count
overflow_add-count c = let h = vat-room _ _ _ _ _ c.entries_held-n.ensures c.next_held-next.ensures c.requires.held_in_bounds.0 in
    omega (arith, h, c.requires.held_in_bounds.1, c.data_sectors-count.ensures)

pub write_sector-requires-clause-at_in_bounds : goal.write_sector-requires-clause-at_in_bounds
write_sector-requires-clause-at_in_bounds c = let h = vat-room _ _ _ _ _ c.entries_held-n.ensures c.next_held-next.ensures c.requires.held_in_bounds.0 in
    omega (arith, h, c.data_sectors-count.ensures, c.sector_of-at.ensures, c.write_vat_data.auto.marks)

pub returns : goal.returns
returns c =
    let n = ap data_sectors (counted c.args.table.now c.args.held c.entries_held-n.ensures c.requires.held_bound) in
    commit-written (setting [] c.args.s 0) _ _ _ _ _ _ _ _ _ _ _ c.entries_held-n.ensures c.next_held-next.ensures c.last_held-last.ensures
    c.data_sectors-count.ensures
    (data-count _ _ _ _ _ _ _ n (run-there _ _ _ _ _ c.sector_of.ensures c.write_vat_data.ensures))
    c.write_icb.ensures
    (write-there _ _ _ _ _ c.sector_of-at.ensures c.write_sector.ensures)
