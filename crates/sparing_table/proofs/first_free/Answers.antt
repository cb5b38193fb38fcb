-- `sparing_table::first_free` meets its contract, by the place of the first entry of the original that no packet has. Assumes nothing.
use Rattle.std.proofs.Common.{◌+◌, ◌*◌, ◌≤◌, length, take, sym, ◌∙◌, arith, length-take, get_or-take}
use Rattle.model.specs.Sparing.{entries}
use Rattle.model.specs.Vat.{none}
use Rattle.sparing_table.specs.Table.{has}
use Rattle.sparing_table.proofs.Table.{entry_found, entry-missing, free-found, free-missing}
use Rattle.sparing_table.proofs.first_free.Goals as goal

pub returns-in_err-i : goal.returns-in_err-i
unfolding none
returns-in_err-i c = let l = take (2 * c.args.r) c.args.table.now in
    c.from_residual.ensures ∙ free-missing (entries l) (entry-missing (has none) l (sym c.find_entry.ensures.value ∙ c.in_err-i.was))

pub returns : goal.returns
unfolding none
returns c = let a = c.args in
    let t = a.table.now in
    let l = take (2 * a.r) t in
    let i = c.in_ok-i.i in
    let h : 2 * i + 2 ≤ length l = rw c.in_ok-i.was at c.find_entry.ensures.bound in
    free-found (entries l) _ _ _ (entry_found (has none) l i (sym c.find_entry.ensures.value ∙ c.in_ok-i.was) h) (c.mapped_to_physical.ensures ∙ sym (get_or-take (2 * a.r) t (2 * i + 1) 0 (omega (arith, length-take (2 * a.r) t))))
