-- `sparing_table::find_packet` meets its contract: by its entry, or in its place. Assumes nothing.
use Rattle.std.proofs.Common.{◌+◌, ◌*◌, ◌≤◌, length, take, sym, ◌∙◌, arith, length-take, get_or-take}
use Rattle.model.specs.Sparing.{entries}
use Rattle.sparing_table.specs.Table.{has}
use Rattle.sparing_table.proofs.Table.{entry_found, entry-missing, packet-mapped, packet-in-place}
use Rattle.sparing_table.proofs.find_packet.Goals as goal

pub returns-in-Some : goal.returns-in-Some
returns-in-Some c = let a = c.args in
    let t = a.table.now in
    let l = take (2 * a.r) t in
    let i = c.in-Some.i in
    let h : 2 * i + 2 ≤ length l = rw c.in-Some.is at c.find_entry.ensures.bound in
    c.mapped_to_physical.ensures
    ∙ sym (get_or-take (2 * a.r) t (2 * i + 1) 0 (omega (arith, length-take (2 * a.r) t)))
    ∙ packet-mapped a.s (entries l) a.p.0 _ _ c.requires.p_value.0 (entry_found (has a.p.0) l i (sym c.find_entry.ensures.value ∙ c.in-Some.is) h)

pub returns-in-None : goal.returns-in-None
returns-in-None c = let a = c.args in
    let l = take (2 * a.r) a.table.now in
    c.sector_of.ensures ∙ packet-in-place a.s (entries l) a.p.0 c.requires.p_value.0 (entry-missing (has a.p.0) l (sym c.find_entry.ensures.value ∙ c.in-None.is))
