-- `vat_icb_written::write_icb` meets its contract: the entry, its allocation and the tag over both (`body-written`, `icb-written`). Assumes nothing.
use native.Mathlib.Omega.{arith}
use lib.ListN.{length-take}
use Rattle.vat_icb_written.proofs.Laws.{bytes_most, body-written, icb-written}
use Rattle.vat_icb_written.proofs.write_icb.Goals as goal

pub slice_bounds-write_entry-end-2 : goal.slice_bounds-write_entry-end-2
slice_bounds-write_entry-end-2 c = simp length-take (omega arith)

pub write_entry-requires : goal.write_entry-requires
write_entry-requires c = record { front_len = simp length-take (omega arith); n_bound = omega (arith, c.args.vat.now.few) }

pub slice_bounds-crc-end : goal.slice_bounds-crc-end
slice_bounds-crc-end c = omega (arith, bytes_most c.count-n.result)

pub overflow_cast-covered : goal.overflow_cast-covered
overflow_cast-covered c = omega (arith, bytes_most c.count-n.result)

pub slice_bounds-write_tag-end-2 : goal.slice_bounds-write_tag-end-2
slice_bounds-write_tag-end-2 c = simp length-take (omega arith)

pub write_tag-requires : goal.write_tag-requires
write_tag-requires c = simp length-take (omega arith)

pub returns : goal.returns
returns c = let a = c.args in
    let t = a.vat.now.entries.now in
    let previous = a.vat.now.previous.0 in
    icb-written a.k.0 t _ _ c.count-n.result previous _ _ c.count-n.ensures
    (body-written a.k.0 t a.sector.now _ _ c.count-n.result previous c.write_entry.ensures c.write_allocation.ensures)
    c.allocation_bytes.ensures
    c.crc-crc.ensures
    c.write_tag.ensures
