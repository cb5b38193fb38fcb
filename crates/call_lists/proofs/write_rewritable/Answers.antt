-- `call_lists::write_rewritable` meets its contract: the volume is the definition's, but for a number of tables that is out of range in both. Assumes nothing.
use Rattle.maps.specs.Kinds.{volume_with}
use Rattle.call_lists.proofs.Listing.{rewritable-written}
use Rattle.call_lists.proofs.write_rewritable.Goals as goal

pub returns : goal.returns
unfolding volume_with
returns c = let a = c.args in let told = rewritable-written a.partition a.size a.tables.now a.out.now c.table_count-count.ensures c.number_at-a.ensures c.number_at-b.ensures c.number_at-c.ensures c.number_at-d.ensures c.write_maps.ensures.value c.number_of.ensures c.write_maps.ensures.out_after in record { value = told.0; out_after = told.1 }
