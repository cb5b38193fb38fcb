-- `make_volume::write_empty` meets its contract. Assumes nothing.
use Rattle.model.specs.Writes.{writes, no_cut}
use Rattle.model.specs.Vat.{none}
use Rattle.disc_writes.proofs.Laws.{write_same}
use Rattle.make_volume.proofs.Blank.{empty-embedded}
use Rattle.make_volume.proofs.write_empty.Goals as goal

pub write_icb-requires-clause-data_below : goal.write_icb-requires-clause-data_below
write_icb-requires-clause-data_below c = empty-embedded

pub returns : goal.returns
unfolding writes no_cut none
returns c = write_same _ _ _ _ _ _ _ c.write_icb.ensures c.write_sector.ensures
