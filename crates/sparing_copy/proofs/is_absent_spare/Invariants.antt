-- `sparing_copy::is_absent_spare` meets its contract. The invariant: what was found and the spares left answer together for all. Assumes nothing.
use Rattle.std.proofs.Common.{◌≡◌, ◌&&◌, drop}
use Rattle.maps.specs.Kinds.{absent}
use Rattle.model.specs.Both.{spare_entries}
use Rattle.model.specs.Sparing.{mapped_of}
use Rattle.sparing_copy.proofs.is_absent_spare.Given as goal

abbrev pub invariant-loop-spare : goal.invariant-loop-spare
invariant-loop-spare l = l.none && absent l.m.0 (mapped_of (drop l.spare-index (spare_entries l.spares))) ≡ absent l.m.0 (mapped_of (spare_entries l.spares))
