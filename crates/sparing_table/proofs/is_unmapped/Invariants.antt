-- `sparing_table::is_unmapped` meets its contract. The invariant: what was found and the entries left answer together for all. Assumes nothing.
use Rattle.std.proofs.Common.{◌≡◌, ◌*◌, ◌&&◌, take, drop}
use Rattle.maps.specs.Kinds.{absent}
use Rattle.model.specs.Sparing.{entries, mapped_of}
use Rattle.sparing_table.proofs.is_unmapped.Given as goal

abbrev pub invariant-loop-i : goal.invariant-loop-i
invariant-loop-i l = l.none && absent l.m.0 (mapped_of (drop l.i (entries (take (2 * l.n) l.table)))) ≡ absent l.m.0 (mapped_of (entries (take (2 * l.n) l.table)))
