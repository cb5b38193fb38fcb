-- `sparing_copy::Entries::is_absent` meets its contract. The invariant: what was found and the entries left answer together for those from the first on. Assumes nothing.
use Rattle.std.proofs.Common.{◌≡◌, ◌&&◌, drop}
use Rattle.maps.specs.Kinds.{absent}
use Rattle.model.specs.Sparing.{mapped_of}
use Rattle.sparing_copy.specs.Layout.{listed}
use Rattle.sparing_copy.proofs.shapes.Entries.is_absent.Given as goal

abbrev pub invariant-loop-i : goal.invariant-loop-i
invariant-loop-i l = l.none && absent l.m.0 (mapped_of (drop l.i (listed l.self))) ≡ absent l.m.0 (mapped_of (drop l.from (listed l.self)))
