-- `sparing_written::put_free` meets its contract. The invariant: the spares passed are put in. Assumes nothing.
use Rattle.std.proofs.Common.{◌≡◌, take}
use Rattle.model.specs.Both.{spare_entries}
use Rattle.model.specs.Sparing.{flat}
use Rattle.fields.specs.Number.{quads}
use Rattle.fields.specs.Bytes.{splice}
use Rattle.sparing_written.proofs.put_free.Given as goal

abbrev pub invariant-loop-i : goal.invariant-loop-i
invariant-loop-i l = l.sector ≡ splice l.initial.sector 56 (quads (flat (spare_entries (take l.i l.spares))))
