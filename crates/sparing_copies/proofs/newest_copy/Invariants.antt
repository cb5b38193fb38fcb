-- `sparing_copies::newest_copy` meets its contract. The invariant: it is the newest of the copies passed, from the last down. Assumes nothing.
use Rattle.std.proofs.Common.{◌≡◌, drop}
use Rattle.sparing_copies.specs.Copies.{newest_of}
use Rattle.sparing_copy.specs.Layout.{geometry_in}
use Rattle.model.specs.Disc.{disc as disc_of}
use Rattle.sparing_copies.proofs.newest_copy.Given as goal

abbrev pub invariant-loop-i : goal.invariant-loop-i
invariant-loop-i l = l.newest ≡ newest_of (disc_of l.disc l.marks) (geometry_in l.fn.x) (drop l.i l.tables)
