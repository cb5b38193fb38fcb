-- `sparing_copies::copies_agree` meets its contract. The invariant: the copies left answer for all. Assumes nothing.
use Rattle.std.proofs.Common.{◌≡◌, drop}
use Rattle.sparing_copy.specs.Layout.{geometry_in}
use Rattle.sparing_copies.specs.Copies.{agreeing}
use Rattle.model.specs.Disc.{disc as disc_of}
use Rattle.sparing_copies.proofs.copies_agree.Given as goal

abbrev pub invariant-loop-table : goal.invariant-loop-table
invariant-loop-table l = agreeing (disc_of l.disc l.marks) (geometry_in l.fn.x) l.at.0 l.sequence (drop l.table-index l.tables) ≡ agreeing (disc_of l.disc l.marks) (geometry_in l.fn.x) l.at.0 l.sequence l.tables
