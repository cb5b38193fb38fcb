-- `sparing_writes::gather` meets its contract. The loop's invariant: what was gathered, and what is left to gather, are all. Assumes nothing.
use Rattle.std.proofs.Common.{take}
use Rattle.model.specs.Disc.{disc as disc_of}
use Rattle.sparing_copy.specs.Layout.{geometry_in}
use Rattle.sparing_writes.proofs.Order.{Gathering}
use Rattle.sparing_writes.specs.Order.{numbers_of}
use Rattle.sparing_writes.proofs.gather.Given as goal

abbrev pub invariant-loop-table : goal.invariant-loop-table
invariant-loop-table l = Gathering (disc_of l.disc l.marks) (geometry_in l.fn.x) l.sequence l.wanted l.tables (take l.initial.count (numbers_of l.initial.places)) l.initial.count l.table-index (numbers_of l.places) l.count
