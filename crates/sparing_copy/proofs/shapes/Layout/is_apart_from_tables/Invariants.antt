-- `sparing_copy::Layout::is_apart_from_tables` meets its contract. The invariant: the tables left answer for all. Assumes nothing.
use Rattle.std.proofs.Common.{◌≡◌, drop}
use Rattle.model.specs.Sparing.{apart_from}
use Rattle.sparing_copy.proofs.shapes.Layout.is_apart_from_tables.Given as goal

abbrev pub invariant-loop-t : goal.invariant-loop-t
invariant-loop-t l = apart_from l.m.0 (drop l.t-index l.tables) ≡ apart_from l.m.0 l.tables
