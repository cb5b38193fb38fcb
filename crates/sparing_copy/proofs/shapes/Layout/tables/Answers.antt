-- `sparing_copy::Layout::tables` meets its contract. Assumes nothing.
use Rattle.std.proofs.Common.{arith, length-take}
use Rattle.sparing_copy.proofs.Places.{tables-below}
use Rattle.sparing_copy.proofs.shapes.Layout.tables.Goals as goal

pub returns-clause-few : goal.returns-clause-few
returns-clause-few c = let x = c.args.self.now in omega (arith, length-take c.from.result x.volume.tables, c.from.ensures, c.requires)

pub returns-clause-on : goal.returns-clause-on
returns-clause-on c = let x = c.args.self.now in λ on. rw c.from.ensures (tables-below x.volume.tables x.count x.sectors on)
