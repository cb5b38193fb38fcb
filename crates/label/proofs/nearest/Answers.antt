-- `label::nearest` meets its contract: each arm by the law of its kind of remainder. Assumes nothing.
use mathlib.Core.Path.{sym}
use Rattle.std.specs.Cmp.{ranked}
use Rattle.label.proofs.Laws.{below_half, above_half, at-half}
use Rattle.label.proofs.nearest.Goals as goal

pub returns-in-Less : goal.returns-in-Less
returns-in-Less c = let z = c.args in sym (below_half z.quotient z.remainder z.l (ranked _ _ _ c.in-Less.ensures))

pub returns-in-Greater : goal.returns-in-Greater
returns-in-Greater c = let z = c.args in sym (above_half z.quotient z.remainder z.l (ranked _ _ _ c.in-Greater.ensures))

pub returns-in-Equal : goal.returns-in-Equal
returns-in-Equal c = let z = c.args in sym (at-half z.quotient z.remainder z.l (ranked _ _ _ c.in-Equal.ensures))
