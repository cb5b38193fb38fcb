-- `label::per_mille` meets its contract. Assumes nothing.
use Prim.Native.Nat.{◌*◌}
use native.Mathlib.Omega.{arith}
use native.Mathlib.Nat.{mod-lt}
use Rattle.label.specs.PerMille.{per_mille}
use Rattle.label.proofs.Laws.{down-most, told-most}
use Rattle.label.proofs.per_mille.Goals as goal

pub nearest-requires : goal.nearest-requires
nearest-requires c = let z = c.args in
    let h = down-most z.part z.whole c.requires.0 in
    let k = mod-lt (1000 * z.part) c.requires.1 in
    (omega arith, omega (arith, k))

pub overflow_cast-result : goal.overflow_cast-result
unfolding per_mille
overflow_cast-result c = let z = c.args in
    let h = told-most z.part z.whole c.requires.1 c.requires.0 c.nearest.ensures in
    omega (arith, h)

pub returns : goal.returns
unfolding per_mille
returns c = c.nearest.ensures
