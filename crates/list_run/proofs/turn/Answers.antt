-- `list_run::turn` meets its contract: the six numbers are read as the definition reads them. Assumes nothing.
use Prim.Native.Nat.{◌+◌, ◌-◌}
use mathlib.Core.Path.{◌≡◌}
use native.Mathlib.Omega.{arith}
use Rattle.model.specs.Disc.{disc}
use Rattle.model.specs.Examine.{setting}
use Rattle.list_step.specs.Stepped.{state_of}
use Rattle.list_run.proofs.Reading.{read_step}
use Rattle.list_run.proofs.turn.Goals as goal

pub returns : goal.returns
returns c = let a = c.args in
    let e = setting a.maps.now a.s a.l in
    let st = state_of (disc a.disc.now a.marks.now) a.table.now a.held in
    let from = c.limited-from.result in
    let count = c.limited-count.result in
    let w : from + count - from ≡ count = omega arith in
    read_step e st a.numbers.now a.pool.now a.down a.at _ _ _ _ _ _ _ _ c.calling_after-calling.ensures c.cut_of-cut.ensures c.limited-from.ensures c.limited-count.ensures w c.step.ensures
