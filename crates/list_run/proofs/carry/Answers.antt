use Prim.Native.Nat.{◌+◌, ◌*◌, ◌<◌, ◌≤◌}
use mathlib.Core.Path.{ap, ◌∙◌}
use native.Mathlib.Omega.{arith}
use lib.ListN.{length, set}
use Rattle.model.specs.Disc.{disc}
use Rattle.list_step.specs.Stepped.{state_of}
use Rattle.list_run.proofs.Turns.{turn-first, turn-round, turn_last}
use Rattle.list_run.proofs.carry.Goals as goal

pub loop-i-init : goal.loop-i-init
loop-i-init c = turn-first _ _ _ _ _ _

pub loop-i-preserved : goal.loop-i-preserved
loop-i-preserved c = let v = c.loop-i in
    let a = c.turn-answered in
    let h : 6 * v.i + 6 ≤ length c.args.numbers.now = omega arith in
    turn-round _ _ _ _ _ _ (state_of (disc v.disc v.marks) v.table v.held) v.down _ v.passed _ v.replies _ v.i _ _ _ _ h a.ensures c.held_after-held.ensures c.is_cut-down.ensures c.passed_after-passed.ensures (c.tell.ensures ∙ ap (set v.replies v.i) c.number_for.ensures) a.auto.disc a.auto.marks a.auto.table v.invariant

pub returns : goal.returns
returns c = let v = c.loop-i in
    let h : length c.args.numbers.now < 6 * v.i + 6 = omega arith in
    turn_last _ _ _ _ _ _ (state_of (disc v.disc v.marks) v.table v.held) v.down v.passed v.replies (6 * v.i) v.i h v.invariant
