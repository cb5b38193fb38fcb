-- `list_run::carry` meets its contract. The loop's invariant: what is left of the list comes to what the whole comes to. Assumes nothing.
use Prim.Native.Nat.{◌*◌}
use Rattle.model.specs.Disc.{disc}
use Rattle.model.specs.Examine.{setting}
use Rattle.list_step.specs.Stepped.{state_of}
use Rattle.list_run.proofs.Turns.{Turn}
use Rattle.list_run.proofs.carry.Given as goal

abbrev pub invariant-loop-i : goal.invariant-loop-i
invariant-loop-i l = Turn (setting l.maps l.s l.l) l.numbers l.pool (state_of (disc l.initial.disc l.initial.marks) l.initial.table l.initial.held) l.skipped l.initial.replies (state_of (disc l.disc l.marks) l.table l.held) l.down l.passed l.replies (6 * l.i) l.i
