use Prim.Native.Nat.{◌*◌}
use native.Mathlib.Omega.{arith}
use Rattle.model.specs.Writes.{no_cut}
use Rattle.disc_writes.proofs.Laws.{part-zeros, written-first, written-next, written-last, write-there}
use Rattle.disc_writes.proofs.write_zeros.Goals as goal

pub loop-written-init : goal.loop-written-init
loop-written-init c = written-first _ _ _ _ _ _

pub loop-written-preserved : goal.loop-written-preserved
unfolding no_cut
loop-written-preserved c = let l = c.loop-written in
    let count = c.args.count in
    written-next _ _ _ _ _ _ _ _ _ _ c.loop-written-test.true
    (part-zeros (2048 * count) (2048 * l.written) 2048 (omega arith))
    (write-there _ _ _ _ _ c.up_from.ensures c.write_sector.ensures)
    c.write_sector.auto.disc
    c.write_sector.auto.marks
    l.invariant

pub returns : goal.returns
returns c = written-last _ _ _ _ _ _ _ _ c.loop-written-test.false c.loop-written.invariant
