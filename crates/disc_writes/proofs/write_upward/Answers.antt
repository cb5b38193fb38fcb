use Prim.Native.Nat.{ℕ, ◌+◌, ◌-◌, ◌*◌}
use mathlib.Core.Path.{◌≡◌, ap}
use native.Mathlib.Omega.{arith}
use lib.ListN.{take, drop}
use Rattle.fields.specs.Bytes.{part}
use Rattle.disc_writes.proofs.Laws.{written-first, written-next, written-last, write-there}
use Rattle.disc_writes.proofs.write_upward.Goals as goal

pub loop-i-init : goal.loop-i-init
loop-i-init c = written-first _ _ _ _ _ _

pub loop-i-preserved : goal.loop-i-preserved
unfolding part
loop-i-preserved c = let l = c.loop-i in
    let b = c.args.bytes.now in
    let size : 2048 * l.i + 2048 - 2048 * l.i ≡ 2048 = omega arith in
    written-next _ _ _ _ _ _ _ _ _ _ c.loop-i-test.true
    (ap (λ (x : ℕ). take x (drop (2048 * l.i) b)) size)
    (write-there _ _ _ _ _ c.up_from.ensures c.write_sector.ensures)
    c.write_sector.auto.disc
    c.write_sector.auto.marks
    l.invariant

pub returns : goal.returns
returns c = written-last _ _ _ _ _ _ _ _ c.loop-i-test.false c.loop-i.invariant
