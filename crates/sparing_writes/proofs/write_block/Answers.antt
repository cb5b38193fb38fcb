use native.Mathlib.Omega.{arith}
use Rattle.sparing_writes.proofs.Laws.{rewriting-first, rewriting-next, rewriting-last, picked-there}
use Rattle.sparing_writes.proofs.write_block.Goals as goal

pub loop-k-init : goal.loop-k-init
loop-k-init c = rewriting-first _ _ _ _ _

pub write_picked-requires : goal.write_picked-requires
write_picked-requires c = let m = c.loop-k.invariant.run.marks-length in
    let b = c.loop-k.invariant.run.bytes-length in record { at_in_bounds = omega (arith, m, c.requires.first_in_bounds.0, c.up_from.ensures); disc_len = omega (arith, b, m, c.requires.disc_len); block_len = c.requires.block_len }

pub loop-k-preserved : goal.loop-k-preserved
loop-k-preserved c = rewriting-next _ _ _ _ (record { sized = c.requires.disc_len }) c.requires.first_in_bounds.0 c.requires.first_in_bounds.1 c.requires.block_len _ _ _ _ _ c.loop-k-test.true
    (picked-there _ _ _ _ _ c.up_from.ensures c.up_from-place.ensures c.write_picked.ensures)
    c.write_picked.auto.disc
    c.write_picked.auto.marks
    c.loop-k.invariant

pub returns : goal.returns
returns c = rewriting-last _ _ _ _ _ _ _ _ c.loop-k-test.false c.loop-k.invariant
