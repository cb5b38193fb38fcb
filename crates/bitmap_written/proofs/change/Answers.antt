-- `bitmap_written::change` meets its contract: a run in three parts. Assumes nothing.
use Rattle.std.proofs.Common.{rules}
use Prim.Native.Nat.{◌+◌, ◌-◌, ◌*◌, ◌≤◌}
use mathlib.Core.Path.{◌∙◌}
use native.Mathlib.Omega.{arith}
use lib.ListN.{length}
use Rattle.bitmap.proofs.Windows.{state-small}
use Rattle.bitmap_written.proofs.After.{part-long, part-kept, two-parts, three-parts}
use Rattle.bitmap_written.proofs.change.Goals as goal

pub fill-requires : goal.fill-requires
fill-requires c = let room : 192 + (c.args.first + (8 * c.div_ceil-q.result - c.args.first)) ≤ 8 * length c.args.b.now = omega arith in
    let long = part-long _ _ _ _ _ c.change_bits-2.ensures room (state-small _) in
    let kept = part-kept _ _ _ _ _ c.change_bits-2.ensures room (state-small _) in
    (omega (arith, long), omega arith, λ i l u. kept i (omega arith) ∙ c.requires.2 i (omega arith) (omega arith), λ k. search rules)

pub change_bits-requires-3 : goal.change_bits-requires-3
change_bits-requires-3 c = let t = two-parts _ _ _ _ _ _ _ _ c.change_bits-2.ensures (omega arith) c.fill.ensures (omega arith) (state-small _) in
    (omega (arith, t.0), omega arith, λ i l u. t.1 i (omega arith) ∙ c.requires.2 i (omega arith) (omega arith))

pub returns : goal.returns
returns c = three-parts _ _ _ _ _ _ _ _ _ _ _ _ c.change_bits-2.ensures (omega arith) c.fill.ensures (omega arith) c.change_bits-3.ensures (omega arith)
