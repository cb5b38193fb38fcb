-- `fields::has_regid` meets its contract, byte by byte. Assumes nothing.
use mathlib.Core.Path.{refl, sym, ap, ◌∙◌}
use mathlib.Core.Bool.{Bool}
use Prim.Native.Nat.{◌+◌}
use Rattle.std.proofs.Common.{nat_eq, slice_index_or}
use Rattle.std.specs.Prelude.{◌&&◌}
use native.Mathlib.Omega.{arith}
use Rattle.fields.specs.Bytes.{part, same}
use Rattle.fields.proofs.Laws.{part-same-next}
use Rattle.fields.proofs.has_regid.Goals as goal

pub loop-i-init : goal.loop-i-init
unfolding part same
loop-i-init c = refl

pub loop-i-preserved : goal.loop-i-preserved
loop-i-preserved c = let a = c.args in
    let v = c.loop-i in
    let next = part-same-next a.s.now a.regid.now a.at v.i (omega arith) (omega arith) in
    ap (λ (t : Bool). t && nat_eq (slice_index_or a.s.now (a.at + v.i) 0) (slice_index_or a.regid.now v.i 0)) v.invariant ∙ sym next
