use Prim.Native.Nat.{ℕ}
use mathlib.Core.Path.{refl, ap, ◌∙◌}
use native.Mathlib.Omega.{arith}
use mathlib.Core.List.{List}
use lib.Seq.{take_all}
use Rattle.fields_written.proofs.Laws.{writing-none, writing-next}
use Rattle.fields.specs.Number.{quads}
use Rattle.fields.specs.Bytes.{splice}
use Rattle.fields_written.proofs.write_numbers.Goals as goal

pub loop-i-init : goal.loop-i-init
loop-i-init c = (refl, writing-none _ _)

pub loop-i-preserved : goal.loop-i-preserved
loop-i-preserved c = let v = c.loop-i in
    let a = c.args in (
      c.write.auto.s ∙ v.invariant.0,
      c.write.ensures ∙ rw v.invariant.1 (writing-next a.s.now a.at a.numbers.now v.i (omega arith) (omega arith)),
    )

pub returns : goal.returns
returns c = let v = c.loop-i in
    let a = c.args in
    v.invariant.1 ∙ ap (λ (l : List ℕ). splice a.s.now a.at (quads l)) (take_all v.i a.numbers.now (omega arith))
