-- `fields_written::write_regid` meets its contract. What a part was copied over is a splice (`lent_back`). Assumes nothing.
use Prim.Native.Nat.{ℕ}
use mathlib.Core.Path.{ap, ◌∙◌}
use native.Mathlib.Omega.{arith}
use mathlib.Core.List.{List}
use Rattle.fields.specs.Bytes.{splice}
use Rattle.fields.proofs.Laws.{lent_back}
use Rattle.fields_written.proofs.write_regid.Goals as goal

pub returns : goal.returns
returns c = let a = c.args in
    let e = c.copy_from_slice.ensures.after in
    lent_back a.s.now c.copy_from_slice.new.self a.at _ (rw e (omega arith)) ∙ ap (λ (x : List ℕ). splice a.s.now a.at x) e
