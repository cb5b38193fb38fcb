-- `sparing_written::write_free` meets its contract: the fields, then the spares. Assumes nothing.
use Prim.Native.Nat.{ℕ}
use mathlib.Core.Path.{ap, ◌∙◌}
use native.Mathlib.Omega.{arith}
use mathlib.Core.List.{List}
use lib.ListN.{length}
use Rattle.sparing_written.proofs.Written.{table-written}
use Rattle.sparing_copy.proofs.Entries.{length-spares}
use Rattle.model.proofs.SparingLaws.{length-flat}
use Rattle.model.specs.Both.{spare_entries}
use Rattle.model.specs.Sparing.{flat}
use Rattle.fields.specs.Number.{quads}
use Rattle.fields.specs.Bytes.{splice}
use Rattle.sparing_written.proofs.write_free.Goals as goal

pub returns : goal.returns
returns c = let a = c.args in
    let s : List ℕ = a.spares.now in
    c.put_free.ensures
    ∙ ap (λ (x : List ℕ). splice x 56 (quads (flat (spare_entries s)))) c.begin_table.ensures
    ∙ table-written 0 (length s) (flat (spare_entries s)) (omega (arith, length-flat (spare_entries s), length-spares s)) (omega (arith, length-flat (spare_entries s), length-spares s))
