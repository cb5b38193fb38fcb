use Rattle.std.proofs.Common.{ℕ, List, ap, ◌∙◌, arith}
use lib.Seq.{take_all}
use Rattle.fields_written.proofs.Laws.{writing-none}
use Rattle.sparing_written.proofs.Written.{spares-next}
use Rattle.model.specs.Both.{spare_entries}
use Rattle.model.specs.Sparing.{flat}
use Rattle.fields.specs.Number.{quads}
use Rattle.fields.specs.Bytes.{splice}
use Rattle.sparing_written.proofs.put_free.Goals as goal

pub loop-i-init : goal.loop-i-init
unfolding flat spare_entries
loop-i-init c = writing-none _ _

pub loop-i-preserved : goal.loop-i-preserved
loop-i-preserved c = let v = c.loop-i in
    let a = c.args in
    c.put_entry.ensures ∙ rw v.invariant (spares-next a.sector.now a.spares.now v.i (omega arith) (omega arith))

pub returns : goal.returns
returns c = let v = c.loop-i in
    let a = c.args in
    v.invariant ∙ ap (λ (l : List ℕ). splice a.sector.now 56 (quads (flat (spare_entries l)))) (take_all v.i a.spares.now (omega arith))
