use Rattle.std.proofs.Common.{◌∙◌, ap, List, ℕ, ◌/◌, length, arith}
use Rattle.fields.specs.Bytes.{splice}
use Rattle.fields.specs.Number.{words}
use Rattle.vat_read.proofs.Table.{filled_none, filled_run}
use Rattle.vat_read.proofs.File.put_entries.Goals as goal

pub loop-v-init : goal.loop-v-init
loop-v-init c = (omega arith, filled_none _ _)

pub loop-v-preserved : goal.loop-v-preserved
loop-v-preserved c = let l = c.loop-v in
    let r = c.words-run.result.now in
    let t = c.words-run.ensures in (
      omega (arith, t.up_to),
      c.put_words.ensures
          ∙ ap (λ (x : List ℕ). splice x l.v (words r 0 (length r / 4))) l.invariant.1
          ∙ filled_run _ r _ l.v _ t,
    )
