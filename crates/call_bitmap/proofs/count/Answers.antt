-- `call_bitmap::count` meets its contract: line 3, then the count. Assumes nothing.
use mathlib.Core.Path.{sym, ap, ◌∙◌}
use Rattle.refusal.specs.Number.{answer_number}
use Rattle.call_bitmap.specs.Lent.{counted_after}
use Rattle.call_bitmap.proofs.Laws.{count-short, counts}
use Rattle.call_bitmap.proofs.count.Goals as goal

pub returns-then-res-ne-ONE : goal.returns-then-res-ne-ONE
returns-then-res-ne-ONE c = let e = count-short c.args.b.now c.args.l _ c.if-res-ne-ONE.true in
    record { value = c.from.ensures ∙ ap answer_number (sym e); res_after = ap (λ r. counted_after r c.args.res.now) (sym e) }

pub returns : goal.returns
returns c = let e = c.count.ensures.answer ∙ sym (counts c.args.b.now c.args.l _ c.if-res-ne-ONE.false) in
    record { value = c.told.ensures.value ∙ ap answer_number e; res_after = c.told.ensures.res_after ∙ ap (λ r. counted_after r c.args.res.now) e }
