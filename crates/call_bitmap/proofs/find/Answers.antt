-- `call_bitmap::find` meets its contract: line 3, then the search. Assumes nothing.
use mathlib.Core.Path.{sym, ap, ◌∙◌}
use Rattle.refusal.specs.Number.{answer_number}
use Rattle.call_bitmap.specs.Lent.{found_after}
use Rattle.call_bitmap.proofs.Laws.{find-short, finds, same-number, same-after}
use Rattle.call_bitmap.proofs.find.Goals as goal

pub returns-then-res-ne-ONE : goal.returns-then-res-ne-ONE
returns-then-res-ne-ONE c = let a = c.args in
    let e = find-short a.b.now a.l a.wanted a.near _ c.if-res-ne-ONE.true in
    record { value = c.from.ensures ∙ ap answer_number (sym e); res_after = ap (λ r. found_after r a.res.now) (sym e) }

pub returns : goal.returns
returns c = let a = c.args in
    let e = c.find.ensures.answer ∙ sym (finds a.b.now a.l a.wanted a.near _ c.if-res-ne-ONE.false) in
    record {
      value = c.told.ensures.value ∙ same-number c.find.result ∙ ap answer_number e;
      res_after = c.told.ensures.res_after ∙ same-after c.find.result a.res.now ∙ ap (λ r. found_after r a.res.now) e;
    }
