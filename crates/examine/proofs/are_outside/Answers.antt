use Rattle.std.proofs.Common.{[], take, sym, ap, ◌∙◌}
use Rattle.std.proofs.lemmas.List.{take_all}
use Rattle.model.specs.Sparing.{ground_of, outside}
use Rattle.model.specs.Examine.{all_outside}
use Rattle.examine.proofs.Laws.{outside-none, outside-next, outside-stop}
use Rattle.examine.proofs.are_outside.Goals as goal

pub loop-table-init : goal.loop-table-init
loop-table-init c = outside-none _

pub loop-table-preserved : goal.loop-table-preserved
loop-table-preserved c = let a = c.args in
    let g = ground_of a.s a.l a.sectors [] 0 in
    outside-next _ _ _ c.loop-table-test.true c.loop-table.invariant
    (sym (ap (outside g) c.media_to_physical-at.ensures) ∙ sym (c.is_outside.ensures [] 0) ∙ c.if-not-is_outside.false)

pub returns-then-not-is_outside : goal.returns-then-not-is_outside
returns-then-not-is_outside c = let a = c.args in
    let g = ground_of a.s a.l a.sectors [] 0 in
    outside-stop g _ _ c.loop-table-test.true
    (sym (ap (outside g) c.media_to_physical-at.ensures) ∙ sym (c.is_outside.ensures [] 0) ∙ c.if-not-is_outside.true)
    ∙ ap (λ k. all_outside g (take k a.tables)) c.from.ensures

pub returns : goal.returns
returns c = let a = c.args in
    let g = ground_of a.s a.l a.sectors [] 0 in
    let l = c.loop-table in
    sym l.invariant
    ∙ ap (all_outside g) (take_all l.table-index (take c.from.result a.tables) c.loop-table-test.false)
    ∙ ap (λ k. all_outside g (take k a.tables)) c.from.ensures
