use Rattle.std.proofs.Common.{◌≡◌, eqb, length, take, ap, ◌∙◌, arith}
use Rattle.std.proofs.lemmas.List.{take_all}
use Rattle.model.specs.Vat.{all_below}
use Rattle.examine.proofs.Laws.{below-none, below-stop, below-past}
use Rattle.examine.proofs.are_below.Goals as goal
use Rattle.examine.proofs.are_below.Goals.{then-next-one_past, else-next-one_past}

pub loop-entry-init : goal.loop-entry-init
loop-entry-init c = (omega arith, below-none c.args.next.0)

pub loop-entry-preserved : goal.loop-entry-preserved
loop-entry-preserved c = let l = c.loop-entry in
    let e = c.one_past.ensures in
    let more = c.loop-entry-test.true in
    elim c.if-next-one_past.branch [
      | then-next-one_past x ↦ (
        omega (arith, x.over-is, l.invariant.0),
        below-stop _ _ _ l.over more l.invariant.1 x.over-is (λ q. omega (arith, q, x.if-next-one_past.true, e.1)) (omega (arith, x.if-next-one_past.true, e)),
      )
      | else-next-one_past x ↦ (
        omega (arith, x.over-is, l.invariant.0),
        ap (λ k. eqb k 0) x.over-is ∙ below-past _ _ _ l.over more l.invariant.1 (λ q. omega (arith, q, x.if-next-one_past.false, e)),
      )
    ]

pub returns : goal.returns
returns c = let l = c.loop-entry in
    let z : l.entry-index ≡ length (take c.args.n c.args.table.now) = omega (arith, l.auto.entry-index-end, c.loop-entry-test.false) in
    l.invariant.1 ∙ ap (all_below _) (take_all _ _ (omega (arith, z)))
