use Rattle.std.proofs.Common.{refl, eq-eqb, ne_eqb}
use Rattle.model.specs.Both.{spare_entries}
use Rattle.sparing_copy.proofs.Entries.{spare-step, spare-end}
use Rattle.sparing_copy.proofs.Rule.{absent-end, absent-next, scan-found, scan-next}
use Rattle.sparing_copy.proofs.is_absent_spare.Goals as goal
use Rattle.sparing_copy.proofs.is_absent_spare.Goals.{then-m-spare, else-m-spare}

pub loop-spare-preserved : goal.loop-spare-preserved
loop-spare-preserved c = let s = c.args.spares.now in
    let next = absent-next (spare_entries s) c.loop-spare.spare-index _ (spare-step s c.loop-spare.spare-index c.loop-spare-test.true) c.args.m.0 _ refl _ _ c.loop-spare.invariant in
    elim c.if-m-spare.branch [
      | then-m-spare w ↦ scan-found _ _ _ _ _ next w.none-is (eq-eqb _ _ w.if-m-spare.true)
      | else-m-spare w ↦ scan-next _ _ _ _ _ next w.none-is (ne_eqb _ _ w.if-m-spare.false)
    ]

pub returns : goal.returns
returns c = let s = c.args.spares.now in
    absent-end (spare_entries s) c.loop-spare.spare-index (spare-end s c.loop-spare.spare-index c.loop-spare-test.false) _ _ _ c.loop-spare.invariant
