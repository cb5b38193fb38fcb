-- `maps::is_type_two` meets its contract, test by test. Assumes nothing.
use Prim.Native.Nat.{ℕ}
use mathlib.Core.Path.{ap, ◌∙◌}
use mathlib.Core.List.{List}
use borrow.Author.Tests.{eq-eqb, ne_eqb}
use lib.ListN.{take}
use Rattle.fields.specs.Bytes.{part, same}
use Rattle.fields.proofs.Laws.{regid-told}
use Rattle.maps.specs.Told.{one_type_two}
use Rattle.fields.proofs.Tests.{fails, holds}
use Rattle.maps.proofs.is_type_two.Goals as goal

pub returns-then-map-ne-TYPE_TWO_BYTES : goal.returns-then-map-ne-TYPE_TWO_BYTES
unfolding one_type_two
returns-then-map-ne-TYPE_TWO_BYTES c name e = fails _ (ne_eqb _ _ c.if-map-ne-TYPE_TWO_BYTES.true)

pub returns-then-map-ne-TYPE_TWO : goal.returns-then-map-ne-TYPE_TWO
unfolding one_type_two
returns-then-map-ne-TYPE_TWO c name e = holds (eq-eqb _ _ c.if-map-ne-TYPE_TWO_BYTES.false) (fails _ (ne_eqb _ _ c.if-map-ne-TYPE_TWO.true))

pub returns-then-map-ne-TYPE_TWO_LENGTH : goal.returns-then-map-ne-TYPE_TWO_LENGTH
unfolding one_type_two
returns-then-map-ne-TYPE_TWO_LENGTH c name e = holds (eq-eqb _ _ c.if-map-ne-TYPE_TWO_BYTES.false)
    (holds (eq-eqb _ _ c.if-map-ne-TYPE_TWO.false) (fails _ (ne_eqb _ _ c.if-map-ne-TYPE_TWO_LENGTH.true)))

pub returns : goal.returns
unfolding one_type_two
returns c name e = let m = c.args.map.now in
    holds (eq-eqb _ _ c.if-map-ne-TYPE_TWO_BYTES.false)
    (holds (eq-eqb _ _ c.if-map-ne-TYPE_TWO.false) (holds (eq-eqb _ _ c.if-map-ne-TYPE_TWO_LENGTH.false)
    (c.has_regid.ensures ∙ ap (λ (x : List ℕ). same (part m 4 24) (take 24 x)) e ∙ regid-told m 4 name)))
