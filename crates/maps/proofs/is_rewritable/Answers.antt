-- `maps::is_rewritable` meets its contract: the kind by the list's bytes (`rewritable-bytes`), test by test. Assumes nothing.
use mathlib.Core.Path.{refl, sym, ap, ◌∙◌}
use native.Mathlib.Omega.{arith}
use borrow.Author.Tests.{eq-eqb, ne_eqb}
use Rattle.fields.specs.Regid.{identifier, regid}
use Rattle.maps.specs.Kinds.{sparable_name, tables_in_range}
use Rattle.fields.proofs.Tests.{fails, holds}
use Rattle.maps.proofs.Reading.{rewritable-bytes, type-two-long}
use Rattle.maps.proofs.is_rewritable.Goals as goal

pub returns-then-not-is_type_two : goal.returns-then-not-is_type_two
unfolding sparable_name regid identifier
returns-then-not-is_type_two c = fails _ (sym (c.is_type_two.ensures sparable_name refl) ∙ c.if-not-is_type_two.true) ∙ sym (rewritable-bytes _)

pub read-requires : goal.read-requires
unfolding sparable_name regid identifier
read-requires c = let l = type-two-long sparable_name _ (sym (c.is_type_two.ensures sparable_name refl) ∙ c.if-not-is_type_two.false) in omega arith

pub returns-then-read-ne-PACKET_LENGTH : goal.returns-then-read-ne-PACKET_LENGTH
unfolding sparable_name regid identifier
returns-then-read-ne-PACKET_LENGTH c =
    holds (sym (c.is_type_two.ensures sparable_name refl) ∙ c.if-not-is_type_two.false)
    (fails _ (ne_eqb _ _ (λ e. c.if-read-ne-PACKET_LENGTH.true (c.read.ensures ∙ e)))) ∙ sym (rewritable-bytes _)

pub bounds-maps-42 : goal.bounds-maps-42
unfolding sparable_name regid identifier
bounds-maps-42 c = let l = type-two-long sparable_name _ (sym (c.is_type_two.ensures sparable_name refl) ∙ c.if-not-is_type_two.false) in omega arith

pub read-requires-2 : goal.read-requires-2
unfolding sparable_name regid identifier
read-requires-2 c = let l = type-two-long sparable_name _ (sym (c.is_type_two.ensures sparable_name refl) ∙ c.if-not-is_type_two.false) in omega arith

pub returns : goal.returns
unfolding sparable_name regid identifier
returns c =
    holds (sym (c.is_type_two.ensures sparable_name refl) ∙ c.if-not-is_type_two.false)
    (holds (eq-eqb _ _ (sym c.read.ensures ∙ c.if-read-ne-PACKET_LENGTH.false))
    (c.tables_in_range.ensures ∙ ap (tables_in_range _) c.read-2.ensures))
    ∙ sym (rewritable-bytes _)
