-- `sparing_copy::Entries::is_named` meets its contract, regid by regid. Assumes nothing.
use Rattle.std.proofs.Common.{sym, ◌∙◌}
use Rattle.fields.specs.Regid.{identifier, regid}
use Rattle.fields.proofs.Laws.{regid-told}
use Rattle.model.specs.Sparing.{sparing_name, older_name}
use Rattle.sparing_copy.proofs.Rule.{named-newer, named-neither, named-older}
use Rattle.sparing_copy.proofs.shapes.Entries.is_named.Goals as goal

pub returns-then-has_regid : goal.returns-then-has_regid
unfolding sparing_name regid identifier
returns-then-has_regid c = c.if-has_regid.true ∙ named-newer _ (sym (regid-told _ 16 sparing_name) ∙ sym c.has_regid.ensures ∙ c.if-has_regid.true)

pub returns-then-has_regid-2 : goal.returns-then-has_regid-2
unfolding sparing_name older_name regid identifier
returns-then-has_regid-2 c = named-older _ (sym (regid-told _ 16 sparing_name) ∙ sym c.has_regid.ensures ∙ c.if-has_regid.false) (sym (regid-told _ 16 older_name) ∙ sym c.has_regid-else-has_regid.ensures ∙ c.if-has_regid-2.true) _ c.requires _ c.none_defective.ensures

pub returns-else-has_regid-2 : goal.returns-else-has_regid-2
unfolding sparing_name older_name regid identifier
returns-else-has_regid-2 c = c.if-has_regid-2.false ∙ named-neither _ (sym (regid-told _ 16 sparing_name) ∙ sym c.has_regid.ensures ∙ c.if-has_regid.false) (sym (regid-told _ 16 older_name) ∙ sym c.has_regid-else-has_regid.ensures ∙ c.if-has_regid-2.false)
