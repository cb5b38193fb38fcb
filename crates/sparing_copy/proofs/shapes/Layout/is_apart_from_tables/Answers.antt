use Rattle.std.proofs.Common.{sym, ap, ◌∙◌}
use Rattle.model.specs.Sparing.{apart, apart_from}
use Rattle.sparing_copy.proofs.Places.{tables_end, tables-met, tables-next}
use Rattle.sparing_copy.proofs.shapes.Layout.is_apart_from_tables.Goals as goal

pub returns-then-not-is_apart : goal.returns-then-not-is_apart
returns-then-not-is_apart c =
    tables-met _ _ _ c.loop-t-test.true (sym (c.is_apart.ensures ∙ ap (apart _) c.media_to_physical-table.ensures) ∙ c.if-not-is_apart.true)
    ∙ c.loop-t.invariant ∙ ap (apart_from _) c.tables-tables.ensures.value

pub loop-t-preserved : goal.loop-t-preserved
loop-t-preserved c = tables-next _ _ _ c.loop-t-test.true (sym (c.is_apart.ensures ∙ ap (apart _) c.media_to_physical-table.ensures) ∙ c.if-not-is_apart.false) ∙ c.loop-t.invariant

pub returns : goal.returns
returns c = tables_end _ _ _ c.loop-t-test.false ∙ c.loop-t.invariant ∙ ap (apart_from _) c.tables-tables.ensures.value
