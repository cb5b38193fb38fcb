use Rattle.std.proofs.Common.{ap, ◌∙◌, arith}
use Rattle.sparing_copies.proofs.Copies.{agreeing-end, agreeing-off, agreeing-next}
use Rattle.sparing_copies.specs.Copies.{agrees, agreeing}
use Rattle.sparing_copies.proofs.copies_agree.Goals as goal

pub copy_agrees-requires : goal.copy_agrees-requires
copy_agrees-requires c = let i = c.loop-table.table-index in record {
  count_bound = c.requires.count_bound;
  disc_len = c.requires.disc_len;
  t_in_bounds = (omega (arith, c.tables-tables.ensures.on c.requires.sectors_value.1 i c.loop-table-test.true), c.requires.at_in_bounds);
  at_value = c.requires.at_value;
}

pub returns-then-not-copy_agrees : goal.returns-then-not-copy_agrees
returns-then-not-copy_agrees c =
    agreeing-off _ _ _ _ _ _ _ c.loop-table-test.true (c.copy_agrees.ensures ∙ ap (agrees _ _ _ _) c.media_to_physical-t.ensures) c.if-not-copy_agrees.true
    ∙ c.loop-table.invariant
    ∙ ap (agreeing _ _ _ _) c.tables-tables.ensures.value

pub loop-table-preserved : goal.loop-table-preserved
loop-table-preserved c =
    agreeing-next _ _ _ _ _ _ _ c.loop-table-test.true (c.copy_agrees.ensures ∙ ap (agrees _ _ _ _) c.media_to_physical-t.ensures) c.if-not-copy_agrees.false
    ∙ c.loop-table.invariant

pub returns : goal.returns
returns c = agreeing-end _ _ _ _ _ _ c.loop-table-test.false ∙ c.loop-table.invariant ∙ ap (agreeing _ _ _ _) c.tables-tables.ensures.value
