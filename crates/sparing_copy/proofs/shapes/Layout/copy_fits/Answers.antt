-- `sparing_copy::Layout::copy_fits` meets its contract, test by test; the number of entries is compared before any is read. Assumes nothing.
use Rattle.std.proofs.Common.{sym, ◌∙◌, arith}
use Rattle.model.specs.Sparing.{count_in}
use Rattle.sparing_copy.proofs.Rule.{copy-tag, copy-long, copy_name, copy-originals, copy-ascending, copy-packets}
use Rattle.sparing_copy.proofs.shapes.Layout.copy_fits.Goals as goal

pub returns-then-read-ne0 : goal.returns-then-read-ne0
returns-then-read-ne0 c = copy-tag _ _ (λ e. c.if-read-ne0.true (c.read.ensures ∙ e))

pub returns-then-self-from : goal.returns-then-self-from
unfolding count_in
returns-then-self-from c = copy-long _ _ (sym c.read.ensures ∙ c.if-read-ne0.false) _ c.read-count.ensures (omega arith)

pub is_named-requires : goal.is_named-requires
unfolding count_in
is_named-requires c = c.read-count.ensures

pub returns-else-is_named : goal.returns-else-is_named
unfolding count_in
returns-else-is_named c = c.if-is_named.false ∙ copy_name _ _ (sym c.read.ensures ∙ c.if-read-ne0.false) _ c.read-count.ensures (sym c.is_named.ensures ∙ c.if-is_named.false)

pub returns-else-originals_fit : goal.returns-else-originals_fit
unfolding count_in
returns-else-originals_fit c = c.if-originals_fit.false ∙ copy-originals _ _ (sym c.read.ensures ∙ c.if-read-ne0.false) _ c.read-count.ensures (omega arith) (sym c.is_named.ensures ∙ c.if-is_named.true) (sym c.originals_fit.ensures ∙ c.if-originals_fit.false)

pub returns-else-is_ascending : goal.returns-else-is_ascending
unfolding count_in
returns-else-is_ascending c = c.if-is_ascending.false ∙ copy-ascending _ _ (sym c.read.ensures ∙ c.if-read-ne0.false) _ c.read-count.ensures (omega arith) (sym c.is_named.ensures ∙ c.if-is_named.true) (sym c.originals_fit.ensures ∙ c.if-originals_fit.true) (sym c.is_ascending.ensures ∙ c.if-is_ascending.false)

pub packets_fit-requires-clause-originals : goal.packets_fit-requires-clause-originals
packets_fit-requires-clause-originals c = sym c.originals_fit.ensures ∙ c.if-originals_fit.true

pub returns-then-is_ascending : goal.returns-then-is_ascending
unfolding count_in
returns-then-is_ascending c = copy-packets _ _ (sym c.read.ensures ∙ c.if-read-ne0.false) _ c.read-count.ensures (omega arith) (sym c.is_named.ensures ∙ c.if-is_named.true) (sym c.originals_fit.ensures ∙ c.if-originals_fit.true) (sym c.is_ascending.ensures ∙ c.if-is_ascending.true) _ c.packets_fit.ensures
