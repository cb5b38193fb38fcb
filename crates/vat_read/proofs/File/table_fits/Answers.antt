-- `vat_read::File::table_fits` meets its contract, test by test (`table_tests`). Assumes nothing.
use Rattle.std.proofs.Common.{◌≡◌, ◌&&◌, ◌-◌, sym, ◌∙◌}
use mathlib.Core.Bool.{and_assoc}
use borrow.Author.Tests.{eq-eqb, ne_eqb, le-leb, lt-leb}
use Rattle.fields.specs.Number.{field}
use Rattle.fields.specs.Regid.{has_regid}
use Rattle.fields.proofs.Tests.{fails, holds}
use Rattle.model.specs.Vat.{vat_name, below_or_none}
use Rattle.vat_read.specs.Content.{content}
use Rattle.vat_read.proofs.Table.{below-first, table_tests, previous_word}
use Rattle.vat_read.proofs.File.table_fits.Goals as goal
use Rattle.vat_read.proofs.File.table_fits.Goals.{then-has_name, else-has_name}

pub returns-then-bytes-lt-TAIL : goal.returns-then-bytes-lt-TAIL
returns-then-bytes-lt-TAIL c = fails _ (lt-leb _ _ c.if-bytes-lt-TAIL.true) ∙ sym (table_tests _ _ _ (sym c.len-bytes.ensures))

pub returns-then-tail-ne0 : goal.returns-then-tail-ne0
returns-then-tail-ne0 c = holds (le-leb _ _ c.if-bytes-lt-TAIL.false) (fails _ (ne_eqb _ _ c.if-tail-ne0.true)) ∙ sym (table_tests _ _ _ (sym c.len-bytes.ensures))

pub returns-then-words_below : goal.returns-then-words_below
returns-then-words_below c = let f = content c.args.self.now in
    let n = c.len-bytes.result in
    let both : c.if-has_name.value ≡ has_regid f (n - 36) vat_name && below_or_none c.args.k.0 (field f (n - 4) 4) = elim c.if-has_name.branch [
      | then-has_name w ↦ w.value-is ∙ holds (sym c.has_name.ensures ∙ w.if-has_name.true) (previous_word _ f n _ c.if-bytes-lt-TAIL.false c.if-tail-ne0.false w.words_below.ensures)
      | else-has_name w ↦ w.value-is ∙ w.if-has_name.false ∙ fails _ (sym c.has_name.ensures ∙ w.if-has_name.false)
    ] in
    holds (le-leb _ _ c.if-bytes-lt-TAIL.false)
    (holds (eq-eqb _ _ c.if-tail-ne0.false)
    (holds (sym both ∙ c.if-words_below.true) (c.words_below-then-words_below.ensures ∙ below-first _ _ _)
    ∙ and_assoc (has_regid f (n - 36) vat_name) _ _))
    ∙ sym (table_tests _ _ _ (sym c.len-bytes.ensures))

pub returns-else-words_below : goal.returns-else-words_below
returns-else-words_below c = let f = content c.args.self.now in
    let n = c.len-bytes.result in
    let both : c.if-has_name.value ≡ has_regid f (n - 36) vat_name && below_or_none c.args.k.0 (field f (n - 4) 4) = elim c.if-has_name.branch [
      | then-has_name w ↦ w.value-is ∙ holds (sym c.has_name.ensures ∙ w.if-has_name.true) (previous_word _ f n _ c.if-bytes-lt-TAIL.false c.if-tail-ne0.false w.words_below.ensures)
      | else-has_name w ↦ w.value-is ∙ w.if-has_name.false ∙ fails _ (sym c.has_name.ensures ∙ w.if-has_name.false)
    ] in
    c.if-words_below.false
    ∙ holds (le-leb _ _ c.if-bytes-lt-TAIL.false)
    (holds (eq-eqb _ _ c.if-tail-ne0.false)
    (fails _ (sym both ∙ c.if-words_below.false)
    ∙ and_assoc (has_regid f (n - 36) vat_name) _ _))
    ∙ sym (table_tests _ _ _ (sym c.len-bytes.ensures))
