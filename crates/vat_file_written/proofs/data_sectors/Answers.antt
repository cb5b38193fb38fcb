-- `vat_file_written::data_sectors` meets its contract, by cases on whether the file is embedded. Assumes nothing.
use Prim.Native.Nat.{ℕ, ◌+◌, ◌/◌}
use mathlib.Core.Path.{sym, ap, ◌∙◌}
use native.Mathlib.Omega.{arith}
use borrow.Author.Tests.{ltb-true, ltb-false}
use Rattle.model.specs.Vat.{blocks_in}
use Rattle.model.specs.VatWritten.{file_bytes}
use Rattle.model.proofs.WrittenVatFile.{embedded-none, outside-blocks}
use Rattle.vat_file_written.proofs.data_sectors.Goals as goal

pub returns-then-is_embedded : goal.returns-then-is_embedded
returns-then-is_embedded c = sym (embedded-none _ (ltb-true _ _ (sym c.is_embedded.ensures ∙ c.if-is_embedded.true)))

pub overflow_add-result : goal.overflow_add-result
unfolding file_bytes
overflow_add-result c = omega arith

pub returns : goal.returns
unfolding blocks_in
returns c = let f = c.file_bytes.ensures in
    let out = outside-blocks _ (ltb-false _ _ (sym c.is_embedded.ensures ∙ c.if-is_embedded.false)) in
    ap (λ (x : ℕ). (x + 2047) / 2048) f ∙ sym out
