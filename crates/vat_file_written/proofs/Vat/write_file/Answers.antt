-- `vat_file_written::Vat::write_file` meets its contract: the entries, and the tail straight after them, are the file's bytes (`file-left`).
-- Assumes nothing.
use Prim.Native.Nat.{ℕ}
use mathlib.Core.Path.{refl, ap, ◌∙◌}
use mathlib.Core.List.{List}
use native.Mathlib.Omega.{arith}
use lib.ListN.{length}
use Rattle.fields.specs.Bytes.{splice}
use Rattle.fields.specs.Number.{quads}
use Rattle.vat_file_written.proofs.Laws.{entries-part, file-left}
use Rattle.vat_file_written.proofs.Vat.write_file.Goals as goal

pub returns : goal.returns
returns c = let a = c.args in
    let t = a.self.now.entries.now in
    file-left t a.self.now.previous.0 a.first _ _ (length a.s.now) (omega arith) c.min-begun.ensures c.min-count.ensures
    a.s.now _ _ refl
    (c.write_numbers.ensures ∙ ap (λ (l : List ℕ). splice a.s.now 0 (quads l)) (entries-part t c.min-begun.result c.min-count.result))
    c.write_tail.ensures
