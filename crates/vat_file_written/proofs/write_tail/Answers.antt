-- `vat_file_written::write_tail` meets its contract: as much of the tail as fits, put into zeros (`put_onward`). Assumes nothing.
use Rattle.std.proofs.Common.{◌∙◌, ap, ap₂, List, ℕ, ◌++◌, length, drop, arith}
use Rattle.fields.specs.Bytes.{part}
use Rattle.vat_file_written.specs.Parts.{tail}
use Rattle.vat_file_written.proofs.Laws.{entries-part, length-tail, put_onward}
use Rattle.vat_file_written.proofs.write_tail.Goals as goal

pub returns : goal.returns
returns c = let a = c.args in
    let begun = c.min-begun.result in
    let count = c.min-count.result in
    let n = length-tail a.previous.0 in
    ap₂ (λ (x y : List ℕ). x ++ drop count y)
    (c.copy_from_slice.ensures.after ∙ entries-part c.tail_of-bytes.result begun count ∙ ap (λ (b : List ℕ). part b begun count) c.tail_of-bytes.ensures)
    (c.fill.ensures.after (λ y e. e))
    ∙ put_onward (tail a.previous.0) a.from (length a.rest.now) begun count (omega (arith, c.min-begun.ensures)) (omega (arith, c.min-count.ensures, c.fill.ensures.len))
