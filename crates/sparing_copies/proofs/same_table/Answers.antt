-- `sparing_copies::same_table` meets its contract: by the number of entries, then by their bytes. Assumes nothing.
use Prim.Native.Nat.{◌+◌, ◌*◌}
use mathlib.Core.Path.{refl, sym, ◌∙◌, ap₂}
use native.Mathlib.Omega.{arith}
use borrow.Author.Rules.{rules}
use mathlib.Core.List.{[]}
use Rattle.sparing_copies.proofs.Copies.{tables-differ, span-part, tables-alike}
use Rattle.model.specs.Disc.{disc as disc_of}
use Rattle.fields.specs.Bytes.{same}
use Rattle.sparing_copies.proofs.same_table.Goals as goal

pub returns-then-n-count_at : goal.returns-then-n-count_at
returns-then-n-count_at c = let a = c.args in
    λ m. tables-differ (disc_of a.disc.now m) a.t.0 a.other.0 (λ e. c.if-n-count_at.true (c.count_at-n.ensures m ∙ e ∙ sym (c.count_at.ensures m)))

pub slice_bounds-same_bytes-end : goal.slice_bounds-same_bytes-end
slice_bounds-same_bytes-end c = omega (arith, c.count_at-n.ensures [], c.requires.by_index [])

pub slice_bounds-same_bytes-end-2 : goal.slice_bounds-same_bytes-end-2
slice_bounds-same_bytes-end-2 c = omega (arith, c.count_at-n.ensures [], c.requires.by_index [])

pub returns : goal.returns
returns c = let b = c.args in
    λ m.
    let n = c.from-bytes.ensures ∙ c.count_at-n.ensures m in
    c.same_bytes.ensures
    ∙ ap₂ same
    (span-part b.disc.now (c.start_of-a.result + 56) (c.start_of-a.result + 56 + 8 * c.from-bytes.result) (2048 * b.t.0 + 56) (8 * c.from-bytes.result) (omega arith) refl)
    (span-part b.disc.now (c.start_of-b.result + 56) (c.start_of-b.result + 56 + 8 * c.from-bytes.result) (2048 * b.other.0 + 56) (8 * c.from-bytes.result) (omega arith) refl)
    ∙ tables-alike b.disc.now m b.t.0 b.other.0 c.from-bytes.result (search rules) c.requires.t_in_bounds.0 c.requires.t_in_bounds.1 n (c.from-bytes.ensures ∙ c.if-n-count_at.false ∙ c.count_at.ensures m) (omega (arith, c.requires.by_index m))
