use Rattle.std.proofs.Common.{◌≡◌, ℕ, ◌*◌, List, sym, ap, ◌∙◌, arith}
use Rattle.model.proofs.OnceOpen.{length-words}
use Rattle.model.specs.Once.{filled_from}
use Rattle.model.specs.Sparing.{count_in, table_in}
use Rattle.sparing_table.proofs.Table.{filling-next, filling-last}
use Rattle.sparing_copy.proofs.Words.{get_or-words}
use Rattle.fields.proofs.Laws.{copying-first}
use Rattle.fields.specs.Number.{field, words}
use Rattle.sparing_table.proofs.fill_table.Goals as goal

pub loop-k-init : goal.loop-k-init
loop-k-init c = copying-first _ 0 _

-- the number of entries
counted : (b : List ℕ) (n m : ℕ) → n ≡ m → m ≡ field b 48 2 → n ≡ count_in b
unfolding count_in
counted b n m q e = q ∙ e

pub number_at-requires : goal.number_at-requires
number_at-requires c = omega (arith, counted c.args.b.now _ _ c.from-n.ensures c.read.ensures)

pub bounds-table-k : goal.bounds-table-k
bounds-table-k c = omega (arith, counted c.args.b.now _ _ c.from-n.ensures c.read.ensures)

pub loop-k-preserved : goal.loop-k-preserved
loop-k-preserved c =
    let a = c.args in
    let n = c.from-n in
    let e = counted a.b.now _ _ n.ensures c.read.ensures in
    let w = length-words a.b.now 56 (2 * n.result) in
    filling-next a.table.now (words a.b.now 56 (2 * n.result)) _ c.loop-k.k _ (omega arith) (omega arith) (c.number_at.ensures ∙ sym (get_or-words a.b.now 56 (2 * n.result) c.loop-k.k (omega arith))) c.loop-k.invariant

pub returns : goal.returns
unfolding table_in
returns c =
    let a = c.args in
    let n = c.from-n in
    filling-last a.table.now (words a.b.now 56 (2 * n.result)) _ c.loop-k.k (omega (arith, length-words a.b.now 56 (2 * n.result))) c.loop-k.invariant
    ∙ ap (λ (m : ℕ). filled_from (words a.b.now 56 (2 * m)) a.table.now) (counted a.b.now _ _ n.ensures c.read.ensures)
