-- `call_lists::write_maps` meets its contract: each return by the law of its kind. Assumes nothing.
use mathlib.Core.Path.{◌≡◌}
use borrow.Author.Rules.{rules}
use Rattle.call_lists.proofs.Listing.{written-neither}
use Rattle.call_lists.proofs.write_maps.Goals as goal

pub returns-in_default : goal.returns-in_default
returns-in_default c =
    let a = c.args in
    let once : a.kind ≡ 0 → ⊥ = search rules in
    let rewritable : a.kind ≡ 1 → ⊥ = search rules in
    let told = written-neither a.partition a.size a.tables.now a.out.now once rewritable c.from.ensures in record { value = told.0; out_after = told.1 }
