-- `tag::sum` meets its contract: it is a fold (`total-fold`).
-- Assumes nothing.
use Rattle.std.proofs.Common.{◌≡◌, ◌+◌, ◌%◌, arith, rules}
use Rattle.std.specs.List.{fold}
use Rattle.tag.proofs.Laws.{total-fold}
use Rattle.tag.proofs.sum.Goals as goal

pub returns : goal.returns
returns c = let part = c.args.part.now in
    let e : c.fold.result ≡ fold (λ a b. (a + b) % 256) 0 part = search rules in
    omega (arith, e, total-fold 0 part)
