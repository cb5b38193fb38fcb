-- `bitmap::count` meets its contract: line 31, then the count. Assumes nothing.
use mathlib.Core.Path.{ap₂, ◌∙◌}
use native.Mathlib.Omega.{arith}
use Rattle.std.proofs.lemmas.Grind.{common_steps}
use Rattle.bitmap.specs.Bits.{free_from}
use Rattle.bitmap.proofs.Laws.{counted-free, not-counted}
use Rattle.bitmap.proofs.count.Goals as goal

pub returns-in_err-new : goal.returns-in_err-new
returns-in_err-new c = let e = c.in_err-new.ensures in grind (arith, common_steps, not-counted _ _ _ e.0 e.1)

pub returns : goal.returns
returns c = let e = c.in_ok-new.ensures in
    counted-free _ _ _ e.2 (c.count_free.ensures ∙ ap₂ (λ b l. free_from b 0 l) e.0 e.1)
