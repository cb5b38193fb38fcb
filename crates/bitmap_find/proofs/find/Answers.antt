-- `bitmap_find::find` meets its contract: its tests, then the search. Assumes nothing.
use mathlib.Core.Path.{ap₂, ◌∙◌}
use native.Mathlib.Omega.{arith}
use Rattle.std.proofs.lemmas.Grind.{common_steps}
use Rattle.bitmap_find.specs.Nearest.{nearest}
use Rattle.bitmap_find.proofs.Laws.{not-formed, not-inside, not_some, sought}
use Rattle.bitmap_find.proofs.find.Goals as goal

pub returns-in_err-bitmap : goal.returns-in_err-bitmap
returns-in_err-bitmap c = let e = c.in_err-bitmap.ensures in grind (arith, common_steps, not-formed _ _ c.args.wanted c.args.near _ e.0 e.1)

pub returns-then-l-near : goal.returns-then-l-near
returns-then-l-near c = not-inside _ _ _ _ c.in_ok-bitmap.ensures.2 c.if-l-near.true

pub returns-then-wanted-eq0 : goal.returns-then-wanted-eq0
returns-then-wanted-eq0 c = not_some _ _ _ _ c.in_ok-bitmap.ensures.2 c.if-l-near.false c.if-wanted-eq0.true

pub returns : goal.returns
returns c = let e = c.in_ok-bitmap.ensures in
    sought _ _ _ _ _ e.2 c.if-l-near.false c.if-wanted-eq0.false (c.nearest.ensures ∙ ap₂ (λ b l. nearest b l c.args.wanted c.args.near) e.0 e.1)
