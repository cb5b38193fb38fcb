-- `sparing_copies::count_at` meets its contract, by the field of the sector. Assumes nothing.
use Prim.Native.Nat.{ℕ, ◌+◌}
use mathlib.Core.Path.{ap, ◌∙◌}
use Rattle.sparing_copies.proofs.Copies.{count-read}
use Rattle.fields.specs.Number.{field}
use Rattle.sparing_copies.proofs.count_at.Goals as goal

pub returns : goal.returns
returns c = let a = c.args in
    λ m. c.read.ensures
    ∙ ap (λ (k : ℕ). field a.disc.now (k + 48) 2) c.start_of.ensures.0
    ∙ count-read a.disc.now m a.t.0
