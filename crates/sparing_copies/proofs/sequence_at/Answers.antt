-- `sparing_copies::sequence_at` meets its contract, by the field of the sector. Assumes nothing.
use Prim.Native.Nat.{ℕ, ◌+◌}
use mathlib.Core.Path.{ap, ◌∙◌}
use Rattle.sparing_copies.proofs.Copies.{sequence-read}
use Rattle.fields.specs.Number.{field}
use Rattle.sparing_copies.proofs.sequence_at.Goals as goal

pub returns : goal.returns
returns c = let a = c.args in
    λ m. c.read.ensures
    ∙ ap (λ (k : ℕ). field a.disc.now (k + 52) 4) c.start_of.ensures.0
    ∙ sequence-read a.disc.now m a.t.0
