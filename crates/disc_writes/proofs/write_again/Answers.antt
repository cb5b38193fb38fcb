-- `disc_writes::write_again` meets its contract. Assumes nothing.
use Prim.Native.Nat.{ℕ, ◌+◌, ◌-◌, ◌*◌}
use mathlib.Core.Path.{◌≡◌, ap, ◌∙◌}
use native.Mathlib.Omega.{arith}
use lib.ListN.{take, drop}
use Rattle.fields.specs.Bytes.{part}
use Rattle.model.specs.Disc.{sector}
use Rattle.disc_writes.proofs.Laws.{write_same}
use Rattle.disc_writes.proofs.write_again.Goals as goal

pub returns : goal.returns
unfolding sector part
returns c = let d = c.args.disc.now in
    let k = 2048 * c.args.from.0 in
    let size : k + 2048 - k ≡ 2048 = omega arith in
    write_same _ _ _ _ _ _ _ (c.copy_from_slice.ensures.after ∙ ap (λ (n : ℕ). take n (drop k d)) size)
    c.write_sector.ensures
