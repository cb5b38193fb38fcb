-- `rewrite_spare::write_sparing` meets its contract: the packet's writes, then the copies'. Assumes nothing.
use Prim.Native.Nat.{ℕ}
use mathlib.Core.Path.{ap, ◌∙◌}
use native.Mathlib.Omega.{arith}
use lib.ListN.{take}
use Rattle.sparing_writes.specs.Order.{numbers_of}
use Rattle.rewrite_spare.proofs.Spares.{copies_on, sparing-written}
use Rattle.rewrite_spare.proofs.write_sparing.Goals as goal

pub write_copies-requires-clause-by_index : goal.write_copies-requires-clause-by_index
write_copies-requires-clause-by_index c =
    copies_on _ _ (λ i l. omega (arith, c.copy_order-places.ensures.by_index i (omega (arith, l, c.from-copies.ensures)), c.write_upward.auto.marks))

pub returns : goal.returns
returns c =
    let order = ap (λ (n : ℕ). take n (numbers_of c.copy_order-places.result)) c.from-copies.ensures ∙ c.copy_order-places.ensures.result_value in
    sparing-written _ _ _ _ _ order _ _ _ _ c.write_upward.ensures c.write_copies.ensures
