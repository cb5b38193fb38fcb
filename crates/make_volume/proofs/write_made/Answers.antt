-- `make_volume::write_made` meets its contract: the zeros, then the copies. Assumes nothing.
use Prim.Native.Nat.{ℕ, ◌<◌}
use mathlib.Core.Path.{◌≡◌, ap, ◌∙◌}
use lib.ListN.{get_or, take}
use native.Mathlib.Omega.{arith}
use Rattle.model.specs.Writes.{no_cut}
use Rattle.sparing_copy.specs.Layout.{geometry_in}
use Rattle.sparing_writes.proofs.Order.{numbers-take}
use Rattle.make_volume.proofs.Makes.{copies-on, making-written}
use Rattle.make_volume.proofs.write_made.Goals as goal

pub write_copies-requires-clause-by_index : goal.write_copies-requires-clause-by_index
write_copies-requires-clause-by_index c i l =
    let x = c.args.x in
    let on : (k : ℕ) → k < c.from.result → get_or x.volume.tables k 0 < x.sectors = λ k h. c.requires.count_bound.2 k (omega (arith, h, c.from.ensures)) in
    omega (arith, copies-on _ _ _ x.sectors c.table_places-places.ensures on i l, c.requires.count_bound.1, c.write_zeros.auto.marks)

pub returns : goal.returns
unfolding no_cut
returns c = let x = c.args.x in
    let there : c.sector_of-first.result.0 ≡ x.volume.span.start = omega (arith, c.sector_of-first.ensures) in
    let tables = numbers-take c.from.result c.table_places-places.result ∙ ap (take c.from.result) c.table_places-places.ensures ∙ ap (λ (n : ℕ). take n x.volume.tables) c.from.ensures in
    making-written _ _ _ (geometry_in x) _ there tables c.write_zeros.ensures c.write_copies.ensures
