-- `room::has_room` meets its contract. Assumes nothing.
use Prim.Native.Nat.{◌≤◌}
use native.Mathlib.Omega.{arith}
use Rattle.model.proofs.OnceSave.{saved-few}
use Rattle.room.proofs.Laws.{room_after}
use Rattle.room.proofs.has_room.Goals as goal

pub data_sectors-data-requires : goal.data_sectors-data-requires
data_sectors-data-requires c = let n = c.entries_held-entries in
    let few : n.result ≤ 4096 = omega (arith, n.ensures, c.requires.0) in
    omega (arith, c.count_after-after.ensures, saved-few n.result c.args.v.0 few c.requires.1)

pub returns : goal.returns
returns c = room_after _ _ _ c.entries_held-entries.ensures c.next_held-next.ensures c.count_after-after.ensures c.data_sectors-data.ensures
