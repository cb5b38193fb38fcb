-- `call_bitmap::told` meets its contract. Assumes nothing.
use mathlib.Core.Path.{refl}
use Rattle.call_lists.proofs.Listing.{one_set}
use Rattle.call_bitmap.proofs.told.Goals as goal

pub returns-in-Ok : goal.returns-in-Ok
returns-in-Ok c = rw c.in-Ok.is (record { value = refl; res_after = one_set c.args.res.now c.in-Ok.n c.requires })
