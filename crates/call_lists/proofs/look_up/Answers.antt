-- `call_lists::look_up` meets its contract: each return by the law of its case. Assumes nothing.
use Rattle.call_lists.proofs.Listing.{look-short, look_at, look-refused}
use Rattle.call_lists.proofs.look_up.Goals as goal

pub returns-then-res-ne-ONE : goal.returns-then-res-ne-ONE
returns-then-res-ne-ONE c = let told = look-short _ _ _ c.if-res-ne-ONE.true c.from.ensures in record { value = told.0; res_after = told.1 }

pub returns-in-Ok : goal.returns-in-Ok
returns-in-Ok c = let told = look_at _ _ _ c.if-res-ne-ONE.false c.look_up.ensures.answer c.in-Ok.is in record { value = told.0; res_after = told.1 }

pub returns-in-Err : goal.returns-in-Err
returns-in-Err c = let told = look-refused _ _ _ c.if-res-ne-ONE.false c.look_up.ensures.answer c.in-Err.is c.from-in-Err.ensures in record { value = told.0; res_after = told.1 }
