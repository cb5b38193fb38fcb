-- `capi::tuormik_fullness` meets its contract: each return by the law of its case. Assumes nothing.
use Rattle.capi.proofs.Laws.{full-no-record, full-no-result, full-told, full-refused}
use Rattle.capi.proofs.tuormik_fullness.Goals as goal

pub returns-then-kept-ne-RECORD : goal.returns-then-kept-ne-RECORD
returns-then-kept-ne-RECORD c = let told = full-no-record _ _ _ _ _ c.if-kept-ne-RECORD.true c.number_of_lengths.ensures in record { value = told.0; res_after = told.1 }

pub returns-then-res-ne-ONE : goal.returns-then-res-ne-ONE
returns-then-res-ne-ONE c = let told = full-no-result _ _ _ _ _ c.if-kept-ne-RECORD.false c.if-res-ne-ONE.true c.number_of_lengths-then-res-ne-ONE.ensures in record { value = told.0; res_after = told.1 }

pub returns-in-Ok : goal.returns-in-Ok
returns-in-Ok c = let told = full-told _ _ _ _ _ c.if-kept-ne-RECORD.false c.if-res-ne-ONE.false c.read_record-held.ensures c.fullness.ensures.answer c.in-Ok.is in record { value = told.0; res_after = told.1 }

pub returns-in-Err : goal.returns-in-Err
returns-in-Err c = let told = full-refused _ _ _ _ _ c.if-kept-ne-RECORD.false c.if-res-ne-ONE.false c.read_record-held.ensures c.fullness.ensures.answer c.in-Err.is c.from.ensures in record { value = told.0; res_after = told.1 }
