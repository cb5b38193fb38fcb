-- `capi::tuormik_read` meets its contract: what is seen is the answer of reading. Assumes nothing.
use Rattle.capi.proofs.Laws.{read_short, read-five}
use Rattle.capi.proofs.tuormik_read.Goals as goal

pub returns-then-kept-ne-RECORD : goal.returns-then-kept-ne-RECORD
returns-then-kept-ne-RECORD c = let told = read_short _ _ _ _ _ _ c.if-kept-ne-RECORD.true c.number_of_lengths.ensures in record { value = told.0; out_after = told.1 }

pub returns : goal.returns
returns c = let told = read-five _ _ _ _ _ _ c.if-kept-ne-RECORD.false c.read_record-held.ensures c.read-given.ensures.answer c.read-given.ensures.bytes c.number_of.ensures in record { value = told.0; out_after = told.1 }
