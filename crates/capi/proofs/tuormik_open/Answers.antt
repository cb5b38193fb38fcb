-- `capi::tuormik_open` meets its contract: what is seen is the answer of opening. Assumes nothing.
use Rattle.capi.proofs.Laws.{open-short, open-five}
use Rattle.capi.proofs.tuormik_open.Goals as goal

pub returns-then-kept-ne-RECORD : goal.returns-then-kept-ne-RECORD
returns-then-kept-ne-RECORD c = let told = open-short _ _ _ _ c.if-kept-ne-RECORD.true c.number_of_lengths.ensures in record { value = told.0; table_after = told.1.0; kept_after = told.1.1 }

pub returns : goal.returns
returns c = let told = open-five _ _ _ _ c.if-kept-ne-RECORD.false c.open-opened.ensures.answer c.open-opened.ensures.table c.keep_opened.ensures c.number_of.ensures in record { value = told.0; table_after = told.1.0; kept_after = told.1.1 }
