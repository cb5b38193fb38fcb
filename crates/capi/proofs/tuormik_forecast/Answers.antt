-- `capi::tuormik_forecast` meets its contract: each return by the law of its case. Assumes nothing.
use Rattle.capi.proofs.Laws.{forecast-no-record, forecast-no-result, forecast-seen}
use Rattle.capi.proofs.tuormik_forecast.Goals as goal

pub returns-then-kept-ne-RECORD : goal.returns-then-kept-ne-RECORD
returns-then-kept-ne-RECORD c = let told = forecast-no-record _ _ _ _ _ _ c.if-kept-ne-RECORD.true c.number_of_lengths.ensures in record { value = told.0; res_after = told.1 }

pub returns-then-res-ne-FORECAST : goal.returns-then-res-ne-FORECAST
returns-then-res-ne-FORECAST c = let told = forecast-no-result _ _ _ _ _ _ c.if-kept-ne-RECORD.false c.if-res-ne-FORECAST.true c.number_of_lengths-then-res-ne-FORECAST.ensures in record { value = told.0; res_after = told.1 }

pub returns : goal.returns
returns c = let told = forecast-seen _ _ _ _ _ _ c.if-kept-ne-RECORD.false c.if-res-ne-FORECAST.false c.read_record-held.ensures c.forecast-told.ensures.answer c.tell_forecast.ensures.value c.tell_forecast.ensures.res_after in record { value = told.0; res_after = told.1 }
