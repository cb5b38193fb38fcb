-- What a caller is told of the answers that calls share: the number of document 01, "Why a call is turned down", 0 where the call was carried out
-- and 255 where the power failed in it; and the values that go with each case ("Calls and their sector writes": "The record handed back").
use Rattle.std.specs.Prelude.{ℕ, List, [], ◌∷◌, ◌++◌, Result, Ok, Err}
use Rattle.refusal.specs.Number.{number_of}
use Rattle.model.specs.declared.Record.{Record}
use Rattle.model.specs.declared.Reply.{Reply}
use Rattle.refusal.specs.declared.Refusal.{Refusal}
use Rattle.model.specs.declared.Opened.{Opened}
use Rattle.model.specs.declared.Forecast.{Forecast}

-- the values of a record: kind (0 write-once, 1 rewritable), N or R, NWA or the sequence, and the last ICB (0 on a rewritable disc)
abbrev pub record_values : Record → List ℕ
record_values (Record.WriteOnce n next last) = 0 ∷ n ∷ next ∷ last ∷ []
record_values (Record.Rewritable n sequence) = 1 ∷ n ∷ sequence ∷ 0 ∷ []

-- the number of a writing call's reply
abbrev pub reply_number : Result Reply Refusal → ℕ
reply_number (Ok (Reply.Done r)) = 0
reply_number (Ok Reply.Cut) = 255
reply_number (Err why) = number_of why

-- and its values: the record that is handed back
abbrev pub reply_values : Result Reply Refusal → List ℕ
reply_values (Ok (Reply.Done r)) = record_values r
reply_values (Ok Reply.Cut) = []
reply_values (Err why) = []

-- the values of an opening's answer: the record, and how many sectors were passed over
abbrev pub opened_values : Result Opened Refusal → List ℕ
opened_values (Ok o) = record_values o.handed ++ (o.passed ∷ [])
opened_values (Err why) = []

-- the number of a forecast: 0 too where an item would be refused
abbrev pub forecast_number : Result Forecast Refusal → ℕ
forecast_number (Ok (Forecast.Ends next n)) = 0
forecast_number (Ok (Forecast.Stops i why)) = 0
forecast_number (Err why) = number_of why

-- and its values: 0, NWA and N; or the number of the refused item, its index and 0
abbrev pub forecast_values : Result Forecast Refusal → List ℕ
forecast_values (Ok (Forecast.Ends next n)) = 0 ∷ next ∷ n ∷ []
forecast_values (Ok (Forecast.Stops i why)) = number_of why ∷ i ∷ 0 ∷ []
forecast_values (Err why) = []
