-- A record, a cut, an answer and a forecast as the numbers that C lends and is given (document 01, "Calls and their sector writes"; "Why a call is
-- turned down").
use Rattle.std.specs.Prelude.{ℕ, false, cond, List, [], ◌∷◌, ◌++◌, get_or, eqb, Ok, Err, Result}
use Rattle.refusal.specs.declared.Refusal.{Refusal}
use Rattle.refusal.specs.declared.Refusal.TheVariants.{LentLength}
use Rattle.refusal.specs.Verdict.{Verdict}
use Rattle.refusal.specs.Tests.{first}
use Rattle.model.specs.declared.Effect.{Effect}
use Rattle.model.specs.declared.Cut.{Cut}
use Rattle.model.specs.declared.Record.{Record}
use Rattle.model.specs.declared.Reply.{Reply}
use Rattle.model.specs.declared.Opened.{Opened}
use Rattle.model.specs.declared.Forecast.{Forecast}
use Rattle.model.specs.Disc.{Disc}
use Rattle.model.specs.Told.{record_values, reply_values, opened_values, forecast_values}
use Rattle.model.specs.Examine.{Setting, shape_tests}

-- ---- cuts

-- the effect of a number: 0 old, 1 unreadable, anything else whole
abbrev pub effect_of : ℕ → Effect
effect_of x = cond (eqb x 0) Effect.Old (cond (eqb x 1) Effect.Unreadable Effect.Whole)

-- the cut at a write, with the effect of a number
abbrev pub cut_of : ℕ → ℕ → Cut
cut_of at x = record { at = at; effect = effect_of x }

-- ---- the record: kind (0 write-once, 1 rewritable), N or R, NWA or the sequence, the last ICB (0 on a rewritable disc), passed over

-- a record that line 11 refuses on either kind of disc, its last ICB being at NWA
abbrev pub neither : Record
neither = Record.WriteOnce 0 0 0

-- the record of lent numbers; a kind above 1 is none that a disc has
unfoldable pub record_of : List ℕ → Record
record_of k =
    cond (eqb (get_or k 0 0) 0)
    (Record.WriteOnce (get_or k 1 0) (get_or k 2 0) (get_or k 3 0))
    (cond (eqb (get_or k 0 0) 1) (Record.Rewritable (get_or k 1 0) (get_or k 2 0)) neither)

-- the numbers of a record, and of how many sectors were passed over
abbrev pub numbers_of : Record → ℕ → List ℕ
numbers_of r passed = record_values r ++ (passed ∷ [])

-- the lent numbers after a writing call's reply: passed over is kept, and a cut or a refusal leaves them as they came
abbrev pub record_after : Result Reply Refusal → List ℕ → List ℕ
record_after (Ok (Reply.Done r)) k = reply_values (Ok (Reply.Done r)) ++ (get_or k 4 0 ∷ [])
record_after (Ok Reply.Cut) k = k
record_after (Err why) k = k

-- the lent numbers after an opening, which sets passed over
abbrev pub record_opened : Result Opened Refusal → List ℕ → List ℕ
record_opened (Ok o) k = opened_values (Ok o)
record_opened (Err why) k = k

-- ---- a forecast: 0, NWA and N at the end; or the number of the refused item, its index and 0

-- the lent result after it; a refusal leaves it as it came
abbrev pub forecast_after : Result Forecast Refusal → List ℕ → List ℕ
forecast_after (Ok (Forecast.Ends next n)) result = forecast_values (Ok (Forecast.Ends next n))
forecast_after (Ok (Forecast.Stops i why)) result = forecast_values (Ok (Forecast.Stops i why))
forecast_after (Err why) result = result

-- ---- lines 1 to 3 of a call on a disc that is lent a record or a result of another length than stated

-- the reason of a verdict
abbrev pub reason : Verdict → Refusal
reason (Ok _) = LentLength
reason (Err why) = why

-- the first of lines 1 to 3, of which the last one applies
unfoldable pub length_refusal : Setting → Disc → Refusal
length_refusal e d = reason (first (shape_tests e d false))
