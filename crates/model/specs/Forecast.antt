-- Will this trial fit (02, slip 9): "From a lent list of virtual numbers, those at or above 0x80000000 standing for a commit, the program works out
-- the NWA and N at the end, or the index, from 0, of the first item that would be refused and its number, without changing the disc. For every list
-- and every set of blocks that none of the saves refuses under 15, carrying it out uncut, from the same disc, table and record, up to a first
-- refusal, must give exactly that."
use Rattle.std.specs.Prelude.{ℕ, ◌+◌, ◌<◌, ◌≡◌, Bool, cond, List, [], ◌∷◌, length, replicate, leb, Ok, Err, Result}
use Rattle.refusal.specs.declared.Refusal.{Refusal}
use Rattle.refusal.specs.declared.Refusal.TheVariants.{StaleRecord, NumberOutside, PassesAsIcb, NoRoom}
use Rattle.refusal.specs.Verdict.{Verdict}
use Rattle.refusal.specs.Number.{answer_number}
use Rattle.refusal.specs.Tests.{Test, first}
use Rattle.model.specs.declared.Cut.{Cut}
use Rattle.model.specs.declared.Record.{Record}
use Rattle.model.specs.declared.Forecast.{Forecast}
use Rattle.model.specs.Disc.{Disc}
use Rattle.model.specs.Writes.{no_cut}
use Rattle.model.specs.Told.{forecast_number}
use Rattle.model.specs.VatWritten.{written_icb}
use Rattle.model.specs.Examine.{Setting}
use Rattle.model.specs.Lent.{Lent}
use Rattle.model.specs.Once.{entries_held, next_held, number_test, room_test, saved_record, commit_tests, committed_record, held_verdict}
use Rattle.model.specs.Calls.{Call, save_virtual, commit, Answer, done, cut, refused, opened, State, answers, final}
use Rattle.model.specs.Examples.{zeros}
use Rattle.model.specs.Run.{twelve, ones, before}

-- ---- the forecast, from the tests and records of the calls themselves (Once.antt)

-- whether an item stands for a commit; any other is the number of a block to be saved
unfoldable pub is_commit : ℕ → Bool
is_commit x = leb 0x80000000 x

-- line 16 of a commit; lines 12 and 16 of a save, of which 15 is about the block
unfoldable pub item_tests : Setting → Record → ℕ → List Test
item_tests e held x = cond (is_commit x) (commit_tests e held) (number_test held x ∷ room_test e held x ∷ [])

-- the record after an item
unfoldable pub item_record : Record → ℕ → Record
item_record held x = cond (is_commit x) (committed_record held) (saved_record held x)

-- item i is refused, or what the items after it give
unfoldable pub item_by : Verdict → ℕ → Result Forecast Refusal → Result Forecast Refusal
item_by (Ok _) i rest = rest
item_by (Err why) i rest = Ok (Forecast.Stops i why)

-- the items, the first of which has index i
unfoldable pub forecast_from : Setting → ℕ → Record → List ℕ → Result Forecast Refusal
forecast_from e i held [] = Ok (Forecast.Ends (next_held held) (entries_held held))
forecast_from e i held (x ∷ xs) = item_by (first (item_tests e held x)) i (forecast_from e (i + 1) (item_record held x) xs)

-- the call is refused, or gives the forecast
unfoldable pub forecast_by : Verdict → Result Forecast Refusal → Result Forecast Refusal
forecast_by (Ok _) f = f
forecast_by (Err why) f = Err why

-- what the call answers: lines 1 to 7 and 11 are its own
unfoldable pub forecast : Setting → Disc → List ℕ → Record → List ℕ → Result Forecast Refusal
forecast e d t held xs = forecast_by (held_verdict e d t held) (forecast_from e 0 held xs)

-- ---- carrying the list out, as a list of calls of demand 3 (Calls.antt)

-- an item as a call, with the block b, if it is a save, and the cut c
unfoldable pub item_call : ℕ → List ℕ → Cut → Call
item_call x b c = cond (is_commit x) (commit c) (save_virtual x b c)

-- the items, the first of which has index i, as calls, each with a block and a cut
unfoldable pub item_calls : (ℕ → List ℕ) → (ℕ → Cut) → ℕ → List ℕ → List Call
item_calls blocks cuts i [] = []
item_calls blocks cuts i (x ∷ xs) = item_call x (blocks i) (cuts i) ∷ item_calls blocks cuts (i + 1) xs

-- an answer is a refusal, of item i, or what the answers after it tell
unfoldable pub or_refused : Answer → ℕ → Result Forecast Refusal → Result Forecast Refusal
or_refused (done r) i rest = rest
or_refused cut i rest = rest
or_refused (refused why) i rest = Ok (Forecast.Stops i why)
or_refused (opened r n) i rest = rest

-- what the answers tell, the first of which is that of item i: the first refusal; or, where there is none, NWA and N of the record at the end
unfoldable pub told : ℕ → List Answer → Record → Result Forecast Refusal
told i [] held = Ok (Forecast.Ends (next_held held) (entries_held held))
told i (a ∷ al) held = or_refused a i (told (i + 1) al held)

-- the answers of the items, carried out from the state st
abbrev pub item_answers : Setting → State → (ℕ → List ℕ) → (ℕ → Cut) → List ℕ → List Answer
item_answers e st blocks cuts xs = answers e st (item_calls blocks cuts 0 xs)

-- and what they tell
unfoldable pub carried_out : Setting → State → (ℕ → List ℕ) → (ℕ → Cut) → List ℕ → Result Forecast Refusal
carried_out e st blocks cuts xs = told 0 (item_answers e st blocks cuts xs) (final e st (item_calls blocks cuts 0 xs)).held

-- up to a first refusal no call is cut, and that refusal is not line 15
unfoldable pub Unhindered : List Answer → Type 0
Unhindered [] = Unit {0}
Unhindered (done r ∷ al) = Unhindered al
Unhindered (cut ∷ al) = ⊥
Unhindered (refused why ∷ al) = why ≡ PassesAsIcb → ⊥
Unhindered (opened r n ∷ al) = Unhindered al

-- ---- the claim

-- the call is not refused
abbrev pub Accepted : Result Forecast Refusal → Type 0
Accepted f = (why : Refusal) → f ≡ Err why → ⊥

-- what is claimed of the answer f to the items xs, where carrying them out is answered al and tells g
pub record Foretold (xs : List ℕ) (f : Result Forecast Refusal) (al : List Answer) (g : Result Forecast Refusal) : Type 0 where
  -- where the call is not refused, it answers exactly that
  pub exactly : Accepted f → Unhindered al → f ≡ g
  -- where it is refused, so is the first item of every list that has one, with the same number
  pub likewise : (why : Refusal) → f ≡ Err why → 0 < length xs → g ≡ Ok (Forecast.Stops 0 why)

-- for every disc, table and record, be they of an opening or not, every list, all blocks of 2,048 bytes and all cuts; a cut that strikes no write
-- of its call is none
unfoldable pub ForecastTrue : Type 0
ForecastTrue =
    (e : Setting) (st : State) (xs : List ℕ) (blocks : ℕ → List ℕ) (cuts : ℕ → Cut) → ((i : ℕ) → length (blocks i) ≡ 2048)
    → Foretold xs (forecast e st.disc st.table st.held xs) (item_answers e st blocks cuts xs) (carried_out e st blocks cuts xs)

-- whatever is forecast, there are blocks with which it is carried out so: those of zeros
unfoldable pub ForecastMet : Type 0
ForecastMet =
    (e : Setting) (st : State) (xs : List ℕ) → Accepted (forecast e st.disc st.table st.held xs)
    → Unhindered (item_answers e st (λ i. zeros) (λ i. no_cut) xs)

-- ---- the promise of the call that is lent the table t and the items xs, and answers r; it writes nothing and leaves every lent thing as it came
pub record Forecasts (x : Lent) (t : List ℕ) (held : Record) (xs : List ℕ) (r : Result Forecast Refusal) : Type 0 where
  pub answer : r ≡ forecast x.setting x.disc t held xs
  pub number : forecast_number r ≡ answer_number (held_verdict x.setting x.disc t held)
  -- and the claim of what it answers
  pub foretells :
      (blocks : ℕ → List ℕ) (cuts : ℕ → Cut) → ((i : ℕ) → length (blocks i) ≡ 2048)
      → Foretold xs r
      (item_answers x.setting (record { disc = x.disc; table = t; held = held }) blocks cuts xs)
      (carried_out x.setting (record { disc = x.disc; table = t; held = held }) blocks cuts xs)

-- ---- on the disc of Run.antt, which has twelve blocks: opened, its NWA is 1 and its N is 0

-- two blocks are saved and committed, then one of them again
unfoldable pub day : List ℕ
day = 0 ∷ 1 ∷ 0x80000000 ∷ 1 ∷ 0xffffffff ∷ []

-- what the calls answer: a record is N, NWA and the last ICB
unfoldable pub day_given : List Answer
day_given =
    done (Record.WriteOnce 1 2 0)
    ∷ done (Record.WriteOnce 2 3 0)
    ∷ done (Record.WriteOnce 2 4 3)
    ∷ done (Record.WriteOnce 2 5 3)
    ∷ done (Record.WriteOnce 2 6 5)
    ∷ []

-- a block is left out
unfoldable pub gap : List ℕ
gap = 0 ∷ 2 ∷ []

-- a block is saved eleven times
unfoldable pub many : List ℕ
many = replicate 11 0

-- what the call answers after the opening
abbrev pub foreseen : Record → List ℕ → Result Forecast Refusal
foreseen held xs = forecast twelve before.disc before.table held xs

-- what is claimed of them
pub record Fitting : Type 0 where
  -- all of the first; at the end NWA is 6 and N is 2
  pub fits : foreseen before.held day ≡ Ok (Forecast.Ends 6 2)
  pub answered : item_answers twelve before (λ i. ones) (λ i. no_cut) day ≡ day_given
  -- the second item of the second, under 12
  pub skips : foreseen before.held gap ≡ Ok (Forecast.Stops 1 NumberOutside)
  -- the eleventh of the third, under 16: after it no commit would fit
  pub fills : foreseen before.held many ≡ Ok (Forecast.Stops 10 NoRoom)
  -- a block that would pass as an ICB at NWA is not foreseen: its save is refused under 15
  pub unforeseen : carried_out twelve before (λ i. written_icb 1 [] 0) (λ i. no_cut) day ≡ Ok (Forecast.Stops 0 PassesAsIcb)
  -- and nothing is foreseen from a record that does not go with the disc
  pub stale : foreseen (Record.WriteOnce 0 2 0) day ≡ Err StaleRecord
