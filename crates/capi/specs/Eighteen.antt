-- Nobody who calls from C is given 18 (02, slip 1: "Refusal 18 no longer occurs, which is to be shown"). The promises of the functions say which
-- number each returns; these are all the forms in which they say it. Those of the CRC return no line.
use Rattle.std.specs.Prelude.{ℕ, ◌≢◌, List}
use Rattle.refusal.specs.declared.Refusal.{Refusal}
use Rattle.refusal.specs.Number.{number_of, answer_number}
use Rattle.model.specs.declared.Cut.{Cut}
use Rattle.model.specs.Disc.{Disc}
use Rattle.model.specs.Told.{forecast_number}
use Rattle.model.specs.Examine.{Setting}
use Rattle.model.specs.Plan.{Plan}
use Rattle.model.specs.Both.{make_verdict}
use Rattle.model.specs.Calls.{Call, State, step}
use Rattle.call_lists.specs.Lists.{maps_verdict, lent_verdict, lent_look_up}
use Rattle.list_step.specs.Stepped.{number_for}
use Rattle.list_run.specs.Outcome.{Outcome}
use Rattle.capi.specs.Calls.{SeenWrite, lent_opening, lent_reading, lent_fullness, lent_forecast}
use Rattle.capi.specs.Run.{SeenRun}

-- whatever is lent
pub record GivesNoEighteen : Type 0 where
  pub opening : (e : Setting) (d : Disc) (t k : List ℕ) → answer_number (lent_opening e d t k) ≢ 18
  pub reading : (e : Setting) (d : Disc) (t k : List ℕ) (v : ℕ) (out : List ℕ) → answer_number (lent_reading e d t k v out) ≢ 18
  pub making : (e : Setting) (d : Disc) (spares : List ℕ) → answer_number (make_verdict e d spares) ≢ 18
  -- each writing call, sparing among them
  pub writing : (p : Plan) (c : Cut) (d₀ : Disc) (t₀ k₀ : List ℕ) (n : ℕ) (d : Disc) (t k : List ℕ) → SeenWrite p c d₀ t₀ k₀ n d t k → n ≢ 18
  -- a list of calls, and each number in its replies, which is that of a call of the list
  pub run : (o : Outcome) (k₀ : List ℕ) (n : ℕ) (d : Disc) (t told k : List ℕ) → SeenRun o k₀ n d t told k → n ≢ 18
  pub replies : (e : Setting) (st : State) (c : Call) → number_for (step e st c).answer ≢ 18
  pub fullness : (e : Setting) (d : Disc) (t k result : List ℕ) → answer_number (lent_fullness e d t k result) ≢ 18
  -- a forecast, and the number of the item that would be refused, which stands first in the lent result
  pub forecast : (e : Setting) (d : Disc) (t k xs result : List ℕ) → forecast_number (lent_forecast e d t k xs result) ≢ 18
  pub item : (why : Refusal) → number_of why ≢ 18
  -- map lists and VAT files
  pub read_maps : (maps result : List ℕ) → answer_number (maps_verdict maps result) ≢ 18
  pub write_maps : (kind partition size : ℕ) (tables out : List ℕ) → answer_number (lent_verdict kind partition size tables out) ≢ 18
  pub look_up : (file : List ℕ) (v : ℕ) (result : List ℕ) → answer_number (lent_look_up file v result) ≢ 18
