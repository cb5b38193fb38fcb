-- What `run` answers and leaves (document 01, "The plain store", second paragraph): it opens the disc, and carries out the calls that it is
-- lent, each with disc, marks and lent table as the last one left them and the record last handed back.
use Rattle.std.specs.Prelude.{ℕ, ◌≡◌, false, List, [], ◌∷◌, ◌++◌, Result, Ok, Err}
use Rattle.refusal.specs.Number.{number_of, answer_number}
use Rattle.model.specs.declared.Opened.{Opened}
use Rattle.refusal.specs.declared.Refusal.{Refusal}
use Rattle.model.specs.Disc.{Disc}
use Rattle.model.specs.Examine.{Setting}
use Rattle.model.specs.Both.{open_verdict, opening}
use Rattle.model.specs.Calls.{Call, Answer, State, answers, final}
use Rattle.model.specs.declared.Record.{Record}
use Rattle.model.specs.Lent.{Lent}
use Rattle.model.specs.Told.{record_values}
use Rattle.model.specs.Demand.{after_opening}
use Rattle.list_step.specs.Stepped.{state_of}
use Rattle.list_run.specs.Encoded.{decode}
use Rattle.list_run.specs.Listed.{mended, told, passed_after}

-- what is answered, and the lent things that may change
pub record Outcome : Type 0 where
  pub result : Result Opened Refusal
  pub disc : Disc
  pub table : List ℕ
  pub replies : List ℕ

-- the outcome of its parts
abbrev pub outcome : Result Opened Refusal → Disc → List ℕ → List ℕ → Outcome
outcome r d t replies = record { result = r; disc = d; table = t; replies = replies }

-- what a list of calls comes to from a state on, the last opening before it having passed over so many sectors
unfoldable pub carried_out : Setting → State → ℕ → List Call → List ℕ → Outcome
carried_out e st passed cs replies =
    outcome
    (Ok (record { handed = (final e st cs).held; passed = passed_after (answers e st cs) passed }))
    (final e st cs).disc
    (final e st cs).table
    (told (answers e st cs) replies)

-- the calls that are carried out of those that are lent
unfoldable pub listed : Setting → Disc → List ℕ → List ℕ → List ℕ → List Call
listed e d t numbers pool = mended e (after_opening e d t) false (decode numbers pool)

-- what they answer
unfoldable pub answered : Setting → Disc → List ℕ → List ℕ → List ℕ → List Answer
answered e d t numbers pool = answers e (after_opening e d t) (listed e d t numbers pool)

-- by the opening: where it is refused nothing lent changes and no call is carried out
unfoldable pub ran_by : Result Opened Refusal → Setting → Disc → List ℕ → List ℕ → List ℕ → List ℕ → Outcome
ran_by (Ok o) e d t numbers pool replies =
    carried_out e (after_opening e d t) o.passed (listed e d t numbers pool) replies
ran_by (Err why) e d t numbers pool replies = outcome (Err why) d t replies

-- the outcome of a run
unfoldable pub ran : Setting → Disc → List ℕ → List ℕ → List ℕ → List ℕ → Outcome
ran e d t numbers pool replies = ran_by (opening e d t) e d t numbers pool replies

-- ---- the promises over the lent lists: lent the table t, calls as numbers with a pool of bytes, and a place for replies, the call answers r and
-- leaves the disc d, the table t' and the replies after it

-- a list after an opening that handed the record and passed over so many sectors
abbrev pub CarriesOut : Lent → List ℕ → Record → ℕ → List ℕ → List ℕ → List ℕ → Result Opened Refusal → Disc → List ℕ → List ℕ → Type 0
CarriesOut x t held passed numbers pool replies r d t' replies' =
    outcome r d t' replies'
    ≡ carried_out x.setting (state_of x.disc t held) passed
    (mended x.setting (state_of x.disc t held) false (decode numbers pool))
    replies

-- a list with its own opening; its number is 0 where that was accepted, else the line by which it was turned down
pub record Runs (x : Lent) (t numbers pool replies : List ℕ) (r : Result Opened Refusal) (d : Disc) (t' replies' : List ℕ) : Type 0 where
  pub outcome : outcome r d t' replies' ≡ ran x.setting x.disc t numbers pool replies
  pub number : answer_number r ≡ answer_number (open_verdict x.setting x.disc t)
