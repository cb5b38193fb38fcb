-- What C sees of a list of calls (document 01, "The plain store", second paragraph): the number that is returned, what its own opening answers,
-- and every lent thing after it. C lends the record as five numbers; one of another length belongs to line 3.
use Rattle.std.specs.Prelude.{ℕ, ◌≡◌, cond, List, Result, Ok, Err}
use Rattle.model.specs.Disc.{Disc}
use Rattle.model.specs.Examine.{Setting}
use Rattle.model.specs.declared.Opened.{Opened}
use Rattle.refusal.specs.declared.Refusal.{Refusal}
use Rattle.model.specs.Lent.{Lent}
use Rattle.list_run.specs.Promise.{DemandMet, WaitMet}
use Rattle.list_run.specs.Outcome.{Outcome, outcome, ran}
use Rattle.refusal.specs.Number.{answer_number}
use Rattle.call_numbers.specs.Numbers.{length_refusal, record_opened}
use Rattle.capi.specs.Calls.{is_record}

-- the outcome of a run that is lent the table t, the record k, calls as numbers with a pool of bytes, and a place for replies
unfoldable pub lent_ran : Setting → Disc → List ℕ → List ℕ → List ℕ → List ℕ → List ℕ → Outcome
lent_ran e d t k calls pool replies =
    cond (is_record k) (ran e d t calls pool replies) (outcome (Err (length_refusal e d)) d t replies)

-- what C sees, the number n, the disc d, the table t, the replies told and the record k, which came as k₀, are those of the outcome o
pub record SeenRun (o : Outcome) (k₀ : List ℕ) (n : ℕ) (d : Disc) (t told k : List ℕ) : Type 0 where
  pub number : n ≡ answer_number o.result
  pub disc : d ≡ o.disc
  pub table : t ≡ o.table
  pub replies : told ≡ o.replies
  pub kept : k ≡ record_opened o.result k₀

-- over the lent lists: a run that is lent the table t, the record k, calls as numbers with a pool of bytes, and a place for replies returns n and
-- leaves the disc d, the table t', the replies told and the record k'
abbrev pub SeenRuns : Lent → List ℕ → List ℕ → List ℕ → List ℕ → List ℕ → ℕ → Disc → List ℕ → List ℕ → List ℕ → Type 0
SeenRuns x t k calls pool replies n d t' told k' =
    SeenRun (lent_ran x.setting x.disc t k calls pool replies) k n d t' told k'

-- and demand 3 holds of the disc d and the table t' that it leaves
abbrev pub SeenDemand : Lent → List ℕ → List ℕ → List ℕ → List ℕ → List ℕ → Disc → List ℕ → Type 0
SeenDemand x t k calls pool replies d t' =
    DemandMet x.setting x.disc t calls pool (lent_ran x.setting x.disc t k calls pool replies).result d t'

-- and the bound on what its openings pass over (02, slip 12)
abbrev pub SeenWait : Lent → List ℕ → List ℕ → List ℕ → List ℕ → List ℕ → Type 0
SeenWait x t k calls pool replies = WaitMet x.setting x.disc t calls pool (lent_ran x.setting x.disc t k calls pool replies).result
