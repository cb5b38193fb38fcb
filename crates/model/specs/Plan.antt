-- A call as a plan (document 01, "Calls and their sector writes"): a refusal; or the sector writes in their order, the lent table after them
-- and the record handed back. A cut call leaves the lent table as it came and hands back no record.
use Rattle.std.specs.Prelude.{ℕ, ◌≡◌, cond, List, length, Ok, Err, Result}
use Rattle.refusal.specs.declared.Refusal.{Refusal}
use Rattle.refusal.specs.Verdict.{Verdict}
use Rattle.refusal.specs.Number.{number_of}
use Rattle.model.specs.declared.Cut.{Cut}
use Rattle.model.specs.declared.Record.{Record}
use Rattle.model.specs.declared.Reply.{Reply}
use Rattle.model.specs.Told.{reply_number}
use Rattle.model.specs.Disc.{Disc}
use Rattle.model.specs.Writes.{Write, writes, struck}

-- what a call is to do
pub data Plan : Type 0 where
  refuse : Refusal → Plan
  carry : List Write → List ℕ → Record → Plan

-- what is planned where no test stops it
unfoldable pub unless : Verdict → Plan → Plan
unless (Ok _) p = p
unless (Err why) p = refuse why

-- the reply
unfoldable pub reply_of : Plan → Cut → Result Reply Refusal
reply_of (refuse why) c = Err why
reply_of (carry ws t r) c = cond (struck c (length ws)) (Ok Reply.Cut) (Ok (Reply.Done r))

-- the disc after it
unfoldable pub disc_after : Plan → Cut → Disc → Disc
disc_after (refuse why) c d = d
disc_after (carry ws t r) c d = writes 1 c ws d

-- the lent table after it, which came as t₀
unfoldable pub table_after : Plan → Cut → List ℕ → List ℕ
table_after (refuse why) c t₀ = t₀
table_after (carry ws t r) c t₀ = cond (struck c (length ws)) t₀ t

-- the number that a caller is told: the line of a refusal, 255 where the power failed, else 0
unfoldable pub plan_number : Plan → Cut → ℕ
plan_number (refuse why) c = number_of why
plan_number (carry ws t r) c = cond (struck c (length ws)) 255 0

-- a call's reply r, with its number, disc d and table t are those of the plan p under the cut c, from the disc d₀ and the table t₀
pub record Meets (p : Plan) (c : Cut) (d₀ : Disc) (t₀ : List ℕ) (r : Result Reply Refusal) (d : Disc) (t : List ℕ) : Type 0 where
  pub reply : r ≡ reply_of p c
  pub number : reply_number r ≡ plan_number p c
  pub disc : d ≡ disc_after p c d₀
  pub table : t ≡ table_after p c t₀
