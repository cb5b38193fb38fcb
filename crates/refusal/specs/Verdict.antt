-- What a list of tests comes to: the call goes on, or stops for a reason; and an answer beside it.
use Rattle.std.specs.Prelude.{Result, Ok, Err}
use Rattle.refusal.specs.declared.Refusal.{Refusal}

-- the call goes on, or stops for a reason
abbrev pub Verdict : Type 0
Verdict = Result (Unit {0}) Refusal

-- the verdict that an answer tells of
abbrev pub verdict_of : {A : Type 0} → Result A Refusal → Verdict
verdict_of (Ok x) = Ok tt
verdict_of (Err why) = Err why

-- the answer of a verdict: a value where the call goes on
abbrev pub answered : {A : Type 0} → Verdict → A → Result A Refusal
answered (Ok _) x = Ok x
answered (Err why) x = Err why
