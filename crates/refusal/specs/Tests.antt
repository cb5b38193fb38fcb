-- A call's refusals as one list of tests in checking order (document 01, "Why a call is turned down").
use Rattle.std.specs.Prelude.{Bool, true, false, List, [], ◌∷◌, Ok, Err}
use Rattle.refusal.specs.declared.Refusal.{Refusal}
use Rattle.refusal.specs.Verdict.{Verdict}

-- what has to hold for the tests after it to be asked, and the reason where it does not
pub data Test : Type 0 where
  test : Bool → Refusal → Test

-- stop for the reason where the test does not hold; else the verdict of what follows
unfoldable pub need : Bool → Refusal → Verdict → Verdict
need true why v = v
need false why v = Err why

-- the reason of the first test that does not hold
abbrev pub first : List Test → Verdict
first [] = Ok tt
first (test ok why ∷ l) = need ok why (first l)

-- the first verdict, and where that lets the call go on, the second
abbrev pub and_then : Verdict → Verdict → Verdict
and_then (Ok _) v = v
and_then (Err why) v = Err why
