-- The lists of calls of model's Run.antt and Wait.antt as they are lent: what is told of the nineteen calls of the first, in replies that have a
-- place more; and of the openings of the second, how many writes were begun before each. Assumes nothing.
use Prim.Native.Nat.{ℕ}
use mathlib.Core.Path.{◌≡◌, refl, ap, ◌∙◌}
use mathlib.Core.List.{List, [], ◌∷◌}
use lib.ListN.{take, replicate}
use Rattle.model.specs.Calls.{Call, Answer, answers}
use Rattle.model.specs.Demand.{after_opening}
use Rattle.model.specs.Run.{twelve, fresh, lent, calls, given, before}
use Rattle.model.specs.Wait.{count, counted_after, waits, waited}
use Rattle.model.proofs.Run.{run}
use Rattle.model.proofs.WaitReached.{wait-reached}
use Rattle.list_run.specs.Encoded.{encode, pool_of}
use Rattle.list_run.specs.Listed.{told}
use Rattle.list_run.specs.Outcome.{listed, answered}
use Rattle.list_run.specs.Promise.{count_before}
use Rattle.list_run.proofs.Ending.{listed-encode}

-- they are carried out as they are
same-calls : listed twelve fresh lent (encode 0 calls) (pool_of calls) ≡ calls
unfolding before
same-calls = listed-encode twelve fresh lent calls run.proper

same-answers : answered twelve fresh lent (encode 0 calls) (pool_of calls) ≡ given
unfolding answered before
same-answers = ap (answers twelve (after_opening twelve fresh lent)) same-calls ∙ run.answered

given-told : told given (replicate 20 7) ≡ 0 ∷ 255 ∷ 0 ∷ 0 ∷ 255 ∷ 0 ∷ 0 ∷ 12 ∷ 0 ∷ 255 ∷ 0 ∷ 0 ∷ 0 ∷ 255 ∷ 0 ∷ 0 ∷ 0 ∷ 0 ∷ 0 ∷ 7 ∷ []
unfolding told given
given-told = refl

-- what is told of them
pub example-replies : told (answered twelve fresh lent (encode 0 calls) (pool_of calls)) (replicate 20 7) ≡ 0 ∷ 255 ∷ 0 ∷ 0 ∷ 255 ∷ 0 ∷ 0 ∷ 12 ∷ 0 ∷ 255 ∷ 0 ∷ 0 ∷ 0 ∷ 255 ∷ 0 ∷ 0 ∷ 0 ∷ 0 ∷ 0 ∷ 7 ∷ []
example-replies = ap (λ (al : List Answer). told al (replicate 20 7)) same-answers ∙ given-told

-- ---- what its openings pass over

same-waits : listed twelve fresh lent (encode 0 waits) (pool_of waits) ≡ waits
same-waits = listed-encode twelve fresh lent waits wait-reached.follows.proper

-- its own opening is clean, so the count begins at 0
count-as : (i : ℕ) → count_before twelve fresh lent (encode 0 waits) (pool_of waits) i ≡ counted_after twelve fresh lent 0 (take i waits)
count-as i =
    ap (λ (p : ℕ). counted_after twelve fresh lent p (take i (listed twelve fresh lent (encode 0 waits) (pool_of waits)))) wait-reached.clean
    ∙ ap (λ (cs : List Call). counted_after twelve fresh lent 0 (take i cs)) same-waits

-- the openings are calls 2, 5 and 8; they passed over 2, 3 and 0 sectors; 2, 4 and 0 writes were begun, of which none, one and none became old
pub record Waits : Type 0 where
  pub answers : answered twelve fresh lent (encode 0 waits) (pool_of waits) ≡ waited
  pub first : count_before twelve fresh lent (encode 0 waits) (pool_of waits) 2 ≡ count 2 0
  pub second : count_before twelve fresh lent (encode 0 waits) (pool_of waits) 5 ≡ count 4 1
  pub third : count_before twelve fresh lent (encode 0 waits) (pool_of waits) 8 ≡ count 0 0

pub example-waits : Waits
unfolding answered before
example-waits =
    record {
      answers = ap (answers twelve (after_opening twelve fresh lent)) same-waits ∙ wait-reached.answered;
      first = count-as 2 ∙ wait-reached.reached;
      second = count-as 5 ∙ wait-reached.below;
      third = count-as 8 ∙ wait-reached.over;
    }
