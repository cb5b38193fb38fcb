-- The free blocks counted (02, slip 10): "Count the free blocks, ones among the L bits".
use Rattle.std.specs.Prelude.{ℕ, ◌≡◌, List, [], ◌∷◌, Result, Ok, Err}
use Rattle.refusal.specs.Number.{number_of, answer_number}
use Rattle.refusal.specs.Tests.{first}
use Rattle.refusal.specs.declared.Refusal.{Refusal}
use Rattle.refusal.specs.Verdict.{Verdict, answered}
use Rattle.bitmap.specs.Bits.{free_from}
use Rattle.bitmap.specs.Formed.{bitmap_tests}

-- the answer of the call
unfoldable pub counted : List ℕ → ℕ → Result ℕ Refusal
counted b l = answered (first (bitmap_tests b l)) (free_from b 0 l)

-- ---- what a caller is told

-- the value, how many blocks are free
abbrev pub counted_values : Result ℕ Refusal → List ℕ
counted_values (Ok n) = n ∷ []
counted_values (Err why) = []

-- counting, lent the bytes b for l blocks, answers r
pub record Counts (b : List ℕ) (l : ℕ) (r : Result ℕ Refusal) : Type 0 where
  pub answer : r ≡ counted b l
  pub number : answer_number r ≡ answer_number (first (bitmap_tests b l))
