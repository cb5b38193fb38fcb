-- The free run that is nearest to a block (02, slip 10): "find the free run of a wanted length (that many free blocks in a row, within a
-- longer row too) whose first block is nearest to a given block, the lower of two at equal distance".
use Rattle.std.specs.Prelude.{ℕ, zero, suc, ◌+◌, ◌-◌, ◌≤◌, ◌≡◌, Bool, true, false, cond, not, ◌&&◌, ◌||◌, List, [], ◌∷◌, ◌++◌, eqb, leb, ltb, Result, Ok, Err}
use Rattle.refusal.specs.Number.{number_of, answer_number}
use Rattle.refusal.specs.Tests.{Test, test, first}
use Rattle.refusal.specs.declared.Refusal.{Refusal}
use Rattle.refusal.specs.declared.Refusal.TheVariants.{NumberOutside, WrongRun, NoRun}
use Rattle.refusal.specs.Verdict.{Verdict}
use Rattle.bitmap.specs.Bits.{all_in}
use Rattle.bitmap.specs.Formed.{bitmap_tests}

-- a free run of w blocks begins at f, within a longer row too
unfoldable pub run_at : List ℕ → ℕ → ℕ → ℕ → Bool
run_at b l w f = leb (f + w) l && all_in b 1 f w

-- how far apart two blocks are
abbrev pub apart : ℕ → ℕ → ℕ
apart a b = (a - b) + (b - a)

-- the run that begins at f is nearest to `near`, and the lower of two at equal distance
pub record Nearest (b : List ℕ) (l w near f : ℕ) : Type 0 where
  pub run : run_at b l w f ≡ true
  pub closest : (g : ℕ) → run_at b l w g ≡ true → apart f near ≤ apart g near
  pub lower : (g : ℕ) → run_at b l w g ≡ true → apart g near ≡ apart f near → f ≤ g

-- outward from `near`: at each distance the lower block, then the higher
unfoldable pub outward : List ℕ → ℕ → ℕ → ℕ → ℕ → ℕ → Result ℕ Refusal
outward b l w near d zero = Err NoRun
outward b l w near d (suc n) =
    cond (leb d near && run_at b l w (near - d))
    (Ok (near - d))
    (cond (run_at b l w (near + d)) (Ok (near + d)) (outward b l w near (d + 1) n))

-- the first block of the nearest run; 33 where there is none
unfoldable pub nearest : List ℕ → ℕ → ℕ → ℕ → Result ℕ Refusal
nearest b l w near = outward b l w near 0 l

-- lines 31, 12 and 32, in checking order
abbrev pub find_tests : List ℕ → ℕ → ℕ → ℕ → List Test
find_tests b l w near = bitmap_tests b l ++ (test (ltb near l) NumberOutside ∷ test (not (eqb w 0)) WrongRun ∷ [])

-- a search, or the refusal of the first test that does not hold
abbrev pub unless_found : Verdict → Result ℕ Refusal → Result ℕ Refusal
unless_found (Ok _) f = f
unless_found (Err why) f = Err why

-- the answer of the call
unfoldable pub found : List ℕ → ℕ → ℕ → ℕ → Result ℕ Refusal
found b l w near = unless_found (first (find_tests b l w near)) (nearest b l w near)

-- ---- what a caller is told

-- and the value, the first block of the run
abbrev pub found_values : Result ℕ Refusal → List ℕ
found_values (Ok f) = f ∷ []
found_values (Err why) = []

-- a free run of w blocks begins at one of the n blocks from f on
unfoldable pub some_run : List ℕ → ℕ → ℕ → ℕ → ℕ → Bool
some_run b l w f zero = false
some_run b l w f (suc n) = run_at b l w f || some_run b l w (f + 1) n

-- the lines of the call in checking order, 33 the last: "no such run exists"
abbrev pub find_lines : List ℕ → ℕ → ℕ → ℕ → List Test
find_lines b l w near = find_tests b l w near ++ (test (some_run b l w 0 l) NoRun ∷ [])

-- finding, lent the bytes b for l blocks, answers r
pub record Finds (b : List ℕ) (l w near : ℕ) (r : Result ℕ Refusal) : Type 0 where
  pub answer : r ≡ found b l w near
  pub number : answer_number r ≡ answer_number (first (find_lines b l w near))
