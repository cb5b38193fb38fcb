-- What the scans for a run find, upward and downward.
use Rattle.std.specs.Prelude.{ℕ, ◌+◌, ◌/◌, ◌%◌, ◌^◌, ◌≤◌, ◌<◌, ◌≡◌, ◌⊎◌, true, List, Option, MatchOption}
use Rattle.bitmap_find.specs.Nearest.{run_at}

-- a number below d of which P holds, or none, where P holds of d
abbrev pub SomeBelow : (ℕ → Type 0) → ℕ → Option ℕ → Type 0
SomeBelow P d o = MatchOption o (P d) (λ r. (r < d) × P r)

-- x has w ones in a row from digit j on
abbrev pub Ones : ℕ → ℕ → ℕ → Type 0
Ones x j w = (i : ℕ) → j ≤ i → i < j + w → x / 2 ^ i % 2 ≡ 1

-- y has a one where x has w of them in a row
pub record Folded (x w y : ℕ) : Type 0 where
  pub row : (j : ℕ) → y / 2 ^ j % 2 ≡ 1 → Ones x j w
  pub here : (j : ℕ) → Ones x j w → y / 2 ^ j % 2 ≡ 1
  pub small : y < 2 ^ 64

-- the lowest first block of a run from a block on, or L
pub record Lowest (b : List ℕ) (l w from r : ℕ) : Type 0 where
  pub above : from ≤ r
  pub most : r ≤ l
  pub run : r < l → run_at b l w r ≡ true
  pub least : (g : ℕ) → from ≤ g → run_at b l w g ≡ true → r ≤ g

-- the highest first block of a run from `low` up to `below`, or `below`
pub record Highest (b : List ℕ) (l w low below r : ℕ) : Type 0 where
  pub run : r < below → (low ≤ r) × (run_at b l w r ≡ true)
  pub most : r ≤ below
  pub greatest : (g : ℕ) → low ≤ g → g < below → run_at b l w g ≡ true → (r < below) × (g ≤ r)

-- no run begins from `below` up to `from`
pub record Clear (b : List ℕ) (l w below from : ℕ) : Type 0 where
  pub apart : (g : ℕ) → run_at b l w g ≡ true → (g < below) ⊎ (from ≤ g)
