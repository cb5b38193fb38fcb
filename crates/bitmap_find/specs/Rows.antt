-- What the scan for a run sees in a word: the states of some blocks, and rows of ones in it.
use Rattle.std.specs.Prelude.{ℕ, ◌+◌, ◌/◌, ◌%◌, ◌^◌, ◌≤◌, ◌<◌, ◌≡◌, List}
use Rattle.bitmap.specs.Bits.{bit_at}
use Rattle.bitmap_find.specs.Runs.{Ones}

-- x holds the states of the n blocks from s on, a one where free
pub record FreeFrom (b : List ℕ) (s n x : ℕ) : Type 0 where
  pub some : 1 ≤ n
  pub few : n ≤ 64
  pub small : x < 2 ^ n
  pub digit : (j : ℕ) → j < n → x / 2 ^ j % 2 ≡ bit_at b (s + j)

-- x begins with r ones
pub record FirstOnes (x r : ℕ) : Type 0 where
  pub most : r ≤ 64
  pub ones : (j : ℕ) → j < r → x / 2 ^ j % 2 ≡ 1
  pub end : r < 64 → x / 2 ^ r % 2 ≡ 0

-- the lowest digit of x at which w ones in a row begin, or 64
pub record RowIn (x w r : ℕ) : Type 0 where
  pub most : r ≤ 64
  pub row : r < 64 → Ones x r w
  pub least : (j : ℕ) → Ones x j w → r ≤ j

-- the first n digits of x end with r ones
pub record LastOnes (x n r : ℕ) : Type 0 where
  pub ones : (j : ℕ) → j < n → n ≤ j + r → x / 2 ^ j % 2 ≡ 1
  pub end : (j : ℕ) → j + 1 + r ≡ n → x / 2 ^ j % 2 ≡ 0
