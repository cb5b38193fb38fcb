-- The highest digits of a word: the blocks that end at a block, and their rows of ones.
use Rattle.std.specs.Prelude.{ℕ, ◌+◌, ◌-◌, ◌/◌, ◌%◌, ◌^◌, ◌≤◌, ◌<◌, ◌≡◌, List}
use Rattle.bitmap.specs.Bits.{bit_at}
use Rattle.bitmap_find.specs.Runs.{Ones}

-- the highest n digits of x are the n blocks that end at block e, a one where free, and the others are 0
pub record FreeTo (b : List ℕ) (e n x : ℕ) : Type 0 where
  pub some : 1 ≤ n
  pub few : n ≤ 64
  pub fits : n ≤ e
  pub small : x < 2 ^ 64
  pub digit : (i : ℕ) → e ≤ i + n → i < e → x / 2 ^ (64 + i - e) % 2 ≡ bit_at b i
  pub others : (j : ℕ) → j + n < 64 → x / 2 ^ j % 2 ≡ 0

-- the highest r of 64 digits are ones, and no more of them
pub record TopOnes (x r : ℕ) : Type 0 where
  pub most : r ≤ 64
  pub ones : (i : ℕ) → 64 ≤ i + r → i < 64 → x / 2 ^ i % 2 ≡ 1
  pub end : r < 64 → x / 2 ^ (63 - r) % 2 ≡ 0

-- w ones in a row begin at digit r and at none above it; at none at all, where r is 64
pub record TopRow (x w r : ℕ) : Type 0 where
  pub most : r ≤ 64
  pub row : r < 64 → Ones x r w
  pub highest : (j : ℕ) → Ones x j w → (r < 64) × (j ≤ r)

-- the r digits from `low` on are ones, and no more of them
pub record OnesFrom (x low r : ℕ) : Type 0 where
  pub most : low + r ≤ 64
  pub ones : (i : ℕ) → low ≤ i → i < low + r → x / 2 ^ i % 2 ≡ 1
  pub end : low + r < 64 → x / 2 ^ (low + r) % 2 ≡ 0
