-- What the scans of a bitmap find.
use Rattle.std.specs.Prelude.{ℕ, ◌+◌, ◌-◌, ◌*◌, ◌/◌, ◌%◌, ◌^◌, ◌≤◌, ◌<◌, ◌≡◌, ◌⊎◌, List, length}
use Rattle.bitmap.specs.Bits.{bit_at}

-- x has a one where the block is in this state, for the n blocks from the first of byte q on
pub record Shows (b : List ℕ) (state q n x : ℕ) : Type 0 where
  pub size : (n ≡ 8) ⊎ (n ≡ 64)
  pub whole : 32 + q ≤ length b → n ≡ 64
  pub small : x < 2 ^ n
  pub one : (j : ℕ) → j < n → x / 2 ^ j % 2 ≡ 1 → bit_at b (8 * q + j) ≡ state
  pub zero : (j : ℕ) → j < n → x / 2 ^ j % 2 ≡ 0 → bit_at b (8 * q + j) ≡ state → ⊥

-- from byte q up to byte r no block is in this state, and where that is more than nothing, r is not past the block `to`
pub record Skipped (b : List ℕ) (state q to r : ℕ) : Type 0 where
  pub above : q ≤ r
  pub most : 8 * r ≤ 8 * q + to
  pub other : (i : ℕ) → 8 * q ≤ i → i < 8 * r → bit_at b i ≡ state → ⊥

-- a window from byte r on holds block `last`, whatever its size
pub record Back (len last r : ℕ) : Type 0 where
  pub inside : 24 + r < len
  pub least : 8 * r ≤ last
  pub few : len < 32 → last < 8 * r + 8
  pub many : 32 ≤ len → (32 + r ≤ len) × (last < 8 * r + 64)

-- the first block of a span in this state, or the span's end
pub record FirstOf (b : List ℕ) (state from to r : ℕ) : Type 0 where
  pub above : from ≤ r
  pub below : r ≤ to
  pub other : (s : ℕ) → from ≤ s → s < r → bit_at b s ≡ state → ⊥
  pub here : r < to → bit_at b r ≡ state

-- the end of the last block of a span in this state, or the span's start
pub record LastOf (b : List ℕ) (state from to r : ℕ) : Type 0 where
  pub above : from ≤ r
  pub below : r ≤ to
  pub other : (s : ℕ) → r ≤ s → s < to → bit_at b s ≡ state → ⊥
  pub here : from < r → bit_at b (r - 1) ≡ state
