-- Fullness in per mille, and slip 4 as one statement.
use Rattle.std.specs.Prelude.{ℕ, ◌+◌, ◌-◌, ◌*◌, ◌/◌, ◌%◌, ◌≤◌, ◌<◌, cond, ◌≡◌, ltb}

-- what a division by l with the quotient q and the remainder r gives "to the nearest whole number, an exact half going to the even one"
-- (02, slip 4)
unfoldable pub nearest : ℕ → ℕ → ℕ → ℕ
nearest q r l = cond (ltb (2 * r) l) q (cond (ltb l (2 * r)) (q + 1) (q + q % 2))

-- "1,000 times NWA / L to the nearest whole number" (02, slip 4)
unfoldable pub per_mille : ℕ → ℕ → ℕ
per_mille n l = nearest (1000 * n / l) (1000 * n % l) l

-- ---- the same with no case distinction

-- how far two numbers are apart
abbrev pub apart : ℕ → ℕ → ℕ
apart a b = (a - b) + (b - a)

-- f is the whole number nearest to a / l, the even one where two are: twice the distance, taken l times, is at most l, and where it is l,
-- f is even
pub record Nearest (a l f : ℕ) : Type 0 where
  pub near : 2 * apart a (l * f) ≤ l
  pub even : 2 * apart a (l * f) ≡ l → f % 2 ≡ 0

-- slip 4
pub record PerMilleNearest : Type 0 where
  -- fullness is the number nearest to 1,000 n / l
  pub holds : (n l : ℕ) → 0 < l → Nearest (1000 * n) l (per_mille n l)
  -- and only one number is
  pub only : (n l f : ℕ) → 0 < l → Nearest (1000 * n) l f → f ≡ per_mille n l
  -- those of 02: 46.875, and the exact halves 12.5 and 37.5
  pub some : Nearest (1000 * 3) 64 47 × Nearest (1000 * 1) 80 12 × Nearest (1000 * 3) 80 38
  -- an unused partition has 0 and a full one 1,000, and no part of one has more
  pub unused : (l : ℕ) → 0 < l → per_mille 0 l ≡ 0
  pub full : (l : ℕ) → 0 < l → per_mille l l ≡ 1000
  pub most : (n l : ℕ) → 0 < l → n ≤ l → per_mille n l ≤ 1000
