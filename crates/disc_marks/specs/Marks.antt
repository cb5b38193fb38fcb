-- The highest of some marks (document 01, "Why a call is turned down": no mark exceeds 2, line 1; and all are 0 from NWA on, line 11).
use Rattle.std.specs.Prelude.{ℕ, max, List, [], ◌∷◌}

-- the highest of a list of marks, 0 of none ("The disc and its addresses": a mark byte a sector)
unfoldable pub highest_of : List ℕ → ℕ
highest_of [] = 0
highest_of (m ∷ l) = max m (highest_of l)
