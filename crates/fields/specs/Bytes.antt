-- Parts of a list of bytes: what every layout of document 01 is read from and written to.
use Rattle.std.specs.Prelude.{ℕ, ◌+◌, Bool, true, false, ◌&&◌, List, [], ◌∷◌, ◌++◌, length, take, drop, eqb}

-- the w bytes of s from `at` on
unfoldable pub part : List ℕ → ℕ → ℕ → List ℕ
part s at w = take w (drop at s)

-- s with the bytes b in the place of as many from `at` on
unfoldable pub splice : List ℕ → ℕ → List ℕ → List ℕ
splice s at b = take at s ++ (b ++ drop (at + length b) s)

-- whether two lists are the same
unfoldable pub same : List ℕ → List ℕ → Bool
same [] [] = true
same [] (y ∷ b) = false
same (x ∷ a) [] = false
same (x ∷ a) (y ∷ b) = eqb x y && same a b

-- several lists, one after the other
unfoldable pub join : List (List ℕ) → List ℕ
join [] = []
join (a ∷ l) = a ++ join l
