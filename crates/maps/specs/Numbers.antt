-- A volume as numbers (document 01, "The disc and its addresses"): kind (0 write-once, 1 rewritable), partition number, number of tables, bytes
-- of each, and four table sectors.
use Rattle.std.specs.Prelude.{ℕ, List, [], ◌∷◌, ◌++◌, get_or}
use Rattle.maps.specs.declared.Kind.{Kind}
use Rattle.maps.specs.declared.Kind.TheVariants.{WriteOnce, Rewritable}
use Rattle.maps.specs.declared.Volume.{Volume}

-- the first four of a list of numbers, 0 where there is none
abbrev pub four_of : List ℕ → List ℕ
four_of t = get_or t 0 0 ∷ get_or t 1 0 ∷ get_or t 2 0 ∷ get_or t 3 0 ∷ []

-- the numbers of a kind, 0 where it has none
abbrev pub kind_numbers : Kind → List ℕ
kind_numbers (WriteOnce p) = 0 ∷ p ∷ 0 ∷ 0 ∷ []
kind_numbers (Rewritable p n size) = 1 ∷ p ∷ n ∷ size ∷ []

-- the eight numbers of a volume
abbrev pub volume_numbers : Volume → List ℕ
volume_numbers v = kind_numbers v.kind ++ four_of v.tables
