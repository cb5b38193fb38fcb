-- A regid is a flags byte, 23 identifier bytes (zero-filled), 8 suffix bytes; flags must be 0, the suffix is ignored when read and
-- written as 0 (document 01, "The disc and its addresses").
use Rattle.std.specs.Prelude.{ℕ, Bool, List, ◌∷◌, ◌++◌, take, replicate}
use Rattle.fields.specs.Bytes.{part, same}

-- the 23 identifier bytes of a name
unfoldable pub identifier : List ℕ → List ℕ
identifier name = take 23 (name ++ replicate 23 0)

-- the 32 bytes of a regid as it is written
unfoldable pub regid : List ℕ → List ℕ
regid name = 0 ∷ (identifier name ++ replicate 8 0)

-- whether the regid of s at `at` has flags 0 and this name; its suffix is ignored
unfoldable pub has_regid : List ℕ → ℕ → List ℕ → Bool
has_regid s at name = same (part s at 24) (0 ∷ identifier name)
