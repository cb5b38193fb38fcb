-- A table as it is written, in the steps in which it is (document 01, "The sparing table" and "Calls and their sector writes"; 02, slip 1).
use Rattle.std.specs.Prelude.{ℕ, ◌+◌, ◌-◌, ◌*◌, ◌≡◌, true, false, List, [], ◌∷◌, ◌++◌, get_or, take, replicate}
use Rattle.fields.specs.Bytes.{part, join}
use Rattle.fields.specs.Number.{digits}
use Rattle.fields.specs.Regid.{regid}
use Rattle.model.specs.VatWritten.{filled}
use Rattle.model.specs.Rewrite.{no_entry}
use Rattle.model.specs.Sparing.{sparing_name, Entry, used_of, defective_of, free_of, ascending, defective}

-- the sector of a table up to its entries, of which there are n, and 0 after that
unfoldable pub begun : ℕ → ℕ → List ℕ
begun sequence n =
    filled 2048
    (join (replicate 16 0 ∷ regid sparing_name ∷ digits 2 n ∷ replicate 2 0 ∷ digits 4 sequence ∷ []))

-- the first n entries of the lent table t once packet p took the free one at place u and stands at place k: those before k, its own, those
-- from k to u, and those behind u
unfoldable pub spared_numbers : List ℕ → ℕ → ℕ → ℕ → ℕ → List ℕ
spared_numbers t n p k u =
    take (2 * k) t
    ++ (p ∷ get_or t (2 * u + 1) 0 ∷ (part t (2 * k) (2 * (u - k)) ++ part t (2 * u + 2) (2 * (n - u - 1))))

-- the first n entries of the lent table t once packet p, whose entry is at place k, took the free one at place u: those before k, its own, those
-- from there to u, in the place of the free one its old spare, defective, and those behind u
unfoldable pub respared_numbers : List ℕ → ℕ → ℕ → ℕ → ℕ → List ℕ
respared_numbers t n p k u =
    take (2 * k) t
    ++ (p ∷ get_or t (2 * u + 1) 0
    ∷ (part t (2 * k + 2) (2 * (u - k - 1))
    ++ (defective ∷ get_or t (2 * k + 1) 0 ∷ part t (2 * u + 2) (2 * (n - u - 1)))))

-- a table before a sparing: it fits, so that its used entries ascend and then come the defective and the free ones; and line 19 has passed, so
-- that one is free
pub record Ordered (es : List Entry) : Type 0 where
  pub whole : es ≡ used_of es ++ (defective_of es ++ free_of es)
  pub rises : ascending es ≡ true
  pub some : no_entry (free_of es) ≡ false
