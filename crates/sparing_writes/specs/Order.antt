-- The order in which a sparing writes the copies of its table (document 01, "Calls and their sector writes"): first those that were not
-- current, then the others, each in map order.
use Rattle.std.specs.Prelude.{ℕ, Bool, cond, not, ◌&&◌, List, [], ◌∷◌, ◌++◌, eqb}
use Rattle.address.specs.declared.PhysicalAddress.{PhysicalAddress}
use Rattle.model.specs.Disc.{Disc}
use Rattle.model.specs.Sparing.{Geometry, counts, counting_of, sequence_at, with_sequence}
use Rattle.model.specs.Rewrite.{stale}

-- the numbers of sectors
unfoldable pub numbers_of : List PhysicalAddress → List ℕ
numbers_of [] = []
numbers_of (p ∷ ps) = p.0 ∷ numbers_of ps

-- the copy at t counts and is of sequence n
unfoldable pub is_of : Disc → Geometry → ℕ → ℕ → Bool
is_of d g n t = counts d g t && eqb (sequence_at d t) n

-- it is such a copy, or it is none, as is wanted
unfoldable pub as_wanted : Disc → Geometry → ℕ → Bool → ℕ → Bool
as_wanted d g n wanted t = cond wanted (is_of d g n t) (not (is_of d g n t))

-- those of ts that are such copies, or those that are none, as is wanted, in their order
unfoldable pub chosen : Disc → Geometry → ℕ → Bool → List ℕ → List ℕ
chosen d g n wanted [] = []
chosen d g n wanted (t ∷ ts) = cond (as_wanted d g n wanted t) (t ∷ chosen d g n wanted ts) (chosen d g n wanted ts)

-- the copies that count and are of sequence n: with the highest sequence among those that count, the current ones
abbrev pub copies_of : Disc → Geometry → ℕ → List ℕ
copies_of d g n = with_sequence d n (counting_of d g g.tables)

-- the other tables, and then these
abbrev pub order_of : Disc → Geometry → ℕ → List ℕ
order_of d g n = stale (copies_of d g n) g.tables ++ copies_of d g n
