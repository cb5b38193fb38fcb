-- A map list as a list of maps. "A map begins with a type byte and a length byte" (document 01, "The disc and its addresses"); line 4
-- turns down a list in which a map is cut short, or of length 0.
use Rattle.std.specs.Prelude.{ℕ, zero, suc, Bool, cond, ◌&&◌, List, [], ◌∷◌, length, get_or, take, drop, eqb, leb}

-- what a walk by length bytes finds: the maps, each as its bytes, or that one is cut short
pub data Walked : Type 0 where
  short : Walked
  maps : List (List ℕ) → Walked

-- a map before those that follow it
unfoldable pub before : List ℕ → Walked → Walked
before m short = short
before m (maps ms) = maps (m ∷ ms)

-- the length byte of the first map
unfoldable pub first_length : List ℕ → ℕ
first_length s = get_or s 1 0

-- whether the first map is whole: its two bytes are there, and as many as its length byte says, which is not 0
unfoldable pub first_whole : List ℕ → Bool
first_whole s = leb 2 (length s) && (leb 1 (first_length s) && leb (first_length s) (length s))

-- the walk over a list of at most n bytes
unfoldable pub walk_up_to : ℕ → List ℕ → Walked
walk_up_to zero s = maps []
walk_up_to (suc n) s =
    cond (eqb (length s) 0) (maps [])
    (cond (first_whole s) (before (take (first_length s) s) (walk_up_to n (drop (first_length s) s))) short)

-- the maps of a list. The laws `walk_none`, `walk-short` and `walk-next` of proofs/Laws.antt say it with no count: an empty list has no
-- map; where the first map is not whole the list is cut short; else that map comes first, and what is left is walked the same way
unfoldable pub walk : List ℕ → Walked
walk s = walk_up_to (length s) s
