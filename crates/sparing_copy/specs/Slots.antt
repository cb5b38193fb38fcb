-- The slots that tell the packets of a table apart, and whether one is in the partition (document 01, "The sparing table"; 02, slip 8). The packet that
-- begins at m has slot m / 32 modulo 256. A slot that was given no packet holds 0, one that was given one its tag, and one that was given several 1.
use Rattle.std.specs.Prelude.{◌≡◌, ℕ, ◌+◌, ◌-◌, ◌/◌, ◌%◌, Bool, true, false, cond, not, ◌&&◌, ◌||◌, List, [], ◌∷◌, ◌==◌, nat_lt, slice_index}
use Rattle.maps.specs.Kinds.{absent}
use Rattle.model.specs.Sparing.{Entry, mapped_of}

-- the tag of the packet that begins at m
abbrev pub tag_of : ℕ → ℕ
tag_of m = m / 8192 % 128 + 128

-- a slot that holds this may have been given it
unfoldable pub may_hold : ℕ → ℕ → Bool
may_hold held m = held == 1 || held == tag_of m

-- what a slot that holds this holds once it is given it
unfoldable pub held_with : ℕ → ℕ → ℕ
held_with held m = cond (held == 0) (tag_of m) 1

-- the slots tell of entries: a packet that its slot cannot have been given is none of their mapped starts
abbrev pub Told : List ℕ → List Entry → Type 0
Told seen es = (m : ℕ) → may_hold (slice_index seen (m / 32 % 256)) m ≡ false → absent m (mapped_of es) ≡ true

-- m is one of the l sectors from s on, where 0 comes after the highest number of 32 bits
unfoldable pub inside : ℕ → ℕ → ℕ → Bool
inside s l m = nat_lt ((m + 4294967296 - s) % 4294967296) l

-- no entry maps one of them
unfoldable pub none_inside : ℕ → ℕ → List Entry → Bool
none_inside s l [] = true
none_inside s l (e ∷ es) = not (inside s l e.mapped) && none_inside s l es
