-- A map list as it is written: the volume sequence number (2 bytes, at 2 or 36) is 1 and every byte not named is 0 (document 01, "The disc
-- and its addresses").
use Rattle.std.specs.Prelude.{ℕ, ◌<◌, ◌^◌, ◌≡◌, Bool, true, List, ◌∷◌, ◌++◌, length, get_or, replicate}
use Rattle.fields.specs.Number.{digits, quads}
use Rattle.fields.specs.Regid.{regid}
use Rattle.maps.specs.declared.Kind.{Kind}
use Rattle.maps.specs.declared.Kind.TheVariants.{WriteOnce, Rewritable}
use Rattle.maps.specs.declared.Volume.{Volume}
use Rattle.maps.specs.Kinds.{virtual_name, sparable_name, tables_in_range, used}

-- a type 1 map of a partition
unfoldable pub type_one_map : ℕ → List ℕ
type_one_map p = 1 ∷ 6 ∷ (digits 2 1 ++ digits 2 p)

-- a type 2 map up to its partition number, and what stands from byte 40
unfoldable pub type_two_map : List ℕ → ℕ → List ℕ → List ℕ
type_two_map name p rest = 2 ∷ 64 ∷ 0 ∷ 0 ∷ (regid name ++ (digits 2 1 ++ (digits 2 p ++ rest)))

-- the list of each kind, from the kind and the four places of table sectors
unfoldable pub maps_of : Kind → List ℕ → List ℕ
maps_of (WriteOnce p) t = type_one_map p ++ type_two_map virtual_name p (replicate 24 0)
maps_of (Rewritable p n size) t = type_two_map sparable_name p (digits 2 32 ++ (n ∷ 0 ∷ (digits 4 size ++ quads (used n t))))

-- whether a volume to be written is one of the two kinds
unfoldable pub kind_in_range : Kind → Bool
kind_in_range (WriteOnce p) = true
kind_in_range (Rewritable p n size) = tables_in_range n size

-- the four places of table sectors, with 0 in those that a kind does not use
unfoldable pub places_of : Kind → List ℕ → List ℕ
places_of (WriteOnce p) t = replicate 4 0
places_of (Rewritable p n size) t = used n t

-- the ranges of a kind's numbers: of 2 bytes, 1 byte and 4 bytes
abbrev pub NumbersIn : Kind → Type 0
NumbersIn (WriteOnce p) = p < 65536
NumbersIn (Rewritable p n size) = (p < 65536) × (n < 256) × (size < 2 ^ 32)

-- the ranges of a volume's numbers, as its fields' types give them: four table sectors of 4 bytes each
pub record Ranged (v : Volume) : Type 0 where
  pub numbers : NumbersIn v.kind
  pub places : length v.tables ≡ 4
  pub sectors : (i : ℕ) → get_or v.tables i 0 < 2 ^ 32
