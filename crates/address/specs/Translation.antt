-- The translation of addresses (document 01, "The disc and its addresses"; 004, section 3). Each translation has
-- its refusals as one list of tests, in the checking order of 01, "Why a call is turned down", and then its value.
use Rattle.std.specs.Prelude.{ℕ, ◌+◌, not, List, [], ◌∷◌, ◌++◌, length, get_or, eqb, ltb, leb, Result}
use Rattle.refusal.specs.declared.Refusal.TheVariants.{SpanOutside, NumberOutside, UnusedEntry}
use Rattle.refusal.specs.Verdict.{Verdict, answered}
use Rattle.refusal.specs.Tests.{Test, test, first}
use Rattle.address.specs.declared.VirtualAddress.{VirtualAddress}
use Rattle.address.specs.declared.LogicalAddress.{LogicalAddress}
use Rattle.address.specs.declared.PhysicalAddress.{PhysicalAddress}
use Rattle.address.specs.declared.MediaBlockAddress.{MediaBlockAddress}
use Rattle.address.specs.declared.Span.{Span}
use Rattle.refusal.specs.declared.Refusal.{Refusal}

-- the entry of a virtual address that is unused (01, "The VAT and its ICB")
unfoldable pub none : ℕ
none = 0xffffffff

-- the most sectors that a disc has (01, "The disc and its addresses")
abbrev pub most_sectors : ℕ
most_sectors = 1048576

-- line 2, as far as it can be tested with no disc lent: what every disc breaks (01, "Why a call is turned down")
abbrev pub span_tests : Span → List Test
span_tests s =
    test (not (eqb s.length 0)) SpanOutside ∷
    test (leb (s.start + s.length) most_sectors) SpanOutside ∷
    []

-- line 13: an entry is used (01, "Why a call is turned down")
abbrev pub used_tests : ℕ → List Test
used_tests x = test (not (eqb x none)) UnusedEntry ∷ []

-- line 12 for v, and line 13: there is such an entry among the first n, and it is used (01, "Why a call is turned down")
abbrev pub entry_tests : ℕ → List ℕ → VirtualAddress → List Test
entry_tests n entries v = test (ltb v.0 n) NumberOutside ∷ used_tests (get_or entries v.0 0)

-- line 12 for b: the partition has such a block (01, "Why a call is turned down")
abbrev pub block_tests : Span → LogicalAddress → List Test
block_tests s b = test (ltb b.0 s.length) NumberOutside ∷ []

-- the logical address that the VAT gives for a virtual one (01, "The disc and its addresses": place in the VAT)
abbrev pub entry_of : List ℕ → VirtualAddress → LogicalAddress
entry_of entries v = record { 0 = get_or entries v.0 0 }

-- logical b is physical S + b (01, "The disc and its addresses")
abbrev pub sector_of : ℕ → LogicalAddress → PhysicalAddress
sector_of s b = record { 0 = s + b.0 }

-- the sector i above a sector (01, "Calls and their sector writes": "upward"; "The sparing table": "mapped + (b modulo 32)")
abbrev pub up_from : PhysicalAddress → ℕ → PhysicalAddress
up_from p i = record { 0 = p.0 + i }

-- the numbers of the two, as disc and marks are asked by number
abbrev pub sector_at : ℕ → ℕ → ℕ
sector_at s b = (sector_of s (record { 0 = b })).0

-- the sector at which a virtual block is
abbrev pub entry_sector_at : ℕ → List ℕ → ℕ → ℕ
entry_sector_at s entries v = (sector_of s (entry_of entries (record { 0 = v }))).0

-- the sector i above one
abbrev pub above_at : ℕ → ℕ → ℕ
above_at p i = (up_from (record { 0 = p }) i).0

-- what an entry of a VAT names (01, "The VAT and its ICB": "0xffffffff means none (an entry then is unused)")
unfoldable pub entry_names : ℕ → Result LogicalAddress Refusal
entry_names x = answered (first (used_tests x)) (record { 0 = x })

-- why a virtual address is turned down (01, "Why a call is turned down")
abbrev pub logical_verdict : List ℕ → VirtualAddress → Verdict
logical_verdict entries v = first (entry_tests (length entries) entries v)

-- a virtual address, by the entries of a VAT (01, "The disc and its addresses")
unfoldable pub logical_of : List ℕ → VirtualAddress → Result LogicalAddress Refusal
logical_of entries v = answered (logical_verdict entries v) (entry_of entries v)

-- why a logical address is turned down (01, "Why a call is turned down")
abbrev pub physical_verdict : Span → LogicalAddress → Verdict
physical_verdict s b = first (span_tests s ++ block_tests s b)

-- a logical address, on the disc (01, "The disc and its addresses")
unfoldable pub physical_of : Span → LogicalAddress → Result PhysicalAddress Refusal
physical_of s b = answered (physical_verdict s b) (sector_of s.start b)

-- a media block address, on the disc: lent bytes are mapped by no device (01, "The disc and its addresses")
abbrev pub physical_of_media : MediaBlockAddress → PhysicalAddress
physical_of_media m = record { 0 = m.0 }

-- a mapped start, on the disc: it is physical as it stands in the sparing table (01, "The sparing table")
abbrev pub physical_of_mapped : ℕ → PhysicalAddress
physical_of_mapped m = record { 0 = m }

-- why a virtual address is turned down on the way to the disc (01, "Why a call is turned down")
abbrev pub virtual_verdict : Span → List ℕ → VirtualAddress → Verdict
virtual_verdict s entries v = first (span_tests s ++ entry_tests (length entries) entries v ++ block_tests s (entry_of entries v))

-- a virtual address, on the disc: by the VAT, then by the partition (01, "The disc and its addresses")
unfoldable pub physical_of_virtual : Span → List ℕ → VirtualAddress → Result PhysicalAddress Refusal
physical_of_virtual s entries v =
    answered (virtual_verdict s entries v) (sector_of s.start (entry_of entries v))
