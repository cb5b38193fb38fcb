-- The entries of a sparing table by their number (document 01, "The sparing table").
use Rattle.std.specs.Prelude.{ℕ, ◌+◌, ◌*◌, Bool, ◌&&◌, List}
use Rattle.fields.specs.Number.{field, words}
use Rattle.model.specs.Sparing.{Geometry, Entry, entries, apart_from, whole_packet, mapped_of, mapped_fit, originals_clear}

-- the first n entries of a table's sector: from 56, original and mapped, 4 bytes each
unfoldable pub entries_in : List ℕ → ℕ → List Entry
entries_in b n = entries (words b 56 (2 * n))

-- entry number i of them
abbrev pub entry_in : List ℕ → ℕ → Entry
entry_in b i = record { original = field b (56 + 8 * i) 4; mapped = field b (56 + 8 * i + 4) 4 }

-- a mapped start is a whole packet on the disc, outside every table's packet
unfoldable pub placed : Geometry → ℕ → Bool
placed g m = whole_packet g m && apart_from m g.tables

-- the last two parts of the copy rule: mapped starts fit, and no packet of a used entry is one of them
unfoldable pub packets_fit : Geometry → List Entry → Bool
packets_fit g es = mapped_fit g es && originals_clear g.start (mapped_of es) es
