-- What a rewritable volume lies in, and the entries of a table's sector, as they are handed on (document 01, "The disc and its addresses" and
-- "The sparing table").
use Rattle.std.specs.Prelude.{ℕ, ◌<◌, take, List, slice_index}
use Rattle.model.specs.Sparing.{Geometry, Entry}
use Rattle.sparing_copy.specs.declared.shapes.Layout.{Layout}
use Rattle.sparing_copy.specs.declared.shapes.Entries.{Entries}
use Rattle.sparing_copy.specs.Entries.{entries_in}

-- the geometry of a layout: the tables are the first `count` of the four places of its volume
abbrev pub geometry_in : Layout → Geometry
geometry_in x =
    record {
      start = x.volume.span.start;
      span = x.volume.span.length;
      sectors = x.sectors;
      tables = take x.count x.volume.tables;
      size = x.size;
    }

-- each table sector is on the disc
abbrev pub TablesOn : Layout → Type 0
TablesOn x = (i : ℕ) → i < x.count → slice_index x.volume.tables i < x.sectors

-- the entries of a sector
abbrev pub listed : Entries → List Entry
listed es = entries_in es.sector.now es.count
