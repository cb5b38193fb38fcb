-- What every call on a disc examines first: lines 1 to 6 of document 01, "Why a call is turned down".
use Rattle.std.specs.Prelude.{ℕ, ◌%◌, Bool, true, false, cond, ◌&&◌, List, [], ◌∷◌, length, eqb, leb}
use Rattle.refusal.specs.declared.Refusal.TheVariants.{DiscShape, SpanOutside, LentLength, Misaligned}
use Rattle.refusal.specs.Verdict.{Verdict, verdict_of}
use Rattle.refusal.specs.Tests.{Test, test, first, and_then}
use Rattle.maps.specs.declared.Kind.{Kind}
use Rattle.maps.specs.declared.Kind.TheVariants.{WriteOnce, Rewritable}
use Rattle.maps.specs.declared.Volume.{Volume}
use Rattle.maps.specs.Kinds.{read_maps, tables_of, volume_read}
use Rattle.model.specs.Disc.{Disc, shapely, inside}
use Rattle.model.specs.Sparing.{Geometry, outside}

-- what each call on a disc is lent and given besides: the map list, S and L
pub record Setting : Type 0 where
  pub maps : List ℕ
  pub start : ℕ
  pub span : ℕ

-- the setting of lent maps
abbrev pub setting : List ℕ → ℕ → ℕ → Setting
setting m s l = record { maps = m; start = s; span = l }

-- the volume that the map list gives
unfoldable pub volume : Setting → Volume
volume e = (volume_read (read_maps e.maps))

-- whether a kind is write-once
unfoldable pub is_once : Kind → Bool
is_once (WriteOnce p) = true
is_once (Rewritable p n size) = false

-- the bytes of each sparing table
unfoldable pub size_in : Kind → ℕ
size_in (WriteOnce p) = 0
size_in (Rewritable p n size) = size

-- whether the volume is write-once
unfoldable pub write_once : Setting → Bool
write_once e = is_once (volume e).kind

-- what a rewritable volume lies in
unfoldable pub geometry : Setting → Disc → Geometry
geometry e d =
    record {
      start = e.start;
      span = e.span;
      sectors = length d.marks;
      tables = tables_of (volume e);
      size = size_in (volume e).kind;
    }

-- each table's packet is on the disc and outside the partition
unfoldable pub all_outside : Geometry → List ℕ → Bool
all_outside g [] = true
all_outside g (t ∷ ts) = outside g t && all_outside g ts

-- line 6 on a rewritable disc: S and L are multiples of 32, and so is each table sector, whose packet is on the disc and outside the
-- partition; that none is named twice the map list shows
unfoldable pub aligned : Geometry → Bool
aligned g = eqb (g.start % 32) 0 && (eqb (g.span % 32) 0 && all_outside g g.tables)

-- lines 1 to 3; `lent` says whether the other lent slices have their lengths
unfoldable pub shape_tests : Setting → Disc → Bool → List Test
shape_tests e d lent =
    test (shapely d) DiscShape
    ∷ test (inside d e.start e.span) SpanOutside
    ∷ test lent LentLength
    ∷ []

-- line 6
unfoldable pub place_tests : Setting → Disc → List Test
place_tests e d = test (cond (write_once e) true (aligned (geometry e d))) Misaligned ∷ []

-- lines 1 to 6: lines 4 and 5, and of 6 what the map list shows, are the verdict of reading it
unfoldable pub examined : Setting → Disc → Bool → Verdict
examined e d lent =
    and_then (first (shape_tests e d lent)) (and_then (verdict_of (read_maps e.maps)) (first (place_tests e d)))

-- the lent table has at least 4,096 entries
unfoldable pub lent_table : List ℕ → Bool
lent_table t = leb 4096 (length t)
