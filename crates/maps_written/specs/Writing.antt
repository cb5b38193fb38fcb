-- Writing a volume's map list: why it is turned down, the lent bytes after it, and what the list tells of the volume (document 01, "The
-- disc and its addresses"; "Why a call is turned down", lines 3, 5 and 6).
use Rattle.std.specs.Prelude.{ℕ, List, [], ◌∷◌, length, eqb, Ok, Err}
use Rattle.refusal.specs.declared.Refusal.TheVariants.{LentLength, NeitherKind, Misaligned}
use Rattle.refusal.specs.Verdict.{Verdict}
use Rattle.refusal.specs.Tests.{Test, test, first}
use Rattle.maps.specs.declared.Kind.{Kind}
use Rattle.maps.specs.declared.Kind.TheVariants.{WriteOnce, Rewritable}
use Rattle.maps.specs.declared.Volume.{Volume}
use Rattle.maps.specs.Kinds.{volume_with, tables_apart, tables_of}
use Rattle.maps.specs.Written.{maps_of, kind_in_range, places_of}

-- the map list of a volume
unfoldable pub written_maps : Volume → List ℕ
written_maps v = maps_of v.kind v.tables

-- the bytes of a list of each kind: 6 and 64, or 64
unfoldable pub map_bytes : Kind → ℕ
map_bytes (WriteOnce p) = 70
map_bytes (Rewritable p n size) = 64

-- why a list to be written is turned down: lines 3 and 5 and, of 6, what the volume shows
unfoldable pub write_tests : Volume → ℕ → List Test
write_tests v bytes =
    test (eqb bytes (map_bytes v.kind)) LentLength ∷
    test (kind_in_range v.kind) NeitherKind ∷
    test (tables_apart (tables_of v)) Misaligned ∷
    []

-- the verdict of writing a volume's list into lent bytes
unfoldable pub write_verdict : Volume → List ℕ → Verdict
write_verdict v out = first (write_tests v (length out))

-- the lent bytes after it: the list, or as they came
unfoldable pub written_or : Verdict → Volume → List ℕ → List ℕ
written_or (Ok _) v out = written_maps v
written_or (Err why) v out = out

-- what the list of a volume tells of it: all but its span, and 0 in the places that are not used
unfoldable pub told_of : Volume → Volume
told_of v = volume_with v.kind (places_of v.kind v.tables)
