-- The laws of written map lists for the layers above: the round trip, and that what was read may be written. Assumes nothing.
use Prim.Native.Nat.{ℕ}
use mathlib.Core.Path.{◌≡◌, refl}
use mathlib.Core.List.{List}
use native.Mathlib.Omega.{arith}
use borrow.Author.Tests.{eq-eqb}
use lib.ListN.{length}
use Rattle.refusal.specs.declared.Refusal.TheVariants.{LentLength, NeitherKind, Misaligned}
use Rattle.std.specs.Prelude.{Ok}
use Rattle.refusal.specs.Tests.{first}
use Rattle.refusal.proofs.Laws.{passed, goes}
use Rattle.fields.specs.Number.{digits}
use Rattle.fields.specs.Regid.{identifier, regid}
use Rattle.fields.proofs.Words.{length-quads}
use Rattle.maps.specs.declared.Kind.{Kind}
use Rattle.maps.specs.declared.Kind.TheVariants.{WriteOnce, Rewritable}
use Rattle.maps.specs.declared.Volume.{Volume}
use Rattle.maps.specs.Kinds.{virtual_name, sparable_name, used, read_maps}
use Rattle.maps.specs.Written.{type_one_map, type_two_map, maps_of, Ranged}
use Rattle.maps.proofs.Tables.{length-used}
use Rattle.maps.proofs.Written.{list-reads-back}
use Rattle.maps.proofs.Laws.{Fine}
use Rattle.maps_written.specs.Writing.{written_maps, map_bytes, write_tests, told_of}

-- ---- what is written reads back

-- the bytes of each kind
length-maps : (k : Kind) (t : List ℕ) → length (maps_of k t) ≡ map_bytes k
unfolding maps_of map_bytes type_one_map type_two_map regid identifier virtual_name sparable_name digits
length-maps (WriteOnce p) t = refl
length-maps (Rewritable p n size) t = omega (arith, length-quads (used n t), length-used n t)

-- a list as it is written has the bytes of its kind
pub length-written : (v : Volume) → length (written_maps v) ≡ map_bytes v.kind
unfolding written_maps
length-written v = length-maps v.kind v.tables

-- what is written reads back: every list that may be written is read as its volume
pub written-reads-back : (v : Volume) → Ranged v → first (write_tests v (map_bytes v.kind)) ≡ Ok tt → read_maps (written_maps v) ≡ Ok (told_of v)
unfolding written_maps write_tests told_of
written-reads-back v r q =
    let z = passed (write_tests v (map_bytes v.kind)) q in
    list-reads-back v r z.1.0 z.1.1.0

-- ---- what is read may be written

-- a volume that is fine, as every one that was read is (`read-fine` of maps), has a list that may be written
pub fine-goes : (v : Volume) → Fine v → (Ok tt) ≡ first (write_tests v (map_bytes v.kind))
unfolding write_tests
fine-goes v f =
    goes LentLength (eq-eqb (map_bytes v.kind) (map_bytes v.kind) refl) (goes NeitherKind f.kinds (goes Misaligned f.apart refl))
