-- There are discs of which the claims on rewritable discs speak: on each of 160 sectors or more, this volume of two tables is made with a spare
-- outside the partition, with one inside it, and with both. Assumes nothing.
use Prim.Native.Nat.{ℕ, ◌+◌, ◌*◌, ◌≤◌, ◌<◌}
use mathlib.Core.Bool.{true, false}
use mathlib.Core.Path.{◌≡◌, refl, ap, ◌∙◌}
use mathlib.Core.List.{[], ◌∷◌}
use native.Mathlib.Omega.{arith}
use lib.ListN.{length}
use borrow.Author.Tests.{le-leb}
use Rattle.std.specs.Prelude.{Ok}
use Rattle.refusal.specs.Tests.{need}
use Rattle.fields.specs.Bytes.{part, same}
use Rattle.fields.specs.Number.{value, field, words, digits, quads}
use Rattle.fields.specs.Regid.{has_regid, identifier, regid}
use Rattle.maps.specs.declared.Volume.{Volume}
use Rattle.maps.specs.declared.Kind.TheVariants.{Rewritable}
use Rattle.maps.specs.Walk.{before, first_length, first_whole, walk_up_to, walk}
use Rattle.maps.specs.Kinds.{sparable_name, type_two, tables_in_range, is_write_once, is_rewritable, used, volume_with, volume_of, absent, tables_apart, tables_in, tables_of, kind_tests, judged, volume_in, read_maps, volume_read}
use Rattle.refusal.specs.Verdict.{verdict_of}
use Rattle.maps.specs.Written.{type_two_map, maps_of}
use Rattle.model.specs.Disc.{Disc, inside}
use Rattle.model.specs.Vat.{none}
use Rattle.model.specs.Sparing.{Geometry, is_free, is_used, original_fits, originals_fit, may_follow, ascending, apart, apart_from, whole_packet, outside, mapped_of, mapped_fit, original_clear, originals_clear, entries_fit, packet_of, of_spare}
use Rattle.model.specs.Examine.{volume, is_once, size_in, write_once, geometry, all_outside, aligned}
use Rattle.model.specs.Both.{spare_entries, make_tests, make_verdict}
use Rattle.model.specs.LivesAgain.{in_spare, small_volume, small_spares, RewritableMakes}
use Rattle.model.proofs.Verdicts.{examined-go, go-then}

-- what its map list is read as
abbrev given : Volume
given = volume_with (Rewritable 0 2 72) (0 ∷ 32 ∷ 0 ∷ 0 ∷ [])

read_as : read_maps small_volume.maps ≡ Ok given
unfolding small_volume maps_of type_two_map regid identifier sparable_name digits quads used read_maps judged walk walk_up_to first_whole first_length before kind_tests need is_write_once is_rewritable type_two has_regid part same field value tables_in_range volume_of volume_with tables_of tables_in tables_apart absent words volume_in
read_as = refl

maps-read : verdict_of (read_maps small_volume.maps) ≡ Ok tt
maps-read = ap verdict_of read_as

volume-read : volume small_volume ≡ given
unfolding volume volume_read
volume-read = ap volume_read read_as

not-once : write_once small_volume ≡ false
unfolding write_once is_once volume_with
not-once = rw volume-read

two-tables : tables_of (volume small_volume) ≡ 0 ∷ 32 ∷ []
unfolding tables_of tables_in volume_with
two-tables = rw volume-read

size-read : size_in (volume small_volume).kind ≡ 72
unfolding size_in volume_with
size-read = rw volume-read

-- where it lies on a disc of n sectors
abbrev lies : ℕ → Geometry
lies n = record { start = 96; span = 64; sectors = n; tables = 0 ∷ 32 ∷ []; size = 72 }

geometry-is : (d : Disc) → geometry small_volume d ≡ lies (length d.marks)
unfolding geometry small_volume
geometry-is d = rw (two-tables, size-read)

module _ (n : ℕ) (h : 160 ≤ n) where
  aligned-go : aligned (lies n) ≡ true
  unfolding aligned all_outside outside whole_packet
  aligned-go = rw (le-leb 32 n (omega arith), le-leb 64 n (omega arith))

  -- either spare, and both
  outside-fits : entries_fit (lies n) (spare_entries (64 ∷ [])) ≡ true
  unfolding entries_fit spare_entries original_fits originals_fit none ascending mapped_fit whole_packet apart_from apart absent mapped_of original_clear originals_clear is_used is_free
  outside-fits = rw (le-leb 96 n (omega arith))

  inside-fits : entries_fit (lies n) (spare_entries (128 ∷ [])) ≡ true
  unfolding entries_fit spare_entries original_fits originals_fit none ascending mapped_fit whole_packet apart_from apart absent mapped_of original_clear originals_clear is_used is_free
  inside-fits = rw (le-leb 160 n h)

  both-fit : entries_fit (lies n) (spare_entries small_spares) ≡ true
  unfolding small_spares entries_fit spare_entries original_fits originals_fit none may_follow ascending mapped_fit whole_packet apart_from apart absent mapped_of original_clear originals_clear is_used is_free
  both-fit = rw (le-leb 160 n h, le-leb 96 n (omega arith))

inside-go : (d : Disc) → 160 ≤ length d.marks → inside d small_volume.start small_volume.span ≡ true
unfolding inside small_volume
inside-go d h = rw (le-leb 160 (length d.marks) h)

-- the two packets of the partition
packet-is : (b k : ℕ) → 32 * k ≤ b → b < 32 * k + 32 → packet_of b ≡ 32 * k
unfolding packet_of
packet-is b k h l = omega arith

first-packet : (b : ℕ) → b < 32 → in_spare small_volume small_spares b ≡ false
unfolding in_spare of_spare small_volume small_spares spare_entries mapped_of absent
first-packet b h = rw (packet-is b 0 (omega arith) (omega arith))

second-packet : (b : ℕ) → 32 ≤ b → b < 64 → in_spare small_volume small_spares b ≡ true
unfolding in_spare of_spare small_volume small_spares spare_entries mapped_of absent
second-packet b h k = rw (packet-is b 1 (omega arith) (omega arith))

-- such a volume is made on every disc that is large enough
pub again-makes : RewritableMakes
unfolding RewritableMakes make_verdict make_tests need
again-makes d shape long =
    let n : ℕ = length d.marks in
    let examined =
    examined-go small_volume d true
    (record {
      shape = shape;
      within = inside-go d long;
      lengths = refl;
      maps = maps-read;
      places = rw (not-once, geometry-is d) (aligned-go n long);
    }) in
    record {
      kind = not-once;
      tables = rw two-tables (omega arith);
      outside = go-then _ examined ∙ rw (not-once, geometry-is d, outside-fits n long);
      inside = go-then _ examined ∙ rw (not-once, geometry-is d, inside-fits n long);
      either = go-then _ examined ∙ rw (not-once, geometry-is d, both-fit n long);
      free = first-packet;
      of_spares = second-packet;
    }
