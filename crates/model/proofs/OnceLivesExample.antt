-- The claims of proofs/OnceLives.antt speak of some disc: one of three blank sectors, which takes a block of zeros. Assumes nothing.
use Prim.Native.Nat.{ℕ}
use mathlib.Core.Bool.{true, false}
use mathlib.Core.Path.{◌≡◌, refl}
use mathlib.Core.List.{[], ◌∷◌}
use native.Mathlib.Omega.{arith}
use lib.ListN.{replicate}
use Rattle.std.specs.Prelude.{Ok}
use Rattle.refusal.specs.Tests.{need}
use Rattle.fields.specs.Bytes.{part, same}
use Rattle.fields.specs.Number.{value, digits, field}
use Rattle.fields.specs.Regid.{identifier, regid, has_regid}
use Rattle.maps.specs.declared.Kind.TheVariants.{WriteOnce}
use Rattle.maps.specs.Walk.{before, first_length, first_whole, walk_up_to, walk}
use Rattle.maps.specs.Kinds.{virtual_name, type_one, type_two, is_write_once, is_rewritable, volume_with, volume_of, tables_apart, tables_in, tables_of, kind_tests, judged, volume_in, read_maps, volume_read}
use Rattle.maps.specs.Written.{maps_of, type_one_map, type_two_map}
use Rattle.model.specs.Disc.{Disc, disc, mark, nwa, known, shapely, inside}
use Rattle.model.specs.Vat.{tag_fits, passes}
use Rattle.model.specs.Examine.{Setting, setting, volume, is_once, write_once, shape_tests, place_tests, examined}
use Rattle.model.specs.Once.{next_on}
use Rattle.model.specs.Both.{make_tests, make_verdict, made}
use Rattle.model.specs.Lives.{TakesFirst, OnceLives}
use Rattle.model.proofs.OnceLives.{once-lives}

-- three blank sectors
unfoldable pub blank : Disc
blank = disc (replicate 6144 0) (0 ∷ 0 ∷ 0 ∷ [])

-- all of them in a write-once partition
unfoldable pub place : Setting
place = setting (maps_of (WriteOnce 0) []) 0 3

once : write_once place ≡ true
unfolding place write_once volume is_once read_maps judged volume_in walk walk_up_to before first_length first_whole kind_tests is_write_once is_rewritable type_one type_two virtual_name tables_apart tables_in tables_of volume_of volume_with maps_of type_one_map type_two_map digits regid identifier has_regid field part same value need volume_read
once = refl

-- making goes on
goes : make_verdict place blank [] ≡ Ok tt
unfolding place blank make_verdict make_tests examined shape_tests place_tests shapely inside known next_on nwa mark write_once volume is_once read_maps judged volume_in walk walk_up_to before first_length first_whole kind_tests is_write_once is_rewritable type_one type_two virtual_name tables_apart tables_in tables_of volume_of volume_with maps_of type_one_map type_two_map digits regid identifier has_regid field part same value need volume_read
goes = refl

-- zeros have no tag
plain : (d : Disc) (s : ℕ) → passes d s 1 (replicate 2048 0) ≡ false
unfolding passes tag_fits field part value
plain d s = refl

-- the disc made of them takes the block of zeros and gives it back
pub three-blank-live : TakesFirst place (made place blank []) (replicate 4096 0) (replicate 2048 0)
unfolding OnceLives place
three-blank-live =
    once-lives place blank [] (replicate 4096 0) (replicate 2048 0) once goes (omega arith) (omega arith) refl (plain (made place blank []) 0)
