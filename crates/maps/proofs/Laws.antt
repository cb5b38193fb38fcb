-- The laws of map lists for the layers above: the walk with no count, and what is so of a volume that was read. Assumes nothing.
use Prim.Native.Nat.{ℕ}
use mathlib.Core.Path.{◌≡◌, refl}
use mathlib.Core.List.{List, [], ◌∷◌}
use mathlib.Core.Bool.{true}
use native.Mathlib.Omega.{arith}
use lib.Dec.{eqb}
use lib.ListN.{length, get_or}
use Rattle.refusal.specs.Verdict.{Verdict, verdict_of, answered}
use Rattle.std.specs.Prelude.{Ok, Err}
use Rattle.refusal.specs.Tests.{first}
use Rattle.refusal.proofs.Laws.{passed}
use Rattle.fields.specs.Number.{field}
use Rattle.maps.specs.declared.Volume.{Volume}
use Rattle.maps.specs.Walk.{walk, Walked, short, maps}
use Rattle.maps.specs.Kinds.{sparable_name, type_two, words, is_write_once, is_rewritable, volume_with, no_volume, volume_of, tables_apart, tables_of, kind_tests, judged, volume_in, volume_read, read_maps}
use Rattle.maps.specs.Written.{kind_in_range}
use Rattle.fields.proofs.Tests.{both}
use Rattle.maps.proofs.Tables.{length-used}
pub use Rattle.maps.proofs.Walk.{walk_none, walk-short, walk-next}

-- a volume of one of the two kinds, as far as its list shows
pub record Fine (v : Volume) : Type 0 where
  pub kinds : kind_in_range v.kind ≡ true
  pub apart : tables_apart (tables_of v) ≡ true
  pub places : length v.tables ≡ 4

-- the volume of maps that nothing stands in the way of reading
fine-maps : (ms : List (List ℕ)) → first (kind_tests ms) ≡ Ok tt → Fine (volume_of ms)
unfolding kind_tests volume_of volume_with no_volume kind_in_range is_write_once is_rewritable
fine-maps [] q = record { kinds = refl; apart = (passed (kind_tests []) q).1.0; places = refl }
fine-maps (a ∷ b ∷ l) q = record { kinds = refl; apart = (passed (kind_tests (a ∷ b ∷ l)) q).1.0; places = refl }
fine-maps (a ∷ []) q =
    let z = passed (kind_tests (a ∷ [])) q in
    record {
      kinds = (both (eqb (field a 40 2) 32) _ (both (type_two sparable_name a) _ z.0).1).1;
      apart = z.1.0;
      places = length-used (get_or a 42 0) (words a 48 4);
    }

fine-walk : (w : Walked) → judged w ≡ Ok tt → Fine (volume_in w)
unfolding judged volume_in
fine-walk short q = let z : ◌≡◌ {A = ℕ} 0 1 = cc in absurd (omega arith)
fine-walk (maps ms) q = fine-maps ms q

-- the volume of an answer, where there is one
fine-answer : (x : Verdict) (v : Volume) → (x ≡ Ok tt → Fine v) → verdict_of (answered x v) ≡ Ok tt → Fine (volume_read (answered x v))
unfolding volume_read
fine-answer (Ok _) v f q = f refl
fine-answer (Err why) v f q = let z : ◌≡◌ {A = ℕ} 0 1 = cc in absurd (omega arith)

-- a volume that was read is fine
pub read-fine : (s : List ℕ) → verdict_of (read_maps s) ≡ Ok tt → Fine (volume_read (read_maps s))
unfolding read_maps
read-fine s q = fine-answer (judged (walk s)) (volume_in (walk s)) (fine-walk (walk s)) q
