-- A map list that was written is read as what it was written from. Assumes nothing.
use Prim.Native.Nat.{ℕ, ◌<◌, ◌^◌}
use mathlib.Core.Path.{◌≡◌, refl, sym, ap, ◌∙◌}
use mathlib.Core.List.{List, [], ◌∷◌, ◌++◌}
use mathlib.Core.Bool.{true}
use borrow.Author.Tests.{eq-eqb}
use lib.ListN.{length, get_or, take, drop, replicate}
use Rattle.std.specs.Prelude.{Ok}
use Rattle.fields.specs.Bytes.{part, same}
use Rattle.fields.specs.Number.{value, digits, field, words, quads}
use Rattle.fields.specs.Regid.{identifier, regid, has_regid}
use Rattle.fields.proofs.Laws.{value-digits}
use Rattle.maps.specs.declared.Kind.{Kind}
use Rattle.maps.specs.declared.Kind.TheVariants.{WriteOnce, Rewritable}
use Rattle.maps.specs.declared.Volume.{Volume}
use Rattle.maps.specs.Walk.{walk}
use Rattle.maps.specs.Kinds.{virtual_name, sparable_name, tables_in_range, is_write_once, is_rewritable, used, volume_with, tables_apart, tables_in, tables_of, read_maps}
use Rattle.maps.specs.Told.{on_maps, one_type_two}
use Rattle.maps.specs.Written.{type_one_map, type_two_map, maps_of, kind_in_range, places_of, NumbersIn, Ranged}
use Rattle.maps.proofs.Tables.{length-used, few-tables}
use Rattle.maps.proofs.Places.{four, used-again, take-used, Sectors, sectors-used}
use Rattle.maps.proofs.Reading.{write-once-maps, write-once-bytes, RewritableMap, rewritable-map, rewritable-bytes, read-write-once, read-rewritable}

-- the list of a write-once volume
module _ (p : ℕ) where
  write_once_list : List ℕ
  write_once_list = type_one_map p ++ type_two_map virtual_name p (replicate 24 0)

  write-once-list : on_maps is_write_once (walk write_once_list) ≡ true
  unfolding write_once_list type_one_map type_two_map digits regid identifier virtual_name one_type_two has_regid part same field
  write-once-list = write-once-bytes write_once_list ∙ eq-eqb (value (digits 2 p)) (value (digits 2 p)) refl

  write-once-partition : field (drop 6 write_once_list) 38 2 ≡ value (digits 2 p)
  unfolding write_once_list type_one_map type_two_map digits regid identifier virtual_name field part
  write-once-partition = refl

  write-once-back : (t : List ℕ) → p < 65536 → read_maps (maps_of (WriteOnce p) t) ≡ Ok (volume_with (WriteOnce p) (replicate 4 0))
  unfolding maps_of write_once_list
  write-once-back t h =
      sym (read-write-once write_once_list (write-once-maps write_once_list write-once-list))
      ∙ ap (λ (k : ℕ). Ok (volume_with (WriteOnce k) (replicate 4 0))) (write-once-partition ∙ value-digits 2 p h)

-- the list of a rewritable volume, from its four places
module _ (p n size : ℕ) where
  rewritable_list : List ℕ → List ℕ
  rewritable_list u = type_two_map sparable_name p (digits 2 32 ++ (n ∷ 0 ∷ (digits 4 size ++ quads u)))

  rewritable-list : tables_in_range n (value (digits 4 size)) ≡ true → (u : List ℕ) → length u ≡ 4 → on_maps is_rewritable (walk (rewritable_list u)) ≡ true
  unfolding rewritable_list type_two_map digits quads regid identifier sparable_name one_type_two has_regid part same field value
  rewritable-list q =
      four (λ (u : List ℕ). on_maps is_rewritable (walk (rewritable_list u)) ≡ true)
      (λ a b c d. rewritable-bytes (rewritable_list (a ∷ b ∷ c ∷ d ∷ [])) ∙ q)

  rewritable-words : (u : List ℕ) → length u ≡ 4 → Sectors u → words (rewritable_list u) 48 4 ≡ u
  unfolding rewritable_list type_two_map digits quads regid identifier sparable_name part field words
  rewritable-words =
      four (λ (u : List ℕ). Sectors u → words (rewritable_list u) 48 4 ≡ u)
      (λ a b c d h.
      let ea = value-digits 4 a (h 0) in
      let eb = value-digits 4 b (h 1) in
      let ec = value-digits 4 c (h 2) in
      let ed = value-digits 4 d (h 3) in
      λ i. ea i ∷ eb i ∷ ec i ∷ ed i ∷ [])

  rewritable-numbers : (u : List ℕ) → (field (rewritable_list u) 38 2 ≡ value (digits 2 p)) × (get_or (rewritable_list u) 42 0 ≡ n) × (field (rewritable_list u) 44 4 ≡ value (digits 4 size))
  unfolding rewritable_list type_two_map digits regid identifier sparable_name part field
  rewritable-numbers u = (refl, refl, refl)

-- a rewritable list of a volume that may be written reads back
module _ (p n size : ℕ) (hp : p < 65536) (hs : size < 2 ^ 32) (q : tables_in_range n size ≡ true) (t : List ℕ) (four-t : length t ≡ 4) (ht : Sectors t) (a : tables_apart (take n t) ≡ true) where
  placed : List ℕ
  placed = used n t

  list : List ℕ
  list = rewritable_list p n size placed

  size_back : value (digits 4 size) ≡ size
  size_back = value-digits 4 size hs

  words_back : used n (words list 48 4) ≡ used n t
  unfolding list placed
  words_back = ap (used n) (rewritable-words p n size placed (length-used n t) (sectors-used n t ht)) ∙ used-again n (few-tables n size q) t four-t

  map_back : RewritableMap list
  unfolding list placed
  map_back = rewritable-map list (rewritable-list p n size (ap (tables_in_range n) size_back ∙ q) placed (length-used n t))

  apart-back : tables_apart (take n (used n (words list 48 4))) ≡ true
  apart-back = ap (λ (x : List ℕ). tables_apart (take n x)) words_back ∙ ap tables_apart (take-used n (few-tables n size q) t four-t) ∙ a

  rewritable-back : read_maps (maps_of (Rewritable p n size) t) ≡ Ok (volume_with (Rewritable p n size) (used n t))
  unfolding maps_of list placed rewritable_list type_two_map regid identifier sparable_name digits
  rewritable-back =
      let f = rewritable-numbers p n size placed in
      let ep = f.0 ∙ value-digits 2 p hp in
      let es = f.2 ∙ size_back in
      sym (read-rewritable list map_back apart-back)
      ∙ (λ i. Ok (volume_with (Rewritable (ep i) n (es i)) (words_back i)))

-- each kind back
kind-back : (k : Kind) (t : List ℕ) → NumbersIn k → length t ≡ 4 → Sectors t → kind_in_range k ≡ true → tables_apart (tables_in k t) ≡ true → read_maps (maps_of k t) ≡ Ok (volume_with k (places_of k t))
unfolding kind_in_range tables_in places_of
kind-back (WriteOnce p) t r l h q a = write-once-back p t r
kind-back (Rewritable p n size) t r l h q a = rewritable-back p n size r.0 r.2 q t l h a

-- every list of a volume of one of the two kinds, whose table sectors are apart, is read as that volume, with no span
pub list-reads-back : (v : Volume) → Ranged v → kind_in_range v.kind ≡ true → tables_apart (tables_of v) ≡ true
    → read_maps (maps_of v.kind v.tables) ≡ Ok (volume_with v.kind (places_of v.kind v.tables))
unfolding tables_of
list-reads-back v r q a = kind-back v.kind v.tables r.numbers r.places r.sectors q a
