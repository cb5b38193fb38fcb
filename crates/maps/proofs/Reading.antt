-- Laws of the two kinds: what a list is by its bytes, and what reading it comes to (specs/Kinds.antt). Assumes nothing.
use Prim.Native.Nat.{ℕ, ◌≤◌}
use mathlib.Core.Path.{◌≡◌, refl, sym, ap, ◌∙◌}
use mathlib.Core.List.{List, [], ◌∷◌}
use mathlib.Core.Bool.{true, false, ◌&&◌, ◌||◌, false≢true}
use native.Mathlib.Omega.{arith}
use borrow.Author.Tests.{eq-eqb, eqb-true, leb-true, le-leb}
use lib.Dec.{eqb, leb, lit<, lit≤}
use lib.ListN.{length, get_or, take, drop, replicate, length-drop}
use lib.Seq.{get_or-take, length-take-le}
use Rattle.refusal.specs.declared.Refusal.TheVariants.{MapCut, NeitherKind, Misaligned}
use Rattle.std.specs.Prelude.{Ok, Err, Result}
use Rattle.refusal.specs.Verdict.{answered}
use Rattle.refusal.specs.Tests.{first, need}
use Rattle.maps.specs.declared.Volume.{Volume}
use Rattle.fields.specs.Number.{field}
use Rattle.fields.proofs.Laws.{field-take}
use Rattle.maps.specs.declared.Kind.TheVariants.{WriteOnce, Rewritable}
use Rattle.refusal.specs.declared.Refusal.{Refusal}
use Rattle.maps.specs.Walk.{Walked, short, maps, first_length, walk}
use Rattle.maps.specs.Kinds.{virtual_name, sparable_name, type_one, type_two, words, tables_in_range, is_write_once, is_rewritable, used, volume_with, no_volume, volume_of, tables_apart, tables_in, tables_of, kind_tests, judged, volume_in, volume_read, read_maps}
use Rattle.maps.specs.Told.{is_short, on_maps, one_type_two}
use Rattle.fields.proofs.Tests.{both, together, alike, by-test}
use Rattle.maps.proofs.Walk.{whole, walked-first, walked_one, walk_more, walk-one}
use Rattle.maps.proofs.Tables.{few-tables}

-- ---- the two kinds by their bytes

-- one map of type 2 with a name, by its bytes
one-type-two : (name s : List ℕ) → one_type_two name s ≡ true → (length s ≡ 64) × (walk s ≡ maps (s ∷ [])) × (type_two name s ≡ true)
unfolding one_type_two type_two first_length
one-type-two name s q =
    let a = both (eqb (length s) 64) _ q in
    let b = both (eqb (get_or s 0 0) 2) _ a.1 in
    let d = both (eqb (get_or s 1 0) 64) _ b.1 in
    let n : length s ≡ 64 = eqb-true _ _ a.0 in
    let f : get_or s 1 0 ≡ 64 = eqb-true _ _ d.0 in
    (n, walk-one s (omega arith) (f ∙ sym n), simp (a.0, b.0, d.1))

-- its length alone
pub type-two-long : (name s : List ℕ) → one_type_two name s ≡ true → length s ≡ 64
type-two-long name s q = (one-type-two name s q).0

-- the other way round
type-two-one : (name s : List ℕ) → first_length s ≡ length s → type_two name s ≡ true → one_type_two name s ≡ true
unfolding one_type_two type_two first_length
type-two-one name s f q =
    let a = both (eqb (length s) 64) _ q in
    let b = both (eqb (get_or s 0 0) 2) _ a.1 in
    simp (a.0, b.0, b.1, eq-eqb (get_or s 1 0) 64 (f ∙ eqb-true _ _ a.0))

-- a number of 2 bytes in the first map is one of the list
in-first : (s : List ℕ) → field (take 6 s) 4 2 ≡ field s 4 2
in-first s = field-take s 6 4 2 (lit≤ tt)

-- the maps of a write-once list: its first 6 bytes, and the other 64
pub record WriteOnceMaps (s : List ℕ) : Type 0 where
  pub long : length s ≡ 70
  pub walked : walk s ≡ maps (take 6 s ∷ drop 6 s ∷ [])
  pub told : is_write_once (take 6 s ∷ drop 6 s ∷ []) ≡ true
  pub one : first_length s ≡ 6
  pub two : first_length (drop 6 s) ≡ 64

-- where its walk finds it write-once
found-write-once : (s : List ℕ) (w : Walked) → walk s ≡ w → on_maps is_write_once w ≡ true → WriteOnceMaps s
unfolding on_maps is_write_once type_one type_two
found-write-once s short e q = absurd (false≢true q)
found-write-once s (maps []) e q = absurd (false≢true q)
found-write-once s (maps (a ∷ [])) e q = absurd (false≢true q)
found-write-once s (maps (a ∷ b ∷ c ∷ l)) e q = absurd (false≢true q)
found-write-once s (maps (a ∷ b ∷ [])) e q =
    let p = walked-first s a (b ∷ []) e in
    let w = whole s p.0 in
    let t1 = both (type_one a) _ q in
    let t2 = (both (type_two virtual_name b) _ t1.1).0 in
    let n : length a ≡ 6 = eqb-true _ _ (both (eqb (length a) 6) _ t1.0).0 in
    let m : length b ≡ 64 = eqb-true _ _ (both (eqb (length b) 64) _ t2).0 in
    let f : first_length s ≡ 6 = sym (length-take-le (first_length s) s w.1) ∙ ap length p.1 ∙ n in
    let d : walk (drop 6 s) ≡ maps (b ∷ []) = ap (λ (k : ℕ). walk (drop k s)) (sym f) ∙ p.2 in
    let r = walked_one (drop 6 s) b d in
    let x : take 6 s ≡ a = ap (λ (k : ℕ). take k s) (sym f) ∙ p.1 in
    let l : length (drop 6 s) ≡ 64 = ap length r.0 ∙ m in
    let g = length-drop 6 s in
    record {
      long = omega arith;
      walked = e ∙ (cc);
      told = rw (x, r.0) q;
      one = f;
      two = r.1 ∙ l;
    }

-- a list that is write-once has them
pub write-once-maps : (s : List ℕ) → on_maps is_write_once (walk s) ≡ true → WriteOnceMaps s
write-once-maps s q = found-write-once s (walk s) refl q

-- the write-once kind by the list's bytes
pub write-once-bytes : (s : List ℕ) → on_maps is_write_once (walk s) ≡ (leb 6 (length s) && (eqb (get_or s 0 0) 1 && (eqb (get_or s 1 0) 6 && (one_type_two virtual_name (drop 6 s) && eqb (field s 4 2) (field (drop 6 s) 38 2)))))
unfolding on_maps is_write_once type_one first_length
write-once-bytes s =
    alike _ _
    (λ q.
    let m = write-once-maps s q in
    let g = length-drop 6 s in
    let l : length (drop 6 s) ≡ 64 = omega arith in
    let t1 = both (type_one (take 6 s)) _ m.told in
    let t2 = both (type_two virtual_name (drop 6 s)) _ t1.1 in
    together (le-leb 6 (length s) (omega arith))
    (together (rw (get_or-take 6 s 0 0 (lit< tt)) at (both (eqb (length (take 6 s)) 6) _ t1.0).1)
    (together (eq-eqb (get_or s 1 0) 6 m.one)
    (together (type-two-one virtual_name (drop 6 s) (m.two ∙ sym l) t2.0) (rw in-first at t2.1)))))
    (λ q.
    let a = both (leb 6 (length s)) _ q in
    let b = both (eqb (get_or s 0 0) 1) _ a.1 in
    let d = both (eqb (get_or s 1 0) 6) _ b.1 in
    let e = both (one_type_two virtual_name (drop 6 s)) _ d.1 in
    let o = one-type-two virtual_name (drop 6 s) e.0 in
    let n : 6 ≤ length s = leb-true _ _ a.0 in
    let f : first_length s ≡ 6 = eqb-true _ _ d.0 in
    let w : walk s ≡ maps (take 6 s ∷ drop 6 s ∷ []) = walk_more s (drop 6 s ∷ []) 6 (omega arith) (lit≤ tt) n f o.1 in
    ap (on_maps is_write_once) w
    ∙ together (together (eq-eqb (length (take 6 s)) 6 (length-take-le 6 s n)) (rw (get_or-take 6 s 0 0 (lit< tt)) b.0))
    (together o.2 (rw in-first e.1)))

-- the map of a rewritable list: all of it
pub record RewritableMap (s : List ℕ) : Type 0 where
  pub long : length s ≡ 64
  pub walked : walk s ≡ maps (s ∷ [])
  pub told : is_rewritable (s ∷ []) ≡ true
  pub one : first_length s ≡ length s

-- where its walk finds it rewritable
found-rewritable : (s : List ℕ) (w : Walked) → walk s ≡ w → on_maps is_rewritable w ≡ true → RewritableMap s
unfolding on_maps is_rewritable type_two
found-rewritable s short e q = absurd (false≢true q)
found-rewritable s (maps []) e q = absurd (false≢true q)
found-rewritable s (maps (a ∷ b ∷ l)) e q = absurd (false≢true q)
found-rewritable s (maps (a ∷ [])) e q =
    let r = walked_one s a e in
    let t2 = (both (type_two sparable_name a) _ q).0 in
    record {
      long = ap length r.0 ∙ eqb-true _ _ (both (eqb (length a) 64) _ t2).0;
      walked = e ∙ ap (λ (x : List ℕ). maps (x ∷ [])) (sym r.0);
      told = rw r.0 q;
      one = r.1;
    }

-- a list that is rewritable has it
pub rewritable-map : (s : List ℕ) → on_maps is_rewritable (walk s) ≡ true → RewritableMap s
rewritable-map s q = found-rewritable s (walk s) refl q

-- its tables are at most 4
pub rewritable-tables : (s : List ℕ) → RewritableMap s → get_or s 42 0 ≤ 4
unfolding is_rewritable
rewritable-tables s m =
    let a = (both (type_two sparable_name s) _ m.told).1 in
    few-tables (get_or s 42 0) (field s 44 4) (both (eqb (field s 40 2) 32) _ a).1

-- the rewritable kind by the list's bytes
pub rewritable-bytes : (s : List ℕ) → on_maps is_rewritable (walk s) ≡ (one_type_two sparable_name s && (eqb (field s 40 2) 32 && tables_in_range (get_or s 42 0) (field s 44 4)))
unfolding on_maps is_rewritable
rewritable-bytes s =
    alike _ _
    (λ q.
    let m = rewritable-map s q in
    let a = both (type_two sparable_name s) _ m.told in
    together (type-two-one sparable_name s m.one a.0) a.1)
    (λ q.
    let a = both (one_type_two sparable_name s) _ q in
    let o = one-type-two sparable_name s a.0 in
    ap (on_maps is_rewritable) o.1 ∙ together o.2 a.1)

-- ---- what reading a list comes to

-- what a walk that is cut short, and one of neither kind, are answered
cut-answer : (w : Walked) → is_short w ≡ true → Err MapCut ≡ answered (judged w) (volume_in w)
unfolding is_short judged
cut-answer short q = refl
cut-answer (maps ms) q = absurd (false≢true q)

-- a list that is cut short
pub read-cut : (s : List ℕ) → is_short (walk s) ≡ true → Err MapCut ≡ read_maps s
unfolding read_maps
read-cut s q = cut-answer (walk s) q

neither-answer : (w : Walked) → is_short w ≡ false → on_maps is_write_once w ≡ false → on_maps is_rewritable w ≡ false → Err NeitherKind ≡ answered (judged w) (volume_in w)
unfolding is_short judged on_maps kind_tests need
neither-answer short p q r = absurd (false≢true (sym p))
neither-answer (maps ms) p q r = simp (q, r)

-- a list of neither kind
pub read-neither : (s : List ℕ) → is_short (walk s) ≡ false → on_maps is_write_once (walk s) ≡ false → on_maps is_rewritable (walk s) ≡ false → Err NeitherKind ≡ read_maps s
unfolding read_maps
read-neither s p q r = neither-answer (walk s) p q r

-- reading by the maps of a list
by-maps : (s : List ℕ) (ms : List (List ℕ)) → walk s ≡ maps ms → answered (first (kind_tests ms)) (volume_of ms) ≡ read_maps s
unfolding read_maps judged volume_in
by-maps s ms e = ap (λ (w : Walked). answered (judged w) (volume_in w)) (sym e)

-- a list that is write-once
pub read-write-once : (s : List ℕ) → WriteOnceMaps s → Ok (volume_with (WriteOnce (field (drop 6 s) 38 2)) (replicate 4 0)) ≡ read_maps s
unfolding kind_tests need tables_of tables_in tables_apart volume_of volume_with
read-write-once s m = sym (simp m.told) ∙ by-maps s (take 6 s ∷ drop 6 s ∷ []) m.walked

-- a list that is rewritable
module _ (s : List ℕ) (m : RewritableMap s) where
  told-rewritable : is_write_once (s ∷ []) || is_rewritable (s ∷ []) ≡ true
  unfolding is_write_once
  told-rewritable = m.told

  -- its tables are not apart
  pub read-misaligned : tables_apart (take (get_or s 42 0) (used (get_or s 42 0) (words s 48 4))) ≡ false → Err Misaligned ≡ read_maps s
  unfolding kind_tests need tables_of tables_in volume_of volume_with
  read-misaligned a = sym (simp (told-rewritable, a)) ∙ by-maps s (s ∷ []) m.walked

  -- its tables are apart
  pub read-rewritable : tables_apart (take (get_or s 42 0) (used (get_or s 42 0) (words s 48 4))) ≡ true → Ok (volume_with (Rewritable (field s 38 2) (get_or s 42 0) (field s 44 4)) (used (get_or s 42 0) (words s 48 4))) ≡ read_maps s
  unfolding kind_tests need tables_of tables_in volume_of volume_with
  read-rewritable a = sym (simp (told-rewritable, a)) ∙ by-maps s (s ∷ []) m.walked

-- a list of another length than a rewritable one's is write-once, or refused
pub read-other-length : {C : Type 0} (s : List ℕ) → (length s ≡ 64 → ⊥) → ((p : ℕ) → (volume_read (read_maps s)).kind ≡ WriteOnce p → C) → C
unfolding volume_read no_volume volume_with
read-other-length s n f =
    by-test (is_short (walk s))
    (λ q. f 0 (ap (λ (m : Result Volume Refusal). (volume_read m).kind) (sym (read-cut s q))))
    (λ q.
    by-test (on_maps is_write_once (walk s))
    (λ w. f (field (drop 6 s) 38 2) (ap (λ (m : Result Volume Refusal). (volume_read m).kind) (sym (read-write-once s (write-once-maps s w)))))
    (λ w.
    by-test (on_maps is_rewritable (walk s))
    (λ r. absurd (n (rewritable-map s r).long))
    (λ r. f 0 (ap (λ (m : Result Volume Refusal). (volume_read m).kind) (sym (read-neither s q w r))))))
