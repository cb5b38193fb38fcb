-- Laws of a list as it is written, piece by piece, and of what writing it comes to (specs/Writing.antt). Assumes nothing.
use Prim.Native.Nat.{ℕ, suc, ◌+◌, ◌-◌, ◌*◌, ◌≤◌, ◌<◌}
use mathlib.Core.Path.{◌≡◌, refl, sym, ap, ◌∙◌}
use mathlib.Core.List.{List, [], ◌∷◌, ◌++◌, append_assoc, append-nil}
use mathlib.Core.Bool.{true, false}
use native.Mathlib.Omega.{arith}
use native.Mathlib.Numerals.{add-one}
use borrow.Author.Tests.{eq-eqb, ne_eqb}
use lib.Dec.{eqb}
use lib.ListN.{length, get_or, take, drop, set, replicate, length-append, take-append-drop, length-take, drop_of_length-le}
use lib.Seq.{take-suc, take_at, drop-append-add, length-take-le}
use Rattle.refusal.specs.declared.Refusal.{Refusal}
use Rattle.refusal.specs.declared.Refusal.TheVariants.{LentLength, NeitherKind, Misaligned}
use Rattle.refusal.specs.Verdict.{Verdict}
use Rattle.std.specs.Prelude.{Ok, Err}
use Rattle.refusal.specs.Tests.{need}
use Rattle.refusal.proofs.Laws.{goes, stops}
use Rattle.fields.specs.Bytes.{splice}
use Rattle.fields.specs.Number.{digits, quads}
use Rattle.fields.specs.Regid.{identifier, regid}
use Rattle.fields.proofs.Laws.{length_digits, length-regid, splice-append}
use Rattle.fields.proofs.Words.{length-quads, quads-append}
use Rattle.maps.specs.declared.Kind.{Kind}
use Rattle.maps.specs.declared.Kind.TheVariants.{WriteOnce, Rewritable}
use Rattle.maps.specs.declared.Volume.{Volume}
use Rattle.maps.specs.Kinds.{virtual_name, sparable_name, tables_in_range, used, tables_apart, tables_in, tables_of}
use Rattle.maps.specs.Written.{type_one_map, type_two_map, maps_of, kind_in_range}
use Rattle.maps.proofs.Places.{four, few}
use Rattle.maps_written.specs.Writing.{written_maps, map_bytes, write_tests, write_verdict, written_or}

-- ---- what is written, one piece at a time

-- the six bytes of a type 1 map
pub type-one-written : (s a b : List ℕ) (p : ℕ) → 6 ≤ length s → a ≡ splice (set (set s 0 1) 1 6) 2 (digits 2 1) → b ≡ splice a 4 (digits 2 p) → b ≡ splice s 0 (type_one_map p)
unfolding splice digits type_one_map
type-one-written [] a b p h ea eb = absurd (omega arith)
type-one-written (s1 ∷ []) a b p h ea eb = absurd (omega arith)
type-one-written (s1 ∷ s2 ∷ []) a b p h ea eb = absurd (omega arith)
type-one-written (s1 ∷ s2 ∷ s3 ∷ []) a b p h ea eb = absurd (omega arith)
type-one-written (s1 ∷ s2 ∷ s3 ∷ s4 ∷ []) a b p h ea eb = absurd (omega arith)
type-one-written (s1 ∷ s2 ∷ s3 ∷ s4 ∷ s5 ∷ []) a b p h ea eb = absurd (omega arith)
type-one-written (s1 ∷ s2 ∷ s3 ∷ s4 ∷ s5 ∷ s6 ∷ s) a b p h ea eb = eb ∙ rw ea

-- bytes put in behind a front of known length
splice_at : (f q b : List ℕ) (at n : ℕ) → length f ≡ at → length b ≡ n → splice (f ++ q) at b ≡ f ++ (b ++ drop n q)
unfolding splice
splice_at f q b at n e l =
    let k : at + length b ≡ length f + n = omega arith in
    ap (λ (x : List ℕ). x ++ (b ++ drop (at + length b) (f ++ q))) (take_at f q at e)
    ∙ ap (λ (j : ℕ). f ++ (b ++ drop j (f ++ q))) k
    ∙ ap (λ (x : List ℕ). f ++ (b ++ x)) (drop-append-add f q n)

-- the rest of a list, cleared
cleared-rest : (s y : List ℕ) (k : ℕ) → length s ≡ k → y ≡ replicate (length (take k s)) 0 → y ++ drop k s ≡ replicate k 0
cleared-rest s y k e q =
    let n : length (take k s) ≡ k = simp length-take (omega arith) in
    ap (λ (l : List ℕ). l ++ drop k s) (q ∙ ap (λ (j : ℕ). replicate j 0) n)
    ∙ ap (λ (l : List ℕ). replicate k 0 ++ l) (drop_of_length-le s {i = k} (omega arith))
    ∙ append-nil (replicate k 0)

-- a type 2 map x, its type and length set, with the rest cleared
pub type-two-cleared : (s y : List ℕ) → length s ≡ 64 → let x = set (set s 0 2) 1 64 in y ≡ replicate (length (take (length x - 2) (drop 2 x))) 0 → take 2 x ++ (y ++ drop (length x - 2) (drop 2 x)) ≡ 2 ∷ 64 ∷ replicate 62 0
type-two-cleared [] y h e = absurd (omega arith)
type-two-cleared (a ∷ []) y h e = absurd (omega arith)
type-two-cleared (a ∷ b ∷ s) y h e =
    let k : suc (suc (length s)) - 2 ≡ 62 = omega arith in
    ap (λ (l : List ℕ). 2 ∷ 64 ∷ l) (cleared-rest s y (suc (suc (length s)) - 2) (omega arith) e)
    ∙ ap (λ (j : ℕ). 2 ∷ 64 ∷ replicate j 0) k

-- a type 2 map, field by field
module _ (name : List ℕ) (p : ℕ) where
  front : List ℕ
  front = 2 ∷ 64 ∷ 0 ∷ 0 ∷ regid name

  length_front : length front ≡ 36
  unfolding front
  length_front = ap (λ (k : ℕ). suc (suc (suc (suc k)))) (length-regid name)

  pub type-two-written : (x r q z : List ℕ) → x ≡ 2 ∷ 64 ∷ replicate 62 0 → r ≡ splice x 4 (regid name) → q ≡ splice r 36 (digits 2 1) → z ≡ splice q 38 (digits 2 p) → z ≡ type_two_map name p (replicate 24 0)
  unfolding type_two_map front
  type-two-written x r q z ex er eq ez =
      let r2 : r ≡ front ++ replicate 28 0 = er ∙ ap (λ (k : List ℕ). splice k 4 (regid name)) ex ∙ splice_at (2 ∷ 64 ∷ 0 ∷ 0 ∷ []) (replicate 60 0) (regid name) 4 32 refl (length-regid name) in
      let q2 : q ≡ front ++ (digits 2 1 ++ replicate 26 0) = eq ∙ ap (λ (k : List ℕ). splice k 36 (digits 2 1)) r2 ∙ splice_at front (replicate 28 0) (digits 2 1) 36 2 length_front (length_digits 2 1) in
      let l : length (front ++ digits 2 1) ≡ 38 = length-append front (digits 2 1) ∙ (omega (arith, length_front, length_digits 2 1)) in
      ez
      ∙ ap (λ (k : List ℕ). splice k 38 (digits 2 p)) (q2 ∙ sym (append_assoc front (digits 2 1) (replicate 26 0)))
      ∙ splice_at (front ++ digits 2 1) (replicate 26 0) (digits 2 p) 38 2 l (length_digits 2 p)
      ∙ append_assoc front (digits 2 1) (digits 2 p ++ replicate 24 0)

-- both maps of a write-once list, the second put in behind the first
pub write-once-written : (s a y : List ℕ) (p : ℕ) → a ≡ splice s 0 (type_one_map p) → y ≡ type_two_map virtual_name p (replicate 24 0) → take 6 a ++ (y ++ drop (length a - 6) (drop 6 a)) ≡ maps_of (WriteOnce p) (replicate 4 0)
unfolding maps_of type_one_map splice digits
write-once-written s a y p ea ey =
    ap (λ (x : List ℕ). take 6 x ++ (y ++ drop (length x - 6) (drop 6 x))) ea
    ∙ ap (λ (l : List ℕ). type_one_map p ++ (y ++ l)) (drop_of_length-le (drop 6 s) {i = length (type_one_map p ++ drop 6 s) - 6} (omega arith))
    ∙ ap (λ (l : List ℕ). type_one_map p ++ l) (append-nil y ∙ ey)

-- one table sector more
module _ (s t : List ℕ) (i : ℕ) (h : i < length t) where
  next-quads : quads (take (i + 1) t) ≡ quads (take i t) ++ digits 4 (get_or t i 0)
  unfolding quads
  next-quads =
      ap (λ (k : ℕ). quads (take k t)) (add-one i)
      ∙ ap quads (take-suc t i 0 h)
      ∙ quads-append (take i t) (get_or t i 0 ∷ [])
      ∙ ap (λ (l : List ℕ). quads (take i t) ++ l) (append-nil (digits 4 (get_or t i 0)))

  pub sectors-next : 48 + 4 * i + 4 ≤ length s → splice (splice s 48 (quads (take i t))) (48 + 4 * i) (digits 4 (get_or t i 0)) ≡ splice s 48 (quads (take (i + 1) t))
  sectors-next r =
      let a = length-quads (take i t) in
      let b = length-take-le i t (omega arith) in
      let k : length (quads (take i t)) ≡ 4 * i = omega arith in
      let d = length_digits 4 (get_or t i 0) in
      ap (λ (j : ℕ). splice (splice s 48 (quads (take i t))) (48 + j) (digits 4 (get_or t i 0))) (sym k)
      ∙ sym (splice-append s 48 (quads (take i t)) (digits 4 (get_or t i 0)) (omega arith))
      ∙ ap (splice s 48) (sym next-quads)

-- none yet
pub sectors-none : (s t : List ℕ) → s ≡ splice s 48 (quads (take 0 t))
unfolding quads splice
sectors-none s t = sym (take-append-drop 48 s)

-- the map of a rewritable list, its type 2 part and then field by field
fields_written : ℕ → ℕ → ℕ → List ℕ → List ℕ
fields_written p n size t =
    splice (splice (set (splice (type_two_map sparable_name p (replicate 24 0)) 40 (digits 2 32)) 42 n) 44 (digits 4 size)) 48 (quads (take n t))

rewritable-fields : (t : List ℕ) (p n size : ℕ) → length t ≡ 4 → n ≤ 4 → fields_written p n size t ≡ maps_of (Rewritable p n size) t
unfolding fields_written maps_of type_two_map regid identifier sparable_name splice digits quads used
rewritable-fields t p n size e h =
    four (λ (l : List ℕ). fields_written p n size l ≡ maps_of (Rewritable p n size) l)
    (λ a b c d.
    few (λ (k : ℕ). fields_written p k size (a ∷ b ∷ c ∷ d ∷ []) ≡ maps_of (Rewritable p k size) (a ∷ b ∷ c ∷ d ∷ []))
    refl refl refl refl refl n h)
    t e

-- the same, write by write
pub rewritable-written : (t a b d e : List ℕ) (p n k size : ℕ) → length t ≡ 4 → n ≤ 4 → k ≡ n → a ≡ type_two_map sparable_name p (replicate 24 0) → b ≡ splice a 40 (digits 2 32) → d ≡ splice (set b 42 n) 44 (digits 4 size) → e ≡ splice d 48 (quads (take k t)) → e ≡ maps_of (Rewritable p n size) t
unfolding fields_written
rewritable-written t a b d e p n k size l h ek ea eb ed ee = (cc) ∙ rewritable-fields t p n size l h

-- ---- what writing a list comes to

-- the verdict by the volume's kind
verdict_by : Kind → List ℕ → ℕ → Verdict
verdict_by k t bytes =
    need (eqb bytes (map_bytes k)) LentLength (need (kind_in_range k) NeitherKind (need (tables_apart (tables_in k t)) Misaligned (Ok tt)))

-- a volume, and the bytes that are lent for its list
module _ (v : Volume) (out : List ℕ) where
  by_kind : (k : Kind) → v.kind ≡ k → verdict_by k v.tables (length out) ≡ write_verdict v out
  unfolding verdict_by write_verdict write_tests tables_of
  by_kind k e = ap (λ (x : Kind). verdict_by x v.tables (length out)) (sym e)

  -- the verdict, and the bytes that go with it
  pub settled : (w : Verdict) (x : List ℕ) → w ≡ write_verdict v out → x ≡ written_or w v out → (w ≡ write_verdict v out) × (x ≡ written_or (write_verdict v out) v out)
  settled w x e q = (e, q ∙ ap (λ (y : Verdict). written_or y v out) e)

  -- turned down, the bytes are as they came
  pub as-it-came : {why : Refusal} → Err why ≡ write_verdict v out → (Err why ≡ write_verdict v out) × (out ≡ written_or (write_verdict v out) v out)
  unfolding written_or
  as-it-came {why} e = settled (Err why) out e refl

  module _ (p : ℕ) (e : v.kind ≡ WriteOnce p) where
    -- a write-once list of the wrong length
    pub write-once-length : (length out ≡ 70 → ⊥) → Err LentLength ≡ write_verdict v out
    unfolding verdict_by map_bytes
    write-once-length h = stops _ (ne_eqb _ _ h) ∙ by_kind (WriteOnce p) e

    -- a write-once list, written
    pub write-once-goes : (x : List ℕ) → length out ≡ 70 → x ≡ maps_of (WriteOnce p) (replicate 4 0) → ((Ok tt) ≡ write_verdict v out) × (x ≡ written_or (write_verdict v out) v out)
    unfolding verdict_by map_bytes kind_in_range tables_in tables_apart need written_or written_maps maps_of
    write-once-goes x h q =
        settled (Ok tt) x
        (goes LentLength (eq-eqb _ _ h) refl ∙ by_kind (WriteOnce p) e)
        (q ∙ ap (λ (k : Kind). maps_of k v.tables) (sym e))

  module _ (p n size : ℕ) (e : v.kind ≡ Rewritable p n size) where
    by-tables : need (eqb (length out) 64) LentLength (need (tables_in_range n size) NeitherKind (need (tables_apart (take n v.tables)) Misaligned (Ok tt))) ≡ write_verdict v out
    unfolding verdict_by map_bytes kind_in_range tables_in
    by-tables = by_kind (Rewritable p n size) e

    -- a rewritable list of the wrong length
    pub rewritable-length : (length out ≡ 64 → ⊥) → Err LentLength ≡ write_verdict v out
    rewritable-length h = stops _ (ne_eqb _ _ h) ∙ by-tables

    -- one whose numbers are out of range
    pub rewritable-range : length out ≡ 64 → tables_in_range n size ≡ false → Err NeitherKind ≡ write_verdict v out
    rewritable-range h r = goes LentLength (eq-eqb _ _ h) (stops _ r) ∙ by-tables

    -- one whose tables are not apart
    pub rewritable-apart : length out ≡ 64 → tables_in_range n size ≡ true → tables_apart (take n v.tables) ≡ false → Err Misaligned ≡ write_verdict v out
    rewritable-apart h r a = goes LentLength (eq-eqb _ _ h) (goes NeitherKind r (stops _ a)) ∙ by-tables

    -- a rewritable list, written
    pub rewritable-goes : (x : List ℕ) → length out ≡ 64 → tables_in_range n size ≡ true → tables_apart (take n v.tables) ≡ true → x ≡ maps_of (Rewritable p n size) v.tables → ((Ok tt) ≡ write_verdict v out) × (x ≡ written_or (write_verdict v out) v out)
    unfolding written_or written_maps
    rewritable-goes x h r a q =
        settled (Ok tt) x
        (goes LentLength (eq-eqb _ _ h) (goes NeitherKind r (goes Misaligned a refl)) ∙ by-tables)
        (q ∙ ap (λ (k : Kind). maps_of k v.tables) (sym e))
