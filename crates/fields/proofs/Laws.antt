-- Laws of the definitions of `specs/`, each stated and proved once. Assumes nothing.
use Prim.Native.Nat.{ℕ, zero, suc, ◌+◌, ◌-◌, ◌*◌, ◌/◌, ◌%◌, ◌^◌, ◌≤◌, ◌<◌}
use mathlib.Core.Path.{◌≡◌, refl, sym, ap, ◌∙◌}
use mathlib.Core.Bool.{Bool, true, false, false≢true, and-eq-true_iff, and_comm, and_assoc}
use mathlib.Core.Logic.{◌⊎◌, ⊎_elim}
use mathlib.Core.List.{List, [], ◌∷◌, ◌++◌, append_assoc}
use native.Mathlib.Omega.{arith}
use native.Mathlib.Numerals.{add-one}
use native.Mathlib.Nat.{add-zero, zero-add, suc-add, pow-suc}
use lib.Dec.{eqb}
use lib.ListN.{length, take, drop, set, get_or, replicate, length-append, length-take, length-drop, length-set, take-append-drop}
use lib.Seq.{drop-append-le, take-nil, length-take-le, take-append-le, drop-append-add, drop-drop, take-take, take-add, take_at, drop_at, take-length, take_all, get_or-take, get_or-drop, sets, sets-eq, paste, paste-zero, paste-suc, take-suc}
use borrow.Author.Tests.{eq-eqb, eqb-true}
use Rattle.std.proofs.Math.Nat.{mul_comm, div-div-eq-div-mul}
use Rattle.std.proofs.lemmas.Bool.{false_from_ne_true}
use Rattle.std.proofs.lemmas.List.{drop-replicate}
use Rattle.std.specs.Cmp.Lexicographic.{pointwise}
use Rattle.std.specs.Prelude.{nat_eq, ◌&&◌}
use Rattle.std.specs.Int.{byte_at, byte_worth, bytes_low_first, sum_through}
use Rattle.fields.specs.Bytes.{part, splice, same}
pub use Rattle.fields.specs.Back.{value-digits}
use Rattle.fields.specs.Number.{value, digits, field}
use Rattle.fields.specs.Regid.{identifier, regid, has_regid}

-- by cases on what is decided
pub by-dec : {A C : Type 0} → (A → C) → ((A → ⊥) → C) → Dec A → C
by-dec f g (yes a) = f a
by-dec f g (no n) = g n

-- ---- parts

-- a part inside the list has the length asked for
pub length_part : (s : List ℕ) (at w : ℕ) → at + w ≤ length s → length (part s at w) ≡ w
unfolding part
length_part s at w h = simp (length-take, length-drop) (omega arith)

-- a part's byte is the list's
pub get_or-part : (s : List ℕ) (at w i : ℕ) → i < w → get_or (part s at w) i 0 ≡ get_or s (at + i) 0
unfolding part
get_or-part s at w i h = get_or-take w (drop at s) i 0 h ∙ get_or-drop at s i 0

-- the part that is all of the list
pub part-all : (s : List ℕ) (w : ℕ) → length s ≤ w → part s 0 w ≡ s
unfolding part
part-all s w h = take_all w s h

-- a part of the front is a part of the whole, in terms of take and drop
take-drop-take : (l : List ℕ) (w from v : ℕ) → from + v ≤ w → take v (drop from (take w l)) ≡ take v (drop from l)
take-drop-take l w zero v h = take-take v w l (omega arith)
take-drop-take l zero (suc from) v h = absurd (omega arith)
take-drop-take [] (suc w) (suc from) v h = refl
take-drop-take (x ∷ l) (suc w) (suc from) v h = take-drop-take l w from v (omega arith)

-- a part of a part
pub part-part : (s : List ℕ) (at w from v : ℕ) → from + v ≤ w → part (part s at w) from v ≡ part s (at + from) v
unfolding part
part-part s at w from v h = take-drop-take (drop at s) w from v h ∙ ap (λ (l : List ℕ). take v l) (drop-drop from at s)

-- a part of the front of a list
pub part-take : (s : List ℕ) (n at w : ℕ) → at + w ≤ n → part (take n s) at w ≡ part s at w
unfolding part
part-take s n at w h = take-drop-take s n at w h

-- a part of the rest of a list
pub part-drop : (s : List ℕ) (k at w : ℕ) → part (drop k s) at w ≡ part s (k + at) w
unfolding part
part-drop s k at w = ap (λ (l : List ℕ). take w l) (drop-drop at k s)

-- a part of a concatenation that lies in its first list
pub part-append : (a b : List ℕ) (at w : ℕ) → at + w ≤ length a → part (a ++ b) at w ≡ part a at w
unfolding part
part-append a b at w h =
    ap (λ (l : List ℕ). take w l) (drop-append-le at a b (omega arith))
    ∙ take-append-le w (drop at a) b (simp length-drop (omega arith))

-- and one that lies in its second
pub part-append-add : (a b : List ℕ) (at w : ℕ) → part (a ++ b) (length a + at) w ≡ part b at w
unfolding part
part-append-add a b at w = ap (λ (l : List ℕ). take w l) (drop-append-add a b at)

-- ---- splices

-- a splice inside the list keeps its length
pub length-splice : (s : List ℕ) (at : ℕ) (b : List ℕ) → at + length b ≤ length s → length (splice s at b) ≡ length s
unfolding splice
length-splice s at b h = simp (length-append, length-take, length-drop) (omega arith)

-- the front of a list is kept by a splice behind it
pub take-splice : (s : List ℕ) (at n : ℕ) (b : List ℕ) → at ≤ length s → n ≤ at → take n (splice s at b) ≡ take n s
unfolding splice
take-splice s at n b h l =
    take-append-le n (take at s) (b ++ drop (at + length b) s) (simp length-take (omega arith)) ∙ take-take n at s l

-- the rest of a list is kept by a splice before it
pub drop-splice : (s : List ℕ) (at n : ℕ) (b : List ℕ) → at ≤ length s → at + length b ≤ n → drop n (splice s at b) ≡ drop n s
unfolding splice
drop-splice s at n b h l =
    let p : List ℕ = take at s ++ b in
    let e : length p ≡ at + length b = simp (length-append, length-take) (omega arith) in
    let m : ℕ = n - length p in
    let en : n ≡ length p + m = omega arith in
    let em : at + length b + m ≡ n = omega arith in
    ap (λ (x : List ℕ). drop n x) (sym (append_assoc (take at s) b (drop (at + length b) s)))
    ∙ ap (λ (j : ℕ). drop j (p ++ drop (at + length b) s)) en
    ∙ drop-append-add p (drop (at + length b) s) m
    ∙ drop-drop m (at + length b) s
    ∙ ap (λ (j : ℕ). drop j s) em

-- what was spliced in stands in its place
pub part-splice-same : (s : List ℕ) (at : ℕ) (b : List ℕ) → at + length b ≤ length s → part (splice s at b) at (length b) ≡ b
unfolding part splice
part-splice-same s at b h =
    rw (drop_at (take at s) (b ++ drop (at + length b) s) at (length-take-le at s (omega arith)), take_at b (drop (at + length b) s) (length b) refl)

-- the same where the bytes are said to be w
pub part-splice-width : (s : List ℕ) (at w : ℕ) (b : List ℕ) → length b ≡ w → at + w ≤ length s → part (splice s at b) at w ≡ b
part-splice-width s at w b e h = ap (λ (k : ℕ). part (splice s at b) at k) (sym e) ∙ part-splice-same s at b (omega arith)

-- each part of it does too
pub part-splice-inside : (s : List ℕ) (at : ℕ) (b : List ℕ) (from w : ℕ) → at + length b ≤ length s → from + w ≤ length b → part (splice s at b) (at + from) w ≡ part b from w
part-splice-inside s at b from w h l =
    sym (part-part (splice s at b) at (length b) from w l) ∙ ap (λ (x : List ℕ). part x from w) (part-splice-same s at b h)

-- a part that ends before the spliced bytes is kept
pub part-splice-before : (s : List ℕ) (at : ℕ) (b : List ℕ) (from w : ℕ) → at + length b ≤ length s → from + w ≤ at → part (splice s at b) from w ≡ part s from w
part-splice-before s at b from w h l =
    sym (part-take (splice s at b) (from + w) from w (omega arith))
    ∙ ap (λ (x : List ℕ). part x from w) (take-splice s at (from + w) b (omega arith) l)
    ∙ part-take s (from + w) from w (omega arith)

-- a part that begins after the spliced bytes is kept
pub part-splice-after : (s : List ℕ) (at : ℕ) (b : List ℕ) (from w : ℕ) → at + length b ≤ length s → at + length b ≤ from → part (splice s at b) from w ≡ part s from w
unfolding part
part-splice-after s at b from w h l = ap (λ (x : List ℕ). take w x) (drop-splice s at from b (omega arith) l)

-- a byte of what was spliced in
pub get_or-splice-inside : (s : List ℕ) (at : ℕ) (b : List ℕ) (i : ℕ) → at + length b ≤ length s → i < length b → get_or (splice s at b) (at + i) 0 ≡ get_or b i 0
get_or-splice-inside s at b i h l =
    sym (get_or-part (splice s at b) at (length b) i l) ∙ ap (λ (x : List ℕ). get_or x i 0) (part-splice-same s at b h)

-- a byte before it
pub get_or-splice-before : (s : List ℕ) (at : ℕ) (b : List ℕ) (i : ℕ) → at + length b ≤ length s → i < at → get_or (splice s at b) i 0 ≡ get_or s i 0
get_or-splice-before s at b i h l =
    sym (get_or-take at (splice s at b) i 0 l)
    ∙ ap (λ (x : List ℕ). get_or x i 0) (take-splice s at at b (omega arith) (omega arith))
    ∙ get_or-take at s i 0 l

-- a byte after it
pub get_or-splice-after : (s : List ℕ) (at : ℕ) (b : List ℕ) (i : ℕ) → at + length b ≤ length s → at + length b ≤ i → get_or (splice s at b) i 0 ≡ get_or s i 0
get_or-splice-after s at b i h l =
    let n : ℕ = at + length b in
    let e : n + (i - n) ≡ i = omega arith in
    ap (λ (j : ℕ). get_or (splice s at b) j 0) (sym e)
    ∙ sym (get_or-drop n (splice s at b) (i - n) 0)
    ∙ ap (λ (x : List ℕ). get_or x (i - n) 0) (drop-splice s at n b (omega arith) (omega arith))
    ∙ get_or-drop n s (i - n) 0
    ∙ ap (λ (j : ℕ). get_or s j 0) e

-- a byte that was not spliced in is kept
pub get_or-splice-other : (s : List ℕ) (at : ℕ) (b : List ℕ) (i : ℕ) → at + length b ≤ length s → (i < at) ⊎ (at + length b ≤ i) → get_or (splice s at b) i 0 ≡ get_or s i 0
get_or-splice-other s at b i h = ⊎_elim (get_or-splice-before s at b i h) (get_or-splice-after s at b i h)

-- a part put where it stands changes nothing
pub splice-own : (s : List ℕ) (at w : ℕ) → at + w ≤ length s → splice s at (part s at w) ≡ s
unfolding part splice
splice-own s at w h =
    let e : length (take w (drop at s)) ≡ w = simp (length-take, length-drop) (omega arith) in
    ap (λ (j : ℕ). take at s ++ (take w (drop at s) ++ drop (at + j) s)) e
    ∙ ap (λ (x : List ℕ). take at s ++ (take w (drop at s) ++ x)) (sym (drop-drop w at s))
    ∙ ap (λ (x : List ℕ). take at s ++ x) (take-append-drop w (drop at s))
    ∙ take-append-drop at s

-- of two splices in one place the second stays
pub splice-again : (s : List ℕ) (at : ℕ) (a b : List ℕ) → at + length a ≤ length s → length a ≡ length b → splice (splice s at a) at b ≡ splice s at b
unfolding splice
splice-again s at a b h e =
    ap (λ (x : List ℕ). x ++ (b ++ drop (at + length b) (splice s at a))) (take-splice s at at a (omega arith) (omega arith))
    ∙ ap (λ (x : List ℕ). take at s ++ (b ++ x)) (drop-splice s at (at + length b) a (omega arith) (omega arith))

-- the front of a splice, up to the end of what was spliced in
pub splice_front : (s : List ℕ) (at : ℕ) (b : List ℕ) → at ≤ length s → take (at + length b) (splice s at b) ≡ take at s ++ b
unfolding splice
splice_front s at b h =
    ap (λ (x : List ℕ). take (at + length b) x) (sym (append_assoc (take at s) b (drop (at + length b) s)))
    ∙ take_at (take at s ++ b) (drop (at + length b) s) (at + length b) (simp (length-append, length-take) (omega arith))

-- a concatenation is spliced in one list after the other
pub splice-append : (s : List ℕ) (at : ℕ) (a b : List ℕ) → at + (length a + length b) ≤ length s → splice s at (a ++ b) ≡ splice (splice s at a) (at + length a) b
unfolding splice
splice-append s at a b h =
    let p : List ℕ = take at s ++ a in
    let n : ℕ = at + length a + length b in
    let en : at + length (a ++ b) ≡ n = simp length-append (omega arith) in
    let shift : take at s ++ ((a ++ b) ++ drop n s) ≡ p ++ (b ++ drop n s) = simp append_assoc in
    ap (λ (j : ℕ). take at s ++ ((a ++ b) ++ drop j s)) en
    ∙ shift
    ∙ ap (λ (x : List ℕ). p ++ (b ++ x)) (sym (drop-splice s at n a (omega arith) (omega arith)))
    ∙ ap (λ (x : List ℕ). x ++ (b ++ drop n (splice s at a))) (sym (splice_front s at a (omega arith)))

-- what a part of n bytes from k on, lent and come back as y, leaves
pub lent_back : (s y : List ℕ) (k n : ℕ) → length y ≡ n → take k s ++ (y ++ drop n (drop k s)) ≡ splice s k y
unfolding splice
lent_back s y k n e = ap (λ (x : List ℕ). take k s ++ (y ++ x)) (drop-drop n k s ∙ ap (λ (j : ℕ). drop (k + j) s) (sym e))

-- what is before a part, with the front of the part
pub part-front : (s : List ℕ) (k n m : ℕ) → m ≤ n → take k s ++ take m (part s k n) ≡ take (k + m) s
unfolding part
part-front s k n m h = ap (λ (x : List ℕ). take k s ++ x) (take-take m n (drop k s) h) ∙ sym (take-add k m s)

-- the rest of a part, with what is after the part
pub part-rest : (s : List ℕ) (k n m : ℕ) → k + n ≤ length s → m ≤ n → drop m (part s k n) ++ drop (k + n) s ≡ drop (k + m) s
unfolding part
part-rest s k n m h l =
    let r : List ℕ = drop k s in
    let e : length (take n r) ≡ n = simp (length-take, length-drop) (omega arith) in
    ap (λ (x : List ℕ). drop m (take n r) ++ x) (sym (drop-drop n k s))
    ∙ sym (drop-append-le m (take n r) (drop n r) (omega arith))
    ∙ ap (λ (x : List ℕ). drop m x) (take-append-drop n r)
    ∙ drop-drop m k s

-- a splice into a part that is put back is a splice into the whole
pub splice-part : (s : List ℕ) (k n at : ℕ) (b : List ℕ) → k + n ≤ length s → at + length b ≤ n → splice s k (splice (part s k n) at b) ≡ splice s (k + at) b
unfolding splice
splice-part s k n at b h l =
    let p : List ℕ = part s k n in
    let m : ℕ = at + length b in
    let d : List ℕ = drop (k + n) s in
    let ep : length p ≡ n = length_part s k n h in
    let long : k + length (splice p at b) ≡ k + n = ap (λ (j : ℕ). k + j) (length-splice p at b (omega arith) ∙ ep) in
    let em : k + m ≡ k + at + length b = omega arith in
    let shift : take k s ++ (splice p at b ++ d) ≡ (take k s ++ take at p) ++ (b ++ (drop m p ++ d)) = simp append_assoc in
    ap (λ (j : ℕ). take k s ++ (splice p at b ++ drop j s)) long
    ∙ shift
    ∙ ap (λ (x : List ℕ). x ++ (b ++ (drop m p ++ d))) (part-front s k n at (omega arith))
    ∙ ap (λ (x : List ℕ). take (k + at) s ++ (b ++ x)) (part-rest s k n m h l ∙ ap (λ (j : ℕ). drop j s) em)

-- ---- numbers

-- every byte is below 256
abbrev pub AllBytes : List ℕ → Type 0
AllBytes b = (i : ℕ) → get_or b i 0 < 256

-- the front of bytes is bytes (what is past the end counts as 0)
pub bytes_take : (n : ℕ) (s : List ℕ) → AllBytes s → AllBytes (take n s)
bytes_take zero s h i = omega arith
bytes_take (suc n) [] h i = omega arith
bytes_take (suc n) (x ∷ s) h zero = h 0
bytes_take (suc n) (x ∷ s) h (suc i) = bytes_take n s (λ j. h (suc j)) i

-- so is the rest
pub bytes_drop : (n : ℕ) (s : List ℕ) → AllBytes s → AllBytes (drop n s)
bytes_drop n s h i = rw (get_or-drop n s i 0) (h (n + i))

-- so is a concatenation
pub bytes-append : (a b : List ℕ) → AllBytes a → AllBytes b → AllBytes (a ++ b)
bytes-append [] b ha hb i = hb i
bytes-append (x ∷ a) b ha hb zero = ha 0
bytes-append (x ∷ a) b ha hb (suc i) = bytes-append a b (λ j. ha (suc j)) hb i

-- so is a part
pub bytes-part : (s : List ℕ) (at w : ℕ) → AllBytes s → AllBytes (part s at w)
unfolding part
bytes-part s at w h = bytes_take w (drop at s) (bytes_drop at s h)

-- so is a splice
pub bytes-splice : (s : List ℕ) (at : ℕ) (b : List ℕ) → AllBytes s → AllBytes b → AllBytes (splice s at b)
unfolding splice
bytes-splice s at b hs hb =
    bytes-append (take at s) (b ++ drop (at + length b) s) (bytes_take at s hs)
    (bytes-append b (drop (at + length b) s) hb (bytes_drop (at + length b) s hs))

-- a number is below 256 to the count of its bytes
pub value-below : (b : List ℕ) → AllBytes b → value b < 256 ^ length b
unfolding value
value-below [] h = omega arith
value-below (x ∷ b) h = omega (arith, pow-suc 256 (length b), h 0, value-below b (λ i. h (suc i)))

-- the value of a concatenation
pub value-append : (a b : List ℕ) → value (a ++ b) ≡ value a + 256 ^ length a * value b
unfolding value
value-append [] b = omega arith
value-append (x ∷ a) b =
    let up : 256 ^ suc (length a) * value b ≡ 256 * (256 ^ length a * value b) = rw (pow-suc 256 (length a)) (omega arith) in
    omega (arith, value-append a b)

-- a number's digits are as many as were asked for
pub length_digits : (w n : ℕ) → length (digits w n) ≡ w
unfolding digits
length_digits zero n = refl
length_digits (suc w) n = ap suc (length_digits w (n / 256))

-- each of them is a byte
pub digits-below : (w n : ℕ) → AllBytes (digits w n)
unfolding digits
digits-below zero n i = omega arith
digits-below (suc w) n zero = omega arith
digits-below (suc w) n (suc i) = digits-below w (n / 256) i

-- the digits of a list's value are the list
pub digits_value : (b : List ℕ) → AllBytes b → digits (length b) (value b) ≡ b
unfolding value digits
digits_value [] h = refl
digits_value (x ∷ b) h =
    let l : x < 256 = h 0 in
    let low : (x + 256 * value b) % 256 ≡ x = omega arith in
    let high : (x + 256 * value b) / 256 ≡ value b = omega arith in
    let rest : digits (length b) (value b) ≡ b = digits_value b (λ i. h (suc i)) in
    cc

-- ---- fields

-- a field of no bytes is 0
pub field-none : (s : List ℕ) (at : ℕ) → field s at 0 ≡ 0
unfolding field part value
field-none s at = refl

-- a field by its lowest byte, in terms of take and drop
value-next : (s : List ℕ) (at w : ℕ) → value (take (suc w) (drop at s)) ≡ get_or s at 0 + 256 * value (take w (drop (suc at) s))
unfolding value
value-next [] zero w = simp take-nil
value-next [] (suc at) w = simp take-nil
value-next (x ∷ s) zero w = refl
value-next (x ∷ s) (suc at) w = value-next s at w

-- a field is its lowest byte and 256 times the field of the bytes above it; this holds past the end too, where bytes are 0
pub field_next : (s : List ℕ) (at next w : ℕ) → next ≡ at + 1 → field s at (suc w) ≡ get_or s at 0 + 256 * field s next w
unfolding field part
field_next s at next w e =
    value-next s at w ∙ ap (λ (k : ℕ). get_or s at 0 + 256 * value (take w (drop k s))) (sym (add-one at) ∙ sym e)

-- a field of 2 bytes by its bytes
pub field-2 : (s : List ℕ) (at : ℕ) → field s at 2 ≡ get_or s at 0 + 256 * get_or s (at + 1) 0
field-2 s at =
    omega (
      arith,
      field_next s at (at + 1) 1 (omega arith),
      field_next s (at + 1) (at + 2) 0 (omega arith),
      field-none s (at + 2),
    )

-- a field of 4 bytes by its bytes
pub field-4 : (s : List ℕ) (at : ℕ) → field s at 4 ≡ get_or s at 0 + 256 * get_or s (at + 1) 0 + 65536 * get_or s (at + 2) 0 + 16777216 * get_or s (at + 3) 0
field-4 s at =
    omega (
      arith,
      field_next s at (at + 1) 3 (omega arith),
      field_next s (at + 1) (at + 2) 2 (omega arith),
      field_next s (at + 2) (at + 3) 1 (omega arith),
      field_next s (at + 3) (at + 4) 0 (omega arith),
      field-none s (at + 4),
    )

-- a field of v + w bytes is that of the lower v and 256 ^ v times that of the upper w
pub field-split : (s : List ℕ) (at v w : ℕ) → field s at (v + w) ≡ field s at v + 256 ^ v * field s (at + v) w
field-split s at zero w = rw (zero-add w, add-zero at) (omega (arith, field-none s at))
field-split s at (suc v) w =
    let up : 256 ^ suc v * field s (at + suc v) w ≡ 256 * (256 ^ v * field s (at + suc v) w) = rw (pow-suc 256 v) (omega arith) in
    let e : at + 1 + v ≡ at + suc v = omega arith in
    let above = rw e at (field-split s (at + 1) v w) in
    rw (suc-add v w) (omega (arith, field_next s at (at + 1) (v + w) refl, field_next s at (at + 1) v refl))

-- a field where the bytes are the same
pub field-same : (s t : List ℕ) (at from w : ℕ) → part s at w ≡ part t from w → field s at w ≡ field t from w
unfolding field
field-same s t at from w e = ap value e

-- a field of a part
pub field-part : (s : List ℕ) (at w from v : ℕ) → from + v ≤ w → field (part s at w) from v ≡ field s (at + from) v
field-part s at w from v h = field-same (part s at w) s from (at + from) v (part-part s at w from v h)

-- a field of the front of a list
pub field-take : (s : List ℕ) (n at w : ℕ) → at + w ≤ n → field (take n s) at w ≡ field s at w
field-take s n at w h = field-same (take n s) s at at w (part-take s n at w h)

-- a field of the rest of a list
pub field-drop : (s : List ℕ) (k at w : ℕ) → field (drop k s) at w ≡ field s (k + at) w
field-drop s k at w = field-same (drop k s) s at (k + at) w (part-drop s k at w)

-- a field of a concatenation that lies in its first list
pub field-append : (a b : List ℕ) (at w : ℕ) → at + w ≤ length a → field (a ++ b) at w ≡ field a at w
field-append a b at w h = field-same (a ++ b) a at at w (part-append a b at w h)

-- and one that lies in its second
pub field-append-add : (a b : List ℕ) (at w : ℕ) → field (a ++ b) (length a + at) w ≡ field b at w
field-append-add a b at w = field-same (a ++ b) b (length a + at) at w (part-append-add a b at w)

-- a field of what was spliced in
pub field-splice-inside : (s : List ℕ) (at : ℕ) (b : List ℕ) (from w : ℕ) → at + length b ≤ length s → from + w ≤ length b → field (splice s at b) (at + from) w ≡ field b from w
field-splice-inside s at b from w h l = field-same (splice s at b) b (at + from) from w (part-splice-inside s at b from w h l)

-- a field that ends before the spliced bytes is kept
pub field-splice-before : (s : List ℕ) (at : ℕ) (b : List ℕ) (from w : ℕ) → at + length b ≤ length s → from + w ≤ at → field (splice s at b) from w ≡ field s from w
field-splice-before s at b from w h l = field-same (splice s at b) s from from w (part-splice-before s at b from w h l)

-- a field that begins after the spliced bytes is kept
pub field-splice-after : (s : List ℕ) (at : ℕ) (b : List ℕ) (from w : ℕ) → at + length b ≤ length s → at + length b ≤ from → field (splice s at b) from w ≡ field s from w
field-splice-after s at b from w h l = field-same (splice s at b) s from from w (part-splice-after s at b from w h l)

-- a number that was written reads back
pub number-back : (s : List ℕ) (at w n : ℕ) → n < 256 ^ w → at + w ≤ length s → field (splice s at (digits w n)) at w ≡ n
unfolding field
number-back s at w n l h = ap value (part-splice-width s at w (digits w n) (length_digits w n) h) ∙ value-digits w n l

-- a field of bytes is below 256 to its width
pub field_below : (s : List ℕ) (at w : ℕ) → AllBytes s → at + w ≤ length s → field s at w < 256 ^ w
unfolding field
field_below s at w a h =
    rw (length_part s at w h) at (value-below (part s at w) (bytes-part s at w a))

-- the digits of a field are its bytes
pub digits-field : (s : List ℕ) (at w : ℕ) → AllBytes s → at + w ≤ length s → digits w (field s at w) ≡ part s at w
unfolding field
digits-field s at w a h =
    ap (λ (k : ℕ). digits k (value (part s at w))) (sym (length_part s at w h)) ∙ digits_value (part s at w) (bytes-part s at w a)

-- ---- numbers as std's methods make them

-- the number that the first bytes are
pub from_le_bytes-field : (k : ℕ) (b : List ℕ) → sum_through (λ i. byte_worth i (get_or b i 0)) k ≡ field b 0 (suc k)
from_le_bytes-field zero b = omega (arith, field_next b 0 1 0 refl, field-none b 1)
from_le_bytes-field (suc k) b =
    let e : suc k + 1 ≡ suc (suc k) = omega arith in
    let last : field b (suc k) 1 ≡ get_or b (suc k) 0 = omega (arith, field_next b (suc k) (suc k + 1) 0 refl, field-none b (suc k + 1)) in
    let up : get_or b (suc k) 0 * 256 ^ suc k ≡ 256 ^ suc k * field b (suc k) 1 = rw last (mul_comm (get_or b (suc k) 0) (256 ^ suc k)) in
    omega (arith, up, from_le_bytes-field k b, rw (zero-add, e) at (field-split b 0 (suc k) 1))

-- byte i of a number
byte_at-div : (i n : ℕ) → byte_at i n ≡ n / 256 ^ i % 256
byte_at-div zero n = omega arith
byte_at-div (suc i) n = refl

-- the bytes of a number, from byte i upward
pub bytes-digits : (i k n : ℕ) → bytes_low_first i k n ≡ digits k (n / 256 ^ i)
unfolding digits
bytes-digits i zero n = refl
bytes-digits i (suc k) n =
    let first : byte_at i n ≡ n / 256 ^ i % 256 = byte_at-div i n in
    let up : 256 ^ i * 256 ≡ 256 ^ suc i = omega (arith, pow-suc 256 i) in
    let rest : n / 256 ^ suc i ≡ n / 256 ^ i / 256 = sym (rw up at (div-div-eq-div-mul n (256 ^ i) 256)) in
    rw (first, bytes-digits (suc i) k n, rest) refl

-- a field by the number that its bytes, copied, are
pub field-copied : (k : ℕ) (s b : List ℕ) (at n : ℕ) → n ≡ suc k → b ≡ take n (drop at s) → sum_through (λ i. byte_worth i (get_or b i 0)) k ≡ field s at (suc k)
unfolding part
field-copied k s b at n e h =
    let p : b ≡ part s at (suc k) = h ∙ ap (λ (j : ℕ). take j (drop at s)) e in
    let z : at + 0 ≡ at = omega arith in
    from_le_bytes-field k b
    ∙ ap (λ (x : List ℕ). field x 0 (suc k)) p
    ∙ field-part s at (suc k) 0 (suc k) (omega arith)
    ∙ ap (λ (j : ℕ). field s j (suc k)) z

-- a number's bytes, lent a place of as many and put into it, are spliced in
pub digits-lent : (w : ℕ) (s b : List ℕ) (at n x : ℕ) → n ≡ w → b ≡ bytes_low_first 0 w x → take at s ++ (b ++ drop n (drop at s)) ≡ splice s at (digits w x)
digits-lent w s b at n x e h =
    let z : x / 256 ^ 0 ≡ x = omega arith in
    let d : b ≡ digits w x = h ∙ rw z at (bytes-digits 0 w x) in
    let l : length b ≡ n = ap (λ (y : List ℕ). length y) d ∙ length_digits w x ∙ sym e in
    lent_back s b at n l ∙ ap (λ (y : List ℕ). splice s at y) d

-- ---- rows of stores

-- ---- a regid's bytes

-- an identifier has 23 bytes
pub length-identifier : (name : List ℕ) → length (identifier name) ≡ 23
unfolding identifier
length-identifier name = simp (length-take, length-append) (omega arith)

-- a regid has 32 bytes
pub length-regid : (name : List ℕ) → length (regid name) ≡ 32
unfolding regid
length-regid name = ap suc (length-append (identifier name) (replicate 8 0) ∙ ap (λ (k : ℕ). k + 8) (length-identifier name))

-- all but its suffix are the flags and the identifier
pub regid-front : (name : List ℕ) → take 24 (regid name) ≡ 0 ∷ identifier name
unfolding regid
regid-front name = ap (λ (l : List ℕ). 0 ∷ l) (take_at (identifier name) (replicate 8 0) 23 (length-identifier name))

-- ---- same

-- a list is the same as itself
pub same_refl : (a : List ℕ) → same a a ≡ true
unfolding same
same_refl [] = refl
same_refl (x ∷ a) = simp (eq-eqb x x refl, same_refl a)

-- equal lists are the same
pub same-equal : (a b : List ℕ) → a ≡ b → same a b ≡ true
same-equal a b e = ap (same a) (sym e) ∙ same_refl a

-- lists that are the same are equal
pub same_true : (a b : List ℕ) → same a b ≡ true → a ≡ b
unfolding same
same_true [] [] e = refl
same_true [] (y ∷ b) e = absurd (false≢true e)
same_true (x ∷ a) [] e = absurd (false≢true e)
same_true (x ∷ a) (y ∷ b) e =
    let both = (and-eq-true_iff (eqb x y) (same a b)).0 e in
    let head : x ≡ y = eqb-true x y both.0 in
    let tail : a ≡ b = same_true a b both.1 in
    cc

-- one more of each: the same so far, and these two alike
pub same-next : (a b : List ℕ) (n : ℕ) → n < length a → n < length b → same (take (suc n) a) (take (suc n) b) ≡ (same (take n a) (take n b) && eqb (get_or a n 0) (get_or b n 0))
unfolding same
same-next [] b n h k = absurd (omega arith)
same-next (x ∷ a) [] n h k = absurd (omega arith)
same-next (x ∷ a) (y ∷ b) zero h k = and_comm (eqb x y) true
same-next (x ∷ a) (y ∷ b) (suc n) h k =
    ap (λ (t : Bool). eqb x y && t) (same-next a b n (omega arith) (omega arith)) ∙ sym (and_assoc (eqb x y) (same (take n a) (take n b)) (eqb (get_or a n 0) (get_or b n 0)))

-- the same of a part of s and the front of t
pub part-same-next : (s t : List ℕ) (at n : ℕ) → at + n < length s → n < length t → same (part s at (n + 1)) (take (n + 1) t) ≡ (same (part s at n) (take n t) && eqb (get_or s (at + n) 0) (get_or t n 0))
unfolding part
part-same-next s t at n h k =
    ap (λ (m : ℕ). same (take m (drop at s)) (take m t)) (add-one n)
    ∙ same-next (drop at s) t n (simp length-drop (omega arith)) k
    ∙ ap (λ (x : ℕ). same (take n (drop at s)) (take n t) && eqb x (get_or t n 0)) (get_or-drop at s n 0)

-- lists that differ are not the same
pub same_false : (a b : List ℕ) → (a ≡ b → ⊥) → same a b ≡ false
same_false a b n = false_from_ne_true (same a b) (λ e. n (same_true a b e))

-- lists that differ at some index are not the same
pub same-false-of-difference : (a b : List ℕ) (i : ℕ) → (get_or a i 0 ≡ get_or b i 0 → ⊥) → same a b ≡ false
same-false-of-difference a b i n = same_false a b (λ e. n (ap (λ (l : List ℕ). get_or l i 0) e))

-- lists of other lengths are not the same
pub same-false-of-length : (a b : List ℕ) → (length a ≡ length b → ⊥) → same a b ≡ false
same-false-of-length a b n = same_false a b (λ e. n (ap (λ (l : List ℕ). length l) e))

-- what std's == of bytes says
pub same_eq : (a b : List ℕ) → pointwise nat_eq a b ≡ same a b
unfolding same
same_eq [] [] = refl
same_eq [] (y ∷ b) = refl
same_eq (x ∷ a) [] = refl
same_eq (x ∷ a) (y ∷ b) = ap (λ (t : Bool). eqb x y && t) (same_eq a b)

-- fronts that are equal, with one more element that is
pub front-next : (a b : List ℕ) (i : ℕ) → i < length a → i < length b → get_or a i 0 ≡ get_or b i 0 → take i a ≡ take i b → take (i + 1) a ≡ take (i + 1) b
front-next a b i ha hb e f = rw (add-one i, take-suc a i 0 ha, take-suc b i 0 hb, e, f)

-- a part that differs from a front at some index
pub part-differs : (s t : List ℕ) (at w i : ℕ) → i < w → (get_or s (at + i) 0 ≡ get_or t i 0 → ⊥) → same (part s at w) (take w t) ≡ false
part-differs s t at w i h n =
    same-false-of-difference (part s at w) (take w t) i (λ e. n (sym (get_or-part s at w i h) ∙ e ∙ get_or-take w t i 0 h))

-- ---- a regid read

-- the regid of a name at `at`, told by the bytes that are written for it
pub regid-told : (s : List ℕ) (at : ℕ) (name : List ℕ) → same (part s at 24) (take 24 (regid name)) ≡ has_regid s at name
unfolding has_regid
regid-told s at name = ap (same (part s at 24)) (regid-front name)

-- a difference in the flags or the identifier
pub regid-differs : (s : List ℕ) (at : ℕ) (name : List ℕ) (i : ℕ) → i < 24 → (get_or s (at + i) 0 ≡ get_or (regid name) i 0 → ⊥) → has_regid s at name ≡ false
regid-differs s at name i h n = sym (regid-told s at name) ∙ part-differs s (regid name) at 24 i h n

-- flags and identifier as they are written
pub regid-agrees : (s : List ℕ) (at : ℕ) (name : List ℕ) → part s at 24 ≡ take 24 (regid name) → has_regid s at name ≡ true
unfolding has_regid
regid-agrees s at name e = same-equal (part s at 24) (0 ∷ identifier name) (e ∙ regid-front name)

-- a regid by its first 24 bytes, wherever they stand
pub regid-same : (s t : List ℕ) (at from : ℕ) (name : List ℕ) → part s at 24 ≡ part t from 24 → has_regid s at name ≡ has_regid t from name
unfolding has_regid
regid-same s t at from name e = ap (λ (x : List ℕ). same x (0 ∷ identifier name)) e

-- a regid that was written reads back
pub regid-back : (s : List ℕ) (at : ℕ) (name : List ℕ) → at + 32 ≤ length s → has_regid (splice s at (regid name)) at name ≡ true
unfolding part
regid-back s at name h =
    let l : length (regid name) ≡ 32 = length-regid name in
    regid-agrees (splice s at (regid name)) at name
    (ap (λ (j : ℕ). part (splice s at (regid name)) j 24) (sym (add-zero at))
    ∙ part-splice-inside s at (regid name) 0 24 (omega arith) (omega arith))

-- ---- loops that write

-- t is s with the first i of the bytes b put in from `at` on
pub record Copying (s : List ℕ) (at : ℕ) (b t : List ℕ) (i : ℕ) : Type 0 where
  pub within : i ≤ length b
  pub long : length t ≡ length s
  pub copied : t ≡ paste s at b i

-- nothing is put in yet
pub copying-first : (s : List ℕ) (at : ℕ) (b : List ℕ) → Copying s at b s 0
copying-first s at b = record { within = omega arith; long = refl; copied = paste-zero s at b }

-- one byte more
pub copying-next : (s : List ℕ) (at : ℕ) (b t : List ℕ) (i v : ℕ) → at + i < length s → i < length b → v ≡ get_or b i 0 → Copying s at b t i → Copying s at b (set t (at + i) v) (i + 1)
copying-next s at b t i v hs hb e c =
    record {
      within = omega arith;
      long = length-set t (at + i) v ∙ c.long;
      copied = rw (add-one i, e, c.copied) (paste-suc s at b i 0 hs hb);
    }

-- all of b: a splice
pub copying-last : (s : List ℕ) (at : ℕ) (b t : List ℕ) (i : ℕ) → length b ≤ i → Copying s at b t i → t ≡ splice s at b
unfolding splice
copying-last s at b t i h c =
    let e : i ≡ length b = omega arith in
    c.copied ∙ rw (e, take-length b) (append_assoc (take at s) b (drop (at + length b) s))

-- zeros that are left behind the first k
pub drop-zeros : (k n : ℕ) → drop {A = ℕ} k (replicate n 0) ≡ replicate (n - k) 0
drop-zeros k n = drop-replicate k n 0
