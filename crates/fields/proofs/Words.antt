-- Laws of numbers of 4 bytes in a row, `quads` and `words`, and of joined lists. Assumes nothing.
use Prim.Native.Nat.{ℕ, zero, suc, ◌+◌, ◌*◌, ◌/◌, ◌%◌, ◌^◌, ◌<◌}
use mathlib.Core.Path.{◌≡◌, refl, sym, ap, ap₂, ◌∙◌}
use mathlib.Core.List.{List, [], ◌∷◌, ◌++◌, append_assoc, append-nil}
use native.Mathlib.Omega.{arith}
use lib.ListN.{length, get_or, replicate, length-append}
use lib.Seq.{drop-nil}
use Rattle.fields.specs.Bytes.{part, join}
use Rattle.fields.specs.Number.{value, digits, field, words, quads}
use Rattle.fields.proofs.Laws.{length_digits, value-digits, part-all, field-append, field-append-add}

-- every number fits 4 bytes; what is past the end counts as one that does
abbrev pub AllWords : List ℕ → Type 0
AllWords t = (i : ℕ) → get_or t i 0 < 2 ^ 32

-- a number written alone reads back
pub field-digits : (w n : ℕ) → n < 256 ^ w → field (digits w n) 0 w ≡ n
unfolding field
field-digits w n h = ap value (part-all (digits w n) w (omega (arith, length_digits w n))) ∙ value-digits w n h

-- number i of several is the field at its place
pub word_at : (s : List ℕ) (at n i : ℕ) → i < n → get_or (words s at n) i 0 ≡ field s (at + 4 * i) 4
unfolding words
word_at s at zero i h = absurd (omega arith)
word_at s at (suc n) zero h = let e : at ≡ at + 4 * 0 = omega arith in ap (λ (k : ℕ). field s k 4) e
word_at s at (suc n) (suc i) h =
    let e : at + 4 + 4 * i ≡ at + 4 * suc i = omega arith in
    word_at s (at + 4) n i (omega arith) ∙ ap (λ (k : ℕ). field s k 4) e

-- ---- quads

-- as many bytes as four times the numbers
pub length-quads : (t : List ℕ) → length (quads t) ≡ 4 * length t
unfolding quads
length-quads [] = refl
length-quads (x ∷ t) =
    length-append (digits 4 x) (quads t) ∙ omega (arith, length_digits 4 x, length-quads t)

-- the bytes of two lists in a row
pub quads-append : (a b : List ℕ) → quads (a ++ b) ≡ quads a ++ quads b
unfolding quads
quads-append [] b = refl
quads-append (x ∷ a) b =
    ap (λ (l : List ℕ). digits 4 x ++ l) (quads-append a b) ∙ sym (append_assoc (digits 4 x) (quads a) (quads b))

-- the bytes of one number
pub quads-one : (x : ℕ) → quads (x ∷ []) ≡ digits 4 x
unfolding quads
quads-one x = append-nil (digits 4 x)

-- zeros are the bytes of zeros
pub quads-zeros : (n : ℕ) → quads (replicate n 0) ≡ replicate (4 * n) 0
unfolding quads digits
quads-zeros zero = refl
quads-zeros (suc n) =
    let e : 4 * suc n ≡ suc (suc (suc (suc (4 * n)))) = omega arith in
    ap (λ (l : List ℕ). 0 ∷ 0 ∷ 0 ∷ 0 ∷ l) (quads-zeros n) ∙ ap (λ (m : ℕ). replicate m 0) (sym e)

-- the upper two bytes of the number at an index; past the end they are 0
pub field-upper : (t : List ℕ) (j : ℕ) → field (quads t) (4 * j + 2) 2 ≡ get_or t j 0 / 65536 % 65536
unfolding field part value quads digits
field-upper [] j = simp drop-nil
field-upper (x ∷ t) zero = omega arith
field-upper (x ∷ t) (suc j) =
    let e : 4 * suc j + 2 ≡ 4 + (4 * j + 2) = omega arith in
    ap (λ (i : ℕ). field (quads (x ∷ t)) i 2) e ∙ field-append-add (digits 4 x) (quads t) (4 * j + 2) 2 ∙ field-upper t j

-- ---- words

-- numbers of 4 bytes in the second of two lists
pub words-append-add : (a b : List ℕ) (at n : ℕ) → words (a ++ b) (length a + at) n ≡ words b at n
unfolding words
words-append-add a b at zero = refl
words-append-add a b at (suc n) =
    let e : length a + at + 4 ≡ length a + (at + 4) = omega arith in
    ap₂ (λ (x : ℕ) (l : List ℕ). x ∷ l) (field-append-add a b at 4)
    (ap (λ (j : ℕ). words (a ++ b) j n) e ∙ words-append-add a b (at + 4) n)

-- numbers that were written read back
pub words-quads : (t r : List ℕ) → AllWords t → words (quads t ++ r) 0 (length t) ≡ t
unfolding words quads digits
words-quads [] r h = refl
words-quads (x ∷ t) r h =
    let head : field (digits 4 x) 0 4 ≡ x = field-digits 4 x (h 0) in
    let tail : words (quads t ++ r) 0 (length t) ≡ t = words-quads t r (λ i. h (suc i)) in
    let split : quads (x ∷ t) ++ r ≡ digits 4 x ++ (quads t ++ r) = append_assoc (digits 4 x) (quads t) r in
    ap (λ (l : List ℕ). words l 0 (suc (length t))) split
    ∙ ap₂ (λ (y : ℕ) (l : List ℕ). y ∷ l) (field-append (digits 4 x) (quads t ++ r) 0 4 (omega arith) ∙ head)
    (words-append-add (digits 4 x) (quads t ++ r) 0 (length t) ∙ tail)

-- ---- joined lists

-- two joins in a row
pub join-append : (a b : List (List ℕ)) → join (a ++ b) ≡ join a ++ join b
unfolding join
join-append [] b = refl
join-append (x ∷ a) b = ap (λ (l : List ℕ). x ++ l) (join-append a b) ∙ sym (append_assoc x (join a) (join b))
