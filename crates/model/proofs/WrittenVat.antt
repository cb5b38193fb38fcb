-- A VAT as it is written (specs/VatWritten.antt) is one as it is read (specs/Vat.antt), and its data never passes as an ICB.
-- In every law t are the entries, `previous` is the previous ICB and k the logical block of the new one; D is `data_sectors (length t)`.
-- Assumes nothing.
use Prim.Native.Nat.{ℕ, zero, suc, ◌+◌, ◌-◌, ◌*◌, ◌/◌, ◌%◌, ◌≤◌, ◌<◌}
use mathlib.Core.Path.{◌≡◌, refl, sym, ap, ap₂, ◌∙◌}
use mathlib.Core.Bool.{Bool, true, false, ◌&&◌, ◌||◌, and-false}
use mathlib.Core.List.{List, [], ◌∷◌, ◌++◌, append_assoc}
use native.Mathlib.Omega.{arith}
use lib.Dec.{eqb, ltb}
use lib.ListN.{length, get_or, replicate}
use borrow.Author.Tests.{ltb-true, eqb-true, lt-ltb, le-ltb, lt-leb}
use Rattle.fields.specs.Bytes.{part}
use Rattle.fields.specs.Number.{value, digits, field, words, quads}
use Rattle.fields.specs.Regid.{identifier, regid}
use Rattle.fields.proofs.Laws.{field-part}
use Rattle.model.specs.Vat.{vat_name, none, below_or_none, all_below, tag_fits}
use Rattle.model.specs.VatWritten.{file_bytes, data_sectors, written_file, filled, written_data}
use Rattle.fields.proofs.Words.{quads-append, quads-zeros, field-upper}
use Rattle.model.proofs.Basics.{and_first, and_second, both, by-lt}
pub use Rattle.model.proofs.WrittenVatFile.{data-sectors-most, data-sectors-mono, length-file, length-data, data-enough, file-fits, file-count, file-entries, file-previous, file-table}
pub use Rattle.model.proofs.WrittenVatIcb.{length-icb, icb-file, icb-passes}

-- ---- the data never passes

-- the upper half of a number of 4 bytes is not the length of a CRC
clear : ℕ → Bool
clear x = ltb (x / 65536 % 65536) 160 || ltb 2032 (x / 65536 % 65536)

-- that of every number in a list
all_clear : List ℕ → Bool
all_clear [] = true
all_clear (x ∷ l) = clear x && all_clear l

-- two such lists in a row
clear-append : (a b : List ℕ) → all_clear a ≡ true → all_clear b ≡ true → all_clear (a ++ b) ≡ true
unfolding all_clear
clear-append [] b ha hb = hb
clear-append (x ∷ a) b ha hb =
    both (and_first (clear x) (all_clear a) ha) (clear-append a b (and_second (clear x) (all_clear a) ha) hb)

-- zeros are such
clear-zeros : (n : ℕ) → all_clear (replicate n 0) ≡ true
unfolding all_clear clear
clear-zeros zero = refl
clear-zeros (suc n) = clear-zeros n

-- each number of such a list, and what is past its end
clear_at : (l : List ℕ) (i : ℕ) → all_clear l ≡ true → clear (get_or l i 0) ≡ true
unfolding all_clear clear
clear_at [] i h = refl
clear_at (x ∷ l) zero h = and_first (clear x) (all_clear l) h
clear_at (x ∷ l) (suc i) h = clear_at l i (and_second (clear x) (all_clear l) h)

-- what is below k or none is such: its upper half is at most 15, or 65,535
clear-below : (k e : ℕ) → k < 1048576 → below_or_none k e ≡ true → clear e ≡ true
unfolding below_or_none none clear
clear-below k e small h = go (eqb e none) refl h
  where
    go : (b : Bool) → eqb e none ≡ b → b || ltb e k ≡ true → clear e ≡ true
    go true q r = ap clear (eqb-true e none q)
    go false q r =
        let u : e / 65536 % 65536 < 160 = omega (arith, ltb-true e k r) in
        ap (λ (b : Bool). b || ltb 2032 (e / 65536 % 65536)) (lt-ltb (e / 65536 % 65536) 160 u)

-- and so are all entries
clear-entries : (k : ℕ) (t : List ℕ) → k < 1048576 → all_below k t ≡ true → all_clear t ≡ true
unfolding all_clear all_below
clear-entries k [] small h = refl
clear-entries k (e ∷ t) small h =
    both (clear-below k e small (and_first (below_or_none k e) (all_below k t) h))
    (clear-entries k t small (and_second (below_or_none k e) (all_below k t) h))

-- the eight numbers of the regid
name_words : List ℕ
name_words = words (regid vat_name) 0 8

-- the regid is their bytes
name-quads : quads name_words ≡ regid vat_name
unfolding name_words words quads regid identifier vat_name field part value digits
name-quads = refl

-- none has the length of a CRC for its upper half
name-clear : all_clear name_words ≡ true
unfolding name_words words regid identifier vat_name field part value all_clear clear
name-clear = refl

-- an upper half that is not below 160 is above 2,032
clear_apart : (x : ℕ) → clear x ≡ true → 160 ≤ x / 65536 % 65536 → 2032 < x / 65536 % 65536
unfolding clear
clear_apart x h l =
    ltb-true 2032 (x / 65536 % 65536) (ap (λ (b : Bool). b || ltb 2032 (x / 65536 % 65536)) (sym (le-ltb (x / 65536 % 65536) 160 l)) ∙ h)

-- a tag with such a number for its CRC length does not fit
never-fits : (k : ℕ) (b : List ℕ) (x : ℕ) → field b 10 2 ≡ x / 65536 % 65536 → clear x ≡ true → tag_fits k b ≡ false
unfolding tag_fits
never-fits k b x e h =
    by-lt (field b 10 2) 160
    (λ l. simp (lt-leb 160 (field b 10 2) l, and-false))
    (λ l. simp (lt-leb (field b 10 2) 2032 (omega (arith, clear_apart x h (omega arith))), and-false))

-- the numbers that the data is made of
data_words : List ℕ → ℕ → ℕ → List ℕ
data_words t previous n = t ++ (name_words ++ (previous ∷ replicate n 0))

-- the data is their bytes
data-quads : (t : List ℕ) (previous : ℕ) → written_data t previous ≡ quads (data_words t previous (512 * data_sectors (length t) - (length t + 9)))
unfolding written_data filled written_file data_words file_bytes quads
data-quads t previous =
    let n : ℕ = 512 * data_sectors (length t) - (length t + 9) in
    let zeros : List ℕ = replicate (4 * n) 0 in
    let e : 2048 * data_sectors (length t) - length (written_file t previous) ≡ 4 * n = omega (arith, length-file t previous) in
    let inner : quads (name_words ++ (previous ∷ replicate n 0)) ≡ regid vat_name ++ (digits 4 previous ++ zeros) =
    quads-append name_words (previous ∷ replicate n 0)
    ∙ ap₂ (λ (a b : List ℕ). a ++ (digits 4 previous ++ b)) name-quads (quads-zeros n) in
    let outer : quads (data_words t previous n) ≡ quads t ++ (regid vat_name ++ (digits 4 previous ++ zeros)) =
    quads-append t (name_words ++ (previous ∷ replicate n 0)) ∙ ap (λ (b : List ℕ). quads t ++ b) inner in
    let shift : written_file t previous ++ zeros ≡ quads t ++ (regid vat_name ++ (digits 4 previous ++ zeros)) = simp append_assoc in
    ap (λ (m : ℕ). written_file t previous ++ replicate m 0) e ∙ shift ∙ sym outer

-- no sector of the data passes as an ICB, at whatever block: byte 10 of a sector is the upper half of a number of 4 bytes
pub data-never : (t : List ℕ) (previous k : ℕ) → all_below k t ≡ true → below_or_none k previous ≡ true → k < 1048576 → (i k' : ℕ) → tag_fits k' (part (written_data t previous) (2048 * i) 2048) ≡ false
unfolding data_words all_clear
data-never t previous k below before small i k' =
    let n : ℕ = 512 * data_sectors (length t) - (length t + 9) in
    let w : List ℕ = data_words t previous n in
    let j : ℕ = 512 * i + 2 in
    let e : 2048 * i + 10 ≡ 4 * j + 2 = omega arith in
    never-fits k' (part (written_data t previous) (2048 * i) 2048) (get_or w j 0)
    (field-part (written_data t previous) (2048 * i) 2048 10 2 (omega arith)
    ∙ ap₂ (λ (b : List ℕ) (at : ℕ). field b at 2) (data-quads t previous) e
    ∙ field-upper w j)
    (clear_at w j
    (clear-append t (name_words ++ (previous ∷ replicate n 0)) (clear-entries k t small below)
    (clear-append name_words (previous ∷ replicate n 0) name-clear
    (both (clear-below k previous small before) (clear-zeros n)))))
