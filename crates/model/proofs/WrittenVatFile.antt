-- The sizes of a VAT as it is written, and its file: it is one as it is read. Assumes nothing.
use Prim.Native.Nat.{ℕ, zero, suc, ◌+◌, ◌-◌, ◌*◌, ◌%◌, ◌^◌, ◌≤◌, ◌<◌}
use mathlib.Core.Path.{◌≡◌, refl, ap, ◌∙◌}
use mathlib.Core.Bool.{Bool, true, false, ◌||◌}
use mathlib.Core.List.{List, [], ◌∷◌, ◌++◌}
use native.Mathlib.Omega.{arith}
use lib.Dec.{eqb, ltb}
use lib.ListN.{length, length-append, length-replicate}
use borrow.Author.Tests.{ltb-true, eqb-true, lt-ltb, le-ltb, le-leb, eq-eqb}
use Rattle.fields.specs.Bytes.{part}
use Rattle.fields.specs.Number.{digits, field, words, quads}
use Rattle.fields.specs.Regid.{regid, has_regid}
use Rattle.fields.proofs.Laws.{part-append, part-append-add, field-append-add, length_digits, length-regid, regid-agrees}
use Rattle.model.specs.Vat.{vat_name, none, file_fits, count_of, entries_of, previous_of, below_or_none, all_below, blocks_in, table_fits}
use Rattle.model.specs.VatWritten.{file_bytes, data_sectors, written_file, filled, written_data}
use Rattle.fields.proofs.Words.{AllWords, field-digits, length-quads, words-quads}
use Rattle.model.proofs.Basics.{and_first, and_second, both, by-lt}

-- ---- tests

-- ---- small numbers

-- embedded, no sector holds data
pub embedded-none : (n : ℕ) → 176 + file_bytes n < 2048 → data_sectors n ≡ 0
unfolding data_sectors
embedded-none n h = rw (lt-ltb (176 + file_bytes n) 2048 h)

-- otherwise as many as the file fills
pub outside-blocks : (n : ℕ) → 2048 ≤ 176 + file_bytes n → data_sectors n ≡ blocks_in (file_bytes n)
unfolding data_sectors
outside-blocks n h = rw (le-ltb (176 + file_bytes n) 2048 h)

-- at most nine sectors hold the data of as many entries as there may be
pub data-sectors-most : (n : ℕ) → n ≤ 4096 → data_sectors n ≤ 9
unfolding file_bytes blocks_in
data-sectors-most n h =
    by-lt (176 + file_bytes n) 2048
    (λ l. omega (arith, embedded-none n l))
    (λ l. omega (arith, outside-blocks n l))

-- more entries take no fewer sectors
pub data-sectors-mono : (n m : ℕ) → n ≤ m → data_sectors n ≤ data_sectors m
unfolding file_bytes blocks_in
data-sectors-mono n m h =
    by-lt (176 + file_bytes n) 2048
    (λ l. omega (arith, embedded-none n l))
    (λ l. omega (arith, outside-blocks n l, outside-blocks m (omega arith)))

-- ---- lengths

-- a file of N entries has 4 N + 36 bytes
pub length-file : (t : List ℕ) (previous : ℕ) → length (written_file t previous) ≡ file_bytes (length t)
unfolding written_file file_bytes
length-file t previous =
    simp (length-append, length-quads, length-regid, length_digits) (omega arith)

-- what is filled up to n bytes has n
length-filled : (n : ℕ) (b : List ℕ) → length b ≤ n → length (filled n b) ≡ n
unfolding filled
length-filled n b h = simp (length-append, length-replicate) (omega arith)

-- the data is whole sectors, where there is any
pub length-data : (t : List ℕ) (previous : ℕ) → 1 ≤ data_sectors (length t) → length (written_data t previous) ≡ 2048 * data_sectors (length t)
unfolding written_data file_bytes blocks_in
length-data t previous h =
    by-lt (176 + file_bytes (length t)) 2048
    (λ l. absurd (omega (arith, embedded-none (length t) l)))
    (λ l. length-filled (2048 * data_sectors (length t)) (written_file t previous)
    (omega (arith, length-file t previous, outside-blocks (length t) l)))

-- so it has bytes for each of them
pub data-enough : (t : List ℕ) (previous : ℕ) → 2048 * data_sectors (length t) ≤ length (written_data t previous)
data-enough t previous = by-lt 0 (data_sectors (length t)) (λ h. omega (arith, length-data t previous h)) (λ h. omega arith)

-- ---- the file

-- what is below k or none fits 4 bytes
below_word : (k e : ℕ) → k < 1048576 → below_or_none k e ≡ true → e < 2 ^ 32
unfolding below_or_none none
below_word k e small h = go (eqb e none) refl h
  where
    go : (b : Bool) → eqb e none ≡ b → b || ltb e k ≡ true → e < 2 ^ 32
    go true q r = omega (arith, eqb-true e none q)
    go false q r = omega (arith, ltb-true e k r)

-- and so do all of them
all_words : (k : ℕ) (t : List ℕ) → k < 1048576 → all_below k t ≡ true → AllWords t
unfolding all_below
all_words k [] small h i = omega arith
all_words k (e ∷ t) small h zero = below_word k e small (and_first (below_or_none k e) (all_below k t) h)
all_words k (e ∷ t) small h (suc i) = all_words k t small (and_second (below_or_none k e) (all_below k t) h) i

-- the regid stands straight after the last entry
file-regid : (t : List ℕ) (previous : ℕ) → has_regid (written_file t previous) (length (written_file t previous) - 36) vat_name ≡ true
unfolding written_file file_bytes part
file-regid t previous =
    let r : List ℕ = regid vat_name ++ digits 4 previous in
    let e : length (written_file t previous) - 36 ≡ length (quads t) + 0 = omega (arith, length-file t previous, length-quads t) in
    regid-agrees (written_file t previous) (length (written_file t previous) - 36) vat_name
    (ap (λ (j : ℕ). part (quads t ++ r) j 24) e
    ∙ part-append-add (quads t) r 0 24
    ∙ part-append (regid vat_name) (digits 4 previous) 0 24 (omega (arith, length-regid vat_name)))

-- the file is as long as one is, and has its regid
pub file-fits : (t : List ℕ) (previous : ℕ) → file_fits (written_file t previous) ≡ true
unfolding file_fits file_bytes
file-fits t previous =
    both (le-leb 36 (length (written_file t previous)) (omega (arith, length-file t previous)))
    (both
    (eq-eqb ((length (written_file t previous) - 36) % 4) 0 (omega (arith, length-file t previous)))
    (file-regid t previous))

-- its number of entries
pub file-count : (t : List ℕ) (previous : ℕ) → count_of (written_file t previous) ≡ length t
unfolding count_of file_bytes
file-count t previous = omega (arith, length-file t previous)

-- its entries
pub file-entries : (t : List ℕ) (previous k : ℕ) → all_below k t ≡ true → k < 1048576 → entries_of (written_file t previous) ≡ t
unfolding entries_of written_file
file-entries t previous k below small =
    ap (words (written_file t previous) 0) (file-count t previous)
    ∙ words-quads t (regid vat_name ++ digits 4 previous) (all_words k t small below)

-- its previous ICB
pub file-previous : (t : List ℕ) (previous k : ℕ) → below_or_none k previous ≡ true → k < 1048576 → previous_of (written_file t previous) ≡ previous
unfolding previous_of written_file file_bytes
file-previous t previous k before small =
    let r : List ℕ = regid vat_name in
    let e : length (written_file t previous) - 4 ≡ length (quads t) + (length r + 0) =
    omega (arith, length-file t previous, length-quads t, length-regid vat_name) in
    ap (λ (j : ℕ). field (quads t ++ (r ++ digits 4 previous)) j 4) e
    ∙ field-append-add (quads t) (r ++ digits 4 previous) (length r + 0) 4
    ∙ field-append-add r (digits 4 previous) 0 4
    ∙ field-digits 4 previous (below_word k previous small before)

-- all that is asked of the file of an ICB at k
pub file-table : (t : List ℕ) (previous k : ℕ) → all_below k t ≡ true → below_or_none k previous ≡ true → k < 1048576 → table_fits k (written_file t previous) ≡ true
unfolding table_fits
file-table t previous k below before small =
    both (file-fits t previous)
    (both
    (ap (below_or_none k) (file-previous t previous k before small) ∙ before)
    (ap (all_below k) (file-entries t previous k below small) ∙ below))
