-- A sparing table that was written reads back: its sequence, its entries, and that it fits. Assumes nothing.
use Prim.Native.Nat.{ℕ, zero, suc, ◌+◌, ◌-◌, ◌*◌, ◌/◌, ◌^◌, ◌≤◌, ◌<◌}
use mathlib.Core.Bool.{true}
use mathlib.Core.Path.{◌≡◌, refl, sym, ap, ◌∙◌}
use mathlib.Core.List.{List, [], ◌∷◌, ◌++◌, append-nil}
use native.Mathlib.Omega.{arith}
use lib.ListN.{length, replicate, length-append, length-replicate}
use borrow.Author.Tests.{eq-eqb}
use Rattle.fields.specs.Bytes.{part, same, join}
use Rattle.fields.specs.Number.{value, field, words, digits, quads}
use Rattle.fields.specs.Regid.{has_regid, identifier, regid}
use Rattle.model.specs.Vat.{none}
use Rattle.model.specs.VatWritten.{filled}
use Rattle.model.specs.Sparing.{Geometry, Entry, sparing_name, entries, flat, defective, original_fits, originals_fit, mapped_fit, entries_fit, count_in, sequence_in, table_in, named, copy_fits, written_table}
use Rattle.fields.proofs.Words.{AllWords, length-quads, words-append-add, words-quads}
use Rattle.model.proofs.Basics.{both, or_left}
use Rattle.model.proofs.SparingEntries.{entries-flat, length-flat, fits-size, fits-originals, fits-mapped, original-cases, originals-first, mapped-first}
use Rattle.model.proofs.SparingPlaces.{whole-means}

-- the first 56 bytes of a table of c entries
front : ℕ → ℕ → List ℕ
front n c = replicate 16 0 ++ (regid sparing_name ++ (digits 2 c ++ (replicate 2 0 ++ digits 4 n)))

-- the zeros after it
behind : ℕ → List ℕ → List ℕ
behind n l = replicate (2048 - length (front n (length l / 2) ++ quads l)) 0

-- a table is its first 56 bytes, its numbers, and zeros
written-parts : (n : ℕ) (l : List ℕ) → written_table n l ≡ front n (length l / 2) ++ (quads l ++ behind n l)
unfolding written_table filled join front behind regid identifier sparing_name digits
written-parts n l =
    ap (λ (q : List ℕ). front n (length l / 2) ++ (q ++ replicate (2048 - length (front n (length l / 2) ++ q)) 0)) (append-nil (quads l))

length_front : (n c : ℕ) → length (front n c) ≡ 56
unfolding front regid identifier sparing_name digits
length_front n c = refl

-- the sequence of 56 bytes and what follows
sequence-front : (n c : ℕ) (r : List ℕ) → n < 4294967296 → sequence_in (front n c ++ r) ≡ n
unfolding sequence_in field part value front regid identifier sparing_name digits
sequence-front n c r h = omega arith

-- the number of entries
count-front : (n c : ℕ) (r : List ℕ) → c < 65536 → count_in (front n c ++ r) ≡ c
unfolding count_in field part value front regid identifier sparing_name digits
count-front n c r h = omega arith

-- bytes 0 and 1
tag-front : (n c : ℕ) (r : List ℕ) → field (front n c ++ r) 0 2 ≡ 0
unfolding field part value front regid identifier sparing_name digits
tag-front n c r = refl

-- the regid
regid-front : (n c : ℕ) (r : List ℕ) → has_regid (front n c ++ r) 16 sparing_name ≡ true
unfolding has_regid same part front regid identifier sparing_name digits
regid-front n c r = refl

-- its suffix
suffix-front : (n c : ℕ) (r : List ℕ) → part (front n c ++ r) 40 8 ≡ replicate 8 0
unfolding part front regid identifier sparing_name digits
suffix-front n c r = refl

-- a table has the newer identifier, whatever it is written from
pub written-name : (n : ℕ) (l : List ℕ) → has_regid (written_table n l) 16 sparing_name ≡ true
written-name n l = ap (λ (x : List ℕ). has_regid x 16 sparing_name) (written-parts n l) ∙ regid-front n (length l / 2) (quads l ++ behind n l)

-- and zeros after it
pub written-suffix : (n : ℕ) (l : List ℕ) → part (written_table n l) 40 8 ≡ replicate 8 0
written-suffix n l = ap (λ (x : List ℕ). part x 40 8) (written-parts n l) ∙ suffix-front n (length l / 2) (quads l ++ behind n l)

-- the numbers
words-front : (n c : ℕ) (r : List ℕ) (k : ℕ) → words (front n c ++ r) 56 k ≡ words r 0 k
words-front n c r k =
    let e : length (front n c) + 0 ≡ 56 = omega (arith, length_front n c) in
    ap (λ (j : ℕ). words (front n c ++ r) j k) (sym e) ∙ words-append-add (front n c) r 0 k

-- the numbers of entries that fit are numbers of 4 bytes
original-word : (n o : ℕ) → original_fits n o ≡ true → n ≤ 1048576 → o < 2 ^ 32
unfolding none defective
original-word n o h s = original-cases n o h (λ q. omega arith) (λ q. omega arith) (λ m l. omega arith)

flat-words : (g : Geometry) (es : List Entry) → originals_fit g.span es ≡ true → mapped_fit g es ≡ true → g.sectors ≤ 1048576 → g.span ≤ 1048576 → AllWords (flat es)
unfolding flat
flat-words g [] o m c s i = omega arith
flat-words g (e ∷ l) o m c s zero =
    original-word g.span e.original (originals-first g.span e l o).0 s
flat-words g (e ∷ l) o m c s (suc zero) = omega (arith, (whole-means g e.mapped (mapped-first g e l m).0).on)
flat-words g (e ∷ l) o m c s (suc (suc i)) =
    flat-words g l
    (originals-first g.span e l o).1
    (mapped-first g e l m).3 c s i

module _ (g : Geometry) (es : List Entry) (n : ℕ) (fits : entries_fit g es ≡ true) (size : g.size ≤ 2048) (sectors : g.sectors ≤ 1048576) (span : g.span ≤ 1048576) (small : n < 4294967296) where
  half : length (flat es) / 2 ≡ length es
  half = omega (arith, length-flat es)

  room : length (front n (length (flat es) / 2) ++ quads (flat es)) ≤ 2048
  room =
      omega (
        arith,
        length-append (front n (length (flat es) / 2)) (quads (flat es)),
        length_front n (length (flat es) / 2),
        length-quads (flat es),
        length-flat es,
        fits-size g es fits,
      )

  -- a table is a sector
  pub length-written : length (written_table n (flat es)) ≡ 2048
  unfolding behind
  length-written =
      let a : List ℕ = front n (length (flat es) / 2) in
      let q : List ℕ = quads (flat es) in
      ap (λ (b : List ℕ). length b) (written-parts n (flat es))
      ∙ omega (
        arith,
        room,
        length-append a (q ++ behind n (flat es)),
        length-append q (behind n (flat es)),
        length-append a q,
        length-replicate {A = ℕ} (2048 - length (a ++ q)) 0,
      )

  -- its sequence reads back
  pub written-sequence : sequence_in (written_table n (flat es)) ≡ n
  written-sequence =
      ap sequence_in (written-parts n (flat es)) ∙ sequence-front n (length (flat es) / 2) (quads (flat es) ++ behind n (flat es)) small

  -- the number of its entries
  pub written_count : count_in (written_table n (flat es)) ≡ length es
  written_count =
      ap count_in (written-parts n (flat es))
      ∙ count-front n (length (flat es) / 2) (quads (flat es) ++ behind n (flat es)) (omega (arith, half, fits-size g es fits))
      ∙ half

  -- the entries
  pub written-table : table_in (written_table n (flat es)) ≡ flat es
  unfolding table_in
  written-table =
      let c : 2 * count_in (written_table n (flat es)) ≡ length (flat es) = omega (arith, written_count, length-flat es) in
      ap (λ (k : ℕ). words (written_table n (flat es)) 56 k) c
      ∙ ap (λ (b : List ℕ). words b 56 (length (flat es))) (written-parts n (flat es))
      ∙ words-front n (length (flat es) / 2) (quads (flat es) ++ behind n (flat es)) (length (flat es))
      ∙ words-quads (flat es) (behind n (flat es)) (flat-words g es (fits-originals g es fits) (fits-mapped g es fits) sectors span)

  -- and it fits
  pub written-fits : copy_fits g (written_table n (flat es)) ≡ true
  unfolding copy_fits named
  written-fits =
      let b : List ℕ = written_table n (flat es) in
      let r : List ℕ = quads (flat es) ++ behind n (flat es) in
      let tag : field b 0 2 ≡ 0 = ap (λ (x : List ℕ). field x 0 2) (written-parts n (flat es)) ∙ tag-front n (length (flat es) / 2) r in
      let table : entries (table_in b) ≡ es = ap entries written-table ∙ entries-flat es in
      both (eq-eqb (field b 0 2) 0 tag)
      (both (or_left _ (written-name n (flat es)))
      (ap (entries_fit g) table ∙ fits))
