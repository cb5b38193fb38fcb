-- Laws of a lent VAT file: its tests in their order, and each answer once they are passed. Assumes nothing.
use Prim.Native.Nat.{ℕ, ◌+◌, ◌-◌, ◌*◌, ◌/◌, ◌%◌, ◌≤◌, ◌<◌}
use mathlib.Core.Path.{◌≡◌, refl, sym, ap, ◌∙◌}
use mathlib.Core.Bool.{Bool, true, false}
use mathlib.Core.List.{List}
use native.Mathlib.Omega.{arith}
use lib.Dec.{eqb}
use lib.ListN.{length, get_or}
use borrow.Author.Tests.{eq-eqb, ne_eqb, le-leb, lt-leb, leb-true}
use Rattle.fields.specs.Number.{field}
use Rattle.fields.specs.Regid.{has_regid}
use Rattle.fields.proofs.Words.{word_at}
use Rattle.refusal.specs.declared.Refusal.{Refusal}
use Rattle.refusal.specs.declared.Refusal.TheVariants.{NoTable, TooManyEntries}
use Rattle.refusal.specs.Verdict.{Verdict, answered}
use Rattle.std.specs.Prelude.{Ok, Err, Result, Option, Some, None}
use Rattle.refusal.specs.Number.{answer_number}
use Rattle.refusal.specs.Tests.{first}
use Rattle.refusal.proofs.Laws.{goes, stops, passed, stops-all, goes-all, answered-number}
use Rattle.address.specs.declared.VirtualAddress.{VirtualAddress}
use Rattle.address.specs.declared.LogicalAddress.{LogicalAddress}
use Rattle.address.specs.Translation.{entry_tests, entry_of, logical_of}
use Rattle.fields.proofs.Tests.{both, fails, holds}
use Rattle.model.specs.Disc.{Disc, sector, recorded}
use Rattle.model.specs.Vat.{vat_name, none, file_fits, count_of, entries_of, previous_of, all_below, table_fits, vat_icb, vat_file}
use Rattle.model.specs.VatWritten.{written_file}
use Rattle.model.proofs.Agree.{passed as passed-icb}
use Rattle.model.proofs.OnceOpen.{length-entries}
use Rattle.model.proofs.WrittenVatFile.{file-fits, file-count, file-entries}
use Rattle.vat_look_up.specs.File.{file_tests, look_up_verdict, looked_up, counted, block_or_none, previous_in, LooksUp, CountsEntries, ReadsPrevious}

-- ---- the tests of a file

module _ (f : List ℕ) where
  -- a file of under 36 bytes
  pub short : length f < 36 → Err NoTable ≡ first (file_tests f)
  unfolding file_fits
  short h = stops _ (sym (fails _ (lt-leb _ _ h)))

  module _ (h : 36 ≤ length f) where
    -- entries that are not of 4 bytes each
    pub uneven : ((length f - 36) % 4 ≡ 0 → ⊥) → Err NoTable ≡ first (file_tests f)
    unfolding file_fits
    uneven n = stops _ (sym (holds (le-leb _ _ h) (fails _ (ne_eqb _ _ n))))

    module _ (e : (length f - 36) % 4 ≡ 0) where
      -- another regid
      pub unnamed : has_regid f (length f - 36) vat_name ≡ false → Err NoTable ≡ first (file_tests f)
      unfolding file_fits
      unnamed q = stops _ (sym (holds (le-leb _ _ h) (holds (eq-eqb _ _ e) (sym q))))

      module _ (q : has_regid f (length f - 36) vat_name ≡ true) where
        -- a VAT file
        fits : file_fits f ≡ true
        unfolding file_fits
        fits = sym (holds (le-leb _ _ h) (holds (eq-eqb _ _ e) (sym q)))

        -- too many entries
        pub too_many : 4096 < (length f - 36) / 4 → Err TooManyEntries ≡ first (file_tests f)
        unfolding count_of
        too_many l = goes _ fits (stops _ (lt-leb _ _ l))

        -- no more than there may be
        pub judged : (length f - 36) / 4 ≤ 4096 → (Ok tt) ≡ first (file_tests f)
        unfolding count_of
        judged l = goes _ fits (goes _ (le-leb _ _ l) refl)

-- ---- a file that passed them

-- a VAT file of no more entries than there may be passes
pub passes : (f : List ℕ) → file_fits f ≡ true → count_of f ≤ 4096 → first (file_tests f) ≡ Ok tt
passes f q l = sym (goes _ q (goes _ (le-leb _ _ l) refl))

-- it has room for what follows the entries, and no more entries than there may be
pub long : (f : List ℕ) → first (file_tests f) ≡ Ok tt → (36 ≤ length f) × ((length f - 36) / 4 ≤ 4096)
unfolding file_fits count_of
long f g =
    let p = passed (file_tests f) g in
    (leb-true _ _ (both _ _ p.0).0, leb-true _ _ p.1.0)

-- there are as many entries as the length says
pub entries-long : (f : List ℕ) → length (entries_of f) ≡ (length f - 36) / 4
unfolding count_of
entries-long f = length-entries f

-- entry i is the word at 4 i
pub entry_at : (f : List ℕ) (i : ℕ) → i < length (entries_of f) → get_or (entries_of f) i 0 ≡ field f (4 * i) 4
unfolding entries_of
entry_at f i h =
    let e : 0 + 4 * i ≡ 4 * i = omega arith in
    word_at f 0 (count_of f) i (rw (length-entries f) at h) ∙ ap (λ (x : ℕ). field f x 4) e

-- ---- an entry looked up

module _ (f : List ℕ) (v : VirtualAddress) where
  -- bytes that are no VAT file, or one of too many entries
  pub not-looked : {why : Refusal} → first (file_tests f) ≡ Err why → Err why ≡ looked_up f v
  unfolding looked_up
  not-looked e =
      ap (λ (x : Verdict). answered x (entry_of (entries_of f) v)) (stops-all (file_tests f) (entry_tests (length (entries_of f)) (entries_of f) v) e)

  -- in a file that passed its tests, the translation by its entries
  pub looked : first (file_tests f) ≡ Ok tt → logical_of (entries_of f) v ≡ looked_up f v
  unfolding looked_up logical_of
  looked e =
      ap (λ (x : Verdict). answered x (entry_of (entries_of f) v))
      (goes-all (file_tests f) (entry_tests (length (entries_of f)) (entries_of f) v) _ e refl)

-- ---- the number of entries

-- bytes that are no VAT file, or one of too many entries
pub not-counted : (f : List ℕ) {why : Refusal} → first (file_tests f) ≡ Err why → Err why ≡ counted f
unfolding counted
not-counted f e = sym (ap (λ (x : Verdict). answered x (count_of f)) e)

-- by the length of a file that passed its tests
pub has-counted : (f : List ℕ) → first (file_tests f) ≡ Ok tt → Ok ((length f - 36) / 4) ≡ counted f
unfolding counted count_of
has-counted f e = sym (ap (λ (x : Verdict). answered x (count_of f)) e)

-- ---- the previous ICB

module _ (f : List ℕ) where
  -- bytes that are no VAT file, or one of too many entries
  pub not-told : {why : Refusal} → first (file_tests f) ≡ Err why → Err why ≡ previous_in f
  unfolding previous_in
  not-told e = sym (ap (λ (x : Verdict). answered x (block_or_none (eqb (previous_of f) none) (previous_of f))) e)

  module _ (g : first (file_tests f) ≡ Ok tt) (p : ℕ) (e : p ≡ field f (length f - 4) 4) where
    -- what the last 4 bytes say
    told : Ok (block_or_none (eqb p none) p) ≡ previous_in f
    unfolding previous_in previous_of
    told =
        ap (λ (x : ℕ). Ok (block_or_none (eqb x none) x)) e
        ∙ sym (ap (λ (x : Verdict). answered x (block_or_none (eqb (previous_of f) none) (previous_of f))) g)

    -- none
    pub told_none : p ≡ 0xffffffff → (Ok None) ≡ previous_in f
    unfolding none
    told_none q = sym (ap (λ (x : Bool). Ok (block_or_none x p)) (eq-eqb p none q)) ∙ told

    -- a block
    pub told-block : (p ≡ 0xffffffff → ⊥) → (Ok (Some (record { 0 = p }))) ≡ previous_in f
    unfolding none
    told-block n = sym (ap (λ (x : Bool). Ok (block_or_none x p)) (ne_eqb p none n)) ∙ told

-- ---- files of discs

-- look-up in the file that a commit writes of a table gives the table's entries
pub looked-in-written : (t : List ℕ) (previous k : ℕ) (v : VirtualAddress) → all_below k t ≡ true → k < 1048576 → length t ≤ 4096 → looked_up (written_file t previous) v ≡ logical_of t v
looked-in-written t previous k v below small few =
    sym (looked (written_file t previous) v (passes (written_file t previous) (file-fits t previous) (rw (file-count t previous) few)))
    ∙ ap (λ (l : List ℕ). logical_of l v) (file-entries t previous k below small)

-- look-up in the file of a VAT ICB that opening accepts gives the entries that opening loads
pub looked-in-found : (d : Disc) (s k : ℕ) (v : VirtualAddress) → vat_icb d s k ≡ true → count_of (vat_file d s k) ≤ 4096 → looked_up (vat_file d s k) v ≡ logical_of (entries_of (vat_file d s k)) v
unfolding vat_icb table_fits vat_file
looked-in-found d s k v here few =
    let p = passed-icb d s k (sector d (s + k)) (both (recorded d (s + k)) _ here).1 in
    sym (looked (vat_file d s k) v (passes (vat_file d s k) (both (file_fits (vat_file d s k)) _ p.table).0 few))

-- ---- the promises: of an answer that the definition gives, its number

module _ (f : List ℕ) where
  -- of a look-up
  pub looked-up-so : (v : VirtualAddress) {r : Result LogicalAddress Refusal} → r ≡ looked_up f v → LooksUp f v r
  unfolding looked_up
  looked-up-so v h = record { answer = h; number = ap answer_number h ∙ answered-number (look_up_verdict f v) (entry_of (entries_of f) v) }

  -- of the number of entries
  pub counted-so : {r : Result ℕ Refusal} → r ≡ counted f → CountsEntries f r
  unfolding counted
  counted-so h = record { answer = h; number = ap answer_number h ∙ answered-number (first (file_tests f)) (count_of f) }

  -- of the previous ICB, none included
  pub previous-so : {r : Result (Option LogicalAddress) Refusal} → r ≡ previous_in f → ReadsPrevious f r
  unfolding previous_in
  previous-so h = record { answer = h; number = ap answer_number h ∙ answered-number (first (file_tests f)) _ }
