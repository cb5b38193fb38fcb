-- A lent VAT file (document 01, "The plain store", its last paragraph): "An entry can be looked up in a lent VAT file without loading a table. A
-- file that breaks the F or regid rule gives 8; 9, 12 and 13 apply." The file is read as that of an ICB is (01, "The VAT and its ICB"). That its
-- previous ICB and its entries are below k is not asked: a lent file has no k.
use Rattle.std.specs.Prelude.{ℕ, ◌≡◌, Bool, true, false, List, [], ◌∷◌, ◌++◌, length, eqb, leb, Ok, Err, Result, Option, Some, None}
use Rattle.refusal.specs.declared.Refusal.TheVariants.{NoTable, TooManyEntries}
use Rattle.refusal.specs.Verdict.{Verdict, answered}
use Rattle.refusal.specs.Number.{answer_number}
use Rattle.refusal.specs.Tests.{Test, test, first}
use Rattle.address.specs.declared.VirtualAddress.{VirtualAddress}
use Rattle.address.specs.declared.LogicalAddress.{LogicalAddress}
use Rattle.refusal.specs.declared.Refusal.{Refusal}
use Rattle.address.specs.Translation.{entry_tests, entry_of}
use Rattle.model.specs.Vat.{none, file_fits, count_of, entries_of, previous_of}

-- lines 8 and 9: F and the regid are those of a VAT file, and N is at most 4,096 (01, "Why a call is turned down")
abbrev pub file_tests : List ℕ → List Test
file_tests f = test (file_fits f) NoTable ∷ test (leb (count_of f) 4096) TooManyEntries ∷ []

-- why a look-up of virtual v is turned down: after lines 8 and 9 come 12 and 13 (01, "Why a call is turned down")
abbrev pub look_up_verdict : List ℕ → VirtualAddress → Verdict
look_up_verdict f v = first (file_tests f ++ entry_tests (length (entries_of f)) (entries_of f) v)

-- the logical address of virtual v, by the entries of the file
unfoldable pub looked_up : List ℕ → VirtualAddress → Result LogicalAddress Refusal
looked_up f v = answered (look_up_verdict f v) (entry_of (entries_of f) v)

-- N of the file (01, "The VAT and its ICB")
unfoldable pub counted : List ℕ → Result ℕ Refusal
counted f = answered (first (file_tests f)) (count_of f)

-- what 4 bytes with an ICB's logical block say: 0xffffffff means none (01, "The VAT and its ICB")
abbrev pub block_or_none : Bool → ℕ → Option LogicalAddress
block_or_none true b = None
block_or_none false b = Some (record { 0 = b })

-- the previous VAT ICB that the file names (01, "The VAT and its ICB")
unfoldable pub previous_in : List ℕ → Result (Option LogicalAddress) Refusal
previous_in f = answered (first (file_tests f)) (block_or_none (eqb (previous_of f) none) (previous_of f))

-- ---- what a caller is told (of a look-up: address, Told.antt)

-- the value of a count of entries
abbrev pub counted_values : Result ℕ Refusal → List ℕ
counted_values (Ok n) = n ∷ []
counted_values (Err why) = []

-- the value of a previous ICB: the block, or 0xffffffff for none
abbrev pub previous_values : Result (Option LogicalAddress) Refusal → List ℕ
previous_values (Ok (Some b)) = b.0 ∷ []
previous_values (Ok None) = none ∷ []
previous_values (Err why) = []

-- ---- the promises over the lent file f: each call answers r, and its number is that of the first line that applies, or 0

-- looking up virtual v
pub record LooksUp (f : List ℕ) (v : VirtualAddress) (r : Result LogicalAddress Refusal) : Type 0 where
  pub answer : r ≡ looked_up f v
  pub number : answer_number r ≡ answer_number (look_up_verdict f v)

-- counting the entries
pub record CountsEntries (f : List ℕ) (r : Result ℕ Refusal) : Type 0 where
  pub answer : r ≡ counted f
  pub number : answer_number r ≡ answer_number (first (file_tests f))

-- reading the previous VAT ICB
pub record ReadsPrevious (f : List ℕ) (r : Result (Option LogicalAddress) Refusal) : Type 0 where
  pub answer : r ≡ previous_in f
  pub number : answer_number r ≡ answer_number (first (file_tests f))
