-- The worked examples of document 01 ("Proved examples", a to l), as one statement: each is said of the definitions that the calls are
-- proved to follow.
use Rattle.std.specs.Prelude.{ℕ, ◌+◌, ◌<◌, ◌≡◌, List, [], ◌∷◌, replicate, set, Ok}
use Rattle.label.specs.PerMille.{per_mille}
use Rattle.refusal.specs.Number.{answer_number}
use Rattle.refusal.specs.Tests.{Test, first}
use Rattle.model.specs.declared.Record.{Record}
use Rattle.model.specs.Disc.{Disc}
use Rattle.model.specs.VatWritten.{file_bytes, data_sectors}
use Rattle.model.specs.Sparing.{Entry, locate, resorted}
use Rattle.model.specs.Examine.{setting}
use Rattle.model.specs.Once.{once_verdict, entry_tests, save_tests, save_lent, save_plan}
use Rattle.model.specs.Plan.{carry}
use Rattle.model.specs.Rewrite.{block_test}
use Rattle.model.specs.Both.{entry_sector}

-- the number that some tests give
unfoldable pub gives : List Test → ℕ
gives l = answer_number (first l)

-- a sparing entry (original, mapped); 0xffffffff is a free one, 0xfffffff0 a defective one
abbrev pub entry : ℕ → ℕ → Entry
entry o m = record { original = o; mapped = m }

-- a block of 2,048 zeros
unfoldable pub zeros : List ℕ
zeros = replicate 2048 0

-- the examples, a field for each letter; map list, disc, S, L, NWA and last ICB are any where the letter does not give them
pub record Examples : Type 0 where
  -- "a. S 257, entries 0, 1: virtual 1 is 258."
  pub a : (maps : List ℕ) (l : ℕ) → entry_sector (setting maps 257 l) (0 ∷ 1 ∷ []) 1 ≡ 258
  -- "b. Entries 0, 16, 15: virtual 2 is 272."
  pub b : (maps : List ℕ) (l : ℕ) → entry_sector (setting maps 257 l) (0 ∷ 16 ∷ 15 ∷ []) 2 ≡ 272
  -- "c. There, 3 gives 12." N is 3
  pub c : (next last : ℕ) → gives (entry_tests (0 ∷ 16 ∷ 15 ∷ []) (Record.WriteOnce 3 next last) 3) ≡ 12
  -- "d. 0xffffffff gives 13." There, as the entry of virtual 2
  pub d : (next last : ℕ) → gives (entry_tests (0 ∷ 16 ∷ 0xffffffff ∷ []) (Record.WriteOnce 3 next last) 2) ≡ 13
  -- "e. N 458, d 0." F is 1,868, and 176 + F is 2,044
  pub e : (file_bytes 458 ≡ 1868) × (data_sectors 458 ≡ 0)
  -- "f. 459, d 1." F is 1,872, and 176 + F is 2,048
  pub f : (file_bytes 459 ≡ 1872) × (data_sectors 459 ≡ 1)
  -- "g. 503, d 1; 504, d 2." F is 2,048, and 2,052
  pub g : (file_bytes 503 ≡ 2048) × (data_sectors 503 ≡ 1) × (file_bytes 504 ≡ 2052) × (data_sectors 504 ≡ 2)
  -- "h. 4,096, d 9." F is 16,420
  pub h : (file_bytes 4096 ≡ 16420) × (data_sectors 4096 ≡ 9)
  -- "i. S 512, L 64, 32 mapped to 1,024: block 31 is 543, 63 is 1,055, 64 gives 12."
  pub i : (locate 512 (entry 32 1024 ∷ []) 31 ≡ 543) × (locate 512 (entry 32 1024 ∷ []) 63 ≡ 1055)
      × ((maps : List ℕ) → gives (block_test (setting maps 512 64) 64 ∷ []) ≡ 12)
  -- "j. L 9, N 2, replacing: NWA 7 saved, 8 gives 16." The block saved is of zeros, and replaces virtual 0 or 1. Where lines 1 to 11 let the
  -- save go on, it has one write, at S + 7, and none elsewhere; the entry is then 7, NWA 8, and N and the last ICB are as they were
  pub j : (maps : List ℕ) (disc : Disc) (s last : ℕ)
      → (gives (save_tests (setting maps s 9) disc (Record.WriteOnce 2 7 last) 0 zeros) ≡ 0)
      × (gives (save_tests (setting maps s 9) disc (Record.WriteOnce 2 7 last) 1 zeros) ≡ 0)
      × (gives (save_tests (setting maps s 9) disc (Record.WriteOnce 2 8 last) 0 zeros) ≡ 16)
      × (gives (save_tests (setting maps s 9) disc (Record.WriteOnce 2 8 last) 1 zeros) ≡ 16)
      × ((table : List ℕ) (v : ℕ) → v < 2
      → once_verdict (setting maps s 9) disc table (save_lent table zeros) (Record.WriteOnce 2 7 last) [] ≡ Ok tt
      → save_plan (setting maps s 9) disc table (Record.WriteOnce 2 7 last) v zeros
      ≡ carry (record { place = s + 7; bytes = zeros } ∷ []) (set table v 7) (Record.WriteOnce 2 8 last))
  -- "k. Entries (64, 2,048), two free at 2,080 and 2,112; sparing 32 gives (32, 2,080), (64, 2,048), (free, 2,112)."
  pub k : resorted (entry 64 2048 ∷ entry 0xffffffff 2080 ∷ entry 0xffffffff 2112 ∷ []) 32
      ≡ entry 32 2080 ∷ entry 64 2048 ∷ entry 0xffffffff 2112 ∷ []
  -- "l. NWA 3, L 64": 47, as 02, slip 4, has it; and of L 80, NWA 1 gives 12 and NWA 3 gives 38
  pub l : (per_mille 3 64 ≡ 47) × (per_mille 1 80 ≡ 12) × (per_mille 3 80 ≡ 38)
