-- What the four calls promise together (02, slip 10), over what they answer and leave: `counted` of bitmap, `found` of bitmap_find, and the definitions of
-- Written.antt. Each is proved in proofs/Promises.antt, and Worked.antt has bitmaps that meet their hypotheses.
use Rattle.std.specs.Prelude.{ℕ, ◌+◌, ◌-◌, ◌*◌, ◌/◌, ◌≤◌, ◌<◌, ◌≡◌, ◌⊎◌, true, false, List, length, get_or, Ok, Err}
use Rattle.refusal.specs.Tests.{first}
use Rattle.refusal.specs.declared.Refusal.{Refusal}
use Rattle.refusal.specs.declared.Refusal.TheVariants.{NoRun}
use Rattle.tag.specs.Sound.{renewed}
use Rattle.bitmap.specs.Bits.{bit_at, free_from}
use Rattle.bitmap.specs.Formed.{bitmap_fits}
use Rattle.bitmap.specs.Counted.{counted}
use Rattle.bitmap_find.specs.Nearest.{run_at, Nearest, find_tests, found}
use Rattle.bitmap_written.specs.Written.{take_verdict, after_taking, give_verdict, after_giving}

-- "Of the tag only identifier, checksum and CRC are tested": bytes that agree but for version, byte 5, serial number and location are let pass alike by
-- line 31, once checksum and CRC are right
abbrev pub Untested : Type 0
Untested = (b c : List ℕ) (l : ℕ) → 16 ≤ length b → length b ≡ length c → ((k : ℕ) → (k < 2) ⊎ ((k ≡ 10) ⊎ ((k ≡ 11) ⊎ (16 ≤ k))) → get_or b k 0 ≡ get_or c k 0)
    → bitmap_fits (renewed b) l ≡ bitmap_fits (renewed c) l

-- "A search that 12, 31 and 32 let pass is turned down only if no such run exists", and by 33
abbrev pub Complete : Type 0
Complete = (b : List ℕ) (l w near : ℕ) (why : Refusal) → first (find_tests b l w near) ≡ Ok tt → found b l w near ≡ Err why → (why ≡ NoRun) × ((f : ℕ) → run_at b l w f ≡ false)

-- count and search agree: no block is counted exactly if a search for one, which 31 and 12 let pass, is turned down
abbrev pub NoneCounted : Type 0
NoneCounted = (b : List ℕ) (l near : ℕ) → first (find_tests b l 1 near) ≡ Ok tt
    → (counted b l ≡ Ok 0 → found b l 1 near ≡ Err NoRun) × (found b l 1 near ≡ Err NoRun → counted b l ≡ Ok 0)

-- what is found is nearest, and can be taken
abbrev pub FoundRun : Type 0
FoundRun = (b : List ℕ) (l w near f : ℕ) → found b l w near ≡ Ok f → Nearest b l w near f × (take_verdict b l f w ≡ Ok tt)

-- the bytes `after` are those of `before` but for n blocks from f on, which went from one state to v, and for the tag's CRC and checksum
pub record Moved (before after : List ℕ) (l f n v : ℕ) : Type 0 where
  -- line 31 lets it pass again
  pub fits : bitmap_fits after l ≡ true
  pub inside : (i : ℕ) → f ≤ i → i < f + n → bit_at after i ≡ v
  pub outside : (i : ℕ) → (i < f) ⊎ (f + n ≤ i) → bit_at after i ≡ bit_at before i
  -- so many fewer are free, or more
  pub free : free_from after 0 l + (1 - v) * n ≡ free_from before 0 l + v * n
  pub long : length after ≡ length before
  -- every byte but 4, 8, 9 and those that hold a bit of the run
  pub kept : (k : ℕ) → (k ≡ 4 → ⊥) → (k < 8) ⊎ (10 ≤ k) → ((i : ℕ) → f ≤ i → i < f + n → k ≡ 24 + i / 8 → ⊥) → get_or after k 0 ≡ get_or before k 0

-- a taking that is accepted allocates the blocks of the run, and changes nothing else but the tag's CRC and checksum
abbrev pub AfterTaking : Type 0
AfterTaking = (b : List ℕ) (l f n : ℕ) → take_verdict b l f n ≡ Ok tt → Moved b (after_taking b l f n) l f n 0

-- a giving back that is accepted frees them
abbrev pub AfterGiving : Type 0
AfterGiving = (b : List ℕ) (l f n : ℕ) → give_verdict b l f n ≡ Ok tt → Moved b (after_giving b l f n) l f n 1

-- giving back what was taken is accepted, and restores every byte
abbrev pub Restored : Type 0
Restored = (b : List ℕ) (l f n : ℕ) → ((k : ℕ) → get_or b k 0 < 256) → take_verdict b l f n ≡ Ok tt
    → (give_verdict (after_taking b l f n) l f n ≡ Ok tt) × (after_giving (after_taking b l f n) l f n ≡ b)
