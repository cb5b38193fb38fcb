-- Blank or broken (02, slip 5): that lines 25 and 14 go by the first sector to be read that is not recorded, and a closed disc with a block that
-- was never recorded.
use Rattle.std.specs.Prelude.{ℕ, ◌+◌, ◌*◌, ◌<◌, ◌≡◌, true, false, ◌≢◌, List, [], ◌∷◌, length, replicate}
use Rattle.refusal.specs.declared.Refusal.TheVariants.{BlankSector}
use Rattle.maps.specs.declared.Kind.TheVariants.{WriteOnce}
use Rattle.maps.specs.Written.{maps_of}
use Rattle.model.specs.declared.Effect.{Effect}
use Rattle.model.specs.declared.Record.{Record}
use Rattle.model.specs.Disc.{Disc, disc, mark, recorded, first_mark}
use Rattle.model.specs.Writes.{write, no_cut}
use Rattle.model.specs.Vat.{none}
use Rattle.model.specs.VatWritten.{written_icb}
use Rattle.model.specs.Examine.{Setting, setting}
use Rattle.model.specs.Rewrite.{other_mark}
use Rattle.model.specs.Calls.{Call, save_virtual, commit, open_disc, Answer, done, cut, opened, answers, final}
use Rattle.model.specs.Store.{bytes, turned}
use Rattle.model.specs.Demand.{after_opening, seen}
use Rattle.model.specs.Consequences.{Follows, leaves}
use Rattle.model.specs.Run.{lent, ones, failing}

-- ---- "the first sector to be read that is not recorded"

-- of n sectors from p on: sector i of them where those below it are recorded
unfoldable pub FirstOfRun : Type 0
FirstOfRun =
    (d : Disc) (p n i : ℕ) → i < n
    → ((j : ℕ) → j < i → recorded d (p + j) ≡ true)
    → recorded d (p + i) ≡ false
    → first_mark d p n ≡ mark d (p + i)

-- of a packet from p on of which block k is saved: sector i of them, other than k, where those below it, other than k, are recorded. The mark
-- of sector k itself is not looked at
unfoldable pub FirstOfOthers : Type 0
FirstOfOthers =
    (d : Disc) (p k i : ℕ) → k < 32 → i < 32 → i ≢ k
    → ((j : ℕ) → j < i → j ≢ k → recorded d (p + j) ≡ true)
    → recorded d (p + i) ≡ false
    → other_mark d p k ≡ mark d (p + i)

-- a disc of one packet that begins with these marks, and whose other sectors are recorded
abbrev pub begins_with : ℕ → ℕ → ℕ → Disc
begins_with a b c = disc [] (a ∷ b ∷ c ∷ replicate 29 1)

-- closed packets: an unreadable sector before a blank one, and a blank one before an unreadable one; and where block 0 or block 1 is saved, its
-- own sector is passed over
pub record FirstMet : Type 0 where
  pub unreadable : first_mark (begins_with 1 2 0) 0 32 ≡ 2
  pub blank : first_mark (begins_with 1 0 2) 0 32 ≡ 0
  pub above : other_mark (begins_with 2 0 2) 0 0 ≡ 0
  pub below : other_mark (begins_with 2 0 0) 0 1 ≡ 2
  pub own : other_mark (begins_with 1 0 1) 0 1 ≡ 1

-- ---- a disc whose VAT names a blank sector

-- the map list of write-once partition 0; S is 0 and L is 6
unfoldable pub six : Setting
six = setting (maps_of (WriteOnce 0) []) 0 6

-- six sectors, the second of which has a VAT ICB with one entry: block 0, which is blank
unfoldable pub named : Disc
named = write 1 no_cut 1 (written_icb 1 (0 ∷ []) none) (disc (replicate (2048 * 6) 0) (replicate 6 0))

-- that block saved, which is cut, and the disc opened; then another number saved and committed, and the disc opened again
unfoldable pub others : List Call
others = save_virtual 0 ones (failing Effect.Unreadable) ∷ open_disc ∷ save_virtual 1 ones no_cut ∷ commit no_cut ∷ open_disc ∷ []

-- what they answer
unfoldable pub others_given : List Answer
others_given =
    cut
    ∷ opened (Record.WriteOnce 1 3 1) 1
    ∷ done (Record.WriteOnce 2 4 1)
    ∷ done (Record.WriteOnce 2 5 4)
    ∷ opened (Record.WriteOnce 2 5 4) 0
    ∷ []

-- what `BlankStays` asks for is met there, and so number 0 reads 25 before these calls and after them, where number 1 has its bytes
pub record BlankMet : Type 0 where
  pub follows : Follows six named lent others
  pub answered : answers six (after_opening six named lent) others ≡ others_given
  pub left : leaves 0 others (answers six (after_opening six named lent) others) ≡ true
  pub first : (out : List ℕ) → length out ≡ 2048 → seen six (after_opening six named lent) 0 out ≡ turned BlankSector
  pub after : (out : List ℕ) → length out ≡ 2048 → seen six (final six (after_opening six named lent) others) 0 out ≡ turned BlankSector
  pub other : (out : List ℕ) → length out ≡ 2048 → seen six (final six (after_opening six named lent) others) 1 out ≡ bytes ones
