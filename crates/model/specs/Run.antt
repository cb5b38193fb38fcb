-- A list of calls of which demand 3 speaks (document 01, "The plain store"): a write-once disc of twelve sectors, made from a blank one, and
-- nineteen calls in which the power fails with each of the three effects. What each call answers and what is read after them is written out.
use Rattle.std.specs.Prelude.{ℕ, ◌*◌, ◌≡◌, true, false, List, [], ◌∷◌, length, replicate}
use Rattle.refusal.specs.declared.Refusal.TheVariants.{NumberOutside, UnusedEntry}
use Rattle.maps.specs.declared.Kind.TheVariants.{WriteOnce}
use Rattle.maps.specs.Written.{maps_of}
use Rattle.model.specs.declared.Effect.{Effect}
use Rattle.model.specs.declared.Cut.{Cut}
use Rattle.model.specs.declared.Record.{Record}
use Rattle.model.specs.Disc.{Disc, disc}
use Rattle.model.specs.Writes.{no_cut}
use Rattle.model.specs.Examine.{Setting, setting}
use Rattle.model.specs.Both.{made, opening}
use Rattle.model.specs.Calls.{Call, save_virtual, free_virtual, commit, open_disc, Answer, done, cut, refused, opened, State, answers, final, is_opened, answer_of_opening, Proper}
use Rattle.model.specs.Store.{bytes, turned}
use Rattle.model.specs.Demand.{Below, after_opening, seen, Kept}

-- the map list of write-once partition 0; S is 0 and L is 12
unfoldable pub twelve : Setting
twelve = setting (maps_of (WriteOnce 0) []) 0 12

-- a blank disc of twelve sectors
unfoldable pub blank : Disc
blank = disc (replicate (2048 * 12) 0) (replicate 12 0)

-- the disc once it is made: an empty VAT in sector 0
unfoldable pub fresh : Disc
fresh = made twelve blank []

-- the lent table
unfoldable pub lent : List ℕ
lent = replicate 4096 0

-- a block of ones
unfoldable pub ones : List ℕ
ones = replicate 2048 1

-- a block of twos
unfoldable pub twos : List ℕ
twos = replicate 2048 2

-- the power fails at the first write
abbrev pub failing : Effect → Cut
failing x = record { at = 1; effect = x }

-- the calls, after an opening of the disc
unfoldable pub calls : List Call
calls =
    save_virtual 0 ones no_cut
    ∷ commit (failing Effect.Old)
    ∷ open_disc
    ∷ save_virtual 0 twos no_cut
    ∷ commit (failing Effect.Unreadable)
    ∷ open_disc
    ∷ save_virtual 0 ones no_cut
    ∷ save_virtual 7 twos no_cut
    ∷ save_virtual 1 twos no_cut
    ∷ commit (failing Effect.Whole)
    ∷ open_disc
    ∷ free_virtual 0
    ∷ open_disc
    ∷ save_virtual 2 twos (failing Effect.Unreadable)
    ∷ open_disc
    ∷ free_virtual 1
    ∷ save_virtual 0 twos no_cut
    ∷ commit no_cut
    ∷ open_disc
    ∷ []

-- what they answer: a record is N, NWA and the last ICB; an opening says how many sectors it passed over
unfoldable pub given : List Answer
given =
    done (Record.WriteOnce 1 2 0)
    ∷ cut
    ∷ opened (Record.WriteOnce 0 2 0) 1
    ∷ done (Record.WriteOnce 1 3 0)
    ∷ cut
    ∷ opened (Record.WriteOnce 0 4 0) 3
    ∷ done (Record.WriteOnce 1 5 0)
    ∷ refused NumberOutside
    ∷ done (Record.WriteOnce 2 6 0)
    ∷ cut
    ∷ opened (Record.WriteOnce 2 7 6) 0
    ∷ done (Record.WriteOnce 2 7 6)
    ∷ opened (Record.WriteOnce 2 7 6) 0
    ∷ cut
    ∷ opened (Record.WriteOnce 2 8 6) 1
    ∷ done (Record.WriteOnce 2 8 6)
    ∷ done (Record.WriteOnce 2 9 6)
    ∷ done (Record.WriteOnce 2 10 9)
    ∷ opened (Record.WriteOnce 2 10 9) 0
    ∷ []

-- the state after the opening
unfoldable pub before : State
before = after_opening twelve fresh lent

-- the state after the calls
unfoldable pub after : State
after = final twelve before calls

-- what is claimed of the run
pub record Run : Type 0 where
  -- what demand 3 asks for
  pub low : Below 256 fresh.bytes
  pub accepted : is_opened (answer_of_opening (opening twelve fresh lent)) ≡ true
  pub proper : Proper false calls (answers twelve before calls)
  -- what it claims
  pub kept : Kept twelve fresh lent calls
  -- what every call answers
  pub answered : answers twelve before calls ≡ given
  -- and what is read after them: block 0 as it was saved last, 13 for block 1, which was freed, and 12 for block 2, whose save was cut
  pub first : (out : List ℕ) → length out ≡ 2048 → seen twelve after 0 out ≡ bytes twos
  pub second : (out : List ℕ) → length out ≡ 2048 → seen twelve after 1 out ≡ turned UnusedEntry
  pub third : (out : List ℕ) → length out ≡ 2048 → seen twelve after 2 out ≡ turned NumberOutside
