-- Either plot first (02, slip 11): "Two enumerators save different existing blocks between two commits. For a write-once disc and two saves
-- accepted in both orders, then an accepted commit and opening, nothing cut, every block must read alike in both orders."
use Rattle.std.specs.Prelude.{ℕ, ◌≡◌, ◌≢◌, true, false, cond, List, [], ◌∷◌, ◌++◌, length, replicate, eqb}
use Rattle.refusal.specs.declared.Refusal.TheVariants.{NumberOutside, PassesAsIcb}
use Rattle.model.specs.declared.Effect.{Effect}
use Rattle.model.specs.declared.Cut.{Cut}
use Rattle.model.specs.declared.Record.{Record}
use Rattle.model.specs.Disc.{Disc}
use Rattle.model.specs.Writes.{no_cut}
use Rattle.model.specs.VatWritten.{written_icb}
use Rattle.model.specs.Examine.{Setting}
use Rattle.model.specs.Calls.{Call, save_virtual, commit, open_disc, Answer, done, refused, opened, State, step, answers, final, accepted, is_cut}
use Rattle.model.specs.Store.{Seen, bytes, turned}
use Rattle.model.specs.Demand.{after_opening, seen}
use Rattle.model.specs.Consequences.{shown_after}
use Rattle.model.specs.Run.{twelve, before, ones, twos}

-- ---- two saves between two commits

-- a block to be saved
pub record Block : Type 0 where
  pub number : ℕ
  pub bytes : List ℕ

-- the cuts of two saves and of the commit after them
pub record Cuts : Type 0 where
  pub first : Cut
  pub second : Cut
  pub last : Cut

-- two blocks saved, x and then y
abbrev pub both_saved : Block → Block → Cuts → List Call
both_saved x y c = save_virtual x.number x.bytes c.first ∷ save_virtual y.number y.bytes c.second ∷ []

-- and then a commit and an opening
abbrev pub in_turn : Block → Block → Cuts → List Call
in_turn x y c = both_saved x y c ++ (commit c.last ∷ open_disc ∷ [])

-- every call is accepted and none is cut
unfoldable pub AllDone : List Answer → Type 0
AllDone [] = Unit {0}
AllDone (a ∷ al) = (accepted a ≡ true) × (is_cut a ≡ false) × AllDone al

-- ---- the claim

-- For any disc, table and record, be they of an opening or not, and any two blocks whose numbers differ. Each call has a cut of its own, which may be
-- another one in the other order. Asked is only that every call is accepted and none is cut, and a cut that strikes no write of its call is none; that
-- the disc is write-once follows. Every number reads alike: the same bytes, or the same refusal.
unfoldable pub EitherFirst : Type 0
EitherFirst =
    (e : Setting) (st : State) (x y : Block) (c k : Cuts) → x.number ≢ y.number
    → AllDone (answers e st (in_turn x y c))
    → AllDone (answers e st (in_turn y x k))
    → (v : ℕ) (out : List ℕ) → seen e (final e st (in_turn x y c)) v out ≡ seen e (final e st (in_turn y x k)) v out

-- so also after any list of calls that follows an opening, as in demand 3
unfoldable pub EitherAfter : Type 0
EitherAfter =
    (e : Setting) (d : Disc) (t : List ℕ) (cs : List Call) (x y : Block) (c k : Cuts) → x.number ≢ y.number
    → AllDone (answers e (final e (after_opening e d t) cs) (in_turn x y c))
    → AllDone (answers e (final e (after_opening e d t) cs) (in_turn y x k))
    → (v : ℕ) (out : List ℕ) → shown_after e d t (cs ++ in_turn x y c) v out ≡ shown_after e d t (cs ++ in_turn y x k) v out

-- ---- in one order

-- what is read: the blocks as they were saved, the later one where their numbers are the same, and every other number as before the saves
unfoldable pub SavedInTurn : Type 0
SavedInTurn =
    (e : Setting) (st : State) (x y : Block) (c : Cuts) → AllDone (answers e st (in_turn x y c))
    → (v : ℕ) (out : List ℕ) → length out ≡ 2048
    → seen e (final e st (in_turn x y c)) v out
    ≡ cond (eqb v y.number) (bytes y.bytes) (cond (eqb v x.number) (bytes x.bytes) (seen e st v out))

-- after two saves that are accepted and not cut, a commit that is not cut is accepted, and so is the opening: of the four calls the saves decide
unfoldable pub SavesDecide : Type 0
SavesDecide =
    (e : Setting) (st : State) (x y : Block) (c : Cuts) → AllDone (answers e st (both_saved x y c))
    → is_cut (step e (final e st (both_saved x y c)) (commit c.last)).answer ≡ false
    → AllDone (answers e st (in_turn x y c))

-- ---- on the disc of Run.antt

-- two blocks of ones are saved and committed, so that there are two; the ICB is in block 3, and NWA is 4
unfoldable pub two : State
two = final twelve before (save_virtual 0 ones no_cut ∷ save_virtual 1 ones no_cut ∷ commit no_cut ∷ [])

-- a block of threes
unfoldable pub threes : List ℕ
threes = replicate 2048 3

-- block 0 is saved again, as twos
abbrev pub zeroth : Block
zeroth = record { number = 0; bytes = twos }

-- and block 1, as threes
abbrev pub other : Block
other = record { number = 1; bytes = threes }

-- a cut past the last write
abbrev pub past : Cut
past = record { at = 2; effect = Effect.Unreadable }

-- the cuts where block 0 is first
abbrev pub ahead : Cuts
ahead = record { first = no_cut; second = past; last = no_cut }

-- and where block 1 is
abbrev pub back : Cuts
back = record { first = past; second = no_cut; last = past }

-- what the calls answer: a record is N, NWA and the last ICB; an opening says how many sectors it passed over
unfoldable pub both_given : List Answer
both_given =
    done (Record.WriteOnce 2 5 3)
    ∷ done (Record.WriteOnce 2 6 3)
    ∷ done (Record.WriteOnce 2 7 6)
    ∷ opened (Record.WriteOnce 2 7 6) 0
    ∷ []

-- the ICB of an empty VAT in block 4
unfoldable pub icb : List ℕ
icb = written_icb 4 [] 3

-- block 1 is saved as that: first, it would stand in block 4
abbrev pub other_icb : Block
other_icb = record { number = 1; bytes = icb }

-- what the calls answer then: the first is refused
unfoldable pub one_given : List Answer
one_given =
    refused PassesAsIcb
    ∷ done (Record.WriteOnce 2 5 3)
    ∷ done (Record.WriteOnce 2 6 5)
    ∷ opened (Record.WriteOnce 2 6 5) 0
    ∷ []

-- what is read after a list
abbrev pub shown : List Call → ℕ → List ℕ → Seen
shown cs v out = seen twelve (final twelve two cs) v out

-- what is claimed of them
pub record Plots : Type 0 where
  -- the hypotheses hold
  pub apart : zeroth.number ≢ other.number
  pub in_order : answers twelve two (in_turn zeroth other ahead) ≡ both_given
  pub reversed : answers twelve two (in_turn other zeroth back) ≡ both_given
  pub all_done : AllDone both_given
  -- and in both orders blocks 0 and 1 read as they were saved, and block 2 gives 12
  pub zero : (out : List ℕ) → length out ≡ 2048 → (shown (in_turn zeroth other ahead) 0 out ≡ bytes twos) × (shown (in_turn other zeroth back) 0 out ≡ bytes twos)
  pub one : (out : List ℕ) → length out ≡ 2048 → (shown (in_turn zeroth other ahead) 1 out ≡ bytes threes) × (shown (in_turn other zeroth back) 1 out ≡ bytes threes)
  pub outside :
      (out : List ℕ) → length out ≡ 2048
      → (shown (in_turn zeroth other ahead) 2 out ≡ turned NumberOutside) × (shown (in_turn other zeroth back) 2 out ≡ turned NumberOutside)
  -- why acceptance is asked for in both orders: the ICB is accepted second and, by line 15, not first,
  pub second : answers twelve two (in_turn zeroth other_icb ahead) ≡ both_given
  pub first : answers twelve two (in_turn other_icb zeroth back) ≡ one_given
  -- and block 1 does not read alike
  pub parted :
      (out : List ℕ) → length out ≡ 2048
      → (shown (in_turn zeroth other_icb ahead) 1 out ≡ bytes icb) × (shown (in_turn other_icb zeroth back) 1 out ≡ bytes ones) × (icb ≢ ones)
