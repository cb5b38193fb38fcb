-- Opening after a fault (02, slip 12): "The number of sectors passed over must be at most the sector writes begun since the last whole VAT ICB,
-- counted over the calls of a list as in demand 3 from a clean opening (one that passed over none). It is zero exactly when the partition's last
-- sector not blank is a VAT ICB." On write-once discs; on rewritable ones no sector is passed over.
use Rattle.std.specs.Prelude.{ℕ, ◌+◌, ◌-◌, ◌≤◌, ◌<◌, ◌≡◌, Bool, true, false, cond, List, [], ◌∷◌, length, get_or, take, eqb, Ok}
use Rattle.model.specs.declared.Effect.{Effect}
use Rattle.model.specs.declared.Record.{Record}
use Rattle.model.specs.Disc.{Disc}
use Rattle.model.specs.Vat.{vat_icb}
use Rattle.model.specs.Examine.{Setting, write_once}
use Rattle.model.specs.Once.{next_on}
use Rattle.model.specs.Both.{opening, passed_on}
use Rattle.model.specs.Writes.{no_cut}
use Rattle.model.specs.Calls.{Call, save_virtual, commit, open_disc, Answer, done, cut, opened, answers, final, accepted}
use Rattle.model.specs.Store.{Store, Shape, start, shape_of, cut_in, writes_in, was_cut, next}
use Rattle.model.specs.Demand.{after_opening}
use Rattle.model.specs.Consequences.{Follows, lays_icb}
use Rattle.model.specs.Run.{twelve, fresh, lent, ones, twos, failing, before}

-- ---- the count, kept beside the plain store and fed as it is: by each call's arguments and cut, and whether the call was accepted

-- since the last whole VAT ICB: the sector writes begun, and those of them that became old, which left their sector as it was
pub record Count : Type 0 where
  pub begun : ℕ
  pub old : ℕ

-- a count of both
abbrev pub count : ℕ → ℕ → Count
count b o = record { begun = b; old = o }

-- the sector writes that an accepted call began: up to the one at which the power failed, whatever became of it, or all
unfoldable pub begun_in : Shape → Store → Call → ℕ
begun_in h σ c = cond (was_cut h σ c) (cut_in c).at (writes_in h σ c)

-- 1 where the write at which the power failed became old
unfoldable pub became_old : Effect → ℕ
became_old Effect.Old = 1
became_old Effect.Unreadable = 0
became_old Effect.Whole = 0

-- those of them that became old
unfoldable pub old_in : Shape → Store → Call → ℕ
old_in h σ c = cond (was_cut h σ c) (became_old (cut_in c).effect) 0

-- the count after a call; the last argument says whether the call was accepted. Refused calls begin nothing; a commit whose ICB is whole, cut or
-- not, sets it to 0; an opening begins nothing and sets nothing
unfoldable pub counting : Shape → Store → Count → Call → Bool → Count
counting h σ k c false = k
counting h σ k c true = cond (lays_icb h σ c) (count 0 0) (count (k.begun + begun_in h σ c) (k.old + old_in h σ c))

-- the count after a list of calls
unfoldable pub counted : Shape → Store → Count → List Call → List Answer → Count
counted h σ k [] al = k
counted h σ k (c ∷ cs) [] = k
counted h σ k (c ∷ cs) (a ∷ al) = counted h (next h σ c (accepted a)) (counting h σ k c (accepted a)) cs al

-- after a list that follows an opening of the disc d with the lent table t, which passed over p sectors: those count as begun
abbrev pub counted_after : Setting → Disc → List ℕ → ℕ → List Call → Count
counted_after e d t p cs = counted (shape_of e) (start e d) (count p 0) cs (answers e (after_opening e d t) cs)

-- ---- the bound

-- every opening of every list of which demand 3 speaks passes over at most the sector writes begun by the calls before it. p is 0 where the first
-- opening was clean; otherwise what it passed over counts until the next whole ICB. An opening that is made after a list, after a cut too, is the
-- last of a list one longer
unfoldable pub WaitBounded : Type 0
WaitBounded =
    (e : Setting) (d : Disc) (t : List ℕ) (cs : List Call) → write_once e ≡ true → Follows e d t cs
    → (p : ℕ) → passed_on e d ≡ p
    → (i : ℕ) → i < length cs → (r : Record) (n : ℕ) → get_or (answers e (after_opening e d t) cs) i cut ≡ opened r n
    → n ≤ (counted_after e d t p (take i cs)).begun

-- it passes over all of them but those that became old, so that no count that is too high will do
unfoldable pub WaitExact : Type 0
WaitExact =
    (e : Setting) (d : Disc) (t : List ℕ) (cs : List Call) → write_once e ≡ true → Follows e d t cs
    → (p : ℕ) → passed_on e d ≡ p
    → (i : ℕ) → i < length cs → (r : Record) (n : ℕ) → get_or (answers e (after_opening e d t) cs) i cut ≡ opened r n
    → n + (counted_after e d t p (take i cs)).old ≡ (counted_after e d t p (take i cs)).begun

-- ---- none

-- n is 0 exactly if the partition's last sector that is not blank is a VAT ICB; there is one, and it is the one below NWA
pub record LastSector (e : Setting) (d : Disc) (n : ℕ) : Type 0 where
  pub there : 1 ≤ next_on e d
  pub exactly : eqb n 0 ≡ vat_icb d e.start (next_on e d - 1)

-- so is the number passed over of every opening of a write-once disc that was accepted, clean or not, in a list or not
unfoldable pub NoneExactly : Type 0
NoneExactly =
    (e : Setting) (d : Disc) (t : List ℕ) → write_once e ≡ true
    → (r : Record) (n : ℕ) → opening e d t ≡ Ok (record { handed = r; passed = n }) → LastSector e d n

-- ---- a list that reaches the bound, on the disc of Run.antt, which is opened clean

-- the power fails in a save, which becomes unreadable; in a commit, whose ICB becomes old; and in one whose ICB is whole
unfoldable pub waits : List Call
waits =
    save_virtual 0 ones no_cut
    ∷ save_virtual 1 twos (failing Effect.Unreadable)
    ∷ open_disc
    ∷ save_virtual 0 twos no_cut
    ∷ commit (failing Effect.Old)
    ∷ open_disc
    ∷ save_virtual 0 ones no_cut
    ∷ commit (failing Effect.Whole)
    ∷ open_disc
    ∷ []

-- the openings pass over 2, 3 and 0 sectors
unfoldable pub waited : List Answer
waited =
    done (Record.WriteOnce 1 2 0)
    ∷ cut
    ∷ opened (Record.WriteOnce 0 3 0) 2
    ∷ done (Record.WriteOnce 1 4 0)
    ∷ cut
    ∷ opened (Record.WriteOnce 0 4 0) 3
    ∷ done (Record.WriteOnce 1 5 0)
    ∷ cut
    ∷ opened (Record.WriteOnce 1 6 5) 0
    ∷ []

-- what is claimed of it
pub record WaitReached : Type 0 where
  -- what the bound asks for
  pub once : write_once twelve ≡ true
  pub clean : passed_on twelve fresh ≡ 0
  pub follows : Follows twelve fresh lent waits
  -- what every call answers
  pub answered : answers twelve before waits ≡ waited
  -- before the first opening 2 writes are begun; before the second 4, one of which became old; before the third none, its ICB being whole
  pub reached : counted_after twelve fresh lent 0 (take 2 waits) ≡ count 2 0
  pub below : counted_after twelve fresh lent 0 (take 5 waits) ≡ count 4 1
  pub over : counted_after twelve fresh lent 0 (take 8 waits) ≡ count 0 0
  -- the disc ends in a VAT ICB as it is first opened, and does not at the first opening of the list
  pub ends : LastSector twelve fresh 0
  pub torn : LastSector twelve (final twelve before (take 2 waits)).disc 2
