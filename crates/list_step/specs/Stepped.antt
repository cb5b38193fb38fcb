-- The call of a kind, what it comes to, and what its answer means for the calls after it (document 01, "Calls and their sector writes";
-- "The plain store", second paragraph).
use Rattle.std.specs.Prelude.{ℕ, zero, suc, ◌≡◌, Bool, true, false, List, [], ◌∷◌, ◌++◌, Result, Ok, Err}
use Rattle.refusal.specs.Number.{number_of}
use Rattle.model.specs.declared.Cut.{Cut}
use Rattle.model.specs.declared.Record.{Record}
use Rattle.model.specs.Disc.{Disc}
use Rattle.model.specs.Examine.{Setting}
use Rattle.model.specs.Told.{record_values}
use Rattle.model.specs.Lent.{Lent}
use Rattle.model.specs.Calls.{Call, save_virtual, free_virtual, commit, save_block, save_packet, spare_packet, open_disc, Answer, done, cut, refused, opened, State, step}
use Rattle.list_step.specs.declared.Answered.{Answered}
use Rattle.list_step.specs.declared.Calling.{Calling}
use Rattle.list_step.specs.declared.Calling.TheVariants.{SaveVirtual, FreeVirtual, Commit, SaveBlock, SavePacket, SparePacket, Open}
use Rattle.refusal.specs.declared.Refusal.{Refusal}

-- ---- the call of a kind

-- the call of a kind: 0 saves a virtual block, 1 frees one, 2 commits, 3 saves a block, 4 saves a packet, 5 spares a packet, any other opens
abbrev pub call_of : ℕ → ℕ → Cut → List ℕ → Call
call_of zero n c b = save_virtual n b c
call_of (suc zero) n c b = free_virtual n
call_of (suc (suc zero)) n c b = commit c
call_of (suc (suc (suc zero))) n c b = save_block n b c
call_of (suc (suc (suc (suc zero)))) n c b = save_packet n b c
call_of (suc (suc (suc (suc (suc zero))))) n c b = spare_packet n b c
call_of (suc (suc (suc (suc (suc (suc k)))))) n c b = open_disc

-- the kind of a number
abbrev pub calling_of : ℕ → Calling
calling_of zero = SaveVirtual
calling_of (suc zero) = FreeVirtual
calling_of (suc (suc zero)) = Commit
calling_of (suc (suc (suc zero))) = SaveBlock
calling_of (suc (suc (suc (suc zero)))) = SavePacket
calling_of (suc (suc (suc (suc (suc zero))))) = SparePacket
calling_of (suc (suc (suc (suc (suc (suc k)))))) = Open

-- the call of such a kind
abbrev pub call_in : Calling → ℕ → Cut → List ℕ → Call
call_in SaveVirtual n c b = save_virtual n b c
call_in FreeVirtual n c b = free_virtual n
call_in Commit n c b = commit c
call_in SaveBlock n c b = save_block n b c
call_in SavePacket n c b = save_packet n b c
call_in SparePacket n c b = spare_packet n b c
call_in Open n c b = open_disc

-- the kind of the call that is carried out: after a cut an opening
abbrev pub kind_after : Bool → ℕ → ℕ
kind_after false k = k
kind_after true k = 6

-- ---- its answer

-- the answer of a call as it is told inside the layers
abbrev pub answer_is : Result Answered Refusal → Answer
answer_is (Ok (Answered.Done r)) = done r
answer_is (Ok Answered.Cut) = cut
answer_is (Err why) = refused why
answer_is (Ok (Answered.Opened o)) = opened o.handed o.passed

-- the number that is told of an answer: 0 done or opened, the line of a refusal, 255 cut
abbrev pub number_for : Answer → ℕ
number_for (done r) = 0
number_for cut = 255
number_for (refused why) = number_of why
number_for (opened r n) = 0

-- and the values that go with it: the record, and of an opening how many sectors were passed over
abbrev pub values_for : Answer → List ℕ
values_for (done r) = record_values r
values_for cut = []
values_for (refused why) = []
values_for (opened r n) = record_values r ++ (n ∷ [])

-- the record in force after an answer
abbrev pub held_by : Answer → Record → Record
held_by (done r) held = r
held_by cut held = held
held_by (refused why) held = held
held_by (opened r n) held = r

-- how many sectors the last opening passed over that was accepted, n being those of the one before
abbrev pub passed_by : Answer → ℕ → ℕ
passed_by (done r) n = n
passed_by cut n = n
passed_by (refused why) n = n
passed_by (opened r m) n = m

-- ---- one call inside the layers

-- a state of its parts
abbrev pub state_of : Disc → List ℕ → Record → State
state_of d t held = record { disc = d; table = t; held = held }

-- the answer a, the disc d and the table t are those of the call c in the state st
pub record Stepped (e : Setting) (st : State) (c : Call) (a : Result Answered Refusal) (d : Disc) (t : List ℕ) : Type 0 where
  pub answer : answer_is a ≡ (step e st c).answer
  pub disc : d ≡ (step e st c).state.disc
  pub table : t ≡ (step e st c).state.table

-- the same over the lent lists: the call c, lent the table t and handed the record, answers a and leaves the disc d and the table t'
abbrev pub Steps : Lent → List ℕ → Record → Call → Result Answered Refusal → Disc → List ℕ → Type 0
Steps x t held c a d t' = Stepped x.setting (state_of x.disc t held) c a d t'
