-- Lists of calls (document 01, "The plain store", second paragraph): each call gets disc, marks and lent table as the last one left them, and
-- the record last handed back, which a refusal leaves in force. Map list, S and L are the same throughout.
use Rattle.std.specs.Prelude.{ℕ, ◌≡◌, Bool, true, false, List, [], ◌∷◌, Result, Ok, Err}
use Rattle.refusal.specs.declared.Refusal.{Refusal}
use Rattle.model.specs.declared.Cut.{Cut}
use Rattle.model.specs.declared.Record.{Record}
use Rattle.model.specs.declared.Reply.{Reply}
use Rattle.model.specs.declared.Opened.{Opened}
use Rattle.model.specs.Disc.{Disc}
use Rattle.model.specs.Writes.{no_cut}
use Rattle.model.specs.Plan.{Plan, reply_of, disc_after, table_after}
use Rattle.model.specs.Examine.{Setting}
use Rattle.model.specs.Once.{save_plan, free_plan, commit_plan}
use Rattle.model.specs.Rewrite.{save_block_plan, save_packet_plan, spare_plan}
use Rattle.model.specs.Both.{opening, opened_table}

-- the calls of demand 3, for both kinds, with any numbers, bytes of any length, and a cut where the call writes
pub data Call : Type 0 where
  save_virtual : ℕ → List ℕ → Cut → Call
  free_virtual : ℕ → Call
  commit : Cut → Call
  save_block : ℕ → List ℕ → Cut → Call
  save_packet : ℕ → List ℕ → Cut → Call
  spare_packet : ℕ → List ℕ → Cut → Call
  open_disc : Call

-- what a call answers
pub data Answer : Type 0 where
  done : Record → Answer
  cut : Answer
  refused : Refusal → Answer
  opened : Record → ℕ → Answer

-- what a call is handed by the one before it
pub record State : Type 0 where
  pub disc : Disc
  pub table : List ℕ
  pub held : Record

-- a call's answer, and what it hands on
pub record Stepped : Type 0 where
  pub answer : Answer
  pub state : State

-- the answer that a reply is
unfoldable pub answer_of : Result Reply Refusal → Answer
answer_of (Ok (Reply.Done r)) = done r
answer_of (Ok Reply.Cut) = cut
answer_of (Err why) = refused why

-- the record in force after a reply
unfoldable pub held_after : Result Reply Refusal → Record → Record
held_after (Ok (Reply.Done r)) held = r
held_after (Ok Reply.Cut) held = held
held_after (Err why) held = held

-- a writing call, by its plan
unfoldable pub carried : Plan → Cut → State → Stepped
carried p c st =
    record {
      answer = answer_of (reply_of p c);
      state = record {
        disc = disc_after p c st.disc;
        table = table_after p c st.table;
        held = held_after (reply_of p c) st.held;
      };
    }

-- the answer that an opening is
unfoldable pub answer_of_opening : Result Opened Refusal → Answer
answer_of_opening (Ok o) = opened o.handed o.passed
answer_of_opening (Err why) = refused why

-- the record in force after an opening
unfoldable pub held_after_opening : Result Opened Refusal → Record → Record
held_after_opening (Ok o) held = o.handed
held_after_opening (Err why) held = held

-- one call
unfoldable pub step : Setting → State → Call → Stepped
step e st (save_virtual v b c) = carried (save_plan e st.disc st.table st.held v b) c st
step e st (free_virtual v) = carried (free_plan e st.disc st.table st.held v) no_cut st
step e st (commit c) = carried (commit_plan e st.disc st.table st.held) c st
step e st (save_block b x c) = carried (save_block_plan e st.disc st.table st.held b x) c st
step e st (save_packet b x c) = carried (save_packet_plan e st.disc st.table st.held b x) c st
step e st (spare_packet b x c) = carried (spare_plan e st.disc st.table st.held b x) c st
step e st open_disc =
    record {
      answer = answer_of_opening (opening e st.disc st.table);
      state = record {
        disc = st.disc;
        table = opened_table e st.disc st.table;
        held = held_after_opening (opening e st.disc st.table) st.held;
      };
    }

-- the answers of a list of calls
unfoldable pub answers : Setting → State → List Call → List Answer
answers e st [] = []
answers e st (c ∷ cs) = (step e st c).answer ∷ answers e (step e st c).state cs

-- the state after it
unfoldable pub final : Setting → State → List Call → State
final e st [] = st
final e st (c ∷ cs) = final e (step e st c).state cs

-- whether an answer is a refusal
unfoldable pub accepted : Answer → Bool
accepted (done r) = true
accepted cut = true
accepted (refused why) = false
accepted (opened r n) = true

-- whether a call was cut
unfoldable pub is_cut : Answer → Bool
is_cut (done r) = false
is_cut cut = true
is_cut (refused why) = false
is_cut (opened r n) = false

-- whether an opening was accepted
unfoldable pub is_opened : Answer → Bool
is_opened (done r) = false
is_opened cut = false
is_opened (refused why) = false
is_opened (opened r n) = true

-- after a cut the next call in a list is an opening; `down` says whether the call before was cut
unfoldable pub Proper : Bool → List Call → List Answer → Type 0
Proper down [] al = Unit {0}
Proper down (c ∷ cs) [] = Unit {0}
Proper down (c ∷ cs) (a ∷ al) = (down ≡ true → c ≡ open_disc) × Proper (is_cut a) cs al

-- whether the last call of a list was cut
unfoldable pub ends_cut : Bool → List Answer → Bool
ends_cut down [] = down
ends_cut down (a ∷ al) = ends_cut (is_cut a) al
