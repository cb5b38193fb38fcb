-- Laws of one call: what the calls promise is a step of the definition. Assumes nothing.
use Prim.Native.Nat.{ℕ, zero, suc}
use mathlib.Core.Path.{◌≡◌, refl, sym, ap, ◌∙◌}
use mathlib.Core.List.{List}
use Rattle.model.specs.declared.Cut.{Cut}
use Rattle.model.specs.declared.Opened.{Opened}
use Rattle.std.specs.Prelude.{Result, Ok, Err}
use Rattle.refusal.specs.declared.Refusal.{Refusal}
use Rattle.model.specs.declared.Reply.{Reply}
use Rattle.model.specs.Disc.{Disc}
use Rattle.model.specs.Writes.{no_cut}
use Rattle.model.specs.Examine.{Setting}
use Rattle.model.specs.Plan.{Plan, Meets}
use Rattle.model.specs.Once.{save_plan, free_plan, commit_plan}
use Rattle.model.specs.Rewrite.{save_block_plan, save_packet_plan, spare_plan}
use Rattle.model.specs.Both.{opening, opened_table}
use Rattle.model.specs.Calls.{Call, open_disc, State, Stepped as Told, step, carried, answer_of, answer_of_opening}
use Rattle.list_step.specs.declared.Answered.{Answered}
use Rattle.list_step.specs.declared.Calling.{Calling}
use Rattle.list_step.specs.declared.Calling.TheVariants.{SaveVirtual, FreeVirtual, Commit, SaveBlock, SavePacket, SparePacket, Open}
use Rattle.list_step.specs.Stepped.{call_of, calling_of, call_in, answer_is, Stepped}

-- ---- the call of a kind, by its plan

-- the kind of a number, as the call of that number
pub call-of-number : (k n : ℕ) (c : Cut) (b : List ℕ) → call_in (calling_of k) n c b ≡ call_of k n c b
call-of-number zero n c b = refl
call-of-number (suc zero) n c b = refl
call-of-number (suc (suc zero)) n c b = refl
call-of-number (suc (suc (suc zero))) n c b = refl
call-of-number (suc (suc (suc (suc zero)))) n c b = refl
call-of-number (suc (suc (suc (suc (suc zero))))) n c b = refl
call-of-number (suc (suc (suc (suc (suc (suc k)))))) n c b = refl

module _ (e : Setting) (st : State) (k : Calling) (n : ℕ) (c : Cut) (b : List ℕ) where
  pub as-save-virtual : k ≡ SaveVirtual → step e st (call_in k n c b) ≡ carried (save_plan e st.disc st.table st.held n b) c st
  unfolding step
  as-save-virtual q = rw q

  pub as-free-virtual : k ≡ FreeVirtual → step e st (call_in k n c b) ≡ carried (free_plan e st.disc st.table st.held n) no_cut st
  unfolding step
  as-free-virtual q = rw q

  pub as-commit : k ≡ Commit → step e st (call_in k n c b) ≡ carried (commit_plan e st.disc st.table st.held) c st
  unfolding step
  as-commit q = rw q

  pub as-save-block : k ≡ SaveBlock → step e st (call_in k n c b) ≡ carried (save_block_plan e st.disc st.table st.held n b) c st
  unfolding step
  as-save-block q = rw q

  pub as-save-packet : k ≡ SavePacket → step e st (call_in k n c b) ≡ carried (save_packet_plan e st.disc st.table st.held n b) c st
  unfolding step
  as-save-packet q = rw q

  pub as-spare-packet : k ≡ SparePacket → step e st (call_in k n c b) ≡ carried (spare_plan e st.disc st.table st.held n b) c st
  unfolding step
  as-spare-packet q = rw q

-- a writing call whose contract is met
pub met-step : (e : Setting) (st : State) (k : Call) (p : Plan) (c : Cut) (r : Result Reply Refusal) (a : Result Answered Refusal) (d : Disc) (t : List ℕ) → step e st k ≡ carried p c st → Meets p c st.disc st.table r d t → answer_is a ≡ answer_of r → Stepped e st k a d t
unfolding carried
met-step e st k p c r a d t is m h =
    record {
      answer = h ∙ ap answer_of m.reply ∙ sym (ap (λ (x : Told). x.answer) is);
      disc = m.disc ∙ sym (ap (λ (x : Told). x.state.disc) is);
      table = m.table ∙ sym (ap (λ (x : Told). x.state.table) is);
    }

-- an opening whose contract is met
pub open_step : (e : Setting) (st : State) (k : Calling) (n : ℕ) (c : Cut) (b : List ℕ) (o : Result Opened Refusal) (a : Result Answered Refusal) (t : List ℕ) → k ≡ Open → o ≡ opening e st.disc st.table → t ≡ opened_table e st.disc st.table → answer_is a ≡ answer_of_opening o → Stepped e st (call_in k n c b) a st.disc t
unfolding step
open_step e st k n c b o a t is q p h =
    let met : Stepped e st open_disc a st.disc t = record { answer = h ∙ ap answer_of_opening q; disc = refl; table = p } in
    rw is met
