-- From one call to a whole list: what holds from call to call beside the plain store and the count holds before each call of a list and after the
-- last. From it every opening of a list is accepted, and the answer of each call says that it was cut exactly if the plain store knows it. For both
-- kinds. Assumes nothing.
use Prim.Native.Nat.{ℕ, zero, suc, ◌<◌}
use mathlib.Core.Bool.{Bool, true, false, ◌&&◌, false≢true}
use mathlib.Core.Path.{◌≡◌, refl, sym, subst}
use mathlib.Core.List.{List, [], ◌∷◌}
use lib.ListN.{length, get_or, take}
use lib.Seq.{take-length}
use Rattle.refusal.specs.declared.Refusal.{Refusal}
use Rattle.refusal.specs.Verdict.{Verdict}
use Rattle.std.specs.Prelude.{Ok, Err}
use Rattle.model.specs.declared.Cut.{Cut}
use Rattle.model.specs.declared.Record.{Record}
use Rattle.model.specs.Writes.{Write, writes, struck, no_cut}
use Rattle.model.specs.Plan.{refuse, carry, unless, reply_of, disc_after, table_after}
use Rattle.model.specs.Examine.{Setting}
use Rattle.model.specs.Both.{open_verdict, opened_by, opening}
use Rattle.model.specs.Calls.{Call, open_disc, Answer, done, cut, refused, opened, State, Stepped, answer_of, held_after, carried, answer_of_opening, step, answers, final, accepted, is_cut, is_opened, Proper, ends_cut}
use Rattle.model.specs.Store.{Store, Shape, cut_in, writes_in, was_cut, taken, next}
use Rattle.model.specs.Demand.{followed}
use Rattle.model.specs.Wait.{Count, count, counting, counted}
use Rattle.model.proofs.Basics.{by_bool}
use Rattle.model.proofs.Verdicts.{by-verdict}
use Rattle.model.proofs.ConsequencesLists.{answer-place, proper-place}

-- ---- a call by its plan: stopped, cut, or carried out

module _ (ws : List Write) (t : List ℕ) (r : Record) (k : Cut) (st : State) {v : Verdict} where
  pub plan-stopped : {why : Refusal} → v ≡ Err why → (carried (unless v (carry ws t r)) k st).answer ≡ refused why
  unfolding unless carried reply_of answer_of
  plan-stopped q = rw q

  pub plan-cut : v ≡ Ok tt → struck k (length ws) ≡ true → (carried (unless v (carry ws t r)) k st).answer ≡ cut
  unfolding unless carried reply_of answer_of
  plan-cut q s = rw (q, s)

  pub plan-done : v ≡ Ok tt → struck k (length ws) ≡ false
      → carried (unless v (carry ws t r)) k st ≡ record { answer = done r; state = record { disc = writes 1 k ws st.disc; table = t; held = r } }
  unfolding unless carried reply_of disc_after table_after answer_of held_after
  plan-done q s = rw (q, s)

  -- a call that was accepted passed its tests,
  pub plan-goes : accepted (carried (unless v (carry ws t r)) k st).answer ≡ true → v ≡ Ok tt
  unfolding accepted
  plan-goes a = by-verdict v (λ q. q) (λ why q. absurd (false≢true (rw (plan-stopped q) at a)))

  -- and one whose answer does not say that it was cut was not
  pub plan-uncut : v ≡ Ok tt → is_cut (carried (unless v (carry ws t r)) k st).answer ≡ false → struck k (length ws) ≡ false
  unfolding is_cut
  plan-uncut q a = by_bool (struck k (length ws)) (λ s. absurd (false≢true (sym (rw (plan-cut q s) at a)))) (λ s. s)

-- an opening that was accepted, as calls are
pub opened-accepted : (a : Answer) → is_opened a ≡ true → accepted a ≡ true
unfolding is_opened accepted
opened-accepted (done r) h = absurd (false≢true h)
opened-accepted cut h = refl
opened-accepted (refused why) h = absurd (false≢true h)
opened-accepted (opened r n) h = refl

-- ---- whether a call was cut

-- an answer says that the call was cut exactly if it was accepted and the plain store's own test says so
abbrev pub Told : Shape → Store → Call → Answer → Type 0
Told h σ c a = is_cut a ≡ accepted a && was_cut h σ c

-- so does the answer of a call that makes the writes that the plain store counts
told-carried : (h : Shape) (σ : Store) (c : Call) (k : Cut) (st : State) (ws : List Write) (t : List ℕ) (r : Record)
    → cut_in c ≡ k → writes_in h σ c ≡ length ws → Told h σ c (carried (carry ws t r) k st).answer
unfolding carried reply_of answer_of accepted is_cut was_cut
told-carried h σ c k st ws t r e n =
    by_bool (struck k (length ws))
    (λ q. rw (e, n, q))
    (λ q. rw (e, n, q))

told-refused : (h : Shape) (σ : Store) (c : Call) (why : Refusal) (k : Cut) (st : State) → Told h σ c (carried (refuse why) k st).answer
unfolding carried reply_of answer_of accepted is_cut
told-refused h σ c why k st = refl

pub told-plan : (h : Shape) (σ : Store) (c : Call) (k : Cut) (st : State) (v : Verdict) (ws : List Write) (t : List ℕ) (r : Record)
    → cut_in c ≡ k → (v ≡ Ok tt → writes_in h σ c ≡ length ws) → Told h σ c (carried (unless v (carry ws t r)) k st).answer
unfolding unless
told-plan h σ c k st v ws t r e n =
    by-verdict v
    (λ q. rw q (told-carried h σ c k st ws t r e (n q)))
    (λ why q. rw q (told-refused h σ c why k st))

-- and of an opening, which writes nothing
pub told-opening : (e : Setting) (h : Shape) (st : State) (σ : Store) → Told h σ open_disc (step e st open_disc).answer
unfolding step opening opened_by answer_of_opening accepted is_cut was_cut cut_in writes_in struck no_cut
told-opening e h st σ = by-verdict (open_verdict e st.disc st.table) (λ q. rw q) (λ why q. rw q)

-- ---- an invariant of the state and the plain store; `down` says whether the last call was cut
module _ (Keeps : Bool → State → Store → Type 0) (h : Shape) where
  -- what a call leaves keeps it, beside what the plain store makes of the call
  abbrev pub Sound : Store → Call → Stepped → Type 0
  Sound σ c r = Keeps (is_cut r.answer) r.state (next h σ c (accepted r.answer))

  -- a refusal changes nothing
  pub sound-refused : (σ : Store) (c : Call) (why : Refusal) (k : Cut) (st : State) → Keeps false st σ → Sound σ c (carried (refuse why) k st)
  unfolding carried reply_of disc_after table_after answer_of held_after accepted is_cut next
  sound-refused σ c why k st i = i

  -- a call that is carried out, cut or not
  pub sound-carried : (σ : Store) (c : Call) (k : Cut) (st : State) (ws : List Write) (t : List ℕ) (r : Record)
      → cut_in c ≡ k → writes_in h σ c ≡ length ws
      → (struck k (length ws) ≡ true → Keeps true (record { disc = writes 1 k ws st.disc; table = st.table; held = st.held }) (taken h σ c true))
      → (struck k (length ws) ≡ false → Keeps false (record { disc = writes 1 k ws st.disc; table = t; held = r }) (taken h σ c false))
      → Sound σ c (carried (carry ws t r) k st)
  unfolding carried reply_of disc_after table_after answer_of held_after accepted is_cut next was_cut
  sound-carried σ c k st ws t r e n f g =
      by_bool (struck k (length ws))
      (λ q. rw (q, e, n, q) (f q))
      (λ q. rw (q, e, n, q) (g q))

  -- a call by its verdict
  pub sound-plan : (σ : Store) (c : Call) (k : Cut) (st : State) (v : Verdict) (ws : List Write) (t : List ℕ) (r : Record)
      → Keeps false st σ
      → (v ≡ Ok tt → Sound σ c (carried (carry ws t r) k st))
      → Sound σ c (carried (unless v (carry ws t r)) k st)
  unfolding unless
  sound-plan σ c k st v ws t r i f =
      by-verdict v
      (λ q. rw q (f q))
      (λ why q. rw q (sound-refused σ c why k st i))

-- ---- lists of calls

-- an invariant of the state, the plain store and the count; `down` says whether the last call was cut
module _ (Keeps : Bool → State → Store → Count → Type 0) (h : Shape) (e : Setting)
    (sound :
    (down : Bool) (st : State) (σ : Store) (k : Count) (c : Call) → Keeps down st σ k → (down ≡ true → c ≡ open_disc)
    → Keeps (is_cut (step e st c).answer) (step e st c).state (next h σ c (accepted (step e st c).answer)) (counting h σ k c (accepted (step e st c).answer))) where
  -- what holds before a list holds after its first i calls
  pub list-holds : (cs : List Call) (down : Bool) (st : State) (σ : Store) (k : Count) → Keeps down st σ k → Proper down cs (answers e st cs) → (i : ℕ)
      → Keeps (ends_cut down (answers e st (take i cs))) (final e st (take i cs))
      (followed h σ (take i cs) (answers e st (take i cs)))
      (counted h σ k (take i cs) (answers e st (take i cs)))
  unfolding Proper answers final followed ends_cut counted
  list-holds [] down st σ k o p zero = o
  list-holds [] down st σ k o p (suc i) = o
  list-holds (c ∷ cs) down st σ k o p zero = o
  list-holds (c ∷ cs) down st σ k o p (suc i) =
      let r = step e st c in
      list-holds cs (is_cut r.answer) r.state (next h σ c (accepted r.answer)) (counting h σ k c (accepted r.answer)) (sound down st σ k c o p.0) p.1 i

-- one that asks nothing of the count
module _ (Keeps : Bool → State → Store → Type 0) (h : Shape) (e : Setting)
    (sound : (down : Bool) (st : State) (σ : Store) (c : Call) → Keeps down st σ → (down ≡ true → c ≡ open_disc) → Sound Keeps h σ c (step e st c)) where
  -- holds after a list, from whatever state it begins in
  pub list-state : (cs : List Call) (down : Bool) (st : State) (σ : Store) → Keeps down st σ → Proper down cs (answers e st cs)
      → Keeps (ends_cut down (answers e st cs)) (final e st cs) (followed h σ cs (answers e st cs))
  list-state cs down st σ o p =
      subst (λ (l : List Call). Keeps (ends_cut down (answers e st l)) (final e st l) (followed h σ l (answers e st l))) (take-length cs)
      (list-holds (λ down x τ k. Keeps down x τ) h e (λ down x τ k. sound down x τ) cs down st σ (count 0 0) o p (length cs))

-- and so in its parts
module _ (Keeps : Bool → State → Store → Type 0) (h : Shape) (e : Setting)
    (sound : (down : Bool) (st : State) (σ : Store) (c : Call) → Keeps down st σ → (down ≡ true → c ≡ open_disc) → Sound Keeps h σ c (step e st c))
    (cs : List Call) (st : State) (σ : Store) (first : Keeps false st σ) (proper : Proper false cs (answers e st cs)) where
  -- holds after the first i calls
  abbrev Holds : List Call → Type 0
  Holds l = Keeps (ends_cut false (answers e st l)) (final e st l) (followed h σ l (answers e st l))

  holds : (i : ℕ) → Holds (take i cs)
  holds = list-holds (λ down x τ k. Keeps down x τ) h e (λ down x τ k. sound down x τ) cs false st σ (count 0 0) first proper

  -- every opening in the list is accepted, by its place
  pub list-opens : ((down : Bool) (x : State) (τ : Store) → Keeps down x τ → is_opened (step e x open_disc).answer ≡ true)
      → (i : ℕ) → i < length cs → get_or cs i open_disc ≡ open_disc → is_opened (get_or (answers e st cs) i cut) ≡ true
  list-opens opens i l q = rw (answer-place e cs st i l, q) (opens _ _ _ (holds i))

  -- after a list that does not end in a cut the invariant holds
  pub list-ends : ends_cut false (answers e st cs) ≡ false → Keeps false (final e st cs) (followed h σ cs (answers e st cs))
  list-ends q = rw q at (list-state Keeps h e sound cs false st σ first proper)

  -- the answer of each call says that it was cut exactly if the plain store knows it
  pub list-told : ((down : Bool) (x : State) (τ : Store) (c : Call) → Keeps down x τ → (down ≡ true → c ≡ open_disc) → Told h τ c (step e x c).answer)
      → (i : ℕ) → i < length cs → Told h (followed h σ (take i cs) (answers e st (take i cs))) (get_or cs i open_disc) (get_or (answers e st cs) i cut)
  list-told told i l = rw (answer-place e cs st i l) (told _ _ _ _ (holds i) (proper-place e cs st false proper i l))
