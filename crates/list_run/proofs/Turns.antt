-- Laws of the loop that carries out a list: what is left of it comes to what the whole comes to. Assumes nothing.
use Prim.Native.Nat.{ℕ, ◌+◌, ◌*◌, ◌<◌, ◌≤◌}
use mathlib.Core.Path.{◌≡◌, refl, sym, ap, subst, ◌∙◌}
use mathlib.Core.Bool.{Bool, false}
use mathlib.Core.List.{List, [], ◌∷◌, ◌++◌, append_assoc}
use native.Mathlib.Omega.{arith}
use native.Mathlib.Numerals.{add-one}
use lib.ListN.{length, get_or, set, take, drop, length-set, take-append-drop, drop_of_length-le}
use lib.Seq.{take-suc-set, drop-set-lt, drop-cons, take_all, set_out}
use Rattle.model.specs.declared.Record.{Record}
use Rattle.model.specs.declared.Opened.{Opened}
use Rattle.std.specs.Prelude.{Result, Ok, Err}
use Rattle.refusal.specs.declared.Refusal.{Refusal}
use Rattle.model.specs.declared.Reply.{Reply}
use Rattle.model.specs.Disc.{Disc}
use Rattle.model.specs.Examine.{Setting}
use Rattle.model.specs.Calls.{Call, save_virtual, free_virtual, commit, save_block, save_packet, spare_packet, open_disc, Answer, answers, final, State, step, is_cut, carried, answer_of, held_after, answer_of_opening, held_after_opening}
use Rattle.model.proofs.Basics.{by-lt}
use Rattle.list_step.specs.declared.Answered.{Answered}
use Rattle.list_step.specs.Stepped.{answer_is, number_for, held_by, passed_by, state_of, Stepped}
use Rattle.list_run.specs.Encoded.{decode, call_at}
use Rattle.list_run.specs.Listed.{mended_call, mended, told, passed_after}
use Rattle.list_run.specs.Outcome.{Outcome, outcome, carried_out}
use Rattle.list_run.proofs.Encoding.{decode-next, decode-end}

-- what a list of calls comes to from a state on, where the replies before those of the list are `front`
unfoldable pub toward : Setting → State → Bool → ℕ → List ℕ → List ℕ → List Call → Outcome
toward e st down passed front rest cs =
    outcome
    (Ok (record { handed = (final e st (mended e st down cs)).held; passed = passed_after (answers e st (mended e st down cs)) passed }))
    (final e st (mended e st down cs)).disc
    (final e st (mended e st down cs)).table
    (front ++ told (answers e st (mended e st down cs)) rest)

-- ---- the replies

told_none : (al : List Answer) → told al [] ≡ []
unfolding told
told_none [] = refl
told_none (a ∷ al) = refl

told_here : (a : Answer) (al : List Answer) (r : List ℕ) (i : ℕ) → i < length r → take i r ++ told (a ∷ al) (drop i r) ≡ take (i + 1) (set r i (number_for a)) ++ told al (drop (i + 1) (set r i (number_for a)))
unfolding told
told_here a al r i h =
    let n = number_for a in
    let more : take (i + 1) (set r i n) ≡ take i r ++ (n ∷ []) = rw add-one (take-suc-set r i n h) in
    let left : drop (i + 1) (set r i n) ≡ drop (i + 1) r = drop-set-lt (i + 1) r i n (omega arith) in
    let here : drop i r ≡ get_or r i 0 ∷ drop (i + 1) r = rw add-one (drop-cons r i 0 h) in
    ap (λ (y : List ℕ). take i r ++ told (a ∷ al) y) here
    ∙ sym (append_assoc (take i r) (n ∷ []) (told al (drop (i + 1) r)))
    ∙ ap (λ (y : List ℕ). y ++ told al (drop (i + 1) r)) (sym more)
    ∙ ap (λ (y : List ℕ). take (i + 1) (set r i n) ++ told al y) (sym left)

told-past : (a : Answer) (al : List Answer) (r : List ℕ) (i : ℕ) → length r ≤ i → take i r ++ told (a ∷ al) (drop i r) ≡ take (i + 1) (set r i (number_for a)) ++ told al (drop (i + 1) (set r i (number_for a)))
told-past a al r i h =
    let none : drop i r ≡ [] = drop_of_length-le r h in
    let none' : drop (i + 1) r ≡ [] = drop_of_length-le r {i = i + 1} (omega arith) in
    let same : set r i (number_for a) ≡ r = set_out r i (number_for a) h in
    ap (λ (y : List ℕ). take i r ++ told (a ∷ al) y) none
    ∙ ap (λ (y : List ℕ). take i r ++ y) (told_none (a ∷ al) ∙ sym (told_none al))
    ∙ ap (λ (y : List ℕ). y ++ told al []) (take_all i r h ∙ sym (take_all (i + 1) r (omega arith)))
    ∙ ap (λ (y : List ℕ). take (i + 1) r ++ told al y) (sym none')
    ∙ ap (λ (y : List ℕ). take (i + 1) y ++ told al (drop (i + 1) y)) (sym same)

-- one more reply at place i, as far as the replies reach
told-next : (a : Answer) (al : List Answer) (r : List ℕ) (i : ℕ) → take i r ++ told (a ∷ al) (drop i r) ≡ take (i + 1) (set r i (number_for a)) ++ told al (drop (i + 1) (set r i (number_for a)))
told-next a al r i = by-lt i (length r) (told_here a al r i) (told-past a al r i)

-- ---- one call

held-reply : (r : Result Reply Refusal) (held : Record) → held_after r held ≡ held_by (answer_of r) held
unfolding held_after answer_of
held-reply (Ok (Reply.Done r)) held = refl
held-reply (Ok Reply.Cut) held = refl
held-reply (Err why) held = refl

held-opening : (o : Result Opened Refusal) (held : Record) → held_after_opening o held ≡ held_by (answer_of_opening o) held
unfolding held_after_opening answer_of_opening
held-opening (Ok o) held = refl
held-opening (Err why) held = refl

-- the record in force after a call is told by its answer
pub held-step : (e : Setting) (st : State) (c : Call) → (step e st c).state.held ≡ held_by (step e st c).answer st.held
unfolding step carried
held-step e st (save_virtual v b c) = held-reply _ st.held
held-step e st (free_virtual v) = held-reply _ st.held
held-step e st (commit c) = held-reply _ st.held
held-step e st (save_block n b c) = held-reply _ st.held
held-step e st (save_packet n b c) = held-reply _ st.held
held-step e st (spare_packet n b c) = held-reply _ st.held
held-step e st open_disc = held-opening _ st.held

-- a call whose contract is met is a step
stepped : (e : Setting) (st : State) (c : Call) (a : Result Answered Refusal) (d : Disc) (t : List ℕ) → Stepped e st c a d t → state_of d t (held_by (answer_is a) st.held) ≡ (step e st c).state
stepped e st c a d t q =
    ap (λ (x : Disc). state_of x t (held_by (answer_is a) st.held)) q.disc
    ∙ ap (λ (x : List ℕ). state_of (step e st c).state.disc x (held_by (answer_is a) st.held)) q.table
    ∙ ap (λ (x : Answer). state_of (step e st c).state.disc (step e st c).state.table (held_by x st.held)) q.answer
    ∙ ap (state_of (step e st c).state.disc (step e st c).state.table) (sym (held-step e st c))

-- ---- the turns of the loop

toward-step : (e : Setting) (st : State) (down : Bool) (passed : ℕ) (r : List ℕ) (i : ℕ) (c : Call) (cs : List Call) → toward e st down passed (take i r) (drop i r) (c ∷ cs) ≡ toward e (step e st (mended_call down c)).state (is_cut (step e st (mended_call down c)).answer) (passed_by (step e st (mended_call down c)).answer passed) (take (i + 1) (set r i (number_for (step e st (mended_call down c)).answer))) (drop (i + 1) (set r i (number_for (step e st (mended_call down c)).answer))) cs
unfolding toward mended answers final passed_after
toward-step e st down passed r i c cs =
    let k = mended_call down c in
    let st' = (step e st k).state in
    let a = (step e st k).answer in
    let ks = mended e st' (is_cut a) cs in
    ap (outcome (Ok (record { handed = (final e st' ks).held; passed = passed_after (answers e st' ks) (passed_by a passed) })) (final e st' ks).disc (final e st' ks).table) (told-next a (answers e st' ks) r i)

toward-next : (e : Setting) (st st' : State) (down down' : Bool) (passed passed' : ℕ) (r r' : List ℕ) (i : ℕ) (c : Call) (cs : List Call) (a : Answer) → a ≡ (step e st (mended_call down c)).answer → st' ≡ (step e st (mended_call down c)).state → down' ≡ is_cut a → passed' ≡ passed_by a passed → r' ≡ set r i (number_for a) → toward e st' down' passed' (take (i + 1) r') (drop (i + 1) r') cs ≡ toward e st down passed (take i r) (drop i r) (c ∷ cs)
toward-next e st st' down down' passed passed' r r' i c cs a ea es ed ep er = rw (er, ep, ed, es, ea) (sym (toward-step e st down passed r i c cs))

-- after the calls before `at`, of which there are i; the lent lengths stay as they were
pub record Turn (e : Setting) (ns pool : List ℕ) (st₀ : State) (passed₀ : ℕ) (r₀ : List ℕ) (st : State) (down : Bool) (passed : ℕ) (r : List ℕ) (at i : ℕ) : Type 0 where
  pub within : at ≤ length ns
  pub behind : i ≤ at
  pub disc-long : length st.disc.bytes ≡ length st₀.disc.bytes
  pub marks-long : length st.disc.marks ≡ length st₀.disc.marks
  pub table-long : length st.table ≡ length st₀.table
  pub replies-long : length r ≡ length r₀
  pub comes : toward e st down passed (take i r) (drop i r) (decode (drop at ns) pool) ≡ carried_out e st₀ passed₀ (mended e st₀ false (decode ns pool)) r₀

-- at the start
pub turn-first : (e : Setting) (ns pool : List ℕ) (st₀ : State) (passed₀ : ℕ) (r₀ : List ℕ) → Turn e ns pool st₀ passed₀ r₀ st₀ false passed₀ r₀ 0 0
unfolding toward carried_out
turn-first e ns pool st₀ passed₀ r₀ =
    record {
      within = omega arith;
      behind = omega arith;
      disc-long = refl;
      marks-long = refl;
      table-long = refl;
      replies-long = refl;
      comes = refl;
    }

-- after one more call
pub turn-next : (e : Setting) (ns pool : List ℕ) (st₀ : State) (passed₀ : ℕ) (r₀ : List ℕ) (st : State) (down down' : Bool) (passed passed' : ℕ) (r r' : List ℕ) (at i : ℕ) (a : Result Answered Refusal) (d : Disc) (t : List ℕ) (held : Record)
    → at + 6 ≤ length ns → Stepped e st (mended_call down (call_at ns pool at)) a d t → held ≡ held_by (answer_is a) st.held → down' ≡ is_cut (answer_is a) → passed' ≡ passed_by (answer_is a) passed → r' ≡ set r i (number_for (answer_is a))
    → length d.bytes ≡ length st.disc.bytes → length d.marks ≡ length st.disc.marks → length t ≡ length st.table
    → Turn e ns pool st₀ passed₀ r₀ st down passed r at i → Turn e ns pool st₀ passed₀ r₀ (state_of d t held) down' passed' r' (at + 6) (i + 1)
turn-next e ns pool st₀ passed₀ r₀ st down down' passed passed' r r' at i a d t held h q eh ed ep er ld lm lt v =
    record {
      within = h;
      behind = omega (arith, v.behind);
      disc-long = ld ∙ v.disc-long;
      marks-long = lm ∙ v.marks-long;
      table-long = lt ∙ v.table-long;
      replies-long = ap length er ∙ length-set r i (number_for (answer_is a)) ∙ v.replies-long;
      comes =
          toward-next e st (state_of d t held) down down' passed passed' r r' i (call_at ns pool at) (decode (drop (at + 6) ns) pool) (answer_is a) q.answer (ap (state_of d t) eh ∙ stepped e st (mended_call down (call_at ns pool at)) a d t q) ed ep er
          ∙ ap (toward e st down passed (take i r) (drop i r)) (sym (decode-next ns pool at h))
          ∙ v.comes;
    }

-- the same where the call is number i, of six numbers each
pub turn-round : (e : Setting) (ns pool : List ℕ) (st₀ : State) (passed₀ : ℕ) (r₀ : List ℕ) (st : State) (down down' : Bool) (passed passed' : ℕ) (r r' : List ℕ) (i : ℕ) (a : Result Answered Refusal) (d : Disc) (t : List ℕ) (held : Record)
    → 6 * i + 6 ≤ length ns → Stepped e st (mended_call down (call_at ns pool (6 * i))) a d t → held ≡ held_by (answer_is a) st.held → down' ≡ is_cut (answer_is a) → passed' ≡ passed_by (answer_is a) passed → r' ≡ set r i (number_for (answer_is a))
    → length d.bytes ≡ length st.disc.bytes → length d.marks ≡ length st.disc.marks → length t ≡ length st.table
    → Turn e ns pool st₀ passed₀ r₀ st down passed r (6 * i) i → Turn e ns pool st₀ passed₀ r₀ (state_of d t held) down' passed' r' (6 * (i + 1)) (i + 1)
turn-round e ns pool st₀ passed₀ r₀ st down down' passed passed' r r' i a d t held h q eh ed ep er ld lm lt v =
    let on : 6 * i + 6 ≡ 6 * (i + 1) = omega arith in
    subst (λ (n : ℕ). Turn e ns pool st₀ passed₀ r₀ (state_of d t held) down' passed' r' n (i + 1)) on
    (turn-next e ns pool st₀ passed₀ r₀ st down down' passed passed' r r' (6 * i) i a d t held h q eh ed ep er ld lm lt v)

toward-none : (e : Setting) (st : State) (down : Bool) (passed : ℕ) (r : List ℕ) (i : ℕ) → toward e st down passed (take i r) (drop i r) [] ≡ outcome (Ok (record { handed = st.held; passed = passed })) st.disc st.table r
unfolding toward mended answers final passed_after told
toward-none e st down passed r i = ap (outcome (Ok (record { handed = st.held; passed = passed })) st.disc st.table) (take-append-drop i r)

-- at the end
pub turn_last : (e : Setting) (ns pool : List ℕ) (st₀ : State) (passed₀ : ℕ) (r₀ : List ℕ) (st : State) (down : Bool) (passed : ℕ) (r : List ℕ) (at i : ℕ) → length ns < at + 6 → Turn e ns pool st₀ passed₀ r₀ st down passed r at i → outcome (Ok (record { handed = st.held; passed = passed })) st.disc st.table r ≡ carried_out e st₀ passed₀ (mended e st₀ false (decode ns pool)) r₀
turn_last e ns pool st₀ passed₀ r₀ st down passed r at i h v =
    sym (toward-none e st down passed r i)
    ∙ ap (toward e st down passed (take i r) (drop i r)) (sym (decode-end ns pool at h))
    ∙ v.comes
