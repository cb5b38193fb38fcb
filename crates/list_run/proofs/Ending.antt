-- What a run comes to: the equations of its contract, and demand 3 and the bound on what its openings pass over, which follow from them. Assumes
-- nothing.
use Prim.Native.Nat.{ℕ, zero, suc, ◌+◌, ◌≤◌, ◌<◌}
use mathlib.Core.Path.{◌≡◌, refl, sym, ap, ◌∙◌}
use mathlib.Core.Bool.{true, false, false≢true}
use mathlib.Core.List.{List, [], ◌∷◌}
use native.Mathlib.Omega.{arith}
use lib.ListN.{length, get_or}
use Rattle.refusal.specs.declared.Refusal.{Refusal}
use Rattle.refusal.specs.Verdict.{Verdict}
use Rattle.std.specs.Prelude.{Ok, Err, Result}
use Rattle.refusal.specs.Number.{answer_number}
use Rattle.model.specs.declared.Record.{Record}
use Rattle.model.specs.declared.Opened.{Opened}
use Rattle.model.specs.Disc.{Disc}
use Rattle.model.specs.Examine.{Setting, write_once}
use Rattle.model.specs.Both.{opening, opened_table, open_verdict, opened_by, filled_by, record_on, passed_on, numbers_on}
use Rattle.model.specs.Calls.{Call, Answer, done, cut, refused, opened, State, answers, final, Proper, is_opened, answer_of_opening}
use Rattle.model.specs.Demand.{Below, after_opening, Kept, seen, Demand3}
use Rattle.model.specs.Consequences.{Follows}
use Rattle.model.specs.Wait.{WaitBounded, WaitExact}
use Rattle.model.proofs.Verdicts.{opened-tells}
use Rattle.model.proofs.ConsequencesLists.{answers-count}
use Rattle.model.proofs.Demand.{demand-3}
use Rattle.model.proofs.Wait.{wait-bounded, wait-exact}
use Rattle.list_step.specs.Stepped.{state_of, passed_by}
use Rattle.list_run.specs.Encoded.{decode, encode, pool_of}
use Rattle.list_run.specs.Listed.{mended, passed_after}
use Rattle.list_run.specs.Outcome.{Outcome, outcome, ran, ran_by, carried_out, listed, answered, Runs}
use Rattle.list_run.specs.Promise.{DemandMet, count_before, WaitMet}
use Rattle.list_run.proofs.Encoding.{decode-encode}
use Rattle.list_run.proofs.Mending.{mended-proper, proper-mended}

-- ---- its own opening

left_by : (v : Verdict) (h : Record) (n : ℕ) (l t : List ℕ) (why : Refusal) → opened_by v h n ≡ Err why → filled_by v l t ≡ t
unfolding opened_by filled_by
left_by (Ok _) h n l t why e = cc
left_by (Err why') h n l t why e = refl

-- an opening that is refused leaves the lent table
left : (e : Setting) (d : Disc) (t : List ℕ) (why : Refusal) → opening e d t ≡ Err why → opened_table e d t ≡ t
unfolding opening opened_table
left e d t why q = left_by (open_verdict e d t) (record_on e d) (passed_on e d) (numbers_on e d) t why q

-- ---- the list

-- every list of calls in which an opening follows a cut is carried out as it is, once its numbers and its pool are lent
pub listed-encode : (e : Setting) (d : Disc) (t : List ℕ) (cs : List Call) → Proper false cs (answers e (after_opening e d t) cs) → listed e d t (encode 0 cs) (pool_of cs) ≡ cs
unfolding listed
listed-encode e d t cs p = ap (mended e (after_opening e d t) false) (decode-encode cs) ∙ proper-mended e (after_opening e d t) false cs p

-- ---- the equations

-- a run whose opening is accepted
pub run-ended : (e : Setting) (d : Disc) (t t' ns pool replies : List ℕ) (held : Record) (passed : ℕ) → opening e d t ≡ Ok (record { handed = held; passed = passed }) → t' ≡ opened_table e d t → carried_out e (state_of d t' held) passed (mended e (state_of d t' held) false (decode ns pool)) replies ≡ ran e d t ns pool replies
unfolding ran ran_by listed after_opening
run-ended e d t t' ns pool replies held passed q h =
    ap (λ (x : List ℕ). carried_out e (state_of d x held) passed (mended e (state_of d x held) false (decode ns pool)) replies) h
    ∙ rw (q, sym (opened-tells e d t held passed q).held)

-- a run whose opening is refused
pub run-refused : (e : Setting) (d : Disc) (t t' ns pool replies : List ℕ) (why : Refusal) → opening e d t ≡ Err why → t' ≡ opened_table e d t → outcome (Err why) d t' replies ≡ ran e d t ns pool replies
unfolding ran ran_by
run-refused e d t t' ns pool replies why q h = ap (λ (x : List ℕ). outcome (Err why) d x replies) (h ∙ left e d t why q) ∙ rw q

-- ---- the promise of a run: of an outcome that the definition gives, its number

-- the number is that of the verdict on its own opening
ran-number : (v : Verdict) (h : Record) (n : ℕ) (e : Setting) (d : Disc) (t ns pool replies : List ℕ) → answer_number (ran_by (opened_by v h n) e d t ns pool replies).result ≡ answer_number v
unfolding opened_by ran_by carried_out
ran-number (Ok _) h n e d t ns pool replies = refl
ran-number (Err why) h n e d t ns pool replies = refl

-- the promise from the equation
pub ran-so : (e : Setting) (d : Disc) {t ns pool replies : List ℕ} {r : Result Opened Refusal} {d' : Disc} {t' replies' : List ℕ} → outcome r d' t' replies' ≡ ran e d t ns pool replies → Runs (record { setting = e; disc = d }) t ns pool replies r d' t' replies'
unfolding ran opening
ran-so e d {t} {ns} {pool} {replies} w =
    record {
      outcome = w;
      number =
          ap (λ (x : Outcome). answer_number x.result) w
          ∙ ran-number (open_verdict e d t) (record_on e d) (passed_on e d) e d t ns pool replies;
    }

-- ---- demand 3

accepts : (e : Setting) (d : Disc) (t : List ℕ) (held : Record) (passed : ℕ) → opening e d t ≡ Ok (record { handed = held; passed = passed }) → is_opened (answer_of_opening (opening e d t)) ≡ true
unfolding is_opened answer_of_opening
accepts e d t held passed q = rw q

-- the list that is carried out is one of which demand 3 speaks
follows-listed : (e : Setting) (d : Disc) (t ns pool : List ℕ) (held : Record) (passed : ℕ) → Below 256 d.bytes → opening e d t ≡ Ok (record { handed = held; passed = passed }) → Follows e d t (listed e d t ns pool)
unfolding listed
follows-listed e d t ns pool held passed low q =
    record { low = low; opens = accepts e d t held passed q; proper = mended-proper e (after_opening e d t) false (decode ns pool) }

kept-listed : (e : Setting) (d : Disc) (t ns pool : List ℕ) → Follows e d t (listed e d t ns pool) → Kept e d t (listed e d t ns pool)
unfolding Demand3
kept-listed e d t ns pool f = demand-3 e d t f.low f.opens (listed e d t ns pool) f.proper

-- the state that is left is the one after that list
state-left : (e : Setting) (d : Disc) (t ns pool replies : List ℕ) (r : Result Opened Refusal) (d' : Disc) (t' replies' : List ℕ) (h held : Record) (n passed : ℕ) → outcome r d' t' replies' ≡ ran_by (Ok (record { handed = h; passed = n })) e d t ns pool replies → r ≡ Ok (record { handed = held; passed = passed }) → state_of d' t' held ≡ final e (after_opening e d t) (listed e d t ns pool)
unfolding ran_by carried_out
state-left e d t ns pool replies r d' t' replies' h held n passed w q =
    let st = final e (after_opening e d t) (listed e d t ns pool) in
    let a : held ≡ st.held = held_in (sym q ∙ ap (λ (x : Outcome). x.result) w) in
    ap (λ (x : Disc). state_of x t' held) (ap (λ (x : Outcome). x.disc) w)
    ∙ ap (λ (x : List ℕ). state_of st.disc x held) (ap (λ (x : Outcome). x.table) w)
    ∙ ap (state_of st.disc st.table) a
  where
    held_in : {x y : Record} {i j : ℕ} → ◌≡◌ {A = Result Opened Refusal} (Ok (record { handed = x; passed = i })) (Ok (record { handed = y; passed = j })) → x ≡ y
    held_in {x} {y} {i} {j} p = let o : ◌≡◌ {A = Opened} (record { handed = x; passed = i }) (record { handed = y; passed = j }) = cc in ap (λ (z : Opened). z.handed) o

kept-met : (e : Setting) (d : Disc) (t ns pool : List ℕ) (r : Result Opened Refusal) (d' : Disc) (t' : List ℕ) → Kept e d t (listed e d t ns pool) → ((held : Record) (passed : ℕ) → r ≡ Ok (record { handed = held; passed = passed }) → state_of d' t' held ≡ final e (after_opening e d t) (listed e d t ns pool)) → DemandMet e d t ns pool r d' t'
unfolding answered
kept-met e d t ns pool r d' t' kept same =
    record {
      opens = λ held passed is i k o. kept.opens i k o;
      reads =
          λ held passed is uncut v out long.
          ap (λ (x : State). seen e x v out) (same held passed is) ∙ kept.reads uncut v out long;
    }

-- ---- how many sectors its openings passed over

-- the number after several answers, of which none is an opening's that was accepted
passed_none : (al : List Answer) (n : ℕ) → ((j : ℕ) → j < length al → is_opened (get_or al j cut) ≡ false) → passed_after al n ≡ n
unfolding passed_after is_opened
passed_none [] n f = refl
passed_none (done r ∷ al) n f = passed_none al n (λ j h. f (suc j) (omega arith))
passed_none (cut ∷ al) n f = passed_none al n (λ j h. f (suc j) (omega arith))
passed_none (refused why ∷ al) n f = passed_none al n (λ j h. f (suc j) (omega arith))
passed_none (opened r m ∷ al) n f = absurd (false≢true (sym (f 0 (omega arith))))

-- and of which the last such is at place i
passed-last : (al : List Answer) (n i : ℕ) → i < length al → ((j : ℕ) → i < j → j < length al → is_opened (get_or al j cut) ≡ false)
    → (h : Record) (m : ℕ) → get_or al i cut ≡ opened h m → passed_after al n ≡ m
unfolding passed_after
passed-last [] n i l f h m q = absurd (omega arith)
passed-last (a ∷ al) n zero l f h m q = ap (λ (x : Answer). passed_after al (passed_by x n)) q ∙ passed_none al m (λ j k. f (suc j) (omega arith) (omega arith))
passed-last (a ∷ al) n (suc i) l f h m q = passed-last al (passed_by a n) i (omega arith) (λ j k w. f (suc j) (omega arith) (omega arith)) h m q

is-opened : (a : Answer) → is_opened a ≡ true → (h : Record) × (m : ℕ) × (a ≡ opened h m)
unfolding is_opened
is-opened (done r) q = absurd (false≢true q)
is-opened cut q = absurd (false≢true q)
is-opened (refused why) q = absurd (false≢true q)
is-opened (opened r n) q = (r, n, refl)

-- what is promised of a run that ended, whose own opening answered so
module _ (e : Setting) (d : Disc) (t ns pool : List ℕ) (f : Follows e d t (listed e d t ns pool)) (r : Result Opened Refusal)
    (same : (held : Record) (passed : ℕ) → r ≡ Ok (record { handed = held; passed = passed }) → passed ≡ passed_after (answered e d t ns pool) (passed_on e d)) where
  as_many : length (answered e d t ns pool) ≡ length (listed e d t ns pool)
  unfolding answered
  as_many = answers-count e (listed e d t ns pool) (after_opening e d t)

  module _ (one : write_once e ≡ true) (i : ℕ) (l : i < length (listed e d t ns pool)) (h : Record) (n : ℕ) (a : get_or (answered e d t ns pool) i cut ≡ opened h n) where
    bounded : n ≤ (count_before e d t ns pool i).begun
    unfolding WaitBounded answered
    bounded = wait-bounded e d t (listed e d t ns pool) one f (passed_on e d) refl i l h n a

    exact : n + (count_before e d t ns pool i).old ≡ (count_before e d t ns pool i).begun
    unfolding WaitExact answered
    exact = wait-exact e d t (listed e d t ns pool) one f (passed_on e d) refl i l h n a

  waits-met : WaitMet e d t ns pool r
  waits-met =
      record {
        each = λ held passed is. bounded;
        exactly = λ held passed is. exact;
        last = λ held passed is one i l o later.
            let a = is-opened (get_or (answered e d t ns pool) i cut) o in
            rw (same held passed is ∙ passed-last (answered e d t ns pool) (passed_on e d) i (rw as_many l) (λ j k w. later j k (rw (← as_many) w)) a.0 a.1 a.2)
            (bounded one i l a.0 a.1 a.2);
        own = λ held passed is none. same held passed is ∙ passed_none (answered e d t ns pool) (passed_on e d) (λ j k. none j (rw (← as_many) k));
      }

-- ---- both promises

-- nothing is promised of a run whose own opening was turned down
pub nothing-met : (e : Setting) (d : Disc) (t ns pool : List ℕ) (r : Result Opened Refusal) (d' : Disc) (t' : List ℕ) (why : Refusal) → r ≡ Err why → DemandMet e d t ns pool r d' t' × WaitMet e d t ns pool r
nothing-met e d t ns pool r d' t' why q = (
  record {
    opens = λ held passed is. absurd (never held passed is);
    reads = λ held passed is. absurd (never held passed is);
  },
  record {
    each = λ held passed is. absurd (never held passed is);
    exactly = λ held passed is. absurd (never held passed is);
    last = λ held passed is. absurd (never held passed is);
    own = λ held passed is. absurd (never held passed is);
  },
)
  where
    never : (held : Record) (passed : ℕ) → r ≡ Ok (record { handed = held; passed = passed }) → ⊥
    never held passed is = let z : ◌≡◌ {A = ℕ} 0 1 = cc in omega arith

refused-result : (r : Result Opened Refusal) (d' : Disc) (t' replies' : List ℕ) (why : Refusal) (e : Setting) (d : Disc) (t ns pool replies : List ℕ) → outcome r d' t' replies' ≡ ran_by (Err why) e d t ns pool replies → r ≡ Err why
unfolding ran_by
refused-result r d' t' replies' why e d t ns pool replies w = ap (λ (x : Outcome). x.result) w

-- the number that is handed back
passed-left : (e : Setting) (d : Disc) (t ns pool replies : List ℕ) (r : Result Opened Refusal) (d' : Disc) (t' replies' : List ℕ) (h held : Record) (n passed : ℕ) → outcome r d' t' replies' ≡ ran_by (Ok (record { handed = h; passed = n })) e d t ns pool replies → n ≡ passed_on e d → r ≡ Ok (record { handed = held; passed = passed }) → passed ≡ passed_after (answered e d t ns pool) (passed_on e d)
unfolding ran_by carried_out answered
passed-left e d t ns pool replies r d' t' replies' h held n passed w m q = passed-in (sym q ∙ ap (λ (x : Outcome). x.result) w) ∙ ap (passed_after (answered e d t ns pool)) m
  where
    passed-in : {x y : Record} {i j : ℕ} → ◌≡◌ {A = Result Opened Refusal} (Ok (record { handed = x; passed = i })) (Ok (record { handed = y; passed = j })) → i ≡ j
    passed-in {x} {y} {i} {j} p = let o : ◌≡◌ {A = Opened} (record { handed = x; passed = i }) (record { handed = y; passed = j }) = cc in ap (λ (z : Opened). z.passed) o

met_by : (o : Result Opened Refusal) (e : Setting) (d : Disc) (t ns pool replies : List ℕ) (r : Result Opened Refusal) (d' : Disc) (t' replies' : List ℕ) → Below 256 d.bytes → opening e d t ≡ o → outcome r d' t' replies' ≡ ran_by o e d t ns pool replies → DemandMet e d t ns pool r d' t' × WaitMet e d t ns pool r
met_by (Ok o) e d t ns pool replies r d' t' replies' low q w =
    let h = o.handed in
    let n = o.passed in
    let f = follows-listed e d t ns pool h n low q in (
      kept-met e d t ns pool r d' t' (kept-listed e d t ns pool f) (λ held passed. state-left e d t ns pool replies r d' t' replies' h held n passed w),
      waits-met e d t ns pool f r (λ held passed. passed-left e d t ns pool replies r d' t' replies' h held n passed w (sym (opened-tells e d t h n q).passed)),
    )
met_by (Err why) e d t ns pool replies r d' t' replies' low q w =
    nothing-met e d t ns pool r d' t' why (refused-result r d' t' replies' why e d t ns pool replies w)

-- the equation of a run has demand 3 and the bound
pub promises-met : (e : Setting) (d : Disc) (t ns pool replies : List ℕ) (r : Result Opened Refusal) (d' : Disc) (t' replies' : List ℕ) → Below 256 d.bytes → outcome r d' t' replies' ≡ ran e d t ns pool replies → DemandMet e d t ns pool r d' t' × WaitMet e d t ns pool r
unfolding ran
promises-met e d t ns pool replies r d' t' replies' low w = met_by (opening e d t) e d t ns pool replies r d' t' replies' low refl w
