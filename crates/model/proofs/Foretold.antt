-- The forecast is what carrying the list out gives (02, slip 9): item by item, the tests of the forecast are those of the call, and a call that is
-- carried out leaves a state from which the next is judged so. Assumes nothing.
use Prim.Native.Nat.{ℕ, ◌+◌, ◌<◌}
use mathlib.Core.Bool.{Bool, true, false, not, ◌&&◌, false≢true}
use mathlib.Core.Path.{◌≡◌, refl, sym, ap, ◌∙◌, subst}
use mathlib.Core.List.{List, [], ◌∷◌}
use native.Mathlib.Omega.{arith}
use lib.ListN.{length, length-replicate}
use borrow.Author.Tests.{eq-eqb, not-false}
use Rattle.refusal.specs.declared.Refusal.{Refusal}
use Rattle.refusal.specs.declared.Refusal.TheVariants.{NumberOutside, PassesAsIcb, NoRoom}
use Rattle.refusal.specs.Verdict.{Verdict}
use Rattle.std.specs.Prelude.{Ok, Err, Result}
use Rattle.refusal.specs.Tests.{test, first, need}
use Rattle.fields.specs.Bytes.{part}
use Rattle.fields.specs.Number.{value, field}
use Rattle.model.specs.declared.Cut.{Cut}
use Rattle.model.specs.declared.Record.{Record}
use Rattle.model.specs.declared.Forecast.{Forecast}
use Rattle.model.specs.Disc.{Disc}
use Rattle.model.specs.Writes.{Write, writes, struck, no_cut}
use Rattle.model.specs.Vat.{tag_fits, passes}
use Rattle.model.specs.Plan.{carry, unless}
use Rattle.model.specs.Examine.{Setting, lent_table}
use Rattle.model.specs.Once.{next_held, once_verdict, room_to_save, number_fits, save_tests, save_lent, save_plan, room_to_commit, commit_tests, commit_plan, held_verdict}
use Rattle.model.specs.Calls.{save_virtual, commit, Answer, done, cut, refused, State, Stepped, carried, step, answers, final}
use Rattle.model.specs.Forecast.{is_commit, item_tests, item_record, item_by, forecast_from, forecast_by, forecast, item_call, item_calls, or_refused, told, carried_out, Unhindered, ForecastTrue, ForecastMet}
use Rattle.model.specs.Examples.{zeros}
use Rattle.model.proofs.Basics.{by_bool}
use Rattle.model.proofs.Verdicts.{by-verdict, once-stops, once-goes}
use Rattle.model.proofs.Steps.{plan-stopped, plan-cut, plan-done}
use Rattle.model.proofs.OnceFits.{Fits, fits, fits-go}
use Rattle.model.proofs.OnceSave.{saved-fits}
use Rattle.model.proofs.OnceCommit.{committed-fits}

-- ---- the tests of a save, with line 15 and without it

-- b and d are lines 12 and 16, and p line 15; where that holds, the others decide
module _ (b p d : Bool) where
  abbrev full : Verdict
  full = first (test b NumberOutside ∷ test p PassesAsIcb ∷ test d NoRoom ∷ [])

  abbrev short : Verdict
  short = first (test b NumberOutside ∷ test d NoRoom ∷ [])

-- either line 15 stops the save, or the verdicts are the same
by-fifteen : {P : Type 0} (b p d : Bool) → (p ≡ false → full b p d ≡ Err PassesAsIcb → P) → (full b p d ≡ short b p d → P) → P
unfolding need
by-fifteen true true d f g = g refl
by-fifteen true false d f g = f refl refl
by-fifteen false p d f g = g refl

-- ---- one item

-- what became of an item that was carried out as a call: it was stopped as its tests say, under line 15, or cut; or it left the record that the
-- forecast goes on with, and lines 1 to 7 and 11 satisfied
data Became (e : Setting) (st : State) (x : ℕ) (b : List ℕ) (c : Cut) (r : Stepped) : Type 0 where
  stopped : (why : Refusal) → first (item_tests e st.held x) ≡ Err why → r.answer ≡ refused why → Became e st x b c r
  passing : passes st.disc e.start (next_held st.held) b ≡ true → r.answer ≡ refused PassesAsIcb → Became e st x b c r
  struck_out : (n : ℕ) → struck c n ≡ true → r.answer ≡ cut → Became e st x b c r
  went : first (item_tests e st.held x) ≡ Ok tt → (h : Record) → r.answer ≡ done h → r.state.held ≡ item_record st.held x → Fits e r.state
      → Became e st x b c r

-- by its plan, where the plan's verdict is that of the item's tests
became-plan : (e : Setting) (st : State) (x : ℕ) (b : List ℕ) (v : Verdict) (ws : List Write) (t : List ℕ) (r : Record) (k : Cut)
    → v ≡ first (item_tests e st.held x)
    → r ≡ item_record st.held x
    → (v ≡ Ok tt → struck k (length ws) ≡ false → Fits e (record { disc = writes 1 k ws st.disc; table = t; held = r }))
    → Became e st x b k (carried (unless v (carry ws t r)) k st)
became-plan e st x b v ws t r k is left keeps =
    by-verdict v
    (λ g.
    by_bool (struck k (length ws))
    (λ s. struck_out (length ws) s (plan-cut ws t r k st g s))
    (λ s.
    let all = plan-done ws t r k st g s in
    went (sym is ∙ g) r (ap (λ (y : Stepped). y.answer) all) (ap (λ (y : Stepped). y.state.held) all ∙ left)
    (subst (λ (y : Stepped). Fits e y.state) (sym all) (keeps g s))))
    (λ why g. stopped why (sym is ∙ g) (plan-stopped ws t r k st g))

-- a block of 2,048 bytes leaves line 3 to the table
lent-block : (t b : List ℕ) → length b ≡ 2048 → save_lent t b ≡ lent_table t
unfolding save_lent
lent-block t b long = rw (eq-eqb _ _ long) (and_right (lent_table t))
  where
    and_right : (a : Bool) → a && true ≡ a
    and_right true = refl
    and_right false = refl

module _ (e : Setting) (st : State) where
  abbrev d : Disc
  d = st.disc

  -- the verdict of a save, and of a commit, after that of lines 1 to 7 and 11
  save-verdict : (v : ℕ) (b : List ℕ) → length b ≡ 2048
      → once_verdict e d st.table (save_lent st.table b) st.held (save_tests e d st.held v b)
      ≡ once_verdict e d st.table (lent_table st.table) st.held (save_tests e d st.held v b)
  save-verdict v b long =
      ap (λ (l : Bool). once_verdict e d st.table l st.held (save_tests e d st.held v b)) (lent-block st.table b long)

  -- where those let it go on
  module _ (f : Fits e st) where
    common : once_verdict e d st.table (lent_table st.table) st.held [] ≡ Ok tt
    unfolding held_verdict
    common = fits-go e st f

    became-save : (v : ℕ) (b : List ℕ) (c : Cut) → is_commit v ≡ false → length b ≡ 2048 → Became e st v b c (step e st (save_virtual v b c))
    unfolding step save_plan save_tests item_tests item_record
    became-save v b c not-one long =
        let own : once_verdict e d st.table (save_lent st.table b) st.held (save_tests e d st.held v b) ≡ first (save_tests e d st.held v b) =
        save-verdict v b long ∙ once-goes e d st.table _ st.held _ common in
        by-fifteen (number_fits st.held v) (not (passes d e.start (next_held st.held) b)) (room_to_save e.span st.held v)
        (λ p q. passing (not-false _ p) (plan-stopped _ _ _ c st (own ∙ q)))
        (λ q.
        became-plan e st v b _ _ _ _ c (own ∙ q ∙ sym (rw not-one)) (sym (rw not-one))
        (λ g s. saved-fits e st v b c g s))

    became-commit : (x : ℕ) (b : List ℕ) (c : Cut) → is_commit x ≡ true → Became e st x b c (step e st (commit c))
    unfolding step commit_plan item_tests item_record
    became-commit x b c is_one =
        became-plan e st x b _ _ _ _ c (once-goes e d st.table _ st.held _ common ∙ sym (rw is_one)) (sym (rw is_one))
        (λ g s. committed-fits e st c g s)

    became : (x : ℕ) (b : List ℕ) (c : Cut) → length b ≡ 2048 → Became e st x b c (step e st (item_call x b c))
    unfolding item_call
    became x b c long = by_bool (is_commit x) (λ q. rw q (became-commit x b c q)) (λ q. rw q (became-save x b c q long))

  -- where those stop it, they stop every item
  stops-too : (x : ℕ) (b : List ℕ) (c : Cut) (why : Refusal) → length b ≡ 2048 → held_verdict e d st.table st.held ≡ Err why
      → (step e st (item_call x b c)).answer ≡ refused why
  unfolding item_call held_verdict step save_plan commit_plan
  stops-too x b c why long h =
      by_bool (is_commit x)
      (λ q. rw q (plan-stopped _ _ _ c st (once-stops e d st.table _ st.held _ h)))
      (λ q. rw q (plan-stopped _ _ _ c st (save-verdict x b long ∙ once-stops e d st.table _ st.held _ h)))

-- ---- the list

-- a refusal is the same in both,
stop-same : {v : Verdict} {a : Answer} {why : Refusal} (i : ℕ) (f g : Result Forecast Refusal) → v ≡ Err why → a ≡ refused why → item_by v i f ≡ or_refused a i g
unfolding item_by or_refused
stop-same i f g p q = rw (p, q)

-- and where there is none the rest decides
go_same : {v : Verdict} {a : Answer} {h : Record} (i : ℕ) {f g : Result Forecast Refusal} → v ≡ Ok tt → a ≡ done h → f ≡ g → item_by v i f ≡ or_refused a i g
unfolding item_by or_refused
go_same i p q r = rw (p, q, r)

-- a list that is carried out unhindered has no refusal under 15 and no cut, and its rest is so
module _ {a : Answer} (al : List Answer) (u : Unhindered (a ∷ al)) where
  not-passing : a ≡ refused PassesAsIcb → ⊥
  unfolding Unhindered
  not-passing q = (rw q at u) refl

  not-cut : a ≡ cut → ⊥
  unfolding Unhindered
  not-cut q = rw q at u

  rest-too : {h : Record} → a ≡ done h → Unhindered al
  unfolding Unhindered
  rest-too q = rw q at u

-- an item, and what the rest gives from the record after it
item : (e : Setting) (st : State) (x i : ℕ) (b : List ℕ) (c : Cut) (r : Stepped) (al : List Answer) (f : Record → Result Forecast Refusal) (g : Result Forecast Refusal) → Became e st x b c r → Unhindered (r.answer ∷ al)
    → (Fits e r.state → Unhindered al → f r.state.held ≡ g)
    → item_by (first (item_tests e st.held x)) i (f (item_record st.held x)) ≡ or_refused r.answer i g
item e st x i b c r al f g (stopped why t a) u rest = stop-same i _ _ t a
item e st x i b c r al f g (passing p a) u rest = absurd (not-passing al u a)
item e st x i b c r al f g (struck_out n s a) u rest = absurd (not-cut al u a)
item e st x i b c r al f g (went t h a k y) u rest = go_same i t a (ap f (sym k) ∙ rest y (rest-too al u a))

module _ (e : Setting) (blocks : ℕ → List ℕ) (cuts : ℕ → Cut) (long : (i : ℕ) → length (blocks i) ≡ 2048) where
  from : (xs : List ℕ) (i : ℕ) (st : State) → Fits e st → Unhindered (answers e st (item_calls blocks cuts i xs))
      → forecast_from e i st.held xs ≡ told i (answers e st (item_calls blocks cuts i xs)) (final e st (item_calls blocks cuts i xs)).held
  unfolding forecast_from told item_calls answers final
  from [] i st f u = refl
  from (x ∷ xs) i st f u =
      item e st x i _ _ _ _ (λ (h : Record). forecast_from e (i + 1) h xs) _ (became e st f x (blocks i) (cuts i) (long i)) u
      (λ g w. from xs (i + 1) _ g w)

  -- where the call is refused, the first item is
  first-too : (xs : List ℕ) (st : State) (why : Refusal) → held_verdict e st.disc st.table st.held ≡ Err why → 0 < length xs
      → told 0 (answers e st (item_calls blocks cuts 0 xs)) (final e st (item_calls blocks cuts 0 xs)).held ≡ Ok (Forecast.Stops 0 why)
  unfolding told item_calls answers final or_refused
  first-too [] st why g some = absurd (omega arith)
  first-too (x ∷ xs) st why g some = rw (stops-too e st x (blocks 0) (cuts 0) why (long 0) g)

-- the forecast of the items is no refusal of the call
never-refused : (e : Setting) (xs : List ℕ) (i : ℕ) (held : Record) (why : Refusal) → forecast_from e i held xs ≡ Err why → ⊥
unfolding forecast_from item_by
never-refused e [] i held why q = let z : ◌≡◌ {A = ℕ} 0 1 = cc in absurd (omega arith)
never-refused e (x ∷ xs) i held why q =
    by-verdict (first (item_tests e held x))
    (λ g. never-refused e xs (i + 1) (item_record held x) why (rw g at q))
    (λ w g. let p : (Ok (Forecast.Stops i w)) ≡ Err why = rw g at q in let z : ◌≡◌ {A = ℕ} 0 1 = cc in absurd (omega arith))

pub forecast-true : ForecastTrue
unfolding ForecastTrue carried_out forecast forecast_by
forecast-true e st xs blocks cuts long =
    by-verdict (held_verdict e st.disc st.table st.held)
    (λ g.
    record {
      exactly = λ _ u. rw g (from e blocks cuts long xs 0 st (fits e st g) u);
      likewise = λ why q _. absurd (never-refused e xs 0 st.held why (rw g at q));
    })
    (λ why g.
    record {
      exactly = λ n _. absurd (n why (rw g));
      likewise = λ w q some.
          let p : Err why ≡ Err w = rw g at q in
          let same : why ≡ w = cc in
          first-too e blocks cuts long xs st why g some ∙ ap (λ (w : Refusal). Ok (Forecast.Stops 0 w)) same;
    })

-- ---- blocks of zeros, uncut

-- they pass as no ICB
zeros-plain : (d : Disc) (s k : ℕ) → passes d s k zeros ≡ true → ⊥
unfolding passes tag_fits field part value zeros
zeros-plain d s k q = false≢true q

zeros-long : length zeros ≡ 2048
unfolding zeros
zeros-long = length-replicate {A = ℕ} 2048 0

-- no item is stopped under 15 by its own tests,
not-fifteen : (e : Setting) (held : Record) (x : ℕ) → first (item_tests e held x) ≡ Err PassesAsIcb → ⊥
unfolding item_tests commit_tests need
not-fifteen e held x q =
    by_bool (is_commit x)
    (λ c. one (room_to_commit e.span held) (rw c at q))
    (λ c. two (number_fits held x) (room_to_save e.span held x) (rw c at q))
  where
    one : (a : Bool) → need a NoRoom (Ok tt) ≡ Err PassesAsIcb → ⊥
    one true h = let z : ◌≡◌ {A = ℕ} 0 1 = cc in absurd (omega arith)
    one false h = let z : ◌≡◌ {A = ℕ} 0 1 = cc in absurd (omega arith)

    two : (a b : Bool) → need a NumberOutside (need b NoRoom (Ok tt)) ≡ Err PassesAsIcb → ⊥
    two true b h = one b h
    two false b h = let z : ◌≡◌ {A = ℕ} 0 1 = cc in absurd (omega arith)

-- and no call is cut
uncut : (n : ℕ) → struck no_cut n ≡ true → ⊥
unfolding struck no_cut
uncut n q = false≢true q

-- an item of zeros hinders nothing
zero-item : (e : Setting) (st : State) (x : ℕ) (r : Stepped) (al : List Answer) → Became e st x zeros no_cut r → (Fits e r.state → Unhindered al) → Unhindered (r.answer ∷ al)
unfolding Unhindered
zero-item e st x r al (stopped why t a) rest = rw a (λ q. not-fifteen e st.held x (t ∙ ap Err q))
zero-item e st x r al (passing p a) rest = absurd (zeros-plain st.disc e.start (next_held st.held) p)
zero-item e st x r al (struck_out n s a) rest = absurd (uncut n s)
zero-item e st x r al (went t h a k g) rest = rw a (rest g)

zero-none : Unhindered []
unfolding Unhindered
zero-none = tt

zero-items : (e : Setting) (xs : List ℕ) (i : ℕ) (st : State) → Fits e st → Unhindered (answers e st (item_calls (λ i. zeros) (λ i. no_cut) i xs))
unfolding item_calls answers
zero-items e [] i st f = zero-none
zero-items e (x ∷ xs) i st f =
    zero-item e st x _ _ (became e st f x zeros no_cut zeros-long) (λ g. zero-items e xs (i + 1) _ g)

pub forecast-met : ForecastMet
unfolding ForecastMet forecast forecast_by
forecast-met e st xs n =
    by-verdict (held_verdict e st.disc st.table st.held)
    (λ g. zero-items e xs 0 st (fits e st g))
    (λ why g. absurd (n why (rw g)))
