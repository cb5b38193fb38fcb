-- Laws of what C sees of the calls on a disc. Assumes nothing.
use Prim.Native.Nat.{ℕ}
use mathlib.Core.Path.{◌≡◌, refl, ap, sym, ◌∙◌}
use mathlib.Core.List.{List}
use borrow.Author.Tests.{eq-eqb, ne_eqb}
use lib.ListN.{length, set}
use Rattle.refusal.specs.declared.Refusal.{Refusal}
use Rattle.refusal.specs.Number.{number_of, answer_number}
use Rattle.model.specs.declared.Cut.{Cut}
use Rattle.model.specs.declared.Record.{Record}
use Rattle.model.specs.declared.Reply.{Reply}
use Rattle.std.specs.Prelude.{Result, Ok, Err}
use Rattle.model.specs.declared.Opened.{Opened}
use Rattle.refusal.specs.Verdict.{Verdict}
use Rattle.model.specs.declared.Forecast.{Forecast}
use Rattle.model.specs.Disc.{Disc}
use Rattle.model.specs.Examine.{Setting}
use Rattle.model.specs.Plan.{Plan, refuse, reply_of, disc_after, table_after, Meets}
use Rattle.model.specs.Both.{opening, opened_table, reading, read_bytes}
use Rattle.model.specs.Forecast.{forecast}
use Rattle.once_open.specs.Calls.{fullness_of}
use Rattle.model.specs.Told.{reply_number, forecast_number}
use Rattle.call_numbers.specs.Numbers.{record_of, record_after, record_opened, forecast_after, length_refusal}
use Rattle.call_lists.proofs.Listing.{one_set}
use Rattle.capi.specs.Calls.{lent_plan, SeenWrite, lent_opening, lent_opened_table, lent_reading, lent_read_bytes, both_lent, lent_fullness, measured_after, lent_forecast}

-- ---- the writing calls

module _ (e : Setting) (d : Disc) (k : List ℕ) (p : Plan) where
  -- a record of another length
  plan-short : (length k ≡ 5 → ⊥) → lent_plan e d k p ≡ refuse (length_refusal e d)
  unfolding lent_plan
  plan-short h = let a = ne_eqb (length k) 5 h in rw a

  -- and one of five numbers
  plan-five : length k ≡ 5 → lent_plan e d k p ≡ p
  unfolding lent_plan
  plan-five h = let a = eq-eqb (length k) 5 h in rw a

  -- what is seen of a call that is lent a record of another length
  pub seen-short : (c : Cut) (t : List ℕ) {n : ℕ} → (length k ≡ 5 → ⊥) → n ≡ number_of (length_refusal e d) → SeenWrite (lent_plan e d k p) c d t k n d t k
  unfolding reply_of disc_after table_after
  seen-short c t h q = let s = plan-short h in rw s (record { number = q; disc = refl; table = refl; kept = refl })

  -- what is seen of a call that meets its plan
  pub seen-met : {c b : Cut} {t : List ℕ} {q : Plan} {r : Result Reply Refusal} {d' : Disc} {t' k' : List ℕ} {n : ℕ} → length k ≡ 5 → q ≡ p → b ≡ c → Meets q b d t r d' t' → k' ≡ record_after r k → n ≡ reply_number r → SeenWrite (lent_plan e d k p) c d t k n d' t' k'
  seen-met h qp bc m hk hn =
      let s = plan-five h in
      rw (s, ← qp, ← bc)
      record {
        number = hn ∙ ap reply_number m.reply;
        disc = m.disc;
        table = m.table;
        kept = hk ∙ ap (λ (x : Result Reply Refusal). record_after x k) m.reply;
      }

-- ---- opening

module _ (e : Setting) (d : Disc) (t k : List ℕ) where
  -- what is seen of it: the number that is returned, the table and the record
  abbrev Opens : ℕ → List ℕ → List ℕ → Type 0
  Opens n t' k' = (n ≡ answer_number (lent_opening e d t k)) × ((t' ≡ lent_opened_table e d t k) × (k' ≡ record_opened (lent_opening e d t k) k))

  -- a record of another length
  pub open-short : {n : ℕ} → (length k ≡ 5 → ⊥) → n ≡ number_of (length_refusal e d) → Opens n t k
  unfolding lent_opening lent_opened_table
  open-short h q = let a = ne_eqb (length k) 5 h in rw a (q, (refl, refl))

  -- one of five numbers
  pub open-five : {o : Result Opened Refusal} {n : ℕ} {t' k' : List ℕ} → length k ≡ 5 → o ≡ opening e d t → t' ≡ opened_table e d t → k' ≡ record_opened o k → n ≡ answer_number o → Opens n t' k'
  unfolding lent_opening lent_opened_table
  open-five h q ht hk hn =
      let a = eq-eqb (length k) 5 h in
      rw a (hn ∙ ap answer_number q, (ht, hk ∙ ap (λ (x : Result Opened Refusal). record_opened x k) q))

-- ---- reading

module _ (e : Setting) (d : Disc) (t k : List ℕ) (v : ℕ) (out : List ℕ) where
  -- what is seen of it: the number that is returned and the lent bytes
  abbrev Reads : ℕ → List ℕ → Type 0
  Reads n out' = (n ≡ answer_number (lent_reading e d t k v out)) × (out' ≡ lent_read_bytes e d t k v out)

  -- a record of another length
  pub read_short : {n : ℕ} → (length k ≡ 5 → ⊥) → n ≡ number_of (length_refusal e d) → Reads n out
  unfolding lent_reading lent_read_bytes
  read_short h q = let a = ne_eqb (length k) 5 h in rw a (q, refl)

  -- one of five numbers
  pub read-five : {held : Record} {g : Verdict} {n : ℕ} {out' : List ℕ} → length k ≡ 5 → held ≡ record_of k → g ≡ reading e d t held v out → out' ≡ read_bytes e d t held v out → n ≡ answer_number g → Reads n out'
  unfolding lent_reading lent_read_bytes
  read-five h w q ho hn =
      let a = eq-eqb (length k) 5 h in
      rw (a, ← w) (hn ∙ ap answer_number q, ho)

-- ---- fullness and the forecast

-- what is seen of an answer: the number that is returned and the lent result
abbrev Seen : {A : Type 0} → (A → ℕ) → (A → List ℕ → List ℕ) → A → List ℕ → ℕ → List ℕ → Type 0
Seen number after a result n out = (n ≡ number a) × (out ≡ after a result)

-- of one that is named otherwise
seen_as_law : {A : Type 0} (number : A → ℕ) (after : A → List ℕ → List ℕ) {a m : A} {result : List ℕ} {n : ℕ} {out : List ℕ} → a ≡ m → n ≡ number m → out ≡ after m result → Seen number after a result n out
seen_as_law number after q hn ho = rw q (hn, ho)

-- a is the answer of a call that is lent the record k and a result of s numbers, b its refusal where one has another length
module _ {A : Type 0} (s : ℕ) (k result : List ℕ) (a b : A) where
  -- a record of another length
  other-record : (length k ≡ 5 → ⊥) → both_lent s k result a b ≡ b
  other-record h = let x = ne_eqb (length k) 5 h in rw x

  -- a result of another length
  other_result : length k ≡ 5 → (length result ≡ s → ⊥) → both_lent s k result a b ≡ b
  other_result g h = let x = eq-eqb (length k) 5 g in let y = ne_eqb (length result) s h in rw (x, y)

  -- both as stated
  both-stated : length k ≡ 5 → length result ≡ s → both_lent s k result a b ≡ a
  both-stated g h = let x = eq-eqb (length k) 5 g in let y = eq-eqb (length result) s h in rw (x, y)

module _ (e : Setting) (d : Disc) (t k result : List ℕ) where
  -- what is seen of fullness
  abbrev Fullness : ℕ → List ℕ → Type 0
  Fullness = Seen answer_number measured_after (lent_fullness e d t k result) result

  pub full-no-record : {n : ℕ} → (length k ≡ 5 → ⊥) → n ≡ number_of (length_refusal e d) → Fullness n result
  unfolding lent_fullness
  full-no-record h q = seen_as_law answer_number measured_after (other-record 1 k result _ _ h) q refl

  pub full-no-result : {n : ℕ} → length k ≡ 5 → (length result ≡ 1 → ⊥) → n ≡ number_of (length_refusal e d) → Fullness n result
  unfolding lent_fullness
  full-no-result g h q = seen_as_law answer_number measured_after (other_result 1 k result _ _ g h) q refl

  module _ {held : Record} {m : Result ℕ Refusal} (g : length k ≡ 5) (h : length result ≡ 1) (w : held ≡ record_of k) (q : m ≡ fullness_of e d t held) where
    -- its answer
    full-lent : lent_fullness e d t k result ≡ m
    unfolding lent_fullness
    full-lent = both-stated 1 k result _ _ g h ∙ sym (q ∙ ap (fullness_of e d t) w)

    -- told
    pub full-told : {x : ℕ} → m ≡ Ok x → Fullness 0 (set result 0 x)
    full-told {x} is = seen_as_law answer_number measured_after (full-lent ∙ is) refl (one_set result x h)

    -- refused
    pub full-refused : {why : Refusal} {n : ℕ} → m ≡ Err why → n ≡ number_of why → Fullness n result
    full-refused is hn = seen_as_law answer_number measured_after (full-lent ∙ is) hn refl

module _ (e : Setting) (d : Disc) (t k xs result : List ℕ) where
  -- what is seen of the forecast
  abbrev Forecasting : ℕ → List ℕ → Type 0
  Forecasting = Seen forecast_number forecast_after (lent_forecast e d t k xs result) result

  pub forecast-no-record : {n : ℕ} → (length k ≡ 5 → ⊥) → n ≡ number_of (length_refusal e d) → Forecasting n result
  unfolding lent_forecast
  forecast-no-record h q = seen_as_law forecast_number forecast_after (other-record 3 k result _ _ h) q refl

  pub forecast-no-result : {n : ℕ} → length k ≡ 5 → (length result ≡ 3 → ⊥) → n ≡ number_of (length_refusal e d) → Forecasting n result
  unfolding lent_forecast
  forecast-no-result g h q = seen_as_law forecast_number forecast_after (other_result 3 k result _ _ g h) q refl

  pub forecast-seen : {held : Record} {f : Result Forecast Refusal} {n : ℕ} {out : List ℕ} → length k ≡ 5 → length result ≡ 3 → held ≡ record_of k → f ≡ forecast e d t held xs → n ≡ forecast_number f → out ≡ forecast_after f result → Forecasting n out
  unfolding lent_forecast
  forecast-seen g h w q hn ho =
      seen_as_law forecast_number forecast_after (both-stated 3 k result _ _ g h ∙ sym (q ∙ ap (λ (r : Record). forecast e d t r xs) w)) hn ho
