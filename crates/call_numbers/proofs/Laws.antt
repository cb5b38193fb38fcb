-- Laws of the lent numbers. Assumes nothing.
use Prim.Native.Nat.{ℕ}
use mathlib.Core.Path.{◌≡◌, refl, ap, sym, ◌∙◌}
use mathlib.Core.Bool.{Bool, true, false}
use mathlib.Core.List.{List, [], ◌∷◌}
use native.Mathlib.Omega.{arith}
use borrow.Author.Tests.{ne_eqb}
use lib.ListN.{length, get_or, set}
use Rattle.refusal.specs.declared.Refusal.{Refusal}
use Rattle.refusal.specs.declared.Refusal.TheVariants.{DiscShape, SpanOutside, LentLength}
use Rattle.refusal.specs.Verdict.{Verdict, verdict_of}
use Rattle.std.specs.Prelude.{Ok, Err, Result}
use Rattle.refusal.specs.Tests.{need, first, and_then}
use Rattle.refusal.specs.Number.{number_of}
use Rattle.model.specs.declared.Record.{Record}
use Rattle.model.specs.declared.Forecast.{Forecast}
use Rattle.model.specs.Disc.{Disc, shapely, inside}
use Rattle.model.specs.Told.{forecast_number}
use Rattle.model.specs.Examine.{Setting, shape_tests, examined}
use Rattle.model.specs.Once.{held_fits}
use Rattle.model.specs.Rewrite.{held_current}
use Rattle.maps.specs.declared.Volume.{Volume}
use Rattle.examine.specs.Ground.{examined_of}
use Rattle.examine.proofs.Laws.{seen-verdict, held-last}
use Rattle.call_numbers.specs.Numbers.{neither, record_of, numbers_of, forecast_after, reason, length_refusal}

-- ---- the five numbers of a record

-- five numbers, each of them set
five-set : (k : List ℕ) (a b c d p : ℕ) → length k ≡ 5 → set (set (set (set (set k 4 p) 0 a) 1 b) 2 c) 3 d ≡ a ∷ b ∷ c ∷ d ∷ p ∷ []
five-set [] a b c d p h = absurd (omega arith)
five-set (v ∷ []) a b c d p h = absurd (omega arith)
five-set (v ∷ w ∷ []) a b c d p h = absurd (omega arith)
five-set (v ∷ w ∷ x ∷ []) a b c d p h = absurd (omega arith)
five-set (v ∷ w ∷ x ∷ y ∷ []) a b c d p h = absurd (omega arith)
five-set (v ∷ w ∷ x ∷ y ∷ z ∷ []) a b c d p h = refl
five-set (v ∷ w ∷ x ∷ y ∷ z ∷ u ∷ k) a b c d p h = absurd (omega arith)

module _ (k : List ℕ) (p : ℕ) {r : Record} (h : length k ≡ 5) where
  -- to those of a write-once record
  pub put-once : {n next last : ℕ} → r ≡ Record.WriteOnce n next last → set (set (set (set (set k 4 p) 0 0) 1 n) 2 next) 3 last ≡ numbers_of r p
  put-once {n} {next} {last} is = five-set k 0 n next last p h ∙ sym (ap (λ (x : Record). numbers_of x p) is)

  -- to those of a rewritable one
  pub put-rewritable : {n sequence : ℕ} → r ≡ Record.Rewritable n sequence → set (set (set (set (set k 4 p) 0 1) 1 n) 2 sequence) 3 0 ≡ numbers_of r p
  put-rewritable {n} {sequence} is = five-set k 1 n sequence 0 p h ∙ sym (ap (λ (x : Record). numbers_of x p) is)

-- the numbers of a record are read as that record
pub numbers-read : (r : Record) (p : ℕ) → record_of (numbers_of r p) ≡ r
unfolding record_of
numbers-read (Record.WriteOnce n next last) p = refl
numbers-read (Record.Rewritable n sequence) p = refl

-- ---- the three numbers of a forecast

-- three numbers, each of them set
pub three-set : (k : List ℕ) (a b c : ℕ) → length k ≡ 3 → set (set (set k 0 a) 1 b) 2 c ≡ a ∷ b ∷ c ∷ []
three-set [] a b c h = absurd (omega arith)
three-set (v ∷ []) a b c h = absurd (omega arith)
three-set (v ∷ w ∷ []) a b c h = absurd (omega arith)
three-set (v ∷ w ∷ x ∷ []) a b c h = refl
three-set (v ∷ w ∷ x ∷ y ∷ k) a b c h = absurd (omega arith)

-- what is told of a forecast that is lent the result k: the number that is returned, and the result
module _ (k : List ℕ) (f : Result Forecast Refusal) where
  abbrev Tells : ℕ → List ℕ → Type 0
  Tells n out = (n ≡ forecast_number f) × (out ≡ forecast_after f k)

  -- its end
  pub tells-end : {next n : ℕ} {out : List ℕ} → f ≡ Ok (Forecast.Ends next n) → out ≡ 0 ∷ next ∷ n ∷ [] → Tells 0 out
  tells-end is q = rw is (refl, q)

  -- an item that is refused
  pub tells-stop : {i m : ℕ} {why : Refusal} {out : List ℕ} → f ≡ Ok (Forecast.Stops i why) → m ≡ number_of why → out ≡ m ∷ i ∷ 0 ∷ [] → Tells 0 out
  tells-stop {i} is hm q = rw is (refl, q ∙ ap (λ (n : ℕ). n ∷ i ∷ 0 ∷ []) hm)

  -- its refusal
  pub tells-refusal : {why : Refusal} {n : ℕ} → f ≡ Err why → n ≡ number_of why → Tells n k
  tells-refusal is hn = rw is (hn, refl)

-- ---- a kind above 1

-- it is read as a record
pub kind-above : (k : List ℕ) → (get_or k 0 0 ≡ 0 → ⊥) → (get_or k 0 0 ≡ 1 → ⊥) → record_of k ≡ neither
unfolding record_of
kind-above k h i = let a = ne_eqb (get_or k 0 0) 0 h in let b = ne_eqb (get_or k 0 0) 1 i in rw (a, b)

module _ (e : Setting) (d : Disc) (t : List ℕ) where
  -- that line 11 refuses on a write-once disc
  pub neither-once : held_fits e d t neither ≡ false
  neither-once = sym (held-last e d t refl (omega arith))

  -- and on a rewritable one
  pub neither-rewritable : held_current e d t neither ≡ false
  unfolding held_current
  neither-rewritable = refl

-- ---- lines 1 to 3

-- where line 3 stops a call no later line is asked
third-stops : (a b : Bool) (v : Verdict) → and_then (need a DiscShape (need b SpanOutside (need false LentLength (Ok tt)))) v ≡ need a DiscShape (need b SpanOutside (need false LentLength (Ok tt)))
unfolding need
third-stops false b v = refl
third-stops true false v = refl
third-stops true true v = refl

module _ (e : Setting) (d : Disc) {r : Result Volume Refusal} (q : r ≡ examined_of e d false) where
  -- the verdict of an examination with a wrong length
  short-verdict : first (shape_tests e d false) ≡ verdict_of r
  unfolding examined shape_tests
  short-verdict = sym (third-stops (shapely d) (inside d e.start e.span) _) ∙ seen-verdict e d false q

  -- its reason
  pub short-reason : {v : Verdict} → verdict_of r ≡ v → reason v ≡ length_refusal e d
  unfolding length_refusal
  short-reason h = ap reason (sym (short-verdict ∙ h))
