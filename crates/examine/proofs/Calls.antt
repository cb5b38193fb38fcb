-- Laws of the calls on a write-once disc: what their common tests tell of a call that goes on, and how a call that is judged stands to its
-- plan. Assumes nothing.
use Rattle.std.proofs.Common.{◌≡◌, ℕ, ◌+◌, ◌*◌, ◌≤◌, Bool, true, eqb, leb, List, [], ◌∷◌, length, sym, ap, subst, ◌∙◌, arith, eqb-true, leb-true}
use Rattle.refusal.specs.declared.Refusal.{Refusal}
use Rattle.refusal.specs.declared.Refusal.TheVariants.{OtherKind, StaleRecord}
use Rattle.refusal.specs.Verdict.{Verdict, verdict_of}
use Rattle.std.specs.Prelude.{Ok, Err, Result}
use Rattle.std.proofs.lemmas.Result.{IfOk-at_ok}
use Rattle.refusal.specs.Tests.{Test, test, first}
use Rattle.refusal.proofs.Laws.{passed}
use Rattle.maps.specs.declared.Volume.{Volume}
use Rattle.model.specs.declared.Record.{Record}
use Rattle.model.specs.Disc.{Disc}
use Rattle.model.specs.Examine.{Setting, write_once, examined, lent_table}
use Rattle.model.specs.Once.{next_on, entries_held, next_held, held_fits, once_verdict}
use Rattle.model.specs.Plan.{Plan, refuse, unless, Meets}
use Rattle.model.specs.declared.Cut.{Cut}
use Rattle.model.specs.declared.Reply.{Reply}
use Rattle.model.proofs.Plans.{refused}
use Rattle.model.proofs.Basics.{and-true}
use Rattle.examine.specs.Ground.{JudgedOnce}
use Rattle.model.proofs.Sectors.{shapely-made, shapely-most, inside-fits, nwa-most}
use Rattle.model.proofs.Verdicts.{then-go, examined-tells, unless-stop, unless-go, once-stops, once-goes}

-- ---- what the common tests tell

-- line 11: N is at most 4,096, and NWA at most L
pub held_tells : (e : Setting) (d : Disc) (t : List ℕ) (held : Record) → held_fits e d t held ≡ true → (entries_held held ≤ 4096) × (next_held held ≤ e.span)
unfolding held_fits entries_held next_held next_on
held_tells e d t (Record.WriteOnce n next last) h =
    let p = and-true (eqb next (next_on e d)) _ h in
    let q = and-true (leb n 4096) _ p.1 in
    let same = eqb-true next (next_on e d) p.0 in
    let most = nwa-most d e.start e.span in
    (leb-true n 4096 q.0, omega arith)
held_tells e d t (Record.Rewritable n sequence) h = let z : ◌≡◌ {A = ℕ} 0 1 = cc in absurd (omega arith)

-- lines 1 to 7 and 11, in numbers
pub record Common (e : Setting) (d : Disc) (lent : Bool) (held : Record) : Type 0 where
  pub shape : length d.bytes ≡ 2048 * length d.marks
  pub few : length d.marks ≤ 1048576
  pub some : 1 ≤ e.span
  pub span : e.start + e.span ≤ length d.marks
  pub lengths : lent ≡ true
  pub entries : entries_held held ≤ 4096
  pub next : next_held held ≤ e.span

-- from their verdict
common : (e : Setting) (d : Disc) (t : List ℕ) (lent : Bool) (held : Record) → once_verdict e d t lent held [] ≡ Ok tt → Common e d lent held
unfolding once_verdict
common e d t lent held h =
    let p = then-go (examined e d lent) _ h in
    let x = examined-tells e d lent p.0 in
    let a = passed (test (write_once e) OtherKind ∷ test (held_fits e d t held) StaleRecord ∷ []) p.1 in
    let f = held_tells e d t held a.1.0 in
    let i = inside-fits d e.start e.span x.within in
    record {
      shape = (shapely-made d x.shape).sized;
      few = shapely-most d x.shape;
      some = i.0;
      span = i.1;
      lengths = x.lengths;
      entries = f.0;
      next = f.1;
    }

-- ---- what `judge_once` answered; x is what the test of the lent lengths did

module _ (e : Setting) (d : Disc) (t : List ℕ) (lent : Bool) (held : Record) {x : Bool} {r : Result Volume Refusal} (is : x ≡ lent) (says : JudgedOnce e d t x held r) where
  -- the verdict of the common tests
  common-verdict : once_verdict e d t lent held [] ≡ verdict_of r
  common-verdict = sym (says.verdict ∙ ap (λ (b : Bool). once_verdict e d t b held []) is)

  -- where they stop the call
  common-stop : {why : Refusal} → r ≡ Err why → once_verdict e d t lent held [] ≡ Err why
  common-stop h = common-verdict ∙ ap verdict_of h

  module _ {v : Volume} (h : r ≡ Ok v) where
    -- where they let it go on
    common-go : once_verdict e d t lent held [] ≡ Ok tt
    common-go = common-verdict ∙ ap verdict_of h

    pub going : Common e d lent held
    going = common e d t lent held common-go

    -- the span of the volume is the one given
    pub span-start : v.span.start ≡ e.start
    span-start = IfOk-at_ok _ h says.start

    pub span-length : v.span.length ≡ e.span
    span-length = IfOk-at_ok _ h says.length

  -- ---- a call with tests of its own; u is what they said

  module _ (own : List Test) (p : Plan) where
    -- the common tests stop it
    pub stopped : {why : Refusal} → r ≡ Err why → unless (once_verdict e d t lent held own) p ≡ refuse why
    stopped h = unless-stop p (once-stops e d t lent held own (common-stop h))

    module _ {v : Volume} (h : r ≡ Ok v) {u : Verdict} (f : u ≡ first own) where
      -- its own tests stop it
      pub stopped-own : {why : Refusal} → u ≡ Err why → unless (once_verdict e d t lent held own) p ≡ refuse why
      stopped-own g = unless-stop p (once-goes e d t lent held own (common-go h) ∙ sym f ∙ g)

      -- nothing stops it
      pub goes_on : {w : Unit {0}} → u ≡ Ok w → unless (once_verdict e d t lent held own) p ≡ p
      goes_on g = unless-go p (once-goes e d t lent held own (common-go h) ∙ sym f ∙ g)

-- an answer that hands a refusal on
pub handed-on : (p : Plan) (c : Cut) (d : Disc) (t : List ℕ) {r : Result Reply Refusal} {why : Refusal} → r ≡ Err why → p ≡ refuse why → Meets p c d t r d t
handed-on p c d t q e = subst (λ (r : Result Reply Refusal). Meets p c d t r d t) (sym q) (refused p c d t e)

-- a lent table of the right length
pub table-long : (t : List ℕ) → lent_table t ≡ true → 4096 ≤ length t
unfolding lent_table
table-long t h = leb-true 4096 (length t) h
