-- What a verdict that lets a call go on tells, and when one does. Assumes nothing.
use Prim.Native.Nat.{ℕ}
use mathlib.Core.Bool.{Bool, true, false, cond}
use mathlib.Core.Path.{◌≡◌, refl, ap, ◌∙◌}
use mathlib.Core.List.{List, [], ◌∷◌}
use native.Mathlib.Omega.{arith}
use Rattle.refusal.specs.declared.Refusal.{Refusal}
use Rattle.refusal.specs.declared.Refusal.TheVariants.{OtherKind, StaleRecord}
use Rattle.refusal.specs.Verdict.{Verdict, verdict_of}
use Rattle.std.specs.Prelude.{Ok, Err, Result}
use Rattle.refusal.specs.Tests.{Test, test, first, need, and_then}
use Rattle.refusal.proofs.Laws.{passed, asked-after}
use Rattle.maps.specs.Kinds.{read_maps}
use Rattle.model.specs.Disc.{Disc, shapely, inside}
use Rattle.model.specs.Examine.{Setting, write_once, geometry, aligned, shape_tests, place_tests, examined}
use Rattle.model.specs.Plan.{Plan, refuse, unless}
use Rattle.model.specs.Once.{held_fits, once_verdict}
use Rattle.model.specs.declared.Record.{Record}
use Rattle.model.specs.declared.Opened.{Opened}
use Rattle.model.specs.Both.{open_verdict, record_on, passed_on, opened_by, opening}

-- by cases of a verdict
pub by-verdict {ℓ} : {P : Type ℓ} (v : Verdict) → (v ≡ Ok tt → P) → ((why : Refusal) → v ≡ Err why → P) → P
by-verdict (Ok _) f g = f refl
by-verdict (Err why) f g = g why refl

-- two verdicts, one after the other, that let a call go on
pub then-go : (a b : Verdict) → and_then a b ≡ Ok tt → (a ≡ Ok tt) × (b ≡ Ok tt)
then-go (Ok _) b e = (refl, e)
then-go (Err why) b e = let z : ◌≡◌ {A = ℕ} 0 1 = cc in absurd (omega arith)

-- where the first lets it go on, the second decides
pub go-then : {a : Verdict} (b : Verdict) → a ≡ Ok tt → and_then a b ≡ b
go-then b e = rw e

-- a list of tests whose first holds is decided by the rest
pub next-test : {b : Bool} (why : Refusal) (l : List Test) → b ≡ true → first (test b why ∷ l) ≡ first l
unfolding need
next-test why l e = rw e

-- and stops where it does not hold
pub stop-test : {b : Bool} (why : Refusal) (l : List Test) → b ≡ false → first (test b why ∷ l) ≡ Err why
unfolding need
stop-test why l e = rw e

-- what lines 1 to 6 tell of a call that goes on
pub record Examined (e : Setting) (d : Disc) (lent : Bool) : Type 0 where
  pub shape : shapely d ≡ true
  pub within : inside d e.start e.span ≡ true
  pub lengths : lent ≡ true
  pub maps : verdict_of (read_maps e.maps) ≡ Ok tt
  pub places : cond (write_once e) true (aligned (geometry e d)) ≡ true

pub examined-tells : (e : Setting) (d : Disc) (lent : Bool) → examined e d lent ≡ Ok tt → Examined e d lent
unfolding examined shape_tests place_tests
examined-tells e d lent h =
    let p = then-go (first (shape_tests e d lent)) _ h in
    let q = then-go (verdict_of (read_maps e.maps)) _ p.1 in
    let t = passed (shape_tests e d lent) p.0 in
    let u = passed (place_tests e d) q.1 in
    record { shape = t.0; within = t.1.0; lengths = t.1.1.0; maps = q.0; places = u.0 }

pub examined-go : (e : Setting) (d : Disc) (lent : Bool) → Examined e d lent → examined e d lent ≡ Ok tt
unfolding examined shape_tests place_tests need
examined-go e d lent x = rw (x.shape, x.within, x.lengths, x.maps, x.places)

-- on a write-once disc
pub examined-once : (e : Setting) → write_once e ≡ true → verdict_of (read_maps e.maps) ≡ Ok tt
    → (d : Disc) (lent : Bool) → shapely d ≡ true → inside d e.start e.span ≡ true → lent ≡ true → examined e d lent ≡ Ok tt
examined-once e once maps-go d lent a b c =
    examined-go e d lent (record { shape = a; within = b; lengths = c; maps = maps-go; places = rw once })

-- a plan that a verdict stops is a refusal
pub unless-stop : {v : Verdict} {why : Refusal} (p : Plan) → v ≡ Err why → unless v p ≡ refuse why
unfolding unless
unless-stop p e = rw e

pub unless-go : {v : Verdict} (p : Plan) → v ≡ Ok tt → unless v p ≡ p
unfolding unless
unless-go p e = rw e

-- ---- lines 1 to 7 and 11 of the calls on a write-once disc

module _ (e : Setting) (d : Disc) (t : List ℕ) (lent : Bool) (held : Record) where
  -- a call's own tests are asked after the common ones
  pub once-own : (own : List Test) → once_verdict e d t lent held own ≡ and_then (once_verdict e d t lent held []) (first own)
  unfolding once_verdict
  once-own own = asked-after (examined e d lent) (test (write_once e) OtherKind ∷ test (held_fits e d t held) StaleRecord ∷ []) own

  -- what stops the common tests stops the call
  pub once-stops : (own : List Test) {why : Refusal} → once_verdict e d t lent held [] ≡ Err why → once_verdict e d t lent held own ≡ Err why
  once-stops own h = once-own own ∙ ap (λ (v : Verdict). and_then v (first own)) h

  -- where they let it go on, its own decide
  pub once-goes : (own : List Test) → once_verdict e d t lent held [] ≡ Ok tt → once_verdict e d t lent held own ≡ first own
  once-goes own h = once-own own ∙ ap (λ (v : Verdict). and_then v (first own)) h

-- ---- an opening

-- one that goes on has examined the map list
pub open-maps : (e : Setting) (d : Disc) (t : List ℕ) → open_verdict e d t ≡ Ok tt → verdict_of (read_maps e.maps) ≡ Ok tt
unfolding open_verdict
open-maps e d t g = (examined-tells e d _ (then-go (examined e d _) _ g).0).maps

-- one that answers the record r and that it passed over n sectors
pub record OpenedTells (e : Setting) (d : Disc) (t : List ℕ) (r : Record) (n : ℕ) : Type 0 where
  pub goes : open_verdict e d t ≡ Ok tt
  pub held : record_on e d ≡ r
  pub passed : passed_on e d ≡ n

pub opened-tells : (e : Setting) (d : Disc) (t : List ℕ) (r : Record) (n : ℕ) → opening e d t ≡ Ok (record { handed = r; passed = n }) → OpenedTells e d t r n
unfolding opening opened_by
opened-tells e d t r n q =
    by-verdict (open_verdict e d t)
    (λ g. let w : ◌≡◌ {A = Result Opened Refusal} (Ok (record { handed = record_on e d; passed = passed_on e d })) (Ok (record { handed = r; passed = n })) = rw g at q in
    let o : ◌≡◌ {A = Opened} (record { handed = record_on e d; passed = passed_on e d }) (record { handed = r; passed = n }) = cc in
    record { goes = g; held = ap (λ (x : Opened). x.handed) o; passed = ap (λ (x : Opened). x.passed) o })
    (λ why g. let w : ◌≡◌ {A = Result Opened Refusal} (Err why) (Ok (record { handed = r; passed = n })) = rw g at q in let z : ◌≡◌ {A = ℕ} 0 1 = cc in absurd (omega arith))
