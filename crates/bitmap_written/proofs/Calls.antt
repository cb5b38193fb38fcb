-- Laws of the calls: what their tests come to, and what they leave. Assumes nothing.
use Prim.Native.Nat.{ℕ, ◌+◌, ◌-◌, ◌*◌, ◌≤◌, ◌<◌}
use mathlib.Core.Path.{◌≡◌, refl, sym, ap, ◌∙◌}
use mathlib.Core.Bool.{true, false, not, ◌&&◌}
use mathlib.Core.List.{List}
use native.Mathlib.Omega.{arith}
use native.Mathlib.Decide.{ℕ_discrete}
use lib.ListN.{length}
use lib.Dec.{eqb, leb}
use borrow.Author.Tests.{eq-eqb, ne_eqb, le-leb, leb-true, lt-ltb, le-ltb, ltb-true}
use Rattle.refusal.specs.Tests.{need}
use Rattle.refusal.specs.declared.Refusal.{Refusal}
use Rattle.refusal.specs.declared.Refusal.TheVariants.{BitmapMalformed, NumberOutside, WrongRun}
use Rattle.refusal.specs.Verdict.{Verdict}
use Rattle.std.specs.Prelude.{Ok, Err}
use Rattle.refusal.proofs.Laws.{passed, ne}
use Rattle.fields.specs.Number.{field}
use Rattle.fields.proofs.Laws.{by-dec}
use Rattle.bitmap.specs.Bits.{bit_at, all_in}
use Rattle.bitmap.specs.Formed.{bitmap_fits}
use Rattle.bitmap.specs.Scan.{FirstOf}
use Rattle.fields.proofs.Tests.{both, holds, by-test}
use Rattle.bitmap.proofs.Laws.{formed, room, all_told, all_in_law}
use Rattle.bitmap.proofs.Windows.{bit-small}
use Rattle.tag.specs.Sound.{renewed}
use Rattle.bitmap_written.specs.Changed.{changed}
use Rattle.bitmap_written.specs.Written.{run_fits, run_tests, run_verdict, bytes_after, run_after}

-- ---- line 32

module _ (b : List ℕ) (l f n v : ℕ) where
  -- the first block in the other state is past the run, or not
  pub state-told : (n ≡ 0 → ⊥) → f + n ≤ l → v < 2 → (r : ℕ) → FirstOf b (1 - v) f (f + n) r → eqb r (f + n) ≡ run_fits b l f n v
  unfolding run_fits
  state-told z h w r s =
      holds (ne n 0 z) (holds (le-leb (f + n) l h)
      (by-dec
      (λ e.
      eq-eqb r (f + n) e
      ∙ sym (all_told b v f n (λ i p q. let m = bit-small b i in let o = s.other i p (omega (arith, e)) in omega (arith, m, o, w))))
      (λ e.
      ne_eqb r (f + n) e
      ∙ by-test (all_in b v f n)
      (λ t.
      let a = s.above in
      let c = s.below in
      let o = s.here (omega (arith, e, c)) in
      let i = all_in_law b v f n t r a (omega (arith, e, c)) in
      absurd (omega (arith, o, i, w)))
      (λ t. sym t))
      (ℕ_discrete r (f + n))))

  -- what it lets pass
  pub run-state : run_fits b l f n v ≡ true → (f + n ≤ l) × ((i : ℕ) → f ≤ i → i < f + n → bit_at b i ≡ v)
  unfolding run_fits
  run-state e =
      let t = both (leb (f + n) l) (all_in b v f n) (both (not (eqb n 0)) (leb (f + n) l && all_in b v f n) e).1 in
      (leb-true (f + n) l t.0, all_in_law b v f n t.1)

  -- ---- the verdict

  pub stop-31 : bitmap_fits b l ≡ false → Err BitmapMalformed ≡ run_verdict b l f n v
  unfolding run_verdict need
  stop-31 h = rw h refl

  pub stop-12 : bitmap_fits b l ≡ true → l ≤ f → Err NumberOutside ≡ run_verdict b l f n v
  unfolding run_verdict need
  stop-12 h o = let e = le-ltb f l o in rw (h, e) refl

  pub stop-32 : bitmap_fits b l ≡ true → f < l → run_fits b l f n v ≡ false → Err WrongRun ≡ run_verdict b l f n v
  unfolding run_verdict need
  stop-32 h o r = let e = lt-ltb f l o in rw (h, e, r) refl

  pub goes_on : bitmap_fits b l ≡ true → f < l → run_fits b l f n v ≡ true → (Ok tt) ≡ run_verdict b l f n v
  unfolding run_verdict need
  goes_on h o r = let e = lt-ltb f l o in rw (h, e, r) refl

  -- where it lets go on, every test holds
  pub went_on : run_verdict b l f n v ≡ Ok tt → (bitmap_fits b l ≡ true) × (f < l) × (run_fits b l f n v ≡ true)
  unfolding run_verdict
  went_on e = let t = passed (run_tests b l f n v) e in (t.0, ltb-true f l t.1.0, t.1.1.0)

  -- and the run can be changed
  pub ready : run_verdict b l f n v ≡ Ok tt
      → (16 + field b 10 2 ≤ length b) × (192 + (f + n) ≤ 8 * length b) × (f + n ≤ l) × ((i : ℕ) → f ≤ i → i < f + n → bit_at b i ≡ v)
  ready e =
      let t = went_on e in
      let g = formed b l t.0 in
      let r = room g in
      let s = run-state t.2 in
      (g.covered, omega (arith, r, s.0), s.0, s.1)

-- ---- the calls

module _ (b : List ℕ) (l f n v : ℕ) where
  pub run-kept : (why : Refusal) → run_verdict b l f n v ≡ Err why → b ≡ run_after b l f n v
  unfolding run_after
  run-kept why e = sym (ap (λ (x : Verdict). bytes_after x (renewed (changed b f n (1 - v))) b) e)

  pub run-turned : run_verdict b l f n v ≡ Ok tt → run_after b l f n v ≡ renewed (changed b f n (1 - v))
  unfolding run_after
  run-turned e = ap (λ (x : Verdict). bytes_after x (renewed (changed b f n (1 - v))) b) e

-- a run that may be given the other state
pub ready-other : (b : List ℕ) (l f n v o : ℕ) → run_verdict b l f n v ≡ Ok tt → l < 4294967296 → v < 2 → o ≡ 1 - v
    → (16 + field b 10 2 ≤ length b) × (192 + (f + n) ≤ 8 * length b) × (f + n < 4294967296) × ((i : ℕ) → f ≤ i → i < f + n → bit_at b i ≡ 1 - o)
ready-other b l f n v o e u two other =
    let r = ready b l f n v e in
    (r.0, r.1, omega (arith, r.2, u), λ i p q. (let s = r.3 i p q in omega (arith, s, two, other)))
