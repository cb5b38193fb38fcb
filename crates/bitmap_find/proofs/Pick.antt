-- Which of the two runs, the one above and the one below, is nearest. Assumes nothing.
use Prim.Native.Nat.{ℕ, ◌-◌, ◌≤◌, ◌<◌, min}
use mathlib.Core.Path.{◌≡◌, subst}
use mathlib.Core.Bool.{true}
use mathlib.Core.List.{List}
use native.Mathlib.Omega.{arith}
use Rattle.std.specs.Prelude.{Option, Some, None}
use Rattle.std.specs.Option.{unwrap_or}
use native.Mathlib.Decide.{dec_le}
use Rattle.fields.proofs.Laws.{by-dec}
use Rattle.bitmap_find.specs.Runs.{SomeBelow, Lowest, Highest, Clear}
use Rattle.bitmap_find.specs.Nearest.{run_at, Nearest}
use Rattle.bitmap_find.proofs.Laws.{run_ends}
use Rattle.bitmap_find.proofs.Outward.{down-found, down-none}

-- from `low` on a block is no further from `near` than `up` is, below it further
record Far (near up low : ℕ) : Type 0 where
  pub within : near - low ≤ up - near
  pub beyond : (g : ℕ) → g < low → up - near < near - g

far-told : (near up low : ℕ) → low ≡ near - (up - near) → Far near up low
far-told near up low e = record { within = omega (arith, e); beyond = λ g h. omega (arith, e, h) }

module _ (b : List ℕ) (l w near up low down : ℕ) (some : 1 ≤ w) (above : Lowest b l w near up) (far : Far near up low)
    (below : Highest b l w low near down) where
  -- a run from `near` on
  up-most : (g : ℕ) → near ≤ g → run_at b l w g ≡ true → (up ≤ g) × (up < l)
  up-most g h r = let n = above.least g h r in let m = run_ends b l w near g r in (n, omega (arith, n, m))

  -- the one below
  pick-down : down < near → Nearest b l w near down
  pick-down h =
      record {
        run = (below.run h).1;
        closest = λ g r.
            by-dec
            (λ y. let u = up-most g y r in let d = far.within in let e = (below.run h).0 in omega (arith, u, d, e))
            (λ y. let t = before g r (omega (arith, y)) in omega (arith, t, y))
            (dec_le near g);
        lower = λ g r e. omega (arith, h, e);
      }
    where
      before : (g : ℕ) → run_at b l w g ≡ true → g < near → g ≤ down
      before g r y =
          by-dec (λ z. (below.greatest g z y r).1) (λ z. let e = (below.run h).0 in omega (arith, z, e)) (dec_le low g)

  -- a run below `near` is further off than the one above
  past : near ≤ down → up < l → (g : ℕ) → g < near → run_at b l w g ≡ true → up - near < near - g
  past h u g y r =
      by-dec (λ z. let t = (below.greatest g z y r).0 in absurd (omega (arith, t, h))) (λ z. far.beyond g (omega (arith, z))) (dec_le low g)

  -- the one above
  pick_up : near ≤ down → up < l → Nearest b l w near up
  pick_up h u =
      let a = above.above in
      record {
        run = above.run u;
        closest = λ g r.
            by-dec (λ y. let t = (up-most g y r).0 in omega (arith, t, a)) (λ y. let t = past h u g (omega (arith, y)) r in omega (arith, t, a)) (dec_le near g);
        lower = λ g r e.
            by-dec (λ y. (up-most g y r).0) (λ y. let t = past h u g (omega (arith, y)) r in absurd (omega (arith, t, a, e))) (dec_le near g);
      }

-- the same where the search below was one from `below` down, no run beginning from there up to `near`
pub nearer-of : (b : List ℕ) (l w near below up low from : ℕ) → 1 ≤ w → below ≤ near → Clear b l w below near → Lowest b l w near up → up < l
    → low ≡ near - (up - near) → from ≡ min low below → (o : Option ℕ) → SomeBelow (Highest b l w from below) below o → Nearest b l w near (unwrap_or o up)
nearer-of b l w near below up low from some down clear above u e m (Some d) (v, h) =
    let lower = subst (λ (x : ℕ). Highest b l w x below d) m h in
    pick-down b l w near up low d some above (far-told near up low e) (down-found b l w near below low d down clear (omega (arith, e)) lower v) (omega arith)
nearer-of b l w near below up low from some down clear above u e m None h =
    let lower = subst (λ (x : ℕ). Highest b l w x below below) m h in
    pick_up b l w near up low near some above (far-told near up low e) (down-none b l w near below low below down clear (omega (arith, e)) lower (omega arith)) (omega arith) u
