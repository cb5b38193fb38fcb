-- Laws of a search in steps: what a step upward and a step downward rule out, and what they find. Assumes nothing.
use Prim.Native.Nat.{ℕ, suc, ◌+◌, ◌-◌, ◌≤◌, ◌<◌, min}
use mathlib.Core.Path.{◌≡◌, subst}
use mathlib.Core.Bool.{true, false}
use mathlib.Core.Logic.{◌⊎◌, inl, inr, ⊎_elim}
use mathlib.Core.List.{List}
use native.Mathlib.Omega.{arith}
use native.Mathlib.Decide.{dec_le}
use Rattle.fields.proofs.Laws.{by-dec}
use Rattle.fields.proofs.Tests.{by-test}
use Rattle.bitmap_find.specs.Nearest.{run_at, Nearest}
use Rattle.bitmap_find.specs.Runs.{Lowest, Highest, Clear}
use Rattle.bitmap_find.proofs.Laws.{run_ends}
use Rattle.bitmap_find.proofs.Runs.{run-told, run-free}

-- ---- the numbers of a step

-- one step more leaves fewer blocks
pub step_less : (l from below step from' low : ℕ) → from' ≡ min l (from + step + 1) → low ≡ below - step → from - below < l → 1 ≤ step → below ≤ from → from ≤ l → l - from' + low < l - from + below
step_less l from below step from' low ef el h some m n =
    by-dec
    (λ y. let f : from' ≡ from + step + 1 = omega (arith, ef, y) in let k : low ≤ below = omega (arith, el) in omega (arith, f, k, some))
    (λ y.
    let f : from' ≡ l = omega (arith, ef, y) in
    let z : (from < l) ⊎ (0 < below) = by-dec (λ v. inl v) (λ v. inr (omega (arith, v, h, n))) (dec_le (suc from) l) in
    ⊎_elim (λ v. let k : low ≤ below = omega (arith, el) in omega (arith, f, k, v)) (λ v. let k : low < below = omega (arith, el, v, some) in omega (arith, f, k, n)) z)
    (dec_le (from + step + 1) l)

-- and keeps what is below no further off than what is above
pub step-fair : (l near from below step from' low : ℕ) → from' ≡ min l (from + step + 1) → low ≡ below - step → (from < l → near - below ≤ from - near) → near ≤ from → from' < l → near - low ≤ from' - near
step-fair l near from below step from' low ef el fair m h =
    let f : from' ≡ from + step + 1 = omega (arith, ef, h) in
    let w = fair (omega (arith, f, h)) in
    let k : below ≤ low + step = omega (arith, el) in
    let x : near ≤ below + (from - near) = omega (arith, w) in
    omega (arith, f, k, x, m)

-- ---- runs

-- a run among fewer blocks is one among more
run_more : (b : List ℕ) (top l w g : ℕ) → top ≤ l → run_at b top w g ≡ true → run_at b l w g ≡ true
run_more b top l w g h r =
    let m = run_ends b top w 0 g r in
    run-told b l w g (omega (arith, m)) (λ i p q z. let o = run-free b top w g r i p q in omega (arith, o, z))

-- and one that ends among the fewer is one there
run-fewer : (b : List ℕ) (top l w g : ℕ) → g + w ≤ top → run_at b l w g ≡ true → run_at b top w g ≡ true
run-fewer b top l w g h r = run-told b top w g h (λ i p q z. let o = run-free b l w g r i p q in omega (arith, o, z))

-- what is said of the first blocks as a bitmap is said of them
pub lowest-same : (b c : List ℕ) (l w m v from r : ℕ) → c ≡ b → m ≡ l → v ≡ w → Lowest c m v from r → Lowest b l w from r
lowest-same b c l w m v from r e f g h =
    subst (λ (x : ℕ). Lowest b l x from r) g (subst (λ (x : ℕ). Lowest b x v from r) f (subst (λ (x : List ℕ). Lowest x m v from r) e h))

module _ (b : List ℕ) (l w near below from : ℕ) (some : 1 ≤ w) (down : below ≤ near) (up : near ≤ from) (clear : Clear b l w below from) where
  -- none begins from `below` up to `near` either
  pub clear-near : Clear b l w below near
  clear-near = record { apart = λ g q. ⊎_elim (λ z. inl z) (λ z. inr (omega (arith, z))) (clear.apart g q) }

  -- what is found upward is the lowest of all from `near` on
  pub up-lowest : (top r : ℕ) → top ≤ l → Lowest b top w from r → r < top → Lowest b l w near r
  up-lowest top r h o u =
      let run = o.run u in
      let m = run_ends b top w 0 r run in
      let a = o.above in
      record {
        above = omega (arith, a);
        most = omega arith;
        run = λ z. run_more b top l w r h run;
        least = λ g n q.
            ⊎_elim
            (λ z. absurd (omega (arith, z, n)))
            (λ z. by-dec (λ y. o.least g z (run-fewer b top l w g y q)) (λ y. omega (arith, y, m)) (dec_le (g + w) top))
            (clear.apart g q);
      }

  -- where nothing is, no run begins in the step
  pub up-clear : (top step r : ℕ) → top ≡ min l (from + step + w) → Lowest b top w from r → top ≤ r → (g : ℕ) → from ≤ g → run_at b l w g ≡ true → from + step + 1 ≤ g
  up-clear top step r e o u g n q =
      let m = run_ends b l w 0 g q in
      by-dec
      (λ y. let z = o.least g n (run-fewer b top l w g y q) in absurd (omega (arith, y, z)))
      (λ y. omega (arith, y, e, m))
      (dec_le (g + w) top)

  -- nor from there on, one step further on both sides
  pub both-clear : (top step r low d from' : ℕ) → top ≡ min l (from + step + w) → Lowest b top w from r → top ≤ r → low ≡ below - step → Highest b l w low below d → below ≤ d → from' ≡ min l (from + step + 1)
      → Clear b l w low from'
  both-clear top step r low d from' et o u el h v ef =
      record {
        apart = λ g q.
            ⊎_elim
            (λ z.
            by-dec
            (λ y. let t = (h.greatest g y z q).0 in absurd (omega (arith, t)))
            (λ y. inl (omega (arith, y)))
            (dec_le low g))
            (λ z. let t = up-clear top step r et o u g z q in inr (omega (arith, t, ef)))
            (clear.apart g q);
      }

  -- what is found downward, where nothing was upward, is nearest
  pub down-nearest : (top step r low d : ℕ) → (from < l → near - below ≤ from - near) → top ≡ min l (from + step + w) → Lowest b top w from r → top ≤ r → low ≡ below - step → Highest b l w low below d → d < below
      → Nearest b l w near d
  down-nearest top step r low d fair et o u el h v =
      let t = h.run v in
      record {
        run = t.1;
        closest = λ g q. ⊎_elim (λ z. let m = lower-down g q z in omega (arith, m, z)) (λ z. let m = further g q z in omega (arith, m)) (clear.apart g q);
        lower = λ g q e. ⊎_elim (λ z. let m = lower-down g q z in omega (arith, m, e)) (λ z. let m = further g q z in absurd (omega (arith, m, e))) (clear.apart g q);
      }
    where
      lower-down : (g : ℕ) → run_at b l w g ≡ true → g < below → g ≤ d
      lower-down g q z =
          by-dec (λ y. (h.greatest g y z q).1) (λ y. let t = (h.run v).0 in omega (arith, t, y)) (dec_le low g)

      further : (g : ℕ) → run_at b l w g ≡ true → from ≤ g → near - d < g - near
      further g q z =
          let m = up-clear top step r et o u g z q in
          let n = run_ends b l w 0 g q in
          let f = fair (omega (arith, n)) in
          let t = (h.run v).0 in
          omega (arith, m, f, t, el)

  -- where both ends are reached, there is none
  pub none_left : l ≤ from - below → from ≤ l → (g : ℕ) → run_at b l w g ≡ false
  none_left h m g =
      by-test (run_at b l w g)
      (λ q.
      let n = run_ends b l w 0 g q in
      absurd (⊎_elim (λ z. omega (arith, z)) (λ z. omega (arith, z, n)) (clear.apart g q)))
      (λ q. q)

-- a search downward that begins at `below` stands for one that begins at `near`
module _ (b : List ℕ) (l w near below low d : ℕ) (down : below ≤ near) (clear : Clear b l w below near) (least : low ≤ near) (h : Highest b l w (min low below) below d) where
  pub down-found : d < below → Highest b l w low near d
  down-found v =
      let t = h.run v in
      record {
        run = λ z. (omega (arith, t.0), t.1);
        most = omega arith;
        greatest = λ g p q r.
            ⊎_elim
            (λ z. (omega arith, (h.greatest g (omega (arith, p)) z r).1))
            (λ z. absurd (omega (arith, z)))
            (clear.apart g r);
      }

  pub down-none : below ≤ d → Highest b l w low near near
  down-none v =
      record {
        run = λ z. absurd (omega arith);
        most = omega arith;
        greatest = λ g p q r.
            ⊎_elim
            (λ z. let t = (h.greatest g (omega (arith, p)) z r).0 in absurd (omega (arith, t)))
            (λ z. absurd (omega (arith, z)))
            (clear.apart g r);
      }
