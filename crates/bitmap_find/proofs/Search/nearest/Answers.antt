use native.Mathlib.Omega.{arith}
use Rattle.bitmap_find.proofs.Laws.{run_ends, told, told_none}
use Rattle.bitmap_find.proofs.Outward.{step_less, step-fair, lowest-same, clear-near, up-lowest, both-clear, down-nearest, none_left}
use Rattle.bitmap_find.proofs.Search.nearest.Goals as goal

pub nearer-requires : goal.nearer-requires
nearer-requires c = let v = c.loop-from.invariant in
    let e = c.min-top.ensures in
    let u = c.up_to.ensures in
    let some = c.args.self.some in
    let found = c.in-Some.ensures in
    let low = up-lowest _ _ _ _ _ _ some v.0 v.1 v.6 _ _ (omega (arith, e)) (lowest-same _ _ _ _ _ _ _ _ u.bytes u.len u.wanted found.1) (omega (arith, found.0, u.len)) in
    (v.0, low.above, omega (arith, e, found.0, u.len), clear-near _ _ _ _ _ _ some v.0 v.1 v.6, low)

pub overflow_cast-result : goal.overflow_cast-result
overflow_cast-result c = let m = run_ends _ _ _ 0 _ c.nearer.ensures.run in record { fits = omega (arith, m) }

pub returns-in-Some : goal.returns-in-Some
returns-in-Some c = told _ _ _ _ _ (omega arith) (omega arith) c.nearer.ensures

pub returns-in-Some-highest : goal.returns-in-Some-highest
returns-in-Some-highest c = let v = c.loop-from.invariant in
    let u = c.up_to.ensures in
    let found = c.in-Some-highest.ensures in
    told _ _ _ _ _ (omega arith) (omega arith)
    (down-nearest _ _ _ _ _ _ c.args.self.some v.0 v.1 v.6 _ _ _ _ _ v.5 c.min-top.ensures (lowest-same _ _ _ _ _ _ _ _ u.bytes u.len u.wanted c.in_default.ensures) (omega (arith, u.len))
    c.saturating_sub-low.ensures found.1 found.0)

pub loop-from-smaller : goal.loop-from-smaller
loop-from-smaller c = let v = c.loop-from.invariant in
    step_less _ _ _ _ _ _ c.min-from.ensures c.saturating_sub-low.ensures c.loop-from-test.true v.3 (omega arith) v.2

pub loop-from-preserved : goal.loop-from-preserved
loop-from-preserved c = let v = c.loop-from.invariant in
    let e = c.saturating_sub-low.ensures in
    let t = c.min-from.ensures in
    let g = c.min-step.ensures in
    let u = c.up_to.ensures in (
      omega (arith, e),
      omega (arith, t),
      omega (arith, t),
      omega (arith, g),
      omega (arith, g),
      λ y. step-fair _ _ _ _ _ _ _ t e v.5 v.1 y,
      both-clear _ _ _ _ _ _ c.args.self.some v.0 v.1 v.6 _ _ _ _ _ _ c.min-top.ensures (lowest-same _ _ _ _ _ _ _ _ u.bytes u.len u.wanted c.in_default.ensures) (omega (arith, u.len)) e
          c.in_default-highest.ensures (omega arith) t,
    )

pub returns : goal.returns
returns c = let v = c.loop-from.invariant in
    told_none _ _ _ _ (none_left _ _ _ _ _ _ c.args.self.some v.0 v.1 v.6 (omega arith) v.2)
