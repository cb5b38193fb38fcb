use mathlib.Core.Path.{sym, subst}
use native.Mathlib.Omega.{arith}
use Rattle.bitmap_find.proofs.Laws.{run_ends}
use Rattle.bitmap_find.proofs.TopRows.{NotUnder, Down, none, end_none, at_low, skip-less, skip, ones-fit, ends, all-free, row_inside, row-run, passed}
use Rattle.bitmap_find.proofs.Search.highest.Goals as goal
use Rattle.bitmap_find.proofs.Search.highest.Goals.{then-ones-w+in_default, else-ones-w}

pub returns-then-low-below : goal.returns-then-low-below
returns-then-low-below c = none _ _ _ _ _ (omega arith) (λ g h u r. omega arith)

pub loop-e-init : goal.loop-e-init
loop-e-init c = let f = c.furthest-end.ensures in
    record {
      within = omega arith;
      most = omega arith;
      short = omega arith;
      few = omega arith;
      free = λ i p q. absurd (omega arith);
      rest = λ g h u r. f.3 g u (run_ends _ _ _ 0 g r);
    }

pub loop-e-smaller-then-w-eq0 : goal.loop-e-smaller-then-w-eq0
loop-e-smaller-then-w-eq0 c = skip-less _ _ _ _ _ (omega arith) _ _ c.loop-e.invariant _ _ c.free_to-w.ensures c.if-w-eq0.true (omega arith) _ c.last_in-e.ensures

pub loop-e-preserved-then-w-eq0 : goal.loop-e-preserved-then-w-eq0
loop-e-preserved-then-w-eq0 c = skip _ _ _ _ _ (omega arith) _ _ c.loop-e.invariant _ _ c.free_to-w.ensures c.if-w-eq0.true (omega arith) _ c.last_in-e.ensures

pub overflow_sub-end-then-self-end : goal.overflow_sub-end-then-self-end
overflow_sub-end-then-self-end c = let h = ones-fit _ _ _ _ _ (omega arith) _ _ c.loop-e.invariant _ _ c.free_to-w.ensures _ c.top_ones-ones.ensures in
    omega (arith, h)

pub returns-then-self-end : goal.returns-then-self-end
returns-then-self-end c = ends _ _ _ _ _ (omega arith) _ _ c.loop-e.invariant _ _ c.free_to-w.ensures _ c.top_ones-ones.ensures c.if-self-end.true _ c.not_under.ensures

pub overflow_sub-e : goal.overflow_sub-e
overflow_sub-e c = let h = row_inside _ _ _ _ _ (omega arith) _ _ c.loop-e.invariant _ _ c.free_to-w.ensures _ c.top_ones-ones.ensures (omega arith) (omega arith) _ c.in-Some.ensures.1 c.in-Some.ensures.0 in
    omega (arith, h)

pub returns-in-Some : goal.returns-in-Some
returns-in-Some c = row-run _ _ _ _ _ (omega arith) _ _ c.loop-e.invariant _ _ c.free_to-w.ensures _ c.top_ones-ones.ensures (omega arith) (omega arith) _ c.in-Some.ensures.1 c.in-Some.ensures.0 _ c.not_under-in-Some.ensures

pub loop-e-preserved : goal.loop-e-preserved
loop-e-preserved c = elim c.if-ones-w.branch [
  | then-ones-w+in_default w ↦ passed _ _ _ _ _ (omega arith) _ _ c.loop-e.invariant _ _ c.free_to-w.ensures _ c.top_ones-ones.ensures (omega arith) w.if-ones-w.true 64 w.in_default.ensures (omega arith) _ w.ones_from.ensures _ w.end-is
  | else-ones-w w ↦ subst (Down _ _ _ _ _ _) (sym w.end-is)
      (all-free _ _ _ _ _ (omega arith) _ _ c.loop-e.invariant _ _ c.free_to-w.ensures _ c.top_ones-ones.ensures (omega arith) (omega (arith, w.if-ones-w.false)))
]

pub returns-in_err-checked_sub : goal.returns-in_err-checked_sub
returns-in_err-checked_sub c = rw c.from_residual.ensures (end_none _ _ _ _ _ (omega arith) _ _ c.loop-e.invariant (omega (arith, c.in_err-checked_sub.ensures)))

pub returns : goal.returns
returns c = let e = c.in_ok-checked_sub.ensures in
    at_low _ _ _ _ _ (omega arith) _ _ c.loop-e.invariant (omega arith) e.0 _ (subst (λ first. NotUnder c.args.low first c.not_under-2.result) e.1 c.not_under-2.ensures)
