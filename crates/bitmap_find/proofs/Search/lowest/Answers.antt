use native.Mathlib.Omega.{arith}
use Rattle.bitmap_find.proofs.Rows.{kept-first, kept-last, kept-found, kept_on, kept_next, next-moves, row-found, last-short, kept-none}
use Rattle.bitmap_find.proofs.Search.lowest.Goals as goal

pub loop-s-init : goal.loop-s-init
loop-s-init c = kept-first _ _ _ _ (omega arith)

pub returns-then-self-s : goal.returns-then-self-s
returns-then-self-s c = let v = c.loop-s in
    kept-found _ _ _ _ _ _ _ _ _ v.invariant c.free_from-w.ensures c.first_ones-ones.ensures (omega arith) (omega arith) (omega arith) c.if-self-s.true _ c.within.ensures

pub loop-s-preserved-then-w-ones : goal.loop-s-preserved-then-w-ones
loop-s-preserved-then-w-ones c = let v = c.loop-s in
    kept_on _ _ _ _ _ _ _ _ _ v.invariant c.free_from-w.ensures c.first_ones-ones.ensures (omega arith) (omega arith) (omega arith) c.if-w-ones.true

pub loop-s-smaller-then-w-eq0 : goal.loop-s-smaller-then-w-eq0
loop-s-smaller-then-w-eq0 c = let v = c.loop-s in
    let m = next-moves _ _ _ _ _ _ _ _ _ v.invariant c.free_from-w.ensures c.first_ones-ones.ensures (omega arith) (omega arith) (omega arith) c.if-self-s.false c.if-w-ones.false _ c.if-w-eq0.true c.next_in-s.ensures in
    omega (arith, m, v.invariant.near)

pub loop-s-preserved-then-w-eq0 : goal.loop-s-preserved-then-w-eq0
loop-s-preserved-then-w-eq0 c = let v = c.loop-s in
    kept_next _ _ _ _ _ _ _ _ _ v.invariant c.free_from-w.ensures c.first_ones-ones.ensures (omega arith) (omega arith) (omega arith) c.if-self-s.false c.if-w-ones.false _ c.next_in-s.ensures

pub returns-in-Some : goal.returns-in-Some
returns-in-Some c = let v = c.loop-s in
    row-found _ _ _ _ _ _ _ _ _ v.invariant c.free_from-w.ensures c.first_ones-ones.ensures (omega arith) (omega arith) (omega arith) c.if-self-s.false c.if-w-ones.false _ c.in-Some.ensures.1 c.in-Some.ensures.0 _ c.within-in-Some.ensures

pub overflow_sub-begin : goal.overflow_sub-begin
overflow_sub-begin c = let v = c.loop-s in
    let m = last-short _ _ _ _ _ _ _ _ _ v.invariant c.free_from-w.ensures c.first_ones-ones.ensures (omega arith) (omega arith) (omega arith) c.if-self-s.false c.if-w-ones.false 64 c.in_default.ensures _ c.last_ones.ensures in
    omega (arith, m)

pub loop-s-preserved : goal.loop-s-preserved
loop-s-preserved c = let v = c.loop-s in
    kept-none _ _ _ _ _ _ _ _ _ v.invariant c.free_from-w.ensures c.first_ones-ones.ensures (omega arith) (omega arith) (omega arith) c.if-self-s.false c.if-w-ones.false 64 c.in_default.ensures _ c.last_ones.ensures (omega arith)

pub returns : goal.returns
returns c = kept-last _ _ _ _ _ _ c.loop-s.invariant (omega arith) (omega arith) c.loop-s-test.false _ c.within-2.ensures
