use Prim.Native.Nat.{ℕ, ◌+◌}
use mathlib.Core.Path.{refl, ap, ◌∙◌}
use native.Mathlib.Omega.{arith}
use borrow.Author.Rules.{rules}
use lib.ListN.{drop}
use Rattle.maps.specs.Walk.{walk}
use Rattle.maps.specs.Told.{is_short}
use Rattle.maps.proofs.Walk.{uncut-end, cut-head, cut-none, cut-tail, cut-next}
use Rattle.maps.proofs.is_short.Goals as goal

pub loop-at-init : goal.loop-at-init
loop-at-init c = (search rules, refl)

pub returns-then-left-lt-HEAD_BYTES : goal.returns-then-left-lt-HEAD_BYTES
returns-then-left-lt-HEAD_BYTES c = let at = c.loop-at in
    cut-head _ at.at (omega arith) c.if-left-lt-HEAD_BYTES.true ∙ at.invariant.1

pub returns-then-bytes-lt1 : goal.returns-then-bytes-lt1
returns-then-bytes-lt1 c = let at = c.loop-at in
    cut-none _ at.at c.if-left-lt-HEAD_BYTES.false (omega arith) ∙ at.invariant.1

pub returns-then-left-bytes : goal.returns-then-left-bytes
returns-then-left-bytes c = let at = c.loop-at in
    let w = c.from-bytes in
    cut-tail _ at.at c.if-left-lt-HEAD_BYTES.false (omega arith) (omega arith) ∙ at.invariant.1

pub overflow_add-at-in-loop-at : goal.overflow_add-at-in-loop-at
overflow_add-at-in-loop-at c = omega arith

pub loop-at-smaller : goal.loop-at-smaller
loop-at-smaller c = omega arith

pub loop-at-preserved : goal.loop-at-preserved
loop-at-preserved c = let at = c.loop-at in
    let w = c.from-bytes in
    let maps = c.args.maps.now in
    (omega arith, ap (λ (k : ℕ). is_short (walk (drop (at.at + k) maps))) w.ensures ∙ cut-next _ at.at c.if-left-lt-HEAD_BYTES.false (omega arith) (omega arith) ∙ at.invariant.1)

pub returns : goal.returns
returns c = uncut-end _ _ c.loop-at-test.false ∙ c.loop-at.invariant.1
