use Prim.Native.Nat.{ℕ}
use mathlib.Core.Path.{◌≡◌, sym, ap, ◌∙◌}
use native.Mathlib.Omega.{arith}
use borrow.Author.Rules.{rules}
use Rattle.maps.specs.Kinds.{words, used}
use Rattle.maps.proofs.Tables.{used-none, used-next}
use Rattle.maps.proofs.table_sectors.Goals as goal

pub loop-i-init : goal.loop-i-init
loop-i-init c = (search rules, sym (used-none _))

pub loop-i-preserved : goal.loop-i-preserved
loop-i-preserved c = (omega arith, rw (c.loop-i.invariant.1, c.read.ensures) (used-next _ _ (omega arith)))

pub returns : goal.returns
returns c = let e : c.loop-i.i ≡ c.args.n = omega arith in
    let s = c.args.map.now in
    c.loop-i.invariant.1 ∙ ap (λ (k : ℕ). used k (words s 48 4)) e
