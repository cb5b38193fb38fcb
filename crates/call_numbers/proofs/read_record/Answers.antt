-- `call_numbers::read_record` meets its contract: the arms are the definition's tests. Assumes nothing.
use mathlib.Core.Path.{◌≡◌}
use lib.ListN.{get_or}
use borrow.Author.Rules.{rules}
use borrow.Author.Tests.{eq-eqb, ne_eqb}
use Rattle.call_numbers.specs.Numbers.{record_of}
use Rattle.call_numbers.proofs.read_record.Goals as goal

pub returns-in-0 : goal.returns-in-0
unfolding record_of
returns-in-0 c = simp (eq-eqb _ _ c.in-0.is)

pub returns-in-1 : goal.returns-in-1
unfolding record_of
returns-in-1 c = simp (c.in-1.is)

pub returns-in_default : goal.returns-in_default
unfolding record_of
returns-in_default c =
    let once : get_or c.args.kept.now 0 0 ≡ 0 → ⊥ = search rules in
    let rewritable : get_or c.args.kept.now 0 0 ≡ 1 → ⊥ = search rules in
    simp (ne_eqb _ _ once, ne_eqb _ _ rewritable)
