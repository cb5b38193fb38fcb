-- `sparing_current::is_current` meets its contract: each test is one of the definition's. Assumes nothing.
use mathlib.Core.Path.{sym, ap, ◌∙◌}
use mathlib.Core.List.{[]}
use native.Mathlib.Omega.{arith}
use Rattle.model.specs.Sparing.{count_in}
use Rattle.sparing_current.proofs.Laws.{held-other, held-count, held-sequence, held-table, part-sector}
use Rattle.sparing_current.proofs.is_current.Goals as goal

pub returns-then-entries-current : goal.returns-then-entries-current
returns-then-entries-current c e marks is = held-count e _ _ c.in-Rewritable.is is c.if-entries-current.true

pub returns-then-sequence-current : goal.returns-then-sequence-current
returns-then-sequence-current c e marks is = held-sequence e _ _ c.in-Rewritable.is is c.if-entries-current.false c.if-sequence-current.true

pub is_same-requires-clause-r_value : goal.is_same-requires-clause-r_value
is_same-requires-clause-r_value c =
    let r = c.requires in
    let n = c.if-entries-current.false in
    (n ∙ r.by_index [] ∙ sym (ap count_in (part-sector c.args.disc.now [] c.args.current.at.0)), omega (arith, n, r.entries_bound.0), omega (arith, n, r.entries_bound.1))

pub returns-in-WriteOnce : goal.returns-in-WriteOnce
returns-in-WriteOnce c e marks is = held-other e _ _ c.in-WriteOnce.is

pub returns-else-sequence-current : goal.returns-else-sequence-current
returns-else-sequence-current c e marks is =
    held-table e _ _ c.in-Rewritable.is is c.if-entries-current.false c.if-sequence-current.false
    (part-sector c.args.disc.now marks c.args.current.at.0)
    c.is_same.ensures
