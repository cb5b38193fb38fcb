-- `sparing_current::look` meets its contract: each return by the law of its line. Assumes nothing.
use borrow.Author.Rules.{rules}
use Rattle.sparing_current.proofs.Looks.{look-stopped, look-asks, look-copies, look-found}
use Rattle.sparing_current.proofs.look.Goals as goal

pub returns-in_err-layout : goal.returns-in_err-layout
returns-in_err-layout c = look-stopped _ _ _ c.in_err-layout.ensures (search rules)

pub find_current-requires : goal.find_current-requires
find_current-requires c =
    let n = look-asks _ _ _ c.in_ok-layout.ensures in
    record { count_bound = (n.0, n.1); disc_len = n.2; sectors_value = (n.3, n.4) }

pub returns-in_err-current : goal.returns-in_err-current
returns-in_err-current c = look-copies _ _ _ c.in_ok-layout.ensures c.in_err-current.ensures (search rules)

pub returns : goal.returns
returns c = look-found _ _ _ c.in_ok-layout.ensures c.in_ok-current.ensures
