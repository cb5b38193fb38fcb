-- `sparing_place::judge_start` meets its contract: line 12 of a packet, and then the lines of a block. Assumes nothing.
use mathlib.Core.Path.{sym, ◌∙◌}
use borrow.Author.Tests.{eqb-true, eqb-false}
use Rattle.sparing_place.proofs.Packets.{packet-off, as_lines, packet-as-block}
use Rattle.sparing_place.proofs.judge_start.Goals as goal

pub returns-then-not-is_start : goal.returns-then-not-is_start
returns-then-not-is_start c e d start span lent = packet-off e d c.args.b.0 (eqb-false _ _ (sym c.is_start.ensures ∙ c.if-not-is_start.true))

pub returns : goal.returns
returns c e d start span lent =
    c.judge_number.ensures ∙ as_lines e d _ start span lent ∙ packet-as-block e d _ (eqb-true _ _ (sym c.is_start.ensures ∙ c.if-not-is_start.false))
