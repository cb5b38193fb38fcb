-- `maps::read_maps` meets its contract: each return by the law of its case. Assumes nothing.
use mathlib.Core.Path.{sym, ◌∙◌}
use Rattle.maps.proofs.Reading.{read-cut, read-neither}
use Rattle.maps.proofs.read_maps.Goals as goal

pub returns-then-is_short : goal.returns-then-is_short
returns-then-is_short c = read-cut _ (sym c.is_short.ensures ∙ c.if-is_short.true)

pub read_write_once-requires : goal.read_write_once-requires
read_write_once-requires c = sym c.is_write_once.ensures ∙ c.if-is_write_once.true

pub read_rewritable-requires : goal.read_rewritable-requires
read_rewritable-requires c = sym c.is_rewritable.ensures ∙ c.if-is_rewritable.true

pub returns : goal.returns
returns c = read-neither _
    (sym c.is_short.ensures ∙ c.if-is_short.false)
    (sym c.is_write_once.ensures ∙ c.if-is_write_once.false)
    (sym c.is_rewritable.ensures ∙ c.if-is_rewritable.false)
