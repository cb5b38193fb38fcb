-- `maps::are_apart` meets its contract: each place by the law of its case. Assumes nothing.
use mathlib.Core.Path.{sym, ◌∙◌}
use native.Mathlib.Omega.{arith}
use Rattle.maps.proofs.Tables.{apart-end, apart-off, apart-twice, apart_next}
use Rattle.maps.proofs.are_apart.Goals as goal

pub returns-then-sector-ne0 : goal.returns-then-sector-ne0
returns-then-sector-ne0 c = apart-off _ _ _ (omega arith) c.loop-i-test.true c.if-sector-ne0.true ∙ c.loop-i.invariant

pub returns-then-not-is_absent : goal.returns-then-not-is_absent
returns-then-not-is_absent c = apart-twice _ _ _ (omega arith) c.loop-i-test.true c.if-sector-ne0.false (sym c.is_absent.ensures ∙ c.if-not-is_absent.true) ∙ c.loop-i.invariant

pub loop-i-preserved : goal.loop-i-preserved
loop-i-preserved c = apart_next _ _ _ (omega arith) c.loop-i-test.true c.if-sector-ne0.false (sym c.is_absent.ensures ∙ c.if-not-is_absent.false) ∙ c.loop-i.invariant

pub returns : goal.returns
returns c = apart-end _ _ _ (omega arith) c.loop-i-test.false ∙ c.loop-i.invariant
