-- `maps::is_absent` meets its contract: each place by the law of its case. Assumes nothing.
use mathlib.Core.Path.{◌∙◌}
use native.Mathlib.Omega.{arith}
use Rattle.maps.proofs.Tables.{absent-end, absent-found, absent-next}
use Rattle.maps.proofs.is_absent.Goals as goal

pub returns-then-sector-sectors : goal.returns-then-sector-sectors
returns-then-sector-sectors c = absent-found _ _ _ (omega arith) _ c.loop-i-test.true c.if-sector-sectors.true ∙ c.loop-i.invariant

pub loop-i-preserved : goal.loop-i-preserved
loop-i-preserved c = absent-next _ _ _ (omega arith) _ c.loop-i-test.true c.if-sector-sectors.false ∙ c.loop-i.invariant

pub returns : goal.returns
returns c = absent-end _ _ _ (omega arith) _ c.loop-i-test.false ∙ c.loop-i.invariant
