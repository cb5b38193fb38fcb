-- `address::judge_span` meets its contract: each test's outcome is the definition's.
use mathlib.Core.Path.{refl}
use borrow.Author.Tests.{le-leb, lt-leb}
use Rattle.refusal.proofs.Laws.{goes, stops, ne, eq}
use Rattle.address.proofs.judge_span.Goals as goal

pub returns-then-span-eq0 : goal.returns-then-span-eq0
returns-then-span-eq0 c = stops _ (eq _ _ c.if-span-eq0.true)

pub returns-then-span-gt-MOST_SECTORS : goal.returns-then-span-gt-MOST_SECTORS
returns-then-span-gt-MOST_SECTORS c = goes _ (ne _ _ c.if-span-eq0.false) (stops _ (lt-leb _ _ c.if-span-gt-MOST_SECTORS.true))

pub returns : goal.returns
returns c = goes _ (ne _ _ c.if-span-eq0.false) (goes _ (le-leb _ _ c.if-span-gt-MOST_SECTORS.false) refl)
