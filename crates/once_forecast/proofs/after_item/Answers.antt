-- `once_forecast::after_item` meets its contract. Assumes nothing.
use mathlib.Core.Path.{sym, ◌∙◌}
use Rattle.once_forecast.proofs.Laws.{commit-leaves, save-leaves}
use Rattle.once_forecast.proofs.after_item.Goals as goal

pub returns-then-is_commit : goal.returns-then-is_commit
returns-then-is_commit c = commit-leaves _ _ (sym c.is_commit.ensures ∙ c.if-is_commit.true) c.committed.ensures

pub returns : goal.returns
returns c = save-leaves _ _ (sym c.is_commit.ensures ∙ c.if-is_commit.false) c.saved.ensures
