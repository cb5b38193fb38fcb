-- `disc_read::judge_run` meets its contract: where all are recorded neither line applies, else the lines of the first mark. Assumes nothing.
use mathlib.Core.Path.{ap, ◌∙◌}
use Rattle.refusal.specs.Tests.{first}
use Rattle.model.specs.Disc.{disc, mark_tests}
use Rattle.disc_read.proofs.Laws.{run-goes}
use Rattle.disc_read.proofs.judge_run.Goals as goal

pub returns-then-all_recorded : goal.returns-then-all_recorded
returns-then-all_recorded c bytes = run-goes (disc bytes _) _ _ (c.all_recorded.ensures bytes) c.if-all_recorded.true

pub returns : goal.returns
returns c bytes = c.judge_mark.ensures ∙ ap (λ m. first (mark_tests m)) (c.first_mark.ensures bytes)
