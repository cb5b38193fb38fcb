-- `disc_read::judge_sector` meets its contract: the lines of its mark. Assumes nothing.
use Rattle.model.specs.Disc.{mark}
use Rattle.disc_read.proofs.judge_sector.Goals as goal

pub returns : goal.returns
unfolding mark
returns c bytes = c.judge_mark.ensures
