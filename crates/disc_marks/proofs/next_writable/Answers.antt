-- `disc_marks::next_writable` meets its contract. Assumes nothing.
use Rattle.disc_marks.proofs.Laws.{blank-after, next-left}
use Rattle.disc_marks.proofs.next_writable.Goals as goal

pub returns : goal.returns
returns c bytes = let far = c.skip_blank-far.ensures.blank in
    let near = blank-after _ _ _ far c.skip_blank-near.ensures.blank in
    let close = blank-after _ _ _ near c.skip_blank-close.ensures.blank in
    next-left _ _ _ _ c.requires.l_in_bounds (blank-after _ _ _ close c.skip_blank.ensures.blank) c.skip_blank.ensures.used
