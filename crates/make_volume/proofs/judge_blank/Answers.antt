-- `make_volume::judge_blank` meets its contract: each return by the law of its line. Assumes nothing.
use borrow.Author.Rules.{rules}
use Rattle.model.specs.Disc.{disc}
use Rattle.model.specs.Examine.{setting}
use Rattle.model.proofs.Sectors.{shapely-most}
use Rattle.examine.proofs.Laws.{seen-tells}
use Rattle.make_volume.proofs.Blank.{make-examined, make-other, make-used, make-blank, blank-room}
use Rattle.make_volume.proofs.judge_blank.Goals as goal

pub returns-in_err-volume : goal.returns-in_err-volume
returns-in_err-volume c = make-examined _ _ c.examine.ensures c.in_err-volume.was (search rules)

pub returns-in-Rewritable : goal.returns-in-Rewritable
returns-in-Rewritable c = make-other _ _ c.examine.ensures c.in_ok-volume.was c.in-Rewritable.is

pub is_next-requires : goal.is_next-requires
is_next-requires c =
    let e = setting c.args.maps.now c.args.s c.args.l in
    let d = disc c.args.disc.now c.args.marks.now in
    record {
      l_in_bounds = blank-room e d c.examine.ensures c.in_ok-volume.was;
      marks_len_bound = shapely-most d (seen-tells e d _ c.examine.ensures c.in_ok-volume.was).shape;
    }

pub returns-then-not-is_next : goal.returns-then-not-is_next
returns-then-not-is_next c = make-used _ _ c.examine.ensures c.in_ok-volume.was c.in_default.is (c.is_next.ensures _) c.if-not-is_next.true

pub returns : goal.returns
returns c = make-blank _ _ c.examine.ensures c.in_ok-volume.was c.in_default.is (c.is_next.ensures _) c.if-not-is_next.false
