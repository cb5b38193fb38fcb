-- `examine::judge_once` meets its contract: each return by the law of its line. Assumes nothing.
use Rattle.std.proofs.Common.{◌≡◌, refl}
use borrow.Author.Rules.{rules}
use Rattle.std.specs.Prelude.{Err}
use Rattle.model.specs.Disc.{disc}
use Rattle.model.specs.Examine.{setting}
use Rattle.model.proofs.Sectors.{shapely-most, inside-fits}
use Rattle.examine.proofs.Laws.{seen-tells, once-examined, once-other, once-stale, once-judged, once-stopped}
use Rattle.examine.proofs.judge_once.Goals as goal

pub returns-in_err-volume : goal.returns-in_err-volume
returns-in_err-volume c =
    let e : c.from_residual.result ≡ Err c.in_err-volume.field-0.0 = search rules in
    once-stopped _ _ _ _ _ e (once-examined _ _ _ _ _ c.examine.ensures c.in_err-volume.was)

pub returns-in-Rewritable : goal.returns-in-Rewritable
returns-in-Rewritable c = once-stopped _ _ _ _ _ refl (once-other _ _ _ _ _ c.examine.ensures c.in_ok-volume.was c.in-Rewritable.is)

pub is_held-requires : goal.is_held-requires
is_held-requires c = let a = c.args in
    let e = setting a.maps.now a.s a.l in
    let d = disc a.disc.now a.marks.now in
    let told = seen-tells e d _ c.examine.ensures c.in_ok-volume.was in
    record {
      l_in_bounds = (inside-fits d _ _ told.within).1;
      marks_len_bound = shapely-most d told.shape;
      in_bounds = c.requires told.lengths;
    }

pub returns-then-not-is_held : goal.returns-then-not-is_held
returns-then-not-is_held c =
    once-stopped _ _ _ _ _ refl
    (once-stale _ _ _ _ _ c.examine.ensures c.in_ok-volume.was c.in_default.is (c.is_held.ensures _ _) c.if-not-is_held.true)

pub returns : goal.returns
returns c = once-judged _ _ _ _ _ c.examine.ensures c.in_ok-volume.was c.in_default.is (c.is_held.ensures _ _) c.if-not-is_held.false
