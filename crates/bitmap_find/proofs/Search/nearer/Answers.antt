-- `bitmap_find::Search::nearer` meets its contract: of the run above and the one below, the nearer. Assumes nothing.
use mathlib.Core.Path.{sym, subst}
use Rattle.bitmap_find.specs.Nearest.{Nearest}
use Rattle.bitmap_find.proofs.Pick.{nearer-of}
use Rattle.bitmap_find.proofs.Search.nearer.Goals as goal

pub returns : goal.returns
returns c = let p = c.requires in
    subst (Nearest _ _ _ _) (sym c.unwrap_or.ensures)
    (nearer-of _ _ _ _ _ _ _ _ c.args.self.some p.0 p.3 p.4 p.2 c.saturating_sub-low.ensures c.min.ensures _ c.highest.ensures)
