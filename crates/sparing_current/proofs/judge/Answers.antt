-- `sparing_current::judge` meets its contract: each return by the law of its line. Assumes nothing.
use native.Mathlib.Omega.{arith}
use borrow.Author.Rules.{rules}
use Rattle.model.specs.Disc.{sector}
use Rattle.sparing_current.proofs.Looks.{look-tells, look-place, look-count, look-short, judge-looked, judge-stale, judge-fits}
use Rattle.sparing_current.proofs.judge.Goals as goal

pub returns-in_err-looked : goal.returns-in_err-looked
returns-in_err-looked c = judge-looked _ _ _ _ _ c.in_err-looked.ensures (search rules)

pub is_current-requires : goal.is_current-requires
unfolding sector
is_current-requires c =
    let s = c.in_ok-looked.ensures in
    let long = c.requires (look-tells s).whole.lengths in
    record {
      at_in_bounds = look-place s;
      by_index = λ marks. look-count s;
      entries_bound = (look-short s, omega (arith, look-short s, long));
    }

pub returns-then-not-is_current : goal.returns-then-not-is_current
returns-then-not-is_current c =
    let s = c.in_ok-looked.ensures in
    judge-stale _ _ _ _ _ s (c.is_current.ensures _ _ s.found.current) c.if-not-is_current.true

pub returns : goal.returns
returns c =
    let s = c.in_ok-looked.ensures in
    judge-fits _ _ _ _ _ s (c.is_current.ensures _ _ s.found.current) c.if-not-is_current.false
