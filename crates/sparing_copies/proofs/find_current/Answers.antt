-- `sparing_copies::find_current` meets its contract: by the newest copy, and whether the others of its sequence agree with it. Assumes nothing.
use Rattle.std.proofs.Common.{◌≡◌, ℕ, ◌+◌, ◌*◌, ◌<◌, ◌≤◌, Some, sym, ◌∙◌, arith}
use Rattle.sparing_copy.proofs.Places.{tables-below}
use Rattle.sparing_copies.proofs.Copies.{none_found, found-on, found-counts, differ-found, current-found}
use Rattle.sparing_copies.proofs.find_current.Goals as goal

pub returns-in_default : goal.returns-in_default
returns-in_default c = none_found _ _ (sym c.in_default.is ∙ c.newest_copy.ensures)

pub copies_agree-requires : goal.copies_agree-requires
copies_agree-requires c = let x = c.args.x in
    let is = sym c.in-Some.is ∙ c.newest_copy.ensures in
    record {
      count_bound = c.requires.count_bound;
      disc_len = c.requires.disc_len;
      sectors_value = c.requires.sectors_value;
      at_in_bounds = rw c.requires.sectors_value.0 at (found-on _ _ _ (Some c.in-Some.newest) is _ (tables-below x.volume.tables x.count x.sectors c.requires.sectors_value.1));
      at_value = found-counts _ _ _ (Some c.in-Some.newest) is;
    }

pub returns-then-not-copies_agree : goal.returns-then-not-copies_agree
returns-then-not-copies_agree c = differ-found _ _ _ (sym c.in-Some.is ∙ c.newest_copy.ensures) (sym c.copies_agree.ensures ∙ c.if-not-copies_agree.true)

-- a sector of the disc lies in its bytes
whole : (t m d : ℕ) → t < m → d ≡ 2048 * m → 2048 * t + 2048 ≤ d
whole t m d h e = omega arith

pub count_at-requires : goal.count_at-requires
count_at-requires c = let x = c.args.x in
    let is = sym c.in-Some.is ∙ c.newest_copy.ensures in
    whole _ _ _ (rw c.requires.sectors_value.0 at (found-on _ _ _ (Some c.in-Some.newest) is _ (tables-below x.volume.tables x.count x.sectors c.requires.sectors_value.1))) c.requires.disc_len

pub returns : goal.returns
returns c = let x = c.args.x in
    let is = sym c.in-Some.is ∙ c.newest_copy.ensures in
    current-found _ _ _ is _ (sym c.copies_agree.ensures ∙ c.if-not-copies_agree.false) (found-on _ _ _ (Some c.in-Some.newest) is _ (tables-below x.volume.tables x.count x.sectors c.requires.sectors_value.1)) (c.from-entries.ensures ∙ c.count_at.ensures _)
