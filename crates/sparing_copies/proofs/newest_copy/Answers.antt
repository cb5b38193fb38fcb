use Rattle.std.proofs.Common.{◌≡◌, ℕ, ◌-◌, length, drop, ap, ◌∙◌, arith}
use Rattle.sparing_copies.proofs.Copies.{newest-none, newest-next, later-below, found-on, found-counts}
use Rattle.sparing_copies.specs.Copies.{newest_of}
use Rattle.sparing_copy.specs.Layout.{geometry_in}
use Rattle.model.specs.Disc.{disc as disc_of}
use Rattle.sparing_copies.proofs.newest_copy.Goals as goal

pub loop-i-init : goal.loop-i-init
loop-i-init c = let t = c.tables-tables.result.now in newest-none _ _ t (length t) (omega arith)

pub newer_copy-newest-requires : goal.newer_copy-newest-requires
newer_copy-newest-requires c = let v = c.loop-i in
    let t = c.tables-tables.result.now in
    let on = rw c.requires.sectors_value.0 at (c.tables-tables.ensures.on c.requires.sectors_value.1) in
    record {
      count_bound = c.requires.count_bound;
      disc_len = c.requires.disc_len;
      t_in_bounds = omega (arith, on (v.i - 1) (omega arith));
      at_in_bounds = found-on _ _ _ v.newest v.invariant _ (later-below t v.i _ on);
      at_value = found-counts _ _ _ v.newest v.invariant;
    }

pub loop-i-preserved : goal.loop-i-preserved
loop-i-preserved c = let v = c.loop-i in
    newest-next _ _ _ v.i _ _ _ c.loop-i-test.true v.auto.i v.invariant c.media_to_physical-t.ensures c.newer_copy-newest.ensures

pub returns : goal.returns
returns c = let a = c.args in
    let z : c.loop-i.i ≡ 0 = omega arith in
    c.loop-i.invariant
    ∙ ap (λ (i : ℕ). newest_of (disc_of a.disc.now a.marks.now) (geometry_in a.x) (drop i c.tables-tables.result.now)) z
    ∙ ap (newest_of _ _) c.tables-tables.ensures.value
