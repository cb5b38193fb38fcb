-- `sparing_writes::copy_order` meets its contract: the tables gathered in two turns are the order. Assumes nothing.
use Rattle.std.proofs.Common.{◌≡◌, ◌≤◌, length, arith, rules, length-take}
use Rattle.model.specs.Disc.{disc as disc_of}
use Rattle.sparing_copy.specs.declared.shapes.Layout.{Layout}
use Rattle.sparing_copy.specs.Layout.{geometry_in}
use Rattle.sparing_copy.proofs.Places.{tables-below}
use Rattle.sparing_writes.proofs.Order.{chosen-all, order-gathered, order-on}
use Rattle.sparing_writes.proofs.copy_order.Goals as goal

-- there are as many tables as the layout says
counted : (x : Layout) → x.count ≤ 4 → length x.volume.tables ≡ 4 → length (geometry_in x).tables ≡ x.count
counted x few e = omega (arith, few, e, length-take x.count x.volume.tables)

pub gather-others-requires : goal.gather-others-requires
gather-others-requires c = let a = c.args in
    let e : length a.x.volume.tables ≡ 4 = search rules in
    record {
      count_bound = c.requires.count_bound;
      disc_len = c.requires.disc_len;
      sectors_value = c.requires.sectors_value;
      at_in_bounds = c.requires.at_in_bounds;
      at_value = c.requires.at_value;
      room = omega (arith, chosen-all (disc_of a.disc.now a.marks.now) (geometry_in a.x) a.sequence (geometry_in a.x).tables, counted a.x c.requires.count_bound.0 e, c.requires.count_bound.0);
    }

pub gather-requires : goal.gather-requires
gather-requires c = let a = c.args in
    let e : length a.x.volume.tables ≡ 4 = search rules in
    record {
      count_bound = c.requires.count_bound;
      disc_len = c.requires.disc_len;
      sectors_value = c.requires.sectors_value;
      at_in_bounds = c.requires.at_in_bounds;
      at_value = c.requires.at_value;
      room = omega (arith, chosen-all (disc_of a.disc.now a.marks.now) (geometry_in a.x) a.sequence (geometry_in a.x).tables, counted a.x c.requires.count_bound.0 e, c.requires.count_bound.0, c.gather-others.ensures.count_value);
    }

pub returns : goal.returns
returns c = let a = c.args in
    let d = disc_of a.disc.now a.marks.now in
    let e : length a.x.volume.tables ≡ 4 = search rules in
    let order = order-gathered d (geometry_in a.x) a.sequence _ _ _ _ a.x.count c.gather-others.ensures.count_value c.gather-others.ensures.places_value c.gather.ensures.count_value c.gather.ensures.places_value (counted a.x c.requires.count_bound.0 e) in
    record {
      result_value = order;
      by_index = order-on d (geometry_in a.x) a.sequence _ _ _ (rw c.requires.sectors_value.0 at (tables-below a.x.volume.tables a.x.count a.x.sectors c.requires.sectors_value.1)) (counted a.x c.requires.count_bound.0 e) order;
    }
