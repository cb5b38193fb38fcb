use Rattle.std.proofs.Common.{◌≡◌, ℕ, ◌+◌, ◌<◌, ◌≤◌, Bool, List, length, sym, ap, ◌∙◌, arith, rules}
use mathlib.Core.Bool.{beq}
use Rattle.model.specs.Disc.{Disc}
use Rattle.model.specs.Sparing.{Geometry}
use Rattle.sparing_writes.specs.Order.{is_of, as_wanted, chosen}
use Rattle.sparing_writes.proofs.Order.{numbers-length, numbers-set, wanted-is, gathering-first, gathering-room, gathering-taken, gathering-left, gathering-last}
use Rattle.sparing_writes.proofs.gather.Goals as goal
use Rattle.sparing_writes.proofs.gather.Goals.{then-is_of-wanted, else-is_of-wanted}

pub loop-table-init : goal.loop-table-init
loop-table-init c = gathering-first _ _ _ _ _ _ _ (numbers-length _ ∙ c.told-places)

pub is_of-requires : goal.is_of-requires
is_of-requires c = let i = c.loop-table.table-index in record {
  count_bound = c.requires.count_bound;
  disc_len = c.requires.disc_len;
  t_in_bounds = (omega (arith, c.tables-tables.ensures.on c.requires.sectors_value.1 i c.loop-table-test.true), c.requires.at_in_bounds);
  at_value = c.requires.at_value;
}

-- whether it is as is wanted, of the table that stands there
wanted : (d : Disc) (g : Geometry) (n t u : ℕ) (w r : Bool) → t ≡ u → r ≡ is_of d g n t → as_wanted d g n w u ≡ beq r w
wanted d g n t u w r e q = sym (ap (as_wanted d g n w) e) ∙ wanted-is d g n t w r q

-- there is room for them
roomy : (d : Disc) (g : Geometry) (n b : ℕ) (w : Bool) (t u : List ℕ) → t ≡ u → b + length (chosen d g n w u) ≤ 4 → b + length (chosen d g n w t) ≤ 4
roomy d g n b w t u e h = rw e h

pub bounds-places-count : goal.bounds-places-count
bounds-places-count c = let v = c.loop-table in
    gathering-room _ _ _ _ c.tables-tables.result.now v.table-index _ _ _ _ c.loop-table-test.true (wanted _ _ _ _ _ _ _ c.media_to_physical-t.ensures c.is_of.ensures ∙ c.if-is_of-wanted.true) (roomy _ _ _ _ _ _ _ c.tables-tables.ensures.value c.requires.room) v.invariant

pub overflow_add-count : goal.overflow_add-count
overflow_add-count c = let v = c.loop-table in
    let r : v.count < 4 = gathering-room _ _ _ _ c.tables-tables.result.now v.table-index _ _ _ _ c.loop-table-test.true (wanted _ _ _ _ _ _ _ c.media_to_physical-t.ensures c.is_of.ensures ∙ c.if-is_of-wanted.true) (roomy _ _ _ _ _ _ _ c.tables-tables.ensures.value c.requires.room) v.invariant in
    search rules

pub loop-table-preserved : goal.loop-table-preserved
loop-table-preserved c =
    let t = c.tables-tables.result.now in
    let v = c.loop-table in
    let q = wanted _ _ _ _ _ c.args.wanted _ c.media_to_physical-t.ensures c.is_of.ensures in
    elim c.if-is_of-wanted.branch [
      | then-is_of-wanted w ↦
          let r : v.count < 4 = gathering-room _ _ _ _ t v.table-index _ _ _ _ c.loop-table-test.true (q ∙ w.if-is_of-wanted.true) (roomy _ _ _ _ _ _ _ c.tables-tables.ensures.value c.requires.room) v.invariant in
          rw (w.places-is, w.count-is, numbers-set, c.media_to_physical-t.ensures)
          (gathering-taken _ _ _ _ t v.table-index _ _ _ _ c.loop-table-test.true (q ∙ w.if-is_of-wanted.true) r v.invariant)
      | else-is_of-wanted w ↦
          rw (w.places-is, w.count-is)
          (gathering-left _ _ _ _ t v.table-index _ _ _ _ c.loop-table-test.true (q ∙ w.if-is_of-wanted.false) v.invariant)
    ]

pub returns : goal.returns
returns c =
    let told = gathering-last _ _ _ _ c.tables-tables.result.now c.loop-table.table-index _ _ _ _ c.loop-table-test.false c.loop-table.invariant in
    record { count_value = rw c.tables-tables.ensures.value at told.0; places_value = rw c.tables-tables.ensures.value at told.1 }
