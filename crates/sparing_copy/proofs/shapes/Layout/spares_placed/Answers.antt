use Rattle.std.proofs.Common.{◌+◌, List, ap, ◌∙◌}
use Rattle.maps.specs.Kinds.{absent}
use Rattle.model.specs.Sparing.{Entry, mapped_of}
use Rattle.model.specs.Both.{spare_entries}
use Rattle.sparing_copy.proofs.Rule.{mapped_end, mapped-off, mapped-twice, mapped_next}
use Rattle.sparing_copy.proofs.Entries.{spare-step, spare-end, spare-tail}
use Rattle.sparing_copy.proofs.shapes.Layout.spares_placed.Goals as goal

pub returns-then-not-is_placed : goal.returns-then-not-is_placed
returns-then-not-is_placed c = let s = c.args.spares.now in
    mapped-off (spare_entries s) c.loop-i.i _ (spare-step s c.loop-i.i c.loop-i-test.true) _ _ c.mapped_to_physical-m.ensures _ c.is_placed.ensures c.if-not-is_placed.true
    ∙ c.loop-i.invariant

pub returns-then-not-is_absent_spare : goal.returns-then-not-is_absent_spare
returns-then-not-is_absent_spare c = let s = c.args.spares.now in
    mapped-twice (spare_entries s) c.loop-i.i _ (spare-step s c.loop-i.i c.loop-i-test.true) _ _ c.mapped_to_physical-m.ensures _ _ c.is_placed.ensures c.if-not-is_placed.false (c.is_absent_spare.ensures ∙ ap (λ (l : List Entry). absent c.mapped_to_physical-m.result.0 (mapped_of l)) (spare-tail s (c.loop-i.i + 1))) c.if-not-is_absent_spare.true
    ∙ c.loop-i.invariant

pub loop-i-preserved : goal.loop-i-preserved
loop-i-preserved c = let s = c.args.spares.now in
    mapped_next (spare_entries s) c.loop-i.i _ (spare-step s c.loop-i.i c.loop-i-test.true) _ _ c.mapped_to_physical-m.ensures _ _ c.is_placed.ensures c.if-not-is_placed.false (c.is_absent_spare.ensures ∙ ap (λ (l : List Entry). absent c.mapped_to_physical-m.result.0 (mapped_of l)) (spare-tail s (c.loop-i.i + 1))) c.if-not-is_absent_spare.false
    ∙ c.loop-i.invariant

pub returns : goal.returns
returns c = let s = c.args.spares.now in
    mapped_end (spare_entries s) c.loop-i.i (spare-end s c.loop-i.i c.loop-i-test.false) _ ∙ c.loop-i.invariant
