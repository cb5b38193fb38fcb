-- `sparing_copy::Entries::none_inside` meets its contract. The invariant: what was found and the entries left answer together for all. Assumes nothing.
use Rattle.std.proofs.Common.{◌≡◌, ◌&&◌, drop}
use Rattle.sparing_copy.specs.Layout.{listed}
use Rattle.sparing_copy.specs.Slots.{none_inside}
use Rattle.sparing_copy.proofs.shapes.Entries.none_inside.Given as goal

abbrev pub invariant-loop-i : goal.invariant-loop-i
invariant-loop-i l = l.none && none_inside l.span.start l.span.length (drop l.i (listed l.self)) ≡ none_inside l.span.start l.span.length (listed l.self)
