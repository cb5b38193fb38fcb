-- `fields_written::write_numbers` meets its contract. The invariant: the numbers passed are put in. Assumes nothing.
use mathlib.Core.Path.{◌≡◌}
use lib.ListN.{length, take}
use Rattle.fields.specs.Number.{quads}
use Rattle.fields.specs.Bytes.{splice}
use Rattle.fields_written.proofs.write_numbers.Given as goal

abbrev pub invariant-loop-i : goal.invariant-loop-i
invariant-loop-i l = (length l.s ≡ length l.initial.s) × (l.s ≡ splice l.initial.s l.at (quads (take l.i l.numbers)))
