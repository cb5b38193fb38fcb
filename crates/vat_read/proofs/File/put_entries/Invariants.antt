-- `vat_read::File::put_entries` meets its contract. The loop's invariant: the first `v` entries are in the table, all other places are as they
-- came. Assumes nothing.
use Prim.Native.Nat.{◌-◌, ◌≤◌}
use mathlib.Core.Path.{◌≡◌}
use Rattle.fields.specs.Number.{words}
use Rattle.model.specs.Once.{filled_from}
use Rattle.vat_read.specs.Content.{content}
use Rattle.vat_read.proofs.File.put_entries.Given as goal

abbrev pub invariant-loop-v : goal.invariant-loop-v
invariant-loop-v l = (l.v ≤ l.n) × (l.table ≡ filled_from (words (content l.self) 0 l.v) l.initial.table)

abbrev pub decreases-loop-v : goal.decreases-loop-v
decreases-loop-v l = l.n - l.v
