-- `vat_read::File::words_below` meets its contract. The loop's invariant: the words from `v` on answer for all. Assumes nothing.
use Prim.Native.Nat.{◌-◌, ◌*◌, ◌≤◌}
use mathlib.Core.Path.{◌≡◌}
use Rattle.fields.specs.Number.{words}
use Rattle.model.specs.Vat.{all_below}
use Rattle.vat_read.specs.Content.{content}
use Rattle.vat_read.proofs.File.words_below.Given as goal

abbrev pub invariant-loop-v : goal.invariant-loop-v
invariant-loop-v l = (l.v ≤ l.n) × (all_below l.k.0 (words (content l.self) (4 * l.v) (l.n - l.v)) ≡ all_below l.k.0 (words (content l.self) (4 * l.from) (l.n - l.from)))

abbrev pub decreases-loop-v : goal.decreases-loop-v
decreases-loop-v l = l.n - l.v
