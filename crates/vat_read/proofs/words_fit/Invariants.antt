-- `vat_read::words_fit` meets its contract. The loop's invariant: that none was counted and that the words left are below are together the whole.
-- Assumes nothing.
use Prim.Native.Nat.{◌-◌, ◌*◌, ◌/◌, ◌≤◌}
use mathlib.Core.Bool.{◌&&◌}
use mathlib.Core.Path.{◌≡◌}
use lib.Dec.{eqb}
use lib.ListN.{length}
use Rattle.fields.specs.Number.{words}
use Rattle.model.specs.Vat.{all_below}
use Rattle.vat_read.proofs.words_fit.Given as goal

abbrev pub invariant-loop-word : goal.invariant-loop-word
invariant-loop-word l = let n = length l.bytes / 4 in
    (l.over ≤ l.word-index)
    × (eqb l.over 0 && all_below l.k (words l.bytes (4 * l.word-index) (n - l.word-index)) ≡ all_below l.k (words l.bytes 0 n))
