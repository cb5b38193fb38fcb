-- `vat_read::put_words` meets its contract. The loop's invariant: the first `i` words are in their places and all others are as they came. Assumes
-- nothing.
use Prim.Native.Nat.{◌/◌}
use lib.ListN.{length}
use Rattle.fields.specs.Number.{words}
use Rattle.fields.proofs.Laws.{Copying}
use Rattle.vat_read.proofs.put_words.Given as goal

abbrev pub invariant-loop-i : goal.invariant-loop-i
invariant-loop-i l = Copying l.initial.table l.from (words l.bytes 0 (length l.bytes / 4)) l.table l.i
