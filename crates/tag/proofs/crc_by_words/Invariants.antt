-- `tag::crc_by_words` meets its contract. The invariant: what the words left and the tail are leads from the CRC so far to the CRC of the whole.
-- Assumes nothing.
use Rattle.std.proofs.Common.{◌≡◌, ◌*◌, ◌≤◌, length, drop}
use Rattle.tag.specs.Crc.{crc_from}
use Rattle.tag.proofs.crc_by_words.Given as goal

abbrev pub invariant-loop-w : goal.invariant-loop-w
invariant-loop-w l = record {
  by_four : l.w-iterator.size ≡ 4;
  within : 4 * length l.yielded ≤ length l.bytes;
  left : l.w-iterator.rest.now ≡ drop (4 * length l.yielded) l.bytes;
  leads : crc_from l.so_far l.w-iterator.rest.now ≡ crc_from l.start l.bytes;
}
