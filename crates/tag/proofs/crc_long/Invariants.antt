-- `tag::crc_long` meets its contract. The invariant: what is left of the bytes, with the masks of the next four words, leads to the CRC of the whole.
-- Assumes nothing.
use Rattle.std.proofs.Common.{◌≡◌, ◌*◌}
use Rattle.tag.specs.Crc.{crc_from}
use Rattle.tag.specs.Word.{carried}
use Rattle.tag.proofs.crc_long.Given as goal

abbrev pub invariant-loop-i : goal.invariant-loop-i
invariant-loop-i l = carried l.bytes (4 * l.i) l.a l.b l.c l.d ≡ crc_from l.start l.bytes
