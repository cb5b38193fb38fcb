-- `tag::crc_byte` meets its contract: the low byte moves up, and the step from 0 brings in the high byte xored with the new one.
-- Assumes nothing.
use Rattle.std.proofs.Common.{◌*◌, ◌%◌, sym, ap, ◌∙◌}
use lib.Bits.{bit_xor}
use Rattle.tag.proofs.Laws.{byte_step-zero}
use Rattle.tag.proofs.crc_byte.Goals as goal

pub returns : goal.returns
returns c = let given = c.args in
    ap (bit_xor (given.crc % 256 * 256)) c.spread.ensures ∙ sym (byte_step-zero given.crc given.byte)
