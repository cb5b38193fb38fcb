-- `tag::spread` meets its contract: its rule is computed here at each of the 256 bytes.
-- Assumes nothing.
use Rattle.std.proofs.Common.{◌≡◌, ℕ, ◌*◌, ◌/◌, ◌%◌, ◌<◌, refl, ap, ◌∙◌}
use lib.Bits.{bit_xor}
use Rattle.tag.specs.Crc.{bit_step, bits_of, bits_from, byte_step}
use Rattle.tag.proofs.Laws.{listed-agree}
use Rattle.tag.proofs.spread.Goals as goal

-- what the code makes of `y`, a byte xored with its own high half
abbrev spread_of : ℕ → ℕ
spread_of y = bit_xor (bit_xor (y % 16 * 4096) (y * 32)) y

-- which is the step from 0, at each byte
rule : (x : ℕ) → x < 256 → spread_of (bit_xor x (x / 16)) ≡ byte_step 0 x
unfolding bit_step bits_of bits_from byte_step
rule x h = listed-agree (λ (n : ℕ). spread_of (bit_xor n (n / 16))) (byte_step 0) 256 x refl h

pub returns : goal.returns
returns c = ap spread_of c.from-y.ensures ∙ rule c.args.x c.ranges.x.fits
