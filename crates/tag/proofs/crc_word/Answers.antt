-- `tag::crc_word` meets its contract: the CRC so far, above 16 bits more, is xored into the word of the four bytes.
-- Assumes nothing.
use Rattle.std.proofs.Common.{◌≡◌, ℕ, ◌*◌, ◌∙◌, ap₂, arith}
use lib.Bits.{bit_xor}
use Rattle.tag.specs.Word.{word_of, word_step}
use Rattle.tag.proofs.Words.{step-raised, word_bytes}
use Rattle.tag.proofs.crc_word.Goals as goal

pub returns : goal.returns
returns c = let given = c.args in
    let high : c.from.result * 65536 ≡ given.crc * 65536 = omega (arith, c.from.ensures) in
    let word : c.from_be_bytes.result ≡ word_of given.a given.b given.c given.d = omega (arith, c.from_be_bytes.ensures) in
    c.fold.ensures
    ∙ ap₂ (λ (x w : ℕ). word_step 0 (bit_xor x w)) high word
    ∙ step-raised given.crc (word_of given.a given.b given.c given.d) c.ranges.crc.fits
    ∙ word_bytes given.crc given.a given.b given.c given.d
