-- `tag::step` meets its contract: the four bytes of the word go through the word's step.
-- Assumes nothing.
use Rattle.std.proofs.Common.{List, ℕ, get_or, ap}
use Rattle.tag.proofs.Words.{bytes_word}
use Rattle.tag.proofs.step.Goals as goal

pub returns : goal.returns
returns c = let byte : (k : ℕ) → _ = λ k. ap (λ (b : List ℕ). get_or b k 0) c.to_be_bytes.ensures in
    bytes_word _ _ (byte 0) (byte 1) (byte 2) (byte 3) c.crc_word.ensures
