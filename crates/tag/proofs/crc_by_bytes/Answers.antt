-- `tag::crc_by_bytes` meets its contract: it is the fold of the step by a byte.
-- Assumes nothing.
use Rattle.std.proofs.Common.{◌≡◌, ◌∙◌, rules}
use Rattle.std.specs.List.{fold}
use Rattle.tag.specs.Crc.{byte_step}
use Rattle.tag.proofs.Laws.{crc-fold}
use Rattle.tag.proofs.crc_by_bytes.Goals as goal

pub returns : goal.returns
returns c = let given = c.args in
    let e : c.fold.result ≡ fold byte_step given.start given.bytes.now = search rules in
    e ∙ crc-fold given.start given.bytes.now
