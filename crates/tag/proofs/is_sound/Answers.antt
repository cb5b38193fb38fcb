-- `tag::is_sound` meets its contract: the checksum, then the CRC. Assumes nothing.
use Rattle.std.proofs.Common.{eqb, sym, ◌∙◌, ap₂, eq-eqb, ne_eqb}
use Rattle.fields.proofs.Tests.{fails, holds}
use Rattle.tag.specs.Sound.{sound}
use Rattle.tag.proofs.Renewed.{crc-told}
use Rattle.tag.proofs.is_sound.Goals as goal

pub returns-then-b-checksum : goal.returns-then-b-checksum
unfolding sound
returns-then-b-checksum c = holds (eq-eqb _ _ (c.if-b-checksum.true ∙ c.checksum.ensures))
    (ap₂ eqb c.read.ensures (c.crc.ensures ∙ crc-told _ _ c.end_of.ensures))

pub returns-else-b-checksum : goal.returns-else-b-checksum
unfolding sound
returns-else-b-checksum c =
    ne_eqb _ _ c.if-b-checksum.false ∙ fails _ (ne_eqb _ _ (λ e. c.if-b-checksum.false (e ∙ sym c.checksum.ensures)))
