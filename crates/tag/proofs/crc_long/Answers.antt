use Rattle.std.proofs.Common.{◌≡◌, ℕ, ◌+◌, ◌*◌, ap, ◌∙◌, arith}
use Rattle.tag.specs.Word.{carried}
use Rattle.tag.proofs.Words.{carry-starts, carry-next}
use Rattle.tag.proofs.crc_long.Goals as goal

pub loop-i-init : goal.loop-i-init
loop-i-init c = let given = c.args in
    ap (λ (x : ℕ). carried given.bytes.now 0 (x * 65536) 0 0 0) c.from-a.ensures
    ∙ carry-starts given.bytes.now given.start c.requires c.ranges.start.fits

pub loop-i-preserved : goal.loop-i-preserved
loop-i-preserved c = let at = c.loop-i in
    let n : 4 * (at.i + 1) ≡ 4 * at.i + 4 = omega arith in
    rw n (carry-next c.args.bytes.now (4 * at.i) at.a at.b at.c at.d (omega arith) c.masked-t.ensures c.masked-t.type_inv ∙ at.invariant)
