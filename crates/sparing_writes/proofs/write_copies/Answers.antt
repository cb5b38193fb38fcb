use Rattle.std.proofs.Common.{◌<◌, length, get_or, arith}
use Rattle.sparing_writes.proofs.Laws.{copying-first, copying-next, copying-last}
use Rattle.disc_writes.proofs.Laws.{write-there}
use Rattle.sparing_writes.specs.Order.{numbers_of}
use Rattle.sparing_writes.proofs.Order.{numbers-length, numbers-at}
use Rattle.sparing_writes.proofs.write_copies.Goals as goal

pub loop-k-init : goal.loop-k-init
loop-k-init c = copying-first _ _ _ _ _

pub write_sector-requires : goal.write_sector-requires
write_sector-requires c = let h : get_or (numbers_of c.args.places.now) c.loop-k.k 0 < length c.args.marks.now = c.requires.by_index c.loop-k.k c.loop-k-test.true in
    let m = c.loop-k.invariant.marks-length in
    let b = c.loop-k.invariant.bytes-length in record {
      at_in_bounds = omega (arith, h, m, numbers-at c.args.places.now c.loop-k.k);
      disc_len = omega (arith, b, m, c.requires.disc_len);
      bytes_len = c.requires.bytes_len;
    }

pub loop-k-preserved : goal.loop-k-preserved
loop-k-preserved c =
    let ps = c.args.places.now in
    copying-next _ _ (numbers_of ps) _ _ _ c.loop-k.k _ (omega (arith, numbers-length ps))
    (write-there _ _ _ _ _ (numbers-at ps c.loop-k.k) c.write_sector.ensures)
    c.write_sector.auto.disc
    c.write_sector.auto.marks
    c.loop-k.invariant

pub returns : goal.returns
returns c = let ps = c.args.places.now in
    copying-last _ _ (numbers_of ps) _ _ _ c.loop-k.k (omega (arith, numbers-length ps)) c.loop-k.invariant
