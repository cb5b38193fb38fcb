-- `sparing_written::put_respared` meets its contract, part by part. Assumes nothing.
use Prim.Native.Nat.{◌*◌}
use mathlib.Core.Path.{sym}
use native.Mathlib.Omega.{arith}
use lib.Seq.{length-take-le}
use Rattle.sparing_written.proofs.Written.{respared-written}
use Rattle.sparing_written.proofs.put_respared.Goals as goal

pub slice_bounds-put_numbers-end : goal.slice_bounds-put_numbers-end
slice_bounds-put_numbers-end c = sym (length-take-le _ _ (omega arith))

pub put_numbers-requires : goal.put_numbers-requires
put_numbers-requires c = let l = length-take-le (2 * c.args.own) c.args.table.now (omega arith) in omega arith

pub returns : goal.returns
returns c = let a = c.args in
    respared-written a.table.now a.n a.p.0 a.own a.free c.requires.1 c.requires.2 c.requires.0 a.sector.now _ _ _ _ _ c.requires.3 c.put_numbers.ensures c.put_entry.ensures c.put_numbers-2.ensures c.put_entry-2.ensures c.put_numbers-3.ensures
