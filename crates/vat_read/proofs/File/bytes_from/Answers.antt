use Rattle.std.proofs.Common.{sym, arith}
use Rattle.vat_read.proofs.Bytes.{embedded_all, embedded_standing, length_file}
use Rattle.vat_read.proofs.File.bytes_from.Goals as goal

pub slice_bounds-result-count : goal.slice_bounds-result-count
slice_bounds-result-count c = let t = c.args.self.now.filed in
    let e = embedded_all _ _ _ t (sym c.in-Embedded.ensures) in
    let n = length_file _ _ _ t in
    omega (arith, c.allocation.ensures.1)

pub slice_bounds-result-start : goal.slice_bounds-result-start
slice_bounds-result-start c = let t = c.args.self.now.filed in
    let e = embedded_all _ _ _ t (sym c.in-Embedded.ensures) in
    let n = length_file _ _ _ t in
    omega (arith, c.allocation.ensures.1)

pub returns-in-Embedded : goal.returns-in-Embedded
returns-in-Embedded c = let t = c.args.self.now.filed in
    let n = length_file _ _ _ t in
    embedded_standing _ _ _ t _ _ (sym c.in-Embedded.ensures) (omega arith) c.allocation.ensures.0 c.allocation.ensures.1
