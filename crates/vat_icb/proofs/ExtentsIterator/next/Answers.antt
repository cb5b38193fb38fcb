use Rattle.std.proofs.Common.{arith}
use Rattle.std.proofs.lemmas.Grind.{common_steps}
use Rattle.vat_icb.proofs.Laws.{left_none, left_zero, left_next}
use Rattle.vat_icb.proofs.ExtentsIterator.next.Goals as goal

pub returns-in_err-pair-clause-steps : goal.returns-in_err-pair-clause-steps
returns-in_err-pair-clause-steps c = let e = left_none c.args.self.now c.in_err-pair.ensures.cases in rw c.from_residual.ensures (e, e)

pub returns-then-size-eq0-clause-steps : goal.returns-then-size-eq0-clause-steps
returns-then-size-eq0-clause-steps c = let p = c.in_ok-pair.ensures.cases in
    let e = left_zero c.args.self.now _ p.0 (omega (arith, p.2)) _ c.read-size.ensures c.if-size-eq0.true in (e, e)

pub returns-clause-steps : goal.returns-clause-steps
returns-clause-steps c = let p = c.in_ok-pair.ensures.cases in
    left_next c.args.self.now _ p.0 (omega (arith, p.2)) _ c.read-size.ensures c.if-size-eq0.false _ _ c.read.ensures p.1 p.2

pub returns-clause-goes : goal.returns-clause-goes
returns-clause-goes c = let p = c.in_ok-pair.ensures.cases in
    let e = left_next c.args.self.now _ p.0 (omega (arith, p.2)) _ c.read-size.ensures c.if-size-eq0.false _ (record { pairs = c.in_ok-pair.others }) c.read.ensures p.1 p.2 in
    grind (arith, common_steps, e)
