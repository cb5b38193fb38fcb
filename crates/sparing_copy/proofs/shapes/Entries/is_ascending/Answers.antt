use Rattle.std.proofs.Common.{◌≡◌, ℕ, ◌+◌, ◌-◌, drop, sym, ap, ◌∙◌, arith}
use Rattle.model.specs.Sparing.{ascending}
use Rattle.sparing_copy.specs.Layout.{listed}
use Rattle.sparing_copy.proofs.Entries.{sector-step, sector-end}
use Rattle.sparing_copy.proofs.Rule.{ascending-end, ascending-off, ascending-next}
use Rattle.sparing_copy.proofs.shapes.Entries.is_ascending.Goals as goal

pub returns-then-not-is_after : goal.returns-then-not-is_after
returns-then-not-is_after c = let es = c.args.self.now in
    let i = c.loop-i.i in
    let b = es.sector.now in
    let e : i - 1 + 1 ≡ i = omega arith in
    ascending-off (listed es) (i - 1) i _ _ (rw e at (sector-step b es.count (i - 1) (omega arith))) (sector-step b es.count i (omega arith)) _ _ c.original.ensures c.original-in-loop-i.ensures (sym c.is_after.ensures ∙ c.if-not-is_after.true) ∙ c.loop-i.invariant

pub loop-i-preserved : goal.loop-i-preserved
loop-i-preserved c = let es = c.args.self.now in
    let i = c.loop-i.i in
    let b = es.sector.now in
    let e : i - 1 + 1 ≡ i = omega arith in
    let d : i + 1 - 1 ≡ i = omega arith in
    ap (λ (k : ℕ). ascending (drop k (listed es))) d ∙ ascending-next (listed es) (i - 1) i _ _ (rw e at (sector-step b es.count (i - 1) (omega arith))) (sector-step b es.count i (omega arith)) _ _ c.original.ensures c.original-in-loop-i.ensures (sym c.is_after.ensures ∙ c.if-not-is_after.false) ∙ c.loop-i.invariant

pub returns : goal.returns
returns c = let es = c.args.self.now in
    let i = c.loop-i.i in
    ascending-end (listed es) (i - 1) (sector-end es.sector.now es.count (i - 1 + 1) (omega arith)) ∙ c.loop-i.invariant
