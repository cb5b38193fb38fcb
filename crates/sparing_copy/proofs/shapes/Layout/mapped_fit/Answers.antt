use Rattle.std.proofs.Common.{◌≡◌, ℕ, ◌-◌, get_or, sym, refl, ap, ◌∙◌, arith}
use mathlib.Core.Bool.{false≢true}
use Rattle.sparing_copy.specs.Layout.{geometry_in, listed}
use Rattle.sparing_copy.specs.Slots.{may_hold}
use Rattle.sparing_copy.proofs.Entries.{sector-step, sector-end}
use Rattle.sparing_copy.proofs.Rule.{mapped-off, mapped-twice, mapped-rest}
use Rattle.sparing_copy.proofs.Slots.{Passed, passed_none, passed-behind, passed-next}
use Rattle.sparing_copy.proofs.shapes.Layout.mapped_fit.Goals as goal

pub loop-i-init : goal.loop-i-init
loop-i-init c = let es = c.args.entries.now in
    passed_none _ (listed es) _ c.from-i.result (sector-end es.sector.now es.count c.from-i.result (omega arith)) c.told-seen

pub returns-then-not-is_placed : goal.returns-then-not-is_placed
returns-then-not-is_placed c = let i = c.loop-i.i in
    let es = c.args.entries.now in record {
      value = mapped-rest _ (listed es) (i - 1) (mapped-off (listed es) (i - 1) _ (sector-step es.sector.now es.count (i - 1) (omega arith)) _ _ c.mapped-m.ensures _ c.is_placed.ensures c.if-not-is_placed.true);
      told = λ f. absurd (false≢true f);
    }

pub is_new-requires : goal.is_new-requires
is_new-requires c = let v = c.loop-i in
    let p = passed-behind _ _ _ v.i c.loop-i-test.true v.invariant in
    let m = c.mapped-m.result.0 in
    λ z. p.told m (ap (λ (k : ℕ). may_hold (get_or v.seen k 0) m) (sym c.slot_of-slot.ensures.0) ∙ z)

pub returns-then-not-is_new : goal.returns-then-not-is_new
returns-then-not-is_new c = let i = c.loop-i.i in
    let es = c.args.entries.now in record {
      value = mapped-rest _ (listed es) (i - 1) (mapped-twice (listed es) (i - 1) _ (sector-step es.sector.now es.count (i - 1) (omega arith)) _ _ c.mapped-m.ensures _ _ c.is_placed.ensures c.if-not-is_placed.false c.is_new.ensures c.if-not-is_new.true);
      told = λ f. absurd (false≢true f);
    }

pub loop-i-preserved : goal.loop-i-preserved
loop-i-preserved c = let v = c.loop-i in
    let es = c.args.entries.now in
    passed-next _ (listed es) v.seen (v.i - 1) _ (sector-step es.sector.now es.count (v.i - 1) (omega arith)) _ _ c.mapped-m.ensures c.slot_of-slot.ensures.0 (passed-behind _ _ _ v.i c.loop-i-test.true v.invariant) _ _ refl c.held_with.ensures _ _ c.is_placed.ensures c.if-not-is_placed.false c.is_new.ensures c.if-not-is_new.false

pub returns : goal.returns
returns c = let v = c.loop-i in
    let z : v.i ≡ 0 = omega arith in
    let p : Passed (geometry_in c.args.self.now) (listed c.args.entries.now) v.seen 0 = rw z at v.invariant in
    record { value = sym p.fits; told = λ f. p.told }
