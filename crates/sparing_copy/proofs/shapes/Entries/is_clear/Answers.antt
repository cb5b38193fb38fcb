-- `sparing_copy::Entries::is_clear` meets its contract, case by case. Assumes nothing.
use Rattle.std.proofs.Common.{◌≡◌, ℕ, ◌+◌, true, get_or, sym, refl, ap, ◌∙◌, arith, ◌≢◌}
use Rattle.std.proofs.lemmas.Bool.Decides.{nat_tests}
use Rattle.model.specs.Vat.{none}
use Rattle.model.specs.Sparing.{Entry, defective, is_free, is_defective, is_used, original_clear}
use Rattle.model.proofs.SparingEntries.{used-tests}
use Rattle.sparing_copy.specs.Entries.{entry_in}
use Rattle.sparing_copy.specs.Slots.{may_hold}
use Rattle.sparing_copy.proofs.Entries.{sector-below}
use Rattle.sparing_copy.proofs.Rule.{clear-used}
use Rattle.sparing_copy.proofs.shapes.Entries.is_clear.Goals as goal

pub returns-then-original : goal.returns-then-original
unfolding original_clear is_used is_free is_defective none defective
returns-then-original c = grind (arith, nat_tests)

-- an entry that is neither free nor defective is used
used : (e : Entry) (o : ℕ) → o ≡ e.original → o ≢ 0xffffffff → o ≢ 0xfffffff0 → is_used e ≡ true
unfolding none defective
used e o s f d = (used-tests e (λ q. f (s ∙ q)) (λ q. d (s ∙ q))).2

pub returns-then-s-original : goal.returns-then-s-original
returns-then-s-original c = let es = c.args.self.now in
    let e = entry_in es.sector.now c.args.i in
    clear-used _ _ e (used e _ c.original-original.ensures c.if-original.false c.if-original-2.false) _ refl true (sym (sector-below es.sector.now es.count _ es.all_bytes es.in_bounds (omega (arith, c.original-original.ensures))))

pub is_new-requires : goal.is_new-requires
is_new-requires c = let m = c.sector_of-place.result.0 in
    λ z. c.requires.told m (ap (λ (k : ℕ). may_hold (get_or c.args.seen.now k 0) m) (sym c.slot_of.ensures.0) ∙ z)

pub returns : goal.returns
returns c = let e = entry_in c.args.self.now.sector.now c.args.i in
    clear-used _ _ e (used e _ c.original-original.ensures c.if-original.false c.if-original-2.false) c.sector_of-place.result.0 (c.sector_of-place.ensures ∙ ap (λ (o : ℕ). c.args.s + o) c.original-original.ensures) _ c.is_new.ensures
