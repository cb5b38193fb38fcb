-- `sparing_copy::Entries::is_new` meets its contract, by what the slot holds. Assumes nothing.
use Rattle.std.proofs.Common.{not, sym, ap, ◌∙◌, eq-eqb}
use Rattle.sparing_copy.proofs.Slots.{holds-none}
use Rattle.sparing_copy.proofs.shapes.Entries.is_new.Goals as goal

pub returns-then-held-eq-EMPTY : goal.returns-then-held-eq-EMPTY
returns-then-held-eq-EMPTY c = eq-eqb _ _ c.if-held-eq-EMPTY.true ∙ sym (c.requires (holds-none _ _ c.if-held-eq-EMPTY.true))

pub returns-then-not-may_hold : goal.returns-then-not-may_hold
returns-then-not-may_hold c = ap not c.if-not-may_hold.true ∙ sym (c.requires (sym c.may_hold.ensures ∙ c.if-not-may_hold.true))
