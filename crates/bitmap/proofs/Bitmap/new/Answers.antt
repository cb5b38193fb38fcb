-- `bitmap::Bitmap::new` meets its contract: line 31 leaves room for the bits. Assumes nothing.
use mathlib.Core.Path.{sym, ◌∙◌}
use Rattle.bitmap.proofs.Laws.{formed, room}
use Rattle.bitmap.proofs.Bitmap.new.Goals as goal

pub invariant_of-result-clause-inside : goal.invariant_of-result-clause-inside
invariant_of-result-clause-inside c = room (formed _ _ (sym c.fits.ensures ∙ c.if-not-fits.false))

pub invariant_of-result-clause-small : goal.invariant_of-result-clause-small
invariant_of-result-clause-small c = λ i. (c.type_inv.b i).fits
