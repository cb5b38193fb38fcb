-- `bitmap_written::judge` meets its contract: lines 31, 12 and 32. Assumes nothing.
use mathlib.Core.Path.{◌≡◌, sym, ap, ap₂, ◌∙◌}
use borrow.Author.Rules.{rules}
use Rattle.std.specs.Prelude.{Err}
use Rattle.bitmap.specs.State.{state_bit}
use Rattle.bitmap_written.specs.Written.{run_fits}
use Rattle.bitmap_written.proofs.Calls.{stop-31, stop-12, stop-32, goes_on}
use Rattle.bitmap_written.proofs.judge.Goals as goal

pub returns-in_err-bitmap : goal.returns-in_err-bitmap
returns-in_err-bitmap c =
    let w = c.in_err-bitmap.ensures in
    let e : c.from_residual.result ≡ Err c.in_err-bitmap.field-0.0 = search rules in
    e ∙ ap Err w.0 ∙ stop-31 _ _ _ _ _ w.1

pub returns-then-l-first : goal.returns-then-l-first
returns-then-l-first c = stop-12 _ _ _ _ _ c.in_ok-bitmap.ensures.2 c.if-l-first.true

pub returns-then-not-run_fits : goal.returns-then-not-run_fits
returns-then-not-run_fits c = let e = c.in_ok-bitmap.ensures in
    let a = c.args in
    stop-32 _ _ _ _ _ e.2 c.if-l-first.false (ap₂ (λ b l. run_fits b l a.first a.count (state_bit a.state)) (sym e.0) (sym e.1) ∙ sym c.run_fits.ensures ∙ c.if-not-run_fits.true)

pub returns : goal.returns
returns c = let e = c.in_ok-bitmap.ensures in
    let a = c.args in
    goes_on _ _ _ _ _ e.2 c.if-l-first.false (ap₂ (λ b l. run_fits b l a.first a.count (state_bit a.state)) (sym e.0) (sym e.1) ∙ sym c.run_fits.ensures ∙ c.if-not-run_fits.false)
