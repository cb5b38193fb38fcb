-- `bitmap_written::turn` meets its contract: the verdict, then the run. Assumes nothing.
use Prim.Native.Nat.{ℕ}
use mathlib.Core.Path.{◌≡◌, sym, ap, ◌∙◌}
use borrow.Author.Rules.{rules}
use Rattle.std.specs.Prelude.{Err}
use Rattle.tag.specs.Sound.{renewed}
use Rattle.bitmap.proofs.Windows.{state-small}
use Rattle.bitmap_written.specs.Changed.{changed}
use Rattle.bitmap_written.proofs.Calls.{ready-other, run-kept, run-turned}
use Rattle.bitmap_written.proofs.turn.Goals as goal

pub turn_run-requires : goal.turn_run-requires
turn_run-requires c = ready-other _ _ _ _ _ _ (sym c.judge.ensures ∙ c.in_ok-judge.was) c.ranges.l.fits (state-small _) c.other.ensures

pub returns-in_err-judge : goal.returns-in_err-judge
returns-in_err-judge c =
    let e : c.from_residual.result ≡ Err c.in_err-judge.field-0.0 = search rules in
    let v = sym c.judge.ensures ∙ c.in_err-judge.was in
    record { value = e ∙ sym v; b_after = run-kept _ _ _ _ _ _ v }

pub returns : goal.returns
returns c = let a = c.args in
    let v = sym c.judge.ensures ∙ c.in_ok-judge.was in
    record {
      value = sym v;
      b_after = c.turn_run.ensures ∙ ap (λ (v : ℕ). renewed (changed a.b.now a.first a.count v)) c.other.ensures ∙ sym (run-turned _ _ _ _ _ v);
    }
