use Rattle.std.proofs.Common.{◌∙◌, arith}
use Rattle.vat_read.proofs.Table.{below_end, run_over, run_fits}
use Rattle.vat_read.proofs.File.words_below.Goals as goal

pub returns-then-not-words_fit : goal.returns-then-not-words_fit
returns-then-not-words_fit c = let l = c.loop-v in
    run_over _ _ _ l.v _ c.words-run.ensures _ c.words_fit.ensures c.if-not-words_fit.true ∙ l.invariant.1

pub loop-v-preserved : goal.loop-v-preserved
loop-v-preserved c = let l = c.loop-v in
    let t = c.words-run.ensures in
    (omega (arith, t.up_to), run_fits _ _ _ l.v _ t _ c.words_fit.ensures c.if-not-words_fit.false ∙ l.invariant.1)

pub returns : goal.returns
returns c = let l = c.loop-v in below_end _ _ _ l.v c.loop-v-test.false ∙ l.invariant.1
