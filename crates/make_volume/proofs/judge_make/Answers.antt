-- `make_volume::judge_make` meets its contract: each return by the law of its line. Assumes nothing.
use borrow.Author.Rules.{rules}
use Rattle.make_volume.proofs.Makes.{make-unlaid, make-asks, make-misfit, make-fits}
use Rattle.make_volume.proofs.judge_make.Goals as goal

pub returns-in_err-layout : goal.returns-in_err-layout
returns-in_err-layout c = make-unlaid _ _ _ c.lay_out.ensures c.in_err-layout.was (search rules)

pub spares_fit-requires : goal.spares_fit-requires
spares_fit-requires c = make-asks _ _ c.args.spares.now c.lay_out.ensures c.in_ok-layout.was

pub returns-then-not-spares_fit : goal.returns-then-not-spares_fit
returns-then-not-spares_fit c = make-misfit _ _ _ c.lay_out.ensures c.in_ok-layout.was c.spares_fit.ensures c.if-not-spares_fit.true

pub returns : goal.returns
returns c = make-fits _ _ _ c.lay_out.ensures c.in_ok-layout.was c.spares_fit.ensures c.if-not-spares_fit.false
