-- `list_run::run` meets its contract: the list by the contract of `carry`, demand 3 and the bound on what its openings pass over from that and from
-- what the type of a byte gives. Assumes nothing.
use Prim.Native.Nat.{ℕ, ◌<◌}
use mathlib.Core.Path.{◌≡◌, sym, ap, ◌∙◌}
use mathlib.Core.List.{List}
use borrow.Author.Rules.{rules}
use lib.ListN.{get_or}
use Rattle.model.specs.Disc.{Disc, disc}
use Rattle.model.specs.Examine.{Setting, setting}
use Rattle.model.specs.Demand.{Below}
use Rattle.std.specs.Prelude.{Result, Ok, Err}
use Rattle.model.specs.declared.Opened.{Opened}
use Rattle.refusal.specs.declared.Refusal.{Refusal}
use Rattle.list_run.specs.Outcome.{outcome, ran, Runs}
use Rattle.list_run.specs.Promise.{DemandMet, WaitMet}
use Rattle.list_run.proofs.Ending.{run-ended, run-refused, ran-so, promises-met}
use Rattle.list_run.proofs.run.Goals as goal

-- its promises, of a run that comes to what the definition says
promised : (e : Setting) (bytes marks table numbers pool replies : List ℕ) (r : Result Opened Refusal) (d : Disc) (t after : List ℕ) → ((i : ℕ) → get_or bytes i 0 < 256) → outcome r d t after ≡ ran e (disc bytes marks) table numbers pool replies → Runs (record { setting = e; disc = disc bytes marks }) table numbers pool replies r d t after × (DemandMet e (disc bytes marks) table numbers pool r d t × WaitMet e (disc bytes marks) table numbers pool r)
unfolding Below
promised e bytes marks table numbers pool replies r d t after low w =
    (ran-so _ _ w, promises-met e (disc bytes marks) table numbers pool replies r d t after (λ i h. low i) w)

pub returns-in_err-opened : goal.returns-in_err-opened
returns-in_err-opened c =
    let e = setting c.args.maps.now c.args.s c.args.l in
    let o = c.open.ensures in
    let r : c.from_residual.result ≡ Err c.in_err-opened.field-0.0 = search rules in
    let told = promised e c.args.disc.now c.args.marks.now c.args.table.now c.args.numbers.now c.args.pool.now c.args.replies.now _ _ _ _ (λ i. search rules)
    (ap (λ (x : Result Opened Refusal). outcome x (disc c.args.disc.now c.args.marks.now) c.open.new.table c.args.replies.now) r
    ∙ run-refused e (disc c.args.disc.now c.args.marks.now) c.args.table.now _ c.args.numbers.now c.args.pool.now c.args.replies.now _ (sym o.answer ∙ c.in_err-opened.was) o.table) in
    record { runs = told.0; demand_met = told.1.0; wait_met = told.1.1 }

pub returns : goal.returns
returns c =
    let e = setting c.args.maps.now c.args.s c.args.l in
    let o = c.open.ensures in
    let told = promised e c.args.disc.now c.args.marks.now c.args.table.now c.args.numbers.now c.args.pool.now c.args.replies.now _ _ _ _ (λ i. search rules)
    (c.carry.ensures ∙ run-ended e (disc c.args.disc.now c.args.marks.now) c.args.table.now _ c.args.numbers.now c.args.pool.now c.args.replies.now _ _ (sym o.answer ∙ c.in_ok-opened.was) o.table) in
    record { runs = told.0; demand_met = told.1.0; wait_met = told.1.1 }
