-- `capi::tuormik_run` meets its contract: what is seen is what the run comes to. Assumes nothing.
use Rattle.capi.proofs.Running.{run_short, run-five}
use Rattle.capi.proofs.tuormik_run.Goals as goal

pub returns-then-kept-ne-RECORD : goal.returns-then-kept-ne-RECORD
returns-then-kept-ne-RECORD c = let told = run_short _ _ _ _ _ _ _ c.if-kept-ne-RECORD.true c.number_of_lengths.ensures in record { seen_runs = told.0; seen_demand = told.1.0; seen_wait = told.1.1 }

pub returns : goal.returns
returns c = let told = run-five _ _ _ _ _ _ _ c.if-kept-ne-RECORD.false c.run-ran.ensures.runs.outcome (c.run-ran.ensures.demand_met, c.run-ran.ensures.wait_met) c.number_of.ensures c.keep_opened.ensures in record { seen_runs = told.0; seen_demand = told.1.0; seen_wait = told.1.1 }
