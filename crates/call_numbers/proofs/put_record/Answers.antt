-- `call_numbers::put_record` meets its contract: each of the five places is set. Assumes nothing.
use native.Mathlib.Omega.{arith}
use lib.ListN.{length-set}
use Rattle.call_numbers.proofs.Laws.{put-once, put-rewritable}
use Rattle.call_numbers.proofs.put_record.Goals as goal

pub bounds-kept-2 : goal.bounds-kept-2
bounds-kept-2 c = simp length-set (omega arith)

pub bounds-kept-3 : goal.bounds-kept-3
bounds-kept-3 c = simp length-set (omega arith)

pub bounds-kept-2-in-Rewritable : goal.bounds-kept-2-in-Rewritable
bounds-kept-2-in-Rewritable c = simp length-set (omega arith)

pub bounds-kept-3-in-Rewritable : goal.bounds-kept-3-in-Rewritable
bounds-kept-3-in-Rewritable c = simp length-set (omega arith)

pub returns-in-WriteOnce : goal.returns-in-WriteOnce
returns-in-WriteOnce c = let a = c.args in put-once a.kept.now a.passed (omega arith) c.in-WriteOnce.is

pub returns-in-Rewritable : goal.returns-in-Rewritable
returns-in-Rewritable c = let a = c.args in put-rewritable a.kept.now a.passed (omega arith) c.in-Rewritable.is
