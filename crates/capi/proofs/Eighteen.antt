-- Nobody who calls from C is given 18: no refusal has it. Assumes nothing.
use mathlib.Core.Logic.{◌≢◌}
use mathlib.Core.Path.{sym, ◌∙◌}
use native.Mathlib.Omega.{arith}
use Rattle.std.specs.Prelude.{Result, Ok, Err}
use Rattle.refusal.specs.declared.Refusal.{Refusal}
use Rattle.refusal.specs.Number.{answer_number}
use Rattle.model.specs.Plan.{reply_of}
use Rattle.model.specs.Both.{make_verdict}
use Rattle.model.specs.Calls.{Answer, done, cut, refused, opened, step}
use Rattle.model.proofs.NewerWriters.{no-eighteen}
use Rattle.list_step.specs.Stepped.{number_for}
use Rattle.call_lists.specs.Lists.{maps_verdict, lent_verdict, lent_look_up}
use Rattle.capi.specs.Calls.{lent_opening, lent_reading, lent_fullness, lent_forecast}
use Rattle.capi.specs.Eighteen.{GivesNoEighteen}

answer-eighteen : {A : Type 0} (r : Result A Refusal) → answer_number r ≢ 18
answer-eighteen (Ok x) = omega arith
answer-eighteen (Err why) = no-eighteen.line why

told-answer : (a : Answer) → number_for a ≢ 18
told-answer (done r) = omega arith
told-answer cut = omega arith
told-answer (refused why) = no-eighteen.line why
told-answer (opened r n) = omega arith

-- 18 is returned by none of the functions
pub gives-no-eighteen : GivesNoEighteen
gives-no-eighteen =
    record {
      opening = λ e d t k. no-eighteen.opened (lent_opening e d t k);
      reading = λ e d t k v out. no-eighteen.given (lent_reading e d t k v out);
      making = λ e d spares. no-eighteen.verdict (make_verdict e d spares);
      writing = λ p c d₀ t₀ k₀ n d t k s q. no-eighteen.reply (reply_of p c) (sym s.number ∙ q);
      run = λ o k₀ n d t told k s q. answer-eighteen o.result (sym s.number ∙ q);
      replies = λ e st c. told-answer (step e st c).answer;
      fullness = λ e d t k result. answer-eighteen (lent_fullness e d t k result);
      forecast = λ e d t k xs result. no-eighteen.forecast (lent_forecast e d t k xs result);
      item = no-eighteen.line;
      read_maps = λ maps result. no-eighteen.verdict (maps_verdict maps result);
      write_maps = λ kind partition size tables out. no-eighteen.verdict (lent_verdict kind partition size tables out);
      look_up = λ file v result. answer-eighteen (lent_look_up file v result);
    }
