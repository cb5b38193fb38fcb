-- `sparing_place::packet_to_physical` meets its contract. Assumes nothing.
use mathlib.Core.Path.{sym, ◌∙◌}
use native.Mathlib.Omega.{arith}
use borrow.Author.Rules.{rules}
use Rattle.sparing_place.proofs.Laws.{number-tells, ends-stopped, ends_at}
use Rattle.sparing_place.proofs.packet_to_physical.Goals as goal

pub returns-in_err-judge_number : goal.returns-in_err-judge_number
returns-in_err-judge_number c =
    let told = ends-stopped _ _ _ (sym c.in_err-judge_number.was ∙ c.judge_number.ensures) (search rules) in
    record { value = told.0; result_value = told.1 }

pub packet_place-first-requires : goal.packet_place-first-requires
packet_place-first-requires c =
    let low = number-tells _ _ _ (sym c.in_ok-judge_number.was ∙ c.judge_number.ensures) in
    (c.requires.0, omega (arith, low, c.requires.1))

pub returns : goal.returns
returns c =
    let told = ends_at _ _ _ (sym c.in_ok-judge_number.was ∙ c.judge_number.ensures) c.packet_place-first.ensures in
    record { value = told.0; result_value = told.1 }
