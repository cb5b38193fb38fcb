-- `make_volume::make_write_once` meets its contract. Assumes nothing.
use mathlib.Core.Path.{◌≡◌, refl, ◌∙◌}
use native.Mathlib.Omega.{arith}
use borrow.Author.Rules.{rules}
use Rattle.std.specs.Prelude.{Err}
use Rattle.model.specs.Disc.{disc}
use Rattle.model.specs.Examine.{setting}
use Rattle.make_volume.proofs.Blank.{make-tells, made-stop, made-go, blank-goes, blank-stops}
use Rattle.make_volume.proofs.make_write_once.Goals as goal

pub returns-in_err-span : goal.returns-in_err-span
returns-in_err-span c =
    let e = setting c.args.maps.now c.args.s c.args.l in
    let d = disc c.args.disc.now c.args.marks.now in
    let v = blank-stops e d c.judge_blank.ensures c.in_err-span.was in
    let r : c.from_residual.result ≡ Err c.in_err-span.field-0.0 = search rules in
    record { value = r ∙ v; marks_after = made-stop e d v refl }

pub sector_of-first-requires : goal.sector_of-first-requires
sector_of-first-requires c =
    let e = setting c.args.maps.now c.args.s c.args.l in
    let d = disc c.args.disc.now c.args.marks.now in
    let g = blank-goes e d c.judge_blank.ensures c.in_ok-span.was in
    let tells = make-tells e d g.0 refl in
    omega (arith, g.1, tells.0, tells.1)

pub write_empty-requires : goal.write_empty-requires
write_empty-requires c =
    let e = setting c.args.maps.now c.args.s c.args.l in
    let d = disc c.args.disc.now c.args.marks.now in
    let g = blank-goes e d c.judge_blank.ensures c.in_ok-span.was in
    let tells = make-tells e d g.0 refl in
    record { at_in_bounds = omega (arith, g.1, c.sector_of-first.ensures, tells.0); disc_len = tells.2 }

pub returns : goal.returns
returns c =
    let e = setting c.args.maps.now c.args.s c.args.l in
    let d = disc c.args.disc.now c.args.marks.now in
    let g = blank-goes e d c.judge_blank.ensures c.in_ok-span.was in
    let there : c.sector_of-first.result.0 ≡ c.args.s = omega (arith, g.1, c.sector_of-first.ensures) in
    record { value = g.0; marks_after = made-go e d g.0 _ refl there c.write_empty.ensures }
