-- `make_volume::make_rewritable` meets its contract. Assumes nothing.
use mathlib.Core.Path.{◌≡◌, refl, ◌∙◌}
use native.Mathlib.Omega.{arith}
use borrow.Author.Rules.{rules}
use Rattle.std.specs.Prelude.{Err}
use Rattle.model.specs.Disc.{disc}
use Rattle.model.specs.Examine.{setting}
use Rattle.sparing_current.proofs.Looks.{span-start, span-length, sectors-are}
use Rattle.make_volume.proofs.Makes.{makes, making-stops, making-goes, made-stop, made-go}
use Rattle.make_volume.proofs.make_rewritable.Goals as goal

pub returns-in_err-layout : goal.returns-in_err-layout
returns-in_err-layout c =
    let e = setting c.args.maps.now c.args.s c.args.l in
    let d = disc c.args.disc.now c.args.marks.now in
    let v = making-stops e d c.args.spares.now c.judge_make.ensures c.in_err-layout.was in
    let r : c.from_residual.result ≡ Err c.in_err-layout.field-0.0 = search rules in
    record { value = r ∙ v; marks_after = made-stop e d c.args.spares.now v refl }

pub write_free-requires : goal.write_free-requires
write_free-requires c =
    let m = makes (setting c.args.maps.now c.args.s c.args.l) (disc c.args.disc.now c.args.marks.now) c.args.spares.now c.judge_make.ensures c.in_ok-layout.was in
    record { sector_len = refl; spares_bound = m.short }

pub write_made-requires : goal.write_made-requires
write_made-requires c =
    let m = makes (setting c.args.maps.now c.args.s c.args.l) (disc c.args.disc.now c.args.marks.now) c.args.spares.now c.judge_make.ensures c.in_ok-layout.was in
    record {
      count_bound = (m.laid.few, sectors-are m.laid, m.laid.on);
      length_in_bounds = (omega (arith, m.span, span-start m.laid, span-length m.laid), m.few);
      disc_len = (m.shape, c.write_free.auto.sector);
    }

pub returns : goal.returns
returns c =
    let e = setting c.args.maps.now c.args.s c.args.l in
    let d = disc c.args.disc.now c.args.marks.now in
    let m = makes e d c.args.spares.now c.judge_make.ensures c.in_ok-layout.was in
    let v = making-goes e d c.args.spares.now c.judge_make.ensures c.in_ok-layout.was in
    record { value = v; marks_after = made-go e d c.args.spares.now v refl m c.write_free.ensures c.write_made.ensures }
