-- `once_open::read_virtual` meets its contract: each return by the law of its line. Assumes nothing.
use Prim.Native.Nat.{ℕ, ◌+◌, ◌-◌, ◌*◌, ◌≤◌, ◌<◌}
use mathlib.Core.Bool.{Bool, ◌&&◌}
use mathlib.Core.List.{List}
use mathlib.Core.Path.{◌≡◌, refl, sym, ap, ap₂, ◌∙◌}
use native.Mathlib.Omega.{arith}
use borrow.Author.Rules.{rules}
use lib.Dec.{eqb}
use lib.ListN.{length, get_or, take, drop}
use Rattle.std.specs.Prelude.{Ok, Err, Result}
use Rattle.refusal.specs.Tests.{first}
use Rattle.address.specs.declared.LogicalAddress.{LogicalAddress}
use Rattle.refusal.specs.declared.Refusal.{Refusal}
use Rattle.address.specs.declared.VirtualAddress.{VirtualAddress}
use Rattle.fields.specs.Bytes.{part}
use Rattle.fields.proofs.Laws.{length_part}
use Rattle.model.specs.declared.Record.{Record}
use Rattle.model.specs.Disc.{disc, Disc, sector, mark, mark_tests}
use Rattle.model.specs.Examine.{Setting, lent_table}
use Rattle.model.specs.Once.{entry_tests}
use Rattle.model.proofs.Basics.{and-true}
use Rattle.maps.specs.declared.Volume.{Volume}
use Rattle.refusal.specs.Verdict.{verdict_of}
use Rattle.examine.specs.Ground.{JudgedOnce}
use Rattle.examine.proofs.Calls.{span-start, table-long}
use Rattle.once_open.specs.Calls.{block_of}
use Rattle.once_open.proofs.Laws.{entry-refused, entry_found}
use Rattle.once_open.proofs.Reading.{read-stopped, read-room, read-few, read_made, read-most, read-own, read-place, read-unrecorded, read-given}
use Rattle.once_open.proofs.read_virtual.Goals as goal

-- what holds where lines 12 and 13 let the call go on, and the entry is that of block b
record Placed (e : Setting) (d : Disc) (t : List ℕ) (held : Record) (v : ℕ) (out : List ℕ) (start b : ℕ) : Type 0 where
  pub found : first (entry_tests t held v) ≡ Ok tt
  pub sited : start + b ≡ e.start + get_or t v 0
  pub place : start + b < length d.marks
  pub made : length d.bytes ≡ 2048 * length d.marks
  pub most : length d.marks ≤ 1048576
  pub room : length out ≡ 2048

placed : {e : Setting} {d : Disc} {t : List ℕ} {held : Record} (v : VirtualAddress) (out : List ℕ) {k : Bool} {r : Result Volume Refusal} {volume : Volume} {f : Result LogicalAddress Refusal} {b : LogicalAddress} → k ≡ (lent_table t && eqb (length out) 2048) → JudgedOnce e d t k held r → r ≡ Ok volume → f ≡ block_of t held v → f ≡ Ok b → Placed e d t held v.0 out volume.span.start b.0
placed {e} {d} {t} {held} v out {k} q judged h look at =
    let g = entry_found t held v look at in
    let go = ap verdict_of h in
    let sited = ap₂ (◌+◌) (span-start e d t k held refl judged h) g.1 in
    record {
      found = g.0;
      sited = sited;
      place = omega (arith, sited, read-place e d t held v.0 out q judged.verdict go refl g.0);
      made = read_made e d t held v.0 out q judged.verdict go;
      most = read-most e d t held v.0 out q judged.verdict go;
      room = read-room e d t held v.0 out q judged.verdict go;
    }

pub judge_once-requires : goal.judge_once-requires
judge_once-requires c = λ h. table-long _ (and-true _ _ (sym c.are_lent-lent.ensures ∙ h)).0

pub returns-in_err-volume : goal.returns-in_err-volume
returns-in_err-volume c =
    let e : c.from_residual.result ≡ Err c.in_err-volume.field-0.0 = search rules in
    let told = read-stopped _ _ _ _ c.args.v c.args.out.now c.are_lent-lent.ensures c.judge_once.ensures.verdict (ap verdict_of c.in_err-volume.was) in
    record { value = e ∙ told.0; out_after = told.1 }

pub look_up-requires : goal.look_up-requires
look_up-requires c = read-few _ _ _ _ c.args.v c.args.out.now c.are_lent-lent.ensures c.judge_once.ensures.verdict (ap verdict_of c.in_ok-volume.was)

pub returns-in_err-b : goal.returns-in_err-b
returns-in_err-b c =
    let e : c.from_residual-in_err-b.result ≡ Err c.in_err-b.field-0.0 = search rules in
    let told = read-own _ _ _ _ c.args.v c.args.out.now c.are_lent-lent.ensures c.judge_once.ensures.verdict (ap verdict_of c.in_ok-volume.was) refl
    (entry-refused _ _ _ c.look_up.ensures c.in_err-b.was) in
    record { value = e ∙ told.0; out_after = told.1 }

pub sector_of-at-requires : goal.sector_of-at-requires
sector_of-at-requires c = let p = placed _ c.args.out.now c.are_lent-lent.ensures c.judge_once.ensures c.in_ok-volume.was c.look_up.ensures c.in_ok-b.was in omega (arith, p.place, p.most)

pub judge_sector-requires : goal.judge_sector-requires
judge_sector-requires c = let p = placed _ c.args.out.now c.are_lent-lent.ensures c.judge_once.ensures c.in_ok-volume.was c.look_up.ensures c.in_ok-b.was in omega (arith, p.place, c.sector_of-at.ensures)

pub returns-in_err-judge_sector : goal.returns-in_err-judge_sector
returns-in_err-judge_sector c =
    let e : c.from_residual-in_err-judge_sector.result ≡ Err c.in_err-judge_sector.field-0.0 = search rules in
    let p = placed _ c.args.out.now c.are_lent-lent.ensures c.judge_once.ensures c.in_ok-volume.was c.look_up.ensures c.in_ok-b.was in
    let d = disc c.args.disc.now c.args.marks.now in
    let told = read-unrecorded _ d _ _ c.args.v c.args.out.now c.are_lent-lent.ensures c.judge_once.ensures.verdict (ap verdict_of c.in_ok-volume.was) refl p.found
    (c.judge_sector.ensures _ ∙ ap (λ (n : ℕ). first (mark_tests (mark d n))) (c.sector_of-at.ensures ∙ p.sited))
    c.in_err-judge_sector.was in
    record { value = e ∙ told.0; out_after = told.1 }

pub overflow_mul-from : goal.overflow_mul-from
overflow_mul-from c = let p = placed _ c.args.out.now c.are_lent-lent.ensures c.judge_once.ensures c.in_ok-volume.was c.look_up.ensures c.in_ok-b.was in omega (arith, p.place, p.most, c.sector_of-at.ensures)

pub overflow_add-from : goal.overflow_add-from
overflow_add-from c = let p = placed _ c.args.out.now c.are_lent-lent.ensures c.judge_once.ensures c.in_ok-volume.was c.look_up.ensures c.in_ok-b.was in omega (arith, p.place, p.most, c.sector_of-at.ensures)

pub slice_bounds-copy_from_slice-end : goal.slice_bounds-copy_from_slice-end
slice_bounds-copy_from_slice-end c = let p = placed _ c.args.out.now c.are_lent-lent.ensures c.judge_once.ensures c.in_ok-volume.was c.look_up.ensures c.in_ok-b.was in omega (arith, p.place, p.made, c.sector_of-at.ensures)

pub copy_from_slice-requires : goal.copy_from_slice-requires
unfolding part
copy_from_slice-requires c =
    let p = placed _ c.args.out.now c.are_lent-lent.ensures c.judge_once.ensures c.in_ok-volume.was c.look_up.ensures c.in_ok-b.was in
    let n = 2048 * c.sector_of-at.result.0 in
    let size : n + 2048 - n ≡ 2048 = omega arith in
    p.room ∙ sym size ∙ sym (length_part c.args.disc.now n (n + 2048 - n) (omega (arith, p.place, p.made, c.sector_of-at.ensures, size)))

pub returns : goal.returns
unfolding sector part
returns c =
    let p = placed _ c.args.out.now c.are_lent-lent.ensures c.judge_once.ensures c.in_ok-volume.was c.look_up.ensures c.in_ok-b.was in
    let d = disc c.args.disc.now c.args.marks.now in
    let n = 2048 * c.sector_of-at.result.0 in
    let size : n + 2048 - n ≡ 2048 = omega arith in
    let is = c.copy_from_slice.ensures.after ∙ ap (λ (w : ℕ). take w (drop n c.args.disc.now)) size in
    let told = read-given _ d _ _ c.args.v c.args.out.now c.are_lent-lent.ensures c.judge_once.ensures.verdict (ap verdict_of c.in_ok-volume.was) refl p.found
    (c.judge_sector.ensures _ ∙ ap (λ (m : ℕ). first (mark_tests (mark d m))) (c.sector_of-at.ensures ∙ p.sited))
    c.in_ok-judge_sector.was
    (is ∙ ap (sector d) (c.sector_of-at.ensures ∙ p.sited)) in
    record { value = told.0; out_after = told.1 }
