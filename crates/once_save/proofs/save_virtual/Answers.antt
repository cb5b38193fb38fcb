-- `once_save::save_virtual` meets its contract: each return by the law of its way out. Assumes nothing.
use Prim.Native.Nat.{ℕ, ◌+◌}
use mathlib.Core.Bool.{Bool, ◌&&◌}
use mathlib.Core.Path.{◌≡◌, sym, ap, ap₂, ◌∙◌}
use mathlib.Core.List.{List, [], ◌∷◌}
use native.Mathlib.Omega.{arith}
use borrow.Author.Rules.{rules}
use lib.Dec.{eqb}
use lib.ListN.{length, set}
use Rattle.refusal.specs.declared.Refusal.{Refusal}
use Rattle.refusal.specs.Verdict.{Verdict}
use Rattle.std.specs.Prelude.{Ok, Err, Result}
use Rattle.refusal.specs.Tests.{first}
use Rattle.maps.specs.declared.Volume.{Volume}
use Rattle.model.specs.declared.Record.{Record}
use Rattle.model.specs.Disc.{Disc}
use Rattle.model.specs.Examine.{Setting, setting, lent_table}
use Rattle.model.specs.Once.{next_held, saved_record, save_lent, save_tests, save_plan}
use Rattle.model.specs.Plan.{refuse, carry}
use Rattle.model.proofs.Plans.{cut_short, carried}
use Rattle.disc_writes.proofs.Laws.{write-there}
use Rattle.examine.specs.Ground.{JudgedOnce}
use Rattle.examine.proofs.Calls.{Common, going, span-start, span-length, stopped, stopped-own, goes_on, handed-on}
use Rattle.once_save.proofs.Saving.{save-lends, save-lent, save-ground, Saves, saves, save-inside, save-write}
use Rattle.once_save.proofs.save_virtual.Goals as goal

-- a save's lent lengths were told, and its common tests judged
module _ {e : Setting} {d : Disc} {t : List ℕ} {held : Record} {lent : Bool} {r : Result Volume Refusal} (block : List ℕ) (lends : lent ≡ (lent_table t && eqb (length block) 2048)) (judged : JudgedOnce e d t lent held r) where
  -- they stop it
  turned-down : (v : ℕ) {why : Refusal} → r ≡ Err why → save_plan e d t held v block ≡ refuse why
  unfolding save_plan
  turned-down v h = stopped e d t (save_lent t block) held (save-lends t block lends) judged _ _ h

  module _ {volume : Volume} (goes : r ≡ Ok volume) where
    -- they let it go on
    told : Common e d (save_lent t block) held
    told = going e d t (save_lent t block) held (save-lends t block lends) judged goes

    -- in the span that was given
    start : volume.span.start ≡ e.start
    start = span-start e d t (save_lent t block) held (save-lends t block lends) judged goes

    whole : volume.span.length ≡ e.span
    whole = span-length e d t (save_lent t block) held (save-lends t block lends) judged goes

    -- a sector of it
    placed : (k : ℕ) → volume.span.start + k ≡ e.start + k
    placed k = ap (λ (s : ℕ). s + k) start

    module _ (v : ℕ) {u : Verdict} (says : u ≡ first (save_tests (setting e.maps volume.span.start volume.span.length) d held v block)) where
      -- what its own tests say of it
      own : u ≡ first (save_tests e d held v block)
      own = says ∙ ap₂ (λ (s l : ℕ). first (save_tests (setting e.maps s l) d held v block)) start whole

      -- they stop it
      turned-down-own : {why : Refusal} → u ≡ Err why → save_plan e d t held v block ≡ refuse why
      unfolding save_plan
      turned-down-own h = stopped-own e d t (save_lent t block) held (save-lends t block lends) judged _ _ goes own h

      -- nothing stops it
      safe : {w : Unit {0}} → u ≡ Ok w → Saves e d t held v block
      safe h = saves e d t held v block told own h

      -- its plan there
      plan : {w : Unit {0}} → u ≡ Ok w → save_plan e d t held v block ≡ carry (record { place = e.start + next_held held; bytes = block } ∷ []) (set t v (next_held held)) (saved_record held v)
      unfolding save_plan
      plan h = goes_on e d t (save_lent t block) held (save-lends t block lends) judged _ _ goes own h

pub judge_once-requires : goal.judge_once-requires
judge_once-requires c = λ h. (save-lent c.args.table.now c.args.block.now (sym (save-lends _ _ c.are_lent-lent.ensures) ∙ h)).0

pub returns-in_err-volume : goal.returns-in_err-volume
returns-in_err-volume c =
    let e : c.from_residual.result ≡ Err c.in_err-volume.field-0.0 = search rules in
    handed-on _ _ _ _ e (turned-down c.args.block.now c.are_lent-lent.ensures c.judge_once.ensures c.args.v c.in_err-volume.was)

pub judge_save-requires : goal.judge_save-requires
judge_save-requires c =
    let h = told c.args.block.now c.are_lent-lent.ensures c.judge_once.ensures c.in_ok-volume.was in
    let g = save-ground _ _ _ c.args.held h in
    record {
      lent = record { made = g.made; inside = omega (arith, g.inside, start c.args.block.now c.are_lent-lent.ensures c.judge_once.ensures c.in_ok-volume.was); most = g.most };
      block_len = (save-lent c.args.table.now c.args.block.now h.lengths).1;
      held_bound = h.entries;
    }

pub returns-in_err-judge_save : goal.returns-in_err-judge_save
returns-in_err-judge_save c =
    let e : c.from_residual-in_err-judge_save.result ≡ Err c.in_err-judge_save.field-0.0 = search rules in
    handed-on _ _ _ _ e (turned-down-own c.args.block.now c.are_lent-lent.ensures c.judge_once.ensures c.in_ok-volume.was c.args.v (c.judge_save.ensures c.args.maps.now) c.in_err-judge_save.was)

pub sector_of-at-requires : goal.sector_of-at-requires
sector_of-at-requires c = let h = safe c.args.block.now c.are_lent-lent.ensures c.judge_once.ensures c.in_ok-volume.was c.args.v (c.judge_save.ensures c.args.maps.now) c.in_ok-judge_save.was in
    omega (arith, h.inside, h.most, c.next_held-next.ensures, start c.args.block.now c.are_lent-lent.ensures c.judge_once.ensures c.in_ok-volume.was)

pub write_sector-requires : goal.write_sector-requires
write_sector-requires c = let h = safe c.args.block.now c.are_lent-lent.ensures c.judge_once.ensures c.in_ok-volume.was c.args.v (c.judge_save.ensures c.args.maps.now) c.in_ok-judge_save.was in
    let i = save-inside _ _ _ _ _ _ h c.next_held-next.ensures in
    record {
      at_in_bounds = omega (arith, i, c.sector_of-at.ensures, start c.args.block.now c.are_lent-lent.ensures c.judge_once.ensures c.in_ok-volume.was);
      disc_len = h.shape;
      bytes_len = h.whole;
    }

pub returns-then-is_struck : goal.returns-then-is_struck
returns-then-is_struck c = cut_short _ _ _ _ (plan c.args.block.now c.are_lent-lent.ensures c.judge_once.ensures c.in_ok-volume.was c.args.v (c.judge_save.ensures c.args.maps.now) c.in_ok-judge_save.was) (sym c.is_struck.ensures ∙ c.if-is_struck.true)
    (save-write _ _ _ _ c.next_held-next.ensures (write-there _ _ _ _ _ (c.sector_of-at.ensures ∙ placed c.args.block.now c.are_lent-lent.ensures c.judge_once.ensures c.in_ok-volume.was _) c.write_sector.ensures))

pub offset_bounds-table-v : goal.offset_bounds-table-v
offset_bounds-table-v c = let h = safe c.args.block.now c.are_lent-lent.ensures c.judge_once.ensures c.in_ok-volume.was c.args.v (c.judge_save.ensures c.args.maps.now) c.in_ok-judge_save.was in omega (arith, h.low)

pub bounds-table-v : goal.bounds-table-v
bounds-table-v c = (safe c.args.block.now c.are_lent-lent.ensures c.judge_once.ensures c.in_ok-volume.was c.args.v (c.judge_save.ensures c.args.maps.now) c.in_ok-judge_save.was).entry

pub saved-requires : goal.saved-requires
saved-requires c = let h = safe c.args.block.now c.are_lent-lent.ensures c.judge_once.ensures c.in_ok-volume.was c.args.v (c.judge_save.ensures c.args.maps.now) c.in_ok-judge_save.was in (h.entries, omega (arith, h.small))

pub returns : goal.returns
returns c = carried _ _ _ _ (plan c.args.block.now c.are_lent-lent.ensures c.judge_once.ensures c.in_ok-volume.was c.args.v (c.judge_save.ensures c.args.maps.now) c.in_ok-judge_save.was) (sym c.is_struck.ensures ∙ c.if-is_struck.false)
    (save-write _ _ _ _ c.next_held-next.ensures (write-there _ _ _ _ _ (c.sector_of-at.ensures ∙ placed c.args.block.now c.are_lent-lent.ensures c.judge_once.ensures c.in_ok-volume.was _) c.write_sector.ensures))
    c.saved.ensures
    (ap (set c.args.table.now c.args.v) c.next_held-next.ensures)
