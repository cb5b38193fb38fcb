-- The forecasts of specs/Forecast.antt on the disc of Run.antt: computed from N, NWA and the last ICB, after lines 1 to 7 and 11, and one list carried
-- out call by call. Assumes nothing.
use Prim.Native.Nat.{ℕ}
use mathlib.Core.Bool.{Bool, true, false}
use mathlib.Core.Path.{◌≡◌, refl, sym, ap, ◌∙◌}
use mathlib.Core.List.{List, [], ◌∷◌}
use native.Mathlib.Omega.{arith}
use lib.Dec.{eqb}
use borrow.Author.Tests.{le-leb, ne_eqb}
use Rattle.refusal.specs.declared.Refusal.TheVariants.{StaleRecord, PassesAsIcb}
use Rattle.refusal.specs.Verdict.{Verdict}
use Rattle.std.specs.Prelude.{Ok}
use Rattle.refusal.specs.Tests.{need}
use Rattle.fields.specs.Bytes.{part}
use Rattle.fields.specs.Number.{value, field}
use Rattle.model.specs.declared.Record.{Record}
use Rattle.model.specs.Writes.{landing, struck, no_cut}
use Rattle.model.specs.Disc.{recorded_run}
use Rattle.model.specs.Vat.{none, below_or_none, all_below, tag_fits, passes}
use Rattle.model.specs.VatWritten.{file_bytes, data_sectors, written_icb}
use Rattle.model.specs.Examine.{lent_table}
use Rattle.model.specs.Once.{next_on, entries_held, next_held, last_held, held_fits, once_verdict, count_after, room_to_save, number_fits, save_tests, room_to_commit, commit_tests, icb_block, held_verdict}
use Rattle.model.specs.declared.Forecast.{Forecast}
use Rattle.model.specs.Calls.{save_virtual, refused, step, answers}
use Rattle.model.specs.Store.{holds, put}
use Rattle.model.specs.Run.{twelve, ones, before}
use Rattle.model.specs.Forecast.{is_commit, item_tests, item_record, item_by, forecast_from, forecast_by, forecast, item_call, item_calls, or_refused, told as told_of, carried_out, day, day_given, gap, many, Fitting}
use Rattle.model.proofs.Verdicts.{go-then, examined-once}
use Rattle.model.proofs.WrittenVat.{length-icb, icb-passes}
use Rattle.model.proofs.Once.{next_after}
use Rattle.model.proofs.OnceRead.{live-held}
use Rattle.model.proofs.RunSteps.{told, told_none, saved, save-refused, committed}
use Rattle.model.proofs.Run.{computed, at_first, Now}

-- lines 1 to 6 hold of the disc as it was opened
examined-first : (held : Record) (b : Bool) → held_fits twelve before.disc before.table held ≡ b
    → held_verdict twelve before.disc before.table held ≡ need b StaleRecord (Ok tt)
unfolding held_verdict once_verdict lent_table need
examined-first held b q =
    let l = at_first.live in
    go-then _ (examined-once twelve computed.once computed.maps before.disc _ l.kept.shape l.kept.within (le-leb _ _ l.lent))
    ∙ rw (computed.once, q)

-- so does line 11, and the forecast is that of the items
foreseen-first : (xs : List ℕ) → forecast twelve before.disc before.table before.held xs ≡ forecast_from twelve 0 (Record.WriteOnce 0 1 0) xs
unfolding forecast forecast_by need
foreseen-first xs =
    ap (λ (v : Verdict). forecast_by v (forecast_from twelve 0 before.held xs)) (examined-first before.held _ (live-held twelve before _ at_first.live))
    ∙ ap (λ (r : Record). forecast_from twelve 0 r xs) at_first.held

-- it does not hold of another NWA
stale-first : held_fits twelve before.disc before.table (Record.WriteOnce 0 2 0) ≡ false
unfolding held_fits next_held
stale-first =
    let top : 1 ≡ next_on twelve before.disc = ap next_held (sym at_first.held) ∙ at_first.live.top in
    let other : eqb 2 (next_on twelve before.disc) ≡ false = ne_eqb 2 _ (λ (q : 2 ≡ next_on twelve before.disc). omega arith) in
    rw other

answer-list : answers twelve before (item_calls (λ i. ones) (λ i. no_cut) 0 day) ≡ day_given
unfolding twelve ones day day_given is_commit item_call item_calls no_cut struck landing next_after count_after room_to_save number_fits save_tests entries_held next_held passes tag_fits field part value need file_bytes data_sectors put
answer-list =
    told _ (saved at_first 0 ones no_cut refl refl refl) λ (b : Now _ (holds ones ∷ []) [] 1 2 0).
    told _ (saved b 1 ones no_cut refl refl refl) λ (b : Now _ (holds ones ∷ holds ones ∷ []) [] 2 3 0).
    told _ (committed b refl (omega arith) no_cut refl) λ (b : Now _ (holds ones ∷ holds ones ∷ []) (holds ones ∷ holds ones ∷ []) 2 4 3).
    told _ (saved b 1 ones no_cut refl refl refl) λ (b : Now _ (holds ones ∷ holds ones ∷ []) (holds ones ∷ holds ones ∷ []) 2 5 3).
    told _ (committed b refl (omega arith) no_cut refl) λ b. told_none twelve _

-- ---- a block that passes as an ICB

passing : passes before.disc 0 1 (written_icb 1 [] 0) ≡ true
unfolding none below_or_none all_below recorded_run file_bytes data_sectors
passing = icb-passes [] 0 1 (omega arith) refl refl (omega arith) before.disc 0 (omega arith) refl (λ h. absurd (omega arith))

refused-first : (step twelve before (save_virtual 0 (written_icb 1 [] 0) no_cut)).answer ≡ refused PassesAsIcb
unfolding twelve number_fits save_tests entries_held next_held need
refused-first = (save-refused at_first 0 (written_icb 1 [] 0) no_cut PassesAsIcb (length-icb [] 0 1) (rw passing)).says

hindered : carried_out twelve before (λ i. written_icb 1 [] 0) (λ i. no_cut) day ≡ Ok (Forecast.Stops 0 PassesAsIcb)
unfolding carried_out told_of or_refused item_calls item_call is_commit day answers
hindered = rw refused-first

pub fitting : Fitting
unfolding twelve day gap many is_commit item_tests item_record item_by forecast_from forecast forecast_by commit_tests room_to_commit icb_block count_after room_to_save number_fits entries_held next_held last_held need file_bytes data_sectors
fitting =
    record {
      fits = foreseen-first day;
      answered = answer-list;
      skips = foreseen-first gap;
      fills = foreseen-first many;
      unforeseen = hindered;
      stale = ap (λ (v : Verdict). forecast_by v (forecast_from twelve 0 (Record.WriteOnce 0 2 0) day)) (examined-first _ _ stale-first);
    }
