-- The list of specs/Wait.antt that reaches the bound: what its calls answer follows call by call from the laws of RunSteps.antt, and the count before
-- each opening is computed. Assumes nothing.
use Prim.Native.Nat.{ℕ}
use mathlib.Core.Bool.{true, false}
use mathlib.Core.Path.{◌≡◌, refl, sym, ap, ◌∙◌}
use mathlib.Core.List.{[], ◌∷◌}
use native.Mathlib.Omega.{arith}
use lib.ListN.{get_or, take}
use Rattle.refusal.specs.Tests.{need}
use Rattle.fields.specs.Bytes.{part}
use Rattle.fields.specs.Number.{value, field}
use Rattle.model.specs.declared.Effect.{Effect}
use Rattle.model.specs.declared.Record.{Record}
use Rattle.std.specs.Prelude.{Ok}
use Rattle.model.specs.Writes.{on_effect, landing, struck, no_cut}
use Rattle.model.specs.Vat.{tag_fits, passes}
use Rattle.model.specs.VatWritten.{file_bytes, data_sectors}
use Rattle.model.specs.Once.{entries_held, next_held, count_after, room_to_save, number_fits, save_tests}
use Rattle.model.specs.Both.{opening}
use Rattle.model.specs.Calls.{open_disc, cut, answers, final, is_cut, accepted}
use Rattle.model.specs.Store.{holds, store, start, shape_of, cut_in, writes_in, was_cut, put, whole_at, is_whole, taken, next}
use Rattle.model.specs.Consequences.{Follows, lays_icb}
use Rattle.model.specs.Run.{twelve, fresh, lent, ones, twos, failing, before}
use Rattle.model.specs.Wait.{count, begun_in, became_old, old_in, counting, counted, counted_after, waits, waited, NoneExactly, WaitReached}
use Rattle.model.proofs.Verdicts.{opened-tells}
use Rattle.model.proofs.Cuts.{old-differs}
use Rattle.model.proofs.Once.{next_after}
use Rattle.model.proofs.ConsequencesLists.{answer-place, answers-take}
use Rattle.model.proofs.Wait.{opens-only, none-exactly}
use Rattle.model.proofs.RunSteps.{told, told_none, is_opening, orderly, orderly-proper, saved, save-cut, commit-torn, commit-whole, opened-again}
use Rattle.model.proofs.Run.{bytes_below, computed, accepts, empty, at_first, Now}

-- call by call
answer-list : answers twelve before waits ≡ waited
unfolding twelve ones twos waits waited no_cut struck landing on_effect next_after count_after room_to_save number_fits save_tests entries_held next_held passes tag_fits field part value need file_bytes data_sectors put
answer-list =
    told _ (saved at_first 0 ones no_cut refl refl refl) λ (b : Now _ (holds ones ∷ []) [] 1 2 0).
    told _ (save-cut b 1 twos (failing Effect.Unreadable) refl refl refl (omega arith) refl) λ d.
    told _ (opened-again d) λ (b : Now _ [] [] 0 3 0).
    told _ (saved b 0 twos no_cut refl refl refl) λ (b : Now _ (holds twos ∷ []) [] 1 4 0).
    told _ (commit-torn b refl (omega arith) (failing Effect.Old) refl old-differs) λ d.
    told _ (opened-again d) λ (b : Now _ [] [] 0 4 0).
    told _ (saved b 0 ones no_cut refl refl refl) λ (b : Now _ (holds ones ∷ []) [] 1 5 0).
    told _ (commit-whole b refl (omega arith) (failing Effect.Whole) refl refl) λ d.
    told _ (opened-again d) λ b. told_none twelve _

follows : Follows twelve fresh lent waits
unfolding before orderly is_opening is_cut waits waited
follows =
    record {
      low = bytes_below fresh.bytes computed.whole;
      opens = accepts;
      proper = rw answer-list (orderly-proper false waits waited refl);
    }

-- the count after the first i calls, fed what they answer
fed : (i : ℕ) → counted_after twelve fresh lent 0 (take i waits) ≡ counted (record { once = true; tables = (shape_of twelve).tables }) (store [] []) (count 0 0) (take i waits) (take i waited)
unfolding before shape_of
fed i =
    ap (counted (shape_of twelve) (start twelve fresh) (count 0 0) (take i waits)) (answers-take twelve waits before i ∙ ap (take i) answer-list)
    ∙ ap (λ x. counted (shape_of twelve) x (count 0 0) (take i waits) (take i waited)) empty
    ∙ ap (λ x. counted (record { once = x; tables = (shape_of twelve).tables }) (store [] []) (count 0 0) (take i waits) (take i waited)) computed.once

-- the counts before the three openings
record Played (k : ℕ) : Type 0 where
  first : counted (record { once = true; tables = k }) (store [] []) (count 0 0) (take 2 waits) (take 2 waited) ≡ count 2 0
  second : counted (record { once = true; tables = k }) (store [] []) (count 0 0) (take 5 waits) (take 5 waited) ≡ count 4 1
  third : counted (record { once = true; tables = k }) (store [] []) (count 0 0) (take 8 waits) (take 8 waited) ≡ count 0 0

played : (k : ℕ) → Played k
unfolding counted counting begun_in became_old old_in lays_icb next taken was_cut cut_in writes_in struck no_cut put whole_at is_whole accepted waits waited file_bytes data_sectors
played k = record { first = refl; second = refl; third = refl }

-- the first opening of the list
torn-opens : opening twelve (final twelve before (take 2 waits)).disc (final twelve before (take 2 waits)).table ≡ Ok (record { handed = Record.WriteOnce 0 3 0; passed = 2 })
unfolding waits waited
torn-opens =
    opens-only twelve (final twelve before (take 2 waits)) (get_or waits 2 open_disc) _ _
    (sym (answer-place twelve waits before 2 (omega arith)) ∙ ap (λ al. get_or al 2 cut) answer-list)

pub wait-reached : WaitReached
unfolding NoneExactly
wait-reached =
    record {
      once = computed.once;
      clean = (opened-tells twelve fresh lent _ _ computed.opens).passed;
      follows = follows;
      answered = answer-list;
      reached = fed 2 ∙ (played _).first;
      below = fed 5 ∙ (played _).second;
      over = fed 8 ∙ (played _).third;
      ends = none-exactly twelve fresh lent computed.once _ 0 computed.opens;
      torn = none-exactly twelve _ _ computed.once _ 2 torn-opens;
    }
