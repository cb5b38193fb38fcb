-- The lists of specs/EitherFirst.antt on the disc of Run.antt: what the calls answer follows call by call from the laws of RunSteps.antt, and what is
-- read from `SavedInTurn` and from what the plain store has. Assumes nothing.
use Prim.Native.Nat.{ℕ}
use mathlib.Core.Bool.{true, false, false≢true}
use mathlib.Core.Logic.{◌≢◌}
use mathlib.Core.Path.{◌≡◌, refl, sym, ◌∙◌, subst}
use mathlib.Core.List.{List, [], ◌∷◌}
use native.Mathlib.Omega.{arith}
use lib.Dec.{eqb, leb}
use lib.ListN.{length, get_or}
use borrow.Author.Tests.{eqb-true}
use Rattle.refusal.specs.declared.Refusal.TheVariants.{PassesAsIcb}
use Rattle.refusal.specs.Tests.{need}
use Rattle.fields.specs.Bytes.{part}
use Rattle.fields.specs.Number.{value, field}
use Rattle.model.specs.Disc.{Disc, recorded_run}
use Rattle.model.specs.Writes.{landing, struck, no_cut}
use Rattle.model.specs.Vat.{none, below_or_none, all_below, tag_fits, passes}
use Rattle.model.specs.VatWritten.{file_bytes, data_sectors}
use Rattle.model.specs.Once.{entries_held, next_held, count_after, room_to_save, number_fits, save_tests}
use Rattle.model.specs.Calls.{State, answers, final, accepted, is_cut}
use Rattle.model.specs.Store.{Slot, holds, store, put, seen_as, look}
use Rattle.model.specs.Demand.{seen}
use Rattle.model.specs.Run.{twelve, ones, twos}
use Rattle.model.specs.EitherFirst.{in_turn, AllDone, SavedInTurn, two, threes, zeroth, other, past, ahead, back, both_given, icb, other_icb, one_given, Plots}
use Rattle.model.proofs.Basics.{by_bool, and_first, and_second, and-false-left}
use Rattle.model.proofs.Agree.{passed}
use Rattle.model.proofs.WrittenVat.{length-icb, icb-passes}
use Rattle.model.proofs.Once.{next_after}
use Rattle.model.proofs.OnceRead.{read-once}
use Rattle.model.proofs.RunSteps.{told, told_none, standing, saved, save-refused, committed, opened-again}
use Rattle.model.proofs.Run.{at_first, Now}
use Rattle.model.proofs.EitherFirst.{saved-in-turn}

-- two blocks of ones
abbrev old : List Slot
old = holds ones ∷ holds ones ∷ []

at-two : Now two old old 2 4 3
unfolding two twelve ones final no_cut struck landing next_after count_after room_to_save number_fits save_tests entries_held next_held passes tag_fits field part value need file_bytes data_sectors put
at-two =
    let b : Now _ (holds ones ∷ []) [] 1 2 0 = (saved at_first 0 ones no_cut refl refl refl).leaves in
    let b : Now _ old [] 2 3 0 = (saved b 1 ones no_cut refl refl refl).leaves in
    (committed b refl (omega arith) no_cut refl).leaves

-- reading shows what the plain store has
reads : {st : State} {bs copy : List Slot} {n w a : ℕ} → Now st bs copy n w a → (u : ℕ) (out : List ℕ) → length out ≡ 2048 → seen twelve st u out ≡ look (store bs copy) u
reads b u out long = read-once twelve b.once b.maps _ _ b.live u out long

-- ---- both orders accepted

in_order_law : answers twelve two (in_turn zeroth other ahead) ≡ both_given
unfolding twelve twos threes both_given no_cut struck landing next_after count_after room_to_save number_fits save_tests entries_held next_held passes tag_fits field part value need file_bytes data_sectors put
in_order_law =
    told _ (saved at-two 0 twos no_cut refl refl refl) λ (b : Now _ (holds twos ∷ holds ones ∷ []) old 2 5 3).
    told _ (saved b 1 threes past refl refl refl) λ (b : Now _ (holds twos ∷ holds threes ∷ []) old 2 6 3).
    told _ (committed b refl (omega arith) no_cut refl) λ (b : Now _ (holds twos ∷ holds threes ∷ []) (holds twos ∷ holds threes ∷ []) 2 7 6).
    told _ (opened-again (standing b)) λ b. told_none twelve _

reversed : answers twelve two (in_turn other zeroth back) ≡ both_given
unfolding twelve twos threes both_given no_cut struck landing next_after count_after room_to_save number_fits save_tests entries_held next_held passes tag_fits field part value need file_bytes data_sectors put
reversed =
    told _ (saved at-two 1 threes past refl refl refl) λ (b : Now _ (holds ones ∷ holds threes ∷ []) old 2 5 3).
    told _ (saved b 0 twos no_cut refl refl refl) λ (b : Now _ (holds twos ∷ holds threes ∷ []) old 2 6 3).
    told _ (committed b refl (omega arith) past refl) λ (b : Now _ (holds twos ∷ holds threes ∷ []) (holds twos ∷ holds threes ∷ []) 2 7 6).
    told _ (opened-again (standing b)) λ b. told_none twelve _

all_done_law : AllDone both_given
unfolding AllDone both_given accepted is_cut
all_done_law = (refl, refl, (refl, refl, (refl, refl, (refl, refl, tt))))

-- ---- a block that passes as an ICB in block 4, and not in block 5

passing : (d : Disc) → passes d 0 4 icb ≡ true
unfolding icb none below_or_none all_below recorded_run file_bytes data_sectors
passing d = icb-passes [] 3 4 (omega arith) refl refl (omega arith) d 0 (omega arith) refl (λ h. absurd (omega arith))

-- a tag names its block, and fits in no other
tag_names : (k : ℕ) (b : List ℕ) → tag_fits k b ≡ true → field b 12 4 ≡ k
unfolding tag_fits
tag_names k b h =
    let p = and_second (eqb (field b 0 2) 261) _ h in
    let p = and_second (eqb (field b 2 2) 2) _ p in
    let p = and_second (eqb (get_or b 5 0) 0) _ p in
    let p = and_second (leb 160 (field b 10 2)) _ p in
    let p = and_second (leb (field b 10 2) 2032) _ p in
    eqb-true _ _ (and_first (eqb (field b 12 4) k) _ p)

tag-elsewhere : (j k : ℕ) (b : List ℕ) → tag_fits k b ≡ true → k ≢ j → tag_fits j b ≡ false
tag-elsewhere j k b h apart = by_bool (tag_fits j b) (λ q. absurd (apart (sym (tag_names k b h) ∙ tag_names j b q))) (λ q. q)

elsewhere : (d : Disc) → passes d 0 5 icb ≡ false
unfolding passes
elsewhere d = and-false-left _ (tag-elsewhere 5 4 icb (passed d 0 4 icb (passing d)).tag (λ (q : 4 ≡ 5). omega arith))

long-icb : length icb ≡ 2048
unfolding icb
long-icb = length-icb [] 3 4

icb-second : answers twelve two (in_turn zeroth other_icb ahead) ≡ both_given
unfolding twelve twos both_given no_cut struck landing next_after count_after room_to_save number_fits save_tests entries_held next_held passes tag_fits field part value need file_bytes data_sectors put
icb-second =
    told _ (saved at-two 0 twos no_cut refl refl refl) λ (b : Now _ (holds twos ∷ holds ones ∷ []) old 2 5 3).
    told _ (saved b 1 icb past long-icb (rw (elsewhere _)) refl) λ (b : Now _ (holds twos ∷ holds icb ∷ []) old 2 6 3).
    told _ (committed b refl (omega arith) no_cut refl) λ (b : Now _ (holds twos ∷ holds icb ∷ []) (holds twos ∷ holds icb ∷ []) 2 7 6).
    told _ (opened-again (standing b)) λ b. told_none twelve _

-- block 0 alone
abbrev alone : List Slot
alone = holds twos ∷ holds ones ∷ []

icb-first : answers twelve two (in_turn other_icb zeroth back) ≡ one_given
unfolding twelve twos one_given no_cut struck landing next_after count_after room_to_save number_fits save_tests entries_held next_held passes tag_fits field part value need file_bytes data_sectors put
icb-first =
    told _ (save-refused at-two 1 icb past PassesAsIcb long-icb (rw (passing _))) λ (b : Now _ old old 2 4 3).
    told _ (saved b 0 twos no_cut refl refl refl) λ (b : Now _ alone old 2 5 3).
    told _ (committed b refl (omega arith) past refl) λ (b : Now _ alone alone 2 6 5).
    told _ (opened-again (standing b)) λ b. told_none twelve _

-- the state after it
icb-refused : Now (final twelve two (in_turn other_icb zeroth back)) alone alone 2 6 5
unfolding final twelve twos no_cut struck landing next_after count_after room_to_save number_fits save_tests entries_held next_held passes tag_fits field part value need file_bytes data_sectors put
icb-refused =
    let b : Now _ old old 2 4 3 = (save-refused at-two 1 icb past PassesAsIcb long-icb (rw (passing _))).leaves in
    let b : Now _ alone old 2 5 3 = (saved b 0 twos no_cut refl refl refl).leaves in
    let b : Now _ alone alone 2 6 5 = (committed b refl (omega arith) past refl).leaves in
    (opened-again (standing b)).leaves

-- it is no block of ones, which does not pass
differs : icb ≢ ones
unfolding ones passes tag_fits field part value
differs q = absurd (false≢true (subst (λ (b : List ℕ). passes two.disc 0 4 b ≡ true) q (passing two.disc)))

-- ---- what is read

pub plots : Plots
unfolding SavedInTurn look seen_as
plots =
    let one_way = saved-in-turn twelve two zeroth other ahead (rw in_order_law all_done_law) in
    let other_way = saved-in-turn twelve two other zeroth back (rw reversed all_done_law) in
    record {
      apart = λ (q : ◌≡◌ {A = ℕ} 0 1). omega arith;
      in_order = in_order_law;
      reversed = reversed;
      all_done = all_done_law;
      zero = λ out long. (one_way 0 out long, other_way 0 out long);
      one = λ out long. (one_way 1 out long, other_way 1 out long);
      outside = λ out long. (one_way 2 out long ∙ reads at-two 2 out long, other_way 2 out long ∙ reads at-two 2 out long);
      second = icb-second;
      first = icb-first;
      parted = λ out long. (
        saved-in-turn twelve two zeroth other_icb ahead (rw icb-second all_done_law) 1 out long,
        reads icb-refused 1 out long,
        differs,
      );
    }
