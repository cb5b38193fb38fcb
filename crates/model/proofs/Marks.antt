-- Laws of lines 25 and 14: what the mark of a sector to be read is told as, and the first mark of several that is not 1. Assumes nothing.
use Prim.Native.Nat.{ℕ, zero, suc, ◌+◌, ◌-◌}
use mathlib.Core.Bool.{true, false, ◌&&◌}
use mathlib.Core.Path.{◌≡◌, refl, sym, ◌∙◌}
use mathlib.Core.List.{List}
use native.Mathlib.Omega.{arith}
use borrow.Author.Tests.{eqb-true, ne_eqb}
use lib.Dec.{eqb}
use Rattle.refusal.specs.declared.Refusal.{Refusal}
use Rattle.refusal.specs.declared.Refusal.TheVariants.{BlankSector, UnreadableSector}
use Rattle.std.specs.Prelude.{Ok, Err}
use Rattle.refusal.specs.Tests.{first, need}
use Rattle.refusal.proofs.Laws.{passed, stop-go}
use Rattle.model.specs.Disc.{Disc, sector, mark, recorded, recorded_run, first_mark, mark_tests}
use Rattle.model.specs.Rewrite.{other_mark}
use Rattle.model.specs.Both.{block_by}
use Rattle.model.specs.Store.{slot_at, seen_as}
use Rattle.model.specs.Demand.{seen_by}
use Rattle.model.proofs.Basics.{by_bool}

-- ---- one mark

-- 1 is no reason
pub mark-goes : (m : ℕ) → eqb m 1 ≡ true → (Ok tt) ≡ first (mark_tests m)
unfolding mark_tests need
mark-goes m h = let q : eqb m 0 ≡ false = ne_eqb m 0 (λ z. omega (arith, eqb-true m 1 h)) in rw (q, h)

-- 0 is line 25
pub mark-blank : (m : ℕ) → eqb m 0 ≡ true → Err BlankSector ≡ first (mark_tests m)
unfolding mark_tests need
mark-blank m h = rw h

-- any other is line 14
pub mark-unread : (m : ℕ) → eqb m 0 ≡ false → eqb m 1 ≡ false → Err UnreadableSector ≡ first (mark_tests m)
unfolding mark_tests need
mark-unread m g h = rw (g, h)

-- where neither line applies the mark is 1
pub mark-tells : (m : ℕ) → first (mark_tests m) ≡ Ok tt → eqb m 1 ≡ true
unfolding mark_tests
mark-tells m h = (passed (mark_tests m) h).1.0

-- a sector to be read shows what it does as a block of the plain store
pub sector-shown : (d : Disc) (p : ℕ) (out : List ℕ)
    → seen_by (first (mark_tests (mark d p))) (block_by (first (mark_tests (mark d p))) (sector d p) out) ≡ seen_as (slot_at d p)
unfolding slot_at recorded seen_as seen_by block_by
sector-shown d p out =
    by_bool (eqb (mark d p) 1)
    (λ a. rw (← mark-goes (mark d p) a, a))
    (λ a.
    by_bool (eqb (mark d p) 0)
    (λ b. rw (← mark-blank (mark d p) b, a, b))
    (λ b. rw (← mark-unread (mark d p) b a, a, b)))

-- ---- the first of several

-- it is 1 exactly if all are recorded
pub first-mark : (d : Disc) (p n : ℕ) → eqb (first_mark d p n) 1 ≡ recorded_run d p n
unfolding first_mark recorded_run recorded
first-mark d p zero = refl
first-mark d p (suc n) =
    by_bool (eqb (mark d p) 1)
    (λ a. rw a (first-mark d (p + 1) n))
    (λ a. rw (a, a))

-- where it is no reason all are recorded, and where it is one is not
first-go : (d : Disc) (p n : ℕ) → first (mark_tests (first_mark d p n)) ≡ Ok tt → recorded_run d p n ≡ true
first-go d p n h = sym (first-mark d p n) ∙ mark-tells (first_mark d p n) h

first-stop : (d : Disc) (p n : ℕ) {why : Refusal} → first (mark_tests (first_mark d p n)) ≡ Err why → recorded_run d p n ≡ false
first-stop d p n h =
    by_bool (recorded_run d p n) (λ a. stop-go h (sym (mark-goes (first_mark d p n) (first-mark d p n ∙ a)))) (λ a. a)

-- ---- the sectors of a packet but one

-- if one below it is not recorded, the first of those decides
pub others_below : (d : Disc) (p i : ℕ) {why : Refusal} → first (mark_tests (first_mark d p i)) ≡ Err why
    → first (mark_tests (other_mark d p i)) ≡ first (mark_tests (first_mark d p i))
unfolding other_mark
others_below d p i h = rw (first-stop d p i h)

-- else the first of those above it
pub others-above : (d : Disc) (p i : ℕ) → first (mark_tests (first_mark d p i)) ≡ Ok tt
    → first (mark_tests (other_mark d p i)) ≡ first (mark_tests (first_mark d (p + i + 1) (31 - i)))
unfolding other_mark
others-above d p i h = rw (first-go d p i h)

-- it is 1 exactly if all others are recorded
pub other-mark : (d : Disc) (p i : ℕ) → eqb (other_mark d p i) 1 ≡ (recorded_run d p i && recorded_run d (p + i + 1) (31 - i))
unfolding other_mark
other-mark d p i =
    by_bool (recorded_run d p i)
    (λ a. rw a (first-mark d (p + i + 1) (31 - i)))
    (λ a. rw a (first-mark d p i ∙ a))
