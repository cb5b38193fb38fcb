-- Laws of the first mark that is not 1, for the loop that looks for it. Assumes nothing.
use Rattle.std.proofs.Common.{◌≡◌, ◌≢◌, ℕ, suc, ◌+◌, ◌-◌, ◌≤◌, ◌<◌, Bool, true, List, length, get_or, take, drop, sym, ap, ◌∙◌, arith}
use Rattle.std.proofs.lemmas.List.{get_or-take, get_or-drop, length-take-le, length-drop}
use borrow.Author.Tests.{eq-eqb, ne_eqb}
use Rattle.std.specs.Prelude.{Ok}
use Rattle.refusal.specs.Tests.{first}
use Rattle.model.specs.Disc.{Disc, mark, recorded, recorded_run, first_mark, mark_tests}
use Rattle.model.proofs.Marks.{mark-goes, first-mark}

-- before the first step all is left to be looked at
pub first-all : (d : Disc) (p n : ℕ) → first_mark d (p + 0) (n - 0) ≡ first_mark d p n
first-all d p n =
    let a : p + 0 ≡ p = omega arith in
    let b : n - 0 ≡ n = omega arith in
    rw (a, b)

-- the marks of n sectors from p on
abbrev run : Disc → ℕ → ℕ → List ℕ
run d p n = take (p + n - p) (drop p d.marks)

run-length : (d : Disc) (p n : ℕ) → p + n ≤ length d.marks → length (run d p n) ≡ n
run-length d p n fits = length-take-le (p + n - p) (drop p d.marks) (let q = length-drop p d.marks in omega (arith, q)) ∙ omega arith

-- a step: of n sectors those below i are recorded
module _ (d : Disc) (p n i : ℕ) (more : i < length (run d p n)) (fits : p + n ≤ length d.marks) {m : ℕ} (inv : first_mark d (p + i) (n - i) ≡ m) where
  below : i < n
  below = let q = run-length d p n fits in omega (arith, q)

  left : n - i ≡ suc (n - (i + 1))
  left = let q = below in omega (arith, q)

  -- its mark
  here : get_or (run d p n) i 0 ≡ mark d (p + i)
  unfolding mark
  here = let q = below in get_or-take (p + n - p) (drop p d.marks) i 0 (omega (arith, q)) ∙ get_or-drop p d.marks i 0

  -- sector i is not: its mark is the first
  pub first-here : get_or (run d p n) i 0 ≢ 1 → get_or (run d p n) i 0 ≡ m
  unfolding first_mark recorded
  first-here h = here ∙ sym (ap (first_mark d (p + i)) left ∙ rw (ne_eqb _ _ (λ q. h (here ∙ q)))) ∙ inv

  -- it is: the first is among those above it
  pub first_above : get_or (run d p n) i 0 ≡ 1 → first_mark d (p + (i + 1)) (n - (i + 1)) ≡ m
  unfolding first_mark recorded
  first_above h =
      let q : p + (i + 1) ≡ p + i + 1 = omega arith in
      ap (λ (x : ℕ). first_mark d x (n - (i + 1))) q ∙ sym (ap (first_mark d (p + i)) left ∙ rw (eq-eqb _ _ (sym here ∙ h))) ∙ inv

-- past the last there is none
pub first-none : (d : Disc) (p n i : ℕ) {m : ℕ} → length (run d p n) ≤ i → p + n ≤ length d.marks → first_mark d (p + i) (n - i) ≡ m → 1 ≡ m
unfolding first_mark
first-none d p n i h fits inv =
    let q = run-length d p n fits in
    let z : n - i ≡ 0 = omega (arith, q) in
    sym (ap (first_mark d (p + i)) z) ∙ inv

-- where all are recorded neither line applies
pub run-goes : (d : Disc) (p n : ℕ) {b : Bool} → b ≡ recorded_run d p n → b ≡ true → (Ok tt) ≡ first (mark_tests (first_mark d p n))
run-goes d p n q h = mark-goes (first_mark d p n) (first-mark d p n ∙ sym q ∙ h)
