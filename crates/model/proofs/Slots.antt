-- Blocks of the plain store after several were written, and sectors as blocks. Assumes nothing.
use Prim.Native.Nat.{ℕ, zero, suc, ◌+◌, ◌*◌, ◌≤◌, ◌<◌}
use mathlib.Core.Bool.{true}
use mathlib.Core.Logic.{◌⊎◌, inl, inr}
use mathlib.Core.Path.{◌≡◌, refl, ap, ◌∙◌}
use mathlib.Core.List.{List, [], ◌∷◌}
use native.Mathlib.Omega.{arith}
use lib.ListN.{length, get_or, set, length-set}
use lib.Seq.{get_or-set_same, get_or-set_other}
use Rattle.fields.specs.Bytes.{part}
use Rattle.model.specs.declared.Cut.{Cut}
use Rattle.model.specs.declared.Landing.{Landing}
use Rattle.model.specs.Disc.{Disc, sector, mark, recorded}
use Rattle.model.specs.Writes.{landing, landed}
use Rattle.model.specs.Store.{Slot, holds, unused, slot_at, puts, puts_cut, slots_in, slot_after}
use Rattle.model.proofs.Sectors.{Made, sector-done, recorded-done, mark-unreadable}

-- ---- sectors as blocks

-- a sector that is the same on two discs is the same block
pub slot_same : (d d' : Disc) (x y : ℕ) → sector d x ≡ sector d' y → mark d x ≡ mark d' y → slot_at d x ≡ slot_at d' y
unfolding slot_at recorded
slot_same d d' x y a b = rw (a, b)

-- a sector that was written, by how the write landed
pub slot-landed : (lg : Landing) (p : ℕ) (b : List ℕ) (d : Disc) → length b ≡ 2048 → p < length d.marks → Made d → slot_at (landed lg p b d) p ≡ slot_after lg (slot_at d p) (holds b)
unfolding slot_after slot_at landed recorded
slot-landed Landing.Done p b d e h m = rw (recorded-done p b d h, sector-done p b d e h m)
slot-landed Landing.Old p b d e h m = refl
slot-landed Landing.Unreadable p b d e h m =
    rw (mark-unreadable p b d h)
slot-landed Landing.Untouched p b d e h m = refl

-- a recorded sector holds its bytes
pub slot-recorded : (d : Disc) (p : ℕ) → recorded d p ≡ true → slot_at d p ≡ holds (sector d p)
unfolding slot_at
slot-recorded d p h = rw h

-- ---- lent bytes as blocks

pub length-blocks : (n : ℕ) (b : List ℕ) (at : ℕ) → length (slots_in n b at) ≡ n
unfolding slots_in
length-blocks zero b at = refl
length-blocks (suc n) b at = ap suc (length-blocks n b (at + 2048))

pub block_in : (n : ℕ) (b : List ℕ) (at i : ℕ) → i < n → get_or (slots_in n b at) i unused ≡ holds (part b (at + 2048 * i) 2048)
unfolding slots_in
block_in zero b at i h = absurd (omega arith)
block_in (suc n) b at zero h = let q : at ≡ at + 2048 * 0 = omega arith in ap (λ (x : ℕ). holds (part b x 2048)) q
block_in (suc n) b at (suc i) h =
    let q : at + 2048 + 2048 * i ≡ at + 2048 * suc i = omega arith in
    block_in n b (at + 2048) i (omega arith) ∙ ap (λ (x : ℕ). holds (part b x 2048)) q

-- ---- several blocks written one by one, by the cut's rule

pub length_cut : (n : ℕ) (c : Cut) (l : List Slot) (p : ℕ) (xs : List Slot) → length (puts_cut n c l p xs) ≡ length l
unfolding puts_cut
length_cut n c l p [] = refl
length_cut n c l p (x ∷ xs) =
    length_cut (n + 1) c (set l p (slot_after (landing n c) (get_or l p unused) x)) (p + 1) xs
    ∙ length-set l p (slot_after (landing n c) (get_or l p unused) x)

-- a block that is none of them is kept
pub cut-other : (n : ℕ) (c : Cut) (l : List Slot) (p : ℕ) (xs : List Slot) (j : ℕ) → (j < p) ⊎ (p + length xs ≤ j) → get_or (puts_cut n c l p xs) j unused ≡ get_or l j unused
unfolding puts_cut
cut-other n c l p [] j h = refl
cut-other n c l p (x ∷ xs) j (inl h) =
    cut-other (n + 1) c (set l p (slot_after (landing n c) (get_or l p unused) x)) (p + 1) xs j (inl (omega arith))
    ∙ get_or-set_other l p j (slot_after (landing n c) (get_or l p unused) x) unused (omega arith)
cut-other n c l p (x ∷ xs) j (inr h) =
    cut-other (n + 1) c (set l p (slot_after (landing n c) (get_or l p unused) x)) (p + 1) xs j (inr (omega arith))
    ∙ get_or-set_other l p j (slot_after (landing n c) (get_or l p unused) x) unused (omega arith)

-- and each of them is as its write landed
pub cut_inside : (n : ℕ) (c : Cut) (l : List Slot) (p : ℕ) (xs : List Slot) (i : ℕ) → i < length xs → p + length xs ≤ length l
    → get_or (puts_cut n c l p xs) (p + i) unused ≡ slot_after (landing (n + i) c) (get_or l (p + i) unused) (get_or xs i unused)
unfolding puts_cut
cut_inside n c l p [] i h r = absurd (omega arith)
cut_inside n c l p (x ∷ xs) zero h r =
    let y : Slot = slot_after (landing n c) (get_or l p unused) x in
    let a : p + 0 ≡ p = omega arith in
    let b : n + 0 ≡ n = omega arith in
    rw (a, b)
    (cut-other (n + 1) c (set l p y) (p + 1) xs p (inl (omega arith)) ∙ get_or-set_same l p y unused (omega arith))
cut_inside n c l p (x ∷ xs) (suc i) h r =
    let y : Slot = slot_after (landing n c) (get_or l p unused) x in
    let a : p + suc i ≡ p + 1 + i = omega arith in
    let b : n + suc i ≡ n + 1 + i = omega arith in
    rw (a, b)
    (cut_inside (n + 1) c (set l p y) (p + 1) xs i (omega arith) (rw length-set (omega arith))
    ∙ ap (λ (o : Slot). slot_after (landing (n + 1 + i) c) o (get_or xs i unused)) (get_or-set_other l p (p + 1 + i) y unused (omega arith)))

-- ---- several blocks given their bytes

pub length-puts : (l : List Slot) (p : ℕ) (xs : List Slot) → length (puts l p xs) ≡ length l
unfolding puts
length-puts l p [] = refl
length-puts l p (x ∷ xs) = length-puts (set l p x) (p + 1) xs ∙ length-set l p x

pub puts-other : (l : List Slot) (p : ℕ) (xs : List Slot) (j : ℕ) → (j < p) ⊎ (p + length xs ≤ j) → get_or (puts l p xs) j unused ≡ get_or l j unused
unfolding puts
puts-other l p [] j h = refl
puts-other l p (x ∷ xs) j (inl h) = puts-other (set l p x) (p + 1) xs j (inl (omega arith)) ∙ get_or-set_other l p j x unused (omega arith)
puts-other l p (x ∷ xs) j (inr h) = puts-other (set l p x) (p + 1) xs j (inr (omega arith)) ∙ get_or-set_other l p j x unused (omega arith)

pub puts-inside : (l : List Slot) (p : ℕ) (xs : List Slot) (i : ℕ) → i < length xs → p + length xs ≤ length l → get_or (puts l p xs) (p + i) unused ≡ get_or xs i unused
unfolding puts
puts-inside l p [] i h r = absurd (omega arith)
puts-inside l p (x ∷ xs) zero h r =
    let a : p + 0 ≡ p = omega arith in
    rw a (puts-other (set l p x) (p + 1) xs p (inl (omega arith)) ∙ get_or-set_same l p x unused (omega arith))
puts-inside l p (x ∷ xs) (suc i) h r =
    let a : p + suc i ≡ p + 1 + i = omega arith in
    rw a (puts-inside (set l p x) (p + 1) xs i (omega arith) (rw length-set (omega arith)))
