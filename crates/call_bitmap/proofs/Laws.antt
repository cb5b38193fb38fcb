-- Laws of what C sees of counting and finding. Assumes nothing.
use Prim.Native.Nat.{ℕ}
use mathlib.Core.Path.{◌≡◌, refl, ap}
use mathlib.Core.Bool.{Bool, cond}
use mathlib.Core.List.{List}
use borrow.Author.Tests.{eq-eqb, ne_eqb}
use lib.ListN.{length}
use Rattle.std.specs.Prelude.{Result, Ok, Err}
use Rattle.refusal.specs.declared.Refusal.{Refusal}
use Rattle.refusal.specs.declared.Refusal.TheVariants.{LentLength}
use Rattle.bitmap.specs.Counted.{counted}
use Rattle.refusal.specs.Number.{answer_number}
use Rattle.bitmap_find.specs.Nearest.{found}
use Rattle.call_bitmap.specs.Lent.{lent_count, counted_after, lent_find, found_after}

-- a result of another length
pub count-short : (b : List ℕ) (l : ℕ) (result : List ℕ) → (length result ≡ 1 → ⊥) → lent_count b l result ≡ Err LentLength
unfolding lent_count
count-short b l result h = let a = ne_eqb (length result) 1 h in rw a refl

pub find-short : (b : List ℕ) (l w near : ℕ) (result : List ℕ) → (length result ≡ 1 → ⊥) → lent_find b l w near result ≡ Err LentLength
unfolding lent_find
find-short b l w near result h = let a = ne_eqb (length result) 1 h in rw a refl

-- where it is as stated, counting and finding decide
pub counts : (b : List ℕ) (l : ℕ) (result : List ℕ) → length result ≡ 1 → lent_count b l result ≡ counted b l
unfolding lent_count
counts b l result h = ap (λ (x : Bool). cond x (counted b l) (Err LentLength)) (eq-eqb (length result) 1 h)

pub finds : (b : List ℕ) (l w near : ℕ) (result : List ℕ) → length result ≡ 1 → lent_find b l w near result ≡ found b l w near
unfolding lent_find
finds b l w near result h = ap (λ (x : Bool). cond x (found b l w near) (Err LentLength)) (eq-eqb (length result) 1 h)

-- what is found is told as what is counted
pub same-number : (r : Result ℕ Refusal) → answer_number r ≡ answer_number r
same-number (Ok n) = refl
same-number (Err why) = refl

pub same-after : (r : Result ℕ Refusal) (result : List ℕ) → counted_after r result ≡ found_after r result
same-after (Ok n) result = refl
same-after (Err why) result = refl
