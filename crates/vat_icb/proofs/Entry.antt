-- What a File Entry that fits shows of its lengths. Assumes nothing.
use Prim.Native.Nat.{ℕ, ◌+◌, ◌≤◌}
use mathlib.Core.Path.{◌≡◌}
use mathlib.Core.Bool.{Bool, true, false, ◌||◌}
use mathlib.Core.List.{List}
use lib.Dec.{eqb}
use lib.ListN.{get_or}
use borrow.Author.Tests.{leb-true, ne_eqb}
use Rattle.fields.specs.Number.{field}
use Rattle.model.specs.Vat.{form, attributes, allocation, entry_fits}
use Rattle.model.proofs.Basics.{and-true}

-- its attributes and its allocation end in the block
pub entry_ends : (b : List ℕ) → entry_fits b ≡ true → 176 + attributes b + allocation b ≤ 2048
unfolding entry_fits
entry_ends b h =
    let p = and-true (eqb (field b 20 2) 4) _ h in
    let q = and-true (eqb (get_or b 27 0) 0) _ p.1 in
    leb-true _ _ (and-true (eqb (form b) 0 || eqb (form b) 3) _ q.1).1

-- and its form is one of the two
pub form_known : (b : List ℕ) → entry_fits b ≡ true → (form b ≡ 0 → ⊥) → (form b ≡ 3 → ⊥) → ⊥
unfolding entry_fits
form_known b h m n =
    let p = and-true (eqb (field b 20 2) 4) _ h in
    let q = and-true (eqb (get_or b 27 0) 0) _ p.1 in
    let r = (and-true (eqb (form b) 0 || eqb (form b) 3) _ q.1).0 in
    let f : ◌≡◌ {A = Bool} false true = rw (ne_eqb _ 0 m, ne_eqb _ 3 n) at r in
    cc
