-- Laws of a bitmap that line 31 lets pass, and of blocks in one state. Assumes nothing.
use Prim.Native.Nat.{ℕ, zero, suc, ◌+◌, ◌*◌, ◌≤◌, ◌<◌}
use mathlib.Core.Path.{◌≡◌, refl, ap, ◌∙◌}
use mathlib.Core.Bool.{true, false}
use mathlib.Core.List.{List}
use native.Mathlib.Omega.{arith}
use native.Mathlib.Decide.{ℕ_discrete}
use lib.ListN.{length}
use lib.Dec.{eqb}
use borrow.Author.Tests.{eq-eqb, eqb-true, le-leb, leb-true}
use Rattle.fields.specs.Number.{field}
use Rattle.fields.proofs.Laws.{by-dec}
use Rattle.tag.specs.Sound.{sound}
use Rattle.refusal.specs.Number.{answer_number}
use Rattle.refusal.specs.Tests.{first, need}
use Rattle.refusal.specs.Verdict.{Verdict, answered}
use Rattle.std.specs.Prelude.{Ok, Err, Result}
use Rattle.refusal.specs.declared.Refusal.TheVariants.{BitmapMalformed}
use Rattle.refusal.specs.declared.Refusal.{Refusal}
use Rattle.bitmap.specs.Counted.{counted, Counts}
use Rattle.bitmap.specs.Bits.{bit_at, all_in, free_from}
use Rattle.bitmap.specs.Formed.{tag_fits, bitmap_fits, bitmap_tests}
use Rattle.fields.proofs.Tests.{both, together}

-- what line 31 asks for, as facts
pub record Formed (b : List ℕ) (l : ℕ) : Type 0 where
  pub long : 24 ≤ length b
  pub bits : field b 16 4 ≡ l
  pub few : l ≤ 8 * field b 20 4
  pub inside : 24 + field b 20 4 ≤ length b
  pub identifier : field b 0 2 ≡ 264
  pub least : 8 ≤ field b 10 2
  pub covered : 16 + field b 10 2 ≤ length b
  pub right : sound b ≡ true

pub formed : (b : List ℕ) (l : ℕ) → bitmap_fits b l ≡ true → Formed b l
unfolding bitmap_fits tag_fits
formed b l e =
    let a = both _ _ e in
    let c = both _ _ a.1 in
    let d = both _ _ c.1 in
    let f = both _ _ d.1 in
    let g = both _ _ f.1 in
    let h = both _ _ g.1 in
    let i = both _ _ h.1 in
    record {
      long = leb-true _ _ a.0;
      bits = eqb-true _ _ c.0;
      few = leb-true _ _ d.0;
      inside = leb-true _ _ f.0;
      identifier = eqb-true _ _ g.0;
      least = leb-true _ _ h.0;
      covered = leb-true _ _ i.0;
      right = i.1;
    }

pub fits-so : (b : List ℕ) (l : ℕ) → Formed b l → bitmap_fits b l ≡ true
unfolding bitmap_fits tag_fits
fits-so b l f =
    together (le-leb _ _ f.long)
    (together (eq-eqb _ _ f.bits)
    (together (le-leb _ _ f.few)
    (together (le-leb _ _ f.inside)
    (together (eq-eqb _ _ f.identifier)
    (together (le-leb _ _ f.least)
    (together (le-leb _ _ f.covered) f.right))))))

-- every bit of the L blocks lies in the lent bytes
pub room : {b : List ℕ} {l : ℕ} → Formed b l → 192 + l ≤ 8 * length b
room f = let a = f.few in let c = f.inside in omega (arith, a, c)

-- ---- blocks in one state, as a test and as a fact about each

pub all_told : (b : List ℕ) (v s n : ℕ) → ((i : ℕ) → s ≤ i → i < s + n → bit_at b i ≡ v) → all_in b v s n ≡ true
unfolding all_in
all_told b v s zero h = refl
all_told b v s (suc n) h =
    together (eq-eqb (bit_at b s) v (h s (omega arith) (omega arith)))
    (all_told b v (s + 1) n (λ i l u. h i (omega arith) (omega arith)))

pub all_in_law : (b : List ℕ) (v s n : ℕ) → all_in b v s n ≡ true → (i : ℕ) → s ≤ i → i < s + n → bit_at b i ≡ v
unfolding all_in
all_in_law b v s zero h i l u = absurd (omega arith)
all_in_law b v s (suc n) h i l u =
    let t = both (eqb (bit_at b s) v) (all_in b v (s + 1) n) h in
    by-dec
    (λ e. ap (bit_at b) e ∙ eqb-true (bit_at b s) v t.0)
    (λ e. all_in_law b v (s + 1) n t.1 i (omega (arith, e)) (omega arith))
    (ℕ_discrete i s)

-- ---- the call that counts

-- its number is that of the tests
counts-so : (b : List ℕ) (l : ℕ) (r : Result ℕ Refusal) → r ≡ counted b l → Counts b l r
unfolding counted
counts-so b l r e =
    record { answer = e; number = ap answer_number e ∙ told (first (bitmap_tests b l)) }
  where
    told : (v : Verdict) → answer_number (answered v (free_from b 0 l)) ≡ answer_number v
    told (Ok _) = refl
    told (Err why) = refl

pub not-counted : (b : List ℕ) (l : ℕ) (why : Refusal) → why ≡ BitmapMalformed → bitmap_fits b l ≡ false → Counts b l (Err why)
unfolding counted need
not-counted b l why e h = counts-so b l (Err why) (rw h (ap Err e))

pub counted-free : (b : List ℕ) (l n : ℕ) → bitmap_fits b l ≡ true → n ≡ free_from b 0 l → Counts b l (Ok n)
unfolding counted need
counted-free b l n h e = counts-so b l (Ok n) (rw h (ap Ok e))
