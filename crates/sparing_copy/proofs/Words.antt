-- Laws of numbers of 4 bytes in a row, and the bytes that they are read from. Assumes nothing.
use Rattle.std.proofs.Common.{◌≡◌, ℕ, zero, suc, ◌+◌, ◌*◌, ◌<◌, ◌≤◌, List, ◌∷◌, ◌++◌, length, get_or, take, drop, sym, refl, ap, ◌∙◌, ap₂, add-zero, arith, drop-drop, take-add}
use Rattle.fields.specs.Bytes.{part, same}
use Rattle.fields.specs.Number.{field, words, quads}
use Rattle.fields.proofs.Laws.{AllBytes, field-part, digits-field, same-equal, same_true}
use Rattle.fields.proofs.Tests.{alike}

-- number j of them
pub get_or-words : (s : List ℕ) (at n j : ℕ) → j < n → get_or (words s at n) j 0 ≡ field s (at + 4 * j) 4
unfolding words
get_or-words s at zero j h = absurd (omega arith)
get_or-words s at (suc n) zero h =
    let e : at ≡ at + 4 * 0 = omega arith in
    ap (λ (k : ℕ). field s k 4) e
get_or-words s at (suc n) (suc j) h =
    let e : at + 4 + 4 * j ≡ at + 4 * suc j = omega arith in
    get_or-words s (at + 4) n j (omega arith) ∙ ap (λ (k : ℕ). field s k 4) e

-- those of a part
pub words-part : (s : List ℕ) (at w from n : ℕ) → from + 4 * n ≤ w → words (part s at w) from n ≡ words s (at + from) n
unfolding words
words-part s at w from zero h = refl
words-part s at w from (suc n) h =
    let e : at + (from + 4) ≡ at + from + 4 = omega arith in
    ap₂ (λ (x : ℕ) (l : List ℕ). x ∷ l) (field-part s at w from 4 (omega arith))
    (words-part s at w (from + 4) n (omega arith) ∙ ap (λ (k : ℕ). words s k n) e)

-- a part is two parts in a row
part-add : (s : List ℕ) (at v w : ℕ) → part s at (v + w) ≡ part s at v ++ part s (at + v) w
unfolding part
part-add s at v w = take-add v w (drop at s) ∙ ap (λ (l : List ℕ). take v (drop at s) ++ take w l) (drop-drop v at s)

-- the bytes of numbers that were read are those that they were read from
quads-words : (s : List ℕ) (at n : ℕ) → AllBytes s → at + 4 * n ≤ length s → quads (words s at n) ≡ part s at (4 * n)
unfolding words quads part
quads-words s at zero b h = refl
quads-words s at (suc n) b h =
    let e : 4 + 4 * n ≡ 4 * suc n = omega arith in
    ap₂ (λ (x y : List ℕ). x ++ y) (digits-field s at 4 b (omega arith)) (quads-words s (at + 4) n b (omega arith))
    ∙ sym (part-add s at 4 (4 * n))
    ∙ ap (part s at) e

-- numbers are the same exactly if their bytes are
pub same-words : (s : List ℕ) (a b n : ℕ) → AllBytes s → a + 4 * n ≤ length s → b + 4 * n ≤ length s → same (part s a (4 * n)) (part s b (4 * n)) ≡ same (words s a n) (words s b n)
same-words s a b n h ha hb =
    alike (same (part s a (4 * n)) (part s b (4 * n))) (same (words s a n) (words s b n))
    (λ e. same-equal _ _ (sym (front a) ∙ ap (λ (l : List ℕ). words l 0 n) (same_true _ _ e) ∙ front b))
    (λ e. same-equal _ _ (sym (quads-words s a n h ha) ∙ ap quads (same_true _ _ e) ∙ quads-words s b n h hb))
  where
    front : (at : ℕ) → words (part s at (4 * n)) 0 n ≡ words s at n
    front at = words-part s at (4 * n) 0 n (omega arith) ∙ ap (λ (k : ℕ). words s k n) (add-zero at)
