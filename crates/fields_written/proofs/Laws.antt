-- Laws of numbers of 4 bytes written in a row. Assumes nothing.
use Prim.Native.Nat.{ℕ, ◌+◌, ◌*◌, ◌≤◌, ◌<◌}
use mathlib.Core.Path.{◌≡◌, sym, ap, ◌∙◌}
use mathlib.Core.List.{List, [], ◌∷◌, ◌++◌, append-nil}
use native.Mathlib.Omega.{arith}
use native.Mathlib.Nat.{add-zero}
use native.Mathlib.Numerals.{add-one}
use lib.ListN.{length, get_or, take, drop, take-append-drop}
use lib.Seq.{take-suc, length-take-le}
use Rattle.fields.specs.Bytes.{splice}
use Rattle.fields.specs.Number.{digits, quads}
use Rattle.fields.proofs.Laws.{splice-append}
use Rattle.fields.proofs.Words.{length-quads, quads-append}

-- none written changes nothing
pub writing-none : (s : List ℕ) (at : ℕ) → s ≡ splice s at (quads [])
unfolding splice quads
writing-none s at = sym (ap (λ (k : ℕ). take at s ++ drop k s) (add-zero at) ∙ take-append-drop at s)

-- some numbers, and others straight after them
pub writing-on : (s : List ℕ) (at to : ℕ) (a b : List ℕ) → to ≡ at + 4 * length a → at + 4 * (length a + length b) ≤ length s → splice (splice s at (quads a)) to (quads b) ≡ splice s at (quads (a ++ b))
writing-on s at to a b e h =
    let la = length-quads a in
    let lb = length-quads b in
    let k : to ≡ at + length (quads a) = omega arith in
    ap (λ (j : ℕ). splice (splice s at (quads a)) j (quads b)) k
    ∙ sym (splice-append s at (quads a) (quads b) (omega arith))
    ∙ ap (splice s at) (sym (quads-append a b))

-- one number more
pub writing-next : (s : List ℕ) (at : ℕ) (t : List ℕ) (j : ℕ) → j < length t → at + 4 * length t ≤ length s → splice (splice s at (quads (take j t))) (at + 4 * j) (digits 4 (get_or t j 0)) ≡ splice s at (quads (take (j + 1) t))
unfolding quads
writing-next s at t j h l =
    let k = length-take-le j t (omega arith) in
    ap (splice (splice s at (quads (take j t))) (at + 4 * j)) (sym (append-nil (digits 4 (get_or t j 0))))
    ∙ writing-on s at (at + 4 * j) (take j t) (get_or t j 0 ∷ []) (omega arith) (omega arith)
    ∙ ap (λ (x : List ℕ). splice s at (quads x)) (sym (take-suc t j 0 h) ∙ ap (λ (n : ℕ). take n t) (sym (add-one j)))
