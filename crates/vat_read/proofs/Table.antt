-- Laws of the table in a VAT file: its words one after the other and run by run, its tests, and a lent table that is filled with its entries.
-- Assumes nothing.
use Prim.Native.Nat.{ℕ, zero, suc, ◌+◌, ◌-◌, ◌*◌, ◌/◌, ◌%◌, ◌≤◌, ◌<◌}
use mathlib.Core.Path.{◌≡◌, refl, sym, ap, ap₂, ◌∙◌}
use mathlib.Core.Bool.{Bool, true, false, ◌&&◌, and_assoc, and-true as and_right, and-false}
use mathlib.Core.List.{List, [], ◌∷◌, ◌++◌, append_assoc}
use native.Mathlib.Omega.{arith}
use lib.Dec.{eqb, leb}
use lib.ListN.{length, get_or, drop, length-append}
use lib.Seq.{take_at, drop-append-add, drop-drop}
use borrow.Author.Tests.{eq-eqb, ne_eqb, lt-ltb, le-ltb}
use Rattle.fields.specs.Bytes.{part, splice}
use Rattle.fields.specs.Number.{field, words}
use Rattle.fields.specs.Regid.{has_regid}
use Rattle.std.specs.Simd.{first_chunks}
use Rattle.fields.proofs.Laws.{field-part, field-take, field-drop}
use Rattle.model.specs.Vat.{vat_name, none, file_fits, count_of, entries_of, previous_of, below_or_none, all_below, table_fits}
use Rattle.model.specs.Once.{filled_from}
use Rattle.vat_read.specs.File.{Together}

-- ---- words

-- there are as many as asked for
pub length-words : (f : List ℕ) (at n : ℕ) → length (words f at n) ≡ n
unfolding words
length-words f at zero = refl
length-words f at (suc n) = ap suc (length-words f (at + 4) n)

-- the first of those from i on
words-from : (f : List ℕ) (n i : ℕ) → i < n → words f (4 * i) (n - i) ≡ field f (4 * i) 4 ∷ words f (4 * (i + 1)) (n - (i + 1))
unfolding words
words-from f n i h =
    let e : n - i ≡ suc (n - (i + 1)) = omega arith in
    let p : 4 * i + 4 ≡ 4 * (i + 1) = omega arith in
    rw (e, p)

-- some, and those behind them
words-add : (f : List ℕ) (at n m : ℕ) → words f at (n + m) ≡ words f at n ++ words f (at + 4 * n) m
unfolding words
words-add f at zero m =
    let e : zero + m ≡ m = omega arith in
    let p : at ≡ at + 4 * zero = omega arith in
    ap (words f at) e ∙ ap (λ (x : ℕ). words f x m) p
words-add f at (suc n) m =
    let e : suc n + m ≡ suc (n + m) = omega arith in
    let p : at + 4 + 4 * n ≡ at + 4 * suc n = omega arith in
    ap (words f at) e
    ∙ ap (λ (l : List ℕ). field f at 4 ∷ l)
    (words-add f (at + 4) n m ∙ ap (λ (x : ℕ). words f (at + 4) n ++ words f x m) p)

-- those of a part, from one of its bytes on
words_inside : (f : List ℕ) (at w from n : ℕ) → from + 4 * n ≤ w → words (part f at w) from n ≡ words f (at + from) n
unfolding words
words_inside f at w from zero h = refl
words_inside f at w from (suc n) h =
    let e : at + (from + 4) ≡ at + from + 4 = omega arith in
    ap₂ (λ (x : ℕ) (l : List ℕ). x ∷ l) (field-part f at w from 4 (omega arith))
    (words_inside f at w (from + 4) n (omega arith) ∙ ap (λ (x : ℕ). words f x n) e)

-- from its start
pub words-part : (f : List ℕ) (at w n : ℕ) → 4 * n ≤ w → words (part f at w) 0 n ≡ words f at n
words-part f at w n h = let e : at + 0 ≡ at = omega arith in words_inside f at w 0 n (omega arith) ∙ ap (λ (x : ℕ). words f x n) e

-- the first four bytes of those from word i on
pub chunk_word : (b : List ℕ) (n i : ℕ) → i < n → field (get_or (first_chunks 4 n b) i []) 0 4 ≡ field b (4 * i) 4
chunk_word b zero i h = absurd (omega arith)
chunk_word b (suc n) zero h = field-take b 4 0 4 (omega arith)
chunk_word b (suc n) (suc i) h =
    let e : 4 + 4 * i ≡ 4 * suc i = omega arith in
    chunk_word (drop 4 b) n i (omega arith) ∙ field-drop b 4 (4 * i) 4 ∙ ap (λ (at : ℕ). field b at 4) e

-- ---- words that stand together

module _ (f r : List ℕ) (v n : ℕ) (t : Together f v n r) where
  -- they are the file's
  run-same : words r 0 (length r / 4) ≡ words f (4 * v) (length r / 4)
  run-same =
      let w = length r in
      ap (λ (x : List ℕ). words x 0 (w / 4)) t.same ∙ words-part f (4 * v) w (w / 4) (omega arith)

  -- all that are left are these, and those behind them
  run-left : words f (4 * v) (n - v) ≡ words r 0 (length r / 4) ++ words f (4 * (v + length r / 4)) (n - (v + length r / 4))
  run-left =
      let m = length r / 4 in
      let e : n - v ≡ m + (n - (v + m)) = omega (arith, t.up_to) in
      let p : 4 * v + 4 * m ≡ 4 * (v + m) = omega arith in
      ap (words f (4 * v)) e
      ∙ words-add f (4 * v) m (n - (v + m))
      ∙ ap₂ (λ (l : List ℕ) (x : ℕ). l ++ words f x (n - (v + m))) (sym run-same) p

  -- those before them and these
  run-before : words f 0 v ++ words r 0 (length r / 4) ≡ words f 0 (v + length r / 4)
  run-before =
      let m = length r / 4 in
      let p : 4 * v ≡ 0 + 4 * v = omega arith in
      ap (λ (l : List ℕ). words f 0 v ++ l) (run-same ∙ ap (λ (x : ℕ). words f x m) p) ∙ sym (words-add f 0 v m)

-- ---- entries tested

-- those of two lists
below-append : (k : ℕ) (a b : List ℕ) → all_below k (a ++ b) ≡ all_below k a && all_below k b
unfolding all_below
below-append k [] b = refl
below-append k (x ∷ a) b = ap (λ (y : Bool). below_or_none k x && y) (below-append k a b) ∙ sym (and_assoc (below_or_none k x) (all_below k a) (all_below k b))

-- one after the other, where `all` says that none before was too high
pub below-first : (k : ℕ) (f : List ℕ) (n : ℕ) → true && all_below k (words f (4 * 0) (n - 0)) ≡ all_below k (words f 0 n)
below-first k f n = let e : n - 0 ≡ n = omega arith in ap (λ (m : ℕ). all_below k (words f 0 m)) e

module _ (k : ℕ) (f : List ℕ) (n i : ℕ) (all : Bool) {whole : Bool} (w : all && all_below k (words f (4 * i) (n - i)) ≡ whole) where
  -- none is left
  pub below_last : n ≤ i → all ≡ whole
  unfolding words all_below
  below_last h = let e : n - i ≡ 0 = omega arith in sym (and_right all) ∙ rw e at w

  module _ (h : i < n) (x : ℕ) (e : x ≡ field f (4 * i) 4) (all' : Bool) where
    -- the next, and those behind it
    below_one : all && (below_or_none k x && all_below k (words f (4 * (i + 1)) (n - (i + 1)))) ≡ whole
    unfolding all_below
    below_one = rw (words-from f n i h, ← e) at w

    -- the next is used and not below
    pub below-stop : (x ≡ 0xffffffff → ⊥) → k ≤ x → all' ≡ false → all' && all_below k (words f (4 * (i + 1)) (n - (i + 1))) ≡ whole
    unfolding below_or_none none
    below-stop u q g =
        let z : below_or_none k x ≡ false = rw (ne_eqb x 0xffffffff u, le-ltb x k q) in
        rw g (sym (and-false all) ∙ rw z at below_one)

    below-go : below_or_none k x ≡ true → all' ≡ all → all' && all_below k (words f (4 * (i + 1)) (n - (i + 1))) ≡ whole
    below-go z g = rw g (rw z at below_one)

    -- the next is unused
    pub below-unused : x ≡ 0xffffffff → all' ≡ all → all' && all_below k (words f (4 * (i + 1)) (n - (i + 1))) ≡ whole
    unfolding below_or_none none
    below-unused u = below-go (rw (eq-eqb x 0xffffffff u))

    -- the next is below
    pub below_next : (x ≡ 0xffffffff → ⊥) → x < k → all' ≡ all → all' && all_below k (words f (4 * (i + 1)) (n - (i + 1))) ≡ whole
    unfolding below_or_none none
    below_next u q = below-go (rw (ne_eqb x 0xffffffff u, lt-ltb x k q))

-- run by run
pub below_end : (k : ℕ) (f : List ℕ) (n v : ℕ) → n ≤ v → true ≡ all_below k (words f (4 * v) (n - v))
unfolding words all_below
below_end k f n v h = let e : n - v ≡ 0 = omega arith in sym (rw e)

module _ (k : ℕ) (f r : List ℕ) (v n : ℕ) (t : Together f v n r) (fit : Bool) (e : fit ≡ all_below k (words r 0 (length r / 4))) where
  run-below : fit && all_below k (words f (4 * (v + length r / 4)) (n - (v + length r / 4))) ≡ all_below k (words f (4 * v) (n - v))
  run-below =
      let rest = words f (4 * (v + length r / 4)) (n - (v + length r / 4)) in
      ap (λ (x : Bool). x && all_below k rest) e
      ∙ sym (below-append k (words r 0 (length r / 4)) rest)
      ∙ sym (ap (all_below k) (run-left f r v n t))

  -- one of the next is too high
  pub run_over : fit ≡ false → false ≡ all_below k (words f (4 * v) (n - v))
  run_over g = rw g at run-below

  -- the next are all below, or none
  pub run_fits : fit ≡ true → all_below k (words f (4 * (v + length r / 4)) (n - (v + length r / 4))) ≡ all_below k (words f (4 * v) (n - v))
  run_fits g = rw g at run-below

-- ---- the tests of a file of n bytes, in their order

pub table_tests : (k : ℕ) (f : List ℕ) (n : ℕ) → length f ≡ n → table_fits k f ≡ leb 36 n && (eqb ((n - 36) % 4) 0 && (has_regid f (n - 36) vat_name && (below_or_none k (field f (n - 4) 4) && all_below k (words f 0 ((n - 36) / 4)))))
unfolding table_fits file_fits previous_of entries_of count_of
table_tests k f n e =
    rw e
    (and_assoc (leb 36 n) _ _ ∙ ap (λ (x : Bool). leb 36 n && x) (and_assoc (eqb ((n - 36) % 4) 0) _ _))

-- the previous ICB is the last word of the file
pub previous_word : (k : ℕ) (f : List ℕ) (n : ℕ) (r : Bool) → 36 ≤ n → (n - 36) % 4 ≡ 0 → r ≡ all_below k (words f (4 * (n / 4 - 1)) (n / 4 - (n / 4 - 1))) → r ≡ below_or_none k (field f (n - 4) 4)
unfolding words all_below
previous_word k f n r h m q =
    let e : n / 4 - (n / 4 - 1) ≡ suc zero = omega arith in
    let p : 4 * (n / 4 - 1) ≡ n - 4 = omega arith in
    (rw (e, p) at q) ∙ and_right (below_or_none k (field f (n - 4) 4))

-- ---- a lent table filled from its start

-- nothing is filled yet
pub filled_none : (f t : List ℕ) → t ≡ filled_from (words f 0 0) t
unfolding filled_from words
filled_none f t = refl

-- more behind the others
filled_more : (l b t : List ℕ) → splice (filled_from l t) (length l) b ≡ filled_from (l ++ b) t
unfolding filled_from splice
filled_more l b t =
    let n = length l in
    ap₂ (λ (x y : List ℕ). x ++ (b ++ y)) (take_at l (drop n t) n refl) (drop-append-add l (drop n t) (length b) ∙ drop-drop (length b) n t)
    ∙ sym (append_assoc l b (drop (n + length b) t))
    ∙ ap (λ (m : ℕ). (l ++ b) ++ drop m t) (sym (length-append l b))

-- the words of a run more
pub filled_run : (f r t : List ℕ) (v n : ℕ) → Together f v n r → splice (filled_from (words f 0 v) t) v (words r 0 (length r / 4)) ≡ filled_from (words f 0 (v + length r / 4)) t
filled_run f r t v n g =
    ap (λ (m : ℕ). splice (filled_from (words f 0 v) t) m (words r 0 (length r / 4))) (sym (length-words f 0 v))
    ∙ filled_more (words f 0 v) (words r 0 (length r / 4)) t
    ∙ ap (λ (l : List ℕ). filled_from l t) (run-before f r v n g)
