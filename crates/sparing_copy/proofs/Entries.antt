-- Laws of the entries of a table by their number: those of a list of numbers, of a sector and of a list of spares. Assumes nothing.
use Rattle.std.proofs.Common.{◌≡◌, ℕ, zero, suc, ◌+◌, ◌-◌, ◌*◌, ◌<◌, ◌≤◌, true, not, List, [], ◌∷◌, length, get_or, take, drop, sym, refl, ap, ◌∙◌, ap₂, add-one, arith, drop_of_length-le, drop-cons, ne_eqb}
use Rattle.std.proofs.lemmas.Grind.{common_steps}
use lib.Seq.{drop-nil}
use Rattle.fields.specs.Number.{field, words}
use Rattle.fields.proofs.Laws.{AllBytes, field_below}
use Rattle.maps.specs.Kinds.{absent}
use Rattle.model.specs.Vat.{none}
use Rattle.model.specs.Sparing.{Entry, entries, mapped_of, count_in, table_in}
use Rattle.model.specs.Both.{spare_entries}
use Rattle.model.proofs.Basics.{both}
use Rattle.model.proofs.OnceOpen.{length-words}
use Rattle.sparing_copy.specs.Entries.{entries_in, entry_in}
use Rattle.sparing_copy.proofs.Words.{get_or-words}

-- ---- two numbers an entry

-- the entries from one on are those of the numbers from its original on
pub entries-drop : (i : ℕ) (l : List ℕ) → drop i (entries l) ≡ entries (drop (2 * i) l)
unfolding entries
entries-drop zero l = refl
entries-drop (suc i) l =
    let e : 2 * suc i ≡ suc (suc (2 * i)) = omega arith in
    go l (entries-drop i) ∙ ap (λ (k : ℕ). entries (drop k l)) (sym e)
  where
    go : (l : List ℕ) → ((r : List ℕ) → drop i (entries r) ≡ entries (drop (2 * i) r)) → drop (suc i) (entries l) ≡ entries (drop (suc (suc (2 * i))) l)
    go [] f = refl
    go (o ∷ []) f = sym (ap entries (drop-nil (suc (2 * i))))
    go (o ∷ m ∷ l) f = f l

-- an entry, and those after it
pub entries-step : (l : List ℕ) (i : ℕ) → 2 * i + 2 ≤ length l → drop i (entries l) ≡ record { original = get_or l (2 * i) 0; mapped = get_or l (2 * i + 1) 0 } ∷ drop (i + 1) (entries l)
unfolding entries
entries-step l i h =
    let two : drop (2 * i) l ≡ get_or l (2 * i) 0 ∷ get_or l (2 * i + 1) 0 ∷ drop (2 * (i + 1)) l =
    drop-cons l (2 * i) 0 (omega arith)
    ∙ ap (λ (k : ℕ). get_or l (2 * i) 0 ∷ drop k l) (sym (add-one (2 * i)))
    ∙ ap (λ (x : List ℕ). get_or l (2 * i) 0 ∷ x) (drop-cons l (2 * i + 1) 0 (omega arith))
    ∙ (let e : suc (2 * i + 1) ≡ 2 * (i + 1) = omega arith in ap (λ (k : ℕ). get_or l (2 * i) 0 ∷ get_or l (2 * i + 1) 0 ∷ drop k l) e) in
    entries-drop i l
    ∙ ap entries two
    ∙ ap (λ (x : List Entry). record { original = get_or l (2 * i) 0; mapped = get_or l (2 * i + 1) 0 } ∷ x) (sym (entries-drop (i + 1) l))

-- none past the last
pub entries-end : (l : List ℕ) (i : ℕ) → length l ≤ 2 * i → drop i (entries l) ≡ []
unfolding entries
entries-end l i h = entries-drop i l ∙ ap entries (drop_of_length-le l {i = 2 * i} h)

-- ---- the entries of a sector

module _ (b : List ℕ) (n i : ℕ) where
  -- an entry, and those after it
  pub sector-step : i < n → drop i (entries_in b n) ≡ entry_in b i ∷ drop (i + 1) (entries_in b n)
  unfolding entries_in
  sector-step h =
      let w : List ℕ = words b 56 (2 * n) in
      let o : 56 + 4 * (2 * i) ≡ 56 + 8 * i = omega arith in
      let m : 56 + 4 * (2 * i + 1) ≡ 56 + 8 * i + 4 = omega arith in
      entries-step w i (omega (arith, length-words b 56 (2 * n)))
      ∙ ap₂ (λ (x y : ℕ). record { original = x; mapped = y } ∷ drop (i + 1) (entries w))
      (get_or-words b 56 (2 * n) (2 * i) (omega arith) ∙ ap (λ (k : ℕ). field b k 4) o)
      (get_or-words b 56 (2 * n) (2 * i + 1) (omega arith) ∙ ap (λ (k : ℕ). field b k 4) m)

  -- none past the last
  pub sector-end : n ≤ i → drop i (entries_in b n) ≡ []
  unfolding entries_in
  sector-end h = entries-end (words b 56 (2 * n)) i (omega (arith, length-words b 56 (2 * n)))

-- no mapped start is past 32 bits
words-below : (b : List ℕ) (at n m : ℕ) → AllBytes b → at + 8 * n ≤ length b → 4294967296 ≤ m → absent m (mapped_of (entries (words b at (2 * n)))) ≡ true
unfolding absent mapped_of entries words
words-below b at zero m a h l = refl
words-below b at (suc n) m a h l =
    let e : 2 * suc n ≡ suc (suc (2 * n)) = omega arith in
    rw e
    (both (ap not (ne_eqb m (field b (at + 4) 4) (omega (arith, field_below b (at + 4) 4 a (omega arith)))))
    (words-below b (at + 4 + 4) n m a (omega arith) l))

pub sector-below : (b : List ℕ) (n m : ℕ) → AllBytes b → 56 + 8 * n ≤ length b → 4294967296 ≤ m → absent m (mapped_of (entries_in b n)) ≡ true
unfolding entries_in
sector-below b n m a h l = words-below b 56 n m a h l

-- all that a sector counts are its table's
pub sector-table : (b : List ℕ) → entries_in b (count_in b) ≡ entries (table_in b)
unfolding entries_in table_in
sector-table b = refl

-- ---- the entries of a list of spares, all free

-- as many as there are spares
pub length-spares : (s : List ℕ) → length (spare_entries s) ≡ length s
unfolding spare_entries
length-spares [] = refl
length-spares (m ∷ s) = ap suc (length-spares s)

spare-next : (s : List ℕ) (i : ℕ) → i < length s → drop i (spare_entries s) ≡ record { original = none; mapped = get_or s i 0 } ∷ drop (suc i) (spare_entries s)
unfolding spare_entries
spare-next [] i h = absurd (omega arith)
spare-next (m ∷ s) zero h = refl
spare-next (m ∷ s) (suc i) h = spare-next s i (omega arith)

-- an entry, and those after it
pub spare-step : (s : List ℕ) (i : ℕ) → i < length s → drop i (spare_entries s) ≡ record { original = none; mapped = get_or s i 0 } ∷ drop (i + 1) (spare_entries s)
spare-step s i h = spare-next s i h ∙ ap (λ (k : ℕ). record { original = none; mapped = get_or s i 0 } ∷ drop k (spare_entries s)) (sym (add-one i))

-- none past the last
pub spare-end : (s : List ℕ) (i : ℕ) → length s ≤ i → drop i (spare_entries s) ≡ []
spare-end s i h = drop_of_length-le (spare_entries s) {i = i} (omega (arith, length-spares s))

spare-drop : (s : List ℕ) (i : ℕ) → spare_entries (drop i s) ≡ drop i (spare_entries s)
unfolding spare_entries
spare-drop s zero = refl
spare-drop [] (suc i) = refl
spare-drop (m ∷ s) (suc i) = spare-drop s i

-- those of the spares from one on
pub spare-tail : (s : List ℕ) (i : ℕ) → spare_entries (take (length s - i) (drop i s)) ≡ drop i (spare_entries s)
spare-tail s i =
    let e : take (length s - i) (drop i s) ≡ drop i s = grind (arith, common_steps) in
    ap spare_entries e ∙ spare-drop s i
