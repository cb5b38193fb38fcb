-- Laws of the walk over a map list (specs/Walk.antt), and what line 4 finds from a place of the list on. Assumes nothing.
use Prim.Native.Nat.{ℕ, zero, suc, ◌+◌, ◌-◌, ◌≤◌, ◌<◌}
use mathlib.Core.Path.{◌≡◌, refl, sym, ap, ◌∙◌}
use mathlib.Core.List.{List, [], ◌∷◌}
use mathlib.Core.Bool.{true, false}
use native.Mathlib.Omega.{arith}
use borrow.Author.Tests.{eq-eqb, ne_eqb, eqb-true, eqb-false, leb-true, le-leb, lt-leb}
use lib.Dec.{eqb, leb}
use lib.ListN.{length, get_or, take, drop, length-drop}
use lib.Seq.{get_or-drop, drop-drop, take-length, take_all}
use Rattle.maps.specs.Walk.{Walked, short, maps, before, first_length, first_whole, walk_up_to, walk}
use Rattle.maps.specs.Told.{is_short}
use Rattle.fields.proofs.Tests.{both, together, by-test}

-- a first map that is whole: its length byte is not 0, and as many bytes are there
pub whole : (s : List ℕ) → first_whole s ≡ true → (1 ≤ first_length s) × (first_length s ≤ length s)
unfolding first_whole
whole s q =
    let r = (both (leb 2 (length s)) _ q).1 in
    let r2 = both (leb 1 (first_length s)) _ r in
    (leb-true _ _ r2.0, leb-true _ _ r2.1)

-- and the other way round
is_whole : (s : List ℕ) → 2 ≤ length s → 1 ≤ first_length s → first_length s ≤ length s → first_whole s ≡ true
unfolding first_whole
is_whole s h e l = together (le-leb _ _ h) (together (le-leb _ _ e) (le-leb _ _ l))

-- the walk of an empty list, with any count
walk-none-at : (n : ℕ) (s : List ℕ) → length s ≡ 0 → walk_up_to n s ≡ maps []
unfolding walk_up_to
walk-none-at zero s e = refl
walk-none-at (suc n) s e = simp (eq-eqb (length s) 0 e)

-- the walk of a list whose first map is not whole, and of one whose first map is, with any count
walk-short-at : (n : ℕ) (s : List ℕ) → (length s ≡ 0 → ⊥) → first_whole s ≡ false → walk_up_to (suc n) s ≡ short
unfolding walk_up_to
walk-short-at n s h f = simp (ne_eqb (length s) 0 h, f)

walk-next-at : (n : ℕ) (s : List ℕ) → (length s ≡ 0 → ⊥) → first_whole s ≡ true → walk_up_to (suc n) s ≡ before (take (first_length s) s) (walk_up_to n (drop (first_length s) s))
unfolding walk_up_to
walk-next-at n s h f = simp (ne_eqb (length s) 0 h, f)

-- one count is as good as another, where neither is below the length
count-enough : (n m : ℕ) (s : List ℕ) → length s ≤ n → length s ≤ m → walk_up_to n s ≡ walk_up_to m s
count-enough zero m s h k = walk-none-at zero s (omega arith) ∙ sym (walk-none-at m s (omega arith))
count-enough (suc n) zero s h k = walk-none-at (suc n) s (omega arith) ∙ sym (walk-none-at zero s (omega arith))
count-enough (suc n) (suc m) s h k =
    by-test (eqb (length s) 0)
    (λ e. walk-none-at (suc n) s (eqb-true _ _ e) ∙ sym (walk-none-at (suc m) s (eqb-true _ _ e)))
    λ e.
    by-test (first_whole s)
    (λ f.
    let w = whole s f in
    let l = length-drop (first_length s) s in
    walk-next-at n s (eqb-false _ _ e) f
    ∙ ap (before (take (first_length s) s)) (count-enough n m (drop (first_length s) s) (omega arith) (omega arith))
    ∙ sym (walk-next-at m s (eqb-false _ _ e) f))
    (λ f. walk-short-at n s (eqb-false _ _ e) f ∙ sym (walk-short-at m s (eqb-false _ _ e) f))

-- an empty list has no map
pub walk_none : (s : List ℕ) → length s ≡ 0 → walk s ≡ maps []
unfolding walk
walk_none s e = walk-none-at (length s) s e

-- where the first map is not whole the list is cut short
pub walk-short : (s : List ℕ) → 0 < length s → first_whole s ≡ false → walk s ≡ short
unfolding walk
walk-short s h f =
    count-enough (length s) (suc (length s)) s (omega arith) (omega arith) ∙ walk-short-at (length s) s (λ e. omega arith) f

-- else that map comes first, and what is left is walked the same way
pub walk-next : (s : List ℕ) → 0 < length s → first_whole s ≡ true → walk s ≡ before (take (first_length s) s) (walk (drop (first_length s) s))
unfolding walk
walk-next s h f =
    let w = whole s f in
    let l = length-drop (first_length s) s in
    count-enough (length s) (suc (length s)) s (omega arith) (omega arith)
    ∙ walk-next-at (length s) s (λ e. omega arith) f
    ∙ ap (before (take (first_length s) s)) (count-enough (length s) _ (drop (first_length s) s) (omega arith) (omega arith))

-- ---- the walk, taken apart

-- a list that is cut short is none of maps, and none is not some
no-maps : (l : List (List ℕ)) → short ≡ maps l → ⊥
no-maps l e = let z : ◌≡◌ {A = ℕ} 0 1 = cc in omega arith

not_some : (a : List ℕ) (l : List (List ℕ)) → maps [] ≡ maps (a ∷ l) → ⊥
not_some a l e = let z : ◌≡◌ {A = ℕ} 0 1 = cc in omega arith

-- a map before others: it is the first, and they are left
first-map : (m : List ℕ) (w : Walked) (a : List ℕ) (l : List (List ℕ)) → before m w ≡ maps (a ∷ l) → (m ≡ a) × (w ≡ maps l)
unfolding before
first-map m short a l e = absurd (no-maps (a ∷ l) e)
first-map m (maps ms) a l e = (cc, cc)

some-map : (m : List ℕ) (w : Walked) → before m w ≡ maps [] → ⊥
unfolding before
some-map m short e = no-maps [] e
some-map m (maps ms) e = not_some m ms (sym e)

-- a list of no map is empty
walked_none : (s : List ℕ) → walk s ≡ maps [] → length s ≡ 0
walked_none s e =
    by-test (eqb (length s) 0) (λ q. eqb-true _ _ q) λ q.
    let h = eqb-false (length s) 0 q in
    by-test (first_whole s)
    (λ f. absurd (some-map (take (first_length s) s) (walk (drop (first_length s) s)) (sym (walk-next s (omega arith) f) ∙ e)))
    (λ f. absurd (no-maps [] (sym (walk-short s (omega arith) f) ∙ e)))

-- a list of some maps begins with a whole one
pub walked-first : (s a : List ℕ) (l : List (List ℕ)) → walk s ≡ maps (a ∷ l) → (first_whole s ≡ true) × (take (first_length s) s ≡ a) × (walk (drop (first_length s) s) ≡ maps l)
walked-first s a l e =
    by-test (eqb (length s) 0)
    (λ q. absurd (not_some a l (sym (walk_none s (eqb-true _ _ q)) ∙ e)))
    λ q.
    let h = eqb-false (length s) 0 q in
    by-test (first_whole s)
    (λ f.
    let p = first-map (take (first_length s) s) (walk (drop (first_length s) s)) a l (sym (walk-next s (omega arith) f) ∙ e) in
    (f, p.0, p.1))
    (λ f. absurd (no-maps (a ∷ l) (sym (walk-short s (omega arith) f) ∙ e)))

-- a list of one map is that map, and its length byte says so
pub walked_one : (s a : List ℕ) → walk s ≡ maps (a ∷ []) → (s ≡ a) × (first_length s ≡ length s)
walked_one s a e =
    let p = walked-first s a [] e in
    let w = whole s p.0 in
    let n = walked_none (drop (first_length s) s) p.2 in
    let l = length-drop (first_length s) s in
    let q : first_length s ≡ length s = omega arith in
    (sym (take-length s) ∙ ap (λ (k : ℕ). take k s) (sym q) ∙ p.1, q)

-- a first map of n bytes, and the maps of what is left
pub walk_more : (s : List ℕ) (l : List (List ℕ)) (n : ℕ) → 2 ≤ length s → 1 ≤ n → n ≤ length s → first_length s ≡ n → walk (drop n s) ≡ maps l → walk s ≡ maps (take n s ∷ l)
unfolding before
walk_more s l n h k m f w =
    walk-next s (omega arith) (is_whole s h (omega arith) (omega arith))
    ∙ ap (λ (k : ℕ). before (take k s) (walk (drop k s))) f
    ∙ ap (before (take n s)) w

-- a list that its first map fills
pub walk-one : (s : List ℕ) → 2 ≤ length s → first_length s ≡ length s → walk s ≡ maps (s ∷ [])
walk-one s h f =
    walk_more s [] (length s) h (omega arith) (omega arith) f (walk_none (drop (length s) s) (simp length-drop (omega arith)))
    ∙ ap (λ (x : List ℕ). maps (x ∷ [])) (take-length s)

-- what a list has from a place on
pub rest_from : (s : List ℕ) (k : ℕ) → take (length s - k) (drop k s) ≡ drop k s
rest_from s k = take_all (length s - k) (drop k s) (simp length-drop (omega arith))

-- ---- line 4: the walk from a place of the list on

-- a map before others is not where the list is cut short
cut-before : (m : List ℕ) (w : Walked) → is_short (before m w) ≡ is_short w
unfolding is_short before
cut-before m short = refl
cut-before m (maps ms) = refl

-- the list from a place on
module _ (s : List ℕ) (at : ℕ) where
  length-left : length (drop at s) ≡ length s - at
  length-left = length-drop at s

  first-length : first_length (drop at s) ≡ get_or s (at + 1) 0
  unfolding first_length
  first-length = get_or-drop at s 1 0

  -- past the last map
  pub uncut-end : length s ≤ at → false ≡ is_short (walk (drop at s))
  unfolding is_short
  uncut-end h = sym (ap is_short (walk_none (drop at s) (rw length-left (omega arith))))

  cut : at < length s → first_whole (drop at s) ≡ false → true ≡ is_short (walk (drop at s))
  unfolding is_short
  cut h f = sym (ap is_short (walk-short (drop at s) (rw length-left (omega arith)) f))

  -- a map without its two bytes
  pub cut-head : at < length s → length s - at < 2 → true ≡ is_short (walk (drop at s))
  unfolding first_whole
  cut-head h l = cut h (simp (length-left, lt-leb 2 (length s - at) l))

  -- a map of length 0
  pub cut-none : 2 ≤ length s - at → get_or s (at + 1) 0 ≡ 0 → true ≡ is_short (walk (drop at s))
  unfolding first_whole
  cut-none h e =
      cut (omega arith)
      (simp (length-left, first-length, le-leb 2 (length s - at) h, lt-leb 1 (get_or s (at + 1) 0) (omega arith)))

  -- a map that goes on past the end
  pub cut-tail : 2 ≤ length s - at → 1 ≤ get_or s (at + 1) 0 → length s - at < get_or s (at + 1) 0 → true ≡ is_short (walk (drop at s))
  unfolding first_whole
  cut-tail h e l =
      cut (omega arith)
      (simp (length-left, first-length, le-leb 2 (length s - at) h, le-leb 1 (get_or s (at + 1) 0) e, lt-leb (get_or s (at + 1) 0) (length s - at) l))

  -- a whole map: the list is cut short where what is left is
  pub cut-next : 2 ≤ length s - at → 1 ≤ get_or s (at + 1) 0 → get_or s (at + 1) 0 ≤ length s - at → is_short (walk (drop (at + get_or s (at + 1) 0) s)) ≡ is_short (walk (drop at s))
  cut-next h e l =
      let d = drop at s in
      let n = length-left in
      let k = first-length in
      sym
      (ap is_short (walk-next d (omega arith) (is_whole d (omega arith) (omega arith) (omega arith)))
      ∙ cut-before (take (first_length d) d) (walk (drop (first_length d) d))
      ∙ ap (λ (j : ℕ). is_short (walk (drop j d))) k
      ∙ ap (λ (x : List ℕ). is_short (walk x)) (drop-drop (get_or s (at + 1) 0) at s))
