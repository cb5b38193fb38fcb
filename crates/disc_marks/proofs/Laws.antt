-- Laws of marks, for the loops over them. Assumes nothing.
use Prim.Native.Nat.{ℕ, zero, suc, ◌+◌, ◌-◌, ◌*◌, ◌≤◌, ◌<◌, max}
use mathlib.Core.Path.{◌≡◌, refl, sym, ap, ap₂, ◌∙◌}
use mathlib.Core.Logic.{◌≢◌}
use mathlib.Core.Bool.{Bool, true, false, ◌&&◌, not}
use mathlib.Core.List.{List, [], ◌∷◌, ◌++◌}
use native.Mathlib.Omega.{arith}
use native.Mathlib.Numerals.{add-one}
use borrow.Author.Tests.{eq-eqb, ne_eqb}
use lib.Dec.{eqb, leb}
use lib.ListN.{length, get_or, set, take, drop, replicate, length-take, length-drop, length-append, length-replicate, get_or-append, get_or-replicate, drop_of_length-le}
use lib.Seq.{drop-cons, get_or-take, get_or-drop, drop-append_seam, ext_get_or, take_all}
use Rattle.std.proofs.lemmas.List.{replicate-append-replicate, take-append-drop, append_assoc, drop-drop}
use Rattle.std.proofs.lemmas.List.Recursion.{max_least}
use Rattle.std.proofs.lemmas.Bool.Decides.{nat_tests}
use Rattle.std.specs.List.{list_all}
use Rattle.std.specs.Simd.{first_chunks}
use Rattle.model.specs.Disc.{Disc, recorded, recorded_run, mark, nwa, known}
use Rattle.model.proofs.Basics.{by-eq}
use Rattle.model.proofs.Sectors.{nwa-most, nwa-blank, nwa-last, nwa-is}
use Rattle.disc_marks.specs.Marks.{highest_of}

-- ---- the highest mark

-- the highest of the marks from i on is mark i or the highest of those after it
pub highest_next : (m : List ℕ) (i : ℕ) → i < length m → highest_of (drop i m) ≡ max (get_or m i 0) (highest_of (drop (i + 1) m))
unfolding highest_of
highest_next m i h = rw (add-one, drop-cons m i 0)

-- past the last there is none
pub highest_end : (m : List ℕ) (i : ℕ) → length m ≤ i → highest_of (drop i m) ≡ 0
unfolding highest_of
highest_end m i h = ap highest_of (drop_of_length-le m {i = i} h)

-- no mark is above the highest,
pub highest-above : (m : List ℕ) (i : ℕ) → get_or m i 0 ≤ highest_of m
unfolding highest_of
highest-above [] i = omega arith
highest-above (x ∷ m) zero = omega arith
highest-above (x ∷ m) (suc i) = omega (arith, highest-above m i)

-- which is at most what each mark is at most
pub highest-most : (m : List ℕ) (b : ℕ) → ((i : ℕ) → i < length m → get_or m i 0 ≤ b) → highest_of m ≤ b
unfolding highest_of
highest-most m b h = max_least highest_of (λ x. x) refl (λ _ _. refl) m 0 b h

-- a mark that is raised
pub highest_raised : (m : List ℕ) (i v : ℕ) → i < length m → highest_of (set m i (max (get_or m i 0) v)) ≡ max (highest_of m) v
unfolding highest_of
highest_raised [] i v h = absurd (omega arith)
highest_raised (x ∷ m) zero v h = omega arith
highest_raised (x ∷ m) (suc i) v h = omega (arith, highest_raised m i v (omega arith))

-- the highest of all is that of the first k or that of the rest
pub highest-split : (m : List ℕ) (k : ℕ) → highest_of m ≡ max (highest_of (take k m)) (highest_of (drop k m))
unfolding highest_of
highest-split m zero = omega arith
highest-split [] (suc k) = refl
highest-split (x ∷ m) (suc k) = omega (arith, highest-split m k)

-- of chunks of n marks, number i
chunk-at : (n k : ℕ) (m : List ℕ) (i : ℕ) → i < k → get_or (first_chunks n k m) i [] ≡ take n (drop (i * n) m)
chunk-at n zero m i h = absurd (omega arith)
chunk-at n (suc k) m zero h = let e : 0 ≡ 0 * n = omega arith in ap (λ (x : ℕ). take n (drop x m)) e
chunk-at n (suc k) m (suc i) h =
    let e : n + i * n ≡ suc i * n = omega arith in
    chunk-at n k (drop n m) i (omega arith) ∙ ap (take n) (drop-drop (i * n) n m ∙ ap (λ (x : ℕ). drop x m) e)

-- the highest of the marks from chunk i on is that of the chunk or the highest of those after it
pub highest_chunk : (n k : ℕ) (m : List ℕ) (i : ℕ) → i < k → highest_of (drop (i * n) m) ≡ max (highest_of (get_or (first_chunks n k m) i [])) (highest_of (drop ((i + 1) * n) m))
highest_chunk n k m i h =
    let e : i * n + n ≡ (i + 1) * n = omega arith in
    let rest = ap highest_of (drop-drop n (i * n) m ∙ ap (λ (x : ℕ). drop x m) e) in
    let this = ap highest_of (chunk-at n k m i h) in
    omega (arith, highest-split (drop (i * n) m) n, rest, this)

-- the larger of two numbers is at most 2 exactly if both are
larger-test : (x y : ℕ) → leb (max x y) 2 ≡ leb x 2 && leb y 2
larger-test x y = grind (arith, nat_tests)

-- no mark exceeds 2 exactly if the highest does not
pub highest_known : (m : List ℕ) → leb (highest_of m) 2 ≡ known m
unfolding highest_of known
highest_known [] = refl
highest_known (x ∷ m) = larger-test x (highest_of m) ∙ ap (λ (t : Bool). leb x 2 && t) (highest_known m)

-- ---- parts that are lent

-- n marks from p on, as they are lent
abbrev pub lent : List ℕ → ℕ → ℕ → List ℕ
lent m p n = take n (take (length m - p) (drop p m))

pub lent-is : (m : List ℕ) (p n : ℕ) → p + n ≤ length m → lent m p n ≡ take n (drop p m)
lent-is m p n h = ap (take n) (take_all (length m - p) (drop p m) (simp length-drop (omega arith)))

-- ---- recorded sectors

-- n sectors from p on are recorded just if each of their marks is 1
recorded_marks : (d : Disc) (p n : ℕ) → p + n ≤ length d.marks → recorded_run d p n ≡ list_all (λ m. eqb m 1) (take n (drop p d.marks))
unfolding recorded_run recorded mark
recorded_marks d p zero h = refl
recorded_marks d p (suc n) h =
    let lt : p < length d.marks = omega arith in
    rw (add-one, drop-cons d.marks p 0) (ap (λ (x : Bool). eqb (get_or d.marks p 0) 1 && x) (recorded_marks d (suc p) n (omega arith)))

pub recorded_lent : (d : Disc) (p n : ℕ) → p + n ≤ length d.marks → recorded_run d p n ≡ list_all (λ m. eqb m 1) (lent d.marks p n)
recorded_lent d p n h = recorded_marks d p n h ∙ ap (list_all (λ m. eqb m 1)) (sym (lent-is d.marks p n h))

-- ---- NWA

-- n blank marks
abbrev pub blanks : ℕ → List ℕ
blanks n = replicate n 0

-- marks the highest of which is 0 are blank
highest-zeros : (n : ℕ) → highest_of (blanks n) ≡ 0
highest-zeros n = omega (arith, highest-most (blanks n) 0 each)
  where
    each : (i : ℕ) → i < length (blanks n) → get_or (blanks n) i 0 ≤ 0
    each i h = omega (arith, get_or-replicate {A = ℕ} n i 0 0 (omega (arith, length-replicate {A = ℕ} n 0)))

all-zeros : (m : List ℕ) → highest_of m ≡ 0 → m ≡ blanks (length m)
all-zeros m z = ext_get_or 0 m (blanks (length m)) (sym (length-replicate {A = ℕ} (length m) 0)) each
  where
    each : (i : ℕ) → i < length m → get_or m i 0 ≡ get_or (blanks (length m)) i 0
    each i h = omega (arith, highest-above m i, get_or-replicate {A = ℕ} (length m) i 0 0 h)

-- the marks m are those of x, and blank ones
abbrev pub Blank_after : List ℕ → List ℕ → Type 0
Blank_after x m = x ++ blanks (length m - length x) ≡ m

-- blank marks twice
twice : (y : List ℕ) (a b n : ℕ) → n ≡ b + a → y ++ blanks n ≡ (y ++ blanks b) ++ blanks a
twice y a b n e = rw (e, ← replicate-append-replicate {A = ℕ} b a 0, append_assoc)

-- x is y and blank ones too
pub blank-after : (m x y : List ℕ) → Blank_after x m → Blank_after y x → Blank_after y m
blank-after m x y h g =
    let a : ℕ = length m - length x in
    let b : ℕ = length x - length y in
    let lm : length m ≡ length x + a = sym (ap length h) ∙ simp (length-append, length-replicate) in
    let lx : length x ≡ length y + b = sym (ap length g) ∙ simp (length-append, length-replicate) in
    twice y a b (length m - length y) (omega arith) ∙ ap (λ (z : List ℕ). z ++ blanks a) g ∙ h

-- a step down over n marks none of which is above 0
pub blank_below : (m x y z : List ℕ) (n : ℕ) → Blank_after x m → y ≡ take n x → z ≡ drop n x → highest_of z ≡ 0 → Blank_after y m
blank_below m x y z n h ey ez q = blank-after m x y h (ap (λ (w : List ℕ). y ++ w) (sym f) ∙ e)
  where
    e : y ++ z ≡ x
    e = ap₂ (λ (u v : List ℕ). u ++ v) ey ez ∙ take-append-drop n x

    f : z ≡ blanks (length x - length y)
    f =
        let long : length x ≡ length y + length z = sym (ap length e) ∙ length-append y z in
        let k : length z ≡ length x - length y = omega arith in
        all-zeros z q ∙ ap (λ (w : ℕ). blanks w) k

-- mark k of the l that are lent from s on
lent-at : (m : List ℕ) (s l k : ℕ) → s + l ≤ length m → k < l → get_or (lent m s l) k 0 ≡ get_or m (s + k) 0
lent-at m s l k h lt = ap (λ (x : List ℕ). get_or x k 0) (lent-is m s l h) ∙ get_or-take l (drop s m) k 0 lt ∙ get_or-drop s m k 0

pub length-lent : (m : List ℕ) (s l : ℕ) → s + l ≤ length m → length (lent m s l) ≡ l
length-lent m s l h = ap length (lent-is m s l h) ∙ simp (length-take, length-drop) (omega arith)

-- block n of the partition is NWA if all is blank from there on, and the sector below is not
pub next-is : (d : Disc) (s l n : ℕ) → s + l ≤ length d.marks → n ≤ l → highest_of (drop n (lent d.marks s l)) ≡ 0 → (0 < n → get_or (lent d.marks s l) (n - 1) 0 ≢ 0) → nwa d s l ≡ n
unfolding mark
next-is d s l n h le z used = nwa-is d s l n le blank last
  where
    blank : (k : ℕ) → n ≤ k → k < l → get_or d.marks (s + k) 0 ≡ 0
    blank k lo hi =
        let at : n + (k - n) ≡ k = omega arith in
        let there = ap (λ (x : ℕ). get_or (lent d.marks s l) x 0) at in
        omega (arith, highest-above (drop n (lent d.marks s l)) (k - n), get_or-drop n (lent d.marks s l) (k - n) 0, there, lent-at d.marks s l k h hi)

    last : 0 < n → get_or d.marks (s + (n - 1)) 0 ≢ 0
    last p e = used p (lent-at d.marks s l (n - 1) h (omega arith) ∙ e)

-- it is one past the marks that are left where the blank ones at the end are taken away
pub next-left : (d : Disc) (s l : ℕ) (x : List ℕ) → s + l ≤ length d.marks → Blank_after x (lent d.marks s l) → (1 ≤ length x → highest_of (drop (length x - 1) x) ≢ 0) → length x ≡ nwa d s l
next-left d s l x h b used = sym (next-is d s l (length x) h le none last)
  where
    m : List ℕ
    m = lent d.marks s l

    rest : List ℕ
    rest = blanks (length m - length x)

    le : length x ≤ l
    le = omega (arith, sym (ap length b) ∙ length-append x rest, length-lent d.marks s l h)

    none : highest_of (drop (length x) m) ≡ 0
    none = ap (λ (y : List ℕ). highest_of (drop (length x) y)) (sym b) ∙ ap highest_of (drop-append_seam x rest) ∙ highest-zeros (length m - length x)

    last : 0 < length x → get_or m (length x - 1) 0 ≢ 0
    last p e =
        let i : ℕ = length x - 1 in
        let lt : i < length x = omega arith in
        let here : get_or x i 0 ≡ 0 = sym (get_or-append x rest 0 i lt) ∙ ap (λ (y : List ℕ). get_or y i 0) b ∙ e in
        used p (omega (arith, highest_next x i lt, highest_end x (i + 1) (omega arith)))

-- a block past the partition is not NWA,
pub not-past : (d : Disc) (s l n : ℕ) → l < n → false ≡ eqb n (nwa d s l)
not-past d s l n h =
    let ne : n ≢ nwa d s l = λ e. omega (arith, nwa-most d s l) in
    sym (ne_eqb _ _ ne)

-- block n, with the marks of the partition below it and those from there on
module _ (d : Disc) (s l n : ℕ) {below above : List ℕ} (fits : s + l ≤ length d.marks) (within : n ≤ l) (front : below ≡ take n (lent d.marks s l)) (back : above ≡ drop n (lent d.marks s l)) where
  abbrev m : List ℕ
  m = lent d.marks s l

  long : length below ≡ n
  long =
      let some : n ≤ length m = omega (arith, length-lent d.marks s l fits, within) in
      ap length front ∙ length-take n m ∙ omega arith

  -- it is not NWA if a sector from there on is not blank,
  pub not-blank : {top : ℕ} → top ≡ highest_of above → top ≢ 0 → false ≡ eqb n (nwa d s l)
  unfolding mark
  not-blank q used = sym (ne_eqb _ _ ne)
    where
      each : n ≡ nwa d s l → (i : ℕ) → i < length (drop n m) → get_or (drop n m) i 0 ≤ 0
      each e i lt =
          let f : n + i < l = omega (arith, length-drop n m, length-lent d.marks s l fits) in
          omega (arith, get_or-drop n m i 0, lent-at d.marks s l (n + i) fits f, nwa-blank d s l (n + i) (omega arith) f)

      ne : n ≢ nwa d s l
      ne e = used (q ∙ ap highest_of back ∙ omega (arith, highest-most (drop n m) 0 (each e)))

  -- block 0 is, if all is blank from there on,
  pub first-is : {top : ℕ} → top ≡ highest_of above → top ≡ 0 → length below ≡ 0 → true ≡ eqb n (nwa d s l)
  first-is q z none =
      let none-above : highest_of (drop n m) ≡ 0 = ap highest_of (sym back) ∙ sym q ∙ z in
      sym (eq-eqb _ _ (sym (next-is d s l n fits within none-above (λ p. absurd (omega (arith, long))))))

  -- and so another is just if the sector below it is not
  pub next-above : {top last : ℕ} → top ≡ highest_of above → top ≡ 0 → 1 ≤ length below → last ≡ get_or below (length below - 1) 0 → not (eqb last 0) ≡ eqb n (nwa d s l)
  unfolding mark
  next-above {top} {last} q z some there =
      by-eq last 0
      (λ e. ap not (eq-eqb _ _ e) ∙ sym (ne_eqb _ _ (blank-below e)))
      (λ e. ap not (ne_eqb _ _ e) ∙ sym (eq-eqb _ _ (sym (next-is d s l n fits within none (λ p f. e (at ∙ f))))))
    where
      none : highest_of (drop n m) ≡ 0
      none = ap highest_of (sym back) ∙ sym q ∙ z

      at : last ≡ get_or m (n - 1) 0
      at =
          there
          ∙ ap (λ (x : ℕ). get_or below (x - 1) 0) long
          ∙ ap (λ (x : List ℕ). get_or x (n - 1) 0) front
          ∙ get_or-take n m (n - 1) 0 (omega (arith, long))

      blank-below : last ≡ 0 → n ≢ nwa d s l
      blank-below e f =
          nwa-last d s l (omega (arith, long))
          (ap (λ (x : ℕ). get_or d.marks (s + (x - 1)) 0) (sym f)
          ∙ sym (lent-at d.marks s l (n - 1) fits (omega (arith, long, within)))
          ∙ sym at
          ∙ e)
