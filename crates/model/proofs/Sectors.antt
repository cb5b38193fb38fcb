-- Laws of discs and of lists of writes (specs/Disc.antt, specs/Writes.antt): what a write that lands in any way leaves of sectors and
-- marks, what a list of writes leaves under a cut, and where the first blank end of a partition is. Assumes nothing.
use Prim.Native.Nat.{ℕ, zero, suc, ◌+◌, ◌-◌, ◌*◌, ◌≤◌, ◌<◌}
use mathlib.Core.Path.{◌≡◌, refl, sym, ap, ap₂, ◌∙◌, subst}
use mathlib.Core.Bool.{Bool, true, false, ◌&&◌, false≢true, and-eq-true_iff}
use mathlib.Core.Logic.{◌≢◌}
use mathlib.Core.List.{List, [], ◌∷◌, ◌++◌}
use native.Mathlib.Omega.{arith}
use lib.Dec.{eqb, leb}
use lib.ListN.{length, set, length-set}
use lib.Seq.{get_or-set_same, get_or-set_other}
use borrow.Author.Tests.{leb-true, eqb-true, eqb-false, lt-ltb, le-ltb, le-leb, eq-eqb, ne_eqb}
use Rattle.fields.specs.Bytes.{part, splice}
use Rattle.fields.proofs.Laws.{length_part, length-splice, part-splice-same, part-splice-before, part-splice-after}
use Rattle.model.specs.declared.Cut.{Cut}
use Rattle.model.specs.declared.Landing.{Landing}
use Rattle.model.specs.Disc.{Disc, sector, mark, recorded, nwa, known, shapely, inside}
use Rattle.model.specs.Writes.{Write, on_effect, landing, landed, write, writes, struck}
use Rattle.model.proofs.Basics.{by-eq, by-lt, cond-elim}

-- ---- a disc

-- the bytes of a disc are 2,048 for each of its marks
pub record Made (d : Disc) : Type 0 where
  pub sized : length d.bytes ≡ 2048 * length d.marks

-- a sector of the disc has 2,048 bytes
pub length-sector : (d : Disc) (p : ℕ) → p < length d.marks → Made d → length (sector d p) ≡ 2048
unfolding sector
length-sector d p h m = length_part d.bytes (2048 * p) 2048 (omega arith)

shape : (d : Disc) → shapely d ≡ true → (1 ≤ length d.marks) × (length d.marks ≤ 1048576) × Made d × (known d.marks ≡ true)
unfolding shapely
shape d e =
    let n : ℕ = length d.marks in
    let sizes : Bool = eqb (length d.bytes) (2048 * n) in
    let some = (and-eq-true_iff (leb 1 n) (leb n 1048576 && (sizes && known d.marks))).0 e in
    let most = (and-eq-true_iff (leb n 1048576) (sizes && known d.marks)).0 some.1 in
    let both = (and-eq-true_iff sizes (known d.marks)).0 most.1 in (
      leb-true 1 n some.0,
      leb-true n 1048576 most.0,
      record { sized = eqb-true (length d.bytes) (2048 * n) both.0 },
      both.1,
    )

-- what line 1 says: the bytes are 2,048 times the marks,
pub shapely-made : (d : Disc) → shapely d ≡ true → Made d
shapely-made d e = (shape d e).2

-- there is a sector,
pub shapely-some : (d : Disc) → shapely d ≡ true → 1 ≤ length d.marks
shapely-some d e = (shape d e).0

-- there are at most 1,048,576,
pub shapely-most : (d : Disc) → shapely d ≡ true → length d.marks ≤ 1048576
shapely-most d e = (shape d e).1

-- and no mark exceeds 2
pub shapely-known : (d : Disc) → shapely d ≡ true → known d.marks ≡ true
shapely-known d e = (shape d e).3

-- all of that is line 1
pub shapely-is : (d : Disc) → 1 ≤ length d.marks → length d.marks ≤ 1048576 → Made d → known d.marks ≡ true → shapely d ≡ true
unfolding shapely
shapely-is d a b m k = simp (le-leb 1 (length d.marks) a, le-leb (length d.marks) 1048576 b, eq-eqb (length d.bytes) (2048 * length d.marks) m.sized, k)

-- what line 2 says: the partition has a sector, and fits the disc
pub inside-fits : (d : Disc) (s l : ℕ) → inside d s l ≡ true → (1 ≤ l) × (s + l ≤ length d.marks)
unfolding inside
inside-fits d s l e =
    let a = (and-eq-true_iff (leb 1 l) (leb (s + l) (length d.marks))).0 e in
    (leb-true 1 l a.0, leb-true (s + l) (length d.marks) a.1)

-- line 2 asks for no more of the disc than how many sectors it has
pub inside-same : (d d' : Disc) (s l : ℕ) → length d.marks ≡ length d'.marks → inside d s l ≡ inside d' s l
unfolding inside
inside-same d d' s l e = ap (λ (n : ℕ). leb 1 l && leb (s + l) n) e

-- a list of marks of which none exceeds 2 stays one when a mark of at most 2 is set
pub known-set : (m : List ℕ) (p v : ℕ) → v ≤ 2 → known m ≡ true → known (set m p v) ≡ true
unfolding known
known-set [] p v h e = refl
known-set (x ∷ m) zero v h e = rw (le-leb v 2 h, ((and-eq-true_iff (leb x 2) (known m)).0 e).1)
known-set (x ∷ m) (suc p) v h e =
    let a = (and-eq-true_iff (leb x 2) (known m)).0 e in
    rw (a.0, known-set m p v h a.1)

-- ---- one write, landed in any way

-- the disc has as many marks as before
pub landed-marks-length : (l : Landing) (p : ℕ) (b : List ℕ) (d : Disc) → length (landed l p b d).marks ≡ length d.marks
unfolding landed
landed-marks-length Landing.Done p b d = length-set d.marks p 1
landed-marks-length Landing.Old p b d = refl
landed-marks-length Landing.Unreadable p b d = length-set d.marks p 2
landed-marks-length Landing.Untouched p b d = refl

-- and as many bytes
pub landed-bytes-length : (l : Landing) (p : ℕ) (b : List ℕ) (d : Disc) → length b ≡ 2048 → p < length d.marks → Made d → length (landed l p b d).bytes ≡ length d.bytes
unfolding landed
landed-bytes-length Landing.Done p b d e h m = length-splice d.bytes (2048 * p) b (omega arith)
landed-bytes-length Landing.Old p b d e h m = refl
landed-bytes-length Landing.Unreadable p b d e h m = refl
landed-bytes-length Landing.Untouched p b d e h m = refl

-- so it stays 2,048 bytes a mark
pub landed_made : (l : Landing) (p : ℕ) (b : List ℕ) (d : Disc) → length b ≡ 2048 → p < length d.marks → Made d → Made (landed l p b d)
landed_made l p b d e h m =
    record { sized = omega (arith, landed-bytes-length l p b d e h m, landed-marks-length l p b d, m.sized) }

-- every other sector keeps its bytes,
pub sector-other : (l : Landing) (p : ℕ) (b : List ℕ) (d : Disc) (q : ℕ) → length b ≡ 2048 → p < length d.marks → Made d → q ≢ p → sector (landed l p b d) q ≡ sector d q
unfolding landed sector
sector-other Landing.Done p b d q e h m n =
    by-lt q p
    (λ lt. part-splice-before d.bytes (2048 * p) b (2048 * q) 2048 (omega arith) (omega arith))
    (λ le. part-splice-after d.bytes (2048 * p) b (2048 * q) 2048 (omega arith) (omega arith))
sector-other Landing.Old p b d q e h m n = refl
sector-other Landing.Unreadable p b d q e h m n = refl
sector-other Landing.Untouched p b d q e h m n = refl

-- its mark,
pub mark-other : (l : Landing) (p : ℕ) (b : List ℕ) (d : Disc) (q : ℕ) → q ≢ p → mark (landed l p b d) q ≡ mark d q
unfolding landed mark
mark-other Landing.Done p b d q n = get_or-set_other d.marks p q 1 0 n
mark-other Landing.Old p b d q n = refl
mark-other Landing.Unreadable p b d q n = get_or-set_other d.marks p q 2 0 n
mark-other Landing.Untouched p b d q n = refl

-- and so whether it is recorded
pub recorded-other : (l : Landing) (p : ℕ) (b : List ℕ) (d : Disc) (q : ℕ) → q ≢ p → recorded (landed l p b d) q ≡ recorded d q
unfolding recorded
recorded-other l p b d q n = ap (λ (x : ℕ). eqb x 1) (mark-other l p b d q n)

-- a write that is done leaves its bytes
pub sector-done : (p : ℕ) (b : List ℕ) (d : Disc) → length b ≡ 2048 → p < length d.marks → Made d → sector (landed Landing.Done p b d) p ≡ b
unfolding landed sector
sector-done p b d e h m =
    ap (λ (w : ℕ). part (splice d.bytes (2048 * p) b) (2048 * p) w) (sym e) ∙ part-splice-same d.bytes (2048 * p) b (omega arith)

-- and the mark 1
pub mark-done : (p : ℕ) (b : List ℕ) (d : Disc) → p < length d.marks → mark (landed Landing.Done p b d) p ≡ 1
unfolding landed mark
mark-done p b d h = get_or-set_same d.marks p 1 0 h

-- its sector is recorded
pub recorded-done : (p : ℕ) (b : List ℕ) (d : Disc) → p < length d.marks → recorded (landed Landing.Done p b d) p ≡ true
unfolding recorded
recorded-done p b d h = ap (λ (x : ℕ). eqb x 1) (mark-done p b d h)

-- one that leaves its sector unreadable leaves the mark 2
pub mark-unreadable : (p : ℕ) (b : List ℕ) (d : Disc) → p < length d.marks → mark (landed Landing.Unreadable p b d) p ≡ 2
unfolding landed mark
mark-unreadable p b d h = get_or-set_same d.marks p 2 0 h

-- and all bytes
pub sector-unreadable : (p : ℕ) (b : List ℕ) (d : Disc) (q : ℕ) → sector (landed Landing.Unreadable p b d) q ≡ sector d q
unfolding landed sector
sector-unreadable p b d q = refl

-- no mark comes to exceed 2
pub landed-known : (l : Landing) (p : ℕ) (b : List ℕ) (d : Disc) → known d.marks ≡ true → known (landed l p b d).marks ≡ true
unfolding landed
landed-known Landing.Done p b d k = known-set d.marks p 1 (omega arith) k
landed-known Landing.Old p b d k = k
landed-known Landing.Unreadable p b d k = known-set d.marks p 2 (omega arith) k
landed-known Landing.Untouched p b d k = k

-- line 1 holds as before
pub landed-shapely : (l : Landing) (p : ℕ) (b : List ℕ) (d : Disc) → length b ≡ 2048 → p < length d.marks → shapely d ≡ true → shapely (landed l p b d) ≡ true
landed-shapely l p b d e h s =
    let n : length (landed l p b d).marks ≡ length d.marks = landed-marks-length l p b d in
    let some : 1 ≤ length d.marks = shapely-some d s in
    let most : length d.marks ≤ 1048576 = shapely-most d s in
    shapely-is (landed l p b d) (omega arith) (omega arith) (landed_made l p b d e h (shapely-made d s)) (landed-known l p b d (shapely-known d s))

-- and so does line 2
pub landed-inside : (l : Landing) (p : ℕ) (b : List ℕ) (d : Disc) (start span : ℕ) → inside d start span ≡ inside (landed l p b d) start span
landed-inside l p b d start span = inside-same d (landed l p b d) start span (sym (landed-marks-length l p b d))

-- ---- a list of writes

-- each write goes to one of the first n sectors, and has 2,048 bytes
unfoldable pub Placed : ℕ → List Write → Type 0
Placed n [] = Unit {0}
Placed n (w ∷ ws) = (w.place < n) × (length w.bytes ≡ 2048) × Placed n ws

-- sector q is the place of none of the writes
unfoldable pub Elsewhere : ℕ → List Write → Type 0
Elsewhere q [] = Unit {0}
Elsewhere q (w ∷ ws) = (q ≢ w.place) × Elsewhere q ws

-- writes keep the number of marks,
pub writes-marks-length : (n : ℕ) (c : Cut) (ws : List Write) (d : Disc) → length (writes n c ws d).marks ≡ length d.marks
unfolding writes write
writes-marks-length n c [] d = refl
writes-marks-length n c (w ∷ ws) d =
    writes-marks-length (n + 1) c ws (landed (landing n c) w.place w.bytes d) ∙ landed-marks-length (landing n c) w.place w.bytes d

-- 2,048 bytes a mark,
pub writes-made : (n : ℕ) (c : Cut) (ws : List Write) (d : Disc) → Placed (length d.marks) ws → Made d → Made (writes n c ws d)
unfolding writes write Placed
writes-made n c [] d h m = m
writes-made n c (w ∷ ws) d h m =
    let d' : Disc = landed (landing n c) w.place w.bytes d in
    let e : length d.marks ≡ length d'.marks = sym (landed-marks-length (landing n c) w.place w.bytes d) in
    writes-made (n + 1) c ws d' (subst (λ (x : ℕ). Placed x ws) e h.2) (landed_made (landing n c) w.place w.bytes d h.1 h.0 m)

-- line 1
pub writes-shapely : (n : ℕ) (c : Cut) (ws : List Write) (d : Disc) → Placed (length d.marks) ws → shapely d ≡ true → shapely (writes n c ws d) ≡ true
unfolding writes write Placed
writes-shapely n c [] d h s = s
writes-shapely n c (w ∷ ws) d h s =
    let d' : Disc = landed (landing n c) w.place w.bytes d in
    let e : length d.marks ≡ length d'.marks = sym (landed-marks-length (landing n c) w.place w.bytes d) in
    writes-shapely (n + 1) c ws d' (subst (λ (x : ℕ). Placed x ws) e h.2) (landed-shapely (landing n c) w.place w.bytes d h.1 h.0 s)

-- and line 2
pub writes-inside : (n : ℕ) (c : Cut) (ws : List Write) (d : Disc) (start span : ℕ) → inside d start span ≡ inside (writes n c ws d) start span
writes-inside n c ws d start span = inside-same d (writes n c ws d) start span (sym (writes-marks-length n c ws d))

-- a sector that is the place of none of the writes keeps its mark, whatever the cut,
pub writes-other-mark : (n : ℕ) (c : Cut) (ws : List Write) (d : Disc) (q : ℕ) → Elsewhere q ws → mark (writes n c ws d) q ≡ mark d q
unfolding writes write Elsewhere
writes-other-mark n c [] d q o = refl
writes-other-mark n c (w ∷ ws) d q o =
    writes-other-mark (n + 1) c ws (landed (landing n c) w.place w.bytes d) q o.1 ∙ mark-other (landing n c) w.place w.bytes d q o.0

-- keeps its bytes,
pub writes-other-sector : (n : ℕ) (c : Cut) (ws : List Write) (d : Disc) (q : ℕ) → Placed (length d.marks) ws → Made d → Elsewhere q ws → sector (writes n c ws d) q ≡ sector d q
unfolding writes write Placed Elsewhere
writes-other-sector n c [] d q h m o = refl
writes-other-sector n c (w ∷ ws) d q h m o =
    let d' : Disc = landed (landing n c) w.place w.bytes d in
    let e : length d.marks ≡ length d'.marks = sym (landed-marks-length (landing n c) w.place w.bytes d) in
    writes-other-sector (n + 1) c ws d' q (subst (λ (x : ℕ). Placed x ws) e h.2) (landed_made (landing n c) w.place w.bytes d h.1 h.0 m) o.1
    ∙ sector-other (landing n c) w.place w.bytes d q h.1 h.0 m o.0

-- and so both
pub writes-other : (n : ℕ) (c : Cut) (ws : List Write) (d : Disc) (q : ℕ) → Placed (length d.marks) ws → Made d → Elsewhere q ws → (sector (writes n c ws d) q ≡ sector d q) × (mark (writes n c ws d) q ≡ mark d q)
writes-other n c ws d q h m o = (writes-other-sector n c ws d q h m o, writes-other-mark n c ws d q o)

-- two lists of writes, one after the other: the second goes on with the next number
pub writes-append : (n : ℕ) (c : Cut) (ws vs : List Write) (d : Disc) → writes n c (ws ++ vs) d ≡ writes (n + length ws) c vs (writes n c ws d)
unfolding writes
writes-append n c [] vs d =
    let e : n ≡ n + 0 = omega arith in
    ap (λ (x : ℕ). writes x c vs d) e
writes-append n c (w ∷ ws) vs d =
    let e : n + 1 + length ws ≡ n + suc (length ws) = omega arith in
    let d' : Disc = write n c w.place w.bytes d in
    writes-append (n + 1) c ws vs d' ∙ ap (λ (x : ℕ). writes x c vs (writes (n + 1) c ws d')) e

-- no write changes nothing
pub writes-none : (n : ℕ) (c : Cut) (d : Disc) → writes n c [] d ≡ d
unfolding writes
writes-none n c d = refl

-- a list of one write is that write
pub writes_one : (n : ℕ) (c : Cut) (p : ℕ) (b : List ℕ) (d : Disc) → writes n c (record { place = p; bytes = b } ∷ []) d ≡ landed (landing n c) p b d
unfolding writes write
writes_one n c p b d = refl

-- ---- what becomes of a write

-- with no cut every write is done,
pub landing-none : (n : ℕ) (c : Cut) → c.at ≡ 0 → landing n c ≡ Landing.Done
unfolding landing
landing-none n c e = simp (eq-eqb c.at 0 e)

-- and so is each before the cut
pub landing-before : (n : ℕ) (c : Cut) → n < c.at → landing n c ≡ Landing.Done
unfolding landing
landing-before n c h = simp (ne_eqb c.at 0 (λ e. omega arith), lt-ltb n c.at h)

-- none is after it
pub landing-after : (n : ℕ) (c : Cut) → 0 < c.at → c.at < n → landing n c ≡ Landing.Untouched
unfolding landing
landing-after n c z h = simp (ne_eqb c.at 0 (λ e. omega arith), le-ltb n c.at (omega arith), lt-ltb c.at n h)

-- and the write at the cut has its effect
pub landing-at : (n : ℕ) (c : Cut) → c.at ≡ n → 1 ≤ n → landing n c ≡ on_effect c.effect
unfolding landing
landing-at n c e h = simp (ne_eqb c.at 0 (λ z. omega arith), le-ltb n c.at (omega arith), le-ltb c.at n (omega arith))

-- where the power fails at none of m writes, each is done
pub landing-uncut : (n m : ℕ) (c : Cut) → struck c m ≡ false → 1 ≤ n → n ≤ m → landing n c ≡ Landing.Done
unfolding struck
landing-uncut n m c e h k =
    by-eq c.at 0 (landing-none n c) λ z.
    by-lt m c.at (λ lt. landing-before n c (omega arith)) λ le.
    absurd (false≢true (sym e ∙ ap₂ ◌&&◌ (le-leb 1 c.at (omega arith)) (le-leb c.at m le)))

untouched≢done : Landing.Untouched ≢ Landing.Done
untouched≢done e = let z : ◌≡◌ {A = ℕ} 0 1 = cc in omega arith

-- each write before one that is done is done
pub landing-done-before : (n j : ℕ) (c : Cut) → landing n c ≡ Landing.Done → 1 ≤ j → j ≤ n → landing j c ≡ Landing.Done
landing-done-before n j c e h k =
    by-eq c.at 0 (landing-none j c) λ z.
    by-lt j c.at (landing-before j c) λ le.
    by-lt c.at n
    (λ lt. absurd (untouched≢done (sym (landing-after n c (omega arith) lt) ∙ e)))
    (λ ge. let q : j ≡ n = omega arith in ap (λ (x : ℕ). landing x c) q ∙ e)

-- no write after one that is not done touches the disc
pub landing-lost : (n j : ℕ) (c : Cut) → landing n c ≢ Landing.Done → n < j → landing j c ≡ Landing.Untouched
landing-lost n j c k h =
    by-eq c.at 0 (λ z. absurd (k (landing-none n c z))) λ z.
    by-lt n c.at (λ lt. absurd (k (landing-before n c lt))) λ le.
    landing-after j c (omega arith) (omega arith)

-- ---- the next writable block

-- it lies in the partition or at its end
pub nwa-most : (d : Disc) (s l : ℕ) → nwa d s l ≤ l
unfolding nwa
nwa-most d s zero = omega arith
nwa-most d s (suc l) =
    let h : nwa d s l ≤ l = nwa-most d s l in
    cond-elim (λ n. n ≤ suc l) (eqb (mark d (s + l)) 0) (λ _. omega arith) (λ _. omega arith)

-- from there on all is blank
pub nwa-blank : (d : Disc) (s l k : ℕ) → nwa d s l ≤ k → k < l → mark d (s + k) ≡ 0
unfolding nwa
nwa-blank d s zero k h lt = absurd (omega arith)
nwa-blank d s (suc l) k h lt =
    cond-elim (λ n. n ≤ k → mark d (s + k) ≡ 0) (eqb (mark d (s + l)) 0)
    (λ e h'. by-eq k l (λ q. rw q (eqb-true (mark d (s + l)) 0 e)) (λ q. nwa-blank d s l k h' (omega arith)))
    (λ _ h'. absurd (omega arith))
    h

-- a sector that is not blank lies before it
pub nwa-above : (d : Disc) (s l k : ℕ) → k < l → mark d (s + k) ≢ 0 → k < nwa d s l
nwa-above d s l k h n = by-lt k (nwa d s l) (λ lt. lt) (λ le. absurd (n (nwa-blank d s l k le h)))

-- the sector before it is not blank
pub nwa-last : (d : Disc) (s l : ℕ) → 0 < nwa d s l → mark d (s + (nwa d s l - 1)) ≡ 0 → ⊥
unfolding nwa
nwa-last d s zero h = absurd (omega arith)
nwa-last d s (suc l) h =
    cond-elim (λ n. 0 < n → mark d (s + (n - 1)) ≡ 0 → ⊥) (eqb (mark d (s + l)) 0)
    (λ _. nwa-last d s l)
    (λ e _ z. let q : suc l - 1 ≡ l = omega arith in eqb-false (mark d (s + l)) 0 e (ap (λ (x : ℕ). mark d (s + x)) (sym q) ∙ z))
    h

-- and no other block is so
pub nwa-is : (d : Disc) (s l n : ℕ) → n ≤ l → ((k : ℕ) → n ≤ k → k < l → mark d (s + k) ≡ 0) → (0 < n → mark d (s + (n - 1)) ≢ 0) → nwa d s l ≡ n
nwa-is d s l n h blank last =
    by-lt n (nwa d s l)
    (λ lt. absurd (nwa-last d s l (omega arith) (blank (nwa d s l - 1) (omega arith) (omega (arith, nwa-most d s l)))))
    (λ le. by-lt (nwa d s l) n
    (λ lt. absurd (last (omega arith) (nwa-blank d s l (n - 1) (omega arith) (omega arith))))
    (λ ge. omega arith))
