-- Laws of runs of sectors (specs/Disc.antt, specs/Writes.antt): sectors joined, and what writes upward leave in each of their sectors under
-- a cut. Assumes nothing.
use Prim.Native.Nat.{ℕ, zero, suc, ◌+◌, ◌*◌, ◌≤◌, ◌<◌}
use mathlib.Core.Path.{◌≡◌, refl, sym, ap, ap₂, ◌∙◌, subst}
use mathlib.Core.Bool.{true, ◌&&◌, and-eq-true_iff}
use mathlib.Core.Logic.{◌⊎◌, inl, inr}
use mathlib.Core.List.{List, ◌∷◌, ◌++◌}
use native.Mathlib.Omega.{arith}
use lib.Dec.{eqb}
use lib.ListN.{length, take, drop}
use lib.Seq.{take-add, drop-drop}
use borrow.Author.Tests.{eqb-true}
use Rattle.fields.specs.Bytes.{part}
use Rattle.fields.proofs.Laws.{length_part, part-part}
use Rattle.model.specs.declared.Cut.{Cut}
use Rattle.model.specs.declared.Landing.{Landing}
use Rattle.model.specs.Disc.{Disc, sector, mark, recorded, recorded_run, joined}
use Rattle.model.specs.Writes.{landing, landed, write, writes, upward}
use Rattle.model.proofs.Sectors.{Made, Placed, Elsewhere, landed_made, landed-marks-length, sector-other, mark-other, sector-done, mark-done, sector-unreadable, mark-unreadable, writes-other-sector, writes-other-mark}

-- ---- sectors joined

-- what holds of each of some numbers holds of the first
at_first : (P : ℕ → Type 0) (p n : ℕ) → ((i : ℕ) → i < suc n → P (p + i)) → P p
at_first P p n h =
    let e : p + 0 ≡ p = omega arith in
    subst P e (h 0 (omega arith))

-- and of each of the others
at-later : (P : ℕ → Type 0) (p n : ℕ) → ((i : ℕ) → i < suc n → P (p + i)) → (i : ℕ) → i < n → P (p + 1 + i)
at-later P p n h i lt =
    let e : p + suc i ≡ p + 1 + i = omega arith in
    subst P e (h (suc i) (omega arith))

-- a part is a shorter part and what follows it
pub part-add : (b : List ℕ) (at v w : ℕ) → part b at (v + w) ≡ part b at v ++ part b (at + v) w
unfolding part
part-add b at v w = take-add v w (drop at b) ∙ ap (λ (x : List ℕ). take v (drop at b) ++ take w x) (drop-drop v at b)

-- sectors that are the parts of a list, one after the other, are that list joined
pub joined-parts : (n : ℕ) (d : Disc) (p : ℕ) (b : List ℕ) (at : ℕ) → ((i : ℕ) → i < n → sector d (p + i) ≡ part b (at + 2048 * i) 2048) → joined d p n ≡ part b at (2048 * n)
unfolding joined part
joined-parts zero d p b at h = refl
joined-parts (suc n) d p b at h =
    let z : at + 2048 * 0 ≡ at = omega arith in
    let y : p ≡ p + 0 = omega arith in
    let w : 2048 + 2048 * n ≡ 2048 * suc n = omega arith in
    let head : sector d p ≡ part b at 2048 = ap (sector d) y ∙ h 0 (omega arith) ∙ ap (λ (x : ℕ). part b x 2048) z in
    let next : (i : ℕ) → i < n → sector d (p + 1 + i) ≡ part b (at + 2048 + 2048 * i) 2048 =
    λ i lt.
    let e : p + 1 + i ≡ p + suc i = omega arith in
    let f : at + 2048 * suc i ≡ at + 2048 + 2048 * i = omega arith in
    ap (sector d) e ∙ h (suc i) (omega arith) ∙ ap (λ (x : ℕ). part b x 2048) f in
    ap₂ ◌++◌ head (joined-parts n d (p + 1) b (at + 2048) next) ∙ sym (part-add b at 2048 (2048 * n)) ∙ ap (part b at) w

-- the sectors joined are the bytes of the disc there
pub joined_bytes : (d : Disc) (p n : ℕ) → joined d p n ≡ part d.bytes (2048 * p) (2048 * n)
unfolding sector
joined_bytes d p n =
    joined-parts n d p d.bytes (2048 * p)
    (λ i h. let e : 2048 * (p + i) ≡ 2048 * p + 2048 * i = omega arith in ap (λ (x : ℕ). part d.bytes x 2048) e)

-- they have 2,048 bytes each
pub length-joined : (d : Disc) (p n : ℕ) → Made d → p + n ≤ length d.marks → length (joined d p n) ≡ 2048 * n
length-joined d p n m h = rw joined_bytes (length_part d.bytes (2048 * p) (2048 * n) (omega arith))

-- and each stands in its place
pub joined-part : (d : Disc) (p n i : ℕ) → i < n → part (joined d p n) (2048 * i) 2048 ≡ sector d (p + i)
unfolding sector
joined-part d p n i h =
    let e : 2048 * p + 2048 * i ≡ 2048 * (p + i) = omega arith in
    rw joined_bytes
    (part-part d.bytes (2048 * p) (2048 * n) (2048 * i) 2048 (omega arith) ∙ ap (λ (x : ℕ). part d.bytes x 2048) e)

-- discs that agree in the sectors have them joined alike
pub joined-agree : (d d' : Disc) (p n : ℕ) → ((i : ℕ) → i < n → sector d (p + i) ≡ sector d' (p + i)) → joined d p n ≡ joined d' p n
unfolding joined
joined-agree d d' p zero h = refl
joined-agree d d' p (suc n) h =
    let P : ℕ → Type 0 = λ q. sector d q ≡ sector d' q in
    ap₂ ◌++◌ (at_first P p n h) (joined-agree d d' (p + 1) n (at-later P p n h))

-- discs that agree in the marks have the same sectors recorded
pub recorded_run-agree : (d d' : Disc) (p n : ℕ) → ((i : ℕ) → i < n → mark d (p + i) ≡ mark d' (p + i)) → recorded_run d p n ≡ recorded_run d' p n
unfolding recorded_run recorded
recorded_run-agree d d' p zero h = refl
recorded_run-agree d d' p (suc n) h =
    let P : ℕ → Type 0 = λ q. mark d q ≡ mark d' q in
    ap₂ ◌&&◌ (ap (λ (x : ℕ). eqb x 1) (at_first P p n h)) (recorded_run-agree d d' (p + 1) n (at-later P p n h))

-- a run is recorded if each of its sectors has the mark 1
pub recorded_run-all : (d : Disc) (p n : ℕ) → ((i : ℕ) → i < n → mark d (p + i) ≡ 1) → recorded_run d p n ≡ true
unfolding recorded_run recorded
recorded_run-all d p zero h = refl
recorded_run-all d p (suc n) h =
    let P : ℕ → Type 0 = λ q. mark d q ≡ 1 in
    ap₂ ◌&&◌ (ap (λ (x : ℕ). eqb x 1) (at_first P p n h)) (recorded_run-all d (p + 1) n (at-later P p n h))

-- and only then
pub recorded_run-each : (d : Disc) (p n i : ℕ) → recorded_run d p n ≡ true → i < n → mark d (p + i) ≡ 1
unfolding recorded_run recorded
recorded_run-each d p zero i e h = absurd (omega arith)
recorded_run-each d p (suc n) zero e h =
    let y : p + 0 ≡ p = omega arith in
    ap (mark d) y ∙ eqb-true (mark d p) 1 ((and-eq-true_iff (recorded d p) (recorded_run d (p + 1) n)).0 e).0
recorded_run-each d p (suc n) (suc i) e h =
    let y : p + suc i ≡ p + 1 + i = omega arith in
    ap (mark d) y ∙ recorded_run-each d (p + 1) n i ((and-eq-true_iff (recorded d p) (recorded_run d (p + 1) n)).0 e).1 (omega arith)

-- ---- writes upward

-- k writes upward are k writes
pub length-upward : (k p : ℕ) (b : List ℕ) (at : ℕ) → length (upward k p b at) ≡ k
unfolding upward
length-upward zero p b at = refl
length-upward (suc k) p b at = ap suc (length-upward k (p + 1) b (at + 2048))

-- they lie on the disc if their sectors do, and have 2,048 bytes each if the bytes are so many
pub placed-upward : (n k p : ℕ) (b : List ℕ) (at : ℕ) → p + k ≤ n → at + 2048 * k ≤ length b → Placed n (upward k p b at)
unfolding upward Placed
placed-upward n zero p b at h e = tt
placed-upward n (suc k) p b at h e =
    (omega arith, length_part b at 2048 (omega arith), placed-upward n k (p + 1) b (at + 2048) (omega arith) (omega arith))

-- no sector before theirs is among them,
pub elsewhere-before : (q k p : ℕ) (b : List ℕ) (at : ℕ) → q < p → Elsewhere q (upward k p b at)
unfolding upward Elsewhere
elsewhere-before q zero p b at h = tt
elsewhere-before q (suc k) p b at h = (λ e. omega arith, elsewhere-before q k (p + 1) b (at + 2048) (omega arith))

-- none after them,
pub elsewhere-after : (q k p : ℕ) (b : List ℕ) (at : ℕ) → p + k ≤ q → Elsewhere q (upward k p b at)
unfolding upward Elsewhere
elsewhere-after q zero p b at h = tt
elsewhere-after q (suc k) p b at h = (λ e. omega arith, elsewhere-after q k (p + 1) b (at + 2048) (omega arith))

-- and so no other
pub elsewhere-upward : (q k p : ℕ) (b : List ℕ) (at : ℕ) → (q < p) ⊎ (p + k ≤ q) → Elsewhere q (upward k p b at)
elsewhere-upward q k p b at (inl h) = elsewhere-before q k p b at h
elsewhere-upward q k p b at (inr h) = elsewhere-after q k p b at h

-- writes upward are the first of them, and then the others
pub upward-append : (j k p : ℕ) (b : List ℕ) (at : ℕ) → upward (j + k) p b at ≡ upward j p b at ++ upward k (p + j) b (at + 2048 * j)
unfolding upward
upward-append zero k p b at =
    let ek : 0 + k ≡ k = omega arith in
    let ep : p ≡ p + 0 = omega arith in
    let ea : at ≡ at + 0 = omega arith in
    cc
upward-append (suc j) k p b at =
    let ej : suc j + k ≡ suc (j + k) = omega arith in
    let ep : p + 1 + j ≡ p + suc j = omega arith in
    let ea : at + 2048 + 2048 * j ≡ at + 2048 * suc j = omega arith in
    ap (λ (x : ℕ). upward x p b at) ej
    ∙ ap (record { place = p; bytes = part b at 2048 } ∷◌)
    (upward-append j k (p + 1) b (at + 2048)
    ∙ ap₂ (λ (x y : ℕ). upward j (p + 1) b (at + 2048) ++ upward k x b y) ep ea)

-- the sector that a write is for depends on that sector alone,
pub landed-sector-agree : (l : Landing) (p : ℕ) (b : List ℕ) (d d' : Disc) → length b ≡ 2048 → p < length d.marks → Made d → p < length d'.marks → Made d' → sector d p ≡ sector d' p → sector (landed l p b d) p ≡ sector (landed l p b d') p
unfolding landed
landed-sector-agree Landing.Done p b d d' e h m h' m' s = sector-done p b d e h m ∙ sym (sector-done p b d' e h' m')
landed-sector-agree Landing.Old p b d d' e h m h' m' s = s
landed-sector-agree Landing.Unreadable p b d d' e h m h' m' s = sector-unreadable p b d p ∙ s ∙ sym (sector-unreadable p b d' p)
landed-sector-agree Landing.Untouched p b d d' e h m h' m' s = s

-- and its mark on its mark alone
pub landed-mark-agree : (l : Landing) (p : ℕ) (b : List ℕ) (d d' : Disc) → p < length d.marks → p < length d'.marks → mark d p ≡ mark d' p → mark (landed l p b d) p ≡ mark (landed l p b d') p
unfolding landed
landed-mark-agree Landing.Done p b d d' h h' s = mark-done p b d h ∙ sym (mark-done p b d' h')
landed-mark-agree Landing.Old p b d d' h h' s = s
landed-mark-agree Landing.Unreadable p b d d' h h' s = mark-unreadable p b d h ∙ sym (mark-unreadable p b d' h')
landed-mark-agree Landing.Untouched p b d d' h h' s = s

-- what a run leaves in each of its sectors: what that sector's own write leaves,
pub upward-sector : (k n : ℕ) (c : Cut) (p : ℕ) (b : List ℕ) (at : ℕ) (d : Disc) (i : ℕ) → i < k → Made d → p + k ≤ length d.marks → at + 2048 * k ≤ length b → sector (writes n c (upward k p b at) d) (p + i) ≡ sector (landed (landing (n + i) c) (p + i) (part b (at + 2048 * i) 2048) d) (p + i)
unfolding upward writes write
upward-sector zero n c p b at d i h m hd hb = absurd (omega arith)
upward-sector (suc k) n c p b at d zero h m hd hb =
    let x : List ℕ = part b at 2048 in
    let d' : Disc = landed (landing n c) p x d in
    let lx : length x ≡ 2048 = length_part b at 2048 (omega arith) in
    let long : length d'.marks ≡ length d.marks = landed-marks-length (landing n c) p x d in
    let m' : Made d' = landed_made (landing n c) p x d lx (omega arith) m in
    let en : n ≡ n + 0 = omega arith in
    let ep : p ≡ p + 0 = omega arith in
    let ea : at ≡ at + 2048 * 0 = omega arith in
    let rest : sector (writes (n + 1) c (upward k (p + 1) b (at + 2048)) d') (p + 0) ≡ sector d' (p + 0) =
    writes-other-sector (n + 1) c (upward k (p + 1) b (at + 2048)) d' (p + 0)
    (placed-upward (length d'.marks) k (p + 1) b (at + 2048) (omega arith) (omega arith)) m'
    (elsewhere-before (p + 0) k (p + 1) b (at + 2048) (omega arith)) in
    rest
    ∙ ap₂ (λ (y z : ℕ). sector (landed (landing y c) z x d) (p + 0)) en ep
    ∙ ap (λ (y : ℕ). sector (landed (landing (n + 0) c) (p + 0) (part b y 2048) d) (p + 0)) ea
upward-sector (suc k) n c p b at d (suc i) h m hd hb =
    let x : List ℕ = part b at 2048 in
    let d' : Disc = landed (landing n c) p x d in
    let lx : length x ≡ 2048 = length_part b at 2048 (omega arith) in
    let long : length d'.marks ≡ length d.marks = landed-marks-length (landing n c) p x d in
    let m' : Made d' = landed_made (landing n c) p x d lx (omega arith) m in
    let y : List ℕ = part b (at + 2048 + 2048 * i) 2048 in
    let ly : length y ≡ 2048 = length_part b (at + 2048 + 2048 * i) 2048 (omega arith) in
    let q : ℕ = p + 1 + i in
    let l : Landing = landing (n + 1 + i) c in
    let en : n + 1 + i ≡ n + suc i = omega arith in
    let ep : p + 1 + i ≡ p + suc i = omega arith in
    let ea : at + 2048 + 2048 * i ≡ at + 2048 * suc i = omega arith in
    ap (sector (writes (n + 1) c (upward k (p + 1) b (at + 2048)) d')) (sym ep)
    ∙ upward-sector k (n + 1) c (p + 1) b (at + 2048) d' i (omega arith) m' (omega arith) (omega arith)
    ∙ landed-sector-agree l q y d' d ly (omega arith) m' (omega arith) m
    (sector-other (landing n c) p x d q lx (omega arith) m (λ e. omega arith))
    ∙ ap₂ (λ (u v : ℕ). sector (landed (landing u c) v y d) v) en ep
    ∙ ap (λ (u : ℕ). sector (landed (landing (n + suc i) c) (p + suc i) (part b u 2048) d) (p + suc i)) ea

-- and so with its mark
pub upward-mark : (k n : ℕ) (c : Cut) (p : ℕ) (b : List ℕ) (at : ℕ) (d : Disc) (i : ℕ) → i < k → p + k ≤ length d.marks → mark (writes n c (upward k p b at) d) (p + i) ≡ mark (landed (landing (n + i) c) (p + i) (part b (at + 2048 * i) 2048) d) (p + i)
unfolding upward writes write
upward-mark zero n c p b at d i h hd = absurd (omega arith)
upward-mark (suc k) n c p b at d zero h hd =
    let x : List ℕ = part b at 2048 in
    let d' : Disc = landed (landing n c) p x d in
    let en : n ≡ n + 0 = omega arith in
    let ep : p ≡ p + 0 = omega arith in
    let ea : at ≡ at + 2048 * 0 = omega arith in
    writes-other-mark (n + 1) c (upward k (p + 1) b (at + 2048)) d' (p + 0) (elsewhere-before (p + 0) k (p + 1) b (at + 2048) (omega arith))
    ∙ ap₂ (λ (y z : ℕ). mark (landed (landing y c) z x d) (p + 0)) en ep
    ∙ ap (λ (y : ℕ). mark (landed (landing (n + 0) c) (p + 0) (part b y 2048) d) (p + 0)) ea
upward-mark (suc k) n c p b at d (suc i) h hd =
    let x : List ℕ = part b at 2048 in
    let d' : Disc = landed (landing n c) p x d in
    let long : length d'.marks ≡ length d.marks = landed-marks-length (landing n c) p x d in
    let y : List ℕ = part b (at + 2048 + 2048 * i) 2048 in
    let q : ℕ = p + 1 + i in
    let en : n + 1 + i ≡ n + suc i = omega arith in
    let ep : p + 1 + i ≡ p + suc i = omega arith in
    let ea : at + 2048 + 2048 * i ≡ at + 2048 * suc i = omega arith in
    ap (mark (writes (n + 1) c (upward k (p + 1) b (at + 2048)) d')) (sym ep)
    ∙ upward-mark k (n + 1) c (p + 1) b (at + 2048) d' i (omega arith) (omega arith)
    ∙ landed-mark-agree (landing (n + 1 + i) c) q y d' d (omega arith) (omega arith) (mark-other (landing n c) p x d q (λ e. omega arith))
    ∙ ap₂ (λ (u v : ℕ). mark (landed (landing u c) v y d) v) en ep
    ∙ ap (λ (u : ℕ). mark (landed (landing (n + suc i) c) (p + suc i) (part b u 2048) d) (p + suc i)) ea

-- a run of which every write is done leaves its bytes
pub upward-joined : (k n : ℕ) (c : Cut) (p : ℕ) (b : List ℕ) (at : ℕ) (d : Disc) → Made d → p + k ≤ length d.marks → at + 2048 * k ≤ length b → ((i : ℕ) → i < k → landing (n + i) c ≡ Landing.Done) → joined (writes n c (upward k p b at) d) p k ≡ part b at (2048 * k)
upward-joined k n c p b at d m hd hb done =
    joined-parts k (writes n c (upward k p b at) d) p b at λ i h.
    upward-sector k n c p b at d i h m hd hb
    ∙ ap (λ (l : Landing). sector (landed l (p + i) (part b (at + 2048 * i) 2048) d) (p + i)) (done i h)
    ∙ sector-done (p + i) (part b (at + 2048 * i) 2048) d (length_part b (at + 2048 * i) 2048 (omega arith)) (omega arith) m

-- and its sectors recorded
pub upward-recorded_run : (k n : ℕ) (c : Cut) (p : ℕ) (b : List ℕ) (at : ℕ) (d : Disc) → p + k ≤ length d.marks → ((i : ℕ) → i < k → landing (n + i) c ≡ Landing.Done) → recorded_run (writes n c (upward k p b at) d) p k ≡ true
upward-recorded_run k n c p b at d hd done =
    recorded_run-all (writes n c (upward k p b at) d) p k λ i h.
    upward-mark k n c p b at d i h hd
    ∙ ap (λ (l : Landing). mark (landed l (p + i) (part b (at + 2048 * i) 2048) d) (p + i)) (done i h)
    ∙ mark-done (p + i) (part b (at + 2048 * i) 2048) d (omega arith)
