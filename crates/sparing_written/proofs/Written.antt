-- Laws of a table as it is written: its entries, the fields before them, and the whole sector. Assumes nothing.
use Prim.Native.Nat.{ℕ, ◌+◌, ◌-◌, ◌*◌, ◌/◌, ◌≤◌, ◌<◌}
use mathlib.Core.Path.{◌≡◌, refl, sym, ap, ap₂, ◌∙◌}
use mathlib.Core.List.{List, [], ◌∷◌, ◌++◌, append_assoc, append-nil}
use native.Mathlib.Omega.{arith}
use native.Mathlib.Numerals.{add-one}
use lib.ListN.{length, get_or, take, drop, replicate, length-append}
use lib.Seq.{take-suc, take_at, drop-append-add, length-take-le}
use Rattle.fields.specs.Bytes.{splice, part, join}
use Rattle.fields.specs.Number.{digits, quads}
use Rattle.fields.specs.Regid.{regid, identifier}
use Rattle.fields.proofs.Laws.{splice-append, length_part, drop-zeros}
use Rattle.fields_written.proofs.Laws.{writing-on}
use Rattle.model.specs.Vat.{none}
use Rattle.model.specs.VatWritten.{filled}
use Rattle.model.specs.Sparing.{Entry, sparing_name, flat, defective, written_table}
use Rattle.model.specs.Both.{spare_entries}
use Rattle.model.proofs.SparingLaws.{length-flat}
use Rattle.sparing_copy.proofs.Entries.{length-spares}
use Rattle.sparing_written.specs.Written.{begun, spared_numbers, respared_numbers}

-- ---- an entry

-- an entry, its two numbers one after the other
pub entry-written : (s x : List ℕ) (at o m : ℕ) → at + 8 ≤ length s → x ≡ splice s at (digits 4 o) → splice x (at + 4) (digits 4 m) ≡ splice s at (quads (o ∷ m ∷ []))
unfolding quads digits
entry-written s x at o m h e =
    ap (λ (y : List ℕ). splice y (at + 4) (digits 4 m)) e
    ∙ sym (splice-append s at (digits 4 o) (digits 4 m) h)

-- ---- the fields before the entries

fields-written : (n k : ℕ) → splice (splice (splice (replicate 2048 0) 16 (regid sparing_name)) 48 (digits 2 k)) 52 (digits 4 n) ≡ begun n k
unfolding splice begun filled join regid identifier sparing_name digits
fields-written n k = refl

-- cleared, then field by field
pub begun-written : (s x y z : List ℕ) (n k : ℕ) → s ≡ replicate 2048 0 → x ≡ splice s 16 (regid sparing_name) → y ≡ splice x 48 (digits 2 k) → z ≡ splice y 52 (digits 4 n) → z ≡ begun n k
begun-written s x y z n k es ex ey ez = (cc) ∙ fields-written n k

-- ---- the whole sector

-- the bytes before the entries
front : ℕ → ℕ → List ℕ
front n k = join (replicate 16 0 ∷ regid sparing_name ∷ digits 2 k ∷ replicate 2 0 ∷ digits 4 n ∷ [])

length_front : (n k : ℕ) → length (front n k) ≡ 56
unfolding front join regid identifier sparing_name digits
length_front n k = refl

put-behind : (a q z : List ℕ) → length a ≡ 56 → splice (a ++ z) 56 q ≡ a ++ (q ++ drop (length q) z)
unfolding splice
put-behind a q z e =
    ap₂ (λ (x y : List ℕ). x ++ (q ++ y)) (take_at a z 56 e)
    (ap (λ (k : ℕ). drop (k + length q) (a ++ z)) (sym e) ∙ drop-append-add a z (length q))

-- a sector is its first bytes, its numbers, and zeros
written-parts : (n : ℕ) (l : List ℕ) → written_table n l ≡ front n (length l / 2) ++ (quads l ++ replicate (2048 - length (front n (length l / 2) ++ quads l)) 0)
unfolding written_table filled join front regid identifier sparing_name digits
written-parts n l =
    ap (λ (q : List ℕ). front n (length l / 2) ++ (q ++ replicate (2048 - length (front n (length l / 2) ++ q)) 0)) (append-nil (quads l))

begun-parts : (n k : ℕ) → begun n k ≡ front n k ++ replicate 1992 0
unfolding begun filled front join regid identifier sparing_name digits
begun-parts n k = refl

-- the entries put in behind the first bytes
pub table-written : (n k : ℕ) (l : List ℕ) → k ≡ length l / 2 → 56 + 4 * length l ≤ 2048 → splice (begun n k) 56 (quads l) ≡ written_table n l
table-written n k l e h =
    let a : List ℕ = front n (length l / 2) in
    let z : 1992 - length (quads l) ≡ 2048 - length (a ++ quads l) = omega (arith, length-append a (quads l), length_front n (length l / 2)) in
    ap (λ (j : ℕ). splice (begun n j) 56 (quads l)) e
    ∙ ap (λ (b : List ℕ). splice b 56 (quads l)) (begun-parts n (length l / 2))
    ∙ put-behind a (quads l) (replicate 1992 0) (length_front n (length l / 2))
    ∙ ap (λ (b : List ℕ). a ++ (quads l ++ b)) (drop-zeros (length (quads l)) 1992 ∙ ap (λ (j : ℕ). replicate j 0) z)
    ∙ sym (written-parts n l)

-- ---- free entries

-- numbers of two lists of entries in a row
pub flat_append : (a b : List Entry) → flat (a ++ b) ≡ flat a ++ flat b
unfolding flat
flat_append [] b = refl
flat_append (e ∷ a) b = ap (λ (l : List ℕ). e.original ∷ e.mapped ∷ l) (flat_append a b)

spares-append : (a b : List ℕ) → spare_entries (a ++ b) ≡ spare_entries a ++ spare_entries b
unfolding spare_entries
spares-append [] b = refl
spares-append (m ∷ a) b = ap (λ (l : List Entry). record { original = none; mapped = m } ∷ l) (spares-append a b)

-- one spare more
pub spares-next : (s t : List ℕ) (i : ℕ) → i < length t → 56 + 8 * length t ≤ length s → splice (splice s 56 (quads (flat (spare_entries (take i t))))) (56 + 8 * i) (quads (0xffffffff ∷ get_or t i 0 ∷ [])) ≡ splice s 56 (quads (flat (spare_entries (take (i + 1) t))))
unfolding flat spare_entries none
spares-next s t i h l =
    let k = length-take-le i t (omega arith) in
    let f = length-flat (spare_entries (take i t)) in
    let n = length-spares (take i t) in
    writing-on s 56 (56 + 8 * i) (flat (spare_entries (take i t))) (0xffffffff ∷ get_or t i 0 ∷ []) (omega arith) (omega arith)
    ∙ ap (λ (x : List ℕ). splice s 56 (quads x))
    (sym
    (ap (λ (j : ℕ). flat (spare_entries (take j t))) (add-one i)
    ∙ ap (λ (x : List ℕ). flat (spare_entries x)) (take-suc t i 0 h)
    ∙ ap flat (spares-append (take i t) (get_or t i 0 ∷ []))
    ∙ flat_append (spare_entries (take i t)) (spare_entries (get_or t i 0 ∷ []))))

-- ---- the entries once a packet took a free one

-- numbers written straight after those that stand already, which are 2 * i
put_on : (s x y a b : List ℕ) (i : ℕ) → x ≡ splice s 56 (quads a) → y ≡ splice x (56 + 8 * i) (quads b) → length a ≡ 2 * i → 56 + 4 * (length a + length b) ≤ length s → y ≡ splice s 56 (quads (a ++ b))
put_on s x y a b i ex ey l h = ey ∙ ap (λ (z : List ℕ). splice z (56 + 8 * i) (quads b)) ex ∙ writing-on s 56 (56 + 8 * i) a b (omega arith) h

-- the parts of the lent table t of n entries, with a packet's place k and the free place u
module _ (t : List ℕ) (n p k u : ℕ) (hu : u < n) (ht : 2 * n ≤ length t) where
  -- those before the packet's place
  abbrev below : List ℕ
  below = take (2 * k) t

  -- its own entry
  abbrev own : List ℕ
  own = p ∷ get_or t (2 * u + 1) 0 ∷ []

  -- those behind the free one
  abbrev behind : List ℕ
  behind = part t (2 * u + 2) (2 * (n - u - 1))

  length-below : k ≤ u → length below ≡ 2 * k
  length-below h = length-take-le (2 * k) t (omega arith)

  length-behind : length behind ≡ 2 * (n - u - 1)
  length-behind = length_part t (2 * u + 2) (2 * (n - u - 1)) (omega arith)

  -- ---- a packet that had no entry
  module _ (hk : k ≤ u) where
    -- those up to the free one
    abbrev moved : List ℕ
    moved = part t (2 * k) (2 * (u - k))

    length_moved : length moved ≡ 2 * (u - k)
    length_moved = length_part t (2 * k) (2 * (u - k)) (omega arith)

    -- as many as before
    pub length-spared : length (spared_numbers t n p k u) ≡ 2 * n
    unfolding spared_numbers
    length-spared =
        length-append below (own ++ (moved ++ behind)) ∙ omega (arith, length-below hk, length_moved, length-behind, length-append moved behind)

    -- written part by part
    pub spared-written : (s x y z w : List ℕ) → 56 + 8 * n ≤ length s → x ≡ splice s 56 (quads (take (2 * k) t)) → y ≡ splice x (56 + 8 * k) (quads (p ∷ get_or t (2 * u + 1) 0 ∷ [])) → z ≡ splice y (56 + 8 * (k + 1)) (quads (take (2 * u - 2 * k) (drop (2 * k) t))) → w ≡ splice z (56 + 8 * (u + 1)) (quads (take (2 * n - (2 * u + 2)) (drop (2 * u + 2) t))) → w ≡ splice s 56 (quads (spared_numbers t n p k u))
    unfolding part spared_numbers
    spared-written s x y z w hs ex ey ez ew =
        let lb = length-below hk in
        let lm = length_moved in
        let le = length-behind in
        let jm : 2 * u - 2 * k ≡ 2 * (u - k) = omega arith in
        let je : 2 * n - (2 * u + 2) ≡ 2 * (n - u - 1) = omega arith in
        let l₁ : length (below ++ own) ≡ 2 * (k + 1) = length-append below own ∙ omega arith in
        let l₂ : length ((below ++ own) ++ moved) ≡ 2 * (u + 1) = length-append (below ++ own) moved ∙ omega arith in
        let fy = put_on s x y below own k ex ey lb (omega arith) in
        let fz = put_on s y z (below ++ own) moved (k + 1) fy (ez ∙ ap (λ (j : ℕ). splice y (56 + 8 * (k + 1)) (quads (take j (drop (2 * k) t)))) jm) l₁ (omega arith) in
        put_on s z w ((below ++ own) ++ moved) behind (u + 1) fz (ew ∙ ap (λ (j : ℕ). splice z (56 + 8 * (u + 1)) (quads (take j (drop (2 * u + 2) t)))) je) l₂ (omega arith)
        ∙ ap (λ (l : List ℕ). splice s 56 (quads l)) (append_assoc (below ++ own) moved behind ∙ append_assoc below own (moved ++ behind))

  -- ---- a packet whose entry is at place k
  module _ (hk : k < u) where
    -- those up to the free one, and its old spare
    abbrev between : List ℕ
    between = part t (2 * k + 2) (2 * (u - k - 1))

    abbrev old : List ℕ
    old = defective ∷ get_or t (2 * k + 1) 0 ∷ []

    length-between : length between ≡ 2 * (u - k - 1)
    length-between = length_part t (2 * k + 2) (2 * (u - k - 1)) (omega arith)

    -- as many as before
    pub length-respared : length (respared_numbers t n p k u) ≡ 2 * n
    unfolding respared_numbers
    length-respared =
        length-append below (own ++ (between ++ (old ++ behind)))
        ∙ omega (arith, length-below (omega arith), length-between, length-behind, length-append between (old ++ behind))

    -- written part by part
    pub respared-written : (s x y z w v : List ℕ) → 56 + 8 * n ≤ length s → x ≡ splice s 56 (quads (take (2 * k) t)) → y ≡ splice x (56 + 8 * k) (quads (p ∷ get_or t (2 * u + 1) 0 ∷ [])) → z ≡ splice y (56 + 8 * (k + 1)) (quads (take (2 * u - (2 * k + 2)) (drop (2 * k + 2) t))) → w ≡ splice z (56 + 8 * u) (quads (0xfffffff0 ∷ get_or t (2 * k + 1) 0 ∷ [])) → v ≡ splice w (56 + 8 * (u + 1)) (quads (take (2 * n - (2 * u + 2)) (drop (2 * u + 2) t))) → v ≡ splice s 56 (quads (respared_numbers t n p k u))
    unfolding part respared_numbers defective
    respared-written s x y z w v hs ex ey ez ew ev =
        let lb = length-below (omega arith) in
        let lm = length-between in
        let le = length-behind in
        let jm : 2 * u - (2 * k + 2) ≡ 2 * (u - k - 1) = omega arith in
        let je : 2 * n - (2 * u + 2) ≡ 2 * (n - u - 1) = omega arith in
        let l₁ : length (below ++ own) ≡ 2 * (k + 1) = length-append below own ∙ omega arith in
        let l₂ : length ((below ++ own) ++ between) ≡ 2 * u = length-append (below ++ own) between ∙ omega arith in
        let l₃ : length (((below ++ own) ++ between) ++ old) ≡ 2 * (u + 1) = length-append ((below ++ own) ++ between) old ∙ omega arith in
        let fy = put_on s x y below own k ex ey lb (omega arith) in
        let fz = put_on s y z (below ++ own) between (k + 1) fy (ez ∙ ap (λ (j : ℕ). splice y (56 + 8 * (k + 1)) (quads (take j (drop (2 * k + 2) t)))) jm) l₁ (omega arith) in
        let fw = put_on s z w ((below ++ own) ++ between) old u fz ew l₂ (omega arith) in
        put_on s w v (((below ++ own) ++ between) ++ old) behind (u + 1) fw (ev ∙ ap (λ (j : ℕ). splice w (56 + 8 * (u + 1)) (quads (take j (drop (2 * u + 2) t)))) je) l₃ (omega arith)
        ∙ ap (λ (l : List ℕ). splice s 56 (quads l))
        (append_assoc ((below ++ own) ++ between) old behind ∙ append_assoc (below ++ own) between (old ++ behind) ∙ append_assoc below own (between ++ (old ++ behind)))
