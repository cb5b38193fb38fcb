-- Laws of the pieces that a VAT file is written in (specs/Parts.antt). Assumes nothing.
use Prim.Native.Nat.{ℕ, zero, suc, ◌+◌, ◌-◌, ◌*◌, ◌/◌, ◌%◌, ◌≤◌, ◌<◌, min}
use mathlib.Core.Path.{◌≡◌, refl, sym, ap, ◌∙◌}
use mathlib.Core.List.{List, [], ◌∷◌, ◌++◌, append-nil}
use native.Mathlib.Omega.{arith}
use lib.ListN.{length, take, drop, get_or, replicate, length-append, length-take, length-drop, length-replicate, drop_of_length-le, get_or-append, get_or-eq_default}
use lib.Seq.{ext_get_or, get_or-append-add, get_or-drop, take_at, drop-nil, take-nil}
use Rattle.fields.specs.Bytes.{part, splice}
use Rattle.fields.specs.Number.{digits, quads}
use Rattle.fields.specs.Regid.{identifier, regid}
use Rattle.fields.proofs.Laws.{length_part, get_or-part, length-splice}
use Rattle.fields.proofs.Words.{length-quads}
use Rattle.model.specs.Vat.{vat_name}
use Rattle.model.specs.VatWritten.{data_sectors, written_file, filled, written_data}
use Rattle.model.proofs.Basics.{by-lt}
use Rattle.vat_file_written.specs.Parts.{tail, onward, file_from}

-- ---- zeros past the end

-- a byte of zeros, and past their end, is 0
get_or-zeros : (n i : ℕ) → get_or {A = ℕ} (replicate n 0) i 0 ≡ 0
get_or-zeros zero i = refl
get_or-zeros (suc n) zero = refl
get_or-zeros (suc n) (suc i) = get_or-zeros n i

-- a byte of a list that is filled up with zeros is the list's, 0 past its end
get_or-filled : (n : ℕ) (b : List ℕ) (i : ℕ) → get_or (filled n b) i 0 ≡ get_or b i 0
unfolding filled
get_or-filled n b i =
    let zeros : List ℕ = replicate (n - length b) 0 in
    by-lt i (length b)
    (λ h. get_or-append b zeros 0 i h)
    (λ h.
    let m : ℕ = i - length b in
    let e : i ≡ length b + m = omega arith in
    ap (λ (j : ℕ). get_or (b ++ zeros) j 0) e
    ∙ get_or-append-add b zeros m 0
    ∙ get_or-zeros (n - length b) m
    ∙ sym (get_or-eq_default b 0 h))

-- a list that is filled up to n bytes has n at least
filled-least : (n : ℕ) (b : List ℕ) → n ≤ length (filled n b)
unfolding filled
filled-least n b = simp (length-append, length-replicate) (omega arith)

-- the bytes from a place on are as many as were asked for
pub length-onward : (b : List ℕ) (from w : ℕ) → length (onward b from w) ≡ w
unfolding onward
length-onward b from w = length_part (filled (from + w) b) from w (filled-least (from + w) b)

-- and each is the list's, 0 past its end
pub get_or-onward : (b : List ℕ) (from w i : ℕ) → i < w → get_or (onward b from w) i 0 ≡ get_or b (from + i) 0
unfolding onward
get_or-onward b from w i h = get_or-part (filled (from + w) b) from w i h ∙ get_or-filled (from + w) b (from + i)

-- it does not matter how far the list was filled up
pub part_filled : (n : ℕ) (b : List ℕ) (at w : ℕ) → at + w ≤ n → part (filled n b) at w ≡ onward b at w
part_filled n b at w h =
    let l : length (part (filled n b) at w) ≡ w = length_part (filled n b) at w (omega (arith, filled-least n b)) in
    ext_get_or 0 (part (filled n b) at w) (onward b at w) (l ∙ sym (length-onward b at w))
    (λ i k. get_or-part (filled n b) at w i (omega arith) ∙ get_or-filled n b (at + i) ∙ sym (get_or-onward b at w i (omega arith)))

-- ---- the rest of some lent bytes, lent on

-- it is all that follows
pub length_rest : (a : List ℕ) (at : ℕ) → length (take (length a - at) (drop at a)) ≡ length a - at
length_rest a at = length-take (length a - at) (drop at a) ∙ omega (arith, length-drop at a)

-- so what comes back, y, stands in the place of all that follows
pub rest-lent : (a y : List ℕ) (at : ℕ) → take at a ++ (y ++ drop (length a - at) (drop at a)) ≡ take at a ++ y
rest-lent a y at =
    let none : drop (length a - at) (drop at a) ≡ [] = drop_of_length-le (drop at a) {i = length a - at} (omega (arith, length-drop at a)) in
    ap (λ (x : List ℕ). take at a ++ (y ++ x)) none ∙ ap (λ (x : List ℕ). take at a ++ x) (append-nil y)

-- the front of some bytes with b spliced in at their start is b
front-spliced : (s b : List ℕ) (n : ℕ) → length b ≡ n → take n (splice s 0 b) ≡ b
unfolding splice
front-spliced s b n e = take_at b (drop (0 + length b) s) n e

-- ---- the tail

-- it has 36 bytes
pub length-tail : (previous : ℕ) → length (tail previous) ≡ 36
unfolding tail regid identifier vat_name digits
length-tail previous = refl

-- the two fields, put into 36 zeros
pub tail_written : (a b : List ℕ) (previous : ℕ) → a ≡ splice (replicate 36 0) 0 (regid vat_name) → b ≡ splice a 32 (digits 4 previous) → b ≡ tail previous
unfolding tail splice regid identifier vat_name digits
tail_written a b previous ea eb = eb ∙ ap (λ (x : List ℕ). splice x 32 (digits 4 previous)) ea

-- a byte of zeros into which p is put at their start: p's, 0 past its end
put_byte : (p : List ℕ) (w i : ℕ) → get_or (splice (replicate w 0) 0 p) i 0 ≡ get_or p i 0
unfolding splice
put_byte p w i =
    let rest : List ℕ = drop (0 + length p) (replicate w 0) in
    by-lt i (length p)
    (λ h. get_or-append p rest 0 i h)
    (λ h.
    let e : i ≡ length p + (i - length p) = omega arith in
    ap (λ (j : ℕ). get_or (p ++ rest) j 0) e
    ∙ get_or-append-add p rest (i - length p) 0
    ∙ get_or-drop (0 + length p) (replicate w 0) (i - length p) 0
    ∙ get_or-zeros w (0 + length p + (i - length p))
    ∙ sym (get_or-eq_default p 0 h))

-- as much of t as falls into w zeros, put there
module _ (t : List ℕ) (from w begun count : ℕ) (eb : begun ≡ min from (length t)) (ec : count ≡ min (length t - begun) w) where
  length-begun : length (part t begun count) ≡ count
  length-begun = length_part t begun count (omega arith)

  begun-byte : (i : ℕ) → i < w → get_or (part t begun count) i 0 ≡ get_or t (from + i) 0
  begun-byte i h =
      by-lt i count
      (λ k. let e : begun + i ≡ from + i = omega arith in get_or-part t begun count i k ∙ ap (λ (j : ℕ). get_or t j 0) e)
      (λ k. get_or-eq_default (part t begun count) 0 (omega (arith, length-begun)) ∙ sym (get_or-eq_default t 0 (omega arith)))

  length-put : length (splice (replicate w 0) 0 (part t begun count)) ≡ w
  length-put =
      length-splice (replicate w 0) 0 (part t begun count) (simp length-replicate (omega (arith, length-begun))) ∙ length-replicate {A = ℕ} w 0

  spliced-onward : splice (replicate w 0) 0 (part t begun count) ≡ onward t from w
  spliced-onward =
      ext_get_or 0 (splice (replicate w 0) 0 (part t begun count)) (onward t from w) (length-put ∙ sym (length-onward t from w))
      (λ i h.
      put_byte (part t begun count) w i
      ∙ begun-byte i (omega (arith, length-put))
      ∙ sym (get_or-onward t from w i (omega (arith, length-put))))

  pub put_onward : part t begun count ++ drop count (replicate w 0) ≡ onward t from w
  unfolding splice
  put_onward =
      let e : count ≡ 0 + length (part t begun count) = omega (arith, length-begun) in
      ap (λ (k : ℕ). part t begun count ++ drop k (replicate w 0)) e ∙ spliced-onward

-- ---- entries

-- the bytes of the first n numbers
quads-take : (n : ℕ) (t : List ℕ) → quads (take n t) ≡ take (4 * n) (quads t)
unfolding quads digits
quads-take zero t = refl
quads-take (suc n) [] = sym (take-nil (4 * suc n))
quads-take (suc n) (x ∷ t) =
    let e : 4 * suc n ≡ suc (suc (suc (suc (4 * n)))) = omega arith in
    ap (λ (l : List ℕ). digits 4 x ++ l) (quads-take n t) ∙ ap (λ (k : ℕ). take k (digits 4 x ++ quads t)) (sym e)

-- and of all but the first n
quads-drop : (n : ℕ) (t : List ℕ) → quads (drop n t) ≡ drop (4 * n) (quads t)
unfolding quads digits
quads-drop zero t = refl
quads-drop (suc n) [] = sym (drop-nil (4 * suc n))
quads-drop (suc n) (x ∷ t) =
    let e : 4 * suc n ≡ suc (suc (suc (suc (4 * n)))) = omega arith in
    quads-drop n t ∙ ap (λ (k : ℕ). drop k (digits 4 x ++ quads t)) (sym e)

-- the bytes of a run of numbers
quads-part : (t : List ℕ) (first count : ℕ) → quads (part t first count) ≡ part (quads t) (4 * first) (4 * count)
unfolding part
quads-part t first count = quads-take count (drop first t) ∙ ap (take (4 * count)) (quads-drop first t)

-- the entries from one place to another
pub entries-part : (t : List ℕ) (first count : ℕ) → take (first + count - first) (drop first t) ≡ part t first count
unfolding part
entries-part t first count = let e : first + count - first ≡ count = omega arith in ap (λ (k : ℕ). take k (drop first t)) e

-- ---- the file: entries, and the tail straight after the last one

-- the entries t are written from entry `first` on into w bytes: `count` of them, from `begun` on, fall into the bytes
module _ (t : List ℕ) (previous first begun count w : ℕ) (hw : w % 4 ≡ 0) (eb : begun ≡ min first (length t)) (ec : count ≡ min (length t - begun) (w / 4)) where
  -- the bytes of the entries that fall into them
  entries-long : length (quads (part t begun count)) ≡ 4 * count
  entries-long =
      length-quads (part t begun count) ∙ ap (λ (k : ℕ). 4 * k) (length_part t begun count (omega arith))

  -- a byte of an entry
  entry-byte : (i : ℕ) → i < 4 * count → get_or (quads (part t begun count)) i 0 ≡ get_or (written_file t previous) (4 * first + i) 0
  unfolding written_file
  entry-byte i h =
      let e : 4 * begun + i ≡ 4 * first + i = omega arith in
      let l : 4 * first + i < 4 * length t = omega arith in
      ap (λ (x : List ℕ). get_or x i 0) (quads-part t begun count)
      ∙ get_or-part (quads t) (4 * begun) (4 * count) i h
      ∙ ap (λ (j : ℕ). get_or (quads t) j 0) e
      ∙ sym (get_or-append (quads t) (regid vat_name ++ digits 4 previous) 0 (4 * first + i) (omega (arith, length-quads t)))

  -- a byte past the entries
  tail-byte : (i : ℕ) → 4 * count ≤ i → i < w → get_or (onward (tail previous) (4 * (first - begun)) (w - 4 * count)) (i - 4 * count) 0 ≡ get_or (written_file t previous) (4 * first + i) 0
  unfolding written_file tail
  tail-byte i h k =
      let m : ℕ = 4 * (first - begun) + (i - 4 * count) in
      let e : 4 * first + i ≡ 4 * length t + m = omega arith in
      get_or-onward (tail previous) (4 * (first - begun)) (w - 4 * count) (i - 4 * count) (omega arith)
      ∙ sym (get_or-append-add (quads t) (tail previous) m 0)
      ∙ ap (λ (j : ℕ). get_or (quads t ++ tail previous) (j + m) 0) (length-quads t)
      ∙ ap (λ (j : ℕ). get_or (quads t ++ tail previous) j 0) (sym e)

  -- a byte of both
  piece_byte : (i : ℕ) → i < w → get_or (quads (part t begun count) ++ onward (tail previous) (4 * (first - begun)) (w - 4 * count)) i 0 ≡ get_or (written_file t previous) (4 * first + i) 0
  piece_byte i k =
      let entries : List ℕ = quads (part t begun count) in
      let rest : List ℕ = onward (tail previous) (4 * (first - begun)) (w - 4 * count) in
      by-lt i (4 * count)
      (λ h. get_or-append entries rest 0 i (omega (arith, entries-long)) ∙ entry-byte i h)
      (λ h.
      let e : i ≡ 4 * count + (i - 4 * count) = omega arith in
      ap (λ (j : ℕ). get_or (entries ++ rest) j 0) e
      ∙ ap (λ (j : ℕ). get_or (entries ++ rest) (j + (i - 4 * count)) 0) (sym entries-long)
      ∙ get_or-append-add entries rest (i - 4 * count) 0
      ∙ tail-byte i h k)

  -- both are w bytes
  pieces-long : length (quads (part t begun count) ++ onward (tail previous) (4 * (first - begun)) (w - 4 * count)) ≡ w
  pieces-long =
      length-append (quads (part t begun count)) (onward (tail previous) (4 * (first - begun)) (w - 4 * count))
      ∙ omega (arith, entries-long, length-onward (tail previous) (4 * (first - begun)) (w - 4 * count))

  -- the entries, and the tail straight after them, are the file's bytes
  file-pieces : quads (part t begun count) ++ onward (tail previous) (4 * (first - begun)) (w - 4 * count) ≡ file_from t previous first w
  unfolding file_from
  file-pieces =
      let file : List ℕ = written_file t previous in
      ext_get_or 0 (quads (part t begun count) ++ onward (tail previous) (4 * (first - begun)) (w - 4 * count)) (onward file (4 * first) w)
      (pieces-long ∙ sym (length-onward file (4 * first) w))
      (λ i h. piece_byte i (omega (arith, pieces-long)) ∙ sym (get_or-onward file (4 * first) w i (omega (arith, pieces-long))))

  -- what is left of the lent bytes s: a has the entries in it, and the rest of a was lent on and came back as y
  pub file-left : (s a y : List ℕ) → length s ≡ w → a ≡ splice s 0 (quads (part t begun count)) → y ≡ onward (tail previous) (4 * (first - begun)) (length (take (length a - 4 * count) (drop (4 * count) a)))
      → take (4 * count) a ++ (y ++ drop (length a - 4 * count) (drop (4 * count) a)) ≡ file_from t previous first w
  file-left s a y es ea ey =
      let entries : List ℕ = quads (part t begun count) in
      let long : length a ≡ w = ap length ea ∙ length-splice s 0 entries (omega (arith, entries-long)) ∙ es in
      let size : length (take (length a - 4 * count) (drop (4 * count) a)) ≡ w - 4 * count = length_rest a (4 * count) ∙ ap (λ (k : ℕ). k - 4 * count) long in
      rest-lent a y (4 * count)
      ∙ ap (λ (x : List ℕ). x ++ y) (ap (take (4 * count)) ea ∙ front-spliced s entries (4 * count) entries-long)
      ∙ ap (λ (x : List ℕ). entries ++ x) (ey ∙ ap (onward (tail previous) (4 * (first - begun))) size)
      ∙ file-pieces

-- ---- data sectors

-- data sector number i is the file from entry 512 i on
pub data-written : (t y : List ℕ) (previous i w : ℕ) → i < data_sectors (length t) → w ≡ 2048 → y ≡ file_from t previous (512 * i) w
    → y ≡ part (written_data t previous) (2048 * i) 2048
unfolding file_from written_data
data-written t y previous i w hi ew ey =
    let file : List ℕ = written_file t previous in
    let e : 4 * (512 * i) ≡ 2048 * i = omega arith in
    let most : 2048 * i + 2048 ≤ 2048 * data_sectors (length t) = omega arith in
    ey
    ∙ ap (onward file (4 * (512 * i))) ew
    ∙ ap (λ (at : ℕ). onward file at 2048) e
    ∙ sym (part_filled (2048 * data_sectors (length t)) file (2048 * i) 2048 most)
