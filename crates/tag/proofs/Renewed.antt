-- Laws of a tag that is tested and renewed: a renewed tag is sound, only bytes 4, 8 and 9 change, and what was sound stays as it was. Others may cite
-- all of them; `crc-told` and `renew-told` serve the functions of this crate. Assumes nothing.
use Rattle.std.proofs.Common.{◌≡◌, ℕ, suc, ◌+◌, ◌-◌, ◌<◌, ◌≤◌, true, eqb, ◌⊎◌, List, length, get_or, take, drop, set, sym, ap, ◌∙◌, subst, ap₂, inl, inr, arith, lit<, length-drop, length-set, get_or-drop, get_or-set_other, get_or-set_same, ext_get_or, set-set, eq-eqb, eqb-true}
use native.Mathlib.Decide.{ℕ_discrete, dec_le}
use lib.Seq.{set-get_or}
use Rattle.fields.specs.Bytes.{part, splice}
use Rattle.fields.specs.Number.{field, digits, value}
use Rattle.fields.proofs.Laws.{by-dec, AllBytes, length_digits, length-splice, number-back, digits-field, splice-own, get_or-splice-before, get_or-splice-after, get_or-splice-inside, bytes-splice, digits-below}
use Rattle.fields.proofs.Tests.{both, together}
use Rattle.tag.specs.Checksum.{checksum_of}
use Rattle.tag.specs.Crc.{crc_from}
use Rattle.tag.specs.Sound.{crc_of, sound, covered, renewed}
use Rattle.tag.proofs.Laws.{crc-below, checksum-set, checksum-below}

-- ---- a sound tag

pub sound-sum : (b : List ℕ) → sound b ≡ true → get_or b 4 0 ≡ checksum_of b
unfolding sound
sound-sum b e = eqb-true _ _ (both (eqb (get_or b 4 0) (checksum_of b)) (eqb (field b 8 2) (crc_of b)) e).0

pub sound-crc : (b : List ℕ) → sound b ≡ true → field b 8 2 ≡ crc_of b
unfolding sound
sound-crc b e = eqb-true _ _ (both (eqb (get_or b 4 0) (checksum_of b)) (eqb (field b 8 2) (crc_of b)) e).1

-- and the other way round
pub sound-so : (b : List ℕ) → get_or b 4 0 ≡ checksum_of b → field b 8 2 ≡ crc_of b → sound b ≡ true
unfolding sound
sound-so b s c = together (eq-eqb _ _ s) (eq-eqb _ _ c)

-- the CRC, where the bytes are taken up to the end that the tag says
pub crc-told : (b : List ℕ) (end : ℕ) → end ≡ 16 + field b 10 2 → crc_from 0 (take (end - 16) (drop 16 b)) ≡ crc_of b
unfolding crc_of part
crc-told b end e =
    let n : end - 16 ≡ field b 10 2 = omega (arith, e) in ap (λ (m : ℕ). crc_from 0 (take m (drop 16 b))) n

-- ---- what the CRC sees

-- two lists that agree on every byte from a place on have the same part there
part_same : (x y : List ℕ) (at w : ℕ) → length x ≡ length y → ((k : ℕ) → at ≤ k → get_or x k 0 ≡ get_or y k 0) → part x at w ≡ part y at w
unfolding part
part_same x y at w e h =
    ap (take w)
    (ext_get_or 0 (drop at x) (drop at y) (simp length-drop (omega arith)) (λ i l. get_or-drop at x i 0 ∙ h (at + i) (omega arith) ∙ sym (get_or-drop at y i 0)))

field-same : (x y : List ℕ) (at w : ℕ) → length x ≡ length y → ((k : ℕ) → at ≤ k → get_or x k 0 ≡ get_or y k 0) → field x at w ≡ field y at w
unfolding field
field-same x y at w e h = ap value (part_same x y at w e h)

-- the CRC sees the bytes from 10 on alone
crc-same : (x y : List ℕ) → length x ≡ length y → ((k : ℕ) → 10 ≤ k → get_or x k 0 ≡ get_or y k 0) → crc_of x ≡ crc_of y
unfolding crc_of
crc-same x y e h =
    ap (λ (n : ℕ). crc_from 0 (part x 16 n)) (field-same x y 10 2 e h)
    ∙ ap (crc_from 0) (part_same x y 16 (field y 10 2) e (λ k l. h k (omega arith)))

-- ---- a renewed tag

module _ (b : List ℕ) (long : 16 ≤ length b) where
  inside : 8 + length (digits 2 (crc_of b)) ≤ length b
  inside = let e = length_digits 2 (crc_of b) in omega arith

  covered-long : length (covered b) ≡ length b
  unfolding covered
  covered-long = length-splice b 8 (digits 2 (crc_of b)) inside

  covered-other : (k : ℕ) → (k < 8) ⊎ (10 ≤ k) → get_or (covered b) k 0 ≡ get_or b k 0
  unfolding covered
  covered-other k (inl l) = get_or-splice-before b 8 (digits 2 (crc_of b)) k inside l
  covered-other k (inr l) = get_or-splice-after b 8 (digits 2 (crc_of b)) k inside (let e = length_digits 2 (crc_of b) in omega arith)

  pub renewed-long : length (renewed b) ≡ length b
  unfolding renewed
  renewed-long = length-set (covered b) 4 _ ∙ covered-long

  -- only bytes 4, 8 and 9 change
  pub renewed-other : (k : ℕ) → (k ≡ 4 → ⊥) → (k < 8) ⊎ (10 ≤ k) → get_or (renewed b) k 0 ≡ get_or b k 0
  unfolding renewed
  renewed-other k n o = get_or-set_other (covered b) 4 k _ 0 n ∙ covered-other k o

  number : field (covered b) 8 2 ≡ crc_of b
  unfolding covered crc_of
  number = number-back b 8 2 (crc_of b) (crc-below 0 (part b 16 (field b 10 2)) (lit< tt)) (omega arith)

  -- a renewed tag is sound
  pub renewed-sound : sound (renewed b) ≡ true
  unfolding renewed
  renewed-sound =
      let s = checksum_of (covered b) in
      sound-so (renewed b)
      (get_or-set_same (covered b) 4 s 0 (let e = covered-long in omega arith) ∙ sym (checksum-set (covered b) s))
      (field-same (renewed b) (covered b) 8 2 (length-set (covered b) 4 s) (λ k l. get_or-set_other (covered b) 4 k s 0 (λ z. omega arith))
      ∙ number
      ∙ sym (crc-same (renewed b) b renewed-long (λ k l. renewed-other k (λ z. omega arith) (inr l))))

  -- bytes stay bytes
  pub renewed-bytes : AllBytes b → AllBytes (renewed b)
  unfolding renewed covered
  renewed-bytes a k =
      by-dec
      (λ z.
      subst (λ (y : ℕ). y < 256)
      (sym (ap (λ (j : ℕ). get_or (renewed b) j 0) z ∙ get_or-set_same (covered b) 4 (checksum_of (covered b)) 0 (let e = covered-long in omega arith)))
      (checksum-below (covered b)))
      (λ z.
      subst (λ (y : ℕ). y < 256)
      (sym (get_or-set_other (covered b) 4 k (checksum_of (covered b)) 0 z))
      (bytes-splice b 8 (digits 2 (crc_of b)) a (digits-below 2 (crc_of b)) k))
      (ℕ_discrete k 4)

  -- what was sound stays as it was
  pub sound-kept : AllBytes b → sound b ≡ true → renewed b ≡ b
  unfolding renewed covered
  sound-kept a r =
      let c : covered b ≡ b =
      ap (λ (n : ℕ). splice b 8 (digits 2 n)) (sym (sound-crc b r))
      ∙ ap (λ (x : List ℕ). splice b 8 x) (digits-field b 8 2 a (omega arith))
      ∙ splice-own b 8 2 (omega arith) in
      ap (λ (x : List ℕ). set x 4 (checksum_of x)) c ∙ ap (λ (n : ℕ). set b 4 n) (sym (sound-sum b r)) ∙ set-get_or b 4 0

-- bytes 8 and 9 are the CRC's
covered-inside : (x y : List ℕ) → 16 ≤ length x → 16 ≤ length y → crc_of x ≡ crc_of y → (k : ℕ) → 8 ≤ k → k < 10 → get_or (covered x) k 0 ≡ get_or (covered y) k 0
unfolding covered
covered-inside x y lx ly e k l u =
    let i = k - 8 in
    let s : 8 + i ≡ k = omega arith in
    ap (λ (j : ℕ). get_or (covered x) j 0) (sym s)
    ∙ get_or-splice-inside x 8 (digits 2 (crc_of x)) i (inside x lx) (let m = length_digits 2 (crc_of x) in omega arith)
    ∙ ap (λ (n : ℕ). get_or (digits 2 n) i 0) e
    ∙ sym (ap (λ (j : ℕ). get_or (covered y) j 0) (sym s) ∙ get_or-splice-inside y 8 (digits 2 (crc_of y)) i (inside y ly) (let m = length_digits 2 (crc_of y) in omega arith))

-- lists that differ in bytes 4, 8 and 9 alone are the same once renewed
pub renewed-same : (x y : List ℕ) → 16 ≤ length x → length x ≡ length y → ((k : ℕ) → (k ≡ 4 → ⊥) → (k < 8) ⊎ (10 ≤ k) → get_or x k 0 ≡ get_or y k 0) → renewed x ≡ renewed y
unfolding renewed
renewed-same x y long e h =
    let ly : 16 ≤ length y = omega arith in
    let crc : crc_of x ≡ crc_of y = crc-same x y e (λ k l. h k (λ z. omega arith) (inr l)) in
    let cx = covered x in
    let cy = covered y in
    let le : length cx ≡ length cy = covered-long x long ∙ e ∙ sym (covered-long y ly) in
    let zero_same : set cx 4 0 ≡ set cy 4 0 =
    ext_get_or 0 (set cx 4 0) (set cy 4 0) (length-set cx 4 0 ∙ le ∙ sym (length-set cy 4 0))
    (λ k l.
    by-dec
    (λ z.
    ap (λ (j : ℕ). get_or (set cx 4 0) j 0) z
    ∙ get_or-set_same cx 4 0 0 (let m = covered-long x long in omega arith)
    ∙ sym (ap (λ (j : ℕ). get_or (set cy 4 0) j 0) z ∙ get_or-set_same cy 4 0 0 (let m = covered-long y ly in omega arith)))
    (λ z. get_or-set_other cx 4 k 0 0 z ∙ each x y long ly crc h k z ∙ sym (get_or-set_other cy 4 k 0 0 z))
    (ℕ_discrete k 4)) in
    let sum : checksum_of cx ≡ checksum_of cy = sym (checksum-set cx 0) ∙ ap checksum_of zero_same ∙ checksum-set cy 0 in
    sym (set-set cx 4 0 (checksum_of cx)) ∙ ap₂ (λ (l : List ℕ) (n : ℕ). set l 4 n) zero_same sum ∙ set-set cy 4 0 (checksum_of cy)
  where
    each : (x y : List ℕ) → 16 ≤ length x → 16 ≤ length y → crc_of x ≡ crc_of y → ((k : ℕ) → (k ≡ 4 → ⊥) → (k < 8) ⊎ (10 ≤ k) → get_or x k 0 ≡ get_or y k 0)
        → (k : ℕ) → (k ≡ 4 → ⊥) → get_or (covered x) k 0 ≡ get_or (covered y) k 0
    each x y lx ly crc h k z =
        by-dec
        (λ l. covered-other x lx k (inl l) ∙ h k z (inl l) ∙ sym (covered-other y ly k (inl l)))
        (λ l.
        by-dec
        (λ m. covered-other x lx k (inr m) ∙ h k z (inr m) ∙ sym (covered-other y ly k (inr m)))
        (λ m. covered-inside x y lx ly crc k (omega (arith, l)) (omega (arith, m)))
        (dec_le 10 k))
        (dec_le (suc k) 8)

-- ---- for the code

-- the CRC written, then the checksum
pub renew-told : (b w : List ℕ) (crc sum end : ℕ) → end ≡ 16 + field b 10 2 → crc ≡ crc_from 0 (take (end - 16) (drop 16 b)) → w ≡ splice b 8 (digits 2 crc) → sum ≡ checksum_of w
    → set w 4 sum ≡ renewed b
unfolding renewed covered
renew-told b w crc sum end en ec ew es =
    let v : w ≡ covered b = ew ∙ ap (λ (k : ℕ). splice b 8 (digits 2 k)) (ec ∙ crc-told b end en) in
    ap₂ (λ (l : List ℕ) (k : ℕ). set l 4 k) v (es ∙ ap checksum_of v)
