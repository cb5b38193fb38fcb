-- Laws of the file of an ICB by position: the bytes of its extents stand where `position_of` says, none of them outside the disc, and the file
-- has F bytes. Assumes nothing.
use Prim.Native.Nat.{ℕ, suc, min, ◌+◌, ◌-◌, ◌*◌, ◌%◌, ◌^◌, ◌≤◌, ◌<◌}
use mathlib.Core.Path.{◌≡◌, refl, sym, ap, ap₂, ◌∙◌}
use mathlib.Core.Bool.{true}
use mathlib.Core.List.{List, [], ◌∷◌, ◌++◌}
use native.Mathlib.Omega.{arith}
use lib.Dec.{eqb, leb, ltb}
use lib.ListN.{length, get_or, take, drop, length-append}
use lib.Seq.{length-take-le, take-take}
use Rattle.std.proofs.Math.Nat.{suc-mul, mul-le-mul}
use borrow.Author.Tests.{eq-eqb, ne_eqb, eqb-true, eqb-false, le-leb, leb-true, lt-ltb, le-ltb}
use Rattle.fields.specs.Bytes.{part}
use Rattle.fields.proofs.Laws.{length_part, get_or-part, part-append, part-append-add, part-part, part-take}
use Rattle.address.specs.Translation.{most_sectors}
use Rattle.model.specs.Disc.{Disc, disc, recorded_run, joined}
use Rattle.model.specs.Vat.{Extent, form, file_length, attributes, allocation, entry_fits, extents, blocks_in, sizes_fit, sizes, blocks_fit, contents, allocation_fits, file_of}
use Rattle.model.proofs.Basics.{and-true, both, by_bool, by-lt}
use Rattle.model.proofs.SectorsRuns.{joined_bytes}
use Rattle.vat_icb.proofs.Entry.{entry_ends}
use Rattle.vat_icb.proofs.Laws.{extents_few}
use Rattle.vat_read.specs.File.{Lent, Filed, Standing, Together, file_in, position_of, left_of, on_disc, all_there}

-- ---- the blocks of an extent

-- they hold its bytes
blocks-cover : (n : ℕ) → n ≤ 2048 * blocks_in n
unfolding blocks_in
blocks-cover n = omega arith

-- and no more, where its length is a multiple of 2,048
blocks-whole : (n : ℕ) → n % 2048 ≡ 0 → 2048 * blocks_in n ≡ n
unfolding blocks_in
blocks-whole n h = omega arith

-- ---- how many bytes stand from one on

-- where it is in the first extent, and where it is behind it
left-first : (x : Extent) (l : List Extent) (o : ℕ) → o < x.size → left_of (x ∷ l) o ≡ x.size - o
unfolding left_of
left-first x l o lt = rw (lt-ltb _ _ lt)

left-later : (x : Extent) (l : List Extent) (o : ℕ) → x.size ≤ o → left_of (x ∷ l) o ≡ left_of l (o - x.size)
unfolding left_of
left-later x l o le = rw (le-ltb _ _ le)

-- there are some, and they end with the extents or before
left-within : (l : List Extent) (o : ℕ) → o < sizes l → (0 < left_of l o) × (o + left_of l o ≤ sizes l)
unfolding sizes
left-within [] o h = absurd (omega arith)
left-within (x ∷ l) o h =
    by-lt o x.size
    (λ lt. let e = left-first x l o lt in (omega arith, omega arith))
    (λ le. let e = left-later x l o le in let r = left-within l (o - x.size) (omega arith) in (omega arith, omega arith))

-- whole words, where they end before the file does
left-words : (l : List Extent) (o w : ℕ) → sizes_fit l ≡ true → o % 4 ≡ 0 → o + w ≤ sizes l → left_of l o < w → left_of l o % 4 ≡ 0
unfolding sizes_fit sizes
left-words [] o w f z h k = absurd (omega arith)
left-words (x ∷ []) o w f z h k =
    by-lt o x.size
    (λ lt. absurd (omega (arith, left-first x [] o lt)))
    (λ le. absurd (omega arith))
left-words (x ∷ y ∷ l) o w f z h k =
    let a = and-true (ltb x.size (2 ^ 30)) _ f in
    let b = and-true (eqb (x.size % 2048) 0) _ a.1 in
    let m : x.size % 2048 ≡ 0 = eqb-true _ _ b.0 in
    by-lt o x.size
    (λ lt. omega (arith, left-first x (y ∷ l) o lt))
    (λ le.
    let e = left-later x (y ∷ l) o le in
    let r = left-words (y ∷ l) (o - x.size) w b.1 (omega arith) (omega arith) (omega arith) in
    omega arith)

-- ---- the extents joined

-- w bytes of the extents from o on stand together on the disc
pub record Stands (d : Disc) (s : ℕ) (l : List Extent) (o w : ℕ) : Type 0 where
  pub same : part (contents d s l) o w ≡ part d.bytes (position_of s l o) w
  pub inside : position_of s l o + w ≤ length d.bytes

module _ (d : Disc) (s : ℕ) where
  -- the blocks of an extent have 2,048 bytes each
  length-blocks : (x : Extent) → 2048 * (s + x.block + blocks_in x.size) ≤ length d.bytes → length (joined d (s + x.block) (blocks_in x.size)) ≡ 2048 * blocks_in x.size
  length-blocks x h =
      ap length (joined_bytes d (s + x.block) (blocks_in x.size))
      ∙ length_part d.bytes (2048 * (s + x.block)) (2048 * blocks_in x.size) (omega arith)

  -- bytes in the first extent
  in-first : (x : Extent) (l : List Extent) (o w : ℕ) → 2048 * (s + x.block + blocks_in x.size) ≤ length d.bytes → o < x.size → o + w ≤ 2048 * blocks_in x.size → Stands d s (x ∷ l) o w
  unfolding contents position_of
  in-first x l o w h lt k =
      let n = length-blocks x h in
      let p : position_of s (x ∷ l) o ≡ 2048 * (s + x.block) + o = rw (lt-ltb _ _ lt) in
      record {
        same =
            part-append (joined d (s + x.block) (blocks_in x.size)) (contents d s l) o w (omega arith)
            ∙ ap (λ (b : List ℕ). part b o w) (joined_bytes d (s + x.block) (blocks_in x.size))
            ∙ part-part d.bytes (2048 * (s + x.block)) (2048 * blocks_in x.size) o w k
            ∙ ap (λ (q : ℕ). part d.bytes q w) (sym p);
        inside = omega arith;
      }

  -- bytes behind it
  in-later : (x : Extent) (l : List Extent) (o w : ℕ) → 2048 * (s + x.block + blocks_in x.size) ≤ length d.bytes → x.size % 2048 ≡ 0 → x.size ≤ o → Stands d s l (o - x.size) w → Stands d s (x ∷ l) o w
  unfolding contents position_of
  in-later x l o w h m le st =
      let n = length-blocks x h in
      let k = blocks-whole x.size m in
      let p : position_of s (x ∷ l) o ≡ position_of s l (o - x.size) = rw (le-ltb _ _ le) in
      let e : o ≡ length (joined d (s + x.block) (blocks_in x.size)) + (o - x.size) = omega arith in
      record {
        same =
            ap (λ (q : ℕ). part (joined d (s + x.block) (blocks_in x.size) ++ contents d s l) q w) e
            ∙ part-append-add (joined d (s + x.block) (blocks_in x.size)) (contents d s l) (o - x.size) w
            ∙ st.same
            ∙ ap (λ (q : ℕ). part d.bytes q w) (sym p);
        inside = omega (arith, st.inside);
      }

  -- bytes of one extent stand together
  pub stands : (l : List Extent) (o w : ℕ) → sizes_fit l ≡ true → on_disc (length d.bytes) s l ≡ true → 0 < w → w ≤ left_of l o → Stands d s l o w
  unfolding sizes_fit on_disc left_of
  stands [] o w f i z h = absurd (omega arith)
  stands (x ∷ []) o w f i z h =
      let j = leb-true _ _ (and-true (leb (2048 * (s + x.block + blocks_in x.size)) (length d.bytes)) _ i).0 in
      let c = blocks-cover x.size in
      by-lt o x.size
      (λ lt. let r = rw (lt-ltb _ _ lt) at h in in-first x [] o w j lt (omega arith))
      (λ le. let r = rw (le-ltb _ _ le) at h in absurd (omega arith))
  stands (x ∷ y ∷ l) o w f i z h =
      let a = and-true (ltb x.size (2 ^ 30)) _ f in
      let b = and-true (eqb (x.size % 2048) 0) _ a.1 in
      let p = and-true (leb (2048 * (s + x.block + blocks_in x.size)) (length d.bytes)) _ i in
      let j = leb-true _ _ p.0 in
      let c = blocks-cover x.size in
      by-lt o x.size
      (λ lt. let r = rw (lt-ltb _ _ lt) at h in in-first x (y ∷ l) o w j lt (omega arith))
      (λ le. in-later x (y ∷ l) o w j (eqb-true _ _ b.0) le (stands (y ∷ l) (o - x.size) w b.1 p.1 z (rw (le-ltb _ _ le) at h)))

  -- the extents have bytes enough
  pub contents-enough : (l : List Extent) → on_disc (length d.bytes) s l ≡ true → sizes l ≤ length (contents d s l)
  unfolding contents on_disc sizes
  contents-enough [] i = omega arith
  contents-enough (x ∷ l) i =
      let p = and-true (leb (2048 * (s + x.block + blocks_in x.size)) (length d.bytes)) _ i in
      let n = length-blocks x (leb-true _ _ p.0) in
      let c = blocks-cover x.size in
      let r = contents-enough l p.1 in
      simp length-append (omega arith)

-- extents on a disc of n bytes have n bytes each at most
sizes-most : (n s : ℕ) (l : List Extent) → on_disc n s l ≡ true → sizes l ≤ length l * n
unfolding on_disc sizes
sizes-most n s [] i = omega arith
sizes-most n s (x ∷ l) i =
    let p = and-true (leb (2048 * (s + x.block + blocks_in x.size)) n) _ i in
    let c = blocks-cover x.size in
    let r = sizes-most n s l p.1 in
    let e : suc (length l) * n ≡ length l * n + n = suc-mul (length l) n in
    omega (arith, leb-true _ _ p.0)

-- ---- marks have no part in it

contents-bytes : (bytes marks other : List ℕ) (s : ℕ) (l : List Extent) → contents (disc bytes marks) s l ≡ contents (disc bytes other) s l
unfolding contents
contents-bytes bytes marks other s [] = refl
contents-bytes bytes marks other s (x ∷ l) =
    ap₂ (◌++◌)
    (joined_bytes (disc bytes marks) (s + x.block) (blocks_in x.size) ∙ sym (joined_bytes (disc bytes other) (s + x.block) (blocks_in x.size)))
    (contents-bytes bytes marks other s l)

-- the file of a block is that on a disc with any marks
pub file_in_marked : (bytes marks : List ℕ) (s : ℕ) (b : List ℕ) → file_in bytes s b ≡ file_of (disc bytes marks) s b
unfolding file_in file_of
file_in_marked bytes marks s b = rw (contents-bytes bytes [] marks s (extents b))

-- ---- a file that is all there

-- extents that end below k lie on the disc
blocks-on-disc : (bytes marks : List ℕ) (s k : ℕ) (l : List Extent) → Lent bytes marks s k → blocks_fit (disc bytes marks) s k l ≡ true → on_disc (length bytes) s l ≡ true
unfolding blocks_fit on_disc
blocks-on-disc bytes marks s k [] t h = refl
blocks-on-disc bytes marks s k (x ∷ l) t h =
    let p = and-true (leb (x.block + blocks_in x.size) k) _ h in
    let q = and-true (recorded_run (disc bytes marks) (s + x.block) (blocks_in x.size)) _ p.1 in
    let e : x.block + blocks_in x.size ≤ k = leb-true _ _ p.0 in
    let i : 2048 * (s + x.block + blocks_in x.size) ≤ length bytes = omega (arith, t.made, t.inside) in
    both (le-leb _ _ i) (blocks-on-disc bytes marks s k l t q.1)

-- and on any disc that is longer
on-disc-more : (n m s : ℕ) (l : List Extent) → n ≤ m → on_disc n s l ≡ true → on_disc m s l ≡ true
unfolding on_disc
on-disc-more n m s [] le h = refl
on-disc-more n m s (x ∷ l) le h =
    let p = and-true (leb (2048 * (s + x.block + blocks_in x.size)) n) _ h in
    let e : 2048 * (s + x.block + blocks_in x.size) ≤ n = leb-true _ _ p.0 in
    let i : 2048 * (s + x.block + blocks_in x.size) ≤ m = omega arith in
    both (le-leb _ _ i) (on-disc-more n m s l le p.1)

-- a file whose allocation fits is all there
pub fits_filed : (bytes marks : List ℕ) (s k : ℕ) (b : List ℕ) → Lent bytes marks s k → length b ≡ 2048 → entry_fits b ≡ true → allocation_fits (disc bytes marks) s k b ≡ true → Filed bytes s b
unfolding allocation_fits all_there
fits_filed bytes marks s k b t n e h = record {
  block = n;
  entry = e;
  file =
      by_bool (eqb (form b) 3)
      (λ f. rw f (rw f at h))
      (λ f.
      let p = and-true (eqb (allocation b % 8) 0) _ (rw f at h) in
      let q = and-true (sizes_fit (extents b)) _ p.1 in
      let r = and-true (eqb (sizes (extents b)) (file_length b)) _ q.1 in
      rw f (both q.0 (both r.0 (blocks-on-disc bytes marks s k (extents b) t r.1))));
  most = omega (arith, t.made, t.most);
}

module _ (bytes : List ℕ) (s : ℕ) (b : List ℕ) (t : Filed bytes s b) where
  -- what it is embedded
  pub embedded_all : form b ≡ 3 → allocation b ≡ file_length b
  unfolding all_there
  embedded_all e = eqb-true _ _ (rw (eq-eqb _ _ e) at t.file)

  -- and what it is otherwise
  extended-all : (form b ≡ 3 → ⊥) → (sizes_fit (extents b) ≡ true) × (sizes (extents b) ≡ file_length b) × (on_disc (length bytes) s (extents b) ≡ true)
  unfolding all_there
  extended-all e =
      let p = and-true (sizes_fit (extents b)) _ (rw (ne_eqb _ _ e) at t.file) in
      let q = and-true (eqb (sizes (extents b)) (file_length b)) _ p.1 in
      (p.0, eqb-true _ _ q.0, q.1)

  -- its extents lie below the most bytes of a disc
  pub extended_below : (form b ≡ 3 → ⊥) → on_disc (2048 * most_sectors) s (extents b) ≡ true
  extended_below e = on-disc-more (length bytes) (2048 * most_sectors) s (extents b) t.most (extended-all e).2

  -- it has F bytes
  pub length_file : length (file_in bytes s b) ≡ file_length b
  unfolding file_in file_of
  length_file =
      let n = entry_ends b t.entry in
      let l = t.block in
      by_bool (eqb (form b) 3)
      (λ f.
      let e = embedded_all (eqb-true _ _ f) in
      rw f (length_part b (176 + attributes b) (file_length b) (omega arith)))
      (λ f.
      let a = extended-all (eqb-false _ _ f) in
      let e = contents-enough (disc bytes []) s (extents b) a.2 in
      rw f (length-take-le (file_length b) (contents (disc bytes []) s (extents b)) (omega (arith, a.1))))

  -- which are not very many
  pub length_small : length (file_in bytes s b) < 1099511627776
  length_small =
      let f = length_file in
      let n = entry_ends b t.entry in
      let m = t.most in
      by_bool (eqb (form b) 3)
      (λ e. let a = embedded_all (eqb-true _ _ e) in omega arith)
      (λ e.
      let a = extended-all (eqb-false _ _ e) in
      let few = extents_few b t.entry in
      let k = sizes-most (length bytes) s (extents b) a.2 in
      let q : length (extents b) * length bytes ≤ 256 * 2147483648 = mul-le-mul {n₂ = 256} {m₂ = 2147483648} (omega arith) (omega arith) in
      omega (arith, a.1))

  -- embedded, its bytes stand in the block
  embedded-part : (o w : ℕ) → form b ≡ 3 → o + w ≤ file_length b → part (file_in bytes s b) o w ≡ part b (176 + attributes b + o) w
  unfolding file_in file_of
  embedded-part o w e h = rw (eq-eqb _ _ e) (part-part b (176 + attributes b) (file_length b) o w h)

  -- otherwise bytes of one extent stand where `position_of` says
  extended-part : (o w : ℕ) → (form b ≡ 3 → ⊥) → 0 < w → o + w ≤ file_length b → w ≤ left_of (extents b) o → (part (file_in bytes s b) o w ≡ part bytes (position_of s (extents b) o) w) × (position_of s (extents b) o + w ≤ length bytes)
  unfolding file_in file_of
  extended-part o w e z h k =
      let a = extended-all e in
      let st = stands (disc bytes []) s (extents b) o w a.0 a.2 z k in
      (rw (ne_eqb _ _ e) (part-take (contents (disc bytes []) s (extents b)) (file_length b) o w h ∙ st.same), st.inside)

  -- ---- the bytes that stand together from byte o on

  -- embedded, all that are left
  pub embedded_standing : (o : ℕ) (a : List ℕ) → form b ≡ 3 → o < file_length b → a ≡ part b (176 + attributes b) (allocation b) → length a ≡ allocation b → Standing (file_in bytes s b) o (take (length a - o) (drop o a))
  unfolding part
  embedded_standing o a e h p q =
      let f = embedded_all e in
      let w : length a - o ≡ file_length b - o = omega arith in
      let r = take (length a - o) (drop o a) in
      let l : length r ≡ file_length b - o = length_part a o (length a - o) (omega arith) ∙ w in
      let x : r ≡ part (file_in bytes s b) o (file_length b - o) =
      ap₂ (λ (c : List ℕ) (m : ℕ). part c o m) p w
      ∙ part-part b (176 + attributes b) (allocation b) o (file_length b - o) (omega arith)
      ∙ sym (embedded-part o (file_length b - o) e (omega arith)) in
      let n = length_file in
      record {
        some = omega arith;
        up_to = omega arith;
        whole = λ i j. absurd (omega arith);
        same = x ∙ ap (part (file_in bytes s b) o) (sym l);
      }

  -- otherwise those of an extent, from their place on
  pub extended_standing : (o from to : ℕ) → (form b ≡ 3 → ⊥) → o < file_length b → from ≡ position_of s (extents b) o → to ≡ from + left_of (extents b) o → (to ≤ length bytes) × Standing (file_in bytes s b) o (take (to - from) (drop from bytes))
  unfolding part
  extended_standing o from to e h p q =
      let a = extended-all e in
      let n = left_of (extents b) o in
      let i = left-within (extents b) o (omega (arith, a.1)) in
      let x = extended-part o n e i.0 (omega (arith, a.1, i.1)) (omega arith) in
      let m : to - from ≡ n = omega arith in
      let y : take (to - from) (drop from bytes) ≡ part bytes (position_of s (extents b) o) n = ap₂ (λ (j k : ℕ). take j (drop k bytes)) m p in
      let l : length (take (to - from) (drop from bytes)) ≡ n = ap length y ∙ length_part bytes (position_of s (extents b) o) n x.1 in
      let f = length_file in (
        omega (arith, x.1),
        record {
          some = omega (arith, i.0);
          up_to = omega (arith, i.1, a.1);
          whole = λ z j. rw l (left-words (extents b) o (n + 1) a.0 z (omega (arith, a.1)) (omega arith));
          same = y ∙ sym x.0 ∙ ap (part (file_in bytes s b) o) (sym l);
        },
      )

  -- there are some
  pub extended_some : (o : ℕ) → (form b ≡ 3 → ⊥) → o < file_length b → 0 < left_of (extents b) o
  extended_some o e h = let a = extended-all e in (left-within (extents b) o (omega (arith, a.1))).0

-- ---- what stands together

module _ (f : List ℕ) (o : ℕ) (r : List ℕ) (t : Standing f o r) where
  -- its first byte
  pub first_byte : get_or r 0 0 ≡ get_or f o 0
  first_byte =
      let e : o + 0 ≡ o = omega arith in
      ap (λ (l : List ℕ). get_or l 0 0) t.same ∙ get_or-part f o (length r) 0 t.some ∙ ap (λ (i : ℕ). get_or f i 0) e

  -- the words of it that are wanted, n - v at most
  pub some_words : (v n : ℕ) → o ≡ 4 * v → v < n → 4 * n ≤ length f → Together f v n (take (min (length r) (4 * (n - v))) r)
  unfolding part
  some_words v n e i h =
      let w = length r in
      let m = min w (4 * (n - v)) in
      let l : length (take m r) ≡ m = length-take-le m r (omega arith) in
      let x : take m r ≡ part f o m = ap (take m) t.same ∙ take-take m w (drop o f) (omega arith) in
      let all : m ≡ 4 * (n - v) → m % 4 ≡ 0 = λ q. omega arith in
      record {
        some = omega (arith, t.some);
        whole = rw l (by-lt w (4 * (n - v)) (λ lt. let q = t.whole (omega arith) (omega arith) in omega arith) (λ le. all (omega arith)));
        up_to = rw l (omega arith);
        same = x ∙ ap₂ (part f) e (sym l);
      }
