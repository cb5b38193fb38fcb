-- The ICB of a VAT as it is written passes as one, and its file is the one that was written. Assumes nothing.
use Prim.Native.Nat.{ℕ, ◌+◌, ◌-◌, ◌/◌, ◌%◌, ◌^◌, ◌≤◌, ◌<◌}
use mathlib.Core.Path.{◌≡◌, refl, sym, ap, ◌∙◌}
use mathlib.Core.Bool.{true, ◌||◌}
use mathlib.Core.List.{List, [], ◌∷◌, ◌++◌, append_assoc, append-nil}
use native.Mathlib.Omega.{arith}
use native.Mathlib.Nat.{add-zero}
use lib.Dec.{eqb}
use lib.ListN.{length, get_or, replicate, length-append, length-replicate}
use lib.Seq.{take_at}
use borrow.Author.Tests.{lt-ltb, le-ltb, le-leb, eq-eqb, ne_eqb}
use Rattle.fields.specs.Bytes.{part, join}
use Rattle.fields.specs.Number.{value, digits, field}
use Rattle.fields.proofs.Laws.{part-all, part-append, part-append-add, field-append, field-append-add, field-same, value-digits}
use Rattle.tag.specs.Checksum.{checksum_of}
use Rattle.tag.specs.Crc.{crc_from}
use Rattle.tag.proofs.Laws.{crc-below, checksum-below}
use Rattle.model.specs.Disc.{Disc, recorded_run, joined}
use Rattle.model.specs.Vat.{below_or_none, all_below, tag_fits, form, file_length, attributes, allocation, entry_fits, pairs, up_to_zero, extents, blocks_in, sizes_fit, sizes, blocks_fit, contents, allocation_fits, file_of, table_fits, passes}
use Rattle.model.specs.VatWritten.{file_bytes, data_sectors, written_file, filled, written_data, written_allocation, written_form, written_entry, tag_with, written_tag, written_icb}
use Rattle.fields.proofs.Words.{field-digits}
use Rattle.model.proofs.Basics.{both, by-lt}
use Rattle.model.proofs.WrittenVatFile.{outside-blocks, length-file, file-table}

-- ---- the first 176 bytes of an ICB, of numbers that may be any

-- the tag
tag_bytes : ℕ → ℕ → ℕ → ℕ → List ℕ
tag_bytes sum crc long k =
    join (digits 2 261 ∷ digits 2 2 ∷ digits 2 sum ∷ replicate 2 0 ∷ digits 2 crc ∷ digits 2 long ∷ digits 4 k ∷ [])

-- the entry as far as its allocation
entry_bytes : ℕ → ℕ → ℕ → ℕ → List ℕ
entry_bytes shape size sectors a =
    join
    (replicate 4 0
    ∷ digits 2 4
    ∷ replicate 2 0
    ∷ digits 2 1
    ∷ replicate 8 0
    ∷ digits 2 shape
    ∷ replicate 20 0
    ∷ digits 8 size
    ∷ digits 8 sectors
    ∷ replicate 96 0
    ∷ digits 4 0
    ∷ digits 4 a
    ∷ [])

-- both
front : ℕ → ℕ → ℕ → ℕ → ℕ → ℕ → ℕ → ℕ → List ℕ
front sum crc long k shape size sectors a = tag_bytes sum crc long k ++ entry_bytes shape size sectors a

-- what is read of bytes that begin so
record Fields (sum crc long k shape size a : ℕ) (b : List ℕ) : Type 0 where
  identifier : field b 0 2 ≡ 261
  version : field b 2 2 ≡ 2
  sum-byte : get_or b 4 0 ≡ sum
  reserved : get_or b 5 0 ≡ 0
  crc-field : field b 8 2 ≡ crc
  long-field : field b 10 2 ≡ long
  block-field : field b 12 4 ≡ k
  strategy : field b 20 2 ≡ 4
  file_type : get_or b 27 0 ≡ 0
  shape-bits : form b ≡ shape
  size-field : file_length b ≡ size
  attributes-field : attributes b ≡ 0
  allocation-field : allocation b ≡ a
  summed : checksum_of b ≡ checksum_of (tag_bytes 0 crc long k)

-- each number reads back, and the checksum does not see its own byte
front-fields : (sum crc long k shape size sectors a : ℕ) (r : List ℕ) → sum < 256 → crc < 65536 → long < 65536 → k < 1048576 → shape < 8 → size < 2 ^ 30 → a < 2 ^ 30
    → Fields sum crc long k shape size a (front sum crc long k shape size sectors a ++ r)
unfolding front tag_bytes entry_bytes join digits field part value form file_length attributes allocation checksum_of
front-fields sum crc long k shape size sectors a r hsum hcrc hlong hk hshape hsize ha =
    let zero_high : sum / 256 % 256 ≡ 0 = omega arith in
    record {
      identifier = refl;
      version = refl;
      sum-byte = omega arith;
      reserved = zero_high;
      crc-field = value-digits 2 crc hcrc;
      long-field = value-digits 2 long hlong;
      block-field = value-digits 4 k (omega arith);
      strategy = refl;
      file_type = refl;
      shape-bits = omega arith;
      size-field = value-digits 8 size (omega arith);
      attributes-field = refl;
      allocation-field = value-digits 4 a (omega arith);
      summed = rw zero_high;
    }

-- ---- the ICB by these bytes

-- embedded, the allocation is the file
embedded-allocation : (k : ℕ) (t : List ℕ) (previous : ℕ) → 176 + file_bytes (length t) < 2048 → written_allocation k t previous ≡ written_file t previous
unfolding written_allocation
embedded-allocation k t previous h = rw (lt-ltb (176 + file_bytes (length t)) 2048 h)

-- otherwise it is one extent
outside-allocation : (k : ℕ) (t : List ℕ) (previous : ℕ) → 2048 ≤ 176 + file_bytes (length t) → written_allocation k t previous ≡ digits 4 (file_bytes (length t)) ++ digits 4 (k - data_sectors (length t))
unfolding written_allocation
outside-allocation k t previous h = rw (le-ltb (176 + file_bytes (length t)) 2048 h)

-- embedded, the form is 3
embedded-form : (n : ℕ) → 176 + file_bytes n < 2048 → written_form n ≡ 3
unfolding written_form
embedded-form n h = rw (lt-ltb (176 + file_bytes n) 2048 h)

-- otherwise it is 0
outside-form : (n : ℕ) → 2048 ≤ 176 + file_bytes n → written_form n ≡ 0
unfolding written_form
outside-form n h = rw (le-ltb (176 + file_bytes n) 2048 h)

module _ (k : ℕ) (t : List ℕ) (previous : ℕ) where
  -- embedded, the allocation is as long as the file
  embedded-length : 176 + file_bytes (length t) < 2048 → length (written_allocation k t previous) ≡ file_bytes (length t)
  embedded-length h = ap length (embedded-allocation k t previous h) ∙ length-file t previous

  -- otherwise it has 8 bytes
  outside-length : 2048 ≤ 176 + file_bytes (length t) → length (written_allocation k t previous) ≡ 8
  unfolding digits
  outside-length h = ap length (outside-allocation k t previous h)

  -- the allocation ends before the sector does
  allocation-most : length (written_allocation k t previous) ≤ 1871
  allocation-most =
      by-lt (176 + file_bytes (length t)) 2048
      (λ l. omega (arith, embedded-length l))
      (λ l. omega (arith, outside-length l))

  -- the form has three bits
  form_small : written_form (length t) < 8
  form_small =
      by-lt (176 + file_bytes (length t)) 2048
      (λ l. omega (arith, embedded-form (length t) l))
      (λ l. omega (arith, outside-form (length t) l))

-- the entry as far as its allocation
icb_entry : ℕ → List ℕ → ℕ → List ℕ
icb_entry k t previous =
    entry_bytes (written_form (length t)) (file_bytes (length t)) (data_sectors (length t)) (length (written_allocation k t previous))

-- the CRC
icb_crc : ℕ → List ℕ → ℕ → ℕ
icb_crc k t previous = crc_from 0 (written_entry k t previous)

-- the bytes that it runs over
icb_long : ℕ → List ℕ → ℕ → ℕ
icb_long k t previous = length (written_entry k t previous)

-- the checksum
icb_sum : ℕ → List ℕ → ℕ → ℕ
icb_sum k t previous = checksum_of (tag_bytes 0 (icb_crc k t previous) (icb_long k t previous) k)

-- the tag
icb_tag : ℕ → List ℕ → ℕ → List ℕ
icb_tag k t previous = tag_bytes (icb_sum k t previous) (icb_crc k t previous) (icb_long k t previous) k

-- what stands before the allocation
icb_front : ℕ → List ℕ → ℕ → List ℕ
icb_front k t previous =
    front (icb_sum k t previous) (icb_crc k t previous) (icb_long k t previous) k
    (written_form (length t)) (file_bytes (length t)) (data_sectors (length t)) (length (written_allocation k t previous))

-- what stands after it
icb_zeros : ℕ → List ℕ → ℕ → List ℕ
icb_zeros k t previous = replicate (2048 - (176 + length (written_allocation k t previous))) 0

module _ (k : ℕ) (t : List ℕ) (previous : ℕ) where
  -- the entry is what stands before its allocation, and the allocation
  entry-split : written_entry k t previous ≡ icb_entry k t previous ++ written_allocation k t previous
  unfolding written_entry icb_entry entry_bytes join digits
  entry-split = ap (λ (l : List ℕ). icb_entry k t previous ++ l) (append-nil (written_allocation k t previous))

  -- what stands before it has 160 bytes of the entry
  length-icb-entry : length (icb_entry k t previous) ≡ 160
  unfolding icb_entry entry_bytes join digits
  length-icb-entry = refl

  -- and 16 of the tag
  length-icb-tag : length (icb_tag k t previous) ≡ 16
  unfolding icb_tag tag_bytes join digits
  length-icb-tag = refl

  -- 176 in all
  length-icb-front : length (icb_front k t previous) ≡ 176
  unfolding icb_front front tag_bytes entry_bytes join digits
  length-icb-front = refl

  -- so the CRC runs over 160 + A bytes
  length-entry : icb_long k t previous ≡ 160 + length (written_allocation k t previous)
  unfolding icb_long
  length-entry =
      ap length entry-split
      ∙ length-append (icb_entry k t previous) (written_allocation k t previous)
      ∙ ap (λ (n : ℕ). n + length (written_allocation k t previous)) length-icb-entry

  -- the ICB is its tag, its entry and zeros
  icb-parts : written_icb k t previous ≡ icb_tag k t previous ++ (written_entry k t previous ++ icb_zeros k t previous)
  unfolding written_icb filled written_tag tag_with icb_tag tag_bytes icb_sum icb_crc icb_long icb_zeros
  icb-parts =
      let tag : List ℕ = icb_tag k t previous in
      let entry : List ℕ = written_entry k t previous in
      let e : length (tag ++ entry) ≡ 176 + length (written_allocation k t previous) =
      length-append tag entry ∙ omega (arith, length-icb-tag, length-entry) in
      ap (λ (n : ℕ). (tag ++ entry) ++ replicate (2048 - n) 0) e ∙ append_assoc tag entry (icb_zeros k t previous)

  -- and what stands before the allocation, the allocation and zeros
  icb-split : written_icb k t previous ≡ icb_front k t previous ++ (written_allocation k t previous ++ icb_zeros k t previous)
  unfolding icb_front icb_tag icb_entry front
  icb-split =
      let same : icb_tag k t previous ++ ((icb_entry k t previous ++ written_allocation k t previous) ++ icb_zeros k t previous) ≡ icb_front k t previous ++ (written_allocation k t previous ++ icb_zeros k t previous) = simp append_assoc in
      icb-parts ∙ ap (λ (l : List ℕ). icb_tag k t previous ++ (l ++ icb_zeros k t previous)) entry-split ∙ same

-- ---- the ICB

-- an ICB fills its sector
pub length-icb : (t : List ℕ) (previous k : ℕ) → length (written_icb k t previous) ≡ 2048
unfolding icb_zeros
length-icb t previous k =
    ap length (icb-split k t previous)
    ∙ length-append (icb_front k t previous) (written_allocation k t previous ++ icb_zeros k t previous)
    ∙ omega (
      arith,
      length-icb-front k t previous,
      length-append (written_allocation k t previous) (icb_zeros k t previous),
      length-replicate {A = ℕ} (2048 - (176 + length (written_allocation k t previous))) 0,
      allocation-most k t previous,
    )

module _ (k : ℕ) (t : List ℕ) (previous : ℕ) (few : length t ≤ 4096) (small : k < 1048576) where
  -- what is read of the ICB
  icb-fields : Fields (icb_sum k t previous) (icb_crc k t previous) (icb_long k t previous) k (written_form (length t)) (file_bytes (length t)) (length (written_allocation k t previous)) (written_icb k t previous)
  unfolding icb_front icb_sum icb_crc file_bytes
  icb-fields =
      rw (icb-split k t previous)
      (front-fields (icb_sum k t previous) (icb_crc k t previous) (icb_long k t previous) k (written_form (length t)) (file_bytes (length t)) (data_sectors (length t)) (length (written_allocation k t previous)) (written_allocation k t previous ++ icb_zeros k t previous)
      (checksum-below (tag_bytes 0 (icb_crc k t previous) (icb_long k t previous) k))
      (crc-below 0 (written_entry k t previous) (omega arith))
      (omega (arith, length-entry k t previous, allocation-most k t previous))
      small
      (form_small k t previous)
      (omega arith)
      (omega (arith, allocation-most k t previous)))

  -- the bytes that the CRC runs over
  icb-entry : part (written_icb k t previous) 16 (icb_long k t previous) ≡ written_entry k t previous
  unfolding icb_long
  icb-entry =
      let tag : List ℕ = icb_tag k t previous in
      let entry : List ℕ = written_entry k t previous in
      let rest : List ℕ = entry ++ icb_zeros k t previous in
      let e : 16 ≡ length tag + 0 = omega (arith, length-icb-tag k t previous) in
      ap (λ (b : List ℕ). part b 16 (length entry)) (icb-parts k t previous)
      ∙ ap (λ (at : ℕ). part (tag ++ rest) at (length entry)) e
      ∙ part-append-add tag rest 0 (length entry)
      ∙ part-append entry (icb_zeros k t previous) 0 (length entry) (omega arith)
      ∙ part-all entry (length entry) (omega arith)

  -- what stands from the allocation on
  icb-allocation : (at w : ℕ) → at + w ≤ length (written_allocation k t previous) → part (written_icb k t previous) (176 + at) w ≡ part (written_allocation k t previous) at w
  icb-allocation at w h =
      let rest : List ℕ = written_allocation k t previous ++ icb_zeros k t previous in
      let e : 176 + at ≡ length (icb_front k t previous) + at = omega (arith, length-icb-front k t previous) in
      ap (λ (b : List ℕ). part b (176 + at) w) (icb-split k t previous)
      ∙ ap (λ (i : ℕ). part (icb_front k t previous ++ rest) i w) e
      ∙ part-append-add (icb_front k t previous) rest at w
      ∙ part-append (written_allocation k t previous) (icb_zeros k t previous) at w h

  -- its tag fits
  icb-tag : tag_fits k (written_icb k t previous) ≡ true
  unfolding tag_fits icb_sum icb_crc
  icb-tag =
      let b : List ℕ = written_icb k t previous in
      let f = icb-fields in
      let long : 160 + length (written_allocation k t previous) ≡ field b 10 2 = sym (f.long-field ∙ length-entry k t previous) in
      let most : length (written_allocation k t previous) ≤ 1871 = allocation-most k t previous in
      let crc : field b 8 2 ≡ crc_from 0 (part b 16 (field b 10 2)) =
      f.crc-field ∙ sym (ap (crc_from 0) (ap (part b 16) f.long-field ∙ icb-entry)) in
      both (eq-eqb (field b 0 2) 261 f.identifier)
      (both (eq-eqb (field b 2 2) 2 f.version)
      (both (eq-eqb (get_or b 5 0) 0 f.reserved)
      (both (le-leb 160 (field b 10 2) (omega arith))
      (both (le-leb (field b 10 2) 2032 (omega arith))
      (both (eq-eqb (field b 12 4) k f.block-field)
      (both (eq-eqb (get_or b 4 0) (checksum_of b) (f.sum-byte ∙ sym f.summed))
      (eq-eqb (field b 8 2) (crc_from 0 (part b 16 (field b 10 2))) crc)))))))

  -- embedded, the form reads as 3
  embedded-read : 176 + file_bytes (length t) < 2048 → form (written_icb k t previous) ≡ 3
  embedded-read l = icb-fields.shape-bits ∙ embedded-form (length t) l

  -- otherwise as 0
  outside-read : 2048 ≤ 176 + file_bytes (length t) → form (written_icb k t previous) ≡ 0
  outside-read l = icb-fields.shape-bits ∙ outside-form (length t) l

  -- the form is one of the two
  icb-form : eqb (form (written_icb k t previous)) 0 || eqb (form (written_icb k t previous)) 3 ≡ true
  icb-form =
      by-lt (176 + file_bytes (length t)) 2048
      (λ l. ap (λ (x : ℕ). eqb x 0 || eqb x 3) (embedded-read l))
      (λ l. ap (λ (x : ℕ). eqb x 0 || eqb x 3) (outside-read l))

  -- the entry fits
  icb-entry-fits : entry_fits (written_icb k t previous) ≡ true
  unfolding entry_fits
  icb-entry-fits =
      let b : List ℕ = written_icb k t previous in
      let f = icb-fields in
      both (eq-eqb (field b 20 2) 4 f.strategy)
      (both (eq-eqb (get_or b 27 0) 0 f.file_type)
      (both icb-form
      (le-leb (176 + attributes b + allocation b) 2048 (omega (arith, f.attributes-field, f.allocation-field, allocation-most k t previous)))))

  -- the length of the one extent
  extent-size : 2048 ≤ 176 + file_bytes (length t) → field (written_icb k t previous) 176 4 ≡ file_bytes (length t)
  unfolding file_bytes digits
  extent-size l =
      let size : List ℕ = digits 4 (file_bytes (length t)) in
      let block : List ℕ = digits 4 (k - data_sectors (length t)) in
      field-same (written_icb k t previous) (written_allocation k t previous) 176 0 4 (icb-allocation 0 4 (omega (arith, outside-length k t previous l)))
      ∙ ap (λ (b : List ℕ). field b 0 4) (outside-allocation k t previous l)
      ∙ field-append size block 0 4 (omega arith)
      ∙ field-digits 4 (file_bytes (length t)) (omega arith)

  -- and its block
  extent-block : 2048 ≤ 176 + file_bytes (length t) → field (written_icb k t previous) 180 4 ≡ k - data_sectors (length t)
  unfolding digits
  extent-block l =
      let size : List ℕ = digits 4 (file_bytes (length t)) in
      let block : List ℕ = digits 4 (k - data_sectors (length t)) in
      field-same (written_icb k t previous) (written_allocation k t previous) 180 4 4 (icb-allocation 4 4 (omega (arith, outside-length k t previous l)))
      ∙ ap (λ (b : List ℕ). field b 4 4) (outside-allocation k t previous l)
      ∙ field-append-add size block 0 4
      ∙ field-digits 4 (k - data_sectors (length t)) (omega arith)

  -- there is no other
  extent-one : 2048 ≤ 176 + file_bytes (length t) → extents (written_icb k t previous) ≡ record { size = file_bytes (length t); block = k - data_sectors (length t) } ∷ []
  unfolding extents up_to_zero pairs
  extent-one l =
      let a : allocation (written_icb k t previous) ≡ 8 = icb-fields.allocation-field ∙ outside-length k t previous l in
      rw (icb-fields.attributes-field, a, extent-size l, extent-block l, ne_eqb (file_bytes (length t)) 0 (λ e. omega arith))

  -- embedded, A is F
  embedded-fits : (d : Disc) (s : ℕ) → 176 + file_bytes (length t) < 2048 → allocation_fits d s k (written_icb k t previous) ≡ true
  unfolding allocation_fits
  embedded-fits d s l =
      rw (embedded-read l)
      (eq-eqb (allocation (written_icb k t previous)) (file_length (written_icb k t previous))
      (icb-fields.allocation-field ∙ embedded-length k t previous l ∙ sym icb-fields.size-field))

  -- and the allocation is the file
  embedded-file : (d : Disc) (s : ℕ) → 176 + file_bytes (length t) < 2048 → file_of d s (written_icb k t previous) ≡ written_file t previous
  unfolding file_of
  embedded-file d s l =
      let n : ℕ = file_bytes (length t) in
      rw (embedded-read l, icb-fields.attributes-field, icb-fields.size-field)
      (icb-allocation 0 n (omega (arith, embedded-length k t previous l))
      ∙ ap (λ (b : List ℕ). part b 0 n) (embedded-allocation k t previous l)
      ∙ part-all (written_file t previous) n (omega (arith, length-file t previous)))

  module _ (d : Disc) (s : ℕ) (l : 2048 ≤ 176 + file_bytes (length t)) where
    -- otherwise the extent lies directly below the ICB, and is recorded
    outside-extent : data_sectors (length t) ≤ k → recorded_run d (s + (k - data_sectors (length t))) (data_sectors (length t)) ≡ true → blocks_fit d s k (extents (written_icb k t previous)) ≡ true
    unfolding blocks_fit
    outside-extent room run =
        let n : ℕ = data_sectors (length t) in
        rw (extent-one l, ← outside-blocks (length t) l)
        (both (le-leb (k - n + n) k (omega arith)) (both run refl))

    -- its length is one that an extent may have
    outside-sizes : sizes_fit (extents (written_icb k t previous)) ≡ true
    unfolding sizes_fit file_bytes
    outside-sizes = rw (extent-one l) (lt-ltb (file_bytes (length t)) (2 ^ 30) (omega arith))

    -- and is that of the file
    outside-sum : sizes (extents (written_icb k t previous)) ≡ file_length (written_icb k t previous)
    unfolding sizes
    outside-sum = ap sizes (extent-one l) ∙ add-zero (file_bytes (length t)) ∙ sym icb-fields.size-field

    -- so the allocation fits
    outside-fits : data_sectors (length t) ≤ k → recorded_run d (s + (k - data_sectors (length t))) (data_sectors (length t)) ≡ true → allocation_fits d s k (written_icb k t previous) ≡ true
    unfolding allocation_fits
    outside-fits room run =
        let b : List ℕ = written_icb k t previous in
        let a : allocation b ≡ 8 = icb-fields.allocation-field ∙ outside-length k t previous l in
        rw (outside-read l)
        (both (ap (λ (n : ℕ). eqb (n % 8) 0) a)
        (both outside-sizes
        (both (eq-eqb (sizes (extents b)) (file_length b) outside-sum)
        (outside-extent room run))))

    -- the file is what the data begins with
    outside-file : joined d (s + (k - data_sectors (length t))) (data_sectors (length t)) ≡ written_data t previous → file_of d s (written_icb k t previous) ≡ written_file t previous
    unfolding file_of contents written_data filled
    outside-file held =
        rw (outside-read l, icb-fields.size-field, extent-one l, ← outside-blocks (length t) l, held, append-nil)
        (take_at (written_file t previous) _ (file_bytes (length t)) (length-file t previous))

  -- some sectors hold data, unless it is embedded
  outside-some : 2048 ≤ 176 + file_bytes (length t) → 1 ≤ data_sectors (length t)
  unfolding blocks_in
  outside-some l = omega (arith, outside-blocks (length t) l)

-- the ICB's file is the one that was written, if the data, where there is any, stands directly below the ICB
pub icb-file : (t : List ℕ) (previous k : ℕ) → length t ≤ 4096 → k < 1048576 → (d : Disc) (s : ℕ)
    → (1 ≤ data_sectors (length t) → joined d (s + (k - data_sectors (length t))) (data_sectors (length t)) ≡ written_data t previous)
    → file_of d s (written_icb k t previous) ≡ written_file t previous
icb-file t previous k few small d s held =
    by-lt (176 + file_bytes (length t)) 2048
    (embedded-file k t previous few small d s)
    (λ l. outside-file k t previous few small d s l (held (outside-some k t previous few small l)))

-- the ICB passes, if the data is recorded too
pub icb-passes : (t : List ℕ) (previous k : ℕ) → length t ≤ 4096 → all_below k t ≡ true → below_or_none k previous ≡ true → k < 1048576 → (d : Disc) (s : ℕ)
    → data_sectors (length t) ≤ k
    → recorded_run d (s + (k - data_sectors (length t))) (data_sectors (length t)) ≡ true
    → (1 ≤ data_sectors (length t) → joined d (s + (k - data_sectors (length t))) (data_sectors (length t)) ≡ written_data t previous)
    → passes d s k (written_icb k t previous) ≡ true
unfolding passes
icb-passes t previous k few below before small d s room run held =
    both (icb-tag k t previous few small)
    (both (icb-entry-fits k t previous few small)
    (both
    (by-lt (176 + file_bytes (length t)) 2048
    (embedded-fits k t previous few small d s)
    (λ l. outside-fits k t previous few small d s l room run))
    (ap (table_fits k) (icb-file t previous k few small d s held) ∙ file-table t previous k below before small)))
