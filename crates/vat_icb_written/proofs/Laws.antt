-- Laws of the pieces that an ICB is written in (specs/Parts.antt). Assumes nothing.
use Prim.Native.Nat.{ℕ, ◌+◌, ◌-◌, ◌/◌, ◌%◌, ◌≤◌, ◌<◌}
use mathlib.Core.Path.{◌≡◌, refl, sym, ap, ap₂, ◌∙◌}
use mathlib.Core.List.{List, ◌++◌, append_assoc, append-nil}
use native.Mathlib.Omega.{arith}
use native.Mathlib.Nat.{zero-add}
use lib.ListN.{length, take, drop, set, replicate, length-append, length-replicate}
use lib.Seq.{take_at}
use borrow.Author.Tests.{lt-ltb, le-ltb}
use Rattle.fields.specs.Bytes.{splice, join}
use Rattle.fields.specs.Number.{digits}
use Rattle.fields.proofs.Laws.{length_digits, part-all, splice-append, drop-zeros}
use Rattle.tag.specs.Checksum.{checksum_of}
use Rattle.tag.specs.Crc.{crc_from}
use Rattle.tag.proofs.Laws.{checksum-below}
use Rattle.model.specs.VatWritten.{file_bytes, data_sectors, written_file, filled, written_allocation, written_form, written_entry, tag_with, written_tag, written_icb}
use Rattle.model.proofs.Basics.{by-lt}
use Rattle.model.proofs.WrittenVatFile.{length-file}
use Rattle.vat_file_written.specs.Parts.{onward, file_from}
use Rattle.vat_file_written.proofs.Laws.{rest-lent}
use Rattle.vat_icb_written.specs.Parts.{allocation_bytes, head_of, entry_head, tag_of, summed_tag}

-- ---- zeros filled up to

-- b put in at the start of n zeros
zeros-spliced : (n : ℕ) (b : List ℕ) → splice (replicate n 0) 0 b ≡ filled n b
unfolding splice filled
zeros-spliced n b =
    ap (λ (l : List ℕ). b ++ l) (ap (λ (k : ℕ). drop k (replicate n 0)) (zero-add (length b)) ∙ drop-zeros (length b) n)

-- of two lists in a row, the second is filled up
filled-append : (n m : ℕ) (a b : List ℕ) → length a + m ≡ n → filled n (a ++ b) ≡ a ++ filled m b
unfolding filled
filled-append n m a b h =
    let e : n - length (a ++ b) ≡ m - length b = omega (arith, length-append a b) in
    ap (λ (k : ℕ). (a ++ b) ++ replicate k 0) e ∙ append_assoc a b (replicate (m - length b) 0)

-- the front of a list that is filled up is the list
filled-front : (n : ℕ) (b : List ℕ) → take (length b) (filled n b) ≡ b
unfolding filled
filled-front n b = take_at b (replicate (n - length b) 0) (length b) refl

-- ---- the allocation

-- embedded, A is F
bytes-embedded : (n : ℕ) → 176 + file_bytes n < 2048 → allocation_bytes n ≡ file_bytes n
unfolding allocation_bytes
bytes-embedded n h = rw (lt-ltb (176 + file_bytes n) 2048 h)

-- otherwise A is 8
bytes-outside : (n : ℕ) → 2048 ≤ 176 + file_bytes n → allocation_bytes n ≡ 8
unfolding allocation_bytes
bytes-outside n h = rw (le-ltb (176 + file_bytes n) 2048 h)

-- the allocation ends before the sector does
pub bytes_most : (n : ℕ) → allocation_bytes n ≤ 1871
bytes_most n =
    by-lt (176 + file_bytes n) 2048
    (λ h. omega (arith, bytes-embedded n h))
    (λ h. omega (arith, bytes-outside n h))

-- embedded, it is the file
allocation-embedded : (k : ℕ) (t : List ℕ) (previous : ℕ) → 176 + file_bytes (length t) < 2048 → written_allocation k t previous ≡ written_file t previous
unfolding written_allocation
allocation-embedded k t previous h = rw (lt-ltb (176 + file_bytes (length t)) 2048 h)

-- otherwise it is one extent
allocation-outside : (k : ℕ) (t : List ℕ) (previous : ℕ) → 2048 ≤ 176 + file_bytes (length t)
    → written_allocation k t previous ≡ digits 4 (file_bytes (length t)) ++ digits 4 (k - data_sectors (length t))
unfolding written_allocation
allocation-outside k t previous h = rw (le-ltb (176 + file_bytes (length t)) 2048 h)

-- its bytes are as many as is said
length-allocation : (k : ℕ) (t : List ℕ) (previous : ℕ) → length (written_allocation k t previous) ≡ allocation_bytes (length t)
unfolding digits
length-allocation k t previous =
    by-lt (176 + file_bytes (length t)) 2048
    (λ h. ap length (allocation-embedded k t previous h) ∙ length-file t previous ∙ sym (bytes-embedded (length t) h))
    (λ h. ap length (allocation-outside k t previous h) ∙ sym (bytes-outside (length t) h))

-- a list filled up to n bytes, where it has no more
length-filled : (n : ℕ) (b : List ℕ) → length b ≤ n → length (filled n b) ≡ n
unfolding filled
length-filled n b h = simp (length-append, length-replicate) (omega arith)

-- the file of the entries t, written from its start into w bytes
pub embedded-written : (k : ℕ) (t y : List ℕ) (previous w : ℕ) → 176 + file_bytes (length t) < 2048 → w ≡ 1872 → y ≡ file_from t previous 0 w
    → y ≡ filled 1872 (written_allocation k t previous)
unfolding file_from onward
embedded-written k t y previous w h ew ey =
    let file : List ℕ = written_file t previous in
    ey
    ∙ ap (file_from t previous 0) ew
    ∙ part-all (filled 1872 file) 1872 (omega (arith, length-filled 1872 file (omega (arith, length-file t previous))))
    ∙ ap (filled 1872) (sym (allocation-embedded k t previous h))

-- two numbers of 4 bytes put into n zeros
pair-written : (n x y : ℕ) → 8 ≤ n → splice (splice (replicate n 0) 0 (digits 4 x)) 4 (digits 4 y) ≡ filled n (digits 4 x ++ digits 4 y)
pair-written n x y h =
    let e : 4 ≡ 0 + length (digits 4 x) = omega (arith, length_digits 4 x) in
    ap (λ (at : ℕ). splice (splice (replicate n 0) 0 (digits 4 x)) at (digits 4 y)) e
    ∙ sym (splice-append (replicate n 0) 0 (digits 4 x) (digits 4 y) (omega (arith, length_digits 4 x, length_digits 4 y, length-replicate {A = ℕ} n 0)))
    ∙ zeros-spliced n (digits 4 x ++ digits 4 y)

-- an extent, written into lent bytes s that were cleared
pub extent-written : (k : ℕ) (t s a b y : List ℕ) (previous size sectors : ℕ) → 2048 ≤ 176 + file_bytes (length t) → length s ≡ 1872 → size ≡ file_bytes (length t) → sectors ≡ data_sectors (length t)
    → a ≡ replicate (length s) 0 → b ≡ splice a 0 (digits 4 size) → y ≡ splice b 4 (digits 4 (k - sectors))
    → y ≡ filled 1872 (written_allocation k t previous)
extent-written k t s a b y previous size sectors h es esize esectors ea eb ey =
    let n = length t in
    let same : y ≡ splice (splice (replicate 1872 0) 0 (digits 4 (file_bytes n))) 4 (digits 4 (k - data_sectors n)) = cc in
    same
    ∙ pair-written 1872 (file_bytes n) (k - data_sectors n) (omega arith)
    ∙ ap (filled 1872) (sym (allocation-outside k t previous h))

-- ---- the entry

-- bytes s with its fields put in, one after the other
with_fields : List ℕ → ℕ → ℕ → ℕ → ℕ → List ℕ
with_fields s form size sectors a =
    splice
    (splice
    (splice
    (splice (splice (splice (splice s 20 (digits 2 4)) 24 (digits 2 1)) 34 (digits 2 form)) 56 (digits 8 size))
    64 (digits 8 sectors))
    168 (digits 4 0))
    172 (digits 4 a)

-- 176 zeros with the fields put in
fields-in-zeros : (form size sectors a : ℕ) → with_fields (replicate 176 0) form size sectors a ≡ replicate 16 0 ++ head_of form size sectors a
unfolding with_fields head_of splice digits join
fields-in-zeros form size sectors a = refl

-- the fields written one after the other into lent bytes s that were cleared
pub entry-written : (n form size sectors a : ℕ) (s c₀ c₁ c₂ c₃ c₄ c₅ c₆ c₇ : List ℕ)
    → length s ≡ 176 → form ≡ written_form n → size ≡ file_bytes n → sectors ≡ data_sectors n → a ≡ allocation_bytes n
    → c₀ ≡ replicate (length s) 0 → c₁ ≡ splice c₀ 20 (digits 2 4) → c₂ ≡ splice c₁ 24 (digits 2 1) → c₃ ≡ splice c₂ 34 (digits 2 form)
    → c₄ ≡ splice c₃ 56 (digits 8 size) → c₅ ≡ splice c₄ 64 (digits 8 sectors) → c₆ ≡ splice c₅ 168 (digits 4 0) → c₇ ≡ splice c₆ 172 (digits 4 a)
    → c₇ ≡ replicate 16 0 ++ entry_head n
unfolding entry_head with_fields
entry-written n form size sectors a s c₀ c₁ c₂ c₃ c₄ c₅ c₆ c₇ es eform esize esectors ea e₀ e₁ e₂ e₃ e₄ e₅ e₆ e₇ =
    let chain : c₇ ≡ with_fields (replicate 176 0) (written_form n) (file_bytes n) (data_sectors n) (allocation_bytes n) = cc in
    chain ∙ fields-in-zeros (written_form n) (file_bytes n) (data_sectors n) (allocation_bytes n)

-- ---- the tag

-- bytes s with all fields but the checksum put in, one after the other
with_tag : List ℕ → ℕ → ℕ → ℕ → List ℕ
with_tag s k crc covered =
    splice
    (splice (splice (splice (splice s 0 (digits 2 261)) 2 (digits 2 2)) 8 (digits 2 crc)) 10 (digits 2 covered))
    12 (digits 4 k)

-- 16 zeros with them put in
tag-in-zeros : (k crc covered : ℕ) → with_tag (replicate 16 0) k crc covered ≡ tag_of 0 k crc covered
unfolding with_tag tag_of splice digits join
tag-in-zeros k crc covered = refl

-- the checksum put in
tag-summed : (sum k crc covered : ℕ) → sum < 256 → set (tag_of 0 k crc covered) 4 sum ≡ tag_of sum k crc covered
unfolding digits join tag_of
tag-summed sum k crc covered h =
    let low : sum % 256 ≡ sum = omega arith in
    let high : sum / 256 % 256 ≡ 0 = omega arith in
    rw (low, high)

-- the fields written one after the other into lent bytes s that were cleared, the checksum last
pub tag-written : (k crc covered sum : ℕ) (s c₀ c₁ c₂ c₃ c₄ c₅ : List ℕ)
    → length s ≡ 16 → c₀ ≡ replicate (length s) 0 → c₁ ≡ splice c₀ 0 (digits 2 261) → c₂ ≡ splice c₁ 2 (digits 2 2) → c₃ ≡ splice c₂ 8 (digits 2 crc)
    → c₄ ≡ splice c₃ 10 (digits 2 covered) → c₅ ≡ splice c₄ 12 (digits 4 k) → sum ≡ checksum_of c₅
    → set c₅ 4 sum ≡ summed_tag k crc covered
unfolding summed_tag with_tag
tag-written k crc covered sum s c₀ c₁ c₂ c₃ c₄ c₅ es e₀ e₁ e₂ e₃ e₄ e₅ esum =
    let bare : List ℕ = tag_of 0 k crc covered in
    let chain : c₅ ≡ with_tag (replicate 16 0) k crc covered = cc in
    let same : c₅ ≡ bare = chain ∙ tag-in-zeros k crc covered in
    let summed : sum ≡ checksum_of bare = esum ∙ ap checksum_of same in
    ap (λ (l : List ℕ). set l 4 sum) same
    ∙ ap (set bare 4) summed
    ∙ tag-summed (checksum_of bare) k crc covered (checksum-below bare)

-- ---- the ICB

-- the head of an entry has 160 bytes
length-head : (n : ℕ) → length (entry_head n) ≡ 160
unfolding entry_head head_of join digits
length-head n = refl

-- a tag has 16
length-tag : (k : ℕ) (e : List ℕ) → length (written_tag k e) ≡ 16
unfolding written_tag tag_with join digits
length-tag k e = refl

-- it is the tag with its checksum, of the CRC and the number of the entry's bytes
tag-of-entry : (k : ℕ) (e : List ℕ) → summed_tag k (crc_from 0 e) (length e) ≡ written_tag k e
unfolding summed_tag tag_of written_tag tag_with
tag-of-entry k e = refl

-- the entry is its head and its allocation
entry-parts : (k : ℕ) (t : List ℕ) (previous : ℕ) → written_entry k t previous ≡ entry_head (length t) ++ written_allocation k t previous
unfolding written_entry entry_head head_of join digits
entry-parts k t previous =
    let n : ℕ = length t in
    let a : List ℕ = written_allocation k t previous in
    ap (λ (l : List ℕ). head_of (written_form n) (file_bytes n) (data_sectors n) (length a) ++ l) (append-nil a)
    ∙ ap (λ (m : ℕ). head_of (written_form n) (file_bytes n) (data_sectors n) m ++ a) (length-allocation k t previous)

-- so it has 160 + A bytes
length-entry : (k : ℕ) (t : List ℕ) (previous : ℕ) → length (written_entry k t previous) ≡ 160 + allocation_bytes (length t)
length-entry k t previous =
    ap length (entry-parts k t previous)
    ∙ length-append (entry_head (length t)) (written_allocation k t previous)
    ∙ omega (arith, length-head (length t), length-allocation k t previous)

-- the ICB is its tag and its entry, filled up
icb-parts : (k : ℕ) (t : List ℕ) (previous : ℕ) → written_icb k t previous ≡ written_tag k (written_entry k t previous) ++ filled 2032 (written_entry k t previous)
unfolding written_icb
icb-parts k t previous =
    let e : List ℕ = written_entry k t previous in
    filled-append 2048 2032 (written_tag k e) e (omega (arith, length-tag k e))

-- the front of some lent bytes s came back as a, the entry up to its allocation, and then the rest of them as b, the allocation
pub body-written : (k : ℕ) (t s a b : List ℕ) (n previous : ℕ) → a ≡ replicate 16 0 ++ entry_head n → b ≡ filled 1872 (written_allocation k t previous)
    → let x = a ++ drop 176 s in take 176 x ++ (b ++ drop (length x - 176) (drop 176 x)) ≡ (replicate 16 0 ++ entry_head n) ++ filled 1872 (written_allocation k t previous)
body-written k t s a b n previous ea eb =
    let long : length a ≡ 176 = ap length ea ∙ length-append (replicate 16 0) (entry_head n) ∙ omega (arith, length-head n) in
    rest-lent (a ++ drop 176 s) b 176
    ∙ ap (λ (l : List ℕ). l ++ b) (take_at a (drop 176 s) 176 long)
    ∙ ap₂ (λ (l m : List ℕ). l ++ m) ea eb

-- bytes x that hold an entry behind 16 bytes, and the tag of that entry, y, in the place of those
pub icb-written : (k : ℕ) (t x y : List ℕ) (n previous a crc : ℕ) → n ≡ length t
    → x ≡ (replicate 16 0 ++ entry_head n) ++ filled 1872 (written_allocation k t previous) → a ≡ allocation_bytes n
    → crc ≡ crc_from 0 (take (176 + a - 16) (drop 16 x)) → y ≡ summed_tag k crc (176 + a - 16)
    → y ++ drop 16 x ≡ written_icb k t previous
icb-written k t x y n previous a crc long ex ea ecrc ey =
    let allocated : List ℕ = written_allocation k t previous in
    let entry : List ℕ = written_entry k t previous in
    let parts : entry_head n ++ allocated ≡ entry = ap (λ (m : ℕ). entry_head m ++ allocated) long ∙ sym (entry-parts k t previous) in
    let rest : drop 16 x ≡ filled 2032 entry =
    ap (drop 16) ex ∙ sym (filled-append 2032 1872 (entry_head n) allocated (omega (arith, length-head n))) ∙ ap (filled 2032) parts in
    let covered : 176 + a - 16 ≡ length entry = omega (arith, length-entry k t previous, ap allocation_bytes long) in
    let same : crc ≡ crc_from 0 entry =
    ecrc ∙ ap (crc_from 0) (ap (λ (m : ℕ). take m (drop 16 x)) covered ∙ ap (take (length entry)) rest ∙ filled-front 2032 entry) in
    let tagged : y ≡ written_tag k entry =
    ey ∙ ap (λ (c : ℕ). summed_tag k c (176 + a - 16)) same ∙ ap (summed_tag k (crc_from 0 entry)) covered ∙ tag-of-entry k entry in
    ap (λ (l : List ℕ). l ++ drop 16 x) tagged
    ∙ ap (λ (l : List ℕ). written_tag k entry ++ l) rest
    ∙ sym (icb-parts k t previous)
