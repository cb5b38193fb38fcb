-- Laws of the checksum and of the CRC. Others may cite byte_step-below, crc-below, crc-append, total-append, checksum-below
-- and checksum-set; the rest serves the functions of this crate. Assumes nothing.
use Rattle.std.proofs.Common.{◌≡◌, ℕ, zero, suc, ◌+◌, ◌*◌, ◌/◌, ◌%◌, ◌^◌, ◌<◌, ◌≤◌, List, [], ◌∷◌, ◌++◌, length, get_or, take, drop, set, sym, refl, ap, ◌∙◌, ap₂, le_of_suc-le-suc, add-zero, add-suc, mod-eq_of_lt, mul_assoc, add_comm, suc-add, zero-add, add-one, arith, drop_of_length-le, drop-cons, drop-set-lt}
use native.Mathlib.Nat.{add-mod, mod-add-mod}
use lib.Bits.{bit_xor, xor_add_and, xor_comm, xor_lt, xor_mod, xor_self, xor_shr, xor_zero_r}
use lib.Seq.{take-set-le}
use Rattle.std.specs.Int.Bits.{xor_assoc}
use Rattle.std.specs.List.{fold}
use Rattle.tag.specs.Checksum.{total, checksum_of}
use Rattle.tag.specs.Crc.{bit_step, bits_of, bits_from, byte_step, crc_from}

-- ---- exclusive or

-- the last bit of a number
abbrev odd : ℕ → ℕ
odd x = x % 2

-- the last bit of an exclusive or is that of the sum
xor-odd : (a b : ℕ) → bit_xor a b % 2 ≡ (a + b) % 2
xor-odd a b = omega (arith, xor_add_and a b)

-- so in the last bit of a sum it may stand for the sum
sum-odd : (a b c : ℕ) → (bit_xor a b + c) % 2 ≡ (a + b + c) % 2
sum-odd a b c =
    sym (mod-add-mod (bit_xor a b) 2 c) ∙ ap (λ (x : ℕ). (x + c) % 2) (xor-odd a b) ∙ mod-add-mod (a + b) 2 c

-- an exclusive or is that of the halves, with its last bit
xor-halves : (a b : ℕ) → bit_xor a b ≡ bit_xor (a / 2) (b / 2) * 2 + (a + b) % 2
xor-halves a b = omega (arith, xor-odd a b, xor_shr a b 1)

-- two pairs may be taken crosswise
pub xor-pairs : (a b c d : ℕ) → bit_xor (bit_xor a b) (bit_xor c d) ≡ bit_xor (bit_xor a c) (bit_xor b d)
xor-pairs a b c d =
    xor_assoc a b (bit_xor c d)
    ∙ ap (bit_xor a) (sym (xor_assoc b c d) ∙ ap (λ (x : ℕ). bit_xor x d) (xor_comm b c) ∙ xor_assoc c b d)
    ∙ sym (xor_assoc a c (bit_xor b d))

-- ---- a step of the CRC is linear: from an exclusive or it leads to the exclusive or of the two

-- the remainder, shifted by a bit
shift-xor : (c d : ℕ) → bit_xor c d * 2 % 65536 ≡ bit_xor (c * 2 % 65536) (d * 2 % 65536)
shift-xor c d =
    let ec : c * 2 / 2 ≡ c = omega arith in
    let ed : d * 2 / 2 ≡ d = omega arith in
    let e : bit_xor c d * 2 ≡ bit_xor (c * 2) (d * 2) = omega (arith, xor-halves (c * 2) (d * 2), ap₂ bit_xor ec ed) in
    ap (λ (x : ℕ). x % 65536) e ∙ xor_mod (c * 2) (d * 2) 16

-- the polynomial, taken or not taken
poly-xor : (s t : ℕ) → s < 2 → t < 2 → 0x1021 * bit_xor s t ≡ bit_xor (0x1021 * s) (0x1021 * t)
poly-xor zero t hs ht = refl
poly-xor (suc zero) zero hs ht = refl
poly-xor (suc zero) (suc zero) hs ht = refl
poly-xor (suc zero) (suc (suc t)) hs ht = absurd (omega arith)
poly-xor (suc (suc s)) t hs ht = absurd (omega arith)

-- whether it is taken: by the top bit and the new one
top_xor : (c d x y : ℕ) → (bit_xor c d / 32768 + bit_xor x y) % 2 ≡ bit_xor ((c / 32768 + x) % 2) ((d / 32768 + y) % 2)
top_xor c d x y =
    let p : ℕ = c / 32768 in
    let q : ℕ = d / 32768 in
    let s : ℕ = (p + x) % 2 in
    let t : ℕ = (q + y) % 2 in
    let e : x + y + (p + q) ≡ p + x + (q + y) = omega arith in
    ap (λ (z : ℕ). (z + bit_xor x y) % 2) (xor_shr c d 15)
    ∙ sum-odd p q (bit_xor x y)
    ∙ ap odd (add_comm (p + q) (bit_xor x y))
    ∙ sum-odd x y (p + q)
    ∙ ap odd e
    ∙ add-mod (p + x) (q + y) 2
    ∙ sym (xor-odd s t)
    ∙ mod-eq_of_lt (xor_lt 1 s t (omega arith) (omega arith))

-- the step by one bit
bit_step-xor : (c d x y : ℕ) → bit_step (bit_xor c d) (bit_xor x y) ≡ bit_xor (bit_step c x) (bit_step d y)
unfolding bit_step
bit_step-xor c d x y =
    let s : ℕ = (c / 32768 + x) % 2 in
    let t : ℕ = (d / 32768 + y) % 2 in
    ap₂ bit_xor (shift-xor c d) (ap (λ (z : ℕ). 0x1021 * z) (top_xor c d x y) ∙ poly-xor s t (omega arith) (omega arith))
    ∙ xor-pairs (c * 2 % 65536) (d * 2 % 65536) (0x1021 * s) (0x1021 * t)

-- the exclusive or of two lists of bits
abbrev xored : List ℕ → List ℕ → List ℕ
xored [] ys = []
xored (x ∷ xs) [] = []
xored (x ∷ xs) (y ∷ ys) = bit_xor x y ∷ xored xs ys

-- the steps by a list of bits
bits_from-xor : (c d : ℕ) (xs ys : List ℕ) → length xs ≡ length ys → bits_from (bit_xor c d) (xored xs ys) ≡ bit_xor (bits_from c xs) (bits_from d ys)
unfolding bits_from
bits_from-xor c d [] [] h = refl
bits_from-xor c d [] (y ∷ ys) h = absurd (omega arith)
bits_from-xor c d (x ∷ xs) [] h = absurd (omega arith)
bits_from-xor c d (x ∷ xs) (y ∷ ys) h =
    ap (λ (r : ℕ). bits_from r (xored xs ys)) (bit_step-xor c d x y) ∙ bits_from-xor (bit_step c x) (bit_step d y) xs ys (omega arith)

-- a bit of an exclusive or
bit-xor : (a b k : ℕ) → bit_xor a b / 2 ^ k % 2 ≡ bit_xor (a / 2 ^ k % 2) (b / 2 ^ k % 2)
bit-xor a b k = ap odd (xor_shr a b k) ∙ xor_mod (a / 2 ^ k) (b / 2 ^ k) 1

-- all eight bits of it
bits_of-xor : (a b : ℕ) → bits_of (bit_xor a b) ≡ xored (bits_of a) (bits_of b)
unfolding bits_of
bits_of-xor a b = rw (bit-xor a b 7, bit-xor a b 6, bit-xor a b 5, bit-xor a b 4, bit-xor a b 3, bit-xor a b 2, bit-xor a b 1, xor_mod a b 1)

-- the step by one byte
pub byte_step-xor : (c d a b : ℕ) → byte_step (bit_xor c d) (bit_xor a b) ≡ bit_xor (byte_step c a) (byte_step d b)
unfolding byte_step bits_of
byte_step-xor c d a b = ap (bits_from (bit_xor c d)) (bits_of-xor a b) ∙ bits_from-xor c d (bits_of a) (bits_of b) refl

-- ---- a byte's step, by the step from 0

-- a bit equal to the top bit shifts the remainder, and no more
shift : (c b : ℕ) → (c / 32768 + b) % 2 ≡ 0 → bit_step c b ≡ c * 2 % 65536
unfolding bit_step
shift c b h = ap (λ (x : ℕ). bit_xor (c * 2 % 65536) (0x1021 * x)) h ∙ xor_zero_r (c * 2 % 65536)

-- and so on, after a shift by some bits
shift-more : {r : ℕ} (c m b : ℕ) → r ≡ c * m % 65536 → (c * m % 65536 / 32768 + b) % 2 ≡ 0 → bit_step r b ≡ c * (m * 2) % 65536
shift-more c m b e h =
    let f : c * m % 65536 * 2 % 65536 ≡ c * (m * 2) % 65536 = omega (arith, mul_assoc c m 2) in
    ap (λ (x : ℕ). bit_step x b) e ∙ shift (c * m % 65536) b h ∙ f

-- so a byte equal to the high byte shifts the remainder by eight bits
byte_step-high : (c : ℕ) → byte_step c (c / 256) ≡ c % 256 * 256
unfolding byte_step bits_from bits_of
byte_step-high c =
    let e₁ = shift c (c / 256 / 128 % 2) (omega arith) in
    let e₂ = shift-more c 2 (c / 256 / 64 % 2) e₁ (omega arith) in
    let e₃ = shift-more c 4 (c / 256 / 32 % 2) e₂ (omega arith) in
    let e₄ = shift-more c 8 (c / 256 / 16 % 2) e₃ (omega arith) in
    let e₅ = shift-more c 16 (c / 256 / 8 % 2) e₄ (omega arith) in
    let e₆ = shift-more c 32 (c / 256 / 4 % 2) e₅ (omega arith) in
    let e₇ = shift-more c 64 (c / 256 / 2 % 2) e₆ (omega arith) in
    let e₈ = shift-more c 128 (c / 256 % 2) e₇ (omega arith) in
    let f : c * 256 % 65536 ≡ c % 256 * 256 = omega arith in
    e₈ ∙ f

-- the step from any remainder, by the step from 0
pub byte_step-zero : (c b : ℕ) → byte_step c b ≡ bit_xor (c % 256 * 256) (byte_step 0 (bit_xor (c / 256) b))
byte_step-zero c b =
    let h : ℕ = c / 256 in
    let e : b ≡ bit_xor h (bit_xor h b) = ap (λ (x : ℕ). bit_xor x b) (sym (xor_self h)) ∙ xor_assoc h h b in
    ap₂ byte_step (sym (xor_zero_r c)) e
    ∙ byte_step-xor c 0 h (bit_xor h b)
    ∙ ap (λ (x : ℕ). bit_xor x (byte_step 0 (bit_xor h b))) (byte_step-high c)

-- ---- a rule computed at each number below n

-- the values of f at the n numbers from i on
abbrev pub listed : (ℕ → ℕ) → ℕ → ℕ → List ℕ
listed f i zero = []
listed f i (suc n) = f i ∷ listed f (suc i) n

-- each stands in its place
get_or-listed : (f : ℕ → ℕ) (i n k : ℕ) → k < n → get_or (listed f i n) k 0 ≡ f (i + k)
get_or-listed f i zero k h = absurd (omega arith)
get_or-listed f i (suc n) zero h = ap f (sym (add-zero i))
get_or-listed f i (suc n) (suc k) h = get_or-listed f (suc i) n k (le_of_suc-le-suc h) ∙ ap f (suc-add i k ∙ sym (add-suc i k))

-- so two functions with the same values there agree at each number below n
pub listed-agree : (f g : ℕ → ℕ) (n k : ℕ) → listed f 0 n ≡ listed g 0 n → k < n → f k ≡ g k
listed-agree f g n k e h =
    ap f (sym (zero-add k)) ∙ sym (get_or-listed f 0 n k h) ∙ ap (λ (l : List ℕ). get_or l k 0) e ∙ get_or-listed g 0 n k h ∙ ap g (zero-add k)

-- ---- the CRC of a list

-- a step by a bit leaves 16 bits, whatever it is given
bit_step-below : (c b : ℕ) → bit_step c b < 65536
unfolding bit_step
bit_step-below c b = xor_lt 16 (c * 2 % 65536) (0x1021 * ((c / 32768 + b) % 2)) (omega arith) (omega arith)

-- so does a step by a byte
pub byte_step-below : (c b : ℕ) → byte_step c b < 65536
unfolding byte_step bits_from bits_of
byte_step-below c b = bit_step-below _ (b % 2)

-- a CRC that starts with 16 bits has 16 bits, whatever numbers the list holds
pub crc-below : (c : ℕ) (s : List ℕ) → c < 65536 → crc_from c s < 65536
unfolding crc_from
crc-below c [] h = h
crc-below c (b ∷ s) h = crc-below (byte_step c b) s (byte_step-below c b)

-- of two lists in a row, the CRC of the second starts at that of the first
pub crc-append : (c : ℕ) (a b : List ℕ) → crc_from c (a ++ b) ≡ crc_from (crc_from c a) b
unfolding crc_from
crc-append c [] b = refl
crc-append c (x ∷ a) b = crc-append (byte_step c x) a b

-- one byte further on, what is left of the list leads to the same CRC
pub crc-next : (c : ℕ) (s : List ℕ) (i : ℕ) {r : ℕ} → i < length s → r ≡ byte_step c (get_or s i 0) → crc_from r (drop (i + 1) s) ≡ crc_from c (drop i s)
unfolding crc_from
crc-next c s i h e = rw (e, add-one, drop-cons s i 0)

-- and at the end nothing is left
pub crc-end : (c : ℕ) (s : List ℕ) (i : ℕ) → length s ≤ i → crc_from c (drop i s) ≡ c
unfolding crc_from
crc-end c s i h = rw (drop_of_length-le s h)

-- the CRC as a fold
pub crc-fold : (c : ℕ) (s : List ℕ) → fold byte_step c s ≡ crc_from c s
unfolding crc_from
crc-fold c [] = refl
crc-fold c (b ∷ s) = crc-fold (byte_step c b) s

-- ---- the checksum

-- the sum modulo 256 as a fold
pub total-fold : (n : ℕ) (s : List ℕ) → fold (λ a b. (a + b) % 256) n s % 256 ≡ (n + total s) % 256
unfolding total
total-fold n [] = omega arith
total-fold n (b ∷ s) = omega (arith, total-fold ((n + b) % 256) s)

-- the sum of two lists in a row
pub total-append : (a b : List ℕ) → total (a ++ b) ≡ total a + total b
unfolding total
total-append [] b = omega arith
total-append (x ∷ a) b = omega (arith, total-append a b)

-- the sums of the two parts, each modulo 256, add up to the checksum
pub checksum-parts : (s : List ℕ) {r a b : ℕ} → a ≡ total (take 4 s) % 256 → b ≡ total (take 11 (drop 5 s)) % 256 → r ≡ (a + b) % 256 → r ≡ checksum_of s
unfolding checksum_of
checksum-parts s ea eb e = omega (arith, total-append (take 4 s) (take 11 (drop 5 s)))

-- a checksum is a byte
pub checksum-below : (s : List ℕ) → checksum_of s < 256
unfolding checksum_of
checksum-below s = omega arith

-- and it does not depend on byte 4, where it stands
pub checksum-set : (s : List ℕ) (v : ℕ) → checksum_of (set s 4 v) ≡ checksum_of s
unfolding checksum_of
checksum-set s v = rw (take-set-le 4 s 4 v (omega arith), drop-set-lt 5 s 4 v (omega arith))
