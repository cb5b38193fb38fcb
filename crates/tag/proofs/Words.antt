-- Laws of the CRC by words of four bytes. Everything is linear over exclusive or, so a rule for every word is computed at the
-- powers of two alone. They serve the functions of this crate. Assumes nothing.
use Rattle.std.proofs.Common.{◌≡◌, ℕ, zero, suc, ◌+◌, ◌*◌, ◌/◌, ◌%◌, ◌^◌, ◌<◌, ◌≤◌, List, [], ◌∷◌, length, get_or, drop, sym, refl, ap, ◌∙◌, subst, ap₂, mod-lt, mul_comm, div-lt_iff_lt-mul, one-mul, pow-suc, zero-mul, arith, length-drop, pow_pos, ◌++◌, length-append}
use Rattle.std.proofs.lemmas.List.{drop-drop, drop_at}
use Rattle.std.specs.Int.Bits.{xor_assoc}
use native.Mathlib.Numerals.{unary_clauses}
use lib.Bits.{bit_xor, xor_block, xor_comm, xor_mod, xor_self, xor_shifted, xor_shr, xor_zero_r}
use lib.Pow.{split}
use Rattle.tag.specs.Crc.{bit_step, bits_of, bits_from, byte_step, crc_from}
use Rattle.tag.specs.Word.{word_of, word_at, word_step, by_words, four, ByTheWord, carried}
use Rattle.tag.proofs.Laws.{byte_step-xor, crc-append, crc-end, crc-next, listed, listed-agree, xor-pairs}

-- ---- linear functions

-- of an exclusive or, the exclusive or of both
record Linear (f : ℕ → ℕ) : Type 0 where
  over : (x y : ℕ) → f (bit_xor x y) ≡ bit_xor (f x) (f y)

-- of 0, 0
linear-zero : {f : ℕ → ℕ} → Linear f → f 0 ≡ 0
linear-zero {f} l = l.over 0 0 ∙ xor_self (f 0)

-- two that agree at the n lowest powers of two agree at each number of n bits
linear-agree : {f g : ℕ → ℕ} → Linear f → Linear g → (n : ℕ) → ((k : ℕ) → k < n → f (2 ^ k) ≡ g (2 ^ k)) → (t : ℕ) → t < 2 ^ n → f t ≡ g t
linear-agree lf lg zero same zero h = linear-zero lf ∙ sym (linear-zero lg)
linear-agree lf lg zero same (suc t) h = absurd (omega arith)
linear-agree {f} {g} lf lg (suc n) same t h =
    let high : t < 2 * 2 ^ n = subst (λ (x : ℕ). t < x) (pow-suc 2 n ∙ mul_comm (2 ^ n) 2) h in
    let parted : bit_xor (t / 2 ^ n * 2 ^ n) (t % 2 ^ n) ≡ t = xor_shifted (t / 2 ^ n) n (t % 2 ^ n) (mod-lt t (pow_pos n)) ∙ split t n in
    ap f (sym parted)
    ∙ lf.over _ _
    ∙ ap₂ bit_xor (top (t / 2 ^ n) ((div-lt_iff_lt-mul (pow_pos n)).1 high)) (linear-agree lf lg n (λ k j. same k (omega arith)) (t % 2 ^ n) (mod-lt t (pow_pos n)))
    ∙ sym (lg.over _ _)
    ∙ ap g parted
  where
    top : (q : ℕ) → q < 2 → f (q * 2 ^ n) ≡ g (q * 2 ^ n)
    top zero j = simp zero-mul (linear-zero lf ∙ sym (linear-zero lg))
    top (suc zero) j = ap f (one-mul (2 ^ n)) ∙ same n (omega arith) ∙ ap g (sym (one-mul (2 ^ n)))
    top (suc (suc q)) j = absurd (omega arith)

-- so do two whose values at those powers are computed alike
computed : {f g : ℕ → ℕ} → Linear f → Linear g → (n : ℕ) → listed (λ k. f (2 ^ k)) 0 n ≡ listed (λ k. g (2 ^ k)) 0 n → (t : ℕ) → t < 2 ^ n → f t ≡ g t
computed {f} {g} lf lg n e = linear-agree lf lg n (λ k h. listed-agree (λ k. f (2 ^ k)) (λ k. g (2 ^ k)) n k e h)

-- the exclusive or of two, and one after the other
linear-both : {f g : ℕ → ℕ} → Linear f → Linear g → Linear (λ x. bit_xor (f x) (g x))
linear-both {f} {g} lf lg = record { over = λ x y. ap₂ bit_xor (lf.over x y) (lg.over x y) ∙ xor-pairs (f x) (f y) (g x) (g y) }

linear-then : {f g : ℕ → ℕ} → Linear f → Linear g → Linear (λ x. g (f x))
linear-then {f} {g} lf lg = record { over = λ x y. ap g (lf.over x y) ∙ lg.over (f x) (f y) }

-- itself, and 0
linear-id : Linear (λ x. x)
linear-id = record { over = λ x y. refl }

linear-none : Linear (λ x. 0)
linear-none = record { over = λ x y. refl }

-- shifts, and the low bits
linear-down : (k : ℕ) → Linear (λ x. x / 2 ^ k)
linear-down k = record { over = λ x y. xor_shr x y k }

linear-up : (k : ℕ) → Linear (λ x. x * 2 ^ k)
linear-up k = record { over = λ x y. simp unary_clauses at (sym (xor_block k x y 0 0 (pow_pos k) (pow_pos k))) }

linear-low : (k : ℕ) → Linear (λ x. x % 2 ^ k)
linear-low k = record { over = λ x y. xor_mod x y k }

-- ---- a word's step

-- it is linear in the remainder and the word
byte-xor : (s t k : ℕ) → bit_xor s t / 2 ^ k % 256 ≡ bit_xor (s / 2 ^ k % 256) (t / 2 ^ k % 256)
byte-xor s t k = ap (λ (x : ℕ). x % 256) (xor_shr s t k) ∙ xor_mod (s / 2 ^ k) (t / 2 ^ k) 8

pub word_step-xor : (c d s t : ℕ) → word_step (bit_xor c d) (bit_xor s t) ≡ bit_xor (word_step c s) (word_step d t)
unfolding word_step
word_step-xor c d s t = rw (byte-xor s t 24, byte-xor s t 16, byte-xor s t 8, xor_mod s t 8, byte_step-xor, byte_step-xor, byte_step-xor, byte_step-xor)

linear-step : {f g : ℕ → ℕ} → Linear f → Linear g → Linear (λ x. word_step (f x) (g x))
linear-step {f} {g} lf lg =
    record { over = λ x y. ap₂ word_step (lf.over x y) (lg.over x y) ∙ word_step-xor (f x) (f y) (g x) (g y) }

-- what the code makes of a word: the quotient by the polynomial, in three turns, then the product of its low bits with the polynomial
abbrev pub turn1 : ℕ → ℕ
turn1 t = bit_xor (bit_xor (bit_xor t (t / 16)) (t / 2048)) (t / 65536)

abbrev pub turn2 : ℕ → ℕ
turn2 u = bit_xor (bit_xor u (u / 256)) (u / 4194304)

abbrev pub turn3 : ℕ → ℕ
turn3 v = bit_xor v (v / 65536) % 65536

abbrev pub product : ℕ → ℕ
product q = bit_xor (bit_xor q (q * 32)) (q * 4096) % 65536

fold-linear : Linear (λ t. product (turn3 (turn2 (turn1 t))))
fold-linear =
    let l₁ : Linear turn1 = linear-both (linear-both (linear-both linear-id (linear-down 4)) (linear-down 11)) (linear-down 16) in
    let l₂ : Linear turn2 = linear-both (linear-both linear-id (linear-down 8)) (linear-down 22) in
    let l₃ : Linear turn3 = linear-then (linear-both linear-id (linear-down 16)) (linear-low 16) in
    let l₄ : Linear product = linear-then (linear-both (linear-both linear-id (linear-up 5)) (linear-up 12)) (linear-low 16) in
    linear-then (linear-then (linear-then l₁ l₂) l₃) l₄

-- that is the word's step from 0
pub fold-rule : (t : ℕ) → t < 4294967296 → product (turn3 (turn2 (turn1 t))) ≡ word_step 0 t
unfolding word_step byte_step bits_from bits_of bit_step
fold-rule = computed fold-linear (linear-step linear-none linear-id) 32 refl

-- a remainder before a word is as good as a word from 0
start-rule : (c : ℕ) → c < 65536 → word_step 0 (c * 65536) ≡ word_step c 0
unfolding word_step byte_step bits_from bits_of bit_step
start-rule = computed (linear-step linear-none (linear-up 16)) (linear-step linear-id linear-none) 16 refl

pub step-raised : (c w : ℕ) → c < 65536 → word_step 0 (bit_xor (c * 65536) w) ≡ word_step c w
step-raised c w h =
    word_step-xor 0 0 (c * 65536) w ∙ ap (λ (x : ℕ). bit_xor x (word_step 0 w)) (start-rule c h) ∙ sym (word_step-xor c 0 0 w)
    ∙ ap (λ (x : ℕ). word_step x w) (xor_zero_r c)

-- ---- a word of a list

-- a byte's step looks at eight bits only
bits-low : (b : ℕ) → bits_of (b % 256) ≡ bits_of b
unfolding bits_of
bits-low b =
    let e : (b % 256 / 128 % 2 ≡ b / 128 % 2) × (b % 256 / 64 % 2 ≡ b / 64 % 2) × (b % 256 / 32 % 2 ≡ b / 32 % 2) × (b % 256 / 16 % 2 ≡ b / 16 % 2) = omega arith in
    let f : (b % 256 / 8 % 2 ≡ b / 8 % 2) × (b % 256 / 4 % 2 ≡ b / 4 % 2) × (b % 256 / 2 % 2 ≡ b / 2 % 2) × (b % 256 % 2 ≡ b % 2) = omega arith in
    rw (e.0, e.1, e.2, e.3, f.0, f.1, f.2, f.3)

byte_step-low : (c b : ℕ) → byte_step c (b % 256) ≡ byte_step c b
unfolding byte_step
byte_step-low c b = ap (bits_from c) (bits-low b)

-- the step by the word of four bytes is the four steps
pub word_bytes : (c a b d e : ℕ) → word_step c (word_of a b d e) ≡ byte_step (byte_step (byte_step (byte_step c a) b) d) e
unfolding word_step
word_bytes c a b d e =
    let e₀ : word_of a b d e / 16777216 % 256 ≡ a % 256 = omega arith in
    let e₁ : word_of a b d e / 65536 % 256 ≡ b % 256 = omega arith in
    let e₂ : word_of a b d e / 256 % 256 ≡ d % 256 = omega arith in
    let e₃ : word_of a b d e % 256 ≡ e % 256 = omega arith in
    rw (e₀, e₁, e₂, e₃, byte_step-low, byte_step-low, byte_step-low, byte_step-low)

-- and four steps by the bytes of a word are the step by it
pub bytes_word : (c w : ℕ) {r a b d e : ℕ} → a ≡ w / 16777216 % 256 → b ≡ w / 65536 % 256 → d ≡ w / 256 % 256 → e ≡ w % 256 → r ≡ byte_step (byte_step (byte_step (byte_step c a) b) d) e → r ≡ word_step c w
unfolding word_step
bytes_word c w ea eb ed ee h = h ∙ ap₂ byte_step (ap₂ byte_step (ap₂ byte_step (ap (byte_step c) ea) eb) ed) ee

-- four bytes further on, what is left of the list leads to the same CRC
pub crc-next-four : (c : ℕ) (s : List ℕ) (i : ℕ) {r : ℕ} → i + 4 ≤ length s → r ≡ byte_step (byte_step (byte_step (byte_step c (get_or s i 0)) (get_or s (i + 1) 0)) (get_or s (i + 2) 0)) (get_or s (i + 3) 0) → crc_from r (drop (i + 4) s) ≡ crc_from c (drop i s)
crc-next-four c s i h e =
    let e₂ : i + 1 + 1 ≡ i + 2 = omega arith in
    let e₃ : i + 2 + 1 ≡ i + 3 = omega arith in
    let e₄ : i + 3 + 1 ≡ i + 4 = omega arith in
    ap₂ rest e (sym e₄)
    ∙ crc-next _ s (i + 3) (omega arith) refl
    ∙ ap (rest _) (sym e₃)
    ∙ crc-next _ s (i + 2) (omega arith) refl
    ∙ ap (rest _) (sym e₂)
    ∙ crc-next _ s (i + 1) (omega arith) refl
    ∙ crc-next c s i (omega arith) refl
  where
    rest : ℕ → ℕ → ℕ
    rest r n = crc_from r (drop n s)

-- four bytes taken off the front
pub crc-four-off : (c r : ℕ) (w t s : List ℕ) → length w ≡ 4 → s ≡ w ++ t → r ≡ byte_step (byte_step (byte_step (byte_step c (get_or w 0 0)) (get_or w 1 0)) (get_or w 2 0)) (get_or w 3 0) → crc_from r t ≡ crc_from c s
crc-four-off c r w t s l e h =
    let all : r ≡ crc_from c w = sym (crc-end r w 4 (omega arith)) ∙ crc-next-four c w 0 (omega arith) h in
    ap (λ (x : ℕ). crc_from x t) all ∙ sym (crc-append c w t) ∙ ap (crc_from c) (sym e)

-- and what is then left of a list
pub four-off : (s left w t : List ℕ) (i : ℕ) → i ≤ length s → left ≡ drop i s → length w ≡ 4 → left ≡ w ++ t → (i + 4 ≤ length s) × (t ≡ drop (i + 4) s)
four-off s left w t i h e l f = (
  omega (arith, ap (λ (x : List ℕ). length x) (sym e ∙ f), length-append w t, length-drop i s),
  sym (drop_at w t 4 l) ∙ ap (drop 4) (sym f ∙ e) ∙ drop-drop 4 i s,
)

-- so it does one word further on
crc-next-word : (c : ℕ) (s : List ℕ) (i : ℕ) → i + 4 ≤ length s → crc_from (word_step c (word_at s i)) (drop (i + 4) s) ≡ crc_from c (drop i s)
crc-next-word c s i h = crc-next-four c s i h (word_bytes c (get_or s i 0) (get_or s (i + 1) 0) (get_or s (i + 2) 0) (get_or s (i + 3) 0))

-- ---- a word taken off, and xored into words further on

-- x^128 + x^96 + x^40 + 1 is a multiple of the polynomial: a word with its copies 4, 11 and 16 bytes further on has CRC 0
copies-none : (t : ℕ) → t < 4294967296 → word_step (four t t (t / 16777216) (t % 16777216 * 256)) t ≡ 0
unfolding word_step byte_step bits_from bits_of bit_step
copies-none =
    computed
    (linear-step (linear-step (linear-step (linear-step (linear-step linear-none linear-id) linear-id) (linear-down 24)) (linear-then (linear-low 24) (linear-up 8))) linear-id)
    linear-none
    32
    refl

-- so a word may be taken off where its copies are xored into the words there
taken-off : (t p q r s : ℕ) → t < 4294967296 → four (bit_xor p t) (bit_xor q (t / 16777216)) (bit_xor r (t % 16777216 * 256)) (bit_xor s t) ≡ word_step (four t p q r) s
taken-off t p q r s h =
    let u : ℕ = t / 16777216 in
    let v : ℕ = t % 16777216 * 256 in
    let e₁ : word_step 0 (bit_xor p t) ≡ bit_xor (word_step (word_step 0 t) p) (word_step (word_step 0 t) t) =
    ap (λ (x : ℕ). word_step x (bit_xor p t)) (sym (xor_self (word_step 0 t))) ∙ word_step-xor _ _ p t
    in
    let e₂ = ap (λ (x : ℕ). word_step x (bit_xor q u)) e₁ ∙ word_step-xor _ _ q u in
    let e₃ = ap (λ (x : ℕ). word_step x (bit_xor r v)) e₂ ∙ word_step-xor _ _ r v in
    let e₄ = ap (λ (x : ℕ). word_step x (bit_xor s t)) e₃ ∙ word_step-xor _ _ s t in
    e₄ ∙ ap (bit_xor (word_step (four t p q r) s)) (copies-none t h) ∙ xor_zero_r _

-- at first only the start is a mask
pub carry-starts : (s : List ℕ) (c : ℕ) → 16 ≤ length s → c < 65536 → carried s 0 (c * 65536) 0 0 0 ≡ crc_from c s
carry-starts s c h hc =
    ap (λ (x : ℕ). crc_from (word_step (word_step (word_step x (word_at s 4)) (word_at s 8)) (word_at s 12)) (drop 16 s)) (step-raised c (word_at s 0) hc)
    ∙ crc-next-word _ s 12 (omega arith)
    ∙ crc-next-word _ s 8 (omega arith)
    ∙ crc-next-word _ s 4 (omega arith)
    ∙ crc-next-word c s 0 (omega arith)

-- the order of two masks of one word
xor-swap : (a b c : ℕ) → bit_xor (bit_xor a b) c ≡ bit_xor (bit_xor a c) b
xor-swap a b c = xor_assoc a b c ∙ ap (bit_xor a) (xor_comm b c) ∙ sym (xor_assoc a c b)

-- one word further on, with that word taken off
pub carry-next : (s : List ℕ) (i a b c d : ℕ) {t : ℕ} → i + 20 ≤ length s → t ≡ bit_xor a (word_at s i) → t < 4294967296 → carried s (i + 4) (bit_xor b t) (bit_xor c (t / 16777216)) (bit_xor d (t % 16777216 * 256)) t ≡ carried s i a b c d
carry-next s i a b c d {t} h e ht =
    let u : ℕ = t / 16777216 in
    let v : ℕ = t % 16777216 * 256 in
    let p : ℕ = bit_xor b (word_at s (i + 4)) in
    let q : ℕ = bit_xor c (word_at s (i + 8)) in
    let r : ℕ = bit_xor d (word_at s (i + 12)) in
    let e₈ : i + 4 + 4 ≡ i + 8 = omega arith in
    let e₁₂ : i + 4 + 8 ≡ i + 12 = omega arith in
    let e₁₆ : i + 4 + 12 ≡ i + 16 = omega arith in
    let e₂₀ : i + 4 + 16 ≡ i + 16 + 4 = omega arith in
    let f₁ : bit_xor (bit_xor b t) (word_at s (i + 4)) ≡ bit_xor p t = xor-swap b t _ in
    let f₂ : bit_xor (bit_xor c u) (word_at s (i + 4 + 4)) ≡ bit_xor q u = ap (λ (n : ℕ). bit_xor (bit_xor c u) (word_at s n)) e₈ ∙ xor-swap c u _ in
    let f₃ : bit_xor (bit_xor d v) (word_at s (i + 4 + 8)) ≡ bit_xor r v = ap (λ (n : ℕ). bit_xor (bit_xor d v) (word_at s n)) e₁₂ ∙ xor-swap d v _ in
    let f₄ : bit_xor t (word_at s (i + 4 + 12)) ≡ bit_xor (word_at s (i + 16)) t = ap (λ (n : ℕ). bit_xor t (word_at s n)) e₁₆ ∙ xor_comm t _ in
    let g : four (bit_xor (bit_xor b t) (word_at s (i + 4))) (bit_xor (bit_xor c u) (word_at s (i + 4 + 4))) (bit_xor (bit_xor d v) (word_at s (i + 4 + 8))) (bit_xor t (word_at s (i + 4 + 12))) ≡ word_step (four t p q r) (word_at s (i + 16)) =
    ap₂ word_step (ap₂ word_step (ap₂ word_step (ap (word_step 0) f₁) f₂) f₃) f₄ ∙ taken-off t p q r (word_at s (i + 16)) ht
    in
    ap₂ (λ (x n : ℕ). crc_from x (drop n s)) g e₂₀
    ∙ crc-next-word (four t p q r) s (i + 16) (omega arith)
    ∙ ap (λ (x : ℕ). crc_from (four x p q r) (drop (i + 16) s)) e

-- ---- the statement

-- a list by words, from any remainder
by-words : (r : ℕ) (s : List ℕ) → by_words r s ≡ crc_from r s
unfolding by_words crc_from
by-words r [] = refl
by-words r (a ∷ []) = refl
by-words r (a ∷ b ∷ []) = refl
by-words r (a ∷ b ∷ c ∷ []) = refl
by-words r (a ∷ b ∷ c ∷ d ∷ s) = by-words (word_step r (word_of a b c d)) s ∙ ap (λ (x : ℕ). crc_from x s) (word_bytes r a b c d)

-- the digits 1 to 9
digits : by_words 0 (49 ∷ 50 ∷ 51 ∷ 52 ∷ 53 ∷ 54 ∷ 55 ∷ 56 ∷ 57 ∷ []) ≡ 0x31c3
unfolding by_words word_step crc_from byte_step bits_from bits_of bit_step
digits = refl

pub by-the-word : ByTheWord
by-the-word = record { step = word_bytes; whole = by-words; published = digits; turn = λ t p q r s h. sym (taken-off t p q r s h) }
