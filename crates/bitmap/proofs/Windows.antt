-- What a window of the bitmap shows. Assumes nothing.
use Prim.Native.Nat.{ℕ, ◌+◌, ◌-◌, ◌*◌, ◌/◌, ◌%◌, ◌^◌, ◌≤◌, ◌<◌}
use mathlib.Core.Path.{◌≡◌, refl, sym, ap, ap₂, ◌∙◌, subst}
use mathlib.Core.Logic.{◌⊎◌, ⊎_elim}
use mathlib.Core.List.{List}
use native.Mathlib.Omega.{arith}
use native.Mathlib.Nat.{mod-lt, div-eq_of_lt}
use native.Mathlib.Decide.{ℕ_discrete, dec_le}
use lib.ListN.{get_or, length}
use lib.Pow.{pow_pos, ones_sub-lt}
use lib.Count.{count_trailing_zeros, count_leading_zeros}
use Rattle.fields.specs.Number.{field}
use Rattle.fields.proofs.Laws.{by-dec, AllBytes, field_next, field-none}
use Rattle.bitmap.specs.Bits.{bit_at}
use Rattle.bitmap.specs.State.{state_bit}
use Rattle.bitmap.specs.declared.State.{State}
use Rattle.bitmap.specs.declared.State.TheVariants.{Allocated, Free}
use Rattle.bitmap.specs.Scan.{Shows, Back}
use Rattle.bitmap.proofs.Digits.{field-digit, complement-digit, trailing-zero, trailing-one, leading-zero, leading-one, down-digit, up-digit}

-- a state's bit is 0 or 1
pub state-small : (state : State) → state_bit state < 2
state-small Allocated = omega arith
state-small Free = omega arith

-- a bit is 0 or 1
pub bit-small : (b : List ℕ) (s : ℕ) → bit_at b s < 2
unfolding bit_at
bit-small b s = mod-lt (get_or b (24 + s / 8) 0 / 2 ^ (s % 8)) (omega arith)

-- a bit is a digit of its byte
pub bit-of : (b : List ℕ) (q j : ℕ) → j < 8 → bit_at b (8 * q + j) ≡ get_or b (24 + q) 0 / 2 ^ j % 2
unfolding bit_at
bit-of b q j h =
    let a : 24 + (8 * q + j) / 8 ≡ 24 + q = omega arith in
    let m : (8 * q + j) % 8 ≡ j = omega arith in
    ap₂ (λ (y z : ℕ). get_or b y 0 / 2 ^ z % 2) a m

-- a digit of the bytes is a bit of the bitmap
pub bit-digit : (b : List ℕ) → AllBytes b → (w q j : ℕ) → j < 8 * w → field b (24 + q) w / 2 ^ j % 2 ≡ bit_at b (8 * q + j)
unfolding bit_at
bit-digit b bytes w q j h =
    let a : 24 + q + j / 8 ≡ 24 + (8 * q + j) / 8 = omega arith in
    let m : j % 8 ≡ (8 * q + j) % 8 = omega arith in
    field-digit b bytes w (24 + q) j h
    ∙ ap (λ (y : ℕ). get_or b y 0 / 2 ^ (j % 8) % 2) a
    ∙ ap (λ (y : ℕ). get_or b (24 + (8 * q + j) / 8) 0 / 2 ^ y % 2) m

-- one byte is a field
pub byte-field : (b : List ℕ) (at : ℕ) → get_or b at 0 ≡ field b at 1
byte-field b at = let n = field-none b (at + 1) in let e = field_next b at (at + 1) 0 refl in omega arith

module _ (b : List ℕ) (bytes : AllBytes b) (state w q x : ℕ) (e : x ≡ field b (24 + q) w)
    (size : (8 * w ≡ 8) ⊎ (8 * w ≡ 64)) (whole : 32 + q ≤ length b → 8 * w ≡ 64) (small : x < 2 ^ (8 * w)) where
  digit : (j : ℕ) → j < 8 * w → x / 2 ^ j % 2 ≡ bit_at b (8 * q + j)
  digit j h = ap (λ (y : ℕ). y / 2 ^ j % 2) e ∙ bit-digit b bytes w q j h

  -- the bits as they are
  shows-free : state ≡ 1 → Shows b state q (8 * w) x
  shows-free s =
      record {
        size = size;
        whole = whole;
        small = small;
        one = λ j h d. sym (digit j h) ∙ d ∙ sym s;
        zero = λ j h d z. let y = digit j h in omega (arith, y, d, z);
      }

  -- their complement
  shows-allocated : state ≡ 0 → Shows b state q (8 * w) (2 ^ (8 * w) - 1 - x)
  shows-allocated s =
      record {
        size = size;
        whole = whole;
        small = ones_sub-lt (8 * w) x;
        one = λ j h d. let y = digit j h in let c = complement-digit (8 * w) x j small h in let m = bit-small b (8 * q + j) in omega (arith, y, c, d, m);
        zero = λ j h d z. let y = digit j h in let c = complement-digit (8 * w) x j small h in omega (arith, y, c, d, z);
      }

  -- the bits of the blocks that are in this state
  pub shows : (y : ℕ) → state < 2 → (state ≡ 1 → y ≡ x) → (state ≡ 0 → y ≡ 2 ^ (8 * w) - 1 - x) → Shows b state q (8 * w) y
  shows y two free allocated =
      by-dec
      (λ one. subst (Shows b state q (8 * w)) (sym (free one)) (shows-free one))
      (λ other. let none : state ≡ 0 = omega (arith, other, two) in subst (Shows b state q (8 * w)) (sym (allocated none)) (shows-allocated none))
      (ℕ_discrete state 1)

pub few : {b : List ℕ} {state q n x : ℕ} → Shows b state q n x → n ≤ 64
few sh = ⊎_elim (λ e. omega arith) (λ e. omega arith) sh.size

pub enough : {b : List ℕ} {state q n x : ℕ} → Shows b state q n x → 8 ≤ n
enough sh = ⊎_elim (λ e. omega arith) (λ e. omega arith) sh.size

-- a word that is `none_in` has no block in this state
pub none_here : (b : List ℕ) → AllBytes b → (state q x y : ℕ) → state < 2 → x ≡ field b (24 + q) 8 → (state ≡ 1 → y ≡ 0) → (state ≡ 0 → y ≡ 2 ^ 64 - 1) → x ≡ y
    → (i : ℕ) → 8 * q ≤ i → i < 8 * q + 64 → bit_at b i ≡ state → ⊥
none_here b bytes state q x y two e free allocated s i l u h =
    let j = i - 8 * q in
    let at : 8 * q + j ≡ i = omega arith in
    let d : y / 2 ^ j % 2 ≡ state = ap (λ (z : ℕ). z / 2 ^ j % 2) (sym s ∙ e) ∙ bit-digit b bytes 8 q j (omega arith) ∙ ap (bit_at b) at ∙ h in
    by-dec
    (λ one.
    let z = ap (λ (m : ℕ). m / 2 ^ j % 2) (free one) in
    let n = zero-digit j in
    omega (arith, d, z, n, one))
    (λ other.
    let none : state ≡ 0 = omega (arith, other, two) in
    let z = ap (λ (m : ℕ). m / 2 ^ j % 2) (allocated none) in
    let c = complement-digit 64 0 j (pow_pos 64) (omega arith) in
    let n = zero-digit j in
    omega (arith, d, z, c, n, none))
    (ℕ_discrete state 1)
  where
    zero-digit : (j : ℕ) → 0 / 2 ^ j % 2 ≡ 0
    zero-digit j = ap (λ (m : ℕ). m % 2) (div-eq_of_lt (pow_pos j))

-- ---- the lowest one of a window, from block s on

module _ (b : List ℕ) (state s n x : ℕ) (sh : Shows b state (s / 8) n x) where
  abbrev zeros-up : ℕ
  zeros-up = count_trailing_zeros 64 (x / 2 ^ (s % 8))

  pub next-hit : s % 8 + zeros-up < n → (r : ℕ) → r ≡ s + zeros-up → bit_at b r ≡ state
  next-hit h r e =
      let m = few sh in
      let at : 8 * (s / 8) + (s % 8 + zeros-up) ≡ r = omega (arith, e) in
      ap (bit_at b) (sym at)
      ∙ sh.one (s % 8 + zeros-up) h
      (sym (down-digit x (s % 8) zeros-up) ∙ trailing-one 64 (x / 2 ^ (s % 8)) (omega arith))

  pub next-passed : (i : ℕ) → s ≤ i → i < s + zeros-up → i < 8 * (s / 8) + n → bit_at b i ≡ state → ⊥
  next-passed i l u m =
      let j = i - s in
      let at : 8 * (s / 8) + (s % 8 + j) ≡ i = omega arith in
      subst (λ (y : ℕ). bit_at b y ≡ state → ⊥) at
      (sh.zero (s % 8 + j) (omega arith) (sym (down-digit x (s % 8) j) ∙ trailing-zero 64 (x / 2 ^ (s % 8)) j (omega arith)))

-- ---- the highest one of a window, below block t

module _ (b : List ℕ) (state q t n x : ℕ) (sh : Shows b state q n x) (above : 8 * q < t) (within : t ≤ 8 * q + n) where
  abbrev up : ℕ
  up = 64 + 8 * q - t

  abbrev zeros-down : ℕ
  zeros-down = count_leading_zeros 64 (x * 2 ^ up % 2 ^ 64)

  pub last-hit : up + zeros-down < 64 → (r : ℕ) → r ≡ t - zeros-down → bit_at b (r - 1) ≡ state
  last-hit h r e =
      let m = few sh in
      let j = 63 - zeros-down - up in
      let at : 8 * q + j ≡ r - 1 = omega (arith, e, m) in
      ap (bit_at b) (sym at)
      ∙ sh.one j (omega (arith, m))
      (sym (up-digit 64 x up j (omega arith))
      ∙ leading-one 64 (x * 2 ^ up % 2 ^ 64) (up + j) (mod-lt (x * 2 ^ up) (pow_pos 64)) (omega arith))

  pub last-passed : (i : ℕ) → 8 * q ≤ i → i < t → t ≤ i + zeros-down → bit_at b i ≡ state → ⊥
  last-passed i l u h =
      let m = few sh in
      let j = i - 8 * q in
      let at : 8 * q + j ≡ i = omega arith in
      subst (λ (y : ℕ). bit_at b y ≡ state → ⊥) at
      (sh.zero j (omega arith) (sym (up-digit 64 x up j (omega (arith, m))) ∙ leading-zero 64 (x * 2 ^ up % 2 ^ 64) (up + j) (mod-lt (x * 2 ^ up) (pow_pos 64)) (omega (arith, m))))

-- a window that begins where `back_from` says holds the block
pub holds : {b : List ℕ} {state q n x last : ℕ} → Back (length b) last q → Shows b state q n x → (last < 8 * q + n) × (n ≤ 64)
holds {b} {state} {q} {n} {x} {last} k sh =
    let m = enough sh in
    let f = few sh in
    by-dec
    (λ l. let y = k.many l in let z = sh.whole y.0 in (omega (arith, y.1, z), f))
    (λ l. let y = k.few (omega (arith, l)) in (omega (arith, y, m), f))
    (dec_le 32 (length b))
