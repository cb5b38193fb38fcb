-- Rows of ones in a word, and what a scan for a run makes of it. Assumes nothing.
use Prim.Native.Nat.{ℕ, suc, ◌+◌, ◌-◌, ◌*◌, ◌/◌, ◌%◌, ◌^◌, ◌≤◌, ◌<◌}
use mathlib.Core.Path.{◌≡◌, sym, ap, ◌∙◌, subst}
use mathlib.Core.Bool.{true}
use mathlib.Core.List.{List}
use native.Mathlib.Omega.{arith}
use native.Mathlib.Nat.{mod-lt}
use native.Mathlib.Decide.{dec_le}
use lib.Pow.{pow_pos, shr_lt, ones_sub-lt}
use lib.Count.{count_trailing_zeros, trailing_le, count_leading_zeros, leading_top}
use Rattle.std.specs.Prelude.{Option, Some, None, MatchOption}
use Rattle.fields.proofs.Laws.{by-dec}
use Rattle.bitmap.specs.Bits.{bit_at}
use Rattle.bitmap.specs.Scan.{Shows, FirstOf}
use Rattle.bitmap.proofs.Digits.{complement-digit, down-digit, up-digit, trailing-zero, trailing-one, leading-zero, leading-one}
use Rattle.bitmap.proofs.Windows.{bit-small, few, enough}
use Rattle.bitmap_find.specs.Nearest.{run_at}
use Rattle.bitmap_find.specs.Runs.{SomeBelow, Folded, Lowest}
use Rattle.bitmap_find.specs.Rows.{FreeFrom, FirstOnes, RowIn, LastOnes}
use Rattle.bitmap_find.proofs.Laws.{run_ends}
use Rattle.bitmap_find.proofs.Runs.{run-told, run-free, from_next}
use Rattle.bitmap_find.proofs.Words.{no_digit}

-- ---- what the leaves answer

-- a window of the bitmap, from block s on
pub free-from : (b : List ℕ) (s n x : ℕ) → Shows b 1 (s / 8) n x → FreeFrom b s (n - s % 8) (x / 2 ^ (s % 8))
free-from b s n x sh =
    let m = enough sh in
    let f = few sh in
    record {
      some = omega (arith, m);
      few = omega (arith, f);
      small = let e : n ≡ n - s % 8 + s % 8 = omega (arith, m) in shr_lt (n - s % 8) (s % 8) (subst (λ (k : ℕ). x < 2 ^ k) e sh.small);
      digit = λ j h.
          let i = s % 8 + j in
          let at : 8 * (s / 8) + i ≡ s + j = omega arith in
          let y = x / 2 ^ i in
          let small = bit-small b (8 * (s / 8) + i) in
          let same : y % 2 ≡ bit_at b (8 * (s / 8) + i) =
          by-dec
          (λ d.
          let z : y % 2 ≡ 1 = omega (arith, d) in
          let o = sh.one i (omega (arith, h)) z in
          omega (arith, z, o))
          (λ d.
          let z : y % 2 ≡ 0 = omega (arith, d) in
          by-dec
          (λ o. let k : bit_at b (8 * (s / 8) + i) ≡ 1 = omega (arith, o, small) in absurd (sh.zero i (omega (arith, h)) z k))
          (λ o. omega (arith, o, z))
          (dec_le 1 (bit_at b (8 * (s / 8) + i))))
          (dec_le 1 (y % 2)) in
          down-digit x (s % 8) j ∙ same ∙ ap (bit_at b) at;
    }

pub first-ones : (x r : ℕ) → x < 2 ^ 64 → r ≡ count_trailing_zeros 64 (2 ^ 64 - 1 - x) → FirstOnes x r
first-ones x r h e =
    let c = 2 ^ 64 - 1 - x in
    let m = trailing_le 64 c in
    let digit : (j : ℕ) → j < 64 → x / 2 ^ j % 2 ≡ 1 - c / 2 ^ j % 2 =
    λ j l. let k = complement-digit 64 x j h l in omega (arith, k) in
    record {
      most = omega (arith, m, e);
      ones = λ j l.
          let z = trailing-zero 64 c j (omega (arith, l, e)) in
          let k = digit j (omega (arith, l, m, e)) in
          omega (arith, z, k);
      end = λ l.
          let o : c / 2 ^ r % 2 ≡ 1 = ap (λ (y : ℕ). c / 2 ^ y % 2) e ∙ trailing-one 64 c (omega (arith, l, e)) in
          let k = digit r l in
          omega (arith, o, k);
    }

-- no row is longer than a word
pub no_row : (x w : ℕ) → x < 2 ^ 64 → 64 < w → RowIn x w 64
no_row x w h l =
    record {
      most = omega arith;
      row = λ u. absurd (omega (arith, u));
      least = λ j o.
          by-dec (λ n. n) (λ n.
          let one = o (j + 64) (omega arith) (omega (arith, l)) in
          let none = no_digit 64 x (j + 64) h (omega arith) in
          absurd (omega (arith, one, none))) (dec_le 64 j);
    }

module _ (x w y : ℕ) (f : Folded x w y) where
  pub no-rows : y ≡ 0 → RowIn x w 64
  no-rows e =
      record {
        most = omega arith;
        row = λ u. absurd (omega arith);
        least = λ j o.
            let one = f.here j o in
            let none = no_digit 0 y j (omega (arith, e)) (omega arith) in
            absurd (omega (arith, one, none));
      }

  -- the lowest one, of which there is some
  pub row_in : (y ≡ 0 → ⊥) → SomeBelow (RowIn x w) 64 (Some (count_trailing_zeros 64 y))
  row_in some =
      let r = count_trailing_zeros 64 y in
      let top = leading_top 64 y (omega (arith, some)) f.small in
      let one = leading-one 64 y top.0 f.small (omega (arith, top.1)) in
      let inside : r < 64 =
      by-dec (λ n. n) (λ n.
      let none = trailing-zero 64 y top.0 (omega (arith, n, top.1)) in
      absurd (omega (arith, one, none))) (dec_le (suc r) 64) in (
        inside,
        record {
          most = omega (arith, inside);
          row = λ u. f.row r (trailing-one 64 y inside);
          least = λ j o.
              by-dec (λ n. n) (λ n.
              let a = f.here j o in
              let none = trailing-zero 64 y j (omega (arith, n)) in
              absurd (omega (arith, a, none))) (dec_le r j);
        },
      )

pub last-ones : (x n r : ℕ) → n ≤ 64 → r ≡ count_leading_zeros 64 (2 ^ 64 - 1 - x * 2 ^ (64 - n) % 2 ^ 64) → LastOnes x n r
last-ones x n r h e =
    let up = 64 - n in
    let y = x * 2 ^ up % 2 ^ 64 in
    let c = 2 ^ 64 - 1 - y in
    let small : y < 2 ^ 64 = mod-lt (x * 2 ^ up) (pow_pos 64) in
    let below : c < 2 ^ 64 = ones_sub-lt 64 y in
    let digit : (j : ℕ) → j < n → c / 2 ^ (up + j) % 2 ≡ 1 - x / 2 ^ j % 2 =
    λ j l.
    let i : up + j < 64 = omega (arith, h, l) in
    complement-digit 64 y (up + j) small i ∙ ap (λ (k : ℕ). 1 - k) (up-digit 64 x up j i) in
    record {
      ones = λ j l u.
          let z = leading-zero 64 c (up + j) below (omega (arith, u, e, h)) in
          let k = digit j l in
          omega (arith, z, k);
      end = λ j u.
          let o = leading-one 64 c (up + j) below (omega (arith, u, e, h)) in
          let k = digit j (omega (arith, u)) in
          omega (arith, o, k);
    }

-- ---- the scan

-- where a scan from block `from` on has come to block s: the blocks from `begin` on are free, and no run begins below
pub record Kept (b : List ℕ) (l w from begin s : ℕ) : Type 0 where
  pub above : from ≤ begin
  pub order : begin ≤ s
  pub near : s ≤ l + 64
  pub free : (i : ℕ) → begin ≤ i → i < s → bit_at b i ≡ 1
  pub least : (g : ℕ) → from ≤ g → run_at b l w g ≡ true → begin ≤ g

pub kept-first : (b : List ℕ) (l w from : ℕ) → from ≤ l → Kept b l w from from from
kept-first b l w from h =
    record {
      above = omega arith;
      order = omega arith;
      near = omega arith;
      free = λ i p q. absurd (omega (arith, p, q));
      least = λ g p r. p;
    }

-- block f, unless a run from there on would end past L
abbrev pub Within : ℕ → ℕ → ℕ → Option ℕ → Type 0
Within l w f o = MatchOption o (l < f + w) (λ r. (r ≡ f) × (f + w ≤ l))

-- a block that no run begins below, and at which one begins where it ends by L
pub lowest-at : (b : List ℕ) (l w from f : ℕ) → from ≤ l → 1 ≤ w → from ≤ f
    → ((i : ℕ) → f ≤ i → i < f + w → f + w ≤ l → bit_at b i ≡ 1)
    → ((g : ℕ) → from ≤ g → run_at b l w g ≡ true → f ≤ g)
    → (o : Option ℕ) → Within l w f o → SomeBelow (Lowest b l w from) l o
lowest-at b l w from f h some a free least None n =
    record {
      above = h;
      most = omega arith;
      run = λ u. absurd (omega (arith, u));
      least = λ g p q. let o = least g p q in let m = run_ends b l w 0 g q in absurd (omega (arith, o, m, n));
    }
lowest-at b l w from f h some a free least (Some r) (k, n) = (
  omega (arith, n, k, some),
  record {
    above = omega (arith, a, k);
    most = omega (arith, n, k);
    run = λ u. subst (λ (y : ℕ). run_at b l w y ≡ true) (sym k) (run-told b l w f n (λ i p q z. let o = free i p q n in omega (arith, o, z)));
    least = λ g p q. let o = least g p q in omega (arith, o, k);
  },
)

-- past L there is no more to see
pub kept-last : (b : List ℕ) (l w from begin s : ℕ) → Kept b l w from begin s → from ≤ l → 1 ≤ w → l ≤ s
    → (o : Option ℕ) → Within l w begin o → SomeBelow (Lowest b l w from) l o
kept-last b l w from begin s k h some u =
    lowest-at b l w from begin h some k.above (λ i p q n. k.free i p (omega (arith, q, n, u))) k.least

-- the next word, which begins with some ones
module _ (b : List ℕ) (l w from begin s n x ones : ℕ) (k : Kept b l w from begin s) (f : FreeFrom b s n x) (o : FirstOnes x ones)
    (start : from ≤ l) (some : 1 ≤ w) (inside : s < l) where
  first-in : ones ≤ n
  first-in =
      by-dec (λ m. m) (λ m.
      let one = o.ones n (omega (arith, m)) in
      let none = no_digit n x n f.small (omega arith) in
      absurd (omega (arith, one, none))) (dec_le ones n)

  still-free : (i : ℕ) → begin ≤ i → i < s + ones → bit_at b i ≡ 1
  still-free i p q =
      by-dec (λ m. k.free i p m) (λ m.
      let j = i - s in
      let at : s + j ≡ i = omega (arith, m) in
      let in-word = first-in in
      ap (bit_at b) (sym at) ∙ sym (f.digit j (omega (arith, q, m, in-word))) ∙ o.ones j (omega (arith, q, m))) (dec_le (suc i) s)

  -- they end a row that is long enough
  pub kept-found : w ≤ s + ones - begin → (o : Option ℕ) → Within l w begin o → SomeBelow (Lowest b l w from) l o
  kept-found u =
      lowest-at b l w from begin start some k.above (λ i p q m. still-free i p (omega (arith, q, u, k.order))) k.least

  -- there is nothing else in it
  pub kept_on : n ≤ ones → Kept b l w from begin (s + n)
  kept_on u =
      record {
        above = k.above;
        order = omega (arith, k.order);
        near = omega (arith, inside, f.few);
        free = λ i p q. still-free i p (omega (arith, q, u));
        least = k.least;
      }

  -- or they do not, and a block that is not free follows
  module _ (short : s + ones - begin < w) (more : ones < n) where
    taken : x / 2 ^ ones % 2 ≡ 0
    taken = o.end (omega (arith, more, f.few))

    -- a block of the word that is not free is no block of a run
    passes : (j g : ℕ) → j < n → x / 2 ^ j % 2 ≡ 0 → run_at b l w g ≡ true → g ≤ s + j → g + w ≤ s + j
    passes j g p z r q =
        by-dec (λ m. m) (λ m.
        let one = run-free b l w g r (s + j) q (omega (arith, m)) in
        let d = f.digit j p in
        absurd (omega (arith, one, d, z))) (dec_le (g + w) (s + j))

    -- so no run begins up to it
    after : (g : ℕ) → from ≤ g → run_at b l w g ≡ true → s + ones < g
    after g p r =
        by-dec (λ m. m) (λ m.
        let a = passes ones g more taken r (omega (arith, m)) in
        let c = k.least g p r in
        absurd (omega (arith, a, c, short, some, k.order))) (dec_le (suc (s + ones)) g)

    -- no block of the word is free
    pub kept_next : (r : ℕ) → FirstOf b 1 s l r → Kept b l w from r r
    kept_next r n =
        record {
          above = omega (arith, k.above, k.order, n.above);
          order = omega arith;
          near = omega (arith, n.below);
          free = λ i p q. absurd (omega (arith, p, q));
          least = λ g p q. let a = after g p q in from_next b l w g q some s l r n (omega (arith, a));
        }

    -- and the next free one stands later
    pub next-moves : (r : ℕ) → x ≡ 0 → FirstOf b 1 s l r → s < r
    next-moves r e n =
        by-dec (λ m. m) (λ m.
        let at : s + 0 ≡ r = omega (arith, m, n.above) in
        let one = n.here (omega (arith, m, inside)) in
        let d = f.digit 0 f.some in
        let none = no_digit 0 x 0 (omega (arith, e)) (omega arith) in
        let same = ap (bit_at b) at in
        absurd (omega (arith, one, d, none, same))) (dec_le (suc s) r)

    module _ (row : ℕ) (t : RowIn x w row) where
      -- a run that the word holds begins no lower than the row
      row-least : (g : ℕ) → from ≤ g → run_at b l w g ≡ true → g + w ≤ s + n → s + row ≤ g
      row-least g p r u =
          let a = after g p r in
          let j = g - s in
          let m = t.least j
          (λ i y z.
          f.digit i (omega (arith, z, u, a)) ∙ run-free b l w g r (s + i) (omega (arith, y, a)) (omega (arith, z, a))) in
          omega (arith, m, a)

      -- the lowest row is the lowest run
      pub row-found : row < 64 → (o : Option ℕ) → Within l w (s + row) o → SomeBelow (Lowest b l w from) l o
      row-found u =
          let ends : row + w ≤ n =
          by-dec (λ m. m) (λ m.
          let i = row + w - 1 in
          let one = t.row u i (omega (arith, some)) (omega (arith, some)) in
          let none = no_digit n x i f.small (omega (arith, m, some)) in
          absurd (omega (arith, one, none))) (dec_le (row + w) n) in
          lowest-at b l w from (s + row) start some (omega (arith, k.above, k.order))
          (λ i p q m.
          let j = i - s in
          let at : s + j ≡ i = omega (arith, p) in
          ap (bit_at b) (sym at) ∙ sym (f.digit j (omega (arith, p, q, ends))) ∙ t.row u j (omega (arith, p)) (omega (arith, p, q)))
          (λ g p q. by-dec (λ m. row-least g p q m) (λ m. omega (arith, m, ends)) (dec_le (g + w) (s + n)))

      -- where there is none, a run begins in the ones at the end, or later
      module _ (last : ℕ) (z : LastOnes x n last) where
        pub last-short : ones + last < n
        last-short =
            by-dec (λ m. m) (λ m.
            let one = z.ones ones more (omega (arith, m)) in
            let none = taken in
            absurd (omega (arith, one, none))) (dec_le (suc (ones + last)) n)

        pub kept-none : 64 ≤ row → Kept b l w from (s + n - last) (s + n)
        kept-none u =
            let m = last-short in
            record {
              above = omega (arith, m, k.above, k.order);
              order = omega arith;
              near = omega (arith, inside, f.few);
              free = λ i p q.
                  let j = i - s in
                  let at : s + j ≡ i = omega (arith, p, m) in
                  ap (bit_at b) (sym at) ∙ sym (f.digit j (omega (arith, p, q, m))) ∙ z.ones j (omega (arith, p, q, m)) (omega (arith, p, m));
              least = λ g p r.
                  by-dec (λ v. v) (λ v.
                  let j = n - last - 1 in
                  let d = z.end j (omega (arith, m)) in
                  let a = passes j g (omega (arith, m)) d r (omega (arith, v, m)) in
                  let c = row-least g p r (omega (arith, a, m)) in
                  absurd (omega (arith, a, c, u, f.few, m, some))) (dec_le (s + n - last) g);
            }
