-- Windows of the bitmap that end at a block, and the runs in them. Assumes nothing.
use Prim.Native.Nat.{ℕ, suc, ◌+◌, ◌-◌, ◌*◌, ◌/◌, ◌%◌, ◌^◌, ◌≤◌, ◌<◌}
use mathlib.Core.Path.{◌≡◌, sym, ap, ◌∙◌}
use mathlib.Core.Bool.{true}
use mathlib.Core.List.{List}
use native.Mathlib.Omega.{arith}
use native.Mathlib.Nat.{lt_of_le_of_lt, mul_assoc, mod-lt}
use native.Mathlib.Decide.{ℕ_discrete, dec_le}
use lib.ListN.{length}
use lib.Pow.{pow_pos, pow-add, shl-shr, shr_le, field, mod-mod-pow, ones_sub-lt}
use Rattle.std.specs.Prelude.{Option, Some, None, MatchOption}
use lib.Count.{count_trailing_zeros, trailing_le, count_leading_zeros, leading_le, leading_top}
use Rattle.fields.proofs.Laws.{by-dec}
use Rattle.bitmap.specs.Bits.{bit_at}
use Rattle.bitmap.specs.Scan.{Shows, Back, LastOf}
use Rattle.bitmap.proofs.Digits.{trailing-zero, trailing-one, leading-zero, leading-one, complement-digit, down-digit, up-digit}
use Rattle.bitmap.proofs.Windows.{bit-small, holds}
use Rattle.bitmap_find.specs.Nearest.{run_at}
use Rattle.bitmap_find.specs.Runs.{SomeBelow, Ones, Folded, Highest}
use Rattle.bitmap_find.specs.TopRows.{FreeTo, TopOnes, TopRow, OnesFrom}
use Rattle.bitmap_find.proofs.Runs.{run-told, run-free, by_last}
use Rattle.bitmap_find.proofs.Words.{no_digit}

-- ---- a window

-- the digits that a shift up leaves behind are 0
up-zero : (k n up j : ℕ) → j < up → j < k → n * 2 ^ up % 2 ^ k / 2 ^ j % 2 ≡ 0
up-zero k n up j h l =
    let m = k - suc j in
    let e : m + 1 + j ≡ k = omega arith in
    let u = up - suc j in
    let s : u + 1 + j ≡ up = omega arith in
    let p : 2 ^ up ≡ 2 ^ u * 2 * 2 ^ j = ap (λ (y : ℕ). 2 ^ y) (sym s) ∙ pow-add 2 (u + 1) j ∙ ap (λ (y : ℕ). y * 2 ^ j) (pow-add 2 u 1) in
    let t : n * 2 ^ up ≡ n * 2 ^ u * 2 * 2 ^ j =
    ap (λ (y : ℕ). n * y) p ∙ sym (mul_assoc n (2 ^ u * 2) (2 ^ j)) ∙ ap (λ (y : ℕ). y * 2 ^ j) (sym (mul_assoc n (2 ^ u) 2)) in
    let even : n * 2 ^ u * 2 % 2 ≡ 0 = omega arith in
    ap (λ (y : ℕ). n * 2 ^ up % 2 ^ y / 2 ^ j % 2) (sym e)
    ∙ ap (λ (y : ℕ). y % 2) (field (n * 2 ^ up) (m + 1) j)
    ∙ mod-mod-pow (n * 2 ^ up / 2 ^ j) m 1
    ∙ ap (λ (y : ℕ). y / 2 ^ j % 2) t
    ∙ ap (λ (y : ℕ). y % 2) (shl-shr (n * 2 ^ u * 2) j)
    ∙ even

-- the digits of a window of free blocks are the bits
shown : (b : List ℕ) (q n x : ℕ) → Shows b 1 q n x → (j : ℕ) → j < n → x / 2 ^ j % 2 ≡ bit_at b (8 * q + j)
shown b q n x sh j h =
    let small = bit-small b (8 * q + j) in
    by-dec
    (λ d. d ∙ sym (sh.one j h d))
    (λ d.
    let o : x / 2 ^ j % 2 ≡ 0 = omega (arith, d) in
    by-dec (λ y. absurd (sh.zero j h o y)) (λ y. omega (arith, o, y, small)) (ℕ_discrete (bit_at b (8 * q + j)) 1))
    (ℕ_discrete (x / 2 ^ j % 2) 1)

pub window : (b : List ℕ) (e q n x : ℕ) → 1 ≤ e → Back (length b) (e - 1) q → Shows b 1 q n x → FreeTo b e (e - 8 * q) (x * 2 ^ (64 - (e - 8 * q)) % 2 ^ 64)
window b e q n x some k sh =
    let h = holds k sh in
    let least = k.least in
    let up = 64 - (e - 8 * q) in
    record {
      some = omega (arith, least, some);
      few = omega (arith, h);
      fits = omega arith;
      small = mod-lt (x * 2 ^ up) (pow_pos 64);
      digit = λ i l u.
          let j = i - 8 * q in
          let at : 8 * q + j ≡ i = omega (arith, l, u, least) in
          let place : up + j ≡ 64 + i - e = omega (arith, l, u, least, h) in
          ap (λ (y : ℕ). x * 2 ^ up % 2 ^ 64 / 2 ^ y % 2) (sym place)
          ∙ up-digit 64 x up j (omega (arith, l, u, least, h))
          ∙ shown b q n x sh j (omega (arith, l, u, least, h))
          ∙ ap (bit_at b) at;
      others = λ j l. up-zero 64 x up j (omega (arith, l, h)) (omega arith);
    }

-- ---- the ones of a word

pub top-ones : (x r : ℕ) → x < 2 ^ 64 → r ≡ count_leading_zeros 64 (2 ^ 64 - 1 - x) → TopOnes x r
top-ones x r h e =
    let y = 2 ^ 64 - 1 - x in
    let most = leading_le 64 y in
    let small = ones_sub-lt 64 x in
    record {
      most = omega (arith, e, most);
      ones = λ i l u.
          let c = complement-digit 64 x i h u in
          let z = leading-zero 64 y i small (omega (arith, e, l)) in
          omega (arith, c, z);
      end = λ l.
          let c = complement-digit 64 x (63 - r) h (omega arith) in
          let z = leading-one 64 y (63 - r) small (omega (arith, e, l)) in
          omega (arith, c, z);
    }

module _ (x low r : ℕ) (h : x < 2 ^ 64) (l : low < 64) (e : r ≡ count_trailing_zeros 64 (2 ^ 64 - 1 - x / 2 ^ low)) where
  abbrev y : ℕ
  y = x / 2 ^ low

  abbrev v : ℕ
  v = 2 ^ 64 - 1 - y

  y-small : y < 2 ^ 64
  y-small = lt_of_le_of_lt (shr_le x low) h

  from_one : (i : ℕ) → low ≤ i → i < low + r → x / 2 ^ i % 2 ≡ 1
  from_one i p u =
      let j = i - low in
      let at : low + j ≡ i = omega (arith, p) in
      let most = trailing_le 64 v in
      let c = complement-digit 64 y j y-small (omega (arith, most, e, p, u)) in
      let z = trailing-zero 64 v j (omega (arith, e, p, u)) in
      let d = down-digit x low j in
      let k = ap (λ (n : ℕ). x / 2 ^ n % 2) at in
      omega (arith, c, z, d, k)

  pub ones-from : OnesFrom x low r
  ones-from =
      record {
        most =
            by-dec (λ n. n) (λ n.
            let o = from_one 64 (omega arith) (omega (arith, n)) in
            let z = no_digit 64 x 64 h (omega arith) in
            absurd (omega (arith, o, z))) (dec_le (low + r) 64);
        ones = from_one;
        end = λ u.
            let c = complement-digit 64 y r y-small (omega arith) in
            let t : v / 2 ^ r % 2 ≡ 1 = ap (λ (n : ℕ). v / 2 ^ n % 2) e ∙ trailing-one 64 v (omega (arith, e, u)) in
            let d = down-digit x low r in
            omega (arith, c, t, d);
      }

-- ---- the highest row of a word

pub long-row : (x w : ℕ) → x < 2 ^ 64 → 64 < w → TopRow x w 64
long-row x w h l =
    record {
      most = omega arith;
      row = λ u. absurd (omega arith);
      highest = λ j o.
          let a = o (j + 64) (omega arith) (omega arith) in
          let z = no_digit 64 x (j + 64) h (omega arith) in
          absurd (omega (arith, a, z));
    }

module _ (x w y : ℕ) (f : Folded x w y) where
  pub no_row : y ≡ 0 → TopRow x w 64
  no_row e =
      record {
        most = omega arith;
        row = λ u. absurd (omega arith);
        highest = λ j o.
            let a = f.here j o in
            let z = no_digit 0 y j (omega (arith, e)) (omega arith) in
            absurd (omega (arith, a, z));
      }

  module _ (some : y ≡ 0 → ⊥) where
    abbrev above : ℕ
    above = count_leading_zeros 64 y

    pub row-place : above < 64
    row-place = let t = leading_top 64 y (omega (arith, some)) f.small in omega (arith, t.1)

    pub top-row : SomeBelow (TopRow x w) 64 (Some (63 - above))
    top-row =
        let p = row-place in (
          omega arith,
          record {
            most = omega arith;
            row = λ u. f.row (63 - above) (leading-one 64 y (63 - above) f.small (omega (arith, p)));
            highest = λ j o. (
              omega arith,
              by-dec (λ n. n) (λ n.
                  let a = f.here j o in
                  let c = leading-zero 64 y j f.small (omega (arith, n)) in
                  absurd (omega (arith, a, c))) (dec_le j (63 - above)),
            );
          },
        )

-- ---- downward

-- a first block, unless it is below `low`
abbrev pub NotUnder : ℕ → ℕ → Option ℕ → Type 0
NotUnder low first o = MatchOption o (first < low) (λ r. (r ≡ first) × (low ≤ first))

-- the blocks from e up to `end` are free and fewer than a run, and a run that begins from `low` up to `below` ends by `end`
pub record Down (b : List ℕ) (l w low below e end : ℕ) : Type 0 where
  pub within : e ≤ end
  pub most : end ≤ l
  pub short : end < below + w
  pub few : end < e + w
  pub free : (i : ℕ) → e ≤ i → i < end → bit_at b i ≡ 1
  pub rest : (g : ℕ) → low ≤ g → g < below → run_at b l w g ≡ true → g + w ≤ end

module _ (b : List ℕ) (l w low below : ℕ) (some : 1 ≤ w) where
  -- no run begins there
  pub none : ((g : ℕ) → low ≤ g → g < below → run_at b l w g ≡ true → ⊥) → Highest b l w low below below
  none h =
      record {
        run = λ u. absurd (omega arith);
        most = omega arith;
        greatest = λ g p u r. absurd (h g p u r);
      }

  -- no run begins above `first`, and there one does, unless that is below `low`
  chosen : (first : ℕ) → first < below → (low ≤ first → run_at b l w first ≡ true)
      → ((g : ℕ) → low ≤ g → g < below → run_at b l w g ≡ true → g ≤ first)
      → (o : Option ℕ) → NotUnder low first o → SomeBelow (Highest b l w low below) below o
  chosen first u run top None m = none (λ g p h z. let t = top g p h z in omega (arith, m, p, t))
  chosen first u run top (Some r) (e, m) = (
    omega (arith, e, u),
    record {
      run = λ h. (omega (arith, e, m), ap (run_at b l w) e ∙ run m);
      most = omega (arith, e, u);
      greatest = λ g p h z. let t = top g p h z in (omega (arith, e, u), omega (arith, e, t));
    },
  )

  module _ (e end : ℕ) (d : Down b l w low below e end) where
    -- before `end` there is no room for a run
    pub end_none : end < w → Highest b l w low below below
    end_none h = none (λ g p u r. let n = d.rest g p u r in omega (arith, n, h))

    -- the run that ends at `end`, where the blocks from f up to e are free too
    at-end : (f : ℕ) → ((i : ℕ) → f ≤ i → i < e → bit_at b i ≡ 1) → w ≤ end → (low ≤ end - w → f ≤ end - w)
        → (o : Option ℕ) → NotUnder low (end - w) o → SomeBelow (Highest b l w low below) below o
    at-end f more m fits =
        let s = d.short in
        let t = d.most in
        chosen (end - w) (omega (arith, s, m))
        (λ u.
        let v = fits u in
        run-told b l w (end - w) (omega (arith, t, m))
        (λ i p q z.
        by-dec
        (λ y. let o = d.free i y (omega (arith, q, m)) in omega (arith, o, z))
        (λ y. let o = more i (omega (arith, v, p)) (omega (arith, y)) in omega (arith, o, z))
        (dec_le e i)))
        (λ g p u x. let y = d.rest g p u x in omega (arith, y, m))

    -- the same at the end of the scan
    pub at_low : e ≤ low → w ≤ end → (o : Option ℕ) → NotUnder low (end - w) o → SomeBelow (Highest b l w low below) below o
    at_low h m = at-end e (λ i p q. absurd (omega arith)) m (λ u. omega (arith, u, h))

    -- a run that is sought ends by an allocated block that it cannot lie above
    by-hole : (z : ℕ) → end ≤ z + w → bit_at b z ≡ 0 → (g : ℕ) → low ≤ g → g < below → run_at b l w g ≡ true → g + w ≤ z
    by-hole z m o g p u r =
        let y = d.rest g p u r in
        by-dec (λ q. q) (λ q.
        let a = run-free b l w g r z (omega (arith, y, m)) (omega (arith, q)) in
        absurd (omega (arith, a, o))) (dec_le (g + w) z)

    module _ (n x : ℕ) (f : FreeTo b e n x) where
      -- ---- a window without a free block

      module _ (z : x ≡ 0) (h : low < e) (t : ℕ) (last : LastOf b 1 low e t) where
        -- its last block is allocated
        bare : bit_at b (e - 1) ≡ 0
        bare =
            let s = f.some in
            sym (f.digit (e - 1) (omega (arith, s)) (omega arith)) ∙ no_digit 0 x (64 + (e - 1) - e) (omega (arith, z)) (omega arith)

        pub skip-less : t < e
        skip-less =
            let u = last.below in
            by-dec (λ m. m) (λ m.
            let at : t - 1 ≡ e - 1 = omega (arith, m, u) in
            let o = last.here (omega (arith, m, h)) in
            let k = ap (bit_at b) at in
            let a = bare in
            absurd (omega (arith, o, k, a))) (dec_le (suc t) e)

        pub skip : Down b l w low below t t
        skip =
            let u = last.below in
            let v = d.within in
            let m = d.most in
            let s = d.short in
            let c = d.few in
            record {
              within = omega arith;
              most = omega (arith, u, v, m);
              short = omega (arith, u, v, s);
              few = omega (arith, some);
              free = λ i p q. absurd (omega arith);
              rest = λ g p q r.
                  let y = by-hole (e - 1) (omega (arith, c, h)) bare g p q r in
                  by_last b l w g r some low e t last (omega (arith, y));
            }

      -- ---- a window with k free blocks at its end

      module _ (k : ℕ) (o : TopOnes x k) where
        pub ones-fit : k ≤ n
        ones-fit =
            let s = o.most in
            by-dec (λ m. m) (λ m.
            let a = o.ones (63 - n) (omega (arith, m, s)) (omega arith) in
            let c = f.others (63 - n) (omega (arith, m, s)) in
            absurd (omega (arith, a, c))) (dec_le k n)

        top-free : (i : ℕ) → e ≤ i + k → i < e → bit_at b i ≡ 1
        top-free i p u =
            let s = ones-fit in
            let m = f.few in
            sym (f.digit i (omega (arith, p, s)) u) ∙ o.ones (64 + i - e) (omega (arith, p, s, m)) (omega (arith, p, s, m, u))

        -- they complete a run
        pub ends : w ≤ end - e + k → (o : Option ℕ) → NotUnder low (end - w) o → SomeBelow (Highest b l w low below) below o
        ends m =
            let s = ones-fit in
            let v = f.fits in
            let y = d.within in
            at-end (e - k) (λ i p q. top-free i (omega (arith, p, s, v)) q) (omega (arith, m, s, v, y)) (λ _. omega (arith, m, s, v, y))

        module _ (short : end - e + k < w) where
          -- they are the window
          pub all-free : n ≤ k → Down b l w low below (e - n) end
          all-free h =
              let v = f.fits in
              let y = d.within in
              record {
                within = omega (arith, y);
                most = d.most;
                short = d.short;
                few = omega (arith, short, h, v, y);
                free = λ i p q. by-dec (λ c. d.free i c q) (λ c. top-free i (omega (arith, p, h, v)) (omega (arith, c))) (dec_le e i);
                rest = d.rest;
              }

          module _ (h : k < n) where
            -- before them stands an allocated block, by which a run that is sought ends
            hole : bit_at b (e - k - 1) ≡ 0
            hole =
                let v = f.fits in
                let m = f.few in
                let at : 64 + (e - k - 1) - e ≡ 63 - k = omega (arith, h, v, m) in
                sym (f.digit (e - k - 1) (omega (arith, h, v)) (omega (arith, h, v)))
                ∙ ap (λ (y : ℕ). x / 2 ^ y % 2) at
                ∙ o.end (omega (arith, h, m))

            in_window : (g : ℕ) → low ≤ g → g < below → run_at b l w g ≡ true → g + w ≤ e
            in_window g p u r =
                let v = f.fits in
                let y = d.within in
                let t = by-hole (e - k - 1) (omega (arith, short, h, v, y)) hole g p u r in
                omega (arith, t)

            -- a run in the window is a row
            run_row : (g : ℕ) → low ≤ g → g < below → run_at b l w g ≡ true → e ≤ g + n → Ones x (64 + g - e) w
            run_row g p u r m i y q =
                let t = in_window g p u r in
                let s = f.few in
                let j = i + e - 64 in
                let at : 64 + j - e ≡ i = omega (arith, m, y, s) in
                ap (λ (z : ℕ). x / 2 ^ z % 2) (sym at)
                ∙ f.digit j (omega (arith, m, y, s, q, t)) (omega (arith, m, y, s, q, t))
                ∙ run-free b l w g r j (omega (arith, m, y, s)) (omega (arith, m, y, s, q))

            module _ (row : ℕ) (t : TopRow x w row) where
              row_fits : row < 64 → (64 ≤ row + n) × (row + w ≤ 64)
              row_fits u =
                  let a = t.row u in (
                    by-dec (λ m. m) (λ m.
                        let c = a row (omega arith) (omega (arith, some)) in
                        let z = f.others row (omega (arith, m)) in
                        absurd (omega (arith, c, z))) (dec_le 64 (row + n)),
                    by-dec (λ m. m) (λ m.
                        let i = row + w - 1 in
                        let c = a i (omega (arith, some)) (omega (arith, some)) in
                        let z = no_digit 64 x i f.small (omega (arith, m)) in
                        absurd (omega (arith, c, z))) (dec_le (row + w) 64),
                  )

              pub row_inside : row < 64 → 64 ≤ e + row
              row_inside u = let a = row_fits u in let v = f.fits in omega (arith, a, v)

              -- the highest row is the run
              pub row-run : row < 64 → (o : Option ℕ) → NotUnder low (e + row - 64) o → SomeBelow (Highest b l w low below) below o
              row-run u =
                  let a = row_fits u in
                  let v = f.fits in
                  let m = f.few in
                  let y = d.within in
                  let s = d.short in
                  let q = d.most in
                  chosen (e + row - 64) (omega (arith, a, v, y, s))
                  (λ _.
                  run-told b l w (e + row - 64) (omega (arith, a, v, y, q))
                  (λ i p z no.
                  let one = t.row u (64 + i - e) (omega (arith, p, a, v)) (omega (arith, p, z, a, v)) in
                  let bit = f.digit i (omega (arith, p, a, v)) (omega (arith, z, a, v)) in
                  omega (arith, one, bit, no)))
                  (λ g p z run.
                  by-dec
                  (λ i. let j = t.highest (64 + g - e) (run_row g p z run i) in omega (arith, j, i, m))
                  (λ i. omega (arith, i, a, v))
                  (dec_le e (g + n)))

              -- without one, a run begins below the window and ends with the ones that the window begins with
              pub passed : 64 ≤ row → (m : ℕ) → OnesFrom x (64 - n) m → (stop : ℕ) → stop ≡ e - n + m → Down b l w low below (e - n) stop
              passed u m from stop is =
                  let a = from.most in
                  let v = f.fits in
                  let c = f.few in
                  let y = d.within in
                  let s = d.short in
                  let q = d.most in
                  record {
                    within = omega (arith, is);
                    most = omega (arith, is, a, v, c, y, q);
                    short = omega (arith, is, a, v, c, y, s);
                    few =
                        by-dec (λ i. i) (λ i.
                        let z = t.highest (64 - n) (λ j p h. from.ones j p (omega (arith, h, i, is))) in
                        absurd (omega (arith, z, u))) (dec_le (suc stop) (e - n + w));
                    free = λ i p h.
                        sym (f.digit i (omega (arith, p)) (omega (arith, h, is, a, v, c)))
                        ∙ from.ones (64 + i - e) (omega (arith, p, v, c)) (omega (arith, p, h, is, v, c));
                    rest = λ g p h run.
                        let i = in_window g p h run in
                        by-dec (λ j. j) (λ j.
                        by-dec
                        (λ k. let z = t.highest (64 + g - e) (run_row g p h run k) in absurd (omega (arith, z, u)))
                        (λ k.
                        let at : 64 + stop - e ≡ 64 - n + m = omega (arith, is, v, c) in
                        let zero = from.end (omega (arith, is, i, j, c, v)) in
                        let bit = f.digit stop (omega (arith, is, v)) (omega (arith, is, i, j)) in
                        let same = ap (λ (z : ℕ). x / 2 ^ z % 2) at in
                        let one = run-free b l w g run stop (omega (arith, k, is)) (omega (arith, j)) in
                        absurd (omega (arith, zero, bit, same, one)))
                        (dec_le e (g + n))) (dec_le (g + w) stop);
                  }
