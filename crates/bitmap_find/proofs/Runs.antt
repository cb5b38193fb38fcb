-- Runs of free blocks, and what a scan rules out. Assumes nothing.
use Prim.Native.Nat.{ℕ, ◌+◌, ◌-◌, ◌≤◌, ◌<◌}
use mathlib.Core.Path.{◌≡◌}
use mathlib.Core.Bool.{true}
use mathlib.Core.List.{List}
use native.Mathlib.Omega.{arith}
use native.Mathlib.Decide.{dec_le}
use lib.Dec.{leb}
use borrow.Author.Tests.{le-leb}
use Rattle.fields.proofs.Laws.{by-dec}
use Rattle.bitmap.specs.Bits.{bit_at, all_in}
use Rattle.bitmap.specs.Scan.{FirstOf, LastOf}
use Rattle.bitmap.proofs.Windows.{bit-small}
use Rattle.fields.proofs.Tests.{both, together}
use Rattle.bitmap.proofs.Laws.{all_told, all_in_law}
use Rattle.bitmap_find.specs.Nearest.{run_at}

module _ (b : List ℕ) (l w : ℕ) where
  pub run-told : (f : ℕ) → f + w ≤ l → ((i : ℕ) → f ≤ i → i < f + w → bit_at b i ≡ 0 → ⊥) → run_at b l w f ≡ true
  unfolding run_at
  run-told f h a =
      together (le-leb (f + w) l h)
      (all_told b 1 f w (λ i y u. let m = bit-small b i in let z = a i y u in omega (arith, m, z)))

  pub run-free : (f : ℕ) → run_at b l w f ≡ true → (i : ℕ) → f ≤ i → i < f + w → bit_at b i ≡ 1
  unfolding run_at
  run-free f h = all_in_law b 1 f w (both (leb (f + w) l) (all_in b 1 f w) h).1

  module _ (g : ℕ) (run : run_at b l w g ≡ true) (some : 1 ≤ w) where
    -- upward: a run from s on begins no earlier than the next free block
    pub from_next : (s to r : ℕ) → FirstOf b 1 s to r → s ≤ g → r ≤ g
    from_next s to r n h =
        by-dec (λ y. y) (λ y. absurd (n.other g h (omega (arith, y)) (run-free g run g (omega arith) (omega arith)))) (dec_le r g)

    -- downward: a run that ends by e ends no later than the last free block
    pub by_last : (s e r : ℕ) → LastOf b 1 s e r → g + w ≤ e → g + w ≤ r
    by_last s e r n h =
        by-dec (λ y. y) (λ y. absurd (n.other (g + w - 1) (omega (arith, y)) (omega arith) (run-free g run (g + w - 1) (omega arith) (omega arith)))) (dec_le (g + w) r)
