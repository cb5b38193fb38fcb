-- Laws of a save: its lent lengths, its own lines, and what it may rely on once nothing stops it. Assumes nothing.
use Prim.Native.Nat.{ℕ, ◌+◌, ◌*◌, ◌≤◌, ◌<◌}
use mathlib.Core.Bool.{Bool, true, false, not, ◌&&◌}
use mathlib.Core.Path.{◌≡◌, refl, sym, ap, ◌∙◌}
use mathlib.Core.List.{List, [], ◌∷◌}
use native.Mathlib.Omega.{arith}
use borrow.Author.Tests.{leb-true, eqb-true}
use lib.ListN.{length}
use lib.Dec.{eqb, leb}
use Rattle.refusal.specs.declared.Refusal.TheVariants.{NumberOutside, PassesAsIcb, NoRoom}
use Rattle.refusal.specs.Verdict.{Verdict}
use Rattle.std.specs.Prelude.{Ok, Err}
use Rattle.refusal.specs.Tests.{first}
use Rattle.refusal.proofs.Laws.{goes, stops, passed}
use Rattle.model.specs.declared.Cut.{Cut}
use Rattle.model.specs.declared.Record.{Record}
use Rattle.model.specs.Disc.{Disc}
use Rattle.model.specs.Writes.{write, writes}
use Rattle.model.specs.Vat.{passes}
use Rattle.model.specs.VatWritten.{data_sectors}
use Rattle.model.specs.Examine.{Setting, lent_table}
use Rattle.model.specs.Once.{entries_held, next_held, count_after, number_fits, room_to_save, save_tests, save_lent}
use Rattle.model.proofs.Basics.{and-true}
use Rattle.vat_read.specs.File.{Lent}
use Rattle.examine.proofs.Calls.{Common}
use Rattle.room.proofs.Laws.{number-low}

-- ---- line 3 of a save

-- what the test of the lengths answers
pub save-lends : (t block : List ℕ) {x : Bool} → x ≡ (lent_table t && eqb (length block) 2048) → x ≡ save_lent t block
unfolding save_lent
save-lends t block h = h

-- both have their lengths
pub save-lent : (t block : List ℕ) → save_lent t block ≡ true → (4096 ≤ length t) × (length block ≡ 2048)
unfolding save_lent lent_table
save-lent t block h =
    let p = and-true (leb 4096 (length t)) (eqb (length block) 2048) h in
    (leb-true 4096 (length t) p.0, eqb-true (length block) 2048 p.1)

-- ---- lines 12, 15 and 16

module _ (e : Setting) (d : Disc) (held : Record) (v : ℕ) (block : List ℕ) {x : Bool} (is : x ≡ number_fits held v) where
  -- line 12
  pub save-outside : x ≡ false → Err NumberOutside ≡ first (save_tests e d held v block)
  unfolding save_tests
  save-outside h = stops _ (sym is ∙ h)

  module _ (h : x ≡ true) {k : ℕ} (at : k ≡ next_held held) {b : Bool} (told : b ≡ passes d e.start k block) where
    -- line 12 lets it go on
    in-range : number_fits held v ≡ true
    in-range = sym is ∙ h

    -- whether it passes at NWA
    at_next : passes d e.start (next_held held) block ≡ b
    at_next = sym (told ∙ ap (λ (m : ℕ). passes d e.start m block) at)

    -- it passes as an ICB
    pub save-passes : b ≡ true → Err PassesAsIcb ≡ first (save_tests e d held v block)
    unfolding save_tests
    save-passes g = goes _ in-range (stops _ (ap not (at_next ∙ g)))

    module _ (none-such : b ≡ false) {y : Bool} (fits : y ≡ room_to_save e.span held v) where
      -- there is no room
      pub save-full : y ≡ false → Err NoRoom ≡ first (save_tests e d held v block)
      unfolding save_tests
      save-full g = goes _ in-range (goes _ (ap not (at_next ∙ none-such)) (stops _ (sym fits ∙ g)))

      -- none of the lines
      pub save-fits : y ≡ true → (Ok tt) ≡ first (save_tests e d held v block)
      unfolding save_tests
      save-fits g = goes _ in-range (goes _ (ap not (at_next ∙ none-such)) (goes _ (sym fits ∙ g) refl))

-- what they tell: v is below 4,096, and NWA below L
pub save-tells : (e : Setting) (d : Disc) (held : Record) (v : ℕ) (block : List ℕ) {u : Verdict} → u ≡ first (save_tests e d held v block) → u ≡ Ok tt → (v < 4096) × (next_held held < e.span)
unfolding save_tests room_to_save
save-tells e d held v block f g =
    let a = passed (save_tests e d held v block) (sym f ∙ g) in
    let r = leb-true (next_held held + 1 + data_sectors (count_after (entries_held held) v) + 1) e.span a.1.1.0 in
    (number-low held v a.0, omega arith)

-- ---- what a save may rely on, in numbers

-- the disc for the test of line 15
pub save-ground : (e : Setting) (d : Disc) (lent : Bool) (held : Record) → Common e d lent held → Lent d.bytes d.marks e.start (next_held held)
save-ground e d lent held h =
    let a : e.start + e.span ≤ length d.marks = h.span in
    let b : next_held held ≤ e.span = h.next in
    record { made = h.shape; inside = omega arith; most = h.few }

-- once nothing stops it
pub record Saves (e : Setting) (d : Disc) (t : List ℕ) (held : Record) (v : ℕ) (block : List ℕ) : Type 0 where
  pub inside : e.start + next_held held < length d.marks
  pub most : length d.marks ≤ 1048576
  pub shape : length d.bytes ≡ 2048 * length d.marks
  pub whole : length block ≡ 2048
  pub entries : entries_held held ≤ 4096
  pub low : v < 4096
  pub entry : v < length t
  pub small : next_held held < 1048576

-- from the common tests and its own
pub saves : (e : Setting) (d : Disc) (t : List ℕ) (held : Record) (v : ℕ) (block : List ℕ) {u : Verdict} → Common e d (save_lent t block) held → u ≡ first (save_tests e d held v block) → u ≡ Ok tt → Saves e d t held v block
saves e d t held v block h f g =
    let k = save-lent t block h.lengths in
    let m = save-tells e d held v block f g in
    let long : 4096 ≤ length t = k.0 in
    let low : v < 4096 = m.0 in
    let next : next_held held < e.span = m.1 in
    let span : e.start + e.span ≤ length d.marks = h.span in
    let few : length d.marks ≤ 1048576 = h.few in
    record {
      inside = omega arith;
      most = few;
      shape = h.shape;
      whole = k.1;
      entries = h.entries;
      low = low;
      entry = omega arith;
      small = omega arith;
    }

-- its sector is the disc's
pub save-inside : (e : Setting) (d : Disc) (t : List ℕ) (held : Record) (v : ℕ) (block : List ℕ) {k : ℕ} → Saves e d t held v block → k ≡ next_held held → e.start + k < length d.marks
save-inside e d t held v block h q = let i : e.start + next_held held < length d.marks = h.inside in omega arith

-- its write
pub save-write : (c : Cut) (s : ℕ) (b : List ℕ) (d : Disc) {d' : Disc} {k n : ℕ} → k ≡ n → d' ≡ write 1 c (s + k) b d → d' ≡ writes 1 c (record { place = s + n; bytes = b } ∷ []) d
unfolding writes
save-write c s b d q e = e ∙ ap (λ (m : ℕ). write 1 c (s + m) b d) q
