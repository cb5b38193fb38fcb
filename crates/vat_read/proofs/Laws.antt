-- The laws of a VAT ICB on the disc that the layers above may cite: the sector that is lent, the length of its file, and how many entries it
-- has. Assumes nothing.
use Prim.Native.Nat.{ℕ, ◌+◌, ◌-◌, ◌*◌, ◌≤◌, ◌<◌}
use mathlib.Core.Path.{◌≡◌, sym, ap, ◌∙◌}
use mathlib.Core.Bool.{Bool, true, false}
use mathlib.Core.List.{List}
use native.Mathlib.Omega.{arith}
use lib.Dec.{leb}
use lib.ListN.{length, get_or, take, drop}
use borrow.Author.Tests.{eq-eqb, ne_eqb, leb-true}
use Rattle.fields.specs.Bytes.{part}
use Rattle.fields.proofs.Laws.{length_part}
use Rattle.model.specs.Disc.{disc, sector, mark, recorded, shapely, inside}
use Rattle.model.specs.Vat.{file_of, passes, vat_icb, vat_file, table_fits, file_fits}
use Rattle.model.proofs.Basics.{and-true}
use Rattle.model.proofs.Agree.{passed}
use Rattle.model.proofs.Sectors.{shapely-made, shapely-most, inside-fits}
use Rattle.vat_read.specs.File.{Lent, Filed, file_in}
use Rattle.vat_read.proofs.Bytes.{file_in_marked, fits_filed}

-- ---- a lent disc

-- lines 1 and 2 say that it is one
pub lent : (bytes marks : List ℕ) (s l k : ℕ) → shapely (disc bytes marks) ≡ true → inside (disc bytes marks) s l ≡ true → k ≤ l → Lent bytes marks s k
lent bytes marks s l k h i le = record { made = (shapely-made _ h).sized; inside = omega (arith, (inside-fits _ s l i).1); most = shapely-most _ h }

-- ---- the sector of an ICB

-- the bytes that are lent are the sector
pub lent_sector : (bytes marks : List ℕ) (p from to : ℕ) → from ≡ 2048 * p → to ≡ from + 2048 → take (to - from) (drop from bytes) ≡ sector (disc bytes marks) p
unfolding sector part
lent_sector bytes marks p from to e f =
    let w : to - from ≡ 2048 = omega arith in
    rw (w, e)

-- a sector of the disc has 2,048 bytes
pub length-lent : (bytes marks : List ℕ) (s k : ℕ) → Lent bytes marks s k → s + k < length marks → length (sector (disc bytes marks) (s + k)) ≡ 2048
unfolding sector
length-lent bytes marks s k t h = length_part bytes (2048 * (s + k)) 2048 (omega (arith, t.made))

module _ (bytes marks : List ℕ) (s k p : ℕ) (e : p ≡ s + k) where
  -- a sector that is not recorded is no ICB
  pub unrecorded : (get_or marks p 0 ≡ 1 → ⊥) → false ≡ vat_icb (disc bytes marks) s k
  unfolding vat_icb recorded mark
  unrecorded h = sym (rw (← e, ne_eqb _ _ h))

  -- one that is recorded is an ICB where it passes
  pub recorded-passes : (b : List ℕ) (r : Bool) → get_or marks p 0 ≡ 1 → b ≡ sector (disc bytes marks) (s + k) → r ≡ passes (disc bytes marks) s k b → r ≡ vat_icb (disc bytes marks) s k
  unfolding vat_icb recorded mark
  recorded-passes b r h q f = f ∙ sym (rw (← e, eq-eqb _ _ h, e, ← q))

-- ---- a VAT ICB on the disc, lent as b

-- what holds of it
pub record Found (bytes marks : List ℕ) (s k : ℕ) (b : List ℕ) : Type 0 where
  pub filed : Filed bytes s b
  pub file : file_in bytes s b ≡ vat_file (disc bytes marks) s k
  pub long : 36 ≤ length (file_in bytes s b)

pub found : (bytes marks : List ℕ) (s k : ℕ) (b : List ℕ) {p : ℕ} → Lent bytes marks s k → s + k < length marks → vat_icb (disc bytes marks) s k ≡ true → p ≡ s + k → b ≡ sector (disc bytes marks) p → Found bytes marks s k b
unfolding vat_icb vat_file table_fits file_fits
found bytes marks s k b t i h at there =
    let d = disc bytes marks in
    let q : b ≡ sector d (s + k) = there ∙ ap (sector d) at in
    let n : length b ≡ 2048 = ap length q ∙ length-lent bytes marks s k t i in
    let p = passed _ _ _ _ (ap (passes d s k) q ∙ (and-true (recorded d (s + k)) _ h).1) in
    let f = file_of d s b in
    let e : file_in bytes s b ≡ f = file_in_marked bytes marks s b in
    let l = leb-true 36 (length f) (and-true (leb 36 (length f)) _ (and-true (file_fits f) _ p.table).0).0 in
    record {
      filed = fits_filed bytes marks s k b t n p.entry p.alloc;
      file = e ∙ ap (file_of d s) q;
      long = rw e l;
    }
