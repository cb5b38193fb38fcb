-- Whether a block passes as a VAT ICB at k, and its file, depend on the sectors below k alone. Assumes nothing.
use Prim.Native.Nat.{ℕ, zero, suc, ◌+◌, ◌%◌, ◌≤◌, ◌<◌}
use mathlib.Core.Bool.{Bool, true, ◌&&◌}
use mathlib.Core.Path.{◌≡◌, refl, sym, ap, ap₂, ◌∙◌}
use mathlib.Core.List.{List, [], ◌∷◌, ◌++◌}
use native.Mathlib.Omega.{arith}
use lib.Dec.{eqb, leb}
use borrow.Author.Tests.{leb-true}
use Rattle.model.specs.Disc.{Disc, sector, mark, recorded, recorded_run, joined}
use Rattle.model.specs.Vat.{Extent, blocks_in, blocks_fit, contents, allocation_fits, file_of, passes, vat_icb, vat_file, form, extents, allocation, file_length, sizes_fit, sizes, tag_fits, entry_fits, table_fits}
use Rattle.model.proofs.Basics.{and-true, and-cong, by_bool}

-- two discs whose first k sectors from s on are the same, marks too
pub record Agree (s k : ℕ) (d d' : Disc) : Type 0 where
  pub sectors : (j : ℕ) → j < k → sector d (s + j) ≡ sector d' (s + j)
  pub marks : (j : ℕ) → j < k → mark d (s + j) ≡ mark d' (s + j)

-- fewer sectors agree all the more
pub agree_less : {s k : ℕ} (n : ℕ) {d d' : Disc} → n ≤ k → Agree s k d d' → Agree s n d d'
agree_less n h a = record { sectors = λ j l. a.sectors j (omega arith); marks = λ j l. a.marks j (omega arith) }

module _ {s k : ℕ} {d d' : Disc} (a : Agree s k d d') where
  -- runs of sectors
  run_agree : (p n : ℕ) → p + n ≤ k → recorded_run d (s + p) n ≡ recorded_run d' (s + p) n
  unfolding recorded_run recorded
  run_agree p zero h = refl
  run_agree p (suc n) h =
      let e : s + p + 1 ≡ s + (p + 1) = omega arith in
      ap₂ (◌&&◌) (ap (λ (m : ℕ). eqb m 1) (a.marks p (omega arith)))
      (ap (λ (q : ℕ). recorded_run d q n) e ∙ run_agree (p + 1) n (omega arith) ∙ sym (ap (λ (q : ℕ). recorded_run d' q n) e))

  joined-agree : (p n : ℕ) → p + n ≤ k → joined d (s + p) n ≡ joined d' (s + p) n
  unfolding joined
  joined-agree p zero h = refl
  joined-agree p (suc n) h =
      let e : s + p + 1 ≡ s + (p + 1) = omega arith in
      ap₂ (◌++◌) (a.sectors p (omega arith))
      (ap (λ (q : ℕ). joined d q n) e ∙ joined-agree (p + 1) n (omega arith) ∙ sym (ap (λ (q : ℕ). joined d' q n) e))

  -- extents
  blocks-agree : (xs : List Extent) → blocks_fit d s k xs ≡ blocks_fit d' s k xs
  unfolding blocks_fit
  blocks-agree [] = refl
  blocks-agree (x ∷ xs) =
      and-cong refl λ h.
      and-cong (run_agree x.block (blocks_in x.size) (leb-true _ _ h)) λ _. blocks-agree xs

  contents-agree : (xs : List Extent) → blocks_fit d s k xs ≡ true → contents d s xs ≡ contents d' s xs
  unfolding blocks_fit contents
  contents-agree [] h = refl
  contents-agree (x ∷ xs) h =
      let p = and-true (leb (x.block + blocks_in x.size) k) _ h in
      let q = and-true (recorded_run d (s + x.block) (blocks_in x.size)) _ p.1 in
      ap₂ (◌++◌) (joined-agree x.block (blocks_in x.size) (leb-true _ _ p.0)) (contents-agree xs q.1)

  allocation-agree : (b : List ℕ) → allocation_fits d s k b ≡ allocation_fits d' s k b
  unfolding allocation_fits
  allocation-agree b = rw (blocks-agree (extents b))

  -- the file of a block whose extents fit
  pub file-agree : (b : List ℕ) → allocation_fits d s k b ≡ true → file_of d s b ≡ file_of d' s b
  unfolding allocation_fits file_of
  file-agree b =
      by_bool (eqb (form b) 3)
      (λ e h. rw e)
      (λ e h.
      let p = and-true (eqb (allocation b % 8) 0) _ (rw e at h) in
      let q = and-true (sizes_fit (extents b)) _ p.1 in
      let r = and-true (eqb (sizes (extents b)) (file_length b)) _ q.1 in
      rw (contents-agree (extents b) r.1))

  -- whether a block passes at k
  pub passes-agree : (b : List ℕ) → passes d s k b ≡ passes d' s k b
  unfolding passes
  passes-agree b =
      ap (λ (x : Bool). tag_fits k b && (entry_fits b && x))
      (and-cong (allocation-agree b) λ h. ap (table_fits k) (file-agree b h))

-- what a block that passes has
pub record Passed (d : Disc) (s k : ℕ) (b : List ℕ) : Type 0 where
  pub tag : tag_fits k b ≡ true
  pub entry : entry_fits b ≡ true
  pub alloc : allocation_fits d s k b ≡ true
  pub table : table_fits k (file_of d s b) ≡ true

pub passed : (d : Disc) (s k : ℕ) (b : List ℕ) → passes d s k b ≡ true → Passed d s k b
unfolding passes
passed d s k b h =
    let p = and-true _ _ h in
    let q = and-true _ _ p.1 in
    let r = and-true _ _ q.1 in
    record { tag = p.0; entry = q.0; alloc = r.0; table = r.1 }

-- whether the sector at k is a VAT ICB, and its file, depend on the sectors up to k
pub icb-agree : (s k : ℕ) (d d' : Disc) → Agree s (suc k) d d' → vat_icb d s k ≡ vat_icb d' s k
unfolding vat_icb recorded
icb-agree s k d d' a =
    ap₂ (◌&&◌) (ap (λ (m : ℕ). eqb m 1) (a.marks k (omega arith)))
    (passes-agree (agree_less k (omega arith) a) (sector d (s + k)) ∙ ap (passes d' s k) (a.sectors k (omega arith)))

pub file-of-agree : (s k : ℕ) (d d' : Disc) → Agree s (suc k) d d' → vat_icb d s k ≡ true → vat_file d s k ≡ vat_file d' s k
unfolding vat_icb vat_file
file-of-agree s k d d' a h =
    let p = and-true (recorded d (s + k)) _ h in
    file-agree (agree_less k (omega arith) a) (sector d (s + k)) (passed d s k (sector d (s + k)) p.1).alloc
    ∙ ap (file_of d' s) (a.sectors k (omega arith))

-- agreement goes on from disc to disc
pub agree_trans : {s k : ℕ} {d d' d'' : Disc} → Agree s k d d' → Agree s k d' d'' → Agree s k d d''
agree_trans a b = record { sectors = λ j l. a.sectors j l ∙ b.sectors j l; marks = λ j l. a.marks j l ∙ b.marks j l }
