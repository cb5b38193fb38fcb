-- Laws of the scan for the newest VAT ICB: step by step, a sector that cannot be one, and what it answers. Assumes nothing.
use Prim.Native.Nat.{ℕ, zero, suc, ◌+◌, ◌-◌, ◌*◌, ◌≤◌, ◌<◌}
use mathlib.Core.Bool.{true, false}
use mathlib.Core.Path.{◌≡◌, refl, sym, ap, ◌∙◌}
use mathlib.Core.List.{List}
use Rattle.std.specs.Prelude.{Some, None}
use native.Mathlib.Omega.{arith}
use Rattle.std.proofs.Common.{add-one}
use lib.Dec.{eqb}
use Rattle.fields.specs.Number.{field}
use Rattle.fields.proofs.Laws.{field-part}
use Rattle.fields.proofs.Tests.{fails}
use Rattle.address.specs.declared.LogicalAddress.{LogicalAddress}
use Rattle.model.specs.Disc.{Disc, disc, sector, recorded}
use Rattle.model.specs.Vat.{Found, icb_at, nowhere, tag_fits, passes, vat_icb, scan}
use Rattle.model.proofs.Basics.{and-false, by_bool}
use Rattle.model.proofs.Scan.{found-newest}
use Rattle.vat_scan.specs.Scan.{scan_of, looked}

-- ---- the scan

-- below logical block 0 there is nothing
pub scan-bottom : (d : Disc) (s k : ℕ) → k ≡ 0 → scan d s k ≡ nowhere
unfolding scan
scan-bottom d s k h = rw h

module _ (d : Disc) (s k : ℕ) where
  -- a sector that is no ICB is passed over
  pub scan-pass : vat_icb d s k ≡ false → scan d s k ≡ scan d s (k + 1)
  unfolding scan
  scan-pass q = sym (rw (add-one, q))

  -- one that is ends the scan
  pub scan-hit : vat_icb d s k ≡ true → scan d s (k + 1) ≡ icb_at k
  unfolding scan
  scan-hit q = rw (add-one, q)

-- a block that is no ICB is passed over on the way down from `end`
pub passed-over : (d : Disc) (s k end n : ℕ) → vat_icb d s k ≡ false → (k < end) × (scan d s (k + 1) ≡ scan d s end) → (end ≤ n) × (scan d s end ≡ scan d s n) → (k ≤ n) × (scan d s k ≡ scan d s n)
passed-over d s k end n q e i = (omega (arith, e.0, i.0), scan-pass d s k q ∙ e.1 ∙ i.1)

-- several that are none are passed over
pub scan-pass-all : (d : Disc) (s k j : ℕ) → ((i : ℕ) → i < j → vat_icb d s (k + i) ≡ false) → scan d s k ≡ scan d s (k + j)
unfolding scan
scan-pass-all d s k zero f = let e : k ≡ k + 0 = omega arith in ap (scan d s) e
scan-pass-all d s k (suc j) f =
    let e : k + suc j ≡ suc (k + j) = omega arith in
    let one : scan d s (suc (k + j)) ≡ scan d s (k + j) = rw (f j (omega arith)) in
    scan-pass-all d s k j (λ i h. f i (omega arith)) ∙ sym (ap (scan d s) e ∙ one)

-- ---- a sector that cannot be an ICB

-- a sector of another identifier, f being what is read of it
pub icb-other : (bytes marks : List ℕ) (s k p f : ℕ) → p ≡ s + k → f ≡ field bytes (2048 * p) 2 → eqb f 261 ≡ false → vat_icb (disc bytes marks) s k ≡ false
unfolding vat_icb passes tag_fits sector
icb-other bytes marks s k p f at ef q =
    let place : 2048 * (s + k) + 0 ≡ 2048 * p = omega arith in
    let e : field (sector (disc bytes marks) (s + k)) 0 2 ≡ f = field-part bytes (2048 * (s + k)) 2048 0 2 (omega arith) ∙ ap (λ (n : ℕ). field bytes n 2) place ∙ sym ef in
    and-false (recorded (disc bytes marks) (s + k)) (sym (fails _ (sym (fails _ (ap (λ (n : ℕ). eqb n 261) e ∙ q)))))

-- ---- what it passes over

-- the sectors strictly between the ICB found and where the scan began
pub looked-between : (d : Disc) (s n k : ℕ) → scan d s n ≡ icb_at k → looked d s n ≡ n - 1 - k
unfolding scan looked
looked-between d s zero k e = let z : ◌≡◌ {A = ℕ} 0 1 = cc in absurd (omega arith)
looked-between d s (suc j) k e =
    by_bool (vat_icb d s j)
    (λ h.
    let q : icb_at j ≡ icb_at k = rw h at e in
    let r : j ≡ k = cc in
    rw h (omega arith))
    (λ h.
    let q : scan d s j ≡ icb_at k = rw h at e in
    let w = (found-newest d s j k q).below in
    let r = looked-between d s j k q in
    rw h (omega arith))

-- ---- what the scan answers

-- an answer that there is none
pub scan-none : (f : Found) → scan_of f ≡ None → f ≡ nowhere
unfolding scan_of
scan-none (icb_at j) e = let z : ◌≡◌ {A = ℕ} 0 1 = cc in absurd (omega arith)
scan-none nowhere e = refl

-- an answer with a block
pub scan-at : (f : Found) {k : LogicalAddress} → scan_of f ≡ Some k → f ≡ icb_at k.0
unfolding scan_of
scan-at (icb_at j) {k} e = let q : record { 0 = j } ≡ k = cc in ap (λ (a : LogicalAddress). icb_at a.0) q
scan-at nowhere e = let z : ◌≡◌ {A = ℕ} 0 1 = cc in absurd (omega arith)
