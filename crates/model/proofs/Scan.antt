-- What a scan finds, said with no recursion; and the blocks of a list of entries. Assumes nothing.
use Prim.Native.Nat.{ℕ, zero, suc, ◌+◌, ◌≤◌, ◌<◌}
use mathlib.Core.Bool.{true, false}
use mathlib.Core.Logic.{◌≢◌}
use mathlib.Core.Path.{◌≡◌, refl, sym, ap, ap₂, ◌∙◌}
use mathlib.Core.List.{List, [], ◌∷◌, ◌++◌}
use native.Mathlib.Omega.{arith}
use lib.Dec.{ltb, eqb}
use lib.ListN.{length, set, length-map}
use borrow.Author.Tests.{ltb-true, eqb-true, lt-ltb, eq-eqb, ne_eqb}
use Rattle.model.specs.Disc.{Disc, sector, mark, recorded}
use Rattle.model.specs.Vat.{none, below_or_none, all_below, vat_icb, icb_at, scan, vat_file, entries_of, table_fits, file_fits, previous_of}
use Rattle.model.specs.Store.{unused, slot_at, entry_slot, entry_slots}
use Rattle.model.proofs.Basics.{by_bool, by-eq, and-true, both, or_cases, or_left, or_right}
use Rattle.model.proofs.Agree.{Agree, passed}

-- found k: a VAT ICB at k, and none strictly between k and where the scan began
pub record Newest (d : Disc) (s n k : ℕ) : Type 0 where
  pub here : vat_icb d s k ≡ true
  pub below : k < n
  pub above : (j : ℕ) → k < j → j < n → vat_icb d s j ≡ false

-- the scan finds the newest
pub newest-found : (d : Disc) (s n k : ℕ) → Newest d s n k → scan d s n ≡ icb_at k
unfolding scan
newest-found d s zero k w = absurd (omega (arith, w.below))
newest-found d s (suc j) k w =
    by-eq j k
    (λ e. rw (e, w.here))
    (λ e.
    let f : vat_icb d s j ≡ false = w.above j (omega (arith, w.below)) (omega arith) in
    rw f (newest-found d s j k (record { here = w.here; below = omega (arith, w.below); above = λ i a b. w.above i a (omega arith) })))

-- and what it finds is the newest
pub found-newest : (d : Disc) (s n k : ℕ) → scan d s n ≡ icb_at k → Newest d s n k
unfolding scan
found-newest d s zero k e = let z : ◌≡◌ {A = ℕ} 0 1 = cc in absurd (omega arith)
found-newest d s (suc j) k e =
    by_bool (vat_icb d s j)
    (λ h.
    let q : icb_at j ≡ icb_at k = rw h at e in
    let r : j ≡ k = cc in
    record { here = rw (← r) h; below = omega arith; above = λ i a b. absurd (omega arith) })
    (λ h.
    let w = found-newest d s j k (rw h at e) in
    record {
      here = w.here;
      below = omega (arith, w.below);
      above = λ i a b. by-eq i j (λ q. rw q h) (λ q. w.above i a (omega arith));
    })

-- the entries of a VAT ICB are below it or none, and so is the previous ICB
pub entries_below : (d : Disc) (s k : ℕ) → vat_icb d s k ≡ true → all_below k (entries_of (vat_file d s k)) ≡ true
unfolding vat_icb vat_file table_fits
entries_below d s k h =
    let p = and-true (recorded d (s + k)) _ h in
    let t = (passed d s k (sector d (s + k)) p.1).table in
    let q = and-true (file_fits (vat_file d s k)) _ t in
    (and-true (below_or_none k (previous_of (vat_file d s k))) _ q.1).1

-- an ICB is recorded
pub icb-recorded : (d : Disc) (s k : ℕ) → vat_icb d s k ≡ true → mark d (s + k) ≡ 1
unfolding vat_icb recorded
icb-recorded d s k h = eqb-true (mark d (s + k)) 1 (and-true (recorded d (s + k)) _ h).0

-- a sector that is not recorded is none
pub not-recorded : (d : Disc) (s k m : ℕ) → mark d (s + k) ≡ m → m ≢ 1 → vat_icb d s k ≡ false
unfolding vat_icb recorded
not-recorded d s k m e h = rw (ne_eqb (mark d (s + k)) 1 (λ q. h (sym e ∙ q)))

-- ---- entries

-- below k or none, and so below any higher place
pub below-mono-one : (k m e : ℕ) → k ≤ m → below_or_none k e ≡ true → below_or_none m e ≡ true
unfolding below_or_none
below-mono-one k m e h b =
    or_cases (eqb e none) (ltb e k) b (λ q. or_left (ltb e m) q) (λ q. or_right (eqb e none) (lt-ltb e m (omega (arith, ltb-true e k q))))

pub below-mono : (k m : ℕ) (t : List ℕ) → k ≤ m → all_below k t ≡ true → all_below m t ≡ true
unfolding all_below
below-mono k m [] h b = refl
below-mono k m (e ∷ t) h b =
    let p = and-true (below_or_none k e) (all_below k t) b in
    both (below-mono-one k m e h p.0) (below-mono k m t h p.1)

-- an entry set to one that is below
pub below_set : (k : ℕ) (t : List ℕ) (v e : ℕ) → below_or_none k e ≡ true → all_below k t ≡ true → all_below k (set t v e) ≡ true
unfolding all_below
below_set k [] v e o b = refl
below_set k (x ∷ t) zero e o b = both o (and-true (below_or_none k x) (all_below k t) b).1
below_set k (x ∷ t) (suc v) e o b =
    let p = and-true (below_or_none k x) (all_below k t) b in
    both p.0 (below_set k t v e o p.1)

-- one more entry at the end
pub below-snoc : (k : ℕ) (t : List ℕ) (e : ℕ) → below_or_none k e ≡ true → all_below k t ≡ true → all_below k (t ++ (e ∷ [])) ≡ true
unfolding all_below
below-snoc k [] e o b = both o refl
below-snoc k (x ∷ t) e o b =
    let p = and-true (below_or_none k x) (all_below k t) b in
    both p.0 (below-snoc k t e o p.1)

pub below-own : (k : ℕ) → below_or_none (k + 1) k ≡ true
unfolding below_or_none
below-own k = or_right (eqb k none) (lt-ltb k (k + 1) (omega arith))

pub below_none : (k : ℕ) → below_or_none k none ≡ true
unfolding below_or_none
below_none k = or_left (ltb none k) (eq-eqb none none refl)

-- ---- the blocks of entries

-- a block whose entry is below k reads alike on discs that agree below k
pub slot-agree : {s k : ℕ} {d d' : Disc} (x : ℕ) → Agree s k d d' → below_or_none k x ≡ true → entry_slot d s x ≡ entry_slot d' s x
unfolding entry_slot slot_at recorded below_or_none
slot-agree {s} {k} x a b =
    or_cases (eqb x none) (ltb x k) b
    (λ e. rw e)
    (λ e. let h : x < k = ltb-true x k e in rw (a.marks x h, a.sectors x h))

pub slots-agree : {s k : ℕ} {d d' : Disc} (t : List ℕ) → Agree s k d d' → all_below k t ≡ true → entry_slots d s t ≡ entry_slots d' s t
unfolding entry_slots all_below
slots-agree [] a b = refl
slots-agree {s} {k} (x ∷ t) a b =
    let p = and-true (below_or_none k x) (all_below k t) b in
    ap₂ (◌∷◌) (slot-agree x a p.0) (slots-agree t a p.1)

-- no entry, no block
pub slot-none : (d : Disc) (s : ℕ) → entry_slot d s none ≡ unused
unfolding entry_slot
slot-none d s = rw (eq-eqb none none refl)

pub length-slots : (d : Disc) (s : ℕ) (t : List ℕ) → length (entry_slots d s t) ≡ length t
unfolding entry_slots
length-slots d s t = length-map t (entry_slot d s)

pub slots_set : (d : Disc) (s : ℕ) (t : List ℕ) (v x : ℕ) → entry_slots d s (set t v x) ≡ set (entry_slots d s t) v (entry_slot d s x)
unfolding entry_slots
slots_set d s [] v x = refl
slots_set d s (y ∷ t) zero x = refl
slots_set d s (y ∷ t) (suc v) x = ap (entry_slot d s y ∷◌) (slots_set d s t v x)

pub slots-snoc : (d : Disc) (s : ℕ) (t : List ℕ) (x : ℕ) → entry_slots d s (t ++ (x ∷ [])) ≡ entry_slots d s t ++ (entry_slot d s x ∷ [])
unfolding entry_slots
slots-snoc d s [] x = refl
slots-snoc d s (y ∷ t) x = ap (entry_slot d s y ∷◌) (slots-snoc d s t x)
