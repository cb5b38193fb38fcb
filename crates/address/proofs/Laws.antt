-- Laws of the translation of addresses. Assumes nothing.
use Prim.Native.Nat.{ℕ, ◌+◌, ◌≤◌, ◌<◌}
use mathlib.Core.Path.{◌≡◌, refl, ap, sym, ◌∙◌}
use mathlib.Core.List.{List, ◌++◌}
use native.Mathlib.Omega.{arith}
use lib.ListN.{length, get_or}
use borrow.Author.Tests.{lt-ltb, le-ltb, le-leb, ltb-true, leb-true}
use Rattle.refusal.specs.declared.Refusal.{Refusal}
use Rattle.refusal.specs.declared.Refusal.TheVariants.{NumberOutside, UnusedEntry}
use Rattle.refusal.specs.Verdict.{Verdict, answered}
use Rattle.std.specs.Prelude.{Ok, Err, Result}
use Rattle.refusal.specs.Number.{answer_number}
use Rattle.refusal.specs.Tests.{first, and_then}
use Rattle.refusal.proofs.Laws.{goes, stops, ne, eq, passed, first-append, stops-all, goes-all, both_go, answered-same, given, answered-number}
use Rattle.address.specs.declared.VirtualAddress.{VirtualAddress}
use Rattle.address.specs.declared.LogicalAddress.{LogicalAddress}
use Rattle.address.specs.declared.PhysicalAddress.{PhysicalAddress}
use Rattle.address.specs.declared.Span.{Span}
use Rattle.address.specs.Translation.{none, most_sectors, span_tests, entry_tests, block_tests, entry_of, sector_of, entry_names, logical_of, physical_of, physical_of_virtual, logical_verdict, physical_verdict, virtual_verdict}

-- ---- what a caller is told: the number of the first line that applies

-- an answer with its number
pub told-logical : (entries : List ℕ) (v : VirtualAddress) {r : Result LogicalAddress Refusal} → r ≡ logical_of entries v → (r ≡ logical_of entries v) × (answer_number r ≡ answer_number (logical_verdict entries v))
unfolding logical_of
told-logical entries v q = (q, ap answer_number q ∙ answered-number (logical_verdict entries v) _)

pub told-physical : (s : Span) (b : LogicalAddress) {r : Result PhysicalAddress Refusal} → r ≡ physical_of s b → (r ≡ physical_of s b) × (answer_number r ≡ answer_number (physical_verdict s b))
unfolding physical_of
told-physical s b q = (q, ap answer_number q ∙ answered-number (physical_verdict s b) _)

pub told-virtual : (s : Span) (entries : List ℕ) (v : VirtualAddress) {r : Result PhysicalAddress Refusal} → r ≡ physical_of_virtual s entries v → (r ≡ physical_of_virtual s entries v) × (answer_number r ≡ answer_number (virtual_verdict s entries v))
unfolding physical_of_virtual
told-virtual s entries v q = (q, ap answer_number q ∙ answered-number (virtual_verdict s entries v) _)

-- ---- an entry: the two answers

module _ (x : ℕ) where
  -- where it is unused, 13
  pub unused : x ≡ none → Err UnusedEntry ≡ entry_names x
  unfolding entry_names
  unused q = answered-same (record { 0 = x }) (stops _ (eq _ _ q))

  -- else the block
  pub used : (x ≡ none → ⊥) → Ok (record { 0 = x }) ≡ entry_names x
  unfolding entry_names
  used n = answered-same (record { 0 = x }) (goes _ (ne _ _ n) refl)

-- ---- a virtual address in the partition: the two answers

module _ (entries : List ℕ) (v : VirtualAddress) where
  -- from N on, 12
  pub no-entry : length entries ≤ v.0 → Err NumberOutside ≡ logical_of entries v
  unfolding logical_of
  no-entry h = answered-same (entry_of entries v) (stops _ (le-ltb _ _ h))

  -- below it, what the entry names
  pub entered : {x : ℕ} {r : Result LogicalAddress Refusal} → v.0 < length entries → x ≡ get_or entries v.0 0 → r ≡ entry_names x → r ≡ logical_of entries v
  unfolding logical_of entry_names
  entered h q e = e ∙ ap entry_names q ∙ answered-same (entry_of entries v) (goes _ (lt-ltb _ _ h) refl)

-- ---- a logical address on the disc: the three answers

module _ (s : Span) (b : LogicalAddress) where
  -- the refusal of the span
  pub off-disc : {why : Refusal} → first (span_tests s) ≡ Err why → Err why ≡ physical_of s b
  unfolding physical_of
  off-disc e = answered-same (sector_of s.start b) (stops-all (span_tests s) (block_tests s b) e)

  -- from L on, 12
  pub past_end : first (span_tests s) ≡ Ok tt → s.length ≤ b.0 → Err NumberOutside ≡ physical_of s b
  unfolding physical_of
  past_end e h =
      answered-same (sector_of s.start b)
      (goes-all (span_tests s) (block_tests s b) (Err NumberOutside) e (stops _ (le-ltb _ _ h)))

  -- else S + b
  pub inside : first (span_tests s) ≡ Ok tt → b.0 < s.length → Ok (sector_of s.start b) ≡ physical_of s b
  unfolding physical_of
  inside e h =
      answered-same (sector_of s.start b)
      (goes-all (span_tests s) (block_tests s b) (Ok tt) e (goes _ (lt-ltb _ _ h) refl))

-- ---- what holds of spans and physical addresses

-- a span that no test stops ends within the most sectors of a disc
pub fits : (s : Span) → first (span_tests s) ≡ Ok tt → s.start + s.length ≤ most_sectors
fits s e = leb-true _ _ (passed (span_tests s) e).1.0

-- a block of a partition that ends within the most sectors of a disc is at S + b
pub lands : (s : Span) (b : LogicalAddress) → s.start + s.length ≤ most_sectors → b.0 < s.length → physical_of s b ≡ Ok (sector_of s.start b)
lands s b e h =
    let n : s.length ≡ 0 → ⊥ = λ q. omega arith in
    sym (inside s b (sym (goes _ (ne _ _ n) (goes _ (le-leb _ _ e) refl))) h)

-- a logical address that has a physical one is below L, and the physical one is S + b
pub placed : (s : Span) (b : LogicalAddress) {p : PhysicalAddress} → physical_of s b ≡ Ok p → (b.0 < s.length) × (p.0 ≡ s.start + b.0)
unfolding physical_of
placed s b e =
    let g = given (first (span_tests s ++ block_tests s b)) e in
    let h = both_go (span_tests s) (block_tests s b) g.0 in
    (ltb-true _ _ (passed (block_tests s b) h.1).0, sym (ap (λ (q : PhysicalAddress). q.0) g.1))

-- a physical address lies in the partition, from S up to below S + L
pub within : (s : Span) (b : LogicalAddress) {p : PhysicalAddress} → physical_of s b ≡ Ok p → (s.start ≤ p.0) × (p.0 < s.start + s.length)
within s b e = let h = placed s b e in (omega arith, omega arith)

-- two different logical addresses of a span never have the same physical one
pub apart : (s : Span) (a b : LogicalAddress) {p q : PhysicalAddress} → physical_of s a ≡ Ok p → physical_of s b ≡ Ok q → (a ≡ b → ⊥) → p ≡ q → ⊥
apart s a b e f n same =
    let g = placed s a e in
    let h = placed s b f in
    let k = ap (λ (x : PhysicalAddress). x.0) same in
    let m : a.0 ≡ b.0 = omega arith in
    n (ap (λ (x : ℕ). record { 0 = x }) m)

-- ---- a virtual address on the disc

-- a logical address goes on to the disc, a refusal stays
abbrev pub onward : Span → Result LogicalAddress Refusal → Result PhysicalAddress Refusal
onward s (Ok b) = physical_of s b
onward s (Err why) = Err why

module _ (s : Span) (entries : List ℕ) (v : VirtualAddress) where
  -- the refusal of the span, whatever the entries are
  pub off-disc-first : {why : Refusal} → first (span_tests s) ≡ Err why → Err why ≡ physical_of_virtual s entries v
  unfolding physical_of_virtual
  off-disc-first e =
      answered-same (sector_of s.start (entry_of entries v))
      (stops-all (span_tests s) (entry_tests (length entries) entries v ++ block_tests s (entry_of entries v)) e)

  -- past the span's tests, what is left for the disc is the test of the block
  goes_on : first (span_tests s) ≡ Ok tt → (x : Verdict) → onward s (answered x (entry_of entries v)) ≡ answered (and_then x (first (block_tests s (entry_of entries v)))) (sector_of s.start (entry_of entries v))
  unfolding physical_of
  goes_on e (Ok _) =
      answered-same (sector_of s.start (entry_of entries v))
      (sym (goes-all (span_tests s) (block_tests s (entry_of entries v)) _ e refl))
  goes_on e (Err why) = refl

  -- in a span that no test stops, the two translations one after the other
  pub composed : first (span_tests s) ≡ Ok tt → onward s (logical_of entries v) ≡ physical_of_virtual s entries v
  unfolding logical_of physical_of_virtual
  composed e =
      goes_on e (first (entry_tests (length entries) entries v)) ∙
      answered-same (sector_of s.start (entry_of entries v))
      (goes-all (span_tests s) (entry_tests (length entries) entries v ++ block_tests s (entry_of entries v)) _ e
      (sym (first-append (entry_tests (length entries) entries v) (block_tests s (entry_of entries v)))))
