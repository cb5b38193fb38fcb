-- Laws of the calls on a write-once disc: the lines of an entry, and fullness. Assumes nothing.
use Rattle.std.proofs.Common.{◌≡◌, ℕ, ◌≤◌, ◌<◌, Bool, false, ltb, List, [], length, get_or, take, refl, sym, ap, ◌∙◌, arith}
use Rattle.std.proofs.lemmas.List.{length-take-le, get_or-take}
use mathlib.Core.Path.{ap₂}
use borrow.Author.Tests.{ltb-true}
use Rattle.label.specs.PerMille.{per_mille}
use Rattle.refusal.specs.declared.Refusal.{Refusal}
use Rattle.refusal.specs.Verdict.{Verdict, verdict_of}
use Rattle.std.specs.Prelude.{Ok, Err, Result}
use Rattle.refusal.specs.Tests.{first, need}
use Rattle.refusal.proofs.Laws.{passed, given, answered-same}
use Rattle.address.specs.declared.VirtualAddress.{VirtualAddress}
use Rattle.address.specs.declared.LogicalAddress.{LogicalAddress}
use Rattle.address.specs.Translation.{logical_of, entry_of}
use Rattle.model.specs.declared.Record.{Record}
use Rattle.model.specs.Disc.{Disc}
use Rattle.model.specs.Writes.{struck, no_cut}
use Rattle.model.specs.Examine.{Setting, lent_table}
use Rattle.model.specs.Once.{entries_held, next_held, once_verdict, entry_tests, held_verdict}
use Rattle.model.proofs.Basics.{by_bool}
use Rattle.examine.proofs.Laws.{answered-verdict}
use Rattle.once_open.specs.Calls.{block_of, fullness_of}

-- ---- lines 12 and 13 of an entry

-- a virtual address among the first n entries of a table is turned down, or is told, as it is among the table's
pub block-same : (t : List ℕ) (held : Record) (v : VirtualAddress) {n : ℕ} → n ≡ entries_held held → n ≤ length t → logical_of (take n t) v ≡ block_of t held v
unfolding logical_of block_of entry_tests need
block-same t held v {n} is h =
    let len : length (take n t) ≡ entries_held held = length-take-le n t h ∙ is in
    by_bool (ltb v.0 (entries_held held))
    (λ low.
    let e : get_or (take n t) v.0 0 ≡ get_or t v.0 0 = get_or-take n t v.0 0 (omega (arith, is, ltb-true _ _ low)) in
    rw (len, e))
    (λ high. rw (len, high))

module _ (t : List ℕ) (held : Record) (v : VirtualAddress) {r : Result LogicalAddress Refusal} (q : r ≡ block_of t held v) where
  -- the entry is refused
  pub entry-refused : {why : Refusal} → r ≡ Err why → first (entry_tests t held v.0) ≡ Err why
  unfolding block_of
  entry-refused h = sym (answered-verdict (first (entry_tests t held v.0)) (entry_of t v)) ∙ ap verdict_of (sym q ∙ h)

  -- or it is that of a block
  pub entry_found : {b : LogicalAddress} → r ≡ Ok b → (first (entry_tests t held v.0) ≡ Ok tt) × (b.0 ≡ get_or t v.0 0)
  unfolding block_of
  entry_found h = let p = given (first (entry_tests t held v.0)) (sym q ∙ h) in (p.0, ap (λ (a : LogicalAddress). a.0) (sym p.1))

-- where they let a call go on there is one
pub entry-tells : (t : List ℕ) (held : Record) (v : ℕ) → first (entry_tests t held v) ≡ Ok tt → v < entries_held held
unfolding entry_tests
entry-tells t held v g = ltb-true v (entries_held held) (passed (entry_tests t held v) g).0

-- a call that writes nothing is not cut
pub uncut : struck no_cut 0 ≡ false
unfolding struck no_cut
uncut = refl

-- ---- fullness

module _ (e : Setting) (d : Disc) (t : List ℕ) (held : Record) {x : Bool} {w : Verdict} (is : x ≡ lent_table t) (says : w ≡ once_verdict e d t x held []) where
  -- its verdict is that of the common tests
  full-verdict : held_verdict e d t held ≡ w
  unfolding held_verdict
  full-verdict = sym (says ∙ ap (λ (b : Bool). once_verdict e d t b held []) is)

  -- the common tests stop it
  pub full-stopped : {why : Refusal} → w ≡ Err why → Err why ≡ fullness_of e d t held
  unfolding fullness_of
  full-stopped h = sym (answered-same (per_mille (next_held held) e.span) (full-verdict ∙ h))

  -- nothing stops it
  pub full-told : {n l r : ℕ} → w ≡ Ok tt → n ≡ next_held held → l ≡ e.span → r ≡ per_mille n l → Ok r ≡ fullness_of e d t held
  unfolding fullness_of
  full-told h k all q =
      ap (λ (m : ℕ). Ok m) (q ∙ ap₂ per_mille k all)
      ∙ sym (answered-same {y = Ok tt} (per_mille (next_held held) e.span) (full-verdict ∙ h))
