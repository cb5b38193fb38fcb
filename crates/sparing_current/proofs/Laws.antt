-- Laws of what every call on a rewritable disc examines: how its own tests follow the common ones, and what these tell of a call that goes on.
-- Assumes nothing.
use Prim.Native.Nat.{ℕ, ◌+◌, ◌-◌, ◌*◌, ◌%◌, ◌≤◌}
use mathlib.Core.Bool.{Bool, true, false, not}
use mathlib.Core.Path.{◌≡◌, sym, ap, ap₂, ◌∙◌}
use mathlib.Core.List.{List, [], ◌∷◌}
use native.Mathlib.Omega.{arith}
use borrow.Author.Tests.{eqb-true, eq-eqb, ne_eqb, not-true}
use lib.Dec.{eqb}
use lib.ListN.{length, take, drop, length-take}
use Rattle.refusal.specs.declared.Refusal.{Refusal}
use Rattle.refusal.specs.declared.Refusal.TheVariants.{OtherKind, NoTable, CopiesDiffer, StaleRecord}
use Rattle.refusal.specs.Verdict.{Verdict, verdict_of}
use Rattle.std.specs.Prelude.{Ok, Err, Result}
use Rattle.refusal.specs.Tests.{Test, test, first, and_then}
use Rattle.refusal.proofs.Laws.{passed, asked-after}
use Rattle.fields.specs.Bytes.{part, same}
use Rattle.fields.proofs.Laws.{same_true}
use Rattle.fields.proofs.Tests.{fails, holds}
use Rattle.model.specs.declared.Record.{Record}
use Rattle.model.specs.Disc.{Disc, disc, sector}
use Rattle.sparing_copies.specs.declared.Current.{Current}
use Rattle.sparing_copies.specs.Copies.{IsCurrent}
use Rattle.model.specs.Sparing.{table_in, table_at, entries, entries_fit, counting, current, current_table, agree}
use Rattle.model.specs.Examine.{Setting, write_once, geometry, examined}
use Rattle.model.specs.Rewrite.{is_none, table_on, entries_on, sequence_on, count_on, copy_tests, held_current, rewritable_verdict}
use Rattle.model.proofs.Basics.{and-true}
use Rattle.model.proofs.Sectors.{shapely-made, shapely-most, inside-fits}
use Rattle.model.proofs.Verdicts.{then-go, examined-tells}
use Rattle.model.proofs.Ground.{Ground, ground}
use Rattle.model.proofs.SparingLaws.{length-flat, fits-size, current-fits, flat-current}
use Rattle.sparing_current.specs.Looked.{layout_verdict, look_verdict}

-- ---- a call's own tests after the common ones

module _ (e : Setting) (d : Disc) (t : List ℕ) (lent : Bool) (held : Record) where
  -- a call's own tests are asked after the common ones
  pub rewritable-own : (own : List Test) → rewritable_verdict e d t lent held own ≡ and_then (rewritable_verdict e d t lent held []) (first own)
  unfolding rewritable_verdict copy_tests
  rewritable-own own =
      asked-after (examined e d lent)
      (test (not (write_once e)) OtherKind ∷ test (not (is_none (counting d (geometry e d)))) NoTable ∷ test (agree d (table_on e d) (current d (geometry e d))) CopiesDiffer ∷ test (held_current e d t held) StaleRecord ∷ [])
      own

  -- what stops the common tests stops the call
  pub rewritable-stops : (own : List Test) {why : Refusal} → rewritable_verdict e d t lent held [] ≡ Err why → rewritable_verdict e d t lent held own ≡ Err why
  rewritable-stops own h = rewritable-own own ∙ ap (λ (v : Verdict). and_then v (first own)) h

  -- where they let it go on, its own decide
  pub rewritable-goes : (own : List Test) → rewritable_verdict e d t lent held [] ≡ Ok tt → rewritable_verdict e d t lent held own ≡ first own
  rewritable-goes own h = rewritable-own own ∙ ap (λ (v : Verdict). and_then v (first own)) h

-- line 11 is asked after lines 1 to 8 and 10
pub look-held : (e : Setting) (d : Disc) (t : List ℕ) (lent : Bool) (held : Record) → rewritable_verdict e d t lent held [] ≡ and_then (look_verdict e d lent) (first (test (held_current e d t held) StaleRecord ∷ []))
unfolding rewritable_verdict look_verdict
look-held e d t lent held =
    asked-after (examined e d lent) (test (not (write_once e)) OtherKind ∷ copy_tests e d) (test (held_current e d t held) StaleRecord ∷ [])

-- and lines 8 and 10 after lines 1 to 7
pub look-laid : (e : Setting) (d : Disc) (lent : Bool) → look_verdict e d lent ≡ and_then (layout_verdict e d lent) (first (copy_tests e d))
unfolding look_verdict layout_verdict
look-laid e d lent = asked-after (examined e d lent) (test (not (write_once e)) OtherKind ∷ []) (copy_tests e d)

-- ---- an answer that asks the lines v, and then w

module _ (v w : Verdict) where
  -- the first stop it
  pub stopped : {A : Type 0} {r : Result A Refusal} {why : Refusal} → Err why ≡ v → r ≡ Err why → verdict_of r ≡ and_then v w
  stopped h s = ap verdict_of s ∙ ap (λ (u : Verdict). and_then u w) h

  -- the first let it go on, and the others decide
  pub passed_on : {u : Verdict} → Ok tt ≡ v → u ≡ w → u ≡ and_then v w
  passed_on h s = s ∙ ap (λ (u : Verdict). and_then u w) h

-- ---- what the common tests tell

-- lines 1 to 7, in numbers
pub record Whole (e : Setting) (d : Disc) (lent : Bool) : Type 0 where
  pub shape : length d.bytes ≡ 2048 * length d.marks
  pub few : length d.marks ≤ 1048576
  pub span : e.start + e.span ≤ length d.marks
  pub lengths : lent ≡ true
  pub lies : Ground e (geometry e d)

-- from their verdict
pub whole : (e : Setting) (d : Disc) (lent : Bool) → layout_verdict e d lent ≡ Ok tt → Whole e d lent
unfolding layout_verdict
whole e d lent h =
    let p = then-go (examined e d lent) _ h in
    let x = examined-tells e d lent p.0 in
    let a = passed (test (not (write_once e)) OtherKind ∷ []) p.1 in
    record {
      shape = (shapely-made d x.shape).sized;
      few = shapely-most d x.shape;
      span = (inside-fits d e.start e.span x.within).1;
      lengths = x.lengths;
      lies = ground e d lent (not-true (write_once e) a.0) x;
    }

-- lines 8 and 10 too
pub record Tabled (e : Setting) (d : Disc) (lent : Bool) : Type 0 where
  pub whole : Whole e d lent
  pub fits : entries_fit (geometry e d) (entries_on e d) ≡ true
  pub short : 56 + 8 * count_on e d ≤ 2048

-- from their verdict
pub tabled : (e : Setting) (d : Disc) (lent : Bool) → look_verdict e d lent ≡ Ok tt → Tabled e d lent
unfolding copy_tests count_on entries_on table_on
tabled e d lent h =
    let p = then-go (layout_verdict e d lent) (first (copy_tests e d)) (sym (look-laid e d lent) ∙ h) in
    let w = whole e d lent p.0 in
    let f = current-fits d (geometry e d) (not-true _ (passed (copy_tests e d) p.1).0) in
    record { whole = w; fits = f; short = omega (arith, w.lies.size, fits-size (geometry e d) (entries_on e d) f) }

-- lines 1 to 8, 10 and 11
pub record Common (e : Setting) (d : Disc) (t : List ℕ) (lent : Bool) (held : Record) : Type 0 where
  pub shape : length d.bytes ≡ 2048 * length d.marks
  pub few : length d.marks ≤ 1048576
  pub span : e.start + e.span ≤ length d.marks
  pub lengths : lent ≡ true
  pub start-32 : e.start % 32 ≡ 0
  pub span-32 : e.span % 32 ≡ 0
  pub lies : Ground e (geometry e d)
  pub fits : entries_fit (geometry e d) (entries_on e d) ≡ true
  pub short : 56 + 8 * count_on e d ≤ 2048
  pub handed : held ≡ Record.Rewritable (count_on e d) (sequence_on e d)
  pub table : take (2 * count_on e d) t ≡ table_on e d
  pub room : 2 * count_on e d ≤ length t

-- the current table has twice as many numbers as entries
table-long : (e : Setting) (d : Disc) → length (table_on e d) ≡ 2 * count_on e d
unfolding count_on entries_on table_on
table-long e d = ap length (sym (flat-current d (geometry e d))) ∙ length-flat (entries (current_table d (geometry e d)))

-- line 11 in numbers
held_tells : (e : Setting) (d : Disc) (t : List ℕ) (held : Record) → held_current e d t held ≡ true → (held ≡ Record.Rewritable (count_on e d) (sequence_on e d)) × (take (2 * count_on e d) t ≡ table_on e d)
unfolding held_current
held_tells e d t (Record.WriteOnce n next last) h = let z : ◌≡◌ {A = ℕ} 0 1 = cc in absurd (omega arith)
held_tells e d t (Record.Rewritable n q) h =
    let a = and-true (eqb n (count_on e d)) _ h in
    let b = and-true (eqb q (sequence_on e d)) _ a.1 in
    let en : n ≡ count_on e d = eqb-true n (count_on e d) a.0 in
    let eq : q ≡ sequence_on e d = eqb-true q (sequence_on e d) b.0 in
    (ap₂ (λ (x y : ℕ). Record.Rewritable x y) en eq, sym (ap (λ (x : ℕ). take (2 * x) t) en) ∙ same_true (take (2 * n) t) (table_on e d) b.1)

-- from their verdict
pub common : (e : Setting) (d : Disc) (t : List ℕ) (lent : Bool) (held : Record) → rewritable_verdict e d t lent held [] ≡ Ok tt → Common e d t lent held
unfolding geometry
common e d t lent held h =
    let p = then-go (look_verdict e d lent) _ (sym (look-held e d t lent held) ∙ h) in
    let x = tabled e d lent p.0 in
    let w = x.whole in
    let g = w.lies in
    let k = held_tells e d t held (passed (test (held_current e d t held) StaleRecord ∷ []) p.1).0 in
    record {
      shape = w.shape;
      few = w.few;
      span = w.span;
      lengths = w.lengths;
      start-32 = ap (λ (n : ℕ). n % 32) g.start_is ∙ g.start-32;
      span-32 = ap (λ (n : ℕ). n % 32) g.span-is ∙ g.span-32;
      lies = g;
      fits = x.fits;
      short = x.short;
      handed = k.0;
      table = k.1;
      room = omega (arith, length-take (2 * count_on e d) t, ap length k.1, table-long e d);
    }

-- ---- line 11, test by test

module _ (e : Setting) (d : Disc) (t : List ℕ) {held : Record} where
  -- a record of the other kind
  pub held-other : {n next last : ℕ} → held ≡ Record.WriteOnce n next last → false ≡ held_current e d t held
  unfolding held_current
  held-other is = sym (ap (held_current e d t) is)

  -- n and q are the record's R and sequence, c is the current table
  module _ {n q : ℕ} {c : Current} (is : held ≡ Record.Rewritable n q) (on : IsCurrent d (geometry e d) c) where
    count : c.entries ≡ count_on e d
    unfolding count_on entries_on table_on
    count = on.count

    sequence : c.sequence ≡ sequence_on e d
    unfolding sequence_on
    sequence = on.sequence

    -- another R
    pub held-count : (n ≡ c.entries → ⊥) → false ≡ held_current e d t held
    unfolding held_current
    held-count h = fails _ (sym (ap (eqb n) count) ∙ ne_eqb n c.entries h) ∙ sym (ap (held_current e d t) is)

    -- another sequence
    pub held-sequence : n ≡ c.entries → (q ≡ c.sequence → ⊥) → false ≡ held_current e d t held
    unfolding held_current
    held-sequence h k =
        holds (eq-eqb n (count_on e d) (h ∙ count)) (fails _ (sym (ap (eqb q) sequence) ∙ ne_eqb q c.sequence k)) ∙ sym (ap (held_current e d t) is)

    -- neither, and the entries decide; b is the sector of the current copy
    pub held-table : n ≡ c.entries → q ≡ c.sequence → {x : Bool} {b : List ℕ} → b ≡ sector d c.at.0 → x ≡ same (take (2 * n) t) (table_in b) → x ≡ held_current e d t held
    unfolding held_current table_at table_on
    held-table h k is_sector f =
        holds (eq-eqb n (count_on e d) (h ∙ count))
        (holds (eq-eqb q (sequence_on e d) (k ∙ sequence)) (f ∙ ap (same (take (2 * n) t)) (ap table_in is_sector ∙ on.table)))
        ∙ sym (ap (held_current e d t) is)

-- a part of the lent bytes is a sector
pub part-sector : (bytes marks : List ℕ) (p : ℕ) → take (2048 * p + 2048 - 2048 * p) (drop (2048 * p) bytes) ≡ sector (disc bytes marks) p
unfolding sector part
part-sector bytes marks p =
    let n : 2048 * p + 2048 - 2048 * p ≡ 2048 = omega arith in
    ap (λ (k : ℕ). take k (drop (2048 * p) bytes)) n
