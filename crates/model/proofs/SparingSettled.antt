-- A disc whose newest copies hold one table: what is current there. Assumes nothing.
use Prim.Native.Nat.{ℕ, ◌≤◌, ◌<◌}
use mathlib.Core.Bool.{true, false, ◌&&◌, true≢false}
use mathlib.Core.Logic.{inl, inr}
use mathlib.Core.Path.{◌≡◌, refl, ap, ◌∙◌}
use mathlib.Core.List.{List, [], ◌∷◌}
use native.Mathlib.Omega.{arith}
use lib.Dec.{eqb}
use Rattle.fields.specs.Bytes.{same}
use Rattle.fields.specs.Number.{field}
use Rattle.fields.proofs.Laws.{AllBytes, field-4, same_true, same-equal}
use Rattle.model.specs.Disc.{Disc, sector, recorded}
use Rattle.model.specs.Sparing.{Geometry, entries, flat, entries_fit, named, copy_fits, counts, counting, sequence_in, sequence_at, table_in, table_at, current_sequence, current, first_table, current_table, agree}
use Rattle.model.specs.Rewrite.{is_none}
use Rattle.model.proofs.Basics.{and-true, both}
use Rattle.model.proofs.SparingLists.{In}
use Rattle.model.proofs.SparingEntries.{flat-table}
use Rattle.model.proofs.SparingCopies.{in_some, counting-counts, counts-counting, counting-below, current-counting, current-sequence, sequence-current, current-some, some-highest}

-- a sequence is a number of 4 bytes
pub sequence-below : (b : List ℕ) → AllBytes b → sequence_in b < 4294967296
unfolding sequence_in
sequence-below b h = omega (arith, field-4 b 52, h 52, h 53, h 54, h 55)

-- ---- a copy that counts

-- it is recorded
pub counts-recorded : (d : Disc) (g : Geometry) (t : ℕ) → counts d g t ≡ true → recorded d t ≡ true
unfolding counts
counts-recorded d g t h = (and-true (recorded d t) (copy_fits g (sector d t)) h).0

-- its entries fit
pub counts-fits : (d : Disc) (g : Geometry) (t : ℕ) → counts d g t ≡ true → entries_fit g (entries (table_at d t)) ≡ true
unfolding counts copy_fits table_at
counts-fits d g t h =
    let b : List ℕ = sector d t in
    (and-true (named b) (entries_fit g (entries (table_in b)))
    (and-true (eqb (field b 0 2) 0) (named b && entries_fit g (entries (table_in b)))
    (and-true (recorded d t) (copy_fits g b) h).1).1).1

-- a sector that is recorded and fits counts
pub fits-counts : (d : Disc) (g : Geometry) (t : ℕ) → recorded d t ≡ true → copy_fits g (sector d t) ≡ true → counts d g t ≡ true
unfolding counts
fits-counts d g t r h = both r h

-- ---- copies with one table

-- copies that agree with a table have it
pub agree-means : (d : Disc) (l ts : List ℕ) (t : ℕ) → agree d l ts ≡ true → In t ts → table_at d t ≡ l
unfolding agree
agree-means d l [] t h i = absurd i
agree-means d l (x ∷ ts) t h (inl q) = ap (table_at d) q ∙ same_true (table_at d x) l (and-true (same (table_at d x) l) (agree d l ts) h).0
agree-means d l (x ∷ ts) t h (inr i) = agree-means d l ts t (and-true (same (table_at d x) l) (agree d l ts) h).1 i

-- copies that all have a table agree with it
pub agree-all : (d : Disc) (l ts : List ℕ) → ((t : ℕ) → In t ts → table_at d t ≡ l) → agree d l ts ≡ true
unfolding agree
agree-all d l [] h = refl
agree-all d l (x ∷ ts) h =
    both (same-equal (table_at d x) l (h x (inl refl))) (agree-all d l ts (λ t i. h t (inr i)))

-- ---- the current table

first_of : (d : Disc) (ts : List ℕ) → is_none ts ≡ false → (t : ℕ) × In t ts × (first_table d ts ≡ table_at d t)
unfolding first_table is_none
first_of d [] n = absurd (true≢false n)
first_of d (t ∷ ts) n = (t, inl refl, refl)

-- the current table is that of a current copy
pub current-first : (d : Disc) (g : Geometry) → is_none (counting d g) ≡ false → (t : ℕ) × In t (current d g) × (current_table d g ≡ table_at d t)
unfolding current_table
current-first d g n = first_of d (current d g) (current-some d g n)

-- its entries fit
pub current-fits : (d : Disc) (g : Geometry) → is_none (counting d g) ≡ false → entries_fit g (entries (current_table d g)) ≡ true
current-fits d g n =
    let r = current-first d g n in
    rw r.2 (counts-fits d g r.0 (counting-counts d g r.0 (current-counting d g r.0 r.1)).1)

flat-first : (d : Disc) (ts : List ℕ) → flat (entries (first_table d ts)) ≡ first_table d ts
unfolding first_table entries flat table_at
flat-first d [] = refl
flat-first d (t ∷ ts) = flat-table (sector d t)

-- the numbers of its entries are the table
pub flat-current : (d : Disc) (g : Geometry) → flat (entries (current_table d g)) ≡ current_table d g
unfolding current_table
flat-current d g = flat-first d (current d g)

-- ---- settled

-- some copy that counts has sequence n, none has a higher one, and all with n have the table l
pub record Settled (d : Disc) (g : Geometry) (n : ℕ) (l : List ℕ) : Type 0 where
  pub one : ℕ
  pub table : In one g.tables
  pub good : counts d g one ≡ true
  pub newest : sequence_at d one ≡ n
  pub below : (t : ℕ) → In t g.tables → counts d g t ≡ true → sequence_at d t ≤ n
  pub alike : (t : ℕ) → In t g.tables → counts d g t ≡ true → sequence_at d t ≡ n → table_at d t ≡ l

-- so it is where copies count and the current ones agree
pub current-settled : (d : Disc) (g : Geometry) → is_none (counting d g) ≡ false → agree d (current_table d g) (current d g) ≡ true → Settled d g (current_sequence d g) (current_table d g)
current-settled d g n a =
    let r = some-highest d g n in
    let c = counting-counts d g r.0 r.1 in
    record {
      one = r.0;
      table = c.0;
      good = c.1;
      newest = r.2;
      below = λ t i h. counting-below d g t (counts-counting d g t i h);
      alike = λ t i h q. agree-means d (current_table d g) (current d g) t a (sequence-current d g t (counts-counting d g t i h) q);
    }

module _ (d : Disc) (g : Geometry) (n : ℕ) (l : List ℕ) (s : Settled d g n l) where
  -- there a copy counts
  pub settled-some : is_none (counting d g) ≡ false
  settled-some = in_some s.one (counting d g) (counts-counting d g s.one s.table s.good)

  -- n is the current sequence
  pub settled-sequence : current_sequence d g ≡ n
  settled-sequence =
      let r = some-highest d g settled-some in
      let c = counting-counts d g r.0 r.1 in
      omega (
        arith,
        counting-below d g s.one (counts-counting d g s.one s.table s.good),
        s.newest,
        r.2,
        s.below r.0 c.0 c.1,
      )

  -- the current copies have the table l
  settled-each : (t : ℕ) → In t (current d g) → table_at d t ≡ l
  settled-each t i =
      let c = counting-counts d g t (current-counting d g t i) in
      s.alike t c.0 c.1 (current-sequence d g t i ∙ settled-sequence)

  -- l is the current table
  pub settled-table : current_table d g ≡ l
  settled-table =
      let r = current-first d g settled-some in
      r.2 ∙ settled-each r.0 r.1

  -- and the current copies agree
  pub settled-agree : agree d l (current d g) ≡ true
  settled-agree = agree-all d l (current d g) settled-each
