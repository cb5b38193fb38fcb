-- Laws of where a packet may lie: apart from another, in the partition, and no table's. Assumes nothing.
use Rattle.std.proofs.Common.{◌≡◌, ℕ, ◌+◌, ◌-◌, ◌%◌, ◌<◌, ◌≤◌, Bool, true, false, ltb, leb, List, length, get_or, take, drop, sym, ap, ◌∙◌, add-one, arith, drop_of_length-le, length-take, drop-cons, get_or-take, lt-ltb}
use Rattle.std.specs.Int.{abs_diff}
use Rattle.std.proofs.lemmas.Bool.Decides.{nat_tests}
use Rattle.fields.proofs.Tests.{fails, holds}
use Rattle.model.specs.Sparing.{Geometry, apart, apart_from, whole_packet}
use Rattle.sparing_copy.specs.Entries.{placed}
use Rattle.sparing_copy.specs.Slots.{inside}

-- ---- two packets

-- by how far apart they begin
pub apart-by : (a b : ℕ) → leb 32 (abs_diff a b) ≡ apart a b
unfolding apart
apart-by a b = grind (arith, nat_tests)

-- ---- the partition, l sectors from s on

-- whether m is in it, by how far it is from s, wrapped
pub inside-wraps : (s l m : ℕ) → s < 4294967296 → ltb ((m + (4294967296 - s)) % 4294967296) l ≡ inside s l m
unfolding inside
inside-wraps s l m h =
    let d : m + (4294967296 - s) ≡ m + 4294967296 - s = omega arith in
    ap (λ (k : ℕ). ltb (k % 4294967296) l) d

-- each place of it is
pub inside-here : (s l q : ℕ) → q < l → inside s l (s + q) ≡ true
unfolding inside
inside-here s l q h = lt-ltb ((s + q + 4294967296 - s) % 4294967296) l (omega arith)

-- ---- a packet that may be a spare

-- it is no whole packet of the disc
pub placed_off : (g : Geometry) (m : ℕ) → whole_packet g m ≡ false → false ≡ placed g m
unfolding placed
placed_off g m e = fails _ e

-- it is
pub placed-met : (g : Geometry) (m : ℕ) (r : Bool) → whole_packet g m ≡ true → r ≡ apart_from m g.tables → r ≡ placed g m
unfolding placed
placed-met g m r e q = holds e q

-- ---- a list of table sectors, from place i on

-- what holds of each of the first n places of four, that it is below a number, holds of each of those sectors
pub tables-below : (t : List ℕ) (n k : ℕ) → ((i : ℕ) → i < n → get_or t i 0 < k) → (i : ℕ) → i < length (take n t) → get_or (take n t) i 0 < k
tables-below t n k f i l =
    let q : i < n = omega (arith, length-take n t) in
    rw (get_or-take n t i 0 q) (f i q)

module _ (t : List ℕ) (m i : ℕ) where
  -- no table is left
  pub tables_end : length t ≤ i → true ≡ apart_from m (drop i t)
  unfolding apart_from
  tables_end l = sym (ap (apart_from m) (drop_of_length-le t {i = i} l))

  -- a table's packet meets this one
  pub tables-met : i < length t → apart m (get_or t i 0) ≡ false → false ≡ apart_from m (drop i t)
  unfolding apart_from
  tables-met l e = sym (ap (apart_from m) (drop-cons t i 0 l) ∙ rw e)

  -- it does not
  pub tables-next : i < length t → apart m (get_or t i 0) ≡ true → apart_from m (drop (i + 1) t) ≡ apart_from m (drop i t)
  unfolding apart_from
  tables-next l e = rw add-one (sym (ap (apart_from m) (drop-cons t i 0 l) ∙ rw e))
