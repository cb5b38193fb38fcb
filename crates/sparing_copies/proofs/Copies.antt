-- Laws of the copies of a table: what is read of one, and which is the newest. Assumes nothing.
use Rattle.std.proofs.Common.{◌≡◌, ℕ, zero, suc, ◌+◌, ◌-◌, ◌*◌, ◌≤◌, ◌<◌, Bool, true, false, not, cond, ◌&&◌, ◌||◌, eqb, ltb, List, [], ◌∷◌, Option, Some, None, IfSome, Ok, Err, length, get_or, take, drop, refl, sym, ap, ap₂, ◌∙◌, add-one, arith, length-drop, get_or-drop, drop-cons, drop_of_length-le, eq-eqb, ne_eqb, lt-ltb, le-ltb, ltb-true}
use Rattle.refusal.specs.declared.Refusal.TheVariants.{NoTable, CopiesDiffer}
use Rattle.refusal.proofs.Laws.{goes, stops}
use Rattle.fields.specs.Bytes.{part, same}
use Rattle.fields.specs.Number.{field, words}
use Rattle.fields.specs.Regid.{has_regid}
use Rattle.fields.proofs.Laws.{AllBytes, part-part, field-part, regid-same, same-equal, same_false, same-false-of-length}
use Rattle.model.specs.Disc.{Disc, disc as disc_of, sector, mark, recorded}
use Rattle.model.specs.Sparing.{Geometry, sparing_name, older_name, entries, entries_fit, count_in, sequence_in, table_in, none_defective, named, copy_fits, counts, counting_of, counting, sequence_at, table_at, highest, with_sequence, current, current_sequence, current_table, first_table, agree}
use Rattle.model.specs.Rewrite.{is_none}
use Rattle.model.proofs.Basics.{cond-elim, and_second}
use Rattle.model.proofs.OnceOpen.{length-words}
use Rattle.model.proofs.SparingLaws.{fits-size, table-count, counts-fits}
use Rattle.fields.proofs.Tests.{fails, holds}
use Rattle.sparing_copies.specs.declared.Newest.{Newest}
use Rattle.sparing_copies.specs.Copies.{used_at, newest_at, newer_of, newest_of, agrees, agreeing, FoundCurrent}
use Rattle.sparing_copy.proofs.Words.{words-part, same-words}
use Rattle.sparing_copy.proofs.Rule.{and-end}

-- ---- what is read of the copy at a sector

-- its sequence
pub sequence-read : (b m : List ℕ) (t : ℕ) → field b (2048 * t + 52) 4 ≡ sequence_at (disc_of b m) t
unfolding sequence_at sequence_in sector
sequence-read b m t = sym (field-part b (2048 * t) 2048 52 4 (omega arith))

-- the number of its entries
pub count-read : (b m : List ℕ) (t : ℕ) → field b (2048 * t + 48) 2 ≡ count_in (sector (disc_of b m) t)
unfolding count_in sector
count-read b m t = sym (field-part b (2048 * t) 2048 48 2 (omega arith))

-- its table
table-read : (b m : List ℕ) (t n : ℕ) → n ≡ count_in (sector (disc_of b m) t) → 56 + 8 * n ≤ 2048 → table_at (disc_of b m) t ≡ words b (2048 * t + 56) (2 * n)
unfolding table_at table_in sector
table-read b m t n e h =
    ap (λ (k : ℕ). words (part b (2048 * t) 2048) 56 (2 * k)) (sym e) ∙ words-part b (2048 * t) 2048 56 (2 * n) (omega arith)

-- copies with other numbers of entries
pub tables-differ : (d : Disc) (t u : ℕ) → (count_in (sector d t) ≡ count_in (sector d u) → ⊥) → false ≡ same (table_at d t) (table_at d u)
unfolding table_at table_in
tables-differ d t u n =
    sym (same-false-of-length (table_at d t) (table_at d u)
    (λ e. n (omega (arith, length-words (sector d t) 56 (2 * count_in (sector d t)), length-words (sector d u) 56 (2 * count_in (sector d u))))))

-- copies with the same number of entries are compared by the bytes of these
pub tables-alike : (b m : List ℕ) (t u n : ℕ) → AllBytes b → 2048 * t + 2048 ≤ length b → 2048 * u + 2048 ≤ length b → n ≡ count_in (sector (disc_of b m) t) → n ≡ count_in (sector (disc_of b m) u) → 56 + 8 * n ≤ 2048 → same (part b (2048 * t + 56) (8 * n)) (part b (2048 * u + 56) (8 * n)) ≡ same (table_at (disc_of b m) t) (table_at (disc_of b m) u)
tables-alike b m t u n h ht hu et eu s =
    let w : 8 * n ≡ 4 * (2 * n) = omega arith in
    ap (λ (k : ℕ). same (part b (2048 * t + 56) k) (part b (2048 * u + 56) k)) w
    ∙ same-words b (2048 * t + 56) (2048 * u + 56) (2 * n) h (omega arith) (omega arith)
    ∙ sym (ap₂ same (table-read b m t n et s) (table-read b m u n eu s))

-- bytes from one place up to another, as a part
pub span-part : (s : List ℕ) (a e from w : ℕ) → a ≡ from → e ≡ a + w → take (e - a) (drop a s) ≡ part s from w
unfolding part
span-part s a e from w p q =
    let k : e - a ≡ w = omega arith in
    ap₂ (λ (n j : ℕ). take n (drop j s)) k p

-- bytes of a sector, as many as the copy at p has
pub used-read : (b m : List ℕ) (t p n a e : ℕ) → n ≡ count_in (sector (disc_of b m) p) → 56 + 8 * n ≤ 2048 → a ≡ 2048 * t → e ≡ a + (56 + 8 * n) → take (e - a) (drop a b) ≡ used_at (disc_of b m) p t
unfolding used_at sector
used-read b m t p n a e c h q r =
    span-part b a e (2048 * t + 0) (56 + 8 * n) (omega arith) r
    ∙ sym (part-part b (2048 * t) 2048 0 (56 + 8 * n) (omega arith))
    ∙ ap (λ (k : ℕ). part (part b (2048 * t) 2048) 0 (56 + 8 * k)) c

-- ---- a copy that counts

-- its sector is not recorded
pub counts-blank : (b m : List ℕ) (g : Geometry) (t : ℕ) → (get_or m t 0 ≡ 1 → ⊥) → false ≡ counts (disc_of b m) g t
unfolding counts recorded mark
counts-blank b m g t n = fails _ (ne_eqb _ _ n)

-- it is
pub counts-recorded : (b m : List ℕ) (g : Geometry) (t : ℕ) (r : Bool) → get_or m t 0 ≡ 1 → r ≡ copy_fits g (sector (disc_of b m) t) → r ≡ counts (disc_of b m) g t
unfolding counts recorded mark
counts-recorded b m g t r q s = holds (eq-eqb _ _ q) s

-- a copy's bytes past its entries do not matter
copy-front : (g : Geometry) (b : List ℕ) (w : ℕ) → 56 + 8 * count_in b ≤ w → copy_fits g (part b 0 w) ≡ copy_fits g b
unfolding copy_fits named count_in table_in
copy-front g b w h =
    let table : table_in (part b 0 w) ≡ table_in b =
    ap (λ (n : ℕ). words (part b 0 w) 56 (2 * n)) (field-part b 0 w 48 2 (omega arith))
    ∙ words-part b 0 w 56 (2 * count_in b) (omega arith) in
    let regid : (name : List ℕ) → has_regid (part b 0 w) 16 name ≡ has_regid b 16 name =
    λ name. regid-same (part b 0 w) b 16 16 name (part-part b 0 w 16 24 (omega arith)) in
    ap₂ ◌&&◌ (ap (λ (n : ℕ). eqb n 0) (field-part b 0 w 0 2 (omega arith)))
    (ap₂ ◌&&◌
    (ap₂ ◌||◌ (regid sparing_name) (ap₂ ◌&&◌ (regid older_name) (ap (λ (l : List ℕ). none_defective (entries l)) table)))
    (ap (λ (l : List ℕ). entries_fit g (entries l)) table))

-- a sector with the bytes of a copy up to the end of its entries is as good a copy
front_fits : (d : Disc) (g : Geometry) (t p : ℕ) → used_at d p t ≡ used_at d p p → copy_fits g (sector d t) ≡ copy_fits g (sector d p)
unfolding used_at count_in
front_fits d g t p e =
    let w : ℕ = 56 + 8 * count_in (sector d p) in
    let c : count_in (sector d t) ≡ count_in (sector d p) =
    sym (field-part (sector d t) 0 w 48 2 (omega arith))
    ∙ ap (λ (l : List ℕ). field l 48 2) e
    ∙ field-part (sector d p) 0 w 48 2 (omega arith) in
    sym (copy-front g (sector d t) w (omega arith)) ∙ ap (copy_fits g) e ∙ copy-front g (sector d p) w (omega arith)

-- its sector has the bytes of one that counts
pub counts-alike : (b m : List ℕ) (g : Geometry) (t p : ℕ) → used_at (disc_of b m) p t ≡ used_at (disc_of b m) p p → counts (disc_of b m) g p ≡ true → eqb (get_or m t 0) 1 ≡ counts (disc_of b m) g t
unfolding counts recorded mark
counts-alike b m g t p q h =
    let d : Disc = disc_of b m in
    let f : copy_fits g (sector d t) ≡ true = front_fits d g t p q ∙ and_second (recorded d p) (copy_fits g (sector d p)) h in
    and-end (recorded d t) ∙ ap (λ (x : Bool). recorded d t && x) (sym f)

-- its entries lie in its sector
pub counts-short : (b m : List ℕ) (g : Geometry) (t : ℕ) → counts (disc_of b m) g t ≡ true → g.size ≤ 2048 → (m' : List ℕ) → 56 + 8 * count_in (sector (disc_of b m') t) ≤ 2048
unfolding sector table_at
counts-short b m g t h s m' =
    omega (arith, fits-size g _ (counts-fits (disc_of b m) g t h), table-count (part b (2048 * t) 2048))

-- ---- the newest copy

module _ (d : Disc) (g : Geometry) (t : ℕ) where
  -- what holds of the newest of the others, and of the copy at t where that counts, holds of the newest
  newer-elim : (P : Option Newest → Type 0) (n : Option Newest) → P n → (counts d g t ≡ true → P (Some (newest_at d t))) → P (newer_of d g t n)
  unfolding newer_of
  newer-elim P None p q = cond-elim P (counts d g t) q (λ _. p)
  newer-elim P (Some n) p q =
      cond-elim P (counts d g t) (λ e. cond-elim P (ltb (sequence_at d t) n.sequence) (λ _. p) (λ _. q e)) (λ _. p)

  -- it counts, and there is no other
  pub newer-alone : counts d g t ≡ true → Some (newest_at d t) ≡ newer_of d g t None
  unfolding newer_of
  newer-alone e = rw e

  -- it counts, and is not older
  pub newer-first : (n : Newest) → counts d g t ≡ true → n.sequence ≤ sequence_at d t → Some (newest_at d t) ≡ newer_of d g t (Some n)
  unfolding newer_of
  newer-first n e h = rw (e, le-ltb (sequence_at d t) n.sequence h)

  -- it does not count
  pub newer-uncounted : (n : Option Newest) → counts d g t ≡ false → n ≡ newer_of d g t n
  unfolding newer_of
  newer-uncounted None e = rw e
  newer-uncounted (Some n) e = rw e

  -- it is older, whether it counts or not
  pub newer-older : (n : Newest) → sequence_at d t < n.sequence → Some n ≡ newer_of d g t (Some n)
  unfolding newer_of
  newer-older n h = rw (lt-ltb (sequence_at d t) n.sequence h) (go (counts d g t))
    where
      go : (b : Bool) → Some n ≡ cond b (Some n) (Some n)
      go true = refl
      go false = refl

module _ (d : Disc) (g : Geometry) (l : List ℕ) where
  -- none of no copies
  pub newest-none : (i : ℕ) → length l ≤ i → None ≡ newest_of d g (drop i l)
  unfolding newest_of
  newest-none i h = sym (ap (newest_of d g) (drop_of_length-le l {i = i} h))

  -- one copy more, looking down
  pub newest-next : (i p : ℕ) (m r : Option Newest) → 0 < i → i ≤ length l → m ≡ newest_of d g (drop i l) → p ≡ get_or l (i - 1) 0 → r ≡ newer_of d g p m → r ≡ newest_of d g (drop (i - 1) l)
  unfolding newest_of
  newest-next i p m r z h em ep er =
      let e : i ≡ suc (i - 1) = omega arith in
      er
      ∙ ap (λ (k : ℕ). newer_of d g k m) ep
      ∙ ap (newer_of d g (get_or l (i - 1) 0)) (em ∙ ap (λ (k : ℕ). newest_of d g (drop k l)) e)
      ∙ sym (ap (newest_of d g) (drop-cons l (i - 1) 0 (omega arith)))

-- what the newest of copies l that count tells: the highest sequence, and the first with it
record Tells (d : Disc) (l : List ℕ) (n : Newest) : Type 0 where
  some : is_none l ≡ false
  highest-is : n.sequence ≡ highest d l
  first-is : (r : List ℕ) × (with_sequence d n.sequence l ≡ n.at.0 ∷ r)

-- where there is none, no copy counts
abbrev Told : Disc → List ℕ → Option Newest → Type 0
Told d l None = l ≡ []
Told d l (Some n) = Tells d l n

-- a copy before none
alone-told : (d : Disc) (t : ℕ) (l : List ℕ) → l ≡ [] → Tells d (t ∷ l) (newest_at d t)
unfolding is_none highest with_sequence
alone-told d t [] w =
    record {
      some = refl;
      highest-is = rw (le-ltb (sequence_at d t) 0 (omega arith));
      first-is = ([], rw (eq-eqb (sequence_at d t) (sequence_at d t) refl));
    }
alone-told d t (k ∷ l) w = cc

-- an older copy before them
older-told : (d : Disc) (t : ℕ) (l : List ℕ) (n : Newest) → Tells d l n → ltb (sequence_at d t) n.sequence ≡ true → Tells d (t ∷ l) n
unfolding is_none highest with_sequence
older-told d t l n w e =
    let h : sequence_at d t < n.sequence = ltb-true (sequence_at d t) n.sequence e in
    let q : ltb (sequence_at d t) (highest d l) ≡ true = ap (ltb (sequence_at d t)) (sym w.highest-is) ∙ e in
    record {
      some = refl;
      highest-is = w.highest-is ∙ sym (rw q);
      first-is = (w.first-is.0, rw (ne_eqb (sequence_at d t) n.sequence (λ k. omega arith)) w.first-is.1);
    }

-- one that is not older
newer-told : (d : Disc) (t : ℕ) (l : List ℕ) (n : Newest) → Tells d l n → ltb (sequence_at d t) n.sequence ≡ false → Tells d (t ∷ l) (newest_at d t)
unfolding is_none highest with_sequence
newer-told d t l n w e =
    let q : ltb (sequence_at d t) (highest d l) ≡ false = ap (ltb (sequence_at d t)) (sym w.highest-is) ∙ e in
    record {
      some = refl;
      highest-is = sym (rw q);
      first-is = (with_sequence d (sequence_at d t) l, rw (eq-eqb (sequence_at d t) (sequence_at d t) refl));
    }

newest-told : (d : Disc) (g : Geometry) (ts : List ℕ) → Told d (counting_of d g ts) (newest_of d g ts)
unfolding newest_of newer_of counting_of
newest-told d g [] = refl
newest-told d g (t ∷ ts) = go (counts d g t) (newest_of d g ts) (newest-told d g ts)
  where
    l : List ℕ
    l = counting_of d g ts

    go : (b : Bool) (n : Option Newest) → Told d (counting_of d g ts) n → Told d (cond b (t ∷ counting_of d g ts) (counting_of d g ts)) (elim n as (λ _. Option Newest) [ None ↦ cond b (Some (newest_at d t)) None | Some m ↦ cond b (cond (ltb (sequence_at d t) m.sequence) (Some m) (Some (newest_at d t))) (Some m) ])
    go true None w = alone-told d t (counting_of d g ts) w
    go true (Some n) w =
        cond-elim (λ (r : Option Newest). Told d (t ∷ counting_of d g ts) r) (ltb (sequence_at d t) n.sequence)
        (older-told d t (counting_of d g ts) n w)
        (newer-told d t (counting_of d g ts) n w)
    go false None w = w
    go false (Some n) w = w

-- the newest copy is at one of the sectors
newest-on : (d : Disc) (g : Geometry) (ts : List ℕ) (k : ℕ) → ((i : ℕ) → i < length ts → get_or ts i 0 < k) → IfSome (newest_of d g ts) (λ n. n.at.0 < k)
unfolding newest_of
newest-on d g [] k h = tt
newest-on d g (t ∷ ts) k h =
    newer-elim d g t (λ r. IfSome r (λ n. n.at.0 < k)) (newest_of d g ts) (newest-on d g ts k (λ i l. h (suc i) (omega arith))) (λ _. h zero (omega arith))

-- it counts
newest-counts : (d : Disc) (g : Geometry) (ts : List ℕ) → IfSome (newest_of d g ts) (λ n. counts d g n.at.0 ≡ true)
unfolding newest_of
newest-counts d g [] = tt
newest-counts d g (t ∷ ts) =
    newer-elim d g t (λ r. IfSome r (λ n. counts d g n.at.0 ≡ true)) (newest_of d g ts) (newest-counts d g ts) (λ e. e)

-- what is below a number at each place is below it from a place on
pub later-below : (t : List ℕ) (j k : ℕ) → ((i : ℕ) → i < length t → get_or t i 0 < k) → (i : ℕ) → i < length (drop j t) → get_or (drop j t) i 0 < k
later-below t j k f i l = rw (get_or-drop j t i 0) (f (j + i) (omega (arith, length-drop j t)))

module _ (d : Disc) (g : Geometry) (ts : List ℕ) (n : Option Newest) (is : n ≡ newest_of d g ts) where
  -- the newest of sectors on the disc is on the disc
  pub found-on : (k : ℕ) → ((i : ℕ) → i < length ts → get_or ts i 0 < k) → IfSome n (λ m. m.at.0 < k)
  found-on k h = rw is (newest-on d g ts k h)

  -- and counts
  pub found-counts : IfSome n (λ m. counts d g m.at.0 ≡ true)
  found-counts = rw is (newest-counts d g ts)

-- ---- copies of one sequence agree

module _ (d : Disc) (g : Geometry) (p n t : ℕ) where
  -- a copy of another sequence, whether it counts or not
  pub agrees-other : (sequence_at d t ≡ n → ⊥) → true ≡ agrees d g p n t
  unfolding agrees
  agrees-other q = rw (ne_eqb (sequence_at d t) n q) (go (counts d g t))
    where
      go : (b : Bool) → true ≡ cond b true true
      go true = refl
      go false = refl

  -- one with the same table, too
  pub agrees-same : table_at d p ≡ table_at d t → true ≡ agrees d g p n t
  unfolding agrees
  agrees-same e = rw (same-equal (table_at d t) (table_at d p) (sym e)) (go (counts d g t) (eqb (sequence_at d t) n))
    where
      go : (b c : Bool) → true ≡ cond b (cond c true true) true
      go true true = refl
      go true false = refl
      go false c = refl

  -- one of this sequence with another table, where it does not count
  pub agrees-uncounted : (r : Bool) → sequence_at d t ≡ n → (table_at d p ≡ table_at d t → ⊥) → r ≡ counts d g t → not r ≡ agrees d g p n t
  unfolding agrees
  agrees-uncounted r q s e =
      rw (← e, eq-eqb (sequence_at d t) n q, same_false (table_at d t) (table_at d p) (λ k. s (sym k))) (go r)
    where
      go : (b : Bool) → not b ≡ cond b false true
      go true = refl
      go false = refl

  agreeing-first : (ts : List ℕ) → agreeing d g p n (t ∷ ts) ≡ agrees d g p n t && agreeing d g p n ts
  unfolding agreeing agrees counting_of with_sequence agree
  agreeing-first ts = go (counts d g t) (eqb (sequence_at d t) n) refl
    where
      go : (b c : Bool) → eqb (sequence_at d t) n ≡ c → agree d (table_at d p) (with_sequence d n (cond b (t ∷ counting_of d g ts) (counting_of d g ts))) ≡ cond b (cond c (same (table_at d t) (table_at d p)) true) true && agree d (table_at d p) (with_sequence d n (counting_of d g ts))
      go true true e = rw e
      go true false e = rw e
      go false c e = refl

module _ (d : Disc) (g : Geometry) (p n : ℕ) (t : List ℕ) (i : ℕ) where
  -- no copy is left
  pub agreeing-end : length t ≤ i → true ≡ agreeing d g p n (drop i t)
  unfolding agreeing agree with_sequence counting_of
  agreeing-end l = sym (ap (agreeing d g p n) (drop_of_length-le t {i = i} l))

  -- a copy differs
  pub agreeing-off : (r : Bool) → i < length t → r ≡ agrees d g p n (get_or t i 0) → r ≡ false → false ≡ agreeing d g p n (drop i t)
  agreeing-off r l s q =
      sym (ap (agreeing d g p n) (drop-cons t i 0 l) ∙ agreeing-first d g p n (get_or t i 0) (drop (suc i) t) ∙ rw (← s, q))

  -- it does not
  pub agreeing-next : (r : Bool) → i < length t → r ≡ agrees d g p n (get_or t i 0) → r ≡ true → agreeing d g p n (drop (i + 1) t) ≡ agreeing d g p n (drop i t)
  agreeing-next r l s q =
      rw add-one (sym (ap (agreeing d g p n) (drop-cons t i 0 l) ∙ agreeing-first d g p n (get_or t i 0) (drop (suc i) t) ∙ rw (← s, q)))

-- ---- the current table

module _ (d : Disc) (g : Geometry) where
  -- no copy counts
  pub none_found : None ≡ newest_of d g g.tables → FoundCurrent d g (Err NoTable)
  unfolding is_none counting
  none_found is =
      let told : counting_of d g g.tables ≡ [] = rw (sym is) at (newest-told d g g.tables) in
      record { verdict = stops _ (rw told); found = tt }

  module _ (n : Newest) (is : Some n ≡ newest_of d g g.tables) where
    told : Tells d (counting d g) n
    unfolding counting
    told = rw (sym is) at (newest-told d g g.tables)

    some : not (is_none (counting d g)) ≡ true
    some = ap not told.some

    -- the current copies are those of its sequence, of which it is the first
    current-is : with_sequence d n.sequence (counting d g) ≡ current d g
    unfolding current current_sequence
    current-is = ap (λ (k : ℕ). with_sequence d k (counting d g)) told.highest-is

    table_is : table_at d n.at.0 ≡ current_table d g
    unfolding current_table first_table
    table_is = sym (ap (first_table d) (sym current-is ∙ told.first-is.1))

    agreed : agreeing d g n.at.0 n.sequence g.tables ≡ agree d (current_table d g) (current d g)
    unfolding agreeing counting
    agreed = ap₂ (agree d) table_is current-is

    -- the current copies differ
    pub differ-found : agreeing d g n.at.0 n.sequence g.tables ≡ false → FoundCurrent d g (Err CopiesDiffer)
    differ-found q = record { verdict = goes NoTable some (stops _ (sym agreed ∙ q)); found = tt }

    -- they agree
    pub current-found : (k : ℕ) → agreeing d g n.at.0 n.sequence g.tables ≡ true → n.at.0 < g.sectors → k ≡ count_in (sector d n.at.0) → FoundCurrent d g (Ok (record { at = n.at; sequence = n.sequence; entries = k }))
    unfolding current_sequence table_at
    current-found k q h c =
        record {
          verdict = goes NoTable some (goes CopiesDiffer (sym agreed ∙ q) refl);
          found = record {
            place = h;
            counted = found-counts d g g.tables (Some n) is;
            table = table_is;
            sequence = told.highest-is;
            count = c ∙ sym (table-count (sector d n.at.0)) ∙ as_many;
          };
        }
      where
        as_many : length (entries (table_at d n.at.0)) ≡ length (entries (current_table d g))
        as_many = ap (λ (l : List ℕ). length (entries l)) table_is
