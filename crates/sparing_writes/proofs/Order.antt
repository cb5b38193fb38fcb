-- Laws of the order in which a sparing writes the copies of its table. Assumes nothing.
use Prim.Native.Nat.{ℕ, zero, suc, ◌+◌, ◌≤◌, ◌<◌}
use mathlib.Core.Path.{◌≡◌, refl, sym, ap, ap₂, ◌∙◌}
use mathlib.Core.Bool.{Bool, true, false, cond, not, beq, ◌&&◌, ◌||◌}
use mathlib.Core.List.{List, [], ◌∷◌, ◌++◌, append_assoc, append-nil}
use native.Mathlib.Omega.{arith}
use native.Mathlib.Numerals.{add-one}
use borrow.Author.Tests.{eq-eqb, ne_eqb, eqb-true}
use lib.Dec.{eqb}
use lib.ListN.{length, get_or, set, take, drop, length-append, length-set}
use Rattle.std.proofs.Common.{drop-cons, drop_of_length-le}
use lib.Seq.{take-suc-set, get_or-take}
use Rattle.address.specs.declared.PhysicalAddress.{PhysicalAddress}
use Rattle.model.specs.Disc.{Disc}
use Rattle.model.specs.Sparing.{Geometry, counts, counting_of, counting, sequence_at, with_sequence, current, current_sequence}
use Rattle.model.specs.Rewrite.{not_in, stale}
use Rattle.model.proofs.Basics.{cond-elim, and-false, or_right}
use Rattle.sparing_copy.proofs.Rule.{and-end}
use Rattle.sparing_writes.specs.Order.{numbers_of, is_of, as_wanted, chosen, copies_of, order_of}

-- ---- the numbers of sectors

-- as many,
pub numbers-length : (ps : List PhysicalAddress) → length (numbers_of ps) ≡ length ps
unfolding numbers_of
numbers-length [] = refl
numbers-length (p ∷ ps) = ap suc (numbers-length ps)

pub numbers-take : (n : ℕ) (ps : List PhysicalAddress) → numbers_of (take n ps) ≡ take n (numbers_of ps)
unfolding numbers_of
numbers-take zero ps = refl
numbers-take (suc n) [] = refl
numbers-take (suc n) (p ∷ ps) = ap (λ (l : List ℕ). p.0 ∷ l) (numbers-take n ps)

-- each in its place,
pub numbers-at : (ps : List PhysicalAddress) (i : ℕ) → (get_or ps i (record { 0 = 0 })).0 ≡ get_or (numbers_of ps) i 0
unfolding numbers_of
numbers-at [] i = refl
numbers-at (p ∷ ps) zero = refl
numbers-at (p ∷ ps) (suc i) = numbers-at ps i

-- all of them where each is
pub numbers-each : (ps : List PhysicalAddress) (l : List ℕ) → length ps ≡ length l → ((i : ℕ) → i < length l → (get_or ps i (record { 0 = 0 })).0 ≡ get_or l i 0) → numbers_of ps ≡ l
unfolding numbers_of
numbers-each [] [] n e = refl
numbers-each [] (x ∷ l) n e = absurd (omega arith)
numbers-each (p ∷ ps) [] n e = absurd (omega arith)
numbers-each (p ∷ ps) (x ∷ l) n e = ap₂ (λ (y : ℕ) (r : List ℕ). y ∷ r) (e 0 (omega arith)) (numbers-each ps l (omega arith) (λ i h. e (suc i) (omega arith)))

-- and set there
pub numbers-set : (ps : List PhysicalAddress) (i : ℕ) (p : PhysicalAddress) → numbers_of (set ps i p) ≡ set (numbers_of ps) i p.0
unfolding numbers_of
numbers-set [] i p = refl
numbers-set (q ∷ ps) zero p = refl
numbers-set (q ∷ ps) (suc i) p = ap (λ (l : List ℕ). q.0 ∷ l) (numbers-set ps i p)

-- ---- one copy

module _ (d : Disc) (g : Geometry) (n t : ℕ) where
  -- a copy of another sequence is not of this one
  pub is-of-other : (sequence_at d t ≡ n → ⊥) → false ≡ is_of d g n t
  unfolding is_of
  is-of-other h = sym (and-false (counts d g t) (ne_eqb (sequence_at d t) n h))

  -- one of its own is where it counts
  pub is-of-own : (r : Bool) → sequence_at d t ≡ n → r ≡ counts d g t → r ≡ is_of d g n t
  unfolding is_of
  is-of-own r e q = q ∙ and-end (counts d g t) ∙ ap (λ (b : Bool). counts d g t && b) (sym (eq-eqb (sequence_at d t) n e))

  -- it is as is wanted, or not
  pub wanted-is : (w r : Bool) → r ≡ is_of d g n t → as_wanted d g n w t ≡ beq r w
  unfolding as_wanted
  wanted-is w r q = rw q (go w (is_of d g n t))
    where
      go : (v s : Bool) → cond v s (not s) ≡ beq s v
      go true true = refl
      go true false = refl
      go false true = refl
      go false false = refl

-- ---- the tables of which it is as wanted, gathered after others

module _ (d : Disc) (g : Geometry) (n : ℕ) (w : Bool) where
  -- after i of the tables ts, where `start` and `from` are the sectors and their number as they came: what was gathered, and what is left to
  -- gather, are all
  pub record Gathering (ts start : List ℕ) (from i : ℕ) (places : List ℕ) (count : ℕ) : Type 0 where
    pub long : length places ≡ 4
    pub counted : count + length (chosen d g n w (drop i ts)) ≡ from + length (chosen d g n w ts)
    pub left : take count places ++ chosen d g n w (drop i ts) ≡ start ++ chosen d g n w ts

  -- nothing is gathered yet
  pub gathering-first : (ts places : List ℕ) (count : ℕ) → length places ≡ 4 → Gathering ts (take count places) count 0 places count
  gathering-first ts places count e = record { long = e; counted = refl; left = refl }

  module _ (t : List ℕ) (i : ℕ) where
    -- the first of the tables that are left
    chosen-step : (b : Bool) → i < length t → as_wanted d g n w (get_or t i 0) ≡ b → chosen d g n w (drop i t) ≡ cond b (get_or t i 0 ∷ chosen d g n w (drop (i + 1) t)) (chosen d g n w (drop (i + 1) t))
    unfolding chosen
    chosen-step b l e =
        rw add-one
        (ap (chosen d g n w) (drop-cons t i 0 l)
        ∙ ap (λ (c : Bool). cond c (get_or t i 0 ∷ chosen d g n w (drop (suc i) t)) (chosen d g n w (drop (suc i) t))) e)

    -- no table is left
    chosen-end : length t ≤ i → chosen d g n w (drop i t) ≡ []
    unfolding chosen
    chosen-end l = ap (chosen d g n w) (drop_of_length-le t {i = i} l)

    -- there is room for one that is wanted
    pub gathering-room : (start places : List ℕ) (from count : ℕ) → i < length t → as_wanted d g n w (get_or t i 0) ≡ true → from + length (chosen d g n w t) ≤ 4 → Gathering t start from i places count → count < 4
    gathering-room start places from count l e room s = omega (arith, ap length (chosen-step true l e), s.counted, room)

    -- it is added
    pub gathering-taken : (start places : List ℕ) (from count : ℕ) → i < length t → as_wanted d g n w (get_or t i 0) ≡ true → count < 4 → Gathering t start from i places count → Gathering t start from (i + 1) (set places count (get_or t i 0)) (count + 1)
    gathering-taken start places from count l e room s =
        record {
          long = length-set places count (get_or t i 0) ∙ s.long;
          counted = omega (arith, ap length step, s.counted);
          left =
              ap (λ (j : ℕ). take j (set places count (get_or t i 0)) ++ next) (add-one count)
              ∙ ap (λ (p : List ℕ). p ++ next) (take-suc-set places count (get_or t i 0) (omega (arith, s.long)))
              ∙ append_assoc (take count places) (get_or t i 0 ∷ []) next
              ∙ sym (ap (λ (r : List ℕ). take count places ++ r) step)
              ∙ s.left;
        }
      where
        next : List ℕ
        next = chosen d g n w (drop (i + 1) t)

        step : chosen d g n w (drop i t) ≡ get_or t i 0 ∷ next
        step = chosen-step true l e

    -- one that is not is left out
    pub gathering-left : (start places : List ℕ) (from count : ℕ) → i < length t → as_wanted d g n w (get_or t i 0) ≡ false → Gathering t start from i places count → Gathering t start from (i + 1) places count
    gathering-left start places from count l e s =
        let step : chosen d g n w (drop i t) ≡ chosen d g n w (drop (i + 1) t) = chosen-step false l e in
        record {
          long = s.long;
          counted = sym (ap (λ (r : List ℕ). count + length r) step) ∙ s.counted;
          left = sym (ap (λ (r : List ℕ). take count places ++ r) step) ∙ s.left;
        }

    -- all are gathered
    pub gathering-last : (start places : List ℕ) (from count : ℕ) → length t ≤ i → Gathering t start from i places count → (count ≡ from + length (chosen d g n w t)) × (take count places ≡ start ++ chosen d g n w t)
    gathering-last start places from count l s = (
      omega (arith, ap length (chosen-end l), s.counted),
      sym (append-nil (take count places)) ∙ sym (ap (λ (r : List ℕ). take count places ++ r) (chosen-end l)) ∙ s.left,
    )

-- ---- the order

module _ (d : Disc) (g : Geometry) (n : ℕ) where
  -- the copies of sequence n are those that are wanted to be so,
  chosen-so : (ts : List ℕ) → with_sequence d n (counting_of d g ts) ≡ chosen d g n true ts
  unfolding chosen as_wanted is_of with_sequence counting_of
  chosen-so [] = refl
  chosen-so (t ∷ ts) = go (chosen-so ts) (counts d g t)
    where
      go : with_sequence d n (counting_of d g ts) ≡ chosen d g n true ts → (b : Bool) → with_sequence d n (cond b (t ∷ counting_of d g ts) (counting_of d g ts)) ≡ cond (b && eqb (sequence_at d t) n) (t ∷ chosen d g n true ts) (chosen d g n true ts)
      go e true = ap (λ (r : List ℕ). cond (eqb (sequence_at d t) n) (t ∷ r) r) e
      go e false = e

  -- a sector is none of these exactly if it is none of ts or not of that sequence
  not-in-so : (ts : List ℕ) (t : ℕ) → not_in (chosen d g n true ts) t ≡ not_in ts t || not (is_of d g n t)
  unfolding chosen as_wanted not_in
  not-in-so [] t = refl
  not-in-so (x ∷ ts) t = go (not-in-so ts t) (is_of d g n x) (eqb x t) refl refl
    where
      go : not_in (chosen d g n true ts) t ≡ not_in ts t || not (is_of d g n t) → (b c : Bool) → is_of d g n x ≡ b → eqb x t ≡ c → not_in (cond b (x ∷ chosen d g n true ts) (chosen d g n true ts)) t ≡ (not c && not_in ts t) || not (is_of d g n t)
      go e true true eb ec =
          let q : is_of d g n t ≡ true = sym (ap (is_of d g n) (eqb-true x t ec)) ∙ eb in
          rw (ec, q)
      go e true false eb ec = rw ec e
      go e false true eb ec =
          let q : is_of d g n t ≡ false = sym (ap (is_of d g n) (eqb-true x t ec)) ∙ eb in
          e ∙ ap (λ (b : Bool). not_in ts t || not b) q ∙ or_right (not_in ts t) refl ∙ sym (ap not q)
      go e false false eb ec = e

  -- each of a list is in it
  each_in : (ts : List ℕ) (i : ℕ) → i < length ts → not_in ts (get_or ts i 0) ≡ false
  unfolding not_in
  each_in [] i h = absurd (omega arith)
  each_in (t ∷ ts) zero h = rw (eq-eqb t t refl)
  each_in (t ∷ ts) (suc i) h = and-false (not (eqb t (get_or ts i 0))) (each_in ts i (omega arith))

  -- of tables all among ts, the others are those that are wanted not to be so
  chosen-not : (ts us : List ℕ) → ((i : ℕ) → i < length us → not_in ts (get_or us i 0) ≡ false) → stale (chosen d g n true ts) us ≡ chosen d g n false us
  unfolding chosen as_wanted stale
  chosen-not ts [] h = refl
  chosen-not ts (u ∷ us) h =
      let e : not_in (chosen d g n true ts) u ≡ not (is_of d g n u) = not-in-so ts u ∙ ap (λ (b : Bool). b || not (is_of d g n u)) (h 0 (omega arith)) in
      ap₂ (λ (b : Bool) (r : List ℕ). cond b (u ∷ r) r) e (chosen-not ts us (λ i l. h (suc i) (omega arith)))

  -- those that are not so, and those that are, are as many as all
  pub chosen-all : (ts : List ℕ) → length (chosen d g n false ts) + length (chosen d g n true ts) ≡ length ts
  unfolding chosen as_wanted
  chosen-all [] = refl
  chosen-all (t ∷ ts) = go (is_of d g n t) (chosen-all ts)
    where
      go : (b : Bool) → length (chosen d g n false ts) + length (chosen d g n true ts) ≡ length ts → length (cond (not b) (t ∷ chosen d g n false ts) (chosen d g n false ts)) + length (cond b (t ∷ chosen d g n true ts) (chosen d g n true ts)) ≡ suc (length ts)
      go true e = omega (arith, e)
      go false e = omega (arith, e)

  -- the order is those that are not so, and then those that are
  pub order-chosen : chosen d g n false g.tables ++ chosen d g n true g.tables ≡ order_of d g n
  order-chosen =
      let so = chosen-so g.tables in
      sym
      (ap₂ ◌++◌
      (ap (λ (cs : List ℕ). stale cs g.tables) so ∙ chosen-not g.tables g.tables (each_in g.tables))
      so)

  -- it is as long as the tables
  order-length : length (order_of d g n) ≡ length g.tables
  order-length =
      sym (ap length order-chosen)
      ∙ length-append (chosen d g n false g.tables) (chosen d g n true g.tables)
      ∙ chosen-all g.tables

  -- both gathered in turn are the order
  pub order-gathered : (p q : List ℕ) (i j k : ℕ) → i ≡ 0 + length (chosen d g n false g.tables) → take i p ≡ chosen d g n false g.tables → j ≡ i + length (chosen d g n true g.tables) → take j q ≡ take i p ++ chosen d g n true g.tables → length g.tables ≡ k → take k q ≡ order_of d g n
  order-gathered p q i j k ei ep ej eq ek =
      let e : k ≡ j = omega (arith, ei, ej, ek, chosen-all g.tables) in
      ap (λ (x : ℕ). take x q) e ∙ eq ∙ ap (λ (l : List ℕ). l ++ chosen d g n true g.tables) ep ∙ order-chosen

  -- with the current sequence, those that are so are the current copies
  copies-current : n ≡ current_sequence d g → copies_of d g n ≡ current d g
  unfolding current counting
  copies-current e = ap (λ (k : ℕ). with_sequence d k (counting_of d g g.tables)) e

  -- and they come last
  pub order-current : n ≡ current_sequence d g → order_of d g n ≡ stale (current d g) g.tables ++ current d g
  order-current e = ap (λ (cs : List ℕ). stale cs g.tables ++ cs) (copies-current e)

  -- ---- all are sectors of the disc

  module _ (k : ℕ) where
    -- each of a list is below k
    abbrev On : List ℕ → Type 0
    On l = (i : ℕ) → i < length l → get_or l i 0 < k

    on-cons : (t : ℕ) (l : List ℕ) → t < k → On l → On (t ∷ l)
    on-cons t l h o zero q = h
    on-cons t l h o (suc i) q = o i (omega arith)

    on-append : (a b : List ℕ) → On a → On b → On (a ++ b)
    on-append [] b oa ob = ob
    on-append (x ∷ a) b oa ob = on-cons x (a ++ b) (oa 0 (omega arith)) (on-append a b (λ i l. oa (suc i) (omega arith)) ob)

    on-chosen : (w : Bool) (ts : List ℕ) → On ts → On (chosen d g n w ts)
    unfolding chosen
    on-chosen w [] o = o
    on-chosen w (t ∷ ts) o =
        let rest : On (chosen d g n w ts) = on-chosen w ts (λ i l. o (suc i) (omega arith)) in
        cond-elim On (as_wanted d g n w t) (λ _. on-cons t (chosen d g n w ts) (o 0 (omega arith)) rest) (λ _. rest)

    -- each of the order is below k if each of the tables is
    pub order-on : (q : List ℕ) (c : ℕ) → On g.tables → length g.tables ≡ c → take c q ≡ order_of d g n → (i : ℕ) → i < c → get_or q i 0 < k
    order-on q c o e eq i l =
        let all : On (chosen d g n false g.tables ++ chosen d g n true g.tables) =
        on-append (chosen d g n false g.tables) (chosen d g n true g.tables) (on-chosen false g.tables o) (on-chosen true g.tables o) in
        let at : get_or q i 0 ≡ get_or (chosen d g n false g.tables ++ chosen d g n true g.tables) i 0 =
        sym (get_or-take c q i 0 l) ∙ ap (λ (x : List ℕ). get_or x i 0) (eq ∙ sym order-chosen) in
        let in_order_law : i < length (chosen d g n false g.tables ++ chosen d g n true g.tables) = omega (arith, ap length order-chosen, order-length) in
        omega (arith, at, all i in_order_law)
