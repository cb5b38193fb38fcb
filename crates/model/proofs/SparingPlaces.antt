-- Where a block of a rewritable disc is: on the disc, each in a sector of its own, and none in a table's packet or a free one. Assumes nothing.
use Prim.Native.Nat.{ℕ, ◌+◌, ◌%◌, ◌≤◌, ◌<◌}
use mathlib.Core.Bool.{Bool, true, false, not, ◌||◌}
use mathlib.Core.Logic.{◌≢◌, ◌⊎◌, inl, inr, ⊎_elim}
use mathlib.Core.Path.{◌≡◌, refl, sym, ap, ◌∙◌}
use mathlib.Core.List.{List, [], ◌∷◌}
use native.Mathlib.Omega.{arith}
use lib.Dec.{leb, eqb}
use borrow.Author.Tests.{leb-true, eqb-true, eq-eqb, ne_eqb, le-leb, lt-leb, not-false}
use Rattle.fields.proofs.Tests.{fails, holds}
use Rattle.model.specs.Sparing.{Geometry, Entry, is_free, is_defective, defective_of, free_of, apart, apart_from, whole_packet, outside, mapped_of, entries_fit, Spot, mapped_to, in_place, spot_of, packet_of, of_spare, start_at, locate, first_free, resorted}
use Rattle.model.specs.Examine.{all_outside}
use Rattle.model.specs.Rewrite.{no_entry}
use Rattle.model.proofs.Basics.{and-true, by-eq, either, or_left}
use Rattle.maps.specs.Kinds.{absent}
use Rattle.model.proofs.SparingLists.{In, absent-not-in}
use Rattle.model.proofs.SparingResorted.{spot-same, spot-other}
use Rattle.model.proofs.SparingEntries.{fits-mapped, mapped-whole, mapped-apart, spot_in, spots-apart, Maps, maps-in, spot-not-kind, free-maps, free_in_law, defective-maps, free-means, defective-means, multiple-none, multiple-defective}

-- ---- packets

-- a packet starts at a multiple of 32
pub packet-multiple : (b : ℕ) → packet_of b % 32 ≡ 0
unfolding packet_of
packet-multiple b = omega arith

-- not past the block
pub packet-below : (b : ℕ) → packet_of b ≤ b
unfolding packet_of
packet-below b = omega arith

-- so it is below what the block is below
pub packet-less : (b n : ℕ) → b < n → packet_of b < n
packet-less b n h = omega (arith, packet-below b)

-- a block is its packet's start and its place in the packet
pub packet-rest : (b : ℕ) → b ≡ packet_of b + b % 32
unfolding packet_of
packet-rest b = omega arith

-- the packet of a block of a partition of whole packets is in it, whole
pub packet-inside : (b n : ℕ) → n % 32 ≡ 0 → b < n → packet_of b + 32 ≤ n
unfolding packet_of
packet-inside b n m h = omega arith

-- a packet's start is in its own packet
pub packet-start : (p i : ℕ) → p % 32 ≡ 0 → i < 32 → packet_of (p + i) ≡ p
unfolding packet_of
packet-start p i m h = omega arith

-- also by itself
pub packet-own : (p : ℕ) → p % 32 ≡ 0 → packet_of p ≡ p
unfolding packet_of
packet-own p m = omega arith

-- and its places are numbered from it
pub packet-place : (p i : ℕ) → p % 32 ≡ 0 → i < 32 → (p + i) % 32 ≡ i
packet-place p i m h = omega arith

-- ---- outside the partition

-- a whole packet of the disc
pub record Whole (g : Geometry) (m : ℕ) : Type 0 where
  pub multiple : m % 32 ≡ 0
  pub on : m + 32 ≤ g.sectors

-- one outside the partition
pub record Outside (g : Geometry) (m : ℕ) : Type 0 where
  pub multiple : m % 32 ≡ 0
  pub on : m + 32 ≤ g.sectors
  pub aside : (m + 32 ≤ g.start) ⊎ (g.start + g.span ≤ m)

-- what the tests say
pub whole-means : (g : Geometry) (m : ℕ) → whole_packet g m ≡ true → Whole g m
unfolding whole_packet
whole-means g m h =
    let a = and-true (eqb (m % 32) 0) (leb (m + 32) g.sectors) h in
    record { multiple = eqb-true (m % 32) 0 a.0; on = leb-true (m + 32) g.sectors a.1 }

pub outside-means : (g : Geometry) (m : ℕ) → outside g m ≡ true → Outside g m
unfolding outside
outside-means g m h =
    let a = and-true (whole_packet g m) (leb (m + 32) g.start || leb (g.start + g.span) m) h in
    let w = whole-means g m a.0 in
    record {
      multiple = w.multiple;
      on = w.on;
      aside =
          ⊎_elim
          (λ l. inl (leb-true (m + 32) g.start l))
          (λ r. inr (leb-true (g.start + g.span) m r))
          (either (leb (m + 32) g.start) (leb (g.start + g.span) m) a.1);
    }

-- and what they are found by, test by test
module _ (g : Geometry) (m : ℕ) where
  -- the packet begins at no multiple of 32
  pub whole-off : (m % 32 ≡ 0 → ⊥) → false ≡ whole_packet g m
  unfolding whole_packet
  whole-off h = fails _ (ne_eqb (m % 32) 0 h)

  -- else it has to end where the disc does, or before
  pub whole-on : m % 32 ≡ 0 → leb (m + 32) g.sectors ≡ whole_packet g m
  unfolding whole_packet
  whole-on h = holds (eq-eqb (m % 32) 0 h) refl

  -- it is no whole packet of the disc
  pub outside-off : whole_packet g m ≡ false → false ≡ outside g m
  unfolding outside
  outside-off h = fails _ h

  -- it ends where the partition begins, or before
  pub outside-before : whole_packet g m ≡ true → m + 32 ≤ g.start → true ≡ outside g m
  unfolding outside
  outside-before h q = holds h (sym (or_left _ (le-leb (m + 32) g.start q)))

  -- else it has to begin where the partition ends, or after
  pub outside-after : whole_packet g m ≡ true → g.start < m + 32 → leb (g.start + g.span) m ≡ outside g m
  unfolding outside
  outside-after h q = let e = lt-leb (m + 32) g.start q in holds h (rw e)

-- a table sector's packet is outside the partition
pub table-outside : (g : Geometry) (ts : List ℕ) (t : ℕ) → all_outside g ts ≡ true → In t ts → Outside g t
unfolding all_outside
table-outside g [] t h i = absurd i
table-outside g (x ∷ ts) t h (inl q) = rw q (outside-means g x (and-true (outside g x) (all_outside g ts) h).0)
table-outside g (x ∷ ts) t h (inr i) = table-outside g ts t (and-true (outside g x) (all_outside g ts) h).1 i

-- a packet apart from each of some is apart from one of them
pub apart-means : (m : ℕ) (ts : List ℕ) (t : ℕ) → apart_from m ts ≡ true → In t ts → (m + 32 ≤ t) ⊎ (t + 32 ≤ m)
unfolding apart_from apart
apart-means m [] t h i = absurd i
apart-means m (x ∷ ts) t h (inl q) =
    rw q
    (⊎_elim
    (λ l. inl (leb-true (m + 32) x l))
    (λ r. inr (leb-true (x + 32) m r))
    (either (leb (m + 32) x) (leb (x + 32) m) (and-true (apart m x) (apart_from m ts) h).0))
apart-means m (x ∷ ts) t h (inr i) = apart-means m ts t (and-true (apart m x) (apart_from m ts) h).1 i

-- ---- where a packet is

-- by cases on whether a packet has an entry
by-spot {ℓ} : {P : Type ℓ} (es : List Entry) (p : ℕ) → (spot_of es p ≡ in_place → P) → ((m : ℕ) → spot_of es p ≡ mapped_to m → P) → P
by-spot {P} es p f k = go (spot_of es p) refl
  where
    go : (z : Spot) → spot_of es p ≡ z → P
    go (mapped_to m) e = k m e
    go in_place e = f e

-- the sector at which a packet that begins at p is read
abbrev packet_at : Geometry → List Entry → ℕ → ℕ
packet_at g es p = start_at (spot_of es p) g.start p

at-mapped : (g : Geometry) (es : List Entry) (p m : ℕ) → spot_of es p ≡ mapped_to m → packet_at g es p ≡ m
unfolding start_at
at-mapped g es p m e = rw e

at_own : (g : Geometry) (es : List Entry) (p : ℕ) → spot_of es p ≡ in_place → packet_at g es p ≡ g.start + p
unfolding start_at
at_own g es p e = rw e

-- blocks of packets that begin in different places are in different places
steps_apart : (a b i j : ℕ) → a % 32 ≡ 0 → b % 32 ≡ 0 → i < 32 → j < 32 → a ≢ b → a + i ≢ b + j
steps_apart a b i j ha hb hi hj n = omega arith

-- a packet outside the partition is not in it
aside-apart : (g : Geometry) (m p : ℕ) → Outside g m → p < g.span → m ≢ g.start + p
aside-apart g m p o l q = ⊎_elim (λ a. omega arith) (λ b. omega arith) o.aside

-- ---- packets that belong to a spare (02, slip 8)

-- the place of a packet that belongs to no spare is no mapped start
pub place-unmapped : (s : ℕ) (es : List Entry) (b : ℕ) → of_spare s es b ≡ false → absent (s + packet_of b) (mapped_of es) ≡ true
unfolding of_spare
place-unmapped s es b h = not-false _ h

-- also by its own number
pub packet-unmapped : (s : ℕ) (es : List Entry) (p : ℕ) → p % 32 ≡ 0 → of_spare s es p ≡ false → absent (s + p) (mapped_of es) ≡ true
packet-unmapped s es p m h = rw (packet-own p m) at (place-unmapped s es p h)

-- two tables with the same mapped starts have the same blocks in spares
pub spare-same : (s : ℕ) (es fs : List Entry) (b : ℕ) → ((m : ℕ) → absent m (mapped_of es) ≡ absent m (mapped_of fs)) → of_spare s es b ≡ of_spare s fs b
unfolding of_spare
spare-same s es fs b h = ap not (h (s + packet_of b))

-- the blocks of a packet belong to a spare all or none
pub spare-packet : (s : ℕ) (es : List Entry) (b c : ℕ) → packet_of b ≡ packet_of c → of_spare s es b ≡ of_spare s es c
unfolding of_spare
spare-packet s es b c q = ap (λ (p : ℕ). not (absent (s + p) (mapped_of es))) q

-- so it begins at no mapped start
unmapped-apart : (g : Geometry) (es : List Entry) (b m : ℕ) → of_spare g.start es b ≡ false → In m (mapped_of es) → m ≢ g.start + packet_of b
unmapped-apart g es b m h i q = absent-not-in (g.start + packet_of b) (mapped_of es) (place-unmapped g.start es b h) (rw (← q) i)

module _ (g : Geometry) (es : List Entry) (fits : entries_fit g es ≡ true) (start32 : g.start % 32 ≡ 0) (span32 : g.span % 32 ≡ 0) where
  -- a mapped start is that of a whole packet
  mapped-start : (m : ℕ) → In m (mapped_of es) → Whole g m
  mapped-start m i = whole-means g m (mapped-whole g es m (fits-mapped g es fits) i)

  spot-whole : (p m : ℕ) → spot_of es p ≡ mapped_to m → Whole g m
  spot-whole p m e = mapped-start m (spot_in es p m e)

  -- a packet is read from a multiple of 32 on
  at-multiple : (p : ℕ) → p % 32 ≡ 0 → packet_at g es p % 32 ≡ 0
  at-multiple p h =
      by-spot es p
      (λ e. rw (at_own g es p e) (omega arith))
      (λ m e. rw (at-mapped g es p m e) (spot-whole p m e).multiple)

  -- its sectors are on the disc
  at_on : (p : ℕ) → p % 32 ≡ 0 → p < g.span → g.start + g.span ≤ g.sectors → packet_at g es p + 32 ≤ g.sectors
  at_on p h l r =
      by-spot es p
      (λ e. rw (at_own g es p e) (omega arith))
      (λ m e. rw (at-mapped g es p m e) (spot-whole p m e).on)

  -- two packets that belong to no spare are read from different sectors on
  at-apart : (b c : ℕ) → of_spare g.start es b ≡ false → of_spare g.start es c ≡ false → packet_of b ≢ packet_of c → packet_at g es (packet_of b) ≢ packet_at g es (packet_of c)
  at-apart b c ub uc n =
      let p : ℕ = packet_of b in
      let q : ℕ = packet_of c in
      by-spot es p
      (λ e. by-spot es q
      (λ f. rw (at_own g es p e, at_own g es q f) (omega arith))
      (λ m f. rw (at_own g es p e, at-mapped g es q m f) (λ z. unmapped-apart g es b m ub (spot_in es q m f) (sym z))))
      (λ m e. by-spot es q
      (λ f. rw (at-mapped g es p m e, at_own g es q f) (unmapped-apart g es c m uc (spot_in es p m e)))
      (λ k f. rw (at-mapped g es p m e, at-mapped g es q k f)
      (λ z. n (spots-apart g es p q m (fits-mapped g es fits) e (f ∙ ap mapped_to (sym z))))))

  -- a packet is not read from a table's packet
  at-not-table : (p t : ℕ) → p % 32 ≡ 0 → p < g.span → all_outside g g.tables ≡ true → In t g.tables → packet_at g es p ≢ t
  at-not-table p t h l o i =
      let ot = table-outside g g.tables t o i in
      by-spot es p
      (λ e. rw (at_own g es p e) (λ z. aside-apart g t p ot l (sym z)))
      (λ m e. rw (at-mapped g es p m e)
      (λ z. ⊎_elim (λ a. omega arith) (λ b. omega arith)
      (apart-means m g.tables t (mapped-apart g es m (fits-mapped g es fits) (spot_in es p m e)) i)))

  -- the packet of the free entry of lowest index is a whole one
  pub free-whole : no_entry (free_of es) ≡ false → Whole g (first_free (free_of es))
  free-whole k = mapped-start (first_free (free_of es)) (free_in_law es k)

  -- ---- where a block is

  -- its packet is read from a multiple of 32 on
  pub start-multiple : (b : ℕ) → start_at (spot_of es (packet_of b)) g.start (packet_of b) % 32 ≡ 0
  start-multiple b = at-multiple (packet_of b) (packet-multiple b)

  -- a block is on the disc
  pub locate-on : (b : ℕ) → b < g.span → g.start + g.span ≤ g.sectors → locate g.start es b < g.sectors
  unfolding locate
  locate-on b l r =
      omega (arith, at_on (packet_of b) (packet-multiple b) (packet-less b g.span l) r)

  -- two blocks that belong to no spare are in different sectors
  pub locate-apart : (b c : ℕ) → of_spare g.start es b ≡ false → of_spare g.start es c ≡ false → b ≢ c → locate g.start es b ≢ locate g.start es c
  unfolding locate
  locate-apart b c ub uc n =
      by-eq (packet_of b) (packet_of c)
      (λ q z. n
      (omega (arith, ap (λ (p : ℕ). packet_at g es p) q, packet-rest b, packet-rest c)))
      (λ k. steps_apart (packet_at g es (packet_of b)) (packet_at g es (packet_of c)) (b % 32) (c % 32)
      (start-multiple b) (start-multiple c) (omega arith) (omega arith)
      (at-apart b c ub uc k))

  -- the blocks of a packet are in one run of sectors
  pub locate-packet : (p i : ℕ) → p % 32 ≡ 0 → i < 32 → locate g.start es (p + i) ≡ locate g.start es p + i
  unfolding locate
  locate-packet p i m h =
      let a : packet_of (p + i) ≡ p = packet-start p i m h in
      let c : packet_of p ≡ p = packet-own p m in
      rw (a, c, packet-place p i m h, m) (omega arith)

  -- no block is in a table's packet
  pub locate-not-table : (b t j : ℕ) → b < g.span → all_outside g g.tables ≡ true → In t g.tables → j < 32 → locate g.start es b ≢ t + j
  unfolding locate
  locate-not-table b t j l o i h =
      steps_apart (packet_at g es (packet_of b)) t (b % 32) j (start-multiple b) (table-outside g g.tables t o i).multiple (omega arith) h
      (at-not-table (packet_of b) t (packet-multiple b) (packet-less b g.span l) o i)

  -- one that belongs to no spare is in no spare of a kind that is no packet's
  module _ (f : Entry → Bool) (off : (e : Entry) → f e ≡ true → (p : ℕ) → p % 32 ≡ 0 → e.original ≢ p) (k : ℕ) (maps : Maps f k es) where
    at-not-kind : (b : ℕ) → of_spare g.start es b ≡ false → packet_at g es (packet_of b) ≢ k
    at-not-kind b u =
        let p : ℕ = packet_of b in
        by-spot es p
        (λ e. rw (at_own g es p e) (λ z. unmapped-apart g es b k u (maps-in f k es maps) (sym z)))
        (λ m e. rw (at-mapped g es p m e) (spot-not-kind f g es p m k (fits-mapped g es fits) (λ x w. off x w p (packet-multiple b)) maps e))

    locate-not-kind : (b j : ℕ) → of_spare g.start es b ≡ false → j < 32 → locate g.start es b ≢ k + j
    unfolding locate
    locate-not-kind b j u h =
        steps_apart (packet_at g es (packet_of b)) k (b % 32) j (start-multiple b) (mapped-start k (maps-in f k es maps)).multiple (omega arith) h (at-not-kind b u)

  -- a free one
  pub locate-not-free : (b k j : ℕ) → of_spare g.start es b ≡ false → In k (mapped_of (free_of es)) → j < 32 → locate g.start es b ≢ k + j
  locate-not-free b k j u i h = locate-not-kind is_free (λ e w p m q. multiple-none p m (sym q ∙ free-means e w)) k (free-maps es k i) b j u h

  -- or a defective one
  pub locate-not-defective : (b k j : ℕ) → of_spare g.start es b ≡ false → In k (mapped_of (defective_of es)) → j < 32 → locate g.start es b ≢ k + j
  locate-not-defective b k j u i h =
      locate-not-kind is_defective (λ e w p m q. multiple-defective p m (sym q ∙ defective-means e w)) k (defective-maps es k i) b j u h

  -- the free one is no table's
  pub free-not-table : (t i j : ℕ) → all_outside g g.tables ≡ true → In t g.tables → no_entry (free_of es) ≡ false → i < 32 → j < 32 → first_free (free_of es) + j ≢ t + i
  free-not-table t i j o e k hi hj =
      steps_apart (first_free (free_of es)) t j i (free-whole k).multiple (table-outside g g.tables t o e).multiple hj hi
      (λ z. ⊎_elim (λ a. omega arith) (λ b. omega arith)
      (apart-means (first_free (free_of es)) g.tables t (mapped-apart g es (first_free (free_of es)) (fits-mapped g es fits) (free_in_law es k)) e))

  -- and on the disc
  pub free_on : no_entry (free_of es) ≡ false → first_free (free_of es) + 32 ≤ g.sectors
  free_on k = (free-whole k).on

-- ---- where a block is once a packet was spared

module _ (g : Geometry) (es : List Entry) (p : ℕ) (fits : entries_fit g es ≡ true) (multiple : p % 32 ≡ 0) (below : p < g.span) (small : g.span ≤ 1048576) (some : no_entry (free_of es) ≡ false) where
  -- a block of that packet is in the packet that was free
  pub locate-spared : (i : ℕ) → i < 32 → locate g.start (resorted es p) (p + i) ≡ first_free (free_of es) + i
  unfolding locate start_at
  locate-spared i h =
      rw (packet-start p i multiple h, packet-place p i multiple h, spot-same g es p fits multiple below small some)

  -- a block of any other is where it was
  pub locate-unspared : (b : ℕ) → b < g.span → packet_of b ≢ p → locate g.start (resorted es p) b ≡ locate g.start es b
  unfolding locate
  locate-unspared b l n =
      rw (spot-other g es p fits multiple below small some (packet_of b) n (packet-less b g.span l))
