-- Laws of what a call examines first, one for each way on or out, and of the common verdict of the calls on a write-once disc, for the
-- calls above. Assumes nothing.
use Rattle.std.proofs.Common.{◌≡◌, ℕ, zero, suc, ◌+◌, ◌%◌, ◌<◌, ◌≤◌, Bool, true, false, cond, ◌&&◌, eqb, leb, List, [], ◌∷◌, ◌++◌, length, get_or, take, sym, refl, ap, ◌∙◌, arith, le-ltb, lt-ltb, eq-eqb, ne_eqb, le-leb}
use mathlib.Core.Bool.{and-true}
use Rattle.std.proofs.Math.Bool.{and_assoc}
use Rattle.std.proofs.lemmas.List.{take_more}
use borrow.Author.Tests.{lt-leb}
use Rattle.refusal.specs.declared.Refusal.{Refusal}
use Rattle.refusal.specs.declared.Refusal.TheVariants.{DiscShape, SpanOutside, LentLength, Misaligned, OtherKind, StaleRecord}
use Rattle.refusal.specs.Verdict.{Verdict, verdict_of, answered}
use Rattle.std.specs.Prelude.{Ok, Err, Result, IsErr}
use Rattle.std.proofs.lemmas.Result.{IfOk-from_err}
use Rattle.refusal.proofs.Laws.{answered-same, given}
use Rattle.refusal.specs.Tests.{test, first, need}
use Rattle.maps.specs.declared.Kind.{Kind}
use Rattle.maps.specs.declared.Kind.TheVariants.{WriteOnce, Rewritable}
use Rattle.maps.specs.declared.Volume.{Volume}
use Rattle.maps.specs.Kinds.{read_maps, tables_in, tables_of, volume_read}
use Rattle.maps.specs.Written.{kind_in_range}
use Rattle.fields.proofs.Tests.{fails, holds}
use Rattle.maps.proofs.Tables.{few-tables}
use Rattle.maps.proofs.Laws.{read-fine}
use Rattle.model.specs.declared.Record.{Record}
use Rattle.model.specs.Disc.{Disc, nwa, shapely, inside}
use Rattle.model.specs.Vat.{none, below_or_none, all_below}
use Rattle.model.specs.Sparing.{Geometry, ground_of, whole_packet, outside}
use Rattle.model.specs.Examine.{Setting, volume, is_once, size_in, write_once, geometry, all_outside, aligned, shape_tests, place_tests, examined}
use Rattle.model.specs.Once.{next_on, held_fits, once_verdict}
use Rattle.model.proofs.Basics.{by-eq, and-false, and-false-left, or_left}
use Rattle.model.proofs.Verdicts.{Examined as Told, examined-tells}
use Rattle.examine.specs.Ground.{placed_of, spanned, examined_of, JudgedOnce}

-- ---- entries below NWA

-- entries, and one more
below-append : (k : ℕ) (l : List ℕ) (e : ℕ) → all_below k (l ++ e ∷ []) ≡ all_below k l && below_or_none k e
unfolding all_below
below-append k [] e = and-true _
below-append k (x ∷ l) e = ap (λ (b : Bool). below_or_none k x && b) (below-append k l e) ∙ sym (and_assoc (below_or_none k x) _ _)

-- the entries up to i, and the one at i
pub below-next : (k i : ℕ) (l : List ℕ) → i < length l → all_below k (take (i + 1) l) ≡ all_below k (take i l) && below_or_none k (get_or l i 0)
below-next k i l h = ap (all_below k) (take_more l i 0 h) ∙ below-append k (take i l) (get_or l i 0)

-- none are
pub below-none : (k : ℕ) → true ≡ all_below k []
unfolding all_below
below-none k = refl

-- one more is found above NWA, and one is not
module _ (k i : ℕ) (l : List ℕ) (over : ℕ) (h : i < length l) (inv : eqb over 0 ≡ all_below k (take i l)) where
  -- one that is used and not below
  pub below-stop : {over' : ℕ} → over' ≡ over + 1 → (get_or l i 0 ≡ 0xffffffff → ⊥) → k ≤ get_or l i 0 → eqb over' 0 ≡ all_below k (take (i + 1) l)
  unfolding below_or_none none
  below-stop {over'} o u q =
      let a = ne_eqb (get_or l i 0) 0xffffffff u in
      let b = le-ltb (get_or l i 0) k q in
      let x : below_or_none k (get_or l i 0) ≡ false = rw (a, b) in
      ne_eqb over' 0 (omega arith) ∙ sym (below-next k i l h ∙ and-false (all_below k (take i l)) x)

  -- one that is unused or below
  pub below-past : ((get_or l i 0 ≡ 0xffffffff → ⊥) → get_or l i 0 < k) → eqb over 0 ≡ all_below k (take (i + 1) l)
  unfolding below_or_none none
  below-past q =
      let x : below_or_none k (get_or l i 0) ≡ true =
      by-eq (get_or l i 0) 0xffffffff
      (λ e. or_left _ (eq-eqb (get_or l i 0) 0xffffffff e))
      (λ u. let a = ne_eqb (get_or l i 0) 0xffffffff u in let b = lt-ltb (get_or l i 0) k (q u) in rw (a, b)) in
      inv ∙ sym (below-next k i l h ∙ ap (λ (b : Bool). all_below k (take i l) && b) x ∙ and-true _)

-- ---- line 6 on a rewritable disc

-- tables, and one more
outside-append : (g : Geometry) (l : List ℕ) (m : ℕ) → all_outside g (l ++ m ∷ []) ≡ all_outside g l && outside g m
unfolding all_outside
outside-append g [] m = and-true _
outside-append g (x ∷ l) m = ap (λ (b : Bool). outside g x && b) (outside-append g l m) ∙ sym (and_assoc (outside g x) _ _)

-- none are
pub outside-none : (g : Geometry) → all_outside g [] ≡ true
unfolding all_outside
outside-none g = refl

-- those before i are outside the partition, and so is the one at i
pub outside-next : (g : Geometry) (i : ℕ) (l : List ℕ) → i < length l → all_outside g (take i l) ≡ true → outside g (get_or l i 0) ≡ true → all_outside g (take (i + 1) l) ≡ true
outside-next g i l h all one = ap (all_outside g) (take_more l i 0 h) ∙ outside-append g (take i l) (get_or l i 0) ∙ rw (all, one)

-- one is not
pub outside-stop : (g : Geometry) (i : ℕ) (l : List ℕ) → i < length l → outside g (get_or l i 0) ≡ false → false ≡ all_outside g l
unfolding all_outside
outside-stop g i [] h q = absurd (omega arith)
outside-stop g zero (x ∷ l) h q = sym (and-false-left _ q)
outside-stop g (suc i) (x ∷ l) h q = sym (and-false (outside g x) (sym (outside-stop g i l (omega arith) q)))

module _ (g : Geometry) where
  -- S is no multiple of 32
  pub aligned-start : (g.start % 32 ≡ 0 → ⊥) → false ≡ aligned g
  unfolding aligned
  aligned-start h = fails _ (ne_eqb (g.start % 32) 0 h)

  -- it is, and L is not
  pub aligned-span : g.start % 32 ≡ 0 → (g.span % 32 ≡ 0 → ⊥) → false ≡ aligned g
  unfolding aligned
  aligned-span h k = holds (eq-eqb (g.start % 32) 0 h) (fails _ (ne_eqb (g.span % 32) 0 k))

  -- both are
  pub aligned-tables : g.start % 32 ≡ 0 → g.span % 32 ≡ 0 → all_outside g g.tables ≡ aligned g
  unfolding aligned
  aligned-tables h k = holds (eq-eqb (g.start % 32) 0 h) (holds (eq-eqb (g.span % 32) 0 k) refl)

-- what is outside does not turn on the tables and the bytes of each
pub outside-alike : (s l n : ℕ) (ts : List ℕ) (size : ℕ) (us : List ℕ) → all_outside (ground_of s l n [] 0) us ≡ all_outside (ground_of s l n ts size) us
unfolding all_outside outside whole_packet
outside-alike s l n ts size [] = refl
outside-alike s l n ts size (u ∷ us) = ap (λ (b : Bool). outside (ground_of s l n [] 0) u && b) (outside-alike s l n ts size us)

-- nor does line 6 on the bytes of each
pub aligned-alike : (s l n : ℕ) (ts : List ℕ) (size : ℕ) → aligned (ground_of s l n ts 0) ≡ aligned (ground_of s l n ts size)
unfolding aligned
aligned-alike s l n ts size =
    ap (λ (b : Bool). eqb (s % 32) 0 && (eqb (l % 32) 0 && b)) (sym (outside-alike s l n ts 0 ts) ∙ outside-alike s l n ts size ts)

-- ---- line 11 on a write-once disc

module _ (e : Setting) (d : Disc) (t : List ℕ) {held : Record} where
  module _ {n next last : ℕ} (is : held ≡ Record.WriteOnce n next last) where
    -- N exceeds 4,096
    pub held-many : 4096 < n → false ≡ held_fits e d t held
    unfolding held_fits
    held-many h = sym (ap (held_fits e d t) is ∙ and-false (eqb next (next_on e d)) (and-false-left _ (lt-leb n 4096 h)))

    -- the last ICB is not below NWA
    pub held-last : next ≤ last → false ≡ held_fits e d t held
    unfolding held_fits
    held-last h = sym (ap (held_fits e d t) is ∙ and-false (eqb next (next_on e d)) (and-false (leb n 4096) (and-false (all_below next (take n t)) (le-ltb last next h))))

    -- NWA is another
    pub held_next : eqb next (nwa d e.start e.span) ≡ false → false ≡ held_fits e d t held
    unfolding held_fits next_on
    held_next h = sym (ap (held_fits e d t) is ∙ and-false-left _ h)

    -- none of that, and the entries decide
    pub held-entries : n ≤ 4096 → last < next → eqb next (nwa d e.start e.span) ≡ true → all_below next (take n t) ≡ held_fits e d t held
    unfolding held_fits next_on
    held-entries h k q =
        holds q (holds (le-leb n 4096 h) (sym (ap (λ (b : Bool). all_below next (take n t) && b) (lt-ltb last next k) ∙ and-true _)))
        ∙ sym (ap (held_fits e d t) is)

  -- a record of the other kind
  pub held-other : {n sequence : ℕ} → held ≡ Record.Rewritable n sequence → false ≡ held_fits e d t held
  unfolding held_fits
  held-other is = sym (ap (held_fits e d t) is)

-- ---- line 6 of either kind

module _ (s l n : ℕ) (t : List ℕ) {k : Kind} where
  -- a write-once volume lies anywhere
  pub placed-once : {p : ℕ} → k ≡ WriteOnce p → true ≡ placed_of s l n k t
  unfolding is_once
  placed-once is = rw is

  -- a rewritable one on packets
  pub placed-tables : {p m size : ℕ} → k ≡ Rewritable p m size → aligned (ground_of s l n (take m t) 0) ≡ placed_of s l n k t
  unfolding is_once tables_in size_in
  placed-tables {p} {m} {size} is = aligned-alike s l n (take m t) size ∙ rw is

-- a kind in range has at most four tables
pub few-in : {k : Kind} {p n size : ℕ} → kind_in_range k ≡ true → k ≡ Rewritable p n size → n ≤ 4
unfolding kind_in_range
few-in {n = n} {size = size} h is = few-tables n size (sym (ap kind_in_range is) ∙ h)

-- the kind of a list that is read is in range
pub read-in : (s : List ℕ) {r : Result Volume Refusal} → r ≡ read_maps s → {v : Volume} → r ≡ Ok v → kind_in_range v.kind ≡ true
unfolding volume_read
read-in s q h =
    let m = sym q ∙ h in
    sym (ap (λ (x : Result Volume Refusal). kind_in_range (volume_read x).kind) m) ∙ (read-fine s (ap verdict_of m)).kinds

-- ---- lines 1 to 6

module _ (e : Setting) (d : Disc) (lent : Bool) where
  -- a verdict that stops the call, as it is answered
  answer-stop : {why : Refusal} → examined e d lent ≡ Err why → Err why ≡ examined_of e d lent
  unfolding examined_of
  answer-stop h = sym (answered-same (spanned (volume e) e.start e.span) h)

  -- line 1
  pub examine-shape : shapely d ≡ false → Err DiscShape ≡ examined_of e d lent
  unfolding examined shape_tests need
  examine-shape h = answer-stop (rw h)

  module _ (a : shapely d ≡ true) where
    -- line 2
    pub examine-span : inside d e.start e.span ≡ false → Err SpanOutside ≡ examined_of e d lent
    unfolding examined shape_tests need
    examine-span h = answer-stop (rw (a, h))

    module _ (b : inside d e.start e.span ≡ true) where
      -- line 3
      pub examine-lent : lent ≡ false → Err LentLength ≡ examined_of e d lent
      unfolding examined shape_tests need
      examine-lent h = answer-stop (rw (a, b, h))

      module _ (c : lent ≡ true) {r : Result Volume Refusal} (q : r ≡ read_maps e.maps) where
        -- lines 4 and 5, and of 6 what the map list shows
        pub examine-maps : {why : Refusal} → r ≡ Err why → Err why ≡ examined_of e d lent
        unfolding examined shape_tests need
        examine-maps h = let m = sym q ∙ h in answer-stop (rw (a, b, c, m))

        module _ {v : Volume} (h : r ≡ Ok v) {x : Bool} (g : x ≡ placed_of e.start e.span (length d.marks) v.kind v.tables) where
          -- the volume that was read
          read : volume e ≡ v
          unfolding volume volume_read
          read = ap volume_read (sym q ∙ h)

          -- line 6 from it
          place : cond (write_once e) true (aligned (geometry e d)) ≡ x
          unfolding write_once geometry tables_of
          place = ap (λ (w : Volume). placed_of e.start e.span (length d.marks) w.kind w.tables) read ∙ sym g

          -- which decides, where the lines before it let the call go on
          place-decides : examined e d lent ≡ first (test x Misaligned ∷ [])
          unfolding examined shape_tests place_tests need
          place-decides = let m = sym q ∙ h in rw (a, b, c, m, place)

          -- the rest of line 6
          pub examine-misaligned : x ≡ false → Err Misaligned ≡ examined_of e d lent
          unfolding need
          examine-misaligned f = answer-stop (place-decides ∙ rw f)

          -- none of the lines
          pub examine-placed : x ≡ true → Ok (spanned v e.start e.span) ≡ examined_of e d lent
          unfolding examined_of need
          examine-placed f =
              ap (λ (w : Volume). Ok (spanned w e.start e.span)) (sym read)
              ∙ sym (answered-same {y = Ok tt} (spanned (volume e) e.start e.span) (place-decides ∙ rw f))

-- ---- what an answer of the examination tells

-- an answer's verdict is the verdict
pub answered-verdict : {A : Type 0} (v : Verdict) (w : A) → verdict_of (answered v w) ≡ v
answered-verdict (Ok _) w = refl
answered-verdict (Err why) w = refl

module _ (e : Setting) (d : Disc) (lent : Bool) {r : Result Volume Refusal} (q : r ≡ examined_of e d lent) where
  -- the verdict is that of lines 1 to 6
  pub seen-verdict : examined e d lent ≡ verdict_of r
  unfolding examined_of
  seen-verdict = sym (ap verdict_of q ∙ answered-verdict (examined e d lent) _)

  -- where they stop the call
  pub seen-stops : {why : Refusal} → r ≡ Err why → examined e d lent ≡ Err why
  seen-stops h = seen-verdict ∙ ap verdict_of h

  module _ {v : Volume} (h : r ≡ Ok v) where
    -- where they let it go on
    pub seen-goes : examined e d lent ≡ Ok tt
    seen-goes = seen-verdict ∙ ap verdict_of h

    -- what they tell then
    pub seen-tells : Told e d lent
    seen-tells = examined-tells e d lent seen-goes

    -- the volume is the map list's, with its span
    handed : spanned (volume e) e.start e.span ≡ v
    unfolding examined_of
    handed = (given (examined e d lent) (sym q ∙ h)).1

    pub seen-volume : v ≡ spanned (volume e) e.start e.span
    seen-volume = sym handed

    -- its kind is the map list's
    seen-kind : (volume e).kind ≡ v.kind
    seen-kind = ap (λ (w : Volume). w.kind) handed

    -- a write-once volume
    pub seen-once : {p : ℕ} → v.kind ≡ WriteOnce p → write_once e ≡ true
    unfolding write_once is_once
    seen-once is = ap is_once (seen-kind ∙ is)

    module _ {p n size : ℕ} (is : v.kind ≡ Rewritable p n size) where
      -- a rewritable one
      pub seen-rewritable : write_once e ≡ false
      unfolding write_once is_once
      seen-rewritable = ap is_once (seen-kind ∙ is)

      -- which has at most four tables
      pub seen_few : n ≤ 4
      unfolding volume
      seen_few = few-in (read-fine e.maps seen-tells.maps).kinds (seen-kind ∙ is)

      -- and what it lies in
      pub seen-geometry : geometry e d ≡ ground_of e.start e.span (length d.marks) (take n v.tables) size
      unfolding geometry tables_of tables_in size_in
      seen-geometry =
          ap (λ (k : Kind). ground_of e.start e.span (length d.marks) (tables_in k (volume e).tables) (size_in k)) (seen-kind ∙ is)
          ∙ ap (λ (w : Volume). ground_of e.start e.span (length d.marks) (take n w.tables) size) handed

-- ---- lines 1 to 7 and 11 of the calls on a write-once disc

module _ (e : Setting) (d : Disc) (t : List ℕ) (lent : Bool) (held : Record) where
  module _ {r : Result Volume Refusal} (q : r ≡ examined_of e d lent) where
    -- lines 1 to 6
    pub once-examined : {why : Refusal} → r ≡ Err why → Err why ≡ once_verdict e d t lent held []
    unfolding once_verdict
    once-examined h = let v = seen-stops e d lent q h in rw v

    module _ {v : Volume} (h : r ≡ Ok v) where
      -- line 7
      pub once-other : {p n size : ℕ} → v.kind ≡ Rewritable p n size → Err OtherKind ≡ once_verdict e d t lent held []
      unfolding once_verdict need
      once-other is =
          let go = seen-goes e d lent q h in
          let w = seen-rewritable e d lent q h is in
          rw (go, w)

      module _ {p : ℕ} (is : v.kind ≡ WriteOnce p) {x : Bool} (f : x ≡ held_fits e d t held) where
        -- line 11
        pub once-stale : x ≡ false → Err StaleRecord ≡ once_verdict e d t lent held []
        unfolding once_verdict need
        once-stale n =
            let go = seen-goes e d lent q h in
            let w = seen-once e d lent q h is in
            let k = sym f ∙ n in
            rw (go, w, k)

        -- none of the lines, and then the span of the volume is the one given
        pub once-judged : x ≡ true → JudgedOnce e d t lent held (Ok v)
        unfolding once_verdict need
        once-judged y =
            let go = seen-goes e d lent q h in
            let w = seen-once e d lent q h is in
            let k = sym f ∙ y in
            let same = seen-volume e d lent q h in
            record {
              verdict = rw (go, w, k);
              start = ap (λ (u : Volume). u.span.start) same;
              length = ap (λ (u : Volume). u.span.length) same;
            }

  -- a call that is turned down has no span
  pub once-stopped : {x : Result Volume Refusal} {why : Refusal} → x ≡ Err why → Err why ≡ once_verdict e d t lent held [] → JudgedOnce e d t lent held x
  once-stopped {x} q says =
      let stop : IsErr x = rw q in
      record {
        verdict = ap verdict_of q ∙ says;
        start = IfOk-from_err x _ stop;
        length = IfOk-from_err x _ stop;
      }
