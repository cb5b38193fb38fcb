-- Laws of reading on a write-once disc, one for each way on or out. Assumes nothing.
use Prim.Native.Nat.{ℕ, zero, suc, ◌+◌, ◌*◌, ◌≤◌, ◌<◌}
use mathlib.Core.Bool.{Bool, true, cond, ◌&&◌}
use mathlib.Core.Path.{◌≡◌, refl, sym, ap, ◌∙◌}
use mathlib.Core.List.{List, [], ◌∷◌, ◌++◌}
use native.Mathlib.Omega.{arith}
use borrow.Author.Tests.{eqb-true, eqb-false, leb-true, ltb-true, ne_eqb, not-true}
use lib.Dec.{eqb, leb}
use lib.ListN.{length, get_or, take}
use lib.Seq.{length-take-le, get_or-take}
use Rattle.refusal.specs.declared.Refusal.{Refusal}
use Rattle.refusal.specs.declared.Refusal.TheVariants.{OtherKind, StaleRecord}
use Rattle.refusal.specs.Verdict.{Verdict}
use Rattle.std.specs.Prelude.{Ok, Err}
use Rattle.refusal.specs.Tests.{test, first}
use Rattle.refusal.proofs.Laws.{All, passed, stops-all, goes-all}
use Rattle.model.specs.declared.Record.{Record}
use Rattle.model.specs.Disc.{Disc, sector, mark, mark_tests, nwa}
use Rattle.model.specs.Vat.{none, below_or_none, all_below}
use Rattle.model.specs.Examine.{Setting, write_once, examined, lent_table}
use Rattle.model.specs.Once.{next_on, entries_held, held_fits, once_verdict, entry_tests}
use Rattle.model.specs.Rewrite.{place_of}
use Rattle.model.specs.Both.{read_once_tests, read_lent, block_sector, entry_sector, block_by}
use Rattle.model.proofs.Basics.{and-true, other}
use Rattle.model.proofs.Sectors.{shapely-made, shapely-most, inside-fits, nwa-most}
use Rattle.model.proofs.Verdicts.{Examined, examined-tells, then-go, once-stops, once-goes}
use Rattle.examine.proofs.Calls.{held_tells}
use Rattle.once_open.specs.Calls.{read_once_verdict, reading_once, read_once_bytes}

-- ---- what lines 1 to 7 and 11 tell of a call that goes on

pub record Held (e : Setting) (d : Disc) (t : List ℕ) (lent : Bool) (held : Record) : Type 0 where
  pub seen : Examined e d lent
  pub once : write_once e ≡ true
  pub fits : held_fits e d t held ≡ true

pub once-tells : (e : Setting) (d : Disc) (t : List ℕ) (lent : Bool) (held : Record) → once_verdict e d t lent held [] ≡ Ok tt → Held e d t lent held
unfolding once_verdict
once-tells e d t lent held h =
    let p = then-go (examined e d lent) _ h in
    let q = passed (test (write_once e) OtherKind ∷ test (held_fits e d t held) StaleRecord ∷ []) p.1 in
    record { seen = examined-tells e d lent p.0; once = q.0; fits = q.1.0 }

-- of entries that are all below k or unused, each is
below_at : (k : ℕ) (l : List ℕ) (v : ℕ) → all_below k l ≡ true → v < length l → below_or_none k (get_or l v 0) ≡ true
unfolding all_below
below_at k [] v h p = absurd (omega arith)
below_at k (x ∷ l) zero h p = (and-true (below_or_none k x) _ h).0
below_at k (x ∷ l) (suc v) h p = below_at k l v (and-true (below_or_none k x) _ h).1 (omega arith)

-- an entry that is used is a block of the partition
pub held-entry : (e : Setting) (d : Disc) (t : List ℕ) (held : Record) (v : ℕ) → held_fits e d t held ≡ true → v < entries_held held → 4096 ≤ length t → (get_or t v 0 ≡ none → ⊥) → get_or t v 0 < e.span
unfolding held_fits entries_held next_on below_or_none
held-entry e d t (Record.WriteOnce n next last) v h p q u =
    let a = and-true (eqb next (nwa d e.start e.span)) _ h in
    let f = and-true (leb n 4096) _ a.1 in
    let g = (and-true (all_below next (take n t)) _ f.1).0 in
    let few : n ≤ 4096 = leb-true n 4096 f.0 in
    let len : length (take n t) ≡ n = length-take-le n t (omega arith) in
    let b = below_at next (take n t) v g (omega arith) in
    let c : below_or_none next (get_or t v 0) ≡ true = ap (below_or_none next) (sym (get_or-take n t v 0 p)) ∙ b in
    let w = ltb-true (get_or t v 0) next (other (eqb (get_or t v 0) none) _ c (ne_eqb _ _ u)) in
    let top = eqb-true next (nwa d e.start e.span) a.0 in
    let most = nwa-most d e.start e.span in
    omega arith
held-entry e d t (Record.Rewritable n sequence) v h p q u = let z : v < 0 = p in absurd (omega arith)

-- ---- reading

module _ (e : Setting) (d : Disc) (t : List ℕ) (held : Record) (v : ℕ) (out : List ℕ) where
  -- its tests are the common ones and its own
  own-tests : read_once_verdict e d t held v out ≡ once_verdict e d t (read_lent t out) held (entry_tests t held v ++ mark_tests (mark d (block_sector e d t v)))
  unfolding read_once_verdict read_once_tests once_verdict
  own-tests = refl

  -- a refusal leaves the lent bytes as they came
  read-refused : {why : Refusal} → read_once_verdict e d t held v out ≡ Err why → (Err why ≡ reading_once e d t held v out) × (out ≡ read_once_bytes e d t held v out)
  unfolding reading_once read_once_bytes block_by
  read-refused h = (sym h, sym (ap (λ (w : Verdict). block_by w (sector d (entry_sector e t v)) out) h))

  -- k says whether the lent slices have their lengths, and w is the verdict of the common tests
  module _ {k : Bool} (q : k ≡ (lent_table t && eqb (length out) 2048)) {w : Verdict} (f : w ≡ once_verdict e d t k held []) where
    common : once_verdict e d t (read_lent t out) held [] ≡ w
    unfolding read_lent lent_table
    common = sym (f ∙ ap (λ (b : Bool). once_verdict e d t b held []) q)

    -- lines 1 to 7 and 11
    pub read-stopped : {why : Refusal} → w ≡ Err why → (Err why ≡ reading_once e d t held v out) × (out ≡ read_once_bytes e d t held v out)
    read-stopped h = read-refused (own-tests ∙ once-stops e d t (read_lent t out) held _ (common ∙ h))

    module _ (h : w ≡ Ok tt) where
      told : Held e d t (read_lent t out) held
      told = once-tells e d t (read_lent t out) held (common ∙ h)

      -- the lent table is long enough
      pub read-long : 4096 ≤ length t
      unfolding read_lent lent_table
      read-long = leb-true 4096 (length t) (and-true (leb 4096 (length t)) _ told.seen.lengths).0

      -- a block's bytes are lent
      pub read-room : length out ≡ 2048
      unfolding read_lent lent_table
      read-room = eqb-true (length out) 2048 (and-true (leb 4096 (length t)) _ told.seen.lengths).1

      -- the entries are in the table
      pub read-few : entries_held held ≤ length t
      read-few =
          let few = (held_tells e d t held told.fits).0 in
          let long = read-long in
          omega arith

      pub read_made : length d.bytes ≡ 2048 * length d.marks
      read_made = (shapely-made d told.seen.shape).sized

      pub read-most : length d.marks ≤ 1048576
      read-most = shapely-most d told.seen.shape

      -- u is the verdict of lines 12 and 13
      module _ {u : Verdict} (g : u ≡ first (entry_tests t held v)) where
        -- lines 12 and 13
        pub read-own : {why : Refusal} → u ≡ Err why → (Err why ≡ reading_once e d t held v out) × (out ≡ read_once_bytes e d t held v out)
        read-own x =
            read-refused (own-tests ∙ once-goes e d t (read_lent t out) held _ (common ∙ h) ∙ sym (stops-all (entry_tests t held v) _ (sym g ∙ x)))

        module _ (x : u ≡ Ok tt) where
          entries : All (entry_tests t held v)
          entries = passed (entry_tests t held v) (sym g ∙ x)

          -- there is an entry v
          pub read_number : v < entries_held held
          unfolding entry_tests
          read_number = ltb-true v (entries_held held) entries.0

          -- its block is on the disc
          pub read-place : e.start + get_or t v 0 < length d.marks
          unfolding entry_tests
          read-place =
              let used = eqb-false (get_or t v 0) none (not-true _ entries.1.0) in
              let low = held-entry e d t held v told.fits read_number read-long used in
              let span = (inside-fits d e.start e.span told.seen.within).1 in
              omega arith

          last-test : read_once_verdict e d t held v out ≡ first (mark_tests (mark d (block_sector e d t v)))
          last-test =
              own-tests
              ∙ once-goes e d t (read_lent t out) held _ (common ∙ h)
              ∙ sym (goes-all (entry_tests t held v) (mark_tests (mark d (block_sector e d t v))) _ (sym g ∙ x) refl)

          place : block_sector e d t v ≡ e.start + get_or t v 0
          unfolding block_sector entry_sector
          place = ap (λ (b : Bool). cond b (e.start + get_or t v 0) (place_of e d v)) told.once

          -- y is the verdict of lines 25 and 14
          module _ {y : Verdict} (m : y ≡ first (mark_tests (mark d (e.start + get_or t v 0)))) where
            marked : read_once_verdict e d t held v out ≡ y
            marked = last-test ∙ ap (λ (p : ℕ). first (mark_tests (mark d p))) place ∙ sym m

            -- lines 25 and 14
            pub read-unrecorded : {why : Refusal} → y ≡ Err why → (Err why ≡ reading_once e d t held v out) × (out ≡ read_once_bytes e d t held v out)
            read-unrecorded n = read-refused (marked ∙ n)

            -- none of the lines, and the block is given
            pub read-given : y ≡ Ok tt → {b : List ℕ} → b ≡ sector d (e.start + get_or t v 0) → ((Ok tt) ≡ reading_once e d t held v out) × (b ≡ read_once_bytes e d t held v out)
            unfolding reading_once read_once_bytes block_by entry_sector
            read-given n is =
                let all = marked ∙ n in
                (sym all, is ∙ sym (ap (λ (w : Verdict). block_by w (sector d (e.start + get_or t v 0)) out) all))
