-- NWA after writes to the sectors one after the other, of which the first is at NWA: it rises by the writes begun, less the one that became old
-- (02, slip 12). Assumes nothing.
use Prim.Native.Nat.{ℕ, zero, suc, ◌+◌, ◌-◌, ◌≤◌, ◌<◌}
use mathlib.Core.Bool.{false, cond}
use mathlib.Core.Path.{◌≡◌, refl, ap, ◌∙◌, subst}
use mathlib.Core.List.{List, [], ◌∷◌, ◌++◌}
use native.Mathlib.Omega.{arith}
use lib.Dec.{leb}
use lib.ListN.{length}
use borrow.Author.Tests.{leb-true}
use Rattle.model.specs.declared.Cut.{Cut}
use Rattle.model.specs.declared.Effect.{Effect}
use Rattle.model.specs.declared.Landing.{Landing}
use Rattle.model.specs.declared.Record.{Record}
use Rattle.model.specs.Disc.{Disc, nwa}
use Rattle.model.specs.Writes.{Write, on_effect, landing, landed, write, writes, upward, struck}
use Rattle.model.specs.VatWritten.{data_sectors, written_data}
use Rattle.model.specs.Examine.{Setting}
use Rattle.model.specs.Once.{entries_held, next_held, last_held, icb_block, commit_writes}
use Rattle.model.specs.Wait.{became_old}
use Rattle.model.proofs.Basics.{by_bool, by-eq, and-true}
use Rattle.model.proofs.Sectors.{landed-marks-length, landing-before, landing-at, landing-after, landing-uncut}
use Rattle.model.proofs.SectorsRuns.{length-upward}
use Rattle.model.proofs.Once.{next_after, next-landed}

-- ---- where the writes go

-- to the sectors one after the other, from p on
unfoldable pub Rising : ℕ → List Write → Type 0
Rising p [] = Unit {0}
Rising p (w ∷ ws) = (w.place ≡ p) × Rising (p + 1) ws

-- one write
pub rising-one : (p : ℕ) (b : List ℕ) → Rising p (record { place = p; bytes = b } ∷ [])
unfolding Rising
rising-one p b = (refl, tt)

rising-upward : (k p : ℕ) (b : List ℕ) (at : ℕ) → Rising p (upward k p b at)
unfolding Rising upward
rising-upward zero p b at = tt
rising-upward (suc k) p b at = (refl, rising-upward k (p + 1) b (at + 2048))

rising-append : (p q : ℕ) (ws vs : List Write) → Rising p ws → q ≡ p + length ws → Rising q vs → Rising p (ws ++ vs)
unfolding Rising
rising-append p q [] vs h e k = let w : q ≡ p = omega arith in subst (λ (x : ℕ). Rising x vs) w k
rising-append p q (w ∷ ws) vs h e k = (h.0, rising-append (p + 1) q ws vs h.1 (omega arith) k)

-- those of a commit, from NWA on
pub rising-commit : (e : Setting) (t : List ℕ) (held : Record) → Rising (e.start + next_held held) (commit_writes e t held)
unfolding commit_writes icb_block
rising-commit e t held =
    let k = data_sectors (entries_held held) in
    let p = e.start + next_held held in
    let b = written_data t (last_held held) in
    rising-append p _ (upward k p b 0) _ (rising-upward k p b 0) (omega (arith, length-upward k p b 0)) (rising-one _ _)

-- ---- how far NWA rises

-- no write after the cut changes the disc
untouched : (ws : List Write) (n : ℕ) (c : Cut) (d : Disc) → 0 < c.at → c.at < n → writes n c ws d ≡ d
unfolding writes write landed
untouched [] n c d z h = refl
untouched (w ∷ ws) n c d z h = rw (landing-after n c z h) (untouched ws (n + 1) c d z (omega arith))

-- the write at the cut
next-at : (x : Effect) (i : ℕ) → next_after i (on_effect x) + became_old x ≡ i + 1
unfolding next_after on_effect became_old
next-at Effect.Old i = omega arith
next-at Effect.Unreadable i = omega arith
next-at Effect.Whole i = omega arith

done_next : (i : ℕ) → next_after i Landing.Done ≡ i + 1
unfolding next_after
done_next i = refl

module _ (s l : ℕ) where
  -- what the first of the writes leaves, number n, to sector s + i
  record First (w : Write) (n : ℕ) (c : Cut) (i : ℕ) (d : Disc) : Type 0 where
    rose : nwa (write n c w.place w.bytes d) s l ≡ next_after i (landing n c)
    still : s + l ≤ length (write n c w.place w.bytes d).marks

  first : (w : Write) (n : ℕ) (c : Cut) (i : ℕ) (d : Disc) → w.place ≡ s + i → nwa d s l ≡ i → i < l → s + l ≤ length d.marks → First w n c i d
  unfolding write
  first w n c i d p q h on =
      record {
        rose = rw p (next-landed (landing n c) s l i w.bytes d q h (omega arith));
        still = rw (landed-marks-length (landing n c) w.place w.bytes d) on;
      }

  above : (i : ℕ) (ws : List Write) → Rising (s + i + 1) ws → Rising (s + (i + 1)) ws
  above i ws r = let w : s + i + 1 ≡ s + (i + 1) = omega arith in subst (λ (x : ℕ). Rising x ws) w r

  -- where the power fails at one of them, number n being the first
  rises-cut : (ws : List Write) (n : ℕ) (c : Cut) (i : ℕ) (d : Disc) → Rising (s + i) ws → nwa d s l ≡ i → i + length ws ≤ l → s + l ≤ length d.marks
      → 1 ≤ n → n ≤ c.at → c.at < n + length ws
      → nwa (writes n c ws d) s l + became_old c.effect ≡ i + (c.at + 1 - n)
  unfolding Rising writes
  rises-cut [] n c i d r q f on a b m = absurd (omega arith)
  rises-cut (w ∷ ws) n c i d r q f on a b m =
      let x = first w n c i d r.0 q (omega arith) on in
      by-eq c.at n
      (λ y.
      ap (λ (u : Disc). nwa u s l + became_old c.effect) (untouched ws (n + 1) c _ (omega arith) (omega arith))
      ∙ ap (λ (u : ℕ). u + became_old c.effect) (x.rose ∙ ap (next_after i) (landing-at n c y a))
      ∙ next-at c.effect i
      ∙ omega arith)
      (λ y.
      rises-cut ws (n + 1) c (i + 1) _ (above i ws r.1) (x.rose ∙ ap (next_after i) (landing-before n c (omega arith)) ∙ done_next i)
      (omega arith) x.still (omega arith) (omega arith) (omega arith)
      ∙ omega arith)

  -- where it fails at none of m
  rises-all : (ws : List Write) (n m : ℕ) (c : Cut) (i : ℕ) (d : Disc) → Rising (s + i) ws → nwa d s l ≡ i → i + length ws ≤ l → s + l ≤ length d.marks
      → struck c m ≡ false → 1 ≤ n → n + length ws ≤ m + 1
      → nwa (writes n c ws d) s l ≡ i + length ws
  unfolding Rising writes
  rises-all [] n m c i d r q f on u a b = q ∙ omega arith
  rises-all (w ∷ ws) n m c i d r q f on u a b =
      let x = first w n c i d r.0 q (omega arith) on in
      rises-all ws (n + 1) m c (i + 1) _ (above i ws r.1) (x.rose ∙ ap (next_after i) (landing-uncut n m c u a (omega arith)) ∙ done_next i)
      (omega arith) x.still u (omega arith) (omega arith)
      ∙ omega arith

  -- both: by the writes begun, less the one that became old
  pub rises : (ws : List Write) (c : Cut) (i : ℕ) (d : Disc) → Rising (s + i) ws → nwa d s l ≡ i → i + length ws ≤ l → s + l ≤ length d.marks
      → nwa (writes 1 c ws d) s l + cond (struck c (length ws)) (became_old c.effect) 0 ≡ i + cond (struck c (length ws)) c.at (length ws)
  unfolding struck
  rises ws c i d r q f on =
      by_bool (struck c (length ws))
      (λ u.
      let p = and-true (leb 1 c.at) (leb c.at (length ws)) u in
      rw u (rises-cut ws 1 c i d r q f on (omega arith) (leb-true _ _ p.0) (omega (arith, leb-true c.at (length ws) p.1)) ∙ omega arith))
      (λ u. rw u (ap (λ (x : ℕ). x + 0) (rises-all ws 1 (length ws) c i d r q f on u (omega arith) (omega arith)) ∙ omega arith))
