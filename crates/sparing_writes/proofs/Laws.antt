-- Laws of the writes of a packet with one block replaced, and of the same bytes to several sectors. Assumes nothing.
use Rattle.std.proofs.Common.{◌≡◌, ℕ, suc, ◌+◌, ◌*◌, ◌≤◌, ◌<◌, Bool, cond, eqb, ◌≢◌, List, length, get_or, drop, refl, sym, ap, ◌∙◌, add-zero, add-one, arith, drop-cons, drop_of_length-le, eq-eqb, ne_eqb}
use Rattle.fields.specs.Bytes.{part, splice}
use Rattle.fields.proofs.Laws.{part-splice-width, part-splice-before, part-splice-after}
use Rattle.model.specs.declared.Cut.{Cut}
use Rattle.model.specs.Disc.{Disc, sector, joined}
use Rattle.model.specs.Writes.{landing, write, writes}
use Rattle.model.specs.Rewrite.{packet_writes, replaced, copies_to}
use Rattle.model.proofs.Basics.{by-eq, by-lt}
use Rattle.model.proofs.Sectors.{Made, length-sector, sector-other}
use Rattle.model.proofs.SectorsRuns.{length-joined, joined-part}
use Rattle.disc_writes.proofs.Laws.{Writing, writing-first, writing-next, writing-last}

-- ---- a packet with one block replaced

-- sector q's bytes in the write of a packet whose block at sector p is replaced by b
abbrev pub picked : Disc → ℕ → ℕ → List ℕ → List ℕ
picked d q p b = cond (eqb q p) b (sector d q)

-- the sector to be replaced,
pub picked-new : (n : ℕ) (c : Cut) (q p : ℕ) (b : List ℕ) (d d' : Disc) → q ≡ p → d' ≡ write n c q b d → d' ≡ write n c q (picked d q p b) d
picked-new n c q p b d d' e w = w ∙ sym (ap (λ (t : Bool). write n c q (cond t b (sector d q)) d) (eq-eqb q p e))

-- and another
pub picked-kept : (n : ℕ) (c : Cut) (q p : ℕ) (b : List ℕ) (d d' : Disc) → q ≢ p → d' ≡ write n c q (sector d q) d → d' ≡ write n c q (picked d q p b) d
picked-kept n c q p b d d' e w = w ∙ sym (ap (λ (t : Bool). write n c q (cond t b (sector d q)) d) (ne_eqb q p e))

-- after k of the 32 writes: the run stands so, and the sectors that are still to be written are as they came
pub record Rewriting (cut : Cut) (p i : ℕ) (b : List ℕ) (d₀ d : Disc) (k n : ℕ) : Type 0 where
  pub run : Writing 1 cut 32 p (replaced d₀ p i b) d₀ d k n
  pub ahead : (j : ℕ) → k ≤ j → j < 32 → sector d (p + j) ≡ sector d₀ (p + j)

-- nothing is written yet
pub rewriting-first : (cut : Cut) (p i : ℕ) (b : List ℕ) (d : Disc) → Rewriting cut p i b d d 0 1
rewriting-first cut p i b d = record { run = writing-first _ _ _ _ _ _; ahead = λ j h l. refl }

module _ (p i : ℕ) (b : List ℕ) (d₀ : Disc) (m : Made d₀) (on : p + 32 ≤ length d₀.marks) (hi : i < 32) (lb : length b ≡ 2048) where
  -- what the packet with one block replaced has in each of its sectors
  replaced-part : (k : ℕ) → k < 32 → part (replaced d₀ p i b) (2048 * k) 2048 ≡ picked d₀ (p + k) (p + i) b
  unfolding replaced
  replaced-part k l =
      by-eq k i new λ ne.
      kept ne
      ∙ joined-part d₀ p 32 k l
      ∙ sym (ap (λ (t : Bool). cond t b (sector d₀ (p + k))) (ne_eqb (p + k) (p + i) (λ e. ne (omega arith))))
    where
      long : length (joined d₀ p 32) ≡ 65536
      long = length-joined d₀ p 32 m on

      new : k ≡ i → part (splice (joined d₀ p 32) (2048 * i) b) (2048 * k) 2048 ≡ picked d₀ (p + k) (p + i) b
      new e =
          ap (λ (x : ℕ). part (splice (joined d₀ p 32) (2048 * i) b) (2048 * x) 2048) e
          ∙ part-splice-width (joined d₀ p 32) (2048 * i) 2048 b lb (omega (arith, long))
          ∙ sym (ap (λ (t : Bool). cond t b (sector d₀ (p + k))) (eq-eqb (p + k) (p + i) (ap (λ (x : ℕ). p + x) e)))

      kept : k ≢ i → part (splice (joined d₀ p 32) (2048 * i) b) (2048 * k) 2048 ≡ part (joined d₀ p 32) (2048 * k) 2048
      kept ne =
          by-lt k i
          (λ lt. part-splice-before (joined d₀ p 32) (2048 * i) b (2048 * k) 2048 (omega (arith, long)) (omega arith))
          (λ le. part-splice-after (joined d₀ p 32) (2048 * i) b (2048 * k) 2048 (omega (arith, long)) (omega arith))

  -- one write more
  pub rewriting-next : (cut : Cut) (d d' : Disc) (k n : ℕ) → k < 32 → d' ≡ write n cut (p + k) (picked d (p + k) (p + i) b) d → length d'.bytes ≡ length d.bytes → length d'.marks ≡ length d.marks → Rewriting cut p i b d₀ d k n → Rewriting cut p i b d₀ d' (k + 1) (n + 1)
  unfolding write
  rewriting-next cut d d' k n l w bytes marks r =
      record {
        run = writing-next 1 cut 32 p (replaced d₀ p i b) d₀ d d' k n x l (same ∙ sym (replaced-part k l)) w bytes marks r.run;
        ahead = λ j h q.
            ap (λ (y : Disc). sector y (p + j)) w
            ∙ sector-other (landing n cut) (p + k) x d (p + j) wide at made (λ e. omega arith)
            ∙ r.ahead j (omega arith) q;
      }
    where
      x : List ℕ
      x = picked d (p + k) (p + i) b

      same : x ≡ picked d₀ (p + k) (p + i) b
      same = ap (cond (eqb (p + k) (p + i)) b) (r.ahead k (omega arith) l)

      made : Made d
      made = record { sized = omega (arith, r.run.bytes-length, r.run.marks-length, m.sized) }

      at : p + k < length d.marks
      at = omega (arith, r.run.marks-length)

      wide : length x ≡ 2048
      wide =
          by-eq (p + k) (p + i)
          (λ e. ap (λ (t : Bool). length (cond t b (sector d (p + k)))) (eq-eqb _ _ e) ∙ lb)
          (λ e. ap (λ (t : Bool). length (cond t b (sector d (p + k)))) (ne_eqb _ _ e) ∙ length-sector d (p + k) at made)

-- all are written
pub rewriting-last : (cut : Cut) (p i : ℕ) (b : List ℕ) (d₀ d : Disc) (k n : ℕ) → 32 ≤ k → Rewriting cut p i b d₀ d k n → d ≡ writes 1 cut (packet_writes p (replaced d₀ p i b)) d₀
unfolding packet_writes
rewriting-last cut p i b d₀ d k n h r = writing-last _ _ _ _ _ _ _ _ _ h r.run

-- the same at the sectors that a translation gave
pub picked-there : (n : ℕ) (cut : Cut) (b : List ℕ) (d d' : Disc) {q p r s : ℕ} → q ≡ p → r ≡ s → d' ≡ write n cut q (picked d q r b) d → d' ≡ write n cut p (picked d p s b) d
picked-there n cut b d d' {q} {p} {r} {s} e f w =
    w ∙ ap (λ (x : ℕ). write n cut x (picked d x r b) d) e ∙ ap (λ (x : ℕ). write n cut p (picked d p x b) d) f

-- ---- the same bytes to several sectors

-- after i of the writes of b to the sectors ts: what is left to write, on the disc d as it is now, gives what all give on d₀, the disc as it
-- came
pub record Copying (number : ℕ) (cut : Cut) (ts b : List ℕ) (d₀ d : Disc) (i : ℕ) : Type 0 where
  pub bytes-length : length d.bytes ≡ length d₀.bytes
  pub marks-length : length d.marks ≡ length d₀.marks
  pub left : writes (number + i) cut (copies_to (drop i ts) b) d ≡ writes number cut (copies_to ts b) d₀

-- nothing is written yet
pub copying-first : (number : ℕ) (cut : Cut) (ts b : List ℕ) (d : Disc) → Copying number cut ts b d d 0
copying-first number cut ts b d = record { bytes-length = refl; marks-length = refl; left = rw add-zero }

module _ (number : ℕ) (cut : Cut) (t : List ℕ) (b : List ℕ) (d₀ d : Disc) (i : ℕ) where
  -- one write more
  pub copying-next : (d' : Disc) → i < length t → d' ≡ write (number + i) cut (get_or t i 0) b d → length d'.bytes ≡ length d.bytes → length d'.marks ≡ length d.marks → Copying number cut t b d₀ d i → Copying number cut t b d₀ d' (i + 1)
  unfolding copies_to writes
  copying-next d' l w bytes marks c =
      let e : number + (i + 1) ≡ number + i + 1 = omega arith in
      record {
        bytes-length = bytes ∙ c.bytes-length;
        marks-length = marks ∙ c.marks-length;
        left =
            rw (e, add-one i)
            (ap (writes (number + i + 1) cut (copies_to (drop (suc i) t) b)) w
            ∙ sym (ap (λ (ts : List ℕ). writes (number + i) cut (copies_to ts b) d) (drop-cons t i 0 l))
            ∙ c.left);
      }

  -- all are written
  pub copying-last : length t ≤ i → Copying number cut t b d₀ d i → d ≡ writes number cut (copies_to t b) d₀
  unfolding copies_to writes
  copying-last l c = sym (ap (λ (ts : List ℕ). writes (number + i) cut (copies_to ts b) d) (drop_of_length-le t {i = i} l)) ∙ c.left
