-- The invariant of a write-once disc: what a cut leaves, and what holds between calls; and that a sector write keeps it. Assumes nothing.
use Prim.Native.Nat.{ℕ, zero, suc, ◌+◌, ◌-◌, ◌*◌, ◌≤◌, ◌<◌}
use mathlib.Core.Bool.{Bool, true, false, ◌&&◌}
use mathlib.Core.Logic.{◌≢◌}
use mathlib.Core.Path.{◌≡◌, refl, sym, ap, ◌∙◌}
use mathlib.Core.List.{List}
use native.Mathlib.Omega.{arith}
use lib.ListN.{length}
use Rattle.fields.specs.Bytes.{part}
use Rattle.model.specs.declared.Cut.{Cut}
use Rattle.model.specs.declared.Landing.{Landing}
use Rattle.model.specs.Disc.{Disc, mark, recorded, nwa, shapely, inside}
use Rattle.model.specs.Writes.{landing, landed, write, writes, upward}
use Rattle.model.specs.Vat.{tag_fits, passes, vat_icb, vat_file, count_of, entries_of}
use Rattle.model.specs.Store.{Slot, entry_slots}
use Rattle.model.proofs.Basics.{by-lt, by-eq, and-false-left}
use Rattle.fields.proofs.Laws.{length_part}
use Rattle.model.proofs.Agree.{Agree, agree_less, agree_trans, passes-agree, icb-agree, file-of-agree}
use Rattle.model.proofs.Scan.{Newest, entries_below, icb-recorded, not-recorded, slots-agree}
use Rattle.model.proofs.Sectors.{Made, shapely-made, inside-fits, landed-shapely, landed-inside, sector-other, mark-other, sector-done, mark-done, mark-unreadable, nwa-blank, nwa-is}

-- the partition's blocks from i on are blank
pub record BlankFrom (s l : ℕ) (d : Disc) (i : ℕ) : Type 0 where
  pub blank : (k : ℕ) → i ≤ k → k < l → mark d (s + k) ≡ 0

-- what a VAT needs to be found again on the disc, whatever the power did: its ICB at a is the topmost, and its blocks are bs
pub record Kept (s l : ℕ) (d : Disc) (a : ℕ) (bs : List Slot) : Type 0 where
  pub shape : shapely d ≡ true
  pub within : inside d s l ≡ true
  pub newest : Newest d s l a
  pub few : count_of (vat_file d s a) ≤ 4096
  pub same : entry_slots d s (entries_of (vat_file d s a)) ≡ bs

-- a block of the partition is a sector of the disc
pub on-disc : (s l : ℕ) (d : Disc) (i : ℕ) → inside d s l ≡ true → i < l → s + i < length d.marks
on-disc s l d i w h = omega (arith, (inside-fits d s l w).1)

-- a write at block i leaves what is below it
pub agree-landed : (lg : Landing) (s i : ℕ) (b : List ℕ) (d : Disc) → length b ≡ 2048 → s + i < length d.marks → Made d → Agree s i (landed lg (s + i) b d) d
agree-landed lg s i b d e h m =
    record {
      sectors = λ j l. sector-other lg (s + i) b d (s + j) e h m (omega arith);
      marks = λ j l. mark-other lg (s + i) b d (s + j) (omega arith);
    }

-- a VAT ICB stands below what is blank
pub below-blank : {s l : ℕ} {d : Disc} {a : ℕ} (i : ℕ) → vat_icb d s a ≡ true → a < l → BlankFrom s l d i → a < i
below-blank {s} {l} {d} {a} i g h z = by-lt a i (λ q. q) (λ q. omega (arith, z.blank a q h, icb-recorded d s a g))

-- the blocks from NWA on are blank
pub blank-next : (s l i : ℕ) (d : Disc) → nwa d s l ≡ i → BlankFrom s l d i
blank-next s l i d n = record { blank = λ k h q. nwa-blank d s l k (omega arith) q }

-- the rest stays blank
pub blank-landed : (lg : Landing) (s l i : ℕ) (b : List ℕ) (d : Disc) → BlankFrom s l d i → BlankFrom s l (landed lg (s + i) b d) (i + 1)
blank-landed lg s l i b d z = record { blank = λ k h q. mark-other lg (s + i) b d (s + k) (omega arith) ∙ z.blank k (omega arith) q }

-- NWA is one past a write to the first blank block that leaves a mark,
pub next-marked : (lg : Landing) (s l i : ℕ) (b : List ℕ) (d : Disc) → BlankFrom s l d i → i < l → mark (landed lg (s + i) b d) (s + i) ≢ 0 → nwa (landed lg (s + i) b d) s l ≡ i + 1
next-marked lg s l i b d z h marked =
    nwa-is _ s l (i + 1) (omega arith) (blank-landed lg s l i b d z).blank
    (λ _ q. let w : s + (i + 1 - 1) ≡ s + i = omega arith in marked (ap (mark _) (sym w) ∙ q))

-- as one that is done does
pub next-done : (s l i : ℕ) (b : List ℕ) (d : Disc) → BlankFrom s l d i → i < l → s + i < length d.marks → nwa (landed Landing.Done (s + i) b d) s l ≡ i + 1
next-done s l i b d z h on = next-marked Landing.Done s l i b d z h (λ q. omega (arith, mark-done (s + i) b d on))

-- NWA after a write at NWA i, however it landed
unfoldable pub next_after : ℕ → Landing → ℕ
next_after i Landing.Done = i + 1
next_after i Landing.Old = i
next_after i Landing.Unreadable = i + 1
next_after i Landing.Untouched = i

pub next-landed : (lg : Landing) (s l i : ℕ) (b : List ℕ) (d : Disc) → nwa d s l ≡ i → i < l → s + i < length d.marks → nwa (landed lg (s + i) b d) s l ≡ next_after i lg
unfolding next_after landed
next-landed Landing.Done s l i b d n h on = next-done s l i b d (blank-next s l i d n) h on
next-landed Landing.Old s l i b d n h on = n
next-landed Landing.Unreadable s l i b d n h on = next-marked Landing.Unreadable s l i b d (blank-next s l i d n) h (λ q. omega (arith, mark-unreadable (s + i) b d on))
next-landed Landing.Untouched s l i b d n h on = n

-- the sector just written is no ICB: it was not recorded, or its bytes do not pass
pub here-none : (lg : Landing) (s i : ℕ) (b : List ℕ) (d : Disc) → length b ≡ 2048 → s + i < length d.marks → Made d
    → mark d (s + i) ≡ 0 → (lg ≡ Landing.Done → passes d s i b ≡ false) → vat_icb (landed lg (s + i) b d) s i ≡ false
unfolding vat_icb landed
here-none Landing.Done s i b d e h m z p =
    rw (sector-done (s + i) b d e h m, passes-agree (agree-landed Landing.Done s i b d e h m) b, p refl)
    (go (recorded (landed Landing.Done (s + i) b d) (s + i)))
  where
    go : (r : Bool) → r && false ≡ false
    go true = refl
    go false = refl
here-none Landing.Old s i b d e h m z p = not-recorded d s i 0 z (omega arith)
here-none Landing.Unreadable s i b d e h m z p = not-recorded (landed Landing.Unreadable (s + i) b d) s i 2 (mark-unreadable (s + i) b d h) (omega arith)
here-none Landing.Untouched s i b d e h m z p = not-recorded d s i 0 z (omega arith)

-- a write to the first blank block that makes no new ICB keeps the VAT
pub kept-write : (lg : Landing) (s l i : ℕ) (b : List ℕ) (d : Disc) {a : ℕ} {bs : List Slot} → Kept s l d a bs → i < l → BlankFrom s l d i
    → length b ≡ 2048 → (lg ≡ Landing.Done → passes d s i b ≡ false) → Kept s l (landed lg (s + i) b d) a bs
kept-write lg s l i b d {a} {bs} κ r z e p =
    let m : Made d = shapely-made d κ.shape in
    let h : s + i < length d.marks = on-disc s l d i κ.within r in
    let d' : Disc = landed lg (s + i) b d in
    let a<i : a < i = below-blank i κ.newest.here κ.newest.below z in
    let g : Agree s i d' d = agree-landed lg s i b d e h m in
    let here' : vat_icb d' s a ≡ true = icb-agree s a d' d (agree_less (suc a) (omega arith) g) ∙ κ.newest.here in
    let file' : vat_file d' s a ≡ vat_file d s a = file-of-agree s a d' d (agree_less (suc a) (omega arith) g) here' in
    record {
      shape = landed-shapely lg (s + i) b d e h κ.shape;
      within = sym (landed-inside lg (s + i) b d s l) ∙ κ.within;
      newest = record {
        here = here';
        below = κ.newest.below;
        above = λ j u v.
            by-lt j i
            (λ q. icb-agree s j d' d (agree_less (suc j) (omega arith) g) ∙ κ.newest.above j u v)
            (λ q.
            by-eq j i
            (λ w. rw w (here-none lg s i b d e h m (z.blank i (omega arith) r) p))
            (λ w. not-recorded d' s j 0 (mark-other lg (s + i) b d (s + j) (omega arith) ∙ z.blank j q v) (omega arith)));
      };
      few = rw file' κ.few;
      same =
          ap (λ (f : List ℕ). entry_slots d' s (entries_of f)) file'
          ∙ slots-agree (entries_of (vat_file d s a)) (agree_less a (omega arith) g) (entries_below d s a κ.newest.here)
          ∙ κ.same;
    }

-- what a run of writes upward from the first blank block leaves, however it is cut
pub record WrittenUp (s l i k : ℕ) (d' d : Disc) : Type 0 where
  pub shape : shapely d' ≡ true
  pub within : inside d' s l ≡ true
  pub blank : BlankFrom s l d' (i + k)
  pub agree : Agree s i d' d

pub ran-upward : (k n : ℕ) (c : Cut) (s l i : ℕ) (b : List ℕ) (at : ℕ) (d : Disc) → shapely d ≡ true → inside d s l ≡ true → i + k ≤ l → BlankFrom s l d i
    → at + 2048 * k ≤ length b → WrittenUp s l i k (writes n c (upward k (s + i) b at) d) d
unfolding upward writes write
ran-upward zero n c s l i b at d shape within r z e =
    let q : i + 0 ≡ i = omega arith in
    record { shape = shape; within = within; blank = rw q z; agree = record { sectors = λ j h. refl; marks = λ j h. refl } }
ran-upward (suc k) n c s l i b at d shape within r z e =
    let x : List ℕ = part b at 2048 in
    let lx : length x ≡ 2048 = length_part b at 2048 (omega arith) in
    let on : s + i < length d.marks = on-disc s l d i within (omega arith) in
    let d₁ : Disc = landed (landing n c) (s + i) x d in
    let up : s + i + 1 ≡ s + (i + 1) = omega arith in
    let more : i + 1 + k ≡ i + suc k = omega arith in
    let rec : WrittenUp s l (i + 1) k (writes (n + 1) c (upward k (s + (i + 1)) b (at + 2048)) d₁) d₁ =
    ran-upward k (n + 1) c s l (i + 1) b (at + 2048) d₁
    (landed-shapely (landing n c) (s + i) x d lx on shape) (sym (landed-inside (landing n c) (s + i) x d s l) ∙ within)
    (omega arith) (blank-landed (landing n c) s l i x d z) (omega arith) in
    rw up
    (record {
      shape = rec.shape;
      within = rec.within;
      blank = rw (← more) rec.blank;
      agree = agree_trans (agree_less i (omega arith) rec.agree) (agree-landed (landing n c) s i x d lx on (shapely-made d shape));
    })

-- a run none of whose sectors has the tag of an ICB keeps the VAT
pub kept_run : (k n : ℕ) (c : Cut) (s l i : ℕ) (b : List ℕ) (at : ℕ) (d : Disc) {a : ℕ} {bs : List Slot} → Kept s l d a bs → i + k ≤ l → BlankFrom s l d i
    → at + 2048 * k ≤ length b → ((j : ℕ) → j < k → (q : ℕ) → tag_fits q (part b (at + 2048 * j) 2048) ≡ false)
    → Kept s l (writes n c (upward k (s + i) b at) d) a bs
unfolding upward writes write passes
kept_run zero n c s l i b at d κ r z e p = κ
kept_run (suc k) n c s l i b at d κ r z e p =
    let x : List ℕ = part b at 2048 in
    let none_here : passes d s i x ≡ false =
    let q : at + 2048 * 0 ≡ at = omega arith in and-false-left _ (rw q at (p 0 (omega arith) i)) in
    let up : s + i + 1 ≡ s + (i + 1) = omega arith in
    rw up
    (kept_run k (n + 1) c s l (i + 1) b (at + 2048) (landed (landing n c) (s + i) x d)
    (kept-write (landing n c) s l i x d κ (omega arith) z (length_part b at 2048 (omega arith)) (λ _. none_here))
    (omega arith) (blank-landed (landing n c) s l i x d z) (omega arith)
    (λ j h q. let w : at + 2048 + 2048 * j ≡ at + 2048 * suc j = omega arith in rw w (p (suc j) (omega arith) q)))
