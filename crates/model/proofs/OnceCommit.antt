-- What a commit on a write-once disc leaves, from any disc, table and record; and it keeps the invariant, wherever it is cut: its VAT is found again
-- exactly if its ICB is whole. Assumes nothing.
use Prim.Native.Nat.{ℕ, ◌+◌, ◌-◌, ◌*◌, ◌≤◌, ◌<◌}
use mathlib.Core.Bool.{true, false, cond, not}
use mathlib.Core.Logic.{◌≢◌}
use mathlib.Core.Path.{◌≡◌, refl, sym, ap, ◌∙◌, subst}
use mathlib.Core.List.{List, [], ◌∷◌, ◌++◌}
use native.Mathlib.Omega.{arith}
use lib.Dec.{leb, eqb}
use lib.ListN.{length, take, length-append}
use lib.Seq.{length-take-le}
use borrow.Author.Tests.{leb-true, lt-ltb, not-true}
use Rattle.std.specs.Prelude.{Ok}
use Rattle.fields.proofs.Laws.{part-all}
use Rattle.model.specs.declared.Cut.{Cut}
use Rattle.model.specs.declared.Landing.{Landing}
use Rattle.model.specs.declared.Record.{Record}
use Rattle.model.specs.Disc.{Disc, recorded_run, joined, nwa, shapely, inside}
use Rattle.model.specs.Writes.{Write, landing, landed, writes, upward, struck}
use Rattle.model.specs.Vat.{all_below, below_or_none, passes, vat_icb, vat_file, entries_of, previous_of, file_of}
use Rattle.model.specs.VatWritten.{data_sectors, written_file, written_data, written_icb}
use Rattle.model.specs.Examine.{Setting, lent_table}
use Rattle.model.specs.Once.{next_on, entries_held, next_held, last_held, once_verdict, room_to_commit, commit_tests, icb_block, commit_writes, committed_record, commit_plan}
use Rattle.model.specs.Calls.{commit, State, step}
use Rattle.model.specs.Store.{Slot, entry_slots, Store, store, Shape, cut_in, writes_in, was_cut, whole_at, taken}
use Rattle.model.specs.Consequences.{lays_icb}
use Rattle.model.proofs.Basics.{cond-elim, by_bool, and-true, both, differ, or_cases, or_left, or_right}
use Rattle.model.proofs.Agree.{Agree, agree_less, agree_trans}
use Rattle.model.proofs.Scan.{below-mono, not-recorded, slots-agree}
use Rattle.model.proofs.Sectors.{Made, shapely-made, shapely-most, inside-fits, landed-shapely, landed-inside, sector-done, recorded-done, writes-append, writes_one, landing-uncut, landing-done-before}
use Rattle.model.proofs.SectorsRuns.{joined-agree, recorded_run-agree, length-upward, upward-joined, upward-recorded_run}
use Rattle.model.proofs.WrittenVat.{length-data, data-enough, length-icb, file-count, file-entries, file-previous, icb-file, icb-passes, data-never}
use Rattle.model.proofs.Once.{Kept, BlankFrom, WrittenUp, on-disc, agree-landed, blank-landed, next-done, kept-write, ran-upward, kept_run}
use Rattle.model.proofs.OnceFits.{once_held, held-blank, Fits, goes-fits, blocks_of}
use Rattle.model.proofs.OnceRead.{Live, live-length, live-fits}
use Rattle.model.proofs.Cuts.{whole-lands, broken-lands, choice-same}
use Rattle.model.proofs.OnceSave.{OnceOk, once-tells}
use Rattle.model.proofs.Steps.{Told, told-plan, Sound, sound-plan, sound-carried}

-- what a commit of the entries t on the disc d, from block i₀ on, leaves where its ICB, at block k, is whole: its VAT is the topmost, nothing below i₀
-- has changed, NWA is one past the ICB, and this names the one before it
pub record Whole (s l i₀ k last : ℕ) (t : List ℕ) (d d' : Disc) : Type 0 where
  pub kept : Kept s l d' k (entry_slots d s t)
  pub agree : Agree s i₀ d' d
  pub top : nwa d' s l ≡ k + 1
  pub names : previous_of (vat_file d' s k) ≡ last

-- a commit of the entries t, from block i₀ on, naming the ICB at `last`
module _ (s l : ℕ) (d : Disc) (c : Cut) (t : List ℕ) (i₀ last : ℕ) (shape : shapely d ≡ true) (within : inside d s l ≡ true) (z : BlankFrom s l d i₀)
    (few : length t ≤ 4096) (fresh : all_below i₀ t ≡ true) (before : last < i₀) (room : i₀ + data_sectors (length t) + 1 ≤ l) where
  -- the number of data sectors, the block of the ICB, the data and the ICB
  abbrev D : ℕ
  D = data_sectors (length t)

  abbrev k : ℕ
  k = i₀ + D

  abbrev body : List ℕ
  body = written_data t last

  abbrev icb : List ℕ
  icb = written_icb k t last

  -- the disc once the data are written, and then the ICB
  abbrev d₁ : Disc
  d₁ = writes 1 c (upward D (s + i₀) body 0) d

  abbrev d₂ : Disc
  d₂ = landed (landing (1 + D) c) (s + k) icb d₁

  small : k < 1048576
  small = omega (arith, (inside-fits d s l within).1, shapely-most d shape)

  below-k : all_below k t ≡ true
  below-k = below-mono i₀ k t (omega arith) fresh

  before-k : below_or_none k last ≡ true
  unfolding below_or_none
  before-k = or_right (eqb last _) (lt-ltb last k (omega arith))

  enough : 2048 * D ≤ length body
  enough = data-enough t last

  ran : WrittenUp s l i₀ D d₁ d
  ran = ran-upward D 1 c s l i₀ body 0 d shape within (omega arith) z (omega (arith, enough))

  on-k : s + k < length d₁.marks
  on-k = on-disc s l d₁ k ran.within (omega arith)

  made₁ : Made d₁
  made₁ = shapely-made d₁ ran.shape

  long-icb : length icb ≡ 2048
  long-icb = length-icb t last k

  -- where the ICB is not whole the VAT before it is kept
  torn-kept : {a : ℕ} {old : List Slot} → Kept s l d a old → landing (1 + D) c ≢ Landing.Done → Kept s l d₂ a old
  torn-kept κ broken =
      kept-write (landing (1 + D) c) s l k icb d₁
      (kept_run D 1 c s l i₀ body 0 d κ (omega arith) z (omega (arith, enough)) (λ j h q. let w : 0 + 2048 * j ≡ 2048 * j = omega arith in rw w (data-never t last k below-k before-k small j q)))
      (omega arith) ran.blank long-icb (λ q. absurd (broken q))

  -- where it is whole the new VAT is found
  module _ (whole : landing (1 + D) c ≡ Landing.Done) where
    abbrev d₃ : Disc
    d₃ = landed Landing.Done (s + k) icb d₁

    all_done_law : (i : ℕ) → i < D → landing (1 + i) c ≡ Landing.Done
    all_done_law i h = landing-done-before (1 + D) (1 + i) c whole (omega arith) (omega arith)

    agree₁ : Agree s k d₃ d₁
    agree₁ = agree-landed Landing.Done s k icb d₁ long-icb on-k made₁

    agree₀ : Agree s i₀ d₃ d
    agree₀ = agree_trans (agree_less i₀ (omega arith) agree₁) ran.agree

    back : s + (k - D) ≡ s + i₀
    back = omega arith

    fits : s + i₀ + D ≤ length d.marks
    fits = omega (arith, (inside-fits d s l within).1)

    held : 1 ≤ D → joined d₃ (s + (k - D)) D ≡ body
    held h =
        ap (λ (p : ℕ). joined d₃ p D) back
        ∙ joined-agree d₃ d₁ (s + i₀) D
        (λ i q. let w : s + i₀ + i ≡ s + (i₀ + i) = omega arith in rw w (agree₁.sectors (i₀ + i) (omega arith)))
        ∙ upward-joined D 1 c (s + i₀) body 0 d (shapely-made d shape) fits (omega (arith, enough)) all_done_law
        ∙ part-all body (2048 * D) (omega (arith, length-data t last h))

    run : recorded_run d₃ (s + (k - D)) D ≡ true
    run =
        ap (λ (p : ℕ). recorded_run d₃ p D) back
        ∙ recorded_run-agree d₃ d₁ (s + i₀) D
        (λ i q. let w : s + i₀ + i ≡ s + (i₀ + i) = omega arith in rw w (agree₁.marks (i₀ + i) (omega arith)))
        ∙ upward-recorded_run D 1 c (s + i₀) body 0 d fits all_done_law

    here : vat_icb d₃ s k ≡ true
    unfolding vat_icb
    here =
        both (recorded-done (s + k) icb d₁ on-k)
        (ap (passes d₃ s k) (sector-done (s + k) icb d₁ long-icb on-k made₁)
        ∙ icb-passes t last k few below-k before-k small d₃ s (omega arith) run held)

    -- the file of the new ICB is the one that was written, and so it names the ICB before it
    file : vat_file d₃ s k ≡ written_file t last
    unfolding vat_file
    file =
        ap (file_of d₃ s) (sector-done (s + k) icb d₁ long-icb on-k made₁)
        ∙ icb-file t last k few small d₃ s held

    blank₃ : BlankFrom s l d₃ (k + 1)
    blank₃ = blank-landed Landing.Done s l k icb d₁ ran.blank

    kept₃ : Kept s l d₃ k (entry_slots d s t)
    kept₃ =
        record {
          shape = landed-shapely Landing.Done (s + k) icb d₁ long-icb on-k ran.shape;
          within = sym (landed-inside Landing.Done (s + k) icb d₁ s l) ∙ ran.within;
          newest = record {
            here = here;
            below = omega arith;
            above = λ j u v. not-recorded d₃ s j 0 (blank₃.blank j (omega arith) v) (omega arith);
          };
          few = rw (file, file-count t last) few;
          same =
              ap (λ (f : List ℕ). entry_slots d₃ s (entries_of f)) file
              ∙ ap (entry_slots d₃ s) (file-entries t last k below-k small)
              ∙ slots-agree t agree₀ fresh;
        }

    whole₃ : Whole s l i₀ k last t d d₃
    whole₃ =
        record {
          kept = kept₃;
          agree = agree₀;
          top = next-done s l k icb d₁ ran.blank (omega arith) on-k;
          names = ap previous_of file ∙ file-previous t last k before-k small;
        }

    pub whole-left : Whole s l i₀ k last t d d₂
    whole-left = subst (λ (x : Landing). Whole s l i₀ k last t d (landed x (s + k) icb d₁)) (sym whole) whole₃

-- ---- the writes of a commit, by what they do

-- an ICB of the same numbers
same-icb : (j k : ℕ) (t u : List ℕ) (a b : ℕ) → j ≡ k → t ≡ u → a ≡ b → written_icb j t a ≡ written_icb k u b
same-icb j k t u a b p q r = λ i. written_icb (p i) (q i) (r i)

-- the same write, landed alike
same-landed : (lg : Landing) (p q : ℕ) (a b : List ℕ) (d d' : Disc) → p ≡ q → a ≡ b → d ≡ d' → landed lg p a d ≡ landed lg q b d'
same-landed lg p q a b d d' u v w = λ i. landed lg (u i) (v i) (w i)

-- the same run of writes
same-run : (c : Cut) (j k p q : ℕ) (a b : List ℕ) (at : ℕ) (d : Disc) → j ≡ k → p ≡ q → a ≡ b → writes 1 c (upward j p a at) d ≡ writes 1 c (upward k q b at) d
same-run c j k p q a b at d u v w = λ i. writes 1 c (upward (u i) (v i) (w i) at) d

-- the last of m + 1 writes
last-write : (c : Cut) (ws : List Write) (w : Write) (d : Disc) (m : ℕ) → length (ws ++ (w ∷ [])) ≡ m + 1
    → writes 1 c (ws ++ (w ∷ [])) d ≡ landed (landing (1 + m) c) w.place w.bytes (writes 1 c ws d)
last-write c ws w d m q =
    let n : length ws ≡ m = omega (arith, length-append ws (w ∷ [])) in
    writes-append 1 c ws (w ∷ []) d
    ∙ ap (λ (x : ℕ). writes (1 + x) c (w ∷ []) (writes 1 c ws d)) n
    ∙ writes_one (1 + m) c w.place w.bytes (writes 1 c ws d)

-- a run of none before others
no_run : (k p : ℕ) (b : List ℕ) (at : ℕ) (ws : List Write) → k ≡ 0 → upward k p b at ++ ws ≡ ws
unfolding upward
no_run k p b at ws q = ap (λ (x : ℕ). upward x p b at ++ ws) q

-- one write alone
same-one : (p q : ℕ) (a b : List ℕ) → p ≡ q → a ≡ b → ◌≡◌ {A = List Write} (record { place = p; bytes = a } ∷ []) (record { place = q; bytes = b } ∷ [])
same-one p q a b u v = λ i. record { place = u i; bytes = v i } ∷ []

module _ (e : Setting) (t : List ℕ) (held : Record) (count : entries_held held ≡ length t) where
  -- they are one for each data sector, and the ICB's
  pub commit-number : length (commit_writes e t held) ≡ data_sectors (length t) + 1
  unfolding commit_writes
  commit-number = simp (length-append, length-upward) (omega (arith, ap data_sectors count))

  -- the data upward from NWA, then the ICB above them
  pub commit-disc : (c : Cut) (d : Disc)
      → writes 1 c (commit_writes e t held) d
      ≡ landed (landing (1 + data_sectors (length t)) c)
      (e.start + (next_held held + data_sectors (length t)))
      (written_icb (next_held held + data_sectors (length t)) t (last_held held))
      (writes 1 c (upward (data_sectors (length t)) (e.start + next_held held) (written_data t (last_held held)) 0) d)
  unfolding commit_writes icb_block
  commit-disc c d =
      let m = commit-number in
      let s : data_sectors (entries_held held) ≡ data_sectors (length t) = ap data_sectors count in
      last-write c _ _ d (data_sectors (length t)) m
      ∙ same-landed _ _ _ _ _ _ _ (omega arith) (same-icb _ _ _ _ _ _ (omega arith) (cc) (omega arith))
      (same-run c _ _ _ _ _ _ 0 d (omega arith) (omega arith) (cc))

  -- with no data it is the ICB alone
  pub commit-one : data_sectors (length t) ≡ 0
      → commit_writes e t held ≡ record { place = e.start + next_held held; bytes = written_icb (next_held held) t (last_held held) } ∷ []
  unfolding commit_writes icb_block
  commit-one none =
      let m = commit-number in
      let s : data_sectors (entries_held held) ≡ 0 = ap data_sectors count ∙ none in
      no_run _ _ _ _ _ (omega arith) ∙ same-one _ _ _ _ (omega arith) (same-icb _ _ _ _ _ _ (omega arith) (cc) (omega arith))

-- ---- a commit, from any disc, table and record

module _ (e : Setting) (st : State) (c : Cut)
    (goes : once_verdict e st.disc st.table (lent_table st.table) st.held (commit_tests e st.held) ≡ Ok tt) where
  abbrev t' : List ℕ
  t' = take (entries_held st.held) st.table

  abbrev D' : ℕ
  D' = data_sectors (length t')

  abbrev ws : List Write
  ws = commit_writes e t' st.held

  commit-from : Fits e st
  commit-from = goes-fits e st _ _ (λ q. q) goes

  blank : BlankFrom e.start e.span st.disc (next_held st.held)
  blank = held-blank e st.disc st.held commit-from.top

  count : length t' ≡ entries_held st.held
  count = length-take-le (entries_held st.held) st.table (omega (arith, commit-from.few, commit-from.lent))

  space : next_held st.held + D' + 1 ≤ e.span
  unfolding commit_tests room_to_commit
  space =
      let p = once-tells e st.disc st.table _ st.held (commit_tests e st.held) goes in
      let r : next_held st.held + data_sectors (entries_held st.held) + 1 ≤ e.span = leb-true _ _ p.1.0 in
      omega (arith, ap data_sectors count)

  few' : length t' ≤ 4096
  few' = omega (arith, count, commit-from.few)

  is-disc : writes 1 c ws st.disc ≡ d₂ e.start e.span st.disc c t' (next_held st.held) (last_held st.held) commit-from.shape commit-from.within blank few' commit-from.fresh commit-from.last space
  is-disc = commit-disc e t' st.held (sym count) c st.disc

  number : length ws ≡ D' + 1
  number = commit-number e t' st.held (sym count)

  pub commit-fits : next_held st.held + length ws ≤ e.span
  commit-fits = omega (arith, number, space)

  -- what it leaves where its ICB is whole
  laid-whole : landing (1 + D') c ≡ Landing.Done
      → Whole e.start e.span (next_held st.held) (next_held st.held + D') (last_held st.held) t' st.disc (writes 1 c ws st.disc)
  laid-whole q =
      rw is-disc
      (whole-left e.start e.span st.disc c t' (next_held st.held) (last_held st.held) commit-from.shape commit-from.within blank few' commit-from.fresh commit-from.last space q)

  -- uncut, the invariant holds after it, whatever was before
  pub committed-live : struck c (length ws) ≡ false
      → Live e (record { disc = writes 1 c ws st.disc; table = st.table; held = committed_record st.held }) (store (blocks_of e st) (blocks_of e st))
  unfolding once_held entries_held next_held last_held icb_block next_on
  committed-live q =
      let w = laid-whole (landing-uncut (1 + D') (length ws) c q (omega arith) (omega (arith, number))) in
      let k' : next_held st.held + D' ≡ icb_block st.held = omega (arith, ap data_sectors count) in
      record {
        once = refl;
        kept = subst (λ (x : ℕ). Kept e.start e.span (writes 1 c ws st.disc) x (blocks_of e st)) k' w.kept;
        top = ap (λ (x : ℕ). x + 1) (sym k') ∙ sym w.top;
        fresh = below-mono (next_held st.held) _ t' (omega arith) commit-from.fresh;
        few = commit-from.few;
        lent = commit-from.lent;
        now = slots-agree t' w.agree commit-from.fresh;
      }

  -- and so do lines 1 to 7 and 11
  pub committed-fits : struck c (length ws) ≡ false → Fits e (record { disc = writes 1 c ws st.disc; table = st.table; held = committed_record st.held })
  committed-fits q = live-fits e commit-from.kind commit-from.maps _ _ (committed-live q)

-- ---- a commit, between calls

module _ (e : Setting) (h : Shape) (st : State) (σ : Store) (i : Live e st σ) (c : Cut)
    (goes : once_verdict e st.disc st.table (lent_table st.table) st.held (commit_tests e st.held) ≡ Ok tt) where
  abbrev D'' : ℕ
  D'' = D' e st c goes

  told : writes_in h σ (commit c) ≡ D'' + 1
  unfolding writes_in
  told = ap (λ (n : ℕ). data_sectors n + 1) (live-length e st σ i ∙ sym (count e st c goes))

  -- the plain store counts the writes of a commit
  pub commit-count : writes_in h σ (commit c) ≡ length (ws e st c goes)
  commit-count = told ∙ sym (number e st c goes)

  abbrev d'' : Disc
  d'' = writes 1 c (ws e st c goes) st.disc

  whole-blocks : landing (1 + D'') c ≡ Landing.Done → Kept e.start e.span d'' (next_held st.held + D'') σ.blocks
  whole-blocks q = rw (← i.now) (laid-whole e st c goes q).kept

  torn-commit : landing (1 + D'') c ≢ Landing.Done → Kept e.start e.span d'' (last_held st.held) σ.copy
  torn-commit q =
      let f = commit-from e st c goes in
      rw (is-disc e st c goes)
      (torn-kept e.start e.span st.disc c (t' e st c goes) (next_held st.held) (last_held st.held) f.shape f.within (blank e st c goes) (few' e st c goes) f.fresh f.last (space e st c goes) i.kept q)

  -- a commit whose ICB is whole
  pub laid : lays_icb h σ (commit c) ≡ true → landing (1 + D'') c ≡ Landing.Done
  unfolding lays_icb was_cut cut_in
  laid q =
      let m : 1 + D'' ≡ writes_in h σ (commit c) = omega (arith, told) in
      rw m
      (or_cases (not (struck c (writes_in h σ (commit c)))) _ q
      (λ w. landing-uncut _ _ c (not-true _ w) (omega (arith, told)) (omega arith))
      (λ w. whole-lands _ c (omega (arith, told)) w))

  -- its VAT is the topmost, and names the one before it
  pub laid_kept : lays_icb h σ (commit c) ≡ true → Kept e.start e.span d'' (next_held st.held + D'') σ.blocks
  laid_kept q = whole-blocks (laid q)

  pub laid-previous : lays_icb h σ (commit c) ≡ true → previous_of (vat_file d'' e.start (next_held st.held + D'')) ≡ last_held st.held
  laid-previous q = (laid-whole e st c goes (laid q)).names

  -- and NWA is one past it
  pub laid_next : lays_icb h σ (commit c) ≡ true → next_on e d'' ≡ next_held st.held + D'' + 1
  unfolding next_on
  laid_next q = (laid-whole e st c goes (laid q)).top

  -- one whose ICB is not whole
  not-laid : lays_icb h σ (commit c) ≡ false → landing (1 + D'') c ≢ Landing.Done
  unfolding lays_icb was_cut cut_in struck
  not-laid q =
      let m : 1 + D'' ≡ writes_in h σ (commit c) = omega (arith, told) in
      rw m
      (by_bool (was_cut h σ (commit c))
      (λ w.
      by_bool (whole_at (writes_in h σ (commit c)) c)
      (λ x. differ (or_right (not (was_cut h σ (commit c))) x) q)
      (λ x. broken-lands _ c (omega (arith, told)) (leb-true _ _ (and-true (leb 1 c.at) _ w).0) x))
      (λ w. let x : not (was_cut h σ (commit c)) ≡ true = rw w in differ (or_left (whole_at (writes_in h σ (commit c)) c) x) q))

  -- leaves the VAT before it the topmost
  pub left-kept : lays_icb h σ (commit c) ≡ false → Kept e.start e.span (d'') (last_held st.held) σ.copy
  left-kept q = torn-commit (not-laid q)

  -- the last write of a cut commit, its ICB, decides
  commit-choice : taken h σ (commit c) true ≡ cond (whole_at (1 + D'') c) (store σ.blocks σ.blocks) σ
  unfolding taken writes_in
  commit-choice =
      let m : writes_in h σ (commit c) ≡ D'' + 1 = told in
      choice-same _ _ c _ _ (omega arith)

  -- it has copied exactly if its ICB is whole
  copied : (P : Store → Type 0) → 1 ≤ c.at → (landing (1 + D'') c ≡ Landing.Done → P (store σ.blocks σ.blocks)) → (landing (1 + D'') c ≢ Landing.Done → P σ)
      → P (taken h σ (commit c) true)
  copied P cut f g =
      rw commit-choice
      (cond-elim P (whole_at (1 + D'') c) (λ w. f (whole-lands (1 + D'') c (omega arith) w)) (λ w. g (broken-lands (1 + D'') c (omega arith) cut w)))

  cut-commit : struck c (length (ws e st c goes)) ≡ true
      → OnceOk e true (record { disc = d''; table = st.table; held = st.held }) (taken h σ (commit c) true)
  unfolding OnceOk struck
  cut-commit q =
      let p = and-true (leb 1 c.at) _ q in
      copied (OnceOk e true (record { disc = d''; table = st.table; held = st.held })) (leb-true _ _ p.0)
      (λ w. (next_held st.held + D'', whole-blocks w, i.lent))
      (λ w. (last_held st.held, torn-commit w, i.lent))

  done-commit : struck c (length (ws e st c goes)) ≡ false
      → Live e (record { disc = d''; table = st.table; held = committed_record st.held }) (record { blocks = σ.blocks; copy = σ.blocks })
  done-commit q = subst (λ (l : List Slot). Live e (record { disc = d''; table = st.table; held = committed_record st.held }) (store l l)) i.now (committed-live e st c goes q)

-- a commit, refused, cut or carried out
pub sound-commit : (e : Setting) (h : Shape) (st : State) (σ : Store) → Live e st σ → (c : Cut) → Sound (OnceOk e) h σ (commit c) (step e st (commit c))
unfolding step commit_plan OnceOk cut_in taken
sound-commit e h st σ i c =
    sound-plan (OnceOk e) h σ (commit c) c st _ _ _ _ i λ g.
    sound-carried (OnceOk e) h σ (commit c) c st _ _ _ refl (commit-count e h st σ i c g)
    (cut-commit e h st σ i c g)
    (done-commit e h st σ i c g)

-- its answer says that it was cut exactly if the plain store knows it
pub told-commit : (e : Setting) (h : Shape) (st : State) (σ : Store) → Live e st σ → (c : Cut) → Told h σ (commit c) (step e st (commit c)).answer
unfolding step commit_plan cut_in
told-commit e h st σ i c = told-plan h σ (commit c) c st _ _ _ _ refl (commit-count e h st σ i c)
