-- Spares inside the partition (02, slip 8): the claims of specs/SparesInside.antt. Assumes nothing.
use Prim.Native.Nat.{ℕ, ◌+◌, ◌*◌, ◌%◌, ◌<◌}
use mathlib.Core.Bool.{Bool, true, false, not, ◌&&◌}
use mathlib.Core.Logic.{◌≢◌, ◌⊎◌, inl, inr, ⊎_elim}
use mathlib.Core.Path.{◌≡◌, refl, sym, ap, ◌∙◌}
use mathlib.Core.List.{List, [], ◌∷◌}
use native.Mathlib.Omega.{arith}
use lib.Dec.{leb, eqb}
use lib.ListN.{length, get_or}
use borrow.Author.Tests.{lt-ltb, le-ltb, le-leb, eq-eqb}
use Rattle.refusal.specs.declared.Refusal.{Refusal}
use Rattle.refusal.specs.declared.Refusal.TheVariants.{BelongsToSpare, LentLength}
use Rattle.refusal.specs.Verdict.{Verdict, verdict_of}
use Rattle.std.specs.Prelude.{Ok, Err}
use Rattle.refusal.specs.Number.{number_of, answer_number}
use Rattle.refusal.specs.Tests.{Test, test, first, need}
use Rattle.refusal.proofs.Laws.{first-append}
use Rattle.maps.specs.Kinds.{absent, read_maps}
use Rattle.fields.specs.Number.{field}
use Rattle.model.specs.declared.Cut.{Cut}
use Rattle.model.specs.declared.Record.{Record}
use Rattle.model.specs.Disc.{Disc, mark, recorded, mark_tests}
use Rattle.model.specs.Writes.{Write, struck}
use Rattle.model.specs.Sparing.{Geometry, Entry, entries, free_of, defective_of, originals_fit, ascending, outside, mapped_of, mapped_fit, entries_fit, table_in, named, copy_fits, of_spare, packet_of}
use Rattle.model.specs.Examine.{Setting, write_once, geometry, examined, shape_tests, lent_table}
use Rattle.model.specs.Plan.{carry, unless, reply_of}
use Rattle.model.specs.Rewrite.{entries_on, of_spare_on, copy_tests, rewritable_verdict, packet_verdict, packet_physical, block_test, spare_test, save_block_tests, block_lent, save_block_plan, packet_tests, packet_lent, save_packet_plan, spare_tests, spare_plan}
use Rattle.model.specs.Both.{read_rewritable_tests}
use Rattle.model.specs.Calls.{save_block, save_packet, spare_packet, refused, State, answer_of, carried, step, final}
use Rattle.model.specs.Store.{Slot, slot_at, Store, turned, seen_as, look}
use Rattle.model.specs.Demand.{after_opening, seen}
use Rattle.model.specs.Examples.{entry}
use Rattle.model.specs.SparesInside.{ClearOriginals, CopyRule, ThirtyAfterTwelve, Addressed, Apart, NeverShare, SameThroughout, ThirtyThroughout}
use Rattle.model.proofs.Basics.{and-true, both, and-cong, by-lt, by_bool, differ}
use Rattle.model.proofs.Verdicts.{examined-tells, open-maps}
use Rattle.model.proofs.Ground.{Ground, ground}
use Rattle.model.proofs.SparingLaws.{in_place_law, absent-not-in, not-in-absent, fits-clear, in-mapped, mapped-each, clear_at, clear-away, packet-below, outside-means, table-outside, spare-same, locate-on, locate-apart, locate-not-table, locate-not-free, locate-not-defective}
use Rattle.model.proofs.Ready.{Ready, LiveAgain, ready-fits, ready-entries, ready-place, ready-spare, same_place, same-spare, read_again}
use Rattle.model.proofs.ReadyOpen.{AgainOk, first-ground}
use Rattle.model.proofs.ReadyDemand.{again-left, entries-stay}
use Rattle.model.proofs.ReadyLives.{look-reserved}
use Rattle.model.proofs.ReadyLivesCalls.{own-tests}
use Rattle.model.proofs.OnceDemand.{accepted-goes}
use Rattle.model.proofs.Steps.{plan-stopped}

-- ---- the copy rule

copy-entries : (g : Geometry) (b : List ℕ) → copy_fits g b ≡ true → entries_fit g (entries (table_in b)) ≡ true
unfolding copy_fits
copy-entries g b h = (and-true (named b) _ (and-true (eqb (field b 0 2) 0) _ h).1).1

and_right : (a : Bool) {b : Bool} → b ≡ true → a && b ≡ a
and_right true e = e
and_right false e = refl

module _ (g : Geometry) (es : List Entry) (apart : (i : ℕ) → i < length es → outside g (get_or es i (entry 0 0)).mapped ≡ true) where
  -- no place of the partition is a mapped start
  place-away : (q : ℕ) → q < g.span → absent (g.start + q) (mapped_of es) ≡ true
  place-away q l =
      not-in-absent (g.start + q) (mapped_of es) λ i.
      ⊎_elim (λ a. omega arith) (λ a. omega arith) (outside-means g (g.start + q) (mapped-each (outside g) es (entry 0 0) apart (g.start + q) i)).aside

  rule-before : entries_fit g es ≡ leb (56 + 8 * length es) g.size && (originals_fit g.span es && (ascending es && mapped_fit g es))
  unfolding entries_fit
  rule-before =
      and-cong {a = leb (56 + 8 * length es) g.size} refl λ _.
      and-cong {a = originals_fit g.span es} refl λ o.
      ap (λ (x : Bool). ascending es && x) (and_right (mapped_fit g es) (clear-away g.start g.span (mapped_of es) es o place-away))

  none_inside_law : (b : ℕ) → b < g.span → of_spare g.start es b ≡ false
  unfolding of_spare
  none_inside_law b l = ap not (place-away (packet_of b) (omega (arith, packet-below b)))

pub clear-originals : ClearOriginals
unfolding ClearOriginals
clear-originals g b i j h l u k q =
    let es : List Entry = entries (table_in b) in
    absent-not-in _ (mapped_of es) (clear_at g.start (mapped_of es) es i (entry 0 0) (fits-clear g es (copy-entries g b h)) l u) (rw q (in-mapped es j (entry 0 0) k))

pub copy-rule : CopyRule
unfolding geometry
copy-rule =
    record {
      as_before = λ g es apart. rule-before g es apart;
      none_inside = λ g es b apart l. none_inside_law g es apart b l;
      tables = λ e d lent i kind go l.
          let γ = ground e d lent kind (examined-tells e d lent go) in
          (table-outside (geometry e d) (geometry e d).tables _ γ.outside (in_place_law (geometry e d).tables i l)).aside;
    }

-- ---- the order of the lines

pub thirty-after-twelve : ThirtyAfterTwelve
unfolding save_block_tests packet_tests spare_tests read_rewritable_tests block_test spare_test packet_verdict packet_physical need
thirty-after-twelve =
    record {
      block = λ e d b. (λ l. rw (le-ltb b e.span l), λ l u. rw (lt-ltb b e.span l, u));
      packet = λ e d b m. (λ l. rw (m, le-ltb b e.span l), λ l u. rw (m, lt-ltb b e.span l, u));
      spare = λ e d b m. (λ l. rw (m, le-ltb b e.span l), λ l u. rw (m, lt-ltb b e.span l, u));
      reading = λ e d t held b go h. (
        λ l. first-append (copy_tests e d) _ ∙ rw (go, h, le-ltb b e.span l),
        λ l u. first-append (copy_tests e d) _ ∙ rw (go, h, lt-ltb b e.span l, u),
      );
      translation = λ s es b. (
        λ l. rw (le-ltb b.0 s.length l),
        λ l u. rw (lt-ltb b.0 s.length l, u),
        λ l u. rw (lt-ltb b.0 s.length l, u),
      );
    }

-- ---- two addresses never share a sector

-- the table on the disc that a list leaves, cut or not
ready-left : (e : Setting) (g : Geometry) (es : List Entry) (down : Bool) (st : State) (σ : Store) → AgainOk e g es down st σ → (n : ℕ) × (l : List ℕ) × Ready e g st.disc n l σ.blocks
unfolding AgainOk
ready-left e g es true st σ (n, l, r, long, kept) = (n, l, r)
ready-left e g es false st σ (n, l, i, kept) = (n, l, i.ready)

-- a disc in that state
module _ (e : Setting) (g : Geometry) (γ : Ground e g) (d : Disc) (n : ℕ) (l : List ℕ) (bs : List Slot) (r : Ready e g d n l bs) where
  unspared : (b : ℕ) → Addressed e d b → of_spare g.start (entries l) b ≡ false
  unspared b a = sym (ready-spare γ r b) ∙ a.free

  sectors : length d.marks ≡ g.sectors
  unfolding geometry
  sectors = ap (λ (x : Geometry). x.sectors) r.geo

  ready-apart : Apart e d
  ready-apart =
      record {
        blocks = λ b c ab ac w.
            rw (ready-place γ r b, ready-place γ r c)
            (locate-apart g (entries l) (ready-fits r) γ.start-32 γ.span-32 b c (unspared b ab) (unspared c ac) w);
        tables = λ b i j a h k.
            rw (ready-place γ r b, r.geo)
            (locate-not-table g (entries l) (ready-fits r) γ.start-32 γ.span-32 b _ j (rw (← γ.span-is) a.below) γ.outside
            (in_place_law g.tables i (rw r.geo at h)) k);
        free = λ b i j a h k.
            rw (ready-place γ r b, ready-entries r)
            (locate-not-free g (entries l) (ready-fits r) γ.start-32 γ.span-32 b _ j (unspared b a)
            (in-mapped (free_of (entries l)) i (entry 0 0) (rw (ready-entries r) at h)) k);
        defectives = λ b i j a h k.
            rw (ready-place γ r b, ready-entries r)
            (locate-not-defective g (entries l) (ready-fits r) γ.start-32 γ.span-32 b _ j (unspared b a)
            (in-mapped (defective_of (entries l)) i (entry 0 0) (rw (ready-entries r) at h)) k);
        on = λ b a.
            rw (ready-place γ r b, sectors)
            (locate-on g (entries l) (ready-fits r) γ.start-32 γ.span-32 b (rw (← γ.span-is) a.below) γ.inside);
      }

pub never-share : NeverShare
unfolding NeverShare
never-share e d t cs again f =
    let go = accepted-goes e d t f.opens in
    let o = ready-left e (geometry e d) (entries_on e d) _ _ _ (again-left e d t f.low again f.opens cs f.proper) in
    ready-apart e (geometry e d) (first-ground e again d t f.low go) _ o.0 o.1 _ o.2

-- ---- 30 throughout

pub same-throughout : SameThroughout
unfolding SameThroughout of_spare_on entries_on final after_opening
same-throughout e d t cs again f v =
    spare-same e.start _ _ v (entries-stay e d t f.low again f.opens [] cs f.proper).starts

-- a verdict of another number
abbrev Not30 : Verdict → Type 0
Not30 v = answer_number v ≢ 30

-- tests that hold, or give another number, do not give 30
abbrev Others : List Test → Type 0
Others [] = Unit {0}
Others (test ok why ∷ l) = ((ok ≡ true) ⊎ (number_of why ≢ 30)) × Others l

not-thirty : (l : List Test) → Others l → Not30 (first l)
unfolding need
not-thirty [] h = omega arith
not-thirty (test true why ∷ l) h = not-thirty l h.1
not-thirty (test false why ∷ l) (inl q, h) = differ q refl
not-thirty (test false why ∷ l) (inr q, h) = q

-- what a call's plan answers where it is refused is its verdict
refused-by : (v : Verdict) (ws : List Write) (t : List ℕ) (r : Record) (c : Cut) (st : State) {why : Refusal} → (carried (unless v (carry ws t r)) c st).answer ≡ refused why → v ≡ Err why
unfolding carried unless reply_of answer_of
refused-by (Ok _) ws t r c st h = by_bool (struck c (length ws))
    (λ q. absurd (let k = rw q at h in let z : ◌≡◌ {A = ℕ} 0 1 = cc in omega arith))
    (λ q. absurd (let k = rw q at h in let z : ◌≡◌ {A = ℕ} 0 1 = cc in omega arith))
refused-by (Err why) ws t r c st h = cc

-- a block that is none of a spare shows another number
slot-other : (d : Disc) (p : ℕ) → seen_as (slot_at d p) ≢ turned BelongsToSpare
unfolding slot_at seen_as
slot-other d p q = by_bool (recorded d p)
    (λ a. absurd (let k = rw a at q in let z : ◌≡◌ {A = ℕ} 0 1 = cc in omega arith))
    (λ a. by_bool (eqb (mark d p) 0)
    (λ b. absurd (let k = rw (a, b) at q in let z : ◌≡◌ {A = ℕ} 0 1 = cc in omega arith))
    (λ b. absurd (let k = rw (a, b) at q in let z : ◌≡◌ {A = ℕ} 0 1 = cc in omega arith)))

-- ---- between calls
module _ (e : Setting) (g : Geometry) (again : write_once e ≡ false) (γ : Ground e g) (maps-go : verdict_of (read_maps e.maps) ≡ Ok tt)
    (st : State) (n : ℕ) (l : List ℕ) (σ : Store) (i : LiveAgain e g st n l σ) where
  -- a lent slice of another length gives 3
  lent-short : examined e st.disc false ≡ Err LentLength
  unfolding examined shape_tests need
  lent-short = rw (i.ready.shape, i.ready.within)

  -- lines 1 to 11 of a call do not give 30, so it does not where its own tests do not
  call-other : (lent : Bool) (own : List Test) → Not30 (first own) → Not30 (rewritable_verdict e st.disc st.table lent st.held own)
  unfolding rewritable_verdict
  call-other true own h = rw (own-tests e g again γ maps-go st true own i refl) h
  call-other false own h = rw lent-short (omega arith)

  -- ---- a block that belongs to a spare
  module _ (v : ℕ) (spare : of_spare_on e st.disc v ≡ true) (below : v < e.span) where
    thirty-read : (out : List ℕ) → length out ≡ 2048 → seen e st v out ≡ turned BelongsToSpare
    thirty-read out long =
        read_again e g again γ maps-go st n l σ i v out long
        ∙ look-reserved σ v (omega (arith, i.ready.count, γ.span-is)) (same-spare i.ready v (rw (← γ.span-is) below) (sym (ready-spare γ i.ready v) ∙ spare))

    thirty-block : (x : List ℕ) (c : Cut) → length x ≡ 2048 → (step e st (save_block v x c)).answer ≡ refused BelongsToSpare
    unfolding step save_block_plan block_lent lent_table
    thirty-block x c long =
        plan-stopped _ _ _ c st
        (own-tests e g again γ maps-go st _ (save_block_tests e st.disc v) i (both (le-leb _ _ i.lent) (eq-eqb _ _ long))
        ∙ (thirty-after-twelve.block e st.disc v).1 below spare)

    module _ (multiple : v % 32 ≡ 0) (x : List ℕ) (c : Cut) (long : length x ≡ 65536) where
      thirty-packet : (step e st (save_packet v x c)).answer ≡ refused BelongsToSpare
      unfolding step save_packet_plan packet_lent lent_table
      thirty-packet =
          plan-stopped _ _ _ c st
          (own-tests e g again γ maps-go st _ (packet_tests e st.disc v) i (both (le-leb _ _ i.lent) (eq-eqb _ _ long))
          ∙ (thirty-after-twelve.packet e st.disc v multiple).1 below spare)

      thirty-spare : (step e st (spare_packet v x c)).answer ≡ refused BelongsToSpare
      unfolding step spare_plan packet_lent lent_table
      thirty-spare =
          plan-stopped _ _ _ c st
          (own-tests e g again γ maps-go st _ (spare_tests e st.disc v) i (both (le-leb _ _ i.lent) (eq-eqb _ _ long))
          ∙ (thirty-after-twelve.spare e st.disc v multiple).1 below spare)

  -- ---- one that belongs to none
  module _ (v : ℕ) (own-place : of_spare_on e st.disc v ≡ false) where
    passes : not (of_spare_on e st.disc v) ≡ true
    passes = ap not own-place

    other-read : (out : List ℕ) → length out ≡ 2048 → seen e st v out ≢ turned BelongsToSpare
    unfolding look
    other-read out long q =
        let k = sym (read_again e g again γ maps-go st n l σ i v out long) ∙ q in
        by-lt v g.span
        (λ a.
        slot-other st.disc _
        (ap seen_as (sym (same_place i.ready v a (sym (ready-spare γ i.ready v) ∙ own-place)))
        ∙ rw (i.ready.count, lt-ltb v g.span a) at k))
        (λ a. let z = rw (i.ready.count, le-ltb v g.span a) at k in absurd (let y : ◌≡◌ {A = ℕ} 0 1 = cc in omega arith))

    other_block : (x : List ℕ) (c : Cut) → (step e st (save_block v x c)).answer ≢ refused BelongsToSpare
    unfolding step save_block_plan save_block_tests block_test spare_test mark_tests
    other_block x c q =
        call-other _ (save_block_tests e st.disc v)
        (not-thirty (save_block_tests e st.disc v) (inr (omega arith), (inl passes, (inr (omega arith), (inr (omega arith), tt)))))
        (ap answer_number (refused-by _ _ _ _ c st q))

    other-packet : (x : List ℕ) (c : Cut) → (step e st (save_packet v x c)).answer ≢ refused BelongsToSpare
    unfolding step save_packet_plan packet_tests spare_test
    other-packet x c q =
        call-other _ (packet_tests e st.disc v)
        (not-thirty (packet_tests e st.disc v) (inr (omega arith), (inl passes, tt)))
        (ap answer_number (refused-by _ _ _ _ c st q))

    other-spare : (x : List ℕ) (c : Cut) → (step e st (spare_packet v x c)).answer ≢ refused BelongsToSpare
    unfolding step spare_plan spare_tests packet_tests spare_test
    other-spare x c q =
        call-other _ (spare_tests e st.disc v)
        (not-thirty (spare_tests e st.disc v) (inr (omega arith), (inl passes, (inr (omega arith), (inr (omega arith), (inr (omega arith), tt))))))
        (ap answer_number (refused-by _ _ _ _ c st q))

-- what holds between calls after a list that does not end in a cut
live-left : (e : Setting) (g : Geometry) (es : List Entry) (down : Bool) (st : State) (σ : Store) → down ≡ false → AgainOk e g es down st σ → (n : ℕ) × (l : List ℕ) × LiveAgain e g st n l σ
unfolding AgainOk
live-left e g es true st σ q o = differ refl q
live-left e g es false st σ q (n, l, i, kept) = (n, l, i)

pub thirty-throughout : ThirtyThroughout
unfolding ThirtyThroughout SameThroughout
thirty-throughout e d t cs again f ends v =
    let g : Geometry = geometry e d in
    let go = accepted-goes e d t f.opens in
    let γ = first-ground e again d t f.low go in
    let m = open-maps e d t go in
    let st : State = final e (after_opening e d t) cs in
    let o = live-left e g (entries_on e d) _ st _ ends (again-left e d t f.low again f.opens cs f.proper) in
    let i = o.2 in
    let same : of_spare_on e st.disc v ≡ of_spare_on e d v = same-throughout e d t cs again f v in
    record {
      reads = λ u l out k. thirty-read e g again γ m st _ _ _ i v (same ∙ u) l out k;
      saves = λ u l x c k. thirty-block e g again γ m st _ _ _ i v (same ∙ u) l x c k;
      packets = λ u l w x c k. thirty-packet e g again γ m st _ _ _ i v (same ∙ u) l w x c k;
      sparings = λ u l w x c k. thirty-spare e g again γ m st _ _ _ i v (same ∙ u) l w x c k;
      others_read = λ u out k. other-read e g again γ m st _ _ _ i v (same ∙ u) out k;
      others_save = λ u x c. other_block e g again γ m st _ _ _ i v (same ∙ u) x c;
      others_packet = λ u x c. other-packet e g again γ m st _ _ _ i v (same ∙ u) x c;
      others_spare = λ u x c. other-spare e g again γ m st _ _ _ i v (same ∙ u) x c;
    }
