-- How many sectors an opening passes over (specs/Wait.antt): from one call to whole lists by the law of Steps.antt. Assumes nothing.
use Prim.Native.Nat.{ℕ, ◌+◌, ◌-◌, ◌≤◌}
use mathlib.Core.Bool.{Bool, true, false}
use mathlib.Core.Path.{◌≡◌, refl, sym, ◌∙◌, subst}
use mathlib.Core.List.{List, []}
use native.Mathlib.Omega.{arith}
use lib.ListN.{length, get_or, take}
use borrow.Author.Tests.{eq-eqb, ne_eqb}
use Rattle.refusal.specs.Verdict.{Verdict, verdict_of}
use Rattle.std.specs.Prelude.{Ok, Err, Result}
use Rattle.maps.specs.Kinds.{read_maps}
use Rattle.model.specs.declared.Cut.{Cut}
use Rattle.model.specs.declared.Record.{Record}
use Rattle.model.specs.declared.Reply.{Reply}
use Rattle.refusal.specs.declared.Refusal.{Refusal}
use Rattle.model.specs.declared.Opened.{Opened}
use Rattle.model.specs.Disc.{Disc}
use Rattle.model.specs.Writes.{Write, writes, struck, no_cut}
use Rattle.model.specs.Plan.{carry, unless, reply_of, disc_after}
use Rattle.model.specs.Vat.{vat_icb}
use Rattle.model.specs.Examine.{Setting, write_once}
use Rattle.model.specs.Once.{next_on, next_held, last_held, found_at, newest, passed_over, save_plan, free_plan, commit_plan}
use Rattle.model.specs.Rewrite.{save_block_plan, save_packet_plan, spare_plan}
use Rattle.model.specs.Both.{open_verdict, passed_on, opening}
use Rattle.model.specs.Calls.{Call, save_virtual, free_virtual, commit, save_block, save_packet, spare_packet, open_disc, opened, State, Stepped, carried, answer_of, answer_of_opening, step, answers, final, accepted, Proper}
use Rattle.model.specs.Store.{Slot, Store, Shape, start, shape_of, cut_in, writes_in, was_cut}
use Rattle.model.specs.Demand.{after_opening}
use Rattle.model.specs.Consequences.{lays_icb}
use Rattle.model.specs.Wait.{Count, count, begun_in, old_in, counting, counted_after, WaitBounded, WaitExact, NoneExactly}
use Rattle.model.proofs.Basics.{by_bool, by-eq}
use Rattle.model.proofs.Verdicts.{by-verdict, open-maps, opened-tells}
use Rattle.model.proofs.Sectors.{inside-fits, nwa-most}
use Rattle.model.proofs.Once.{Kept}
use Rattle.model.proofs.OnceRead.{Live}
use Rattle.model.proofs.OnceSave.{OnceOk, kept-saved, facts}
use Rattle.model.proofs.OnceOpen.{kept-below, passed-kept, first-kept, first_live}
use Rattle.model.proofs.OnceCommit.{commit-count, commit-fits, laid_kept, laid_next, left-kept}
use Rattle.model.proofs.OnceDemand.{accepted-goes, other-kind, sound-any}
use Rattle.model.proofs.OnceRises.{Rising, rising-one, rising-commit, rises}
use Rattle.model.proofs.ConsequencesLists.{answer-place}
use Rattle.model.proofs.Steps.{list-holds}

module _ (e : Setting) (one : write_once e ≡ true) (maps-go : verdict_of (read_maps e.maps) ≡ Ok tt) where
  abbrev h : Shape
  h = shape_of e

  -- ---- one call

  -- an opening of the disc would pass over all writes begun but those that became old
  abbrev Exact : Disc → Count → Type 0
  Exact d k = passed_over e d + k.old ≡ k.begun

  -- an accepted call that lays no ICB and keeps the VAT
  moved_on : (σ : Store) (c : Call) (k : Count) (d d' : Disc) (a : ℕ) {bs bs' : List Slot} → Kept e.start e.span d a bs → Kept e.start e.span d' a bs'
      → lays_icb h σ c ≡ false → next_on e d' + old_in h σ c ≡ next_on e d + begun_in h σ c → Exact d k → Exact d' (counting h σ k c true)
  unfolding counting
  moved_on σ c k d d' a κ κ' q m x =
      rw q (omega (arith, x, m, passed-kept e one maps-go d a κ, passed-kept e one maps-go d' a κ', kept-below e d a κ, kept-below e d' a κ'))

  -- one that lays an ICB
  moved_up : (σ : Store) (c : Call) (k : Count) (d' : Disc) (a : ℕ) {bs' : List Slot} → Kept e.start e.span d' a bs'
      → lays_icb h σ c ≡ true → next_on e d' ≡ a + 1 → Exact d' (counting h σ k c true)
  unfolding counting
  moved_up σ c k d' a κ' q m = rw q (omega (arith, m, passed-kept e one maps-go d' a κ'))

  -- what a call leaves
  abbrev Leaves : Store → Count → Call → Stepped → Type 0
  Leaves σ k c r = Exact r.state.disc (counting h σ k c (accepted r.answer))

  -- a call by its verdict: a refusal changes nothing
  by-plan : (σ : Store) (k : Count) (c : Call) (x : Cut) (st : State) (v : Verdict) (ws : List Write) (t : List ℕ) (r : Record) → Exact st.disc k
      → (v ≡ Ok tt → Exact (writes 1 x ws st.disc) (counting h σ k c true)) → Leaves σ k c (carried (unless v (carry ws t r)) x st)
  unfolding unless carried reply_of disc_after answer_of accepted counting
  by-plan σ k c x st v ws t r f g =
      by-verdict v
      (λ q. by_bool (struck x (length ws)) (λ u. rw (q, u) (g q)) (λ u. rw (q, u) (g q)))
      (λ why q. rw q f)

  -- one that writes from NWA on
  from_next : (st : State) (σ : Store) (c : Call) (x : Cut) (ws : List Write) → Live e st σ → cut_in c ≡ x → writes_in h σ c ≡ length ws
      → Rising (e.start + next_held st.held) ws → next_held st.held + length ws ≤ e.span
      → next_on e (writes 1 x ws st.disc) + old_in h σ c ≡ next_on e st.disc + begun_in h σ c
  unfolding next_on old_in begun_in was_cut
  from_next st σ c x ws i p n r f =
      let m = rises e.start e.span ws x (next_held st.held) st.disc r (sym i.top) f (inside-fits st.disc e.start e.span i.kept.within).1 in
      rw (p, n) (omega (arith, m, i.top))

  -- an opening writes nothing, and sets nothing
  exact-open : (st : State) (σ : Store) (k : Count) → Exact st.disc k → Leaves σ k open_disc (step e st open_disc)
  unfolding step counting lays_icb old_in begun_in was_cut cut_in writes_in struck no_cut
  exact-open st σ k x = by_bool (accepted (step e st open_disc).answer) (λ q. rw q (omega (arith, x))) (λ q. rw q x)

  module _ (st : State) (σ : Store) (k : Count) (i : Live e st σ) (x : Exact st.disc k) where
    exact-save : (v : ℕ) (b : List ℕ) (c : Cut) → Leaves σ k (save_virtual v b c) (step e st (save_virtual v b c))
    unfolding step save_plan cut_in writes_in lays_icb
    exact-save v b c =
        by-plan σ k (save_virtual v b c) c st _ _ _ _ x λ g.
        moved_on σ (save_virtual v b c) k st.disc _ (last_held st.held) i.kept (kept-saved e h st σ i v b c g) refl
        (from_next st σ (save_virtual v b c) c _ i refl refl (rising-one _ b) (omega (arith, (facts e st v b c g).room)))
        x

    exact-free : (v : ℕ) → Leaves σ k (free_virtual v) (step e st (free_virtual v))
    unfolding step free_plan writes counting lays_icb old_in begun_in was_cut cut_in writes_in struck no_cut
    exact-free v = by-plan σ k (free_virtual v) no_cut st _ [] _ _ x λ g. omega (arith, x)

    exact-commit : (c : Cut) → Leaves σ k (commit c) (step e st (commit c))
    unfolding step commit_plan cut_in
    exact-commit c =
        by-plan σ k (commit c) c st _ _ _ _ x λ g.
        by_bool (lays_icb h σ (commit c))
        (λ q. moved_up σ (commit c) k _ _ (laid_kept e h st σ i c g q) q (laid_next e h st σ i c g q))
        (λ q.
        moved_on σ (commit c) k st.disc _ (last_held st.held) i.kept (left-kept e h st σ i c g q) q
        (from_next st σ (commit c) c _ i refl (commit-count e h st σ i c g) (rising-commit e _ st.held) (commit-fits e st c g))
        x)

    -- a call for rewritable discs is refused
    exact-live : (c : Call) → Leaves σ k c (step e st c)
    unfolding step save_block_plan save_packet_plan spare_plan
    exact-live (save_virtual v b c) = exact-save v b c
    exact-live (free_virtual v) = exact-free v
    exact-live (commit c) = exact-commit c
    exact-live (save_block b y c) = by-plan σ k _ c st _ _ _ _ x λ g. other-kind e _ _ _ _ _ one g
    exact-live (save_packet b y c) = by-plan σ k _ c st _ _ _ _ x λ g. other-kind e _ _ _ _ _ one g
    exact-live (spare_packet b y c) = by-plan σ k _ c st _ _ _ _ x λ g. other-kind e _ _ _ _ _ one g
    exact-live open_disc = exact-open st σ k x

  -- ---- lists of calls

  -- what holds between calls, and the count
  abbrev WaitOk : Bool → State → Store → Count → Type 0
  WaitOk down st σ k = OnceOk e down st σ × Exact st.disc k

  exact-any : (down : Bool) (st : State) (σ : Store) (k : Count) (c : Call) → WaitOk down st σ k → (down ≡ true → c ≡ open_disc) → Leaves σ k c (step e st c)
  unfolding OnceOk
  exact-any true st σ k c o q = subst (λ (y : Call). Leaves σ k y (step e st y)) (sym (q refl)) (exact-open st σ k o.1)
  exact-any false st σ k c o q = exact-live st σ k o.0 o.1 c

  exact-first : (d : Disc) (t : List ℕ) (p : ℕ) → passed_over e d ≡ p → Exact (after_opening e d t).disc (count p 0)
  unfolding after_opening
  exact-first d t p m = omega (arith, m)

  -- the count before each call of a list
  exact-list : (d : Disc) (t : List ℕ) → open_verdict e d t ≡ Ok tt → (cs : List Call) → Proper false cs (answers e (after_opening e d t) cs)
      → (p : ℕ) → passed_over e d ≡ p → (i : ℕ) → Exact (final e (after_opening e d t) (take i cs)).disc (counted_after e d t p (take i cs))
  unfolding OnceOk
  exact-list d t g cs q p m i =
      (list-holds WaitOk h e (λ down st σ k c o w. (sound-any e one maps-go down st σ c o.0 w, exact-any down st σ k c o w))
      cs false (after_opening e d t) (start e d) (count p 0) (first_live e one maps-go d t g, exact-first d t p m) q i).1

-- ---- the bound

-- only an opening answers that it opened, and how many sectors it passed over
reply-opens : (y : Result Reply Refusal) (r : Record) (n : ℕ) → answer_of y ≡ opened r n → ⊥
unfolding answer_of
reply-opens (Ok (Reply.Done r')) r n q = let z : ◌≡◌ {A = ℕ} 0 1 = cc in omega arith
reply-opens (Ok Reply.Cut) r n q = let z : ◌≡◌ {A = ℕ} 0 1 = cc in omega arith
reply-opens (Err why) r n q = let z : ◌≡◌ {A = ℕ} 0 1 = cc in omega arith

pub opens-only : (e : Setting) (st : State) (c : Call) (r : Record) (n : ℕ) → (step e st c).answer ≡ opened r n → opening e st.disc st.table ≡ Ok (record { handed = r; passed = n })
unfolding step carried answer_of_opening
opens-only e st (save_virtual v b c) r n q = absurd (reply-opens _ r n q)
opens-only e st (free_virtual v) r n q = absurd (reply-opens _ r n q)
opens-only e st (commit c) r n q = absurd (reply-opens _ r n q)
opens-only e st (save_block b x c) r n q = absurd (reply-opens _ r n q)
opens-only e st (save_packet b x c) r n q = absurd (reply-opens _ r n q)
opens-only e st (spare_packet b x c) r n q = absurd (reply-opens _ r n q)
opens-only e st open_disc r n q = by_answer (opening e st.disc st.table) q
  where
    by_answer : (o : Result Opened Refusal) → answer_of_opening o ≡ opened r n → o ≡ Ok (record { handed = r; passed = n })
    by_answer (Ok o) w =
        let a : o.handed ≡ r = cc in
        let b : o.passed ≡ n = cc in
        λ i. Ok (record { handed = a i; passed = b i })
    by_answer (Err why) w = let z : ◌≡◌ {A = ℕ} 0 1 = cc in absurd (omega arith)

-- of a write-once disc
passed-once : (e : Setting) (d : Disc) (p : ℕ) → write_once e ≡ true → passed_on e d ≡ p → passed_over e d ≡ p
unfolding passed_on
passed-once e d p one q = rw one at q

pub wait-exact : WaitExact
unfolding WaitExact
wait-exact e d t cs one f p m i l r n a =
    let st = final e (after_opening e d t) (take i cs) in
    let g = accepted-goes e d t f.opens in
    let x = exact-list e one (open-maps e d t g) d t g cs f.proper p (passed-once e d p one m) i in
    let o = opened-tells e st.disc st.table r n (opens-only e st (get_or cs i open_disc) r n (sym (answer-place e cs (after_opening e d t) i l) ∙ a)) in
    omega (arith, x, passed-once e st.disc n one o.passed)

pub wait-bounded : WaitBounded
unfolding WaitBounded WaitExact
wait-bounded e d t cs one f p m i l r n a = omega (arith, wait-exact e d t cs one f p m i l r n a)

-- ---- none

pub none-exactly : NoneExactly
unfolding NoneExactly next_on
none-exactly e d t one r n q =
    let o = opened-tells e d t r n q in
    let g = open-maps e d t o.goes in
    let a : ℕ = found_at (newest e d) in
    let κ = first-kept e one g d t o.goes in
    let b = kept-below e d a κ in
    let m : n ≡ next_on e d - 1 - a = sym (passed-once e d n one o.passed) ∙ passed-kept e one g d a κ in
    record {
      there = omega (arith, b);
      exactly =
          by-eq a (next_on e d - 1)
          (λ w. eq-eqb n 0 (omega (arith, m)) ∙ sym (subst (λ (x : ℕ). vat_icb d e.start x ≡ true) w κ.newest.here))
          (λ w. ne_eqb n 0 (λ z. omega (arith, m, b)) ∙ sym (κ.newest.above (next_on e d - 1) (omega (arith, b)) (omega (arith, b, nwa-most d e.start e.span))));
    }
