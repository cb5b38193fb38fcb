-- Either plot first (02, slip 11). From any disc, table and record: a save that is accepted and not cut puts its block among the blocks of the record's
-- entries; a commit makes them those of the newest VAT, which the opening finds. What is read depends on the two saves and, where the numbers differ,
-- not on their order. Assumes nothing.
use Prim.Native.Nat.{ℕ, ◌≤◌}
use mathlib.Core.Bool.{true, false, cond}
use mathlib.Core.Logic.{◌≢◌}
use mathlib.Core.Path.{◌≡◌, refl, sym, ap, ◌∙◌, subst}
use mathlib.Core.List.{List}
use native.Mathlib.Omega.{arith}
use lib.Dec.{eqb}
use lib.ListN.{length}
use borrow.Author.Tests.{eqb-true, le-leb}
use Rattle.std.specs.Prelude.{Ok}
use Rattle.refusal.specs.Tests.{need}
use Rattle.model.specs.declared.Cut.{Cut}
use Rattle.model.specs.Examine.{Setting, lent_table}
use Rattle.model.specs.Once.{entries_held, next_held, last_held, once_verdict, save_plan, room_to_commit, commit_tests, commit_plan, held_verdict}
use Rattle.model.specs.Calls.{save_virtual, commit, open_disc, State, Stepped, step, answers, final, accepted, is_cut}
use Rattle.model.specs.Store.{Slot, holds, put, store, shape_of, Seen, bytes, seen_as}
use Rattle.model.specs.Demand.{after_opening, seen}
use Rattle.model.specs.EitherFirst.{Block, Cuts, both_saved, in_turn, AllDone, EitherFirst, EitherAfter, SavedInTurn, SavesDecide}
use Rattle.model.proofs.Basics.{by_bool}
use Rattle.model.proofs.Verdicts.{once-goes}
use Rattle.model.proofs.Steps.{plan-goes, plan-uncut, plan-done, opened-accepted}
use Rattle.model.proofs.OnceFits.{Fits, fits-go, slots-count, blocks_of, fits_read, fits-unread}
use Rattle.model.proofs.OnceRead.{Live, live-fits}
use Rattle.model.proofs.OnceSave.{facts, saved-fits, saved-blocks}
use Rattle.model.proofs.OnceCommit.{committed-live}
use Rattle.model.proofs.OnceOpen.{reopened}
use Rattle.model.proofs.ConsequencesLists.{final-append}
use Rattle.model.proofs.ConsequencesLooks.{look-put}

-- ---- a save

-- what one that is accepted and not cut leaves
record Saved (e : Setting) (st : State) (v : ℕ) (b : List ℕ) (st' : State) : Type 0 where
  from : Fits e st
  fits : Fits e st'
  most : v ≤ length (blocks_of e st)
  blocks : blocks_of e st' ≡ put (blocks_of e st) v (holds b)
  -- a commit fits
  room : room_to_commit e.span st'.held ≡ true

saved : (e : Setting) (st : State) (v : ℕ) (b : List ℕ) (c : Cut) → accepted (step e st (save_virtual v b c)).answer ≡ true → is_cut (step e st (save_virtual v b c)).answer ≡ false
    → Saved e st v b (step e st (save_virtual v b c)).state
unfolding step save_plan room_to_commit entries_held next_held
saved e st v b c ok uncut =
    let go = plan-goes _ _ _ c st ok in
    let whole = plan-uncut _ _ _ c st go uncut in
    let f = facts e st v b c go in
    subst (λ (r : Stepped). Saved e st v b r.state) (sym (plan-done _ _ _ c st go whole))
    (record {
      from = f.fits;
      fits = saved-fits e st v b c go whole;
      most = omega (arith, f.most, slots-count st.disc e.start (entries_held st.held) st.table (omega (arith, f.fits.few, f.fits.lent)));
      blocks = saved-blocks e st v b c go whole;
      room = le-leb _ _ f.room;
    })

-- ---- a commit

-- it goes on where there is room
commit-goes : (e : Setting) (st : State) → Fits e st → room_to_commit e.span st.held ≡ true
    → once_verdict e st.disc st.table (lent_table st.table) st.held (commit_tests e st.held) ≡ Ok tt
unfolding held_verdict commit_tests need
commit-goes e st f room = once-goes e st.disc st.table _ st.held _ (fits-go e st f) ∙ rw room

-- what one that is not cut leaves
record Committed (e : Setting) (st : State) (r : Stepped) : Type 0 where
  live : Live e r.state (store (blocks_of e st) (blocks_of e st))
  accepts : accepted r.answer ≡ true

committed : (e : Setting) (st : State) (j : Cut) → Fits e st → room_to_commit e.span st.held ≡ true → is_cut (step e st (commit j)).answer ≡ false
    → Committed e st (step e st (commit j))
unfolding step commit_plan accepted
committed e st j f room uncut =
    let go = commit-goes e st f room in
    let whole = plan-uncut _ _ _ j st go uncut in
    subst (Committed e st) (sym (plan-done _ _ _ j st go whole))
    (record { live = committed-live e st j go whole; accepts = refl })

-- ---- the four calls

module _ (e : Setting) (st : State) (x y : Block) (c : Cuts) where
  -- the states after the first save, after the second, after the commit and after the opening
  abbrev s₁ : State
  s₁ = (step e st (save_virtual x.number x.bytes c.first)).state

  abbrev s₂ : State
  s₂ = (step e s₁ (save_virtual y.number y.bytes c.second)).state

  abbrev s₃ : State
  s₃ = (step e s₂ (commit c.last)).state

  abbrev s₄ : State
  s₄ = (step e s₃ open_disc).state

  -- the blocks that the first save leaves, and both
  abbrev one : List Slot
  one = put (blocks_of e st) x.number (holds x.bytes)

  abbrev both : List Slot
  both = put one y.number (holds y.bytes)

  -- what two saves that are accepted and not cut leave, and then a commit that is not cut
  record Turn : Type 0 where
    from : Fits e st
    first_most : x.number ≤ length (blocks_of e st)
    second_most : y.number ≤ length one
    commits : accepted (step e s₂ (commit c.last)).answer ≡ true
    opens : accepted (step e s₃ open_disc).answer ≡ true
    uncut : is_cut (step e s₃ open_disc).answer ≡ false
    live : Live e s₄ (store both both)

  turn : AllDone (answers e st (both_saved x y c)) → is_cut (step e s₂ (commit c.last)).answer ≡ false → Turn
  unfolding AllDone answers shape_of
  turn p uncut =
      let f = saved e st x.number x.bytes c.first p.0 p.1 in
      let g = saved e s₁ y.number y.bytes c.second p.2.0 p.2.1 in
      let all : blocks_of e s₂ ≡ both = g.blocks ∙ ap (λ (l : List Slot). put l y.number (holds y.bytes)) f.blocks in
      let z = committed e s₂ c.last g.fits g.room uncut in
      let l : Live e s₃ (store both both) = subst (λ (bs : List Slot). Live e s₃ (store bs bs)) all z.live in
      let o = reopened e f.from.kind f.from.maps (shape_of e) f.from.kind s₃ (store both both) (last_held s₃.held) l.kept l.lent in
      record {
        from = f.from;
        first_most = f.most;
        second_most = subst (λ (bs : List Slot). y.number ≤ length bs) f.blocks g.most;
        commits = z.accepts;
        opens = opened-accepted _ o.accepts;
        uncut = o.uncut;
        live = o.live;
      }

  -- all four accepted and not cut
  all-turn : AllDone (answers e st (in_turn x y c)) → Turn
  unfolding AllDone answers
  all-turn p = turn (p.0, p.1, (p.2.0, p.2.1, tt)) p.2.2.1

  -- the state after them passes lines 1 to 7 and 11
  turn-fits : Turn → Fits e (final e st (in_turn x y c))
  unfolding final
  turn-fits t = live-fits e t.from.kind t.from.maps _ _ t.live

  -- and what is read in it
  turn-reads : Turn → (v : ℕ) (out : List ℕ) → length out ≡ 2048
      → seen e (final e st (in_turn x y c)) v out
      ≡ cond (eqb v y.number) (bytes y.bytes) (cond (eqb v x.number) (bytes x.bytes) (seen e st v out))
  unfolding final seen_as
  turn-reads t v out long =
      let l = t.live in
      let old : List Slot = blocks_of e st in
      fits_read e s₄ (turn-fits t) v out long (store both both) l.now
      ∙ look-put (store one one) both y.number (holds y.bytes) t.second_most v
      ∙ ap (cond (eqb v y.number) (bytes y.bytes))
      (look-put (store old old) one x.number (holds x.bytes) t.first_most v
      ∙ ap (cond (eqb v x.number) (bytes x.bytes)) (sym (fits_read e st t.from v out long (store old old) refl)))

pub saved-in-turn : SavedInTurn
unfolding SavedInTurn
saved-in-turn e st x y c p v out long = turn-reads e st x y c (all-turn e st x y c p) v out long

pub saves-decide : SavesDecide
unfolding SavesDecide AllDone answers final
saves-decide e st x y c p uncut =
    let t = turn e st x y c p uncut in
    (p.0, p.1, (p.2.0, p.2.1, (t.commits, uncut, (t.opens, t.uncut, tt))))

-- ---- both orders

-- choices by two numbers that differ, in either order
exchanged : (v m n : ℕ) (a b z : Seen) → m ≢ n → cond (eqb v n) b (cond (eqb v m) a z) ≡ cond (eqb v m) a (cond (eqb v n) b z)
exchanged v m n a b z apart =
    by_bool (eqb v m)
    (λ p.
    by_bool (eqb v n)
    (λ q. absurd (apart (sym (eqb-true v m p) ∙ eqb-true v n q)))
    (λ q. rw (p, q)))
    (λ p. rw p)

pub either_first : EitherFirst
unfolding EitherFirst
either_first e st x y c k apart p q v out =
    let t = all-turn e st x y c p in
    let s = all-turn e st y x k q in
    by_bool (eqb (length out) 2048)
    (λ long.
    turn-reads e st x y c t v out (eqb-true _ _ long)
    ∙ exchanged v x.number y.number (bytes x.bytes) (bytes y.bytes) (seen e st v out) apart
    ∙ sym (turn-reads e st y x k s v out (eqb-true _ _ long)))
    (λ short. fits-unread e _ (turn-fits e st x y c t) v out short ∙ sym (fits-unread e _ (turn-fits e st y x k s) v out short))

pub either-after : EitherAfter
unfolding EitherAfter EitherFirst
either-after e d t cs x y c k apart p q v out =
    let st = after_opening e d t in
    ap (λ (z : State). seen e z v out) (final-append e cs (in_turn x y c) st)
    ∙ either_first e (final e st cs) x y c k apart p q v out
    ∙ sym (ap (λ (z : State). seen e z v out) (final-append e cs (in_turn y x k) st))
