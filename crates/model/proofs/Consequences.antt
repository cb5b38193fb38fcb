-- The sentences of specs/Consequences.antt, from demand 3 and what the plain store makes of a call. Assumes nothing.
use Prim.Native.Nat.{ℕ, ◌+◌, ◌*◌, ◌%◌, ◌≤◌, ◌<◌}
use mathlib.Core.Bool.{Bool, true, false, cond, not, ◌&&◌, false≢true}
use mathlib.Core.Path.{◌≡◌, refl, sym, ap, ap₂, ◌∙◌}
use mathlib.Core.List.{List, [], ◌∷◌, ◌++◌}
use native.Mathlib.Omega.{arith}
use lib.Dec.{leb, eqb}
use lib.ListN.{length, length-append}
use lib.Seq.{get_or-append_seam, take-append_seam}
use borrow.Author.Tests.{leb-true, ltb-true, eqb-true, eq-eqb, ne_eqb, not-true}
use Rattle.refusal.specs.declared.Refusal.TheVariants.{OtherKind, StaleRecord, UnusedEntry}
use Rattle.refusal.specs.Verdict.{Verdict}
use Rattle.std.specs.Prelude.{Ok}
use Rattle.refusal.specs.Tests.{Test, test}
use Rattle.refusal.proofs.Laws.{passed}
use Rattle.fields.specs.Bytes.{part}
use Rattle.model.specs.declared.Cut.{Cut}
use Rattle.model.specs.declared.Record.{Record}
use Rattle.model.specs.Disc.{Disc}
use Rattle.model.specs.Writes.{Write, landing, struck, no_cut}
use Rattle.model.specs.Plan.{carry, unless, reply_of}
use Rattle.model.specs.Sparing.{packet_of}
use Rattle.model.specs.Examine.{Setting, write_once, examined}
use Rattle.model.specs.Once.{entries_held, held_fits, once_verdict, number_fits, save_tests, save_plan, entry_tests, free_plan}
use Rattle.model.specs.Rewrite.{copy_tests, held_current, rewritable_verdict, block_test, save_block_tests, save_block_plan, packet_tests, save_packet_plan, spare_tests, spare_plan}
use Rattle.model.specs.Calls.{Call, save_virtual, free_virtual, commit, save_block, save_packet, spare_packet, open_disc, State, step, carried, answer_of, answers, final, accepted, is_cut, Proper, ends_cut}
use Rattle.model.specs.Store.{holds, unused, Store, Shape, store, start, shape_of, cut_in, writes_in, was_cut, slots_in, packet_with, taken, next, Seen, bytes, turned, seen_as, look}
use Rattle.model.specs.Demand.{Demand3, after_opening, followed}
use Rattle.model.specs.Consequences.{Follows, answer_after, store_after, shown_after, CarriedOut, CutShort, CutExactly, RefusalsChangeNothing, OnceEffect, LastCommit, lays_icb, CopyByCommit, FullEffect, SpareAllOrNothing, seen_landed, SaveOwnPacket}
use Rattle.model.proofs.Basics.{cond_both, by_bool, and-true, differ}
use Rattle.model.proofs.Cuts.{whole_same, spared-cut}
use Rattle.model.proofs.Verdicts.{then-go}
use Rattle.model.proofs.Steps.{plan-goes, opened-accepted, Told, told-opening}
use Rattle.model.proofs.OnceSave.{once-tells}
use Rattle.model.proofs.OnceDemand.{once-told, once-blocks}
use Rattle.model.proofs.ReadyCalls.{again-tells}
use Rattle.model.proofs.ReadyDemand.{again-told, again-blocks}
use Rattle.model.proofs.SparingLaws.{packet-multiple, packet-inside}
use Rattle.model.proofs.ConsequencesLists.{answer_at, followed-append, ends-append, proper-split, proper-join}
use Rattle.model.proofs.ConsequencesLooks.{choice, look-set, look-put, lent-block, look-puts, look-cut, look-with, length-with}
use Rattle.model.proofs.Slots.{length-blocks}
use Rattle.model.proofs.Demand.{demand-3}

-- ---- whether a call was cut

-- for both kinds of disc
pub cut-exactly : CutExactly
unfolding CutExactly
cut-exactly e d t cs f =
    by_bool (write_once e)
    (λ one. once-told e d t one f.opens cs f.proper)
    (λ again. again-told e d t f.low again f.opens cs f.proper)

module _ (e : Setting) (d : Disc) (t : List ℕ) where
  -- ---- a list and the call after it

  abbrev start-state : State
  start-state = after_opening e d t

  pub first_part : (cs ds : List Call) → Follows e d t (cs ++ ds) → Follows e d t cs
  first_part cs ds f = record { low = f.low; opens = f.opens; proper = (proper-split e cs ds start-state false f.proper).0 }

  -- reading after a list that does not end in a cut
  pub reads : (cs : List Call) → Follows e d t cs → ends_cut false (answers e start-state cs) ≡ false → (v : ℕ) (out : List ℕ) → length out ≡ 2048
      → shown_after e d t cs v out ≡ look (store_after e d t cs) v
  unfolding Demand3
  reads cs f q v out long = (demand-3 e d t f.low f.opens cs f.proper).reads q v out long

  -- the plain store after one call more, and after an opening besides
  pub store-one : (cs : List Call) (c : Call) → store_after e d t (cs ++ (c ∷ [])) ≡ next (shape_of e) (store_after e d t cs) c (accepted (answer_after e d t cs c))
  unfolding followed answers
  store-one cs c = followed-append e (shape_of e) cs (c ∷ []) start-state (start e d)

  ends-one : (cs : List Call) (c : Call) → ends_cut false (answers e start-state (cs ++ (c ∷ []))) ≡ is_cut (answer_after e d t cs c)
  unfolding ends_cut answers
  ends-one cs c = ends-append e cs (c ∷ []) start-state false

  -- the answer says that the call was cut exactly if the plain store knows it
  pub told_at : (cs : List Call) (c : Call) (ds : List Call) → Follows e d t (cs ++ (c ∷ ds)) → Told (shape_of e) (store_after e d t cs) c (answer_after e d t cs c)
  unfolding CutExactly
  told_at cs c ds f =
      let h : length cs < length (cs ++ (c ∷ ds)) = omega (arith, length-append cs (c ∷ ds)) in
      rw (take-append_seam cs (c ∷ ds), get_or-append_seam cs c ds open_disc, answer_at e cs c ds start-state) at (cut-exactly e d t (cs ++ (c ∷ ds)) f (length cs) h)

  -- an opening is accepted
  opening-accepted : (cs ds : List Call) → Follows e d t (cs ++ (open_disc ∷ ds)) → accepted (answer_after e d t cs open_disc) ≡ true
  unfolding Demand3
  opening-accepted cs ds f =
      let l : List Call = cs ++ (open_disc ∷ ds) in
      let h : length cs < length l = omega (arith, length-append cs (open_disc ∷ ds)) in
      let o = (demand-3 e d t f.low f.opens l f.proper).opens (length cs) h (get_or-append_seam cs open_disc ds open_disc) in
      opened-accepted (answer_after e d t cs open_disc) (rw (answer_at e cs open_disc ds start-state) at o)

  -- only an opening follows a cut
  not-down : (cs : List Call) (c : Call) (ds : List Call) → (c ≡ open_disc → ⊥) → Follows e d t (cs ++ (c ∷ ds)) → ends_cut false (answers e start-state cs) ≡ false
  unfolding Proper answers
  not-down cs c ds n f =
      by_bool (ends_cut false (answers e start-state cs))
      (λ q. absurd (n ((proper-split e cs (c ∷ ds) start-state false f.proper).1.0 q)))
      (λ q. q)

  before : (cs : List Call) (c : Call) (ds : List Call) → (c ≡ open_disc → ⊥) → Follows e d t (cs ++ (c ∷ ds)) → (v : ℕ) (out : List ℕ) → length out ≡ 2048
      → shown_after e d t cs v out ≡ look (store_after e d t cs) v
  before cs c ds n f v out long = reads cs (first_part cs (c ∷ ds) f) (not-down cs c ds n f) v out long

  -- ---- a call that was carried out
  module _ (cs : List Call) (c : Call) (k : CarriedOut e d t cs c) where
    carried-test : was_cut (shape_of e) (store_after e d t cs) c ≡ false
    carried-test = sym (rw (k.accepts, k.uncut) at (told_at cs c [] k.follows))

    carried-store : store_after e d t (cs ++ (c ∷ [])) ≡ taken (shape_of e) (store_after e d t cs) c false
    unfolding next
    carried-store = store-one cs c ∙ rw (k.accepts, carried-test)

    carried-reads : (v : ℕ) (out : List ℕ) → length out ≡ 2048 → shown_after e d t (cs ++ (c ∷ [])) v out ≡ look (taken (shape_of e) (store_after e d t cs) c false) v
    carried-reads v out long =
        reads (cs ++ (c ∷ [])) k.follows (ends-one cs c ∙ k.uncut) v out long ∙ ap (λ (σ : Store). look σ v) carried-store

  -- ---- a call that was cut, on a rewritable disc
  opening-uncut : (st : State) → is_cut (step e st open_disc).answer ≡ false
  unfolding was_cut cut_in writes_in struck no_cut
  opening-uncut st = told-opening e (shape_of e) st (start e d) ∙ none (accepted (step e st open_disc).answer)
    where
      none : (b : Bool) → b && false ≡ false
      none true = refl
      none false = refl

  opening-same : (h : Shape) → h.once ≡ false → (σ : Store) (b : Bool) → next h σ open_disc b ≡ σ
  unfolding next was_cut cut_in writes_in struck no_cut taken
  opening-same h q σ true = rw q
  opening-same h q σ false = refl

  module _ (cs : List Call) (c : Call) (k : CutShort e d t cs c) where
    cut-told : (accepted (answer_after e d t cs c) ≡ true) × (was_cut (shape_of e) (store_after e d t cs) c ≡ true)
    cut-told = and-true _ _ (sym (told_at cs c (open_disc ∷ []) k.follows) ∙ k.struck)

    cut-ends : ends_cut false (answers e start-state (cs ++ (c ∷ open_disc ∷ []))) ≡ false
    unfolding ends_cut answers
    cut-ends = ends-append e cs (c ∷ open_disc ∷ []) start-state false ∙ opening-uncut _

    cut-next : next (shape_of e) (store_after e d t cs) c (accepted (answer_after e d t cs c)) ≡ taken (shape_of e) (store_after e d t cs) c true
    unfolding next
    cut-next = rw (cut-told.0, cut-told.1)

    cut-store : write_once e ≡ false → store_after e d t (cs ++ (c ∷ open_disc ∷ [])) ≡ taken (shape_of e) (store_after e d t cs) c true
    unfolding followed answers shape_of
    cut-store again =
        followed-append e (shape_of e) cs (c ∷ open_disc ∷ []) start-state (start e d)
        ∙ opening-same (shape_of e) again _ _
        ∙ cut-next

    cut-reads : write_once e ≡ false → (v : ℕ) (out : List ℕ) → length out ≡ 2048
        → shown_after e d t (cs ++ (c ∷ open_disc ∷ [])) v out ≡ look (taken (shape_of e) (store_after e d t cs) c true) v
    cut-reads again v out long =
        reads (cs ++ (c ∷ open_disc ∷ [])) k.follows cut-ends v out long ∙ ap (λ (σ : Store). look σ v) (cut-store again)

-- ---- refusals

pub refusals-change-nothing : RefusalsChangeNothing
unfolding RefusalsChangeNothing Proper answers next
refusals-change-nothing e d t cs c f a =
    let u : is_cut (answer_after e d t cs c) ≡ false = rw a at (told_at e d t cs c [] f) in
    let q : ends_cut false (answers e (after_opening e d t) cs) ≡ false =
    by_bool (ends_cut false (answers e (after_opening e d t) cs))
    (λ z.
    let o : c ≡ open_disc = (proper-split e cs (c ∷ []) (after_opening e d t) false f.proper).1.0 z in
    differ (opening-accepted e d t cs [] (rw o at f)) (rw o at a))
    (λ z. z) in (
      u,
      λ v out long.
          reads e d t (cs ++ (c ∷ [])) f (ends-one e d t cs c ∙ u) v out long
          ∙ ap (λ (σ : Store). look σ v) (store-one e d t cs c ∙ ap (next (shape_of e) (store_after e d t cs) c) a)
          ∙ sym (reads e d t cs (first_part e d t cs (c ∷ []) f) q v out long),
    )

-- ---- what the acceptance of a call tells

kind-again : (e : Setting) (d : Disc) (t : List ℕ) (lent : Bool) (r : Record) (own : List Test) → rewritable_verdict e d t lent r own ≡ Ok tt → write_once e ≡ false
unfolding rewritable_verdict
kind-again e d t lent r own g =
    let p = then-go (examined e d lent) _ g in
    not-true _ (passed (test (not (write_once e)) OtherKind ∷ (copy_tests e d ++ (test (held_current e d t r) StaleRecord ∷ own))) p.1).0

kind-once : (e : Setting) (d : Disc) (t : List ℕ) (lent : Bool) (r : Record) (own : List Test) → once_verdict e d t lent r own ≡ Ok tt → write_once e ≡ true
unfolding once_verdict
kind-once e d t lent r own g =
    let p = then-go (examined e d lent) _ g in
    (passed (test (write_once e) OtherKind ∷ test (held_fits e d t r) StaleRecord ∷ own) p.1).0

module _ (e : Setting) (st : State) where
  save-told : (v : ℕ) (b : List ℕ) (c : Cut) → accepted (step e st (save_virtual v b c)).answer ≡ true → (write_once e ≡ true) × (v ≤ entries_held st.held)
  unfolding step save_plan number_fits save_tests
  save-told v b c a =
      let g = plan-goes _ _ _ c st a in
      let p = once-tells e st.disc st.table _ st.held (save_tests e st.disc st.held v b) g in
      (kind-once e _ _ _ _ _ g, leb-true _ _ (and-true (leb v (entries_held st.held)) _ p.1.0).0)

  free-told : (v : ℕ) → accepted (step e st (free_virtual v)).answer ≡ true → (write_once e ≡ true) × (v < entries_held st.held)
  unfolding step free_plan entry_tests
  free-told v a =
      let g = plan-goes _ _ _ no_cut st a in
      let p = once-tells e st.disc st.table _ st.held (entry_tests st.table st.held v) g in
      (kind-once e _ _ _ _ _ g, ltb-true _ _ p.1.0)

  pub block-told : (b : ℕ) (x : List ℕ) (c : Cut) → accepted (step e st (save_block b x c)).answer ≡ true → (write_once e ≡ false) × (b < e.span)
  unfolding step save_block_plan save_block_tests block_test
  block-told b x c a =
      let g = plan-goes _ _ _ c st a in
      let p = again-tells e st.disc st.table _ st.held (save_block_tests e st.disc b) g in
      (kind-again e _ _ _ _ _ g, ltb-true _ _ p.1.0)

  pub packet-told : (b : ℕ) (x : List ℕ) (c : Cut) → accepted (step e st (save_packet b x c)).answer ≡ true → (write_once e ≡ false) × (b % 32 ≡ 0) × (b < e.span)
  unfolding step save_packet_plan packet_tests
  packet-told b x c a =
      let g = plan-goes _ _ _ c st a in
      let p = again-tells e st.disc st.table _ st.held (packet_tests e st.disc b) g in
      let q = and-true (eqb (b % 32) 0) _ p.1.0 in
      (kind-again e _ _ _ _ _ g, eqb-true _ _ q.0, ltb-true _ _ q.1)

  pub spare-told : (b : ℕ) (x : List ℕ) (c : Cut) → accepted (step e st (spare_packet b x c)).answer ≡ true → (write_once e ≡ false) × (b % 32 ≡ 0) × (b < e.span)
  unfolding step spare_plan spare_tests packet_tests
  spare-told b x c a =
      let g = plan-goes _ _ _ c st a in
      let p = again-tells e st.disc st.table _ st.held (spare_tests e st.disc b) g in
      let q = and-true (eqb (b % 32) 0) _ p.1.0 in
      (kind-again e _ _ _ _ _ g, eqb-true _ _ q.0, ltb-true _ _ q.1)

-- ---- write-once discs

-- N blocks before a call that is no opening
count-once : (e : Setting) (d : Disc) (t : List ℕ) (cs : List Call) (c : Call) (ds : List Call) → (c ≡ open_disc → ⊥) → write_once e ≡ true → Follows e d t (cs ++ (c ∷ ds))
    → length (store_after e d t cs).blocks ≡ entries_held (final e (after_opening e d t) cs).held
count-once e d t cs c ds n one f = once-blocks e d t one f.opens cs (first_part e d t cs (c ∷ ds) f).proper (not-down e d t cs c ds n f)

save-differs : (v : ℕ) (b : List ℕ) (c : Cut) → save_virtual v b c ≡ open_disc → ⊥
save-differs v b c q = let z : ◌≡◌ {A = ℕ} 0 1 = cc in omega arith

free-differs : (v : ℕ) → free_virtual v ≡ open_disc → ⊥
free-differs v q = let z : ◌≡◌ {A = ℕ} 0 1 = cc in omega arith

-- a save gives its block the lent bytes, and free makes it unused
pub once-effect : OnceEffect
unfolding taken seen_as
once-effect =
    record {
      save = λ e d t cs v b c k u out long.
          let n = save-differs v b c in
          let a = save-told e _ v b c k.accepts in
          let m = count-once e d t cs (save_virtual v b c) [] n a.0 k.follows in
          carried-reads e d t cs (save_virtual v b c) k u out long
          ∙ look-put (store_after e d t cs) _ v (holds b) (omega (arith, a.1)) u
          ∙ ap (cond (eqb u v) (bytes b)) (sym (before e d t cs (save_virtual v b c) [] n k.follows u out long));
      free = λ e d t cs v k u out long.
          let n = free-differs v in
          let a = free-told e _ v k.accepts in
          let m = count-once e d t cs (free_virtual v) [] n a.0 k.follows in
          carried-reads e d t cs (free_virtual v) k u out long
          ∙ look-set (store_after e d t cs) _ v unused (omega (arith, a.1)) u
          ∙ ap (cond (eqb u v) (turned UnusedEntry)) (sym (before e d t cs (free_virtual v) [] n k.follows u out long));
    }

-- an opening returns to the copy
opening-returns : (h : Shape) → h.once ≡ true → (σ : Store) → next h σ open_disc true ≡ store σ.copy σ.copy
unfolding next was_cut cut_in writes_in struck no_cut taken
opening-returns h q σ = rw q

-- every opening of a write-once disc brings back the copy
pub last-commit : LastCommit
unfolding LastCommit shape_of
last-commit e d t cs one f v out long =
    reads e d t (cs ++ (open_disc ∷ [])) f (ends-one e d t cs open_disc ∙ opening-uncut e d t _) v out long
    ∙ ap (λ (σ : Store). look σ v)
    (store-one e d t cs open_disc
    ∙ ap (next (shape_of e) (store_after e d t cs) open_disc) (opening-accepted e d t cs [] f)
    ∙ opening-returns (shape_of e) one (store_after e d t cs))

-- a sparing that was cut has a write at which it was
spare-at : (h : Shape) (σ : Store) (b : ℕ) (x : List ℕ) (c : Cut) → was_cut h σ (spare_packet b x c) ≡ true → 1 ≤ c.at
unfolding was_cut cut_in struck
spare-at h σ b x c q = leb-true _ _ (and-true (leb 1 c.at) _ q).0

-- the copy after a call
copy-next : (h : Shape) (σ : Store) (c : Call) (b : Bool) → (next h σ c b).copy ≡ cond (b && lays_icb h σ c) σ.blocks σ.copy
unfolding next taken lays_icb writes_in
copy-next h σ c false = refl
copy-next h σ (save_virtual v b c) true = by_bool (was_cut h σ (save_virtual v b c)) (λ q. rw q) (λ q. rw q)
copy-next h σ (free_virtual v) true = by_bool (was_cut h σ (free_virtual v)) (λ q. rw q) (λ q. rw q)
copy-next h σ (commit c) true =
    by_bool (was_cut h σ (commit c))
    (λ q. rw q (cond_both (λ (τ : Store). τ.copy) _ _ (whole_same _ _ c (omega arith)) refl refl))
    (λ q. rw q)
copy-next h σ (save_block b x c) true = by_bool (was_cut h σ (save_block b x c)) (λ q. rw q) (λ q. rw q)
copy-next h σ (save_packet b x c) true = by_bool (was_cut h σ (save_packet b x c)) (λ q. rw q) (λ q. rw q)
copy-next h σ (spare_packet b x c) true =
    by_bool (was_cut h σ (spare_packet b x c))
    (λ q. rw q (spared-cut h σ b x c (λ (τ : Store). τ.copy ≡ σ.copy) (spare-at h σ b x c q) (λ w. refl) (λ w. refl)))
    (λ q. rw q)
copy-next h σ open_disc true =
    by_bool (was_cut h σ open_disc)
    (λ q. rw q)
    (λ q. by_bool h.once (λ w. rw (q, w)) (λ w. rw (q, w)))

-- is that of the last commit whose ICB was recorded whole
pub copy-by-commit : CopyByCommit
unfolding CopyByCommit
copy-by-commit e d t cs c =
    ap (λ (σ : Store). σ.copy) (store-one e d t cs c) ∙ copy-next (shape_of e) (store_after e d t cs) c (accepted (answer_after e d t cs c))

-- ---- rewritable discs

-- L blocks, in whole packets, before a call that is no opening
count-again : (e : Setting) (d : Disc) (t : List ℕ) (cs : List Call) (c : Call) (ds : List Call) → (c ≡ open_disc → ⊥) → write_once e ≡ false → Follows e d t (cs ++ (c ∷ ds))
    → (length (store_after e d t cs).blocks ≡ e.span) × (e.span % 32 ≡ 0)
count-again e d t cs c ds n again f =
    again-blocks e d t f.low again f.opens cs (first_part e d t cs (c ∷ ds) f).proper (not-down e d t cs c ds n f)

block-differs : (b : ℕ) (x : List ℕ) (c : Cut) → save_block b x c ≡ open_disc → ⊥
block-differs b x c q = let z : ◌≡◌ {A = ℕ} 0 1 = cc in omega arith

packet-differs : (b : ℕ) (x : List ℕ) (c : Cut) → save_packet b x c ≡ open_disc → ⊥
packet-differs b x c q = let z : ◌≡◌ {A = ℕ} 0 1 = cc in omega arith

spare-differs : (b : ℕ) (x : List ℕ) (c : Cut) → spare_packet b x c ≡ open_disc → ⊥
spare-differs b x c q = let z : ◌≡◌ {A = ℕ} 0 1 = cc in omega arith

-- the blocks that a call gives the lent bytes read so
pub full-effect : FullEffect
unfolding taken seen_as
full-effect =
    record {
      block = λ e d t cs b x c k v out long.
          let n = block-differs b x c in
          let a = block-told e _ b x c k.accepts in
          let m = count-again e d t cs (save_block b x c) [] n a.0 k.follows in
          carried-reads e d t cs (save_block b x c) k v out long
          ∙ look-set (store_after e d t cs) _ b (holds x) (omega (arith, a.1, m.0)) v
          ∙ ap (cond (eqb v b) (bytes x)) (sym (before e d t cs (save_block b x c) [] n k.follows v out long));
      packet = λ e d t cs b x c k v out long.
          let n = packet-differs b x c in
          let a = packet-told e _ b x c k.accepts in
          let m = count-again e d t cs (save_packet b x c) [] n a.0 k.follows in
          carried-reads e d t cs (save_packet b x c) k v out long
          ∙ look-puts (store_after e d t cs) b a.1 (omega (arith, a.1, a.2, m.0, m.1)) _ x v
          ∙ ap (cond (eqb (packet_of v) b) (bytes (part x (2048 * (v % 32)) 2048))) (sym (before e d t cs (save_packet b x c) [] n k.follows v out long));
      spare = λ e d t cs b x c k v out long.
          let n = spare-differs b x c in
          let a = spare-told e _ b x c k.accepts in
          let m = count-again e d t cs (spare_packet b x c) [] n a.0 k.follows in
          carried-reads e d t cs (spare_packet b x c) k v out long
          ∙ look-puts (store_after e d t cs) b a.1 (omega (arith, a.1, a.2, m.0, m.1)) _ x v
          ∙ ap (cond (eqb (packet_of v) b) (bytes (part x (2048 * (v % 32)) 2048))) (sym (before e d t cs (spare_packet b x c) [] n k.follows v out long));
    }

-- the same plan, not cut
uncut-plan : (v : Verdict) (ws : List Write) (tb : List ℕ) (r : Record) (st : State) → v ≡ Ok tt
    → (accepted (carried (unless v (carry ws tb r)) no_cut st).answer ≡ true) × (is_cut (carried (unless v (carry ws tb r)) no_cut st).answer ≡ false)
unfolding carried unless reply_of answer_of accepted is_cut struck no_cut
uncut-plan v ws tb r st g = rw g (refl, refl)

spare-uncut : (e : Setting) (st : State) (b : ℕ) (x : List ℕ) (c : Cut) → accepted (step e st (spare_packet b x c)).answer ≡ true
    → (accepted (step e st (spare_packet b x no_cut)).answer ≡ true) × (is_cut (step e st (spare_packet b x no_cut)).answer ≡ false)
unfolding step spare_plan
spare-uncut e st b x c a = uncut-plan _ _ _ _ st (plan-goes _ _ _ c st a)

-- a sparing that was cut is done whole or not at all
pub spare-all-or-nothing : SpareAllOrNothing
unfolding SpareAllOrNothing Proper answers taken
spare-all-or-nothing e d t cs b x c k v out long =
    let n = spare-differs b x c in
    let a = (cut-told e d t cs (spare_packet b x c) k).0 in
    let u = spare-uncut e (final e (after_opening e d t) cs) b x c a in
    let w = cut-reads e d t cs (spare_packet b x c) k (spare-told e _ b x c a).0 v out long in
    let q = not-down e d t cs (spare_packet b x c) (open_disc ∷ []) n k.follows in
    let o : CarriedOut e d t cs (spare_packet b x no_cut) =
    record {
      follows = record {
        low = k.follows.low;
        opens = k.follows.opens;
        proper =
            proper-join e cs (spare_packet b x no_cut ∷ []) (after_opening e d t) false (first_part e d t cs _ k.follows).proper
            (λ z. absurd (false≢true (sym q ∙ z)), tt);
      };
      accepts = u.0;
      uncut = u.1;
    } in
    w
    ∙ cond_both (λ (σ : Store). look σ v) _ _ (whole_same _ _ c (omega arith))
    (sym (carried-reads e d t cs (spare_packet b x no_cut) o v out long))
    (sym (before e d t cs (spare_packet b x c) (open_disc ∷ []) n k.follows v out long))

-- a save that was cut touches its own packet alone, each sector by how its write landed
pub save-own-packet : SaveOwnPacket
unfolding taken seen_as
save-own-packet =
    record {
      block = λ e d t cs b x c k v out long.
          let n = block-differs b x c in
          let σ : Store = store_after e d t cs in
          let a = block-told e _ b x c (cut-told e d t cs (save_block b x c) k).0 in
          let m = count-again e d t cs (save_block b x c) (open_disc ∷ []) n a.0 k.follows in
          let fits : packet_of b + 32 ≤ length σ.blocks = omega (arith, m.0, packet-inside b e.span m.1 a.1) in
          let w = sym (before e d t cs (save_block b x c) (open_disc ∷ []) n k.follows v out long) in
          cut-reads e d t cs (save_block b x c) k a.0 v out long
          ∙ look-cut σ (packet_of b) (packet-multiple b) fits c σ.copy (packet_with σ.blocks b x) (length-with σ b x fits) v
          ∙ choice (packet_of v) (packet_of b)
          (λ q.
          rw (eq-eqb (packet_of v) (packet_of b) q)
          (ap₂ (seen_landed (landing (1 + v % 32) c)) w (look-with σ b x fits v q ∙ ap (cond (eqb v b) (bytes x)) w)))
          (λ q. rw (ne_eqb (packet_of v) (packet_of b) q) w);
      packet = λ e d t cs b x c k v out long.
          let n = packet-differs b x c in
          let σ : Store = store_after e d t cs in
          let a = packet-told e _ b x c (cut-told e d t cs (save_packet b x c) k).0 in
          let m = count-again e d t cs (save_packet b x c) (open_disc ∷ []) n a.0 k.follows in
          let w = sym (before e d t cs (save_packet b x c) (open_disc ∷ []) n k.follows v out long) in
          cut-reads e d t cs (save_packet b x c) k a.0 v out long
          ∙ look-cut σ b a.1 (omega (arith, a.1, a.2, m.0, m.1)) c σ.copy (slots_in 32 x 0) (length-blocks 32 x 0) v
          ∙ ap₂ (λ (o y : Seen). cond (eqb (packet_of v) b) (seen_landed (landing (1 + v % 32) c) o y) o) w (ap seen_as (lent-block x (v % 32) (omega arith)));
    }
