-- The claims of 02, slip 5: lines 25 and 14 go by the first sector that is not recorded (specs/Blank.antt), and a number that reads 25 on a
-- write-once disc does so until it is saved or freed (specs/Consequences.antt). Assumes nothing.
use Prim.Native.Nat.{ℕ, zero, suc, ◌+◌, ◌-◌, ◌<◌}
use mathlib.Core.Bool.{true, false, not, ◌&&◌}
use mathlib.Core.Logic.{◌≢◌}
use mathlib.Core.Path.{◌≡◌, refl, sym, ap, ap₂, ◌∙◌, subst}
use mathlib.Core.List.{List, [], ◌∷◌, ◌++◌, append_assoc, append-nil}
use native.Mathlib.Omega.{arith}
use lib.Dec.{eqb, ltb}
use lib.ListN.{length, get_or, set}
use lib.Seq.{get_or-set_other}
use borrow.Author.Tests.{eqb-true, eq-eqb, lt-ltb, not-true}
use Rattle.refusal.specs.declared.Refusal.TheVariants.{BlankSector}
use Rattle.model.specs.Disc.{Disc, mark, recorded, recorded_run, first_mark}
use Rattle.model.specs.Examine.{Setting, write_once}
use Rattle.model.specs.Rewrite.{other_mark}
use Rattle.model.specs.Calls.{Call, save_virtual, free_virtual, commit, save_block, save_packet, spare_packet, open_disc, State, step, answers, final, accepted, is_cut}
use Rattle.model.specs.Store.{Slot, holds, unused, unreadable, blank, reserved, Store, Shape, store, start, shape_of, writes_in, was_cut, whole_at, put, taken, next, turned, seen_as, look}
use Rattle.model.specs.Demand.{after_opening, followed}
use Rattle.model.specs.Consequences.{Follows, store_after, saves, leaves, BlankStays}
use Rattle.model.specs.Blank.{FirstOfRun, FirstOfOthers}
use Rattle.model.proofs.Basics.{by_bool, by-lt, and-true, both, differ}
use Rattle.model.proofs.Marks.{first-mark}
use Rattle.model.proofs.SectorsRuns.{recorded_run-all}
use Rattle.model.proofs.Steps.{Told}
use Rattle.model.proofs.ConsequencesLists.{final-append}
use Rattle.model.proofs.Consequences.{first_part, reads, store-one, told_at, block-told, packet-told, spare-told}

-- ---- the first that is not recorded

pub first-of-run : FirstOfRun
unfolding FirstOfRun first_mark
first-of-run d p zero i h below here = absurd (omega arith)
first-of-run d p (suc n) zero h below here =
    let z : p + 0 ≡ p = omega arith in
    rw (ap (recorded d) (sym z) ∙ here, z)
first-of-run d p (suc n) (suc i) h below here =
    let z : p + 0 ≡ p = omega arith in
    let w : p + suc i ≡ p + 1 + i = omega arith in
    rw (ap (recorded d) (sym z) ∙ below 0 (omega arith), w)
    (first-of-run d (p + 1) n i (omega arith)
    (λ j l. let y : p + suc j ≡ p + 1 + j = omega arith in ap (recorded d) (sym y) ∙ below (suc j) (omega arith))
    (ap (recorded d) (sym w) ∙ here))

pub first-of-others : FirstOfOthers
unfolding FirstOfOthers FirstOfRun other_mark recorded
first-of-others d p k i hk hi ne below here =
    by-lt i k
    (λ l.
    let q : first_mark d p k ≡ mark d (p + i) = first-of-run d p k i l (λ j m. below j m (omega arith)) here in
    let f : recorded_run d p k ≡ false = sym (first-mark d p k) ∙ ap (λ (m : ℕ). eqb m 1) q ∙ here in
    rw f q)
    (λ l.
    let f : recorded_run d p k ≡ true = recorded_run-all d p k (λ j m. eqb-true _ _ (below j (omega arith) (omega arith))) in
    let z : (j : ℕ) → p + k + 1 + j ≡ p + (k + 1 + j) = λ j. omega arith in
    let w : p + k + 1 + (i - (k + 1)) ≡ p + i = omega arith in
    rw f
    (first-of-run d (p + k + 1) (31 - k) (i - (k + 1)) (omega arith)
    (λ j m. ap (recorded d) (z j) ∙ below (k + 1 + j) (omega arith) (omega arith))
    (ap (recorded d) w ∙ here)
    ∙ ap (mark d) w))

-- ---- blank blocks of the plain store

unused-differs : {P : Type 0} → unused ≡ blank → P
unused-differs q = let z : ◌≡◌ {A = ℕ} 0 1 = cc in absurd (omega arith)

holds-differs : (b : List ℕ) → holds b ≢ blank
holds-differs b q = let z : ◌≡◌ {A = ℕ} 0 1 = cc in omega arith

-- one block changed to another that is not blank makes none blank
set-blank : (l : List Slot) (u v : ℕ) (x : Slot) → x ≢ blank → get_or (set l u x) v unused ≡ blank → get_or l v unused ≡ blank
set-blank [] u v x n q = q
set-blank (y ∷ l) zero zero x n q = absurd (n q)
set-blank (y ∷ l) zero (suc v) x n q = q
set-blank (y ∷ l) (suc u) zero x n q = q
set-blank (y ∷ l) (suc u) (suc v) x n q = set-blank l u v x n q

-- nor does one more
more-blank : (l : List Slot) (x : Slot) (v : ℕ) → x ≢ blank → get_or (l ++ (x ∷ [])) v unused ≡ blank → get_or l v unused ≡ blank
more-blank [] x zero n q = absurd (n q)
more-blank [] x (suc v) n q = q
more-blank (y ∷ l) x zero n q = q
more-blank (y ∷ l) x (suc v) n q = more-blank l x v n q

more-kept : (l : List Slot) (x : Slot) (v : ℕ) → get_or l v unused ≡ blank → get_or (l ++ (x ∷ [])) v unused ≡ blank
more-kept [] x v q = unused-differs q
more-kept (y ∷ l) x zero q = q
more-kept (y ∷ l) x (suc v) q = more-kept l x v q

put-blank : (l : List Slot) (u v : ℕ) (b : List ℕ) → get_or (put l u (holds b)) v unused ≡ blank → get_or l v unused ≡ blank
unfolding put
put-blank l u v b q =
    by_bool (ltb u (length l))
    (λ h. set-blank l u v (holds b) (holds-differs b) (rw h at q))
    (λ h. more-blank l (holds b) v (holds-differs b) (rw h at q))

put-kept : (l : List Slot) (u v : ℕ) (x : Slot) → v ≢ u → get_or l v unused ≡ blank → get_or (put l u x) v unused ≡ blank
unfolding put
put-kept l u v x n q =
    by_bool (ltb u (length l))
    (λ h. rw h (get_or-set_other l u v x unused n ∙ q))
    (λ h. rw h (more-kept l x v q))

-- a block that is blank is one of them
blank-inside : (l : List Slot) (v : ℕ) → get_or l v unused ≡ blank → v < length l
blank-inside [] v q = unused-differs q
blank-inside (x ∷ l) zero q = omega arith
blank-inside (x ∷ l) (suc v) q = omega (arith, blank-inside l v q)

-- and 25 is shown of blank blocks alone
seen-blank : (x : Slot) → seen_as x ≡ turned BlankSector → x ≡ blank
unfolding seen_as
seen-blank (holds b) q = let z : ◌≡◌ {A = ℕ} 0 1 = cc in absurd (omega arith)
seen-blank unused q = let z : ◌≡◌ {A = ℕ} 0 1 = cc in absurd (omega arith)
seen-blank unreadable q = let z : ◌≡◌ {A = ℕ} 0 1 = cc in absurd (omega arith)
seen-blank blank q = refl
seen-blank reserved q = let z : ◌≡◌ {A = ℕ} 0 1 = cc in absurd (omega arith)

look-blank : (σ : Store) (v : ℕ) → look σ v ≡ turned BlankSector → get_or σ.blocks v unused ≡ blank
unfolding look
look-blank σ v q =
    by_bool (ltb v (length σ.blocks))
    (λ h. seen-blank _ (rw h at q))
    (λ h. let w = rw h at q in let z : ◌≡◌ {A = ℕ} 0 1 = cc in absurd (omega arith))

blank-look : (σ : Store) (v : ℕ) → get_or σ.blocks v unused ≡ blank → look σ v ≡ turned BlankSector
unfolding look seen_as
blank-look σ v q = rw (lt-ltb _ _ (blank-inside σ.blocks v q), q)

module _ (e : Setting) (one : write_once e ≡ true) where
  abbrev h : Shape
  h = shape_of e

  -- a call saves or frees number u: it is accepted and not cut
  abbrev Done : State → Store → Call → ℕ → Type 0
  Done st σ c u = (accepted (step e st c).answer ≡ true) × (was_cut h σ c ≡ false) × (saves u c ≡ true)

  -- ---- what a call on a write-once disc makes of the plain store: nothing, a commit, an opening, a block saved or one freed

  module _ (P : Store → Type 0) (st : State) (σ : Store) where
    none-taken : (c : Call) → (accepted (step e st c).answer ≡ true → write_once e ≡ false) → P σ → P (next h σ c (accepted (step e st c).answer))
    unfolding next
    none-taken c f k = by_bool (accepted (step e st c).answer) (λ a. differ one (f a)) (λ a. rw a k)

    once-next : (c : Call) → P σ → P (store σ.blocks σ.blocks) → P (store σ.copy σ.copy)
        → ((u : ℕ) (b : List ℕ) → Done st σ c u → P (store (put σ.blocks u (holds b)) σ.copy))
        → ((u : ℕ) → Done st σ c u → P (store (set σ.blocks u unused) σ.copy))
        → P (next h σ c (accepted (step e st c).answer))
    unfolding next taken saves shape_of
    once-next (save_virtual u b c) same committed opened saved freed =
        by_bool (accepted (step e st (save_virtual u b c)).answer)
        (λ a.
        by_bool (was_cut h σ (save_virtual u b c))
        (λ w. rw (a, w) same)
        (λ w. rw (a, w) (saved u b (a, w, eq-eqb u u refl))))
        (λ a. rw a same)
    once-next (free_virtual u) same committed opened saved freed =
        by_bool (accepted (step e st (free_virtual u)).answer)
        (λ a.
        by_bool (was_cut h σ (free_virtual u))
        (λ w. rw (a, w) same)
        (λ w. rw (a, w) (freed u (a, w, eq-eqb u u refl))))
        (λ a. rw a same)
    once-next (commit c) same committed opened saved freed =
        by_bool (accepted (step e st (commit c)).answer)
        (λ a.
        by_bool (was_cut h σ (commit c))
        (λ w. by_bool (whole_at (writes_in h σ (commit c)) c) (λ y. rw (a, w, y) committed) (λ y. rw (a, w, y) same))
        (λ w. rw (a, w) committed))
        (λ a. rw a same)
    once-next (save_block b x c) same committed opened saved freed = none-taken (save_block b x c) (λ a. (block-told e st b x c a).0) same
    once-next (save_packet b x c) same committed opened saved freed = none-taken (save_packet b x c) (λ a. (packet-told e st b x c a).0) same
    once-next (spare_packet b x c) same committed opened saved freed = none-taken (spare_packet b x c) (λ a. (spare-told e st b x c a).0) same
    once-next open_disc same committed opened saved freed =
        by_bool (accepted (step e st open_disc).answer)
        (λ a.
        by_bool (was_cut h σ open_disc)
        (λ w. rw (a, w) same)
        (λ w. rw (a, w, one) opened))
        (λ a. rw a same)

  -- ---- number v
  module _ (v : ℕ) where
    -- it is blank in the copy if it is in the store
    abbrev Back : Store → Type 0
    Back σ = get_or σ.blocks v unused ≡ blank → get_or σ.copy v unused ≡ blank

    -- it is blank in both
    abbrev Both : Store → Type 0
    Both σ = (get_or σ.blocks v unused ≡ blank) × (get_or σ.copy v unused ≡ blank)

    back-list : (cs : List Call) (st : State) (σ : Store) → Back σ → Back (followed h σ cs (answers e st cs))
    unfolding followed answers
    back-list [] st σ k = k
    back-list (c ∷ cs) st σ k =
        back-list cs (step e st c).state _
        (once-next Back st σ c k (λ q. q) (λ q. q)
        (λ u b a q. k (put-blank σ.blocks u v b q))
        (λ u a q. k (set-blank σ.blocks u v unused unused-differs q)))

    -- a call that does not save or free it is one of another number
    other-number : (st : State) (σ : Store) (c : Call) (u : ℕ) → Told h σ c (step e st c).answer
        → not (accepted (step e st c).answer && (not (is_cut (step e st c).answer) && saves v c)) ≡ true → Done st σ c u → v ≢ u
    other-number st σ c u told n m q =
        let uncut : is_cut (step e st c).answer ≡ false = told ∙ ap₂ ◌&&◌ m.0 m.1 in
        differ (both m.0 (both (ap not uncut) (ap (λ (x : ℕ). saves x c) q ∙ m.2))) (not-true _ n)

    both-list : (d : Disc) (t : List ℕ) (cs later : List Call) → Follows e d t (cs ++ later) → Both (store_after e d t cs)
        → leaves v later (answers e (final e (after_opening e d t) cs) later) ≡ true → Both (store_after e d t (cs ++ later))
    unfolding answers final leaves
    both-list d t cs [] f k q = subst (λ (l : List Call). Both (store_after e d t l)) (sym (append-nil cs)) k
    both-list d t cs (c ∷ later) f k q =
        let st = final e (after_opening e d t) cs in
        let σ : Store = store_after e d t cs in
        let p = and-true _ _ q in
        let other : (u : ℕ) → Done st σ c u → v ≢ u = λ u. other-number st σ c u (told_at e d t cs c later f) p.0 in
        let after : Both (store_after e d t (cs ++ (c ∷ []))) =
        subst Both (sym (store-one e d t cs c))
        (once-next Both st σ c k (k.0, k.0) (k.1, k.1)
        (λ u b m. (put-kept σ.blocks u v (holds b) (other u m) k.0, k.1))
        (λ u m. (get_or-set_other σ.blocks u v unused unused (other u m) ∙ k.0, k.1))) in
        let w : (cs ++ (c ∷ [])) ++ later ≡ cs ++ (c ∷ later) = append_assoc cs (c ∷ []) later in
        subst (λ (l : List Call). Both (store_after e d t l)) w
        (both-list d t (cs ++ (c ∷ [])) later
        (subst (Follows e d t) (sym w) f)
        after
        (ap (λ (x : State). leaves v later (answers e x later)) (final-append e cs (c ∷ []) (after_opening e d t)) ∙ p.1))

pub blank-stays : BlankStays
unfolding BlankStays start
blank-stays e d t cs later one f ends ends-all v out long shows left =
    let st = after_opening e d t in
    let σ : Store = store_after e d t cs in
    let is : get_or σ.blocks v unused ≡ blank = look-blank σ v (sym (reads e d t cs (first_part e d t cs later f) ends v out long) ∙ shows) in
    let back = back-list e one v cs st (start e d) (λ q. q) is in
    reads e d t (cs ++ later) f ends-all v out long
    ∙ blank-look _ v (both-list e one v d t cs later f (is, back) left).0
