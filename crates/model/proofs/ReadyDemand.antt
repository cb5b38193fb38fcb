-- Demand 3 on a rewritable disc. Assumes nothing.
use Prim.Native.Nat.{ℕ, ◌%◌, ◌<◌}
use mathlib.Core.Bool.{Bool, true, false, false≢true}
use mathlib.Core.Path.{◌≡◌, refl, sym, ◌∙◌, subst}
use mathlib.Core.List.{List, ◌∷◌, ◌++◌}
use lib.ListN.{length, get_or, take}
use Rattle.refusal.specs.declared.Refusal.TheVariants.{OtherKind, StaleRecord}
use Rattle.std.specs.Prelude.{Ok}
use Rattle.refusal.specs.Tests.{Test, test}
use Rattle.refusal.proofs.Laws.{passed}
use Rattle.maps.specs.Kinds.{read_maps}
use Rattle.model.specs.declared.Record.{Record}
use Rattle.model.specs.Disc.{Disc}
use Rattle.model.specs.Writes.{no_cut}
use Rattle.model.specs.Sparing.{Geometry, Entry}
use Rattle.model.specs.Examine.{Setting, write_once, examined, geometry}
use Rattle.model.specs.Once.{held_fits, once_verdict, save_plan, free_plan, commit_plan}
use Rattle.model.specs.Rewrite.{table_on, entries_on}
use Rattle.model.specs.Both.{opening, open_verdict}
use Rattle.model.specs.Calls.{Call, save_virtual, free_virtual, commit, save_block, save_packet, spare_packet, open_disc, cut, State, step, answers, final, answer_of_opening, is_opened, Proper, ends_cut}
use Rattle.model.specs.Store.{Store, Shape, shape_of, start, cut_in}
use Rattle.model.specs.Demand.{Below, after_opening, followed, Kept}
use Rattle.model.proofs.Verdicts.{open-maps, then-go}
use Rattle.model.proofs.Ground.{Ground}
use Rattle.model.proofs.Ready.{LiveAgain, ready-table, read_again}
use Rattle.model.proofs.ReadyOpen.{Keeps, keeps-own, AgainOk, reopened-again, first-ground, first-again}
use Rattle.model.proofs.ReadyCalls.{sound-packet, sound-block, told-packet, told-block}
use Rattle.model.proofs.ReadySpare.{sound-spare, told-spare}
use Rattle.model.proofs.OnceDemand.{accepted-goes}
use Rattle.model.proofs.ConsequencesLists.{final-append, proper-split}
use Rattle.model.proofs.Steps.{list-state, Told, told-plan, told-opening, list-told, Sound, sound-plan, list-opens, list-ends}
use Rattle.refusal.specs.Verdict.{verdict_of}

-- a call for write-once discs never goes on
other-kind : {P : Type 0} (e : Setting) (d : Disc) (t : List ℕ) (lent : Bool) (r : Record) (own : List Test) → write_once e ≡ false → once_verdict e d t lent r own ≡ Ok tt → P
unfolding once_verdict
other-kind e d t lent r own again g =
    let p = then-go (examined e d lent) _ g in
    let q = passed (test (write_once e) OtherKind ∷ test (held_fits e d t r) StaleRecord ∷ own) p.1 in
    absurd (false≢true (sym again ∙ q.0))

module _ (e : Setting) (again : write_once e ≡ false) (maps-go : verdict_of (read_maps e.maps) ≡ Ok tt) (g : Geometry) (γ : Ground e g)
    (tables : (shape_of e).tables ≡ length g.tables) (es : List Entry) where
  abbrev h : Shape
  h = shape_of e

  shape-again : h.once ≡ false
  unfolding shape_of
  shape-again = again

  sound-live : (st : State) (σ : Store) (c : Call) (n : ℕ) (l : List ℕ) → LiveAgain e g st n l σ → Keeps es l → Sound (AgainOk e g es) h σ c (step e st c)
  unfolding step save_plan free_plan commit_plan AgainOk
  sound-live st σ (save_virtual v b c) n l i kept = sound-plan (AgainOk e g es) h σ (save_virtual v b c) c st _ _ _ _ (n, l, i, kept) λ go. other-kind e _ _ _ _ _ again go
  sound-live st σ (free_virtual v) n l i kept = sound-plan (AgainOk e g es) h σ (free_virtual v) no_cut st _ _ _ _ (n, l, i, kept) λ go. other-kind e _ _ _ _ _ again go
  sound-live st σ (commit c) n l i kept = sound-plan (AgainOk e g es) h σ (commit c) c st _ _ _ _ (n, l, i, kept) λ go. other-kind e _ _ _ _ _ again go
  sound-live st σ (save_block b x c) n l i kept = sound-block e g γ h st σ n l i es kept b x c
  sound-live st σ (save_packet b x c) n l i kept = sound-packet e g γ h st σ n l i es kept b x c
  sound-live st σ (spare_packet b x c) n l i kept = sound-spare e g γ h tables st σ n l i b x c es kept
  sound-live st σ open_disc n l i kept = (reopened-again e g again γ maps-go h shape-again st σ n l i.ready i.lent es kept).sound

  sound-any : (down : Bool) (st : State) (σ : Store) (c : Call) → AgainOk e g es down st σ → (down ≡ true → c ≡ open_disc) → Sound (AgainOk e g es) h σ c (step e st c)
  unfolding AgainOk
  sound-any true st σ c o q =
      subst (λ (x : Call). Sound (AgainOk e g es) h σ x (step e st x)) (sym (q refl)) (reopened-again e g again γ maps-go h shape-again st σ o.0 o.1 o.2 o.3 es o.4).sound
  sound-any false st σ c o q = sound-live st σ c o.0 o.1 o.2 o.3

  opens-any : (down : Bool) (st : State) (σ : Store) → AgainOk e g es down st σ → is_opened (step e st open_disc).answer ≡ true
  unfolding AgainOk
  opens-any true st σ o = (reopened-again e g again γ maps-go h shape-again st σ o.0 o.1 o.2 o.3 es o.4).accepts
  opens-any false st σ o = (reopened-again e g again γ maps-go h shape-again st σ o.0 o.1 o.2.ready o.2.lent es o.3).accepts

  -- the answer of a call says that it was cut exactly if the plain store knows it
  told-live : (st : State) (σ : Store) (c : Call) (n : ℕ) (l : List ℕ) → LiveAgain e g st n l σ → Told h σ c (step e st c).answer
  unfolding step save_plan free_plan commit_plan cut_in
  told-live st σ (save_virtual v b c) n l i = told-plan h σ (save_virtual v b c) c st _ _ _ _ refl λ go. other-kind e _ _ _ _ _ again go
  told-live st σ (free_virtual v) n l i = told-plan h σ (free_virtual v) no_cut st _ _ _ _ refl λ go. other-kind e _ _ _ _ _ again go
  told-live st σ (commit c) n l i = told-plan h σ (commit c) c st _ _ _ _ refl λ go. other-kind e _ _ _ _ _ again go
  told-live st σ (save_block b x c) n l i = told-block e h st σ b x c
  told-live st σ (save_packet b x c) n l i = told-packet e h st σ b x c
  told-live st σ (spare_packet b x c) n l i = told-spare e g γ h tables st σ n l i b x c
  told-live st σ open_disc n l i = told-opening e h st σ

  told-any : (down : Bool) (st : State) (σ : Store) (c : Call) → AgainOk e g es down st σ → (down ≡ true → c ≡ open_disc) → Told h σ c (step e st c).answer
  unfolding AgainOk
  told-any true st σ c o q = subst (λ (x : Call). Told h σ x (step e st x).answer) (sym (q refl)) (told-opening e h st σ)
  told-any false st σ c o q = told-live st σ c o.0 o.1 o.2

  -- every list of calls
  again-lists : (d : Disc) (t : List ℕ) → AgainOk e g es false (after_opening e d t) (start e d) → (cs : List Call) → Proper false cs (answers e (after_opening e d t) cs) → Kept e d t cs
  unfolding AgainOk
  again-lists d t i cs p =
      record {
        opens = list-opens (AgainOk e g es) h e sound-any cs (after_opening e d t) (start e d) i p opens-any;
        reads = λ q v out long.
            let o = list-ends (AgainOk e g es) h e sound-any cs (after_opening e d t) (start e d) i p q in
            read_again e g again γ maps-go _ o.0 o.1 _ o.2 v out long;
      }

  again-answers : (d : Disc) (t : List ℕ) → AgainOk e g es false (after_opening e d t) (start e d) → (cs : List Call) → Proper false cs (answers e (after_opening e d t) cs)
      → (i : ℕ) → i < length cs
      → Told h (followed h (start e d) (take i cs) (answers e (after_opening e d t) (take i cs))) (get_or cs i open_disc) (get_or (answers e (after_opening e d t) cs) i cut)
  again-answers d t o cs p = list-told (AgainOk e g es) h e sound-any cs (after_opening e d t) (start e d) o p told-any

  again-count : (d : Disc) (t : List ℕ) → AgainOk e g es false (after_opening e d t) (start e d) → (cs : List Call) → Proper false cs (answers e (after_opening e d t) cs)
      → ends_cut false (answers e (after_opening e d t) cs) ≡ false → length (followed h (start e d) cs (answers e (after_opening e d t) cs)).blocks ≡ e.span
  unfolding AgainOk
  again-count d t i cs p q =
      let o = list-ends (AgainOk e g es) h e sound-any cs (after_opening e d t) (start e d) i p q in
      o.2.ready.count ∙ sym γ.span-is

  -- what holds of the table holds of the one on the disc
  keeps_on : (down : Bool) (st : State) (σ : Store) → AgainOk e g es down st σ → Keeps es (table_on e st.disc)
  unfolding AgainOk
  keeps_on true st σ (n, l, r, long, kept) = rw (ready-table r) kept
  keeps_on false st σ (n, l, r, kept) = rw (ready-table r.ready) kept

  -- the invariant after a list, cut or not
  again-after : (cs : List Call) (down : Bool) (st : State) (σ : Store) → AgainOk e g es down st σ → Proper down cs (answers e st cs)
      → AgainOk e g es (ends_cut down (answers e st cs)) (final e st cs) (followed h σ cs (answers e st cs))
  again-after cs down st σ o p = list-state (AgainOk e g es) h e sound-any cs down st σ o p

-- on a rewritable disc that opening accepts
pub again-demand : (e : Setting) (d : Disc) (t : List ℕ) → Below 256 d.bytes → write_once e ≡ false → is_opened (answer_of_opening (opening e d t)) ≡ true
    → (cs : List Call) → Proper false cs (answers e (after_opening e d t) cs) → Kept e d t cs
unfolding open_verdict AgainOk shape_of geometry
again-demand e d t low again a cs p =
    let go = accepted-goes e d t a in
    let m = open-maps e d t go in
    again-lists e again m (geometry e d) (first-ground e again d t low go) refl (entries_on e d) d t (first-again e again d t low go) cs p

-- the answer of each call says that it was cut exactly if the plain store knows it
pub again-told : (e : Setting) (d : Disc) (t : List ℕ) → Below 256 d.bytes → write_once e ≡ false → is_opened (answer_of_opening (opening e d t)) ≡ true
    → (cs : List Call) → Proper false cs (answers e (after_opening e d t) cs) → (i : ℕ) → i < length cs
    → Told (shape_of e) (followed (shape_of e) (start e d) (take i cs) (answers e (after_opening e d t) (take i cs))) (get_or cs i open_disc) (get_or (answers e (after_opening e d t) cs) i cut)
unfolding open_verdict AgainOk shape_of geometry
again-told e d t low again a cs p =
    let go = accepted-goes e d t a in
    let m = open-maps e d t go in
    again-answers e again m (geometry e d) (first-ground e again d t low go) refl (entries_on e d) d t (first-again e again d t low go) cs p

-- the plain store has L blocks, in whole packets, after a list that does not end in a cut
pub again-blocks : (e : Setting) (d : Disc) (t : List ℕ) → Below 256 d.bytes → write_once e ≡ false → is_opened (answer_of_opening (opening e d t)) ≡ true
    → (cs : List Call) → Proper false cs (answers e (after_opening e d t) cs) → ends_cut false (answers e (after_opening e d t) cs) ≡ false
    → (length (followed (shape_of e) (start e d) cs (answers e (after_opening e d t) cs)).blocks ≡ e.span) × (e.span % 32 ≡ 0)
unfolding open_verdict AgainOk shape_of geometry
again-blocks e d t low again a cs p q =
    let go = accepted-goes e d t a in
    let m = open-maps e d t go in
    let γ = first-ground e again d t low go in
    (again-count e again m (geometry e d) γ refl (entries_on e d) d t (first-again e again d t low go) cs p q, γ.span-32)

-- what holds after a list, cut or not
pub again-left : (e : Setting) (d : Disc) (t : List ℕ) → Below 256 d.bytes → write_once e ≡ false → is_opened (answer_of_opening (opening e d t)) ≡ true
    → (cs : List Call) → Proper false cs (answers e (after_opening e d t) cs)
    → AgainOk e (geometry e d) (entries_on e d) (ends_cut false (answers e (after_opening e d t) cs)) (final e (after_opening e d t) cs)
    (followed (shape_of e) (start e d) cs (answers e (after_opening e d t) cs))
unfolding open_verdict AgainOk shape_of geometry
again-left e d t low again a cs p =
    let go = accepted-goes e d t a in
    again-after e again (open-maps e d t go) (geometry e d) (first-ground e again d t low go) refl (entries_on e d) cs false (after_opening e d t) (start e d) (first-again e again d t low go) p

-- the entries that the disc has are those of which it keeps
rebased : (e : Setting) (g : Geometry) (es : List Entry) (down : Bool) (st : State) (σ : Store) → AgainOk e g es down st σ → AgainOk e g (entries_on e st.disc) down st σ
unfolding AgainOk entries_on
rebased e g es true st σ (n, l, r, long, kept) = (n, l, r, long, rw (ready-table r) (keeps-own l))
rebased e g es false st σ (n, l, r, kept) = (n, l, r, rw (ready-table r.ready) (keeps-own l))

-- what later calls keep of the entries that the disc has after a list: those that are defective, which come first, and the mapped starts
pub entries-stay : (e : Setting) (d : Disc) (t : List ℕ) → Below 256 d.bytes → write_once e ≡ false → is_opened (answer_of_opening (opening e d t)) ≡ true
    → (cs later : List Call) → Proper false (cs ++ later) (answers e (after_opening e d t) (cs ++ later))
    → Keeps (entries_on e (final e (after_opening e d t) cs).disc) (table_on e (final e (after_opening e d t) (cs ++ later)).disc)
unfolding open_verdict AgainOk shape_of geometry
entries-stay e d t low again a cs later p =
    let go = accepted-goes e d t a in
    let m = open-maps e d t go in
    let γ = first-ground e again d t low go in
    let g : Geometry = geometry e d in
    let s : State = after_opening e d t in
    let q = proper-split e cs later s false p in
    let es : List Entry = entries_on e (final e s cs).disc in
    let down : Bool = ends_cut false (answers e s cs) in
    let s₁ : State = final e s cs in
    let σ₁ : Store = followed (shape_of e) (start e d) cs (answers e s cs) in
    let o =
    rebased e g (entries_on e d) down s₁ σ₁
    (again-after e again m g γ refl (entries_on e d) cs false s (start e d) (first-again e again d t low go) q.0) in
    rw (final-append e cs later s)
    (keeps_on e again m g γ refl es (ends_cut down (answers e s₁ later)) (final e s₁ later) (followed (shape_of e) σ₁ later (answers e s₁ later))
    (again-after e again m g γ refl es later down s₁ σ₁ o q.1))
