-- Demand 3 on a write-once disc. Assumes nothing.
use Prim.Native.Nat.{ℕ, ◌<◌}
use mathlib.Core.Bool.{Bool, true, false, not, false≢true}
use mathlib.Core.Path.{◌≡◌, refl, sym, subst}
use mathlib.Core.List.{List, ◌∷◌, ◌++◌}
use lib.ListN.{length, get_or, take}
use Rattle.refusal.specs.declared.Refusal.TheVariants.{OtherKind, StaleRecord}
use Rattle.std.specs.Prelude.{Ok}
use Rattle.refusal.specs.Tests.{Test, test}
use Rattle.refusal.proofs.Laws.{passed}
use Rattle.maps.specs.Kinds.{read_maps}
use Rattle.model.specs.declared.Record.{Record}
use Rattle.model.specs.Disc.{Disc}
use Rattle.model.specs.Examine.{Setting, write_once, examined}
use Rattle.model.specs.Once.{entries_held, last_held}
use Rattle.model.specs.Rewrite.{copy_tests, held_current, rewritable_verdict, save_block_plan, save_packet_plan, spare_plan}
use Rattle.model.specs.Both.{opening, opened_by, open_verdict}
use Rattle.model.specs.Calls.{Call, save_virtual, free_virtual, commit, save_block, save_packet, spare_packet, open_disc, cut, State, step, answers, final, answer_of_opening, is_opened, Proper, ends_cut}
use Rattle.model.specs.Store.{Store, Shape, shape_of, start, cut_in}
use Rattle.model.specs.Demand.{after_opening, followed, Kept}
use Rattle.model.proofs.Verdicts.{open-maps, by-verdict, then-go}
use Rattle.model.proofs.OnceRead.{Live, live-length, read-once}
use Rattle.model.proofs.OnceSave.{OnceOk, sound-save, sound-free, told-save, told_free}
use Rattle.model.proofs.OnceOpen.{reopened, first_live}
use Rattle.model.proofs.OnceCommit.{sound-commit, told-commit}
use Rattle.model.proofs.Steps.{Told, told-plan, told-opening, list-told, Sound, sound-plan, list-opens, list-ends}
use Rattle.refusal.specs.Verdict.{verdict_of}

-- an opening that was accepted went on
pub accepted-goes : (e : Setting) (d : Disc) (t : List ℕ) → is_opened (answer_of_opening (opening e d t)) ≡ true → open_verdict e d t ≡ Ok tt
unfolding opening opened_by answer_of_opening is_opened
accepted-goes e d t h = by-verdict (open_verdict e d t) (λ q. q) (λ why q. absurd (false≢true (rw q at h)))

-- a call for rewritable discs never goes on
pub other-kind : {P : Type 0} (e : Setting) (d : Disc) (t : List ℕ) (lent : Bool) (r : Record) (own : List Test) → write_once e ≡ true → rewritable_verdict e d t lent r own ≡ Ok tt → P
unfolding rewritable_verdict
other-kind e d t lent r own one g =
    let p = then-go (examined e d lent) _ g in
    let q = passed (test (not (write_once e)) OtherKind ∷ (copy_tests e d ++ (test (held_current e d t r) StaleRecord ∷ own))) p.1 in
    absurd (false≢true (rw one at q.0))

module _ (e : Setting) (one : write_once e ≡ true) (maps-go : verdict_of (read_maps e.maps) ≡ Ok tt) where
  abbrev h : Shape
  h = shape_of e

  shape-once : h.once ≡ true
  unfolding shape_of
  shape-once = one

  sound-live : (st : State) (σ : Store) (c : Call) → Live e st σ → Sound (OnceOk e) h σ c (step e st c)
  unfolding step save_block_plan save_packet_plan spare_plan OnceOk
  sound-live st σ (save_virtual v b c) i = sound-save e h st σ i v b c
  sound-live st σ (free_virtual v) i = sound-free e h st σ i v
  sound-live st σ (commit c) i = sound-commit e h st σ i c
  sound-live st σ (save_block b x c) i = sound-plan (OnceOk e) h σ (save_block b x c) c st _ _ _ _ i λ g. other-kind e _ _ _ _ _ one g
  sound-live st σ (save_packet b x c) i = sound-plan (OnceOk e) h σ (save_packet b x c) c st _ _ _ _ i λ g. other-kind e _ _ _ _ _ one g
  sound-live st σ (spare_packet b x c) i = sound-plan (OnceOk e) h σ (spare_packet b x c) c st _ _ _ _ i λ g. other-kind e _ _ _ _ _ one g
  sound-live st σ open_disc i = (reopened e one maps-go h shape-once st σ (last_held st.held) i.kept i.lent).sound

  pub sound-any : (down : Bool) (st : State) (σ : Store) (c : Call) → OnceOk e down st σ → (down ≡ true → c ≡ open_disc) → Sound (OnceOk e) h σ c (step e st c)
  unfolding OnceOk
  sound-any true st σ c o q =
      subst (λ (x : Call). Sound (OnceOk e) h σ x (step e st x)) (sym (q refl)) (reopened e one maps-go h shape-once st σ o.0 o.1 o.2).sound
  sound-any false st σ c o q = sound-live st σ c o

  opens-any : (down : Bool) (st : State) (σ : Store) → OnceOk e down st σ → is_opened (step e st open_disc).answer ≡ true
  unfolding OnceOk
  opens-any true st σ o = (reopened e one maps-go h shape-once st σ o.0 o.1 o.2).accepts
  opens-any false st σ o = (reopened e one maps-go h shape-once st σ (last_held st.held) o.kept o.lent).accepts

  -- the answer of a call says that it was cut exactly if the plain store knows it
  told-live : (st : State) (σ : Store) (c : Call) → Live e st σ → Told h σ c (step e st c).answer
  unfolding step save_block_plan save_packet_plan spare_plan cut_in
  told-live st σ (save_virtual v b c) i = told-save e h st σ i v b c
  told-live st σ (free_virtual v) i = told_free e h st σ i v
  told-live st σ (commit c) i = told-commit e h st σ i c
  told-live st σ (save_block b x c) i = told-plan h σ (save_block b x c) c st _ _ _ _ refl λ g. other-kind e _ _ _ _ _ one g
  told-live st σ (save_packet b x c) i = told-plan h σ (save_packet b x c) c st _ _ _ _ refl λ g. other-kind e _ _ _ _ _ one g
  told-live st σ (spare_packet b x c) i = told-plan h σ (spare_packet b x c) c st _ _ _ _ refl λ g. other-kind e _ _ _ _ _ one g
  told-live st σ open_disc i = told-opening e h st σ

  told-any : (down : Bool) (st : State) (σ : Store) (c : Call) → OnceOk e down st σ → (down ≡ true → c ≡ open_disc) → Told h σ c (step e st c).answer
  unfolding OnceOk
  told-any true st σ c o q = subst (λ (x : Call). Told h σ x (step e st x).answer) (sym (q refl)) (told-opening e h st σ)
  told-any false st σ c o q = told-live st σ c o

  -- every list of calls
  once-lists : (d : Disc) (t : List ℕ) → open_verdict e d t ≡ Ok tt → (cs : List Call) → Proper false cs (answers e (after_opening e d t) cs) → Kept e d t cs
  unfolding OnceOk
  once-lists d t g cs p =
      let i : OnceOk e false (after_opening e d t) (start e d) = first_live e one maps-go d t g in
      record {
        opens = list-opens (OnceOk e) h e sound-any cs (after_opening e d t) (start e d) i p opens-any;
        reads = λ q v out long.
            read-once e one maps-go _ _ (list-ends (OnceOk e) h e sound-any cs (after_opening e d t) (start e d) i p q) v out long;
      }

  once-answers : (d : Disc) (t : List ℕ) → open_verdict e d t ≡ Ok tt → (cs : List Call) → Proper false cs (answers e (after_opening e d t) cs)
      → (i : ℕ) → i < length cs
      → Told h (followed h (start e d) (take i cs) (answers e (after_opening e d t) (take i cs))) (get_or cs i open_disc) (get_or (answers e (after_opening e d t) cs) i cut)
  unfolding OnceOk
  once-answers d t g cs p = list-told (OnceOk e) h e sound-any cs (after_opening e d t) (start e d) (first_live e one maps-go d t g) p told-any

  once-ends : (d : Disc) (t : List ℕ) → open_verdict e d t ≡ Ok tt → (cs : List Call) → Proper false cs (answers e (after_opening e d t) cs)
      → ends_cut false (answers e (after_opening e d t) cs) ≡ false
      → Live e (final e (after_opening e d t) cs) (followed h (start e d) cs (answers e (after_opening e d t) cs))
  unfolding OnceOk
  once-ends d t g cs p q = list-ends (OnceOk e) h e sound-any cs (after_opening e d t) (start e d) (first_live e one maps-go d t g) p q

-- on a write-once disc that opening accepts
pub once-demand : (e : Setting) (d : Disc) (t : List ℕ) → write_once e ≡ true → is_opened (answer_of_opening (opening e d t)) ≡ true
    → (cs : List Call) → Proper false cs (answers e (after_opening e d t) cs) → Kept e d t cs
unfolding open_verdict
once-demand e d t one a cs p =
    let g = accepted-goes e d t a in
    let m = open-maps e d t g in
    once-lists e one m d t g cs p

-- and the answer of each call says that it was cut exactly if the plain store knows it
pub once-told : (e : Setting) (d : Disc) (t : List ℕ) → write_once e ≡ true → is_opened (answer_of_opening (opening e d t)) ≡ true
    → (cs : List Call) → Proper false cs (answers e (after_opening e d t) cs) → (i : ℕ) → i < length cs
    → Told (shape_of e) (followed (shape_of e) (start e d) (take i cs) (answers e (after_opening e d t) (take i cs))) (get_or cs i open_disc) (get_or (answers e (after_opening e d t) cs) i cut)
unfolding open_verdict
once-told e d t one a cs p =
    let g = accepted-goes e d t a in
    let m = open-maps e d t g in
    once-answers e one m d t g cs p

-- what holds between calls holds after a list that does not end in a cut
pub once-live : (e : Setting) (d : Disc) (t : List ℕ) → write_once e ≡ true → is_opened (answer_of_opening (opening e d t)) ≡ true
    → (cs : List Call) → Proper false cs (answers e (after_opening e d t) cs) → ends_cut false (answers e (after_opening e d t) cs) ≡ false
    → Live e (final e (after_opening e d t) cs) (followed (shape_of e) (start e d) cs (answers e (after_opening e d t) cs))
unfolding open_verdict
once-live e d t one a cs p =
    let g = accepted-goes e d t a in
    let m = open-maps e d t g in
    once-ends e one m d t g cs p

-- the plain store has N blocks after it
pub once-blocks : (e : Setting) (d : Disc) (t : List ℕ) → write_once e ≡ true → is_opened (answer_of_opening (opening e d t)) ≡ true
    → (cs : List Call) → Proper false cs (answers e (after_opening e d t) cs) → ends_cut false (answers e (after_opening e d t) cs) ≡ false
    → length (followed (shape_of e) (start e d) cs (answers e (after_opening e d t) cs)).blocks ≡ entries_held (final e (after_opening e d t) cs).held
once-blocks e d t one a cs p q = live-length e _ _ (once-live e d t one a cs p q)
