-- Laws of the list that is carried out: after a cut stands an opening, and a list in which one stands there already is carried out as it
-- is. Assumes nothing.
use Prim.Native.Nat.{suc}
use mathlib.Core.Path.{◌≡◌, refl, sym, ap, ap₂, ◌∙◌}
use mathlib.Core.Bool.{Bool, true, false, false≢true}
use mathlib.Core.List.{List, [], ◌∷◌}
use lib.ListN.{length}
use Rattle.model.specs.Examine.{Setting}
use Rattle.model.specs.Calls.{Call, open_disc, State, step, answers, is_cut, Proper}
use Rattle.list_run.specs.Listed.{mended_call, mended}

opens-after : (down : Bool) (c : Call) → down ≡ true → mended_call down c ≡ open_disc
opens-after true c e = refl
opens-after false c e = absurd (false≢true e)

-- after a cut stands an opening
pub mended-proper : (e : Setting) (st : State) (down : Bool) (cs : List Call) → Proper down (mended e st down cs) (answers e st (mended e st down cs))
unfolding Proper mended answers
mended-proper e st down [] = tt
mended-proper e st down (c ∷ cs) =
    (opens-after down c, mended-proper e (step e st (mended_call down c)).state (is_cut (step e st (mended_call down c)).answer) cs)

kept-call : (down : Bool) (c : Call) → (down ≡ true → c ≡ open_disc) → mended_call down c ≡ c
kept-call true c h = sym (h refl)
kept-call false c h = refl

-- a list in which it stands there already is carried out as it is
pub proper-mended : (e : Setting) (st : State) (down : Bool) (cs : List Call) → Proper down cs (answers e st cs) → mended e st down cs ≡ cs
unfolding Proper mended answers
proper-mended e st down [] h = refl
proper-mended e st down (c ∷ cs) h =
    let k : mended_call down c ≡ c = kept-call down c h.0 in
    ap₂ ◌∷◌ k
    (ap (λ (x : Call). mended e (step e st x).state (is_cut (step e st x).answer) cs) k
    ∙ proper-mended e (step e st c).state (is_cut (step e st c).answer) cs h.1)

-- it has as many calls
pub mended-count : (e : Setting) (st : State) (down : Bool) (cs : List Call) → length (mended e st down cs) ≡ length cs
unfolding mended
mended-count e st down [] = refl
mended-count e st down (c ∷ cs) =
    ap suc (mended-count e (step e st (mended_call down c)).state (is_cut (step e st (mended_call down c)).answer) cs)
