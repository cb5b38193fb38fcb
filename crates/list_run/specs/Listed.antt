-- A list of calls as it is carried out, and what is told of it (document 01, "Calls and their sector writes": "the next call in a list is
-- an opening"; "The plain store", second paragraph).
use Rattle.std.specs.Prelude.{ℕ, Bool, true, false, List, [], ◌∷◌}
use Rattle.model.specs.Examine.{Setting}
use Rattle.model.specs.Calls.{Call, open_disc, Answer, State, step, is_cut}
use Rattle.list_step.specs.Stepped.{number_for, passed_by}

-- the call that is carried out: after a cut an opening, whatever stands in the list
abbrev pub mended_call : Bool → Call → Call
mended_call false c = c
mended_call true c = open_disc

-- the list that is carried out; `down` says whether the call before was cut
unfoldable pub mended : Setting → State → Bool → List Call → List Call
mended e st down [] = []
mended e st down (c ∷ cs) =
    mended_call down c
    ∷ mended e (step e st (mended_call down c)).state (is_cut (step e st (mended_call down c)).answer) cs

-- the lent replies with a number for each answer, from their start, as far as they reach; places beyond are kept
unfoldable pub told : List Answer → List ℕ → List ℕ
told [] r = r
told (a ∷ al) [] = []
told (a ∷ al) (x ∷ r) = number_for a ∷ told al r

-- how many sectors the last opening passed over that was accepted, after several answers; n being those of the one before
unfoldable pub passed_after : List Answer → ℕ → ℕ
passed_after [] n = n
passed_after (a ∷ al) n = passed_after al (passed_by a n)
