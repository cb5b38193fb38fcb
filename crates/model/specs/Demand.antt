-- Demand 3 of the buyer: one claim over whole lists of calls (document 01, "The plain store", second paragraph). A reader who has read 01
-- needs besides this file: Calls.antt (what a list of calls is) and Store.antt (the plain store).
use Rattle.std.specs.Prelude.{ℕ, ◌<◌, ◌≡◌, true, false, List, [], ◌∷◌, length, get_or, Ok, Err}
use Rattle.refusal.specs.Verdict.{Verdict}
use Rattle.model.specs.Disc.{Disc}
use Rattle.model.specs.Examine.{Setting}
use Rattle.model.specs.Both.{opening, opened_table, read_verdict, read_bytes, record_on}
use Rattle.model.specs.Calls.{Call, open_disc, Answer, cut, State, answers, final, accepted, is_opened, answer_of_opening, Proper, ends_cut}
use Rattle.model.specs.Store.{Store, Shape, start, shape_of, next, Seen, bytes, turned, look}

-- every number of a list is below n: what a slice's type gives
unfoldable pub Below : ℕ → List ℕ → Type 0
Below n l = (i : ℕ) → i < length l → get_or l i 0 < n

-- the state after an opening that was accepted
unfoldable pub after_opening : Setting → Disc → List ℕ → State
after_opening e d t = record { disc = d; table = opened_table e d t; held = record_on e d }

-- the plain store after a list of calls, fed with the calls and whether each was accepted
unfoldable pub followed : Shape → Store → List Call → List Answer → Store
followed h σ [] al = σ
followed h σ (c ∷ cs) [] = σ
followed h σ (c ∷ cs) (a ∷ al) = followed h (next h σ c (accepted a)) cs al

-- what reading shows
unfoldable pub seen_by : Verdict → List ℕ → Seen
seen_by (Ok _) b = bytes b
seen_by (Err why) b = turned why

-- reading block v into `out`, lent 2,048 bytes
unfoldable pub seen : Setting → State → ℕ → List ℕ → Seen
seen e st v out =
    seen_by (read_verdict e st.disc st.table st.held v out) (read_bytes e st.disc st.table st.held v out)

-- what is claimed of a list of calls that follows an opening of the disc d with the lent table t
pub record Kept (e : Setting) (d : Disc) (t : List ℕ) (cs : List Call) : Type 0 where
  -- every opening in the list is accepted
  pub opens : (i : ℕ) → i < length cs → get_or cs i open_disc ≡ open_disc → is_opened (get_or (answers e (after_opening e d t) cs) i cut) ≡ true
  -- after a list that does not end in a cut every block reads as in the plain store
  pub reads :
      ends_cut false (answers e (after_opening e d t) cs) ≡ false
      → (v : ℕ) (out : List ℕ) → length out ≡ 2048
      → seen e (final e (after_opening e d t) cs) v out
      ≡ look (followed (shape_of e) (start e d) cs (answers e (after_opening e d t) cs)) v

-- for every disc and lent table that opening accepts and every list of calls in which a cut is followed by an opening
unfoldable pub Demand3 : Type 0
Demand3 =
    (e : Setting) (d : Disc) (t : List ℕ)
    → Below 256 d.bytes
    → is_opened (answer_of_opening (opening e d t)) ≡ true
    → (cs : List Call) → Proper false cs (answers e (after_opening e d t) cs)
    → Kept e d t cs
