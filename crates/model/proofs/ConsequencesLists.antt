-- Two lists of calls, one after the other: the answers, the plain store and the cuts of both; and a call of a list by its place. Assumes nothing.
use Prim.Native.Nat.{ℕ, zero, suc, ◌<◌}
use mathlib.Core.Bool.{Bool, true}
use mathlib.Core.Path.{◌≡◌, refl, ap}
use mathlib.Core.List.{List, [], ◌∷◌, ◌++◌}
use native.Mathlib.Omega.{arith}
use lib.ListN.{length, get_or, take}
use Rattle.model.specs.Examine.{Setting}
use Rattle.model.specs.Calls.{Call, open_disc, cut, State, step, answers, final, accepted, is_cut, Proper, ends_cut}
use Rattle.model.specs.Store.{Store, Shape, next}
use Rattle.model.specs.Demand.{followed}

module _ (e : Setting) where
  -- the answer of the call after a list
  pub answer_at : (cs : List Call) (c : Call) (ds : List Call) (st : State) → get_or (answers e st (cs ++ (c ∷ ds))) (length cs) cut ≡ (step e (final e st cs) c).answer
  unfolding answers final
  answer_at [] c ds st = refl
  answer_at (x ∷ cs) c ds st = answer_at cs c ds (step e st x).state

  -- the state after both
  pub final-append : (cs ds : List Call) (st : State) → final e st (cs ++ ds) ≡ final e (final e st cs) ds
  unfolding final
  final-append [] ds st = refl
  final-append (x ∷ cs) ds st = final-append cs ds (step e st x).state

  -- the plain store after both
  pub followed-append : (h : Shape) (cs ds : List Call) (st : State) (σ : Store)
      → followed h σ (cs ++ ds) (answers e st (cs ++ ds)) ≡ followed h (followed h σ cs (answers e st cs)) ds (answers e (final e st cs) ds)
  unfolding followed answers final
  followed-append h [] ds st σ = refl
  followed-append h (x ∷ cs) ds st σ = followed-append h cs ds (step e st x).state (next h σ x (accepted (step e st x).answer))

  -- whether both end in a cut
  pub ends-append : (cs ds : List Call) (st : State) (down : Bool)
      → ends_cut down (answers e st (cs ++ ds)) ≡ ends_cut (ends_cut down (answers e st cs)) (answers e (final e st cs) ds)
  unfolding ends_cut answers final
  ends-append [] ds st down = refl
  ends-append (x ∷ cs) ds st down = ends-append cs ds (step e st x).state (is_cut (step e st x).answer)

  -- a cut is followed by an opening in both, and in each
  pub proper-split : (cs ds : List Call) (st : State) (down : Bool) → Proper down (cs ++ ds) (answers e st (cs ++ ds))
      → Proper down cs (answers e st cs) × Proper (ends_cut down (answers e st cs)) ds (answers e (final e st cs) ds)
  unfolding Proper ends_cut answers final
  proper-split [] ds st down p = (tt, p)
  proper-split (x ∷ cs) ds st down p =
      let q = proper-split cs ds (step e st x).state (is_cut (step e st x).answer) p.1 in
      ((p.0, q.0), q.1)

  pub proper-join : (cs ds : List Call) (st : State) (down : Bool) → Proper down cs (answers e st cs)
      → Proper (ends_cut down (answers e st cs)) ds (answers e (final e st cs) ds) → Proper down (cs ++ ds) (answers e st (cs ++ ds))
  unfolding Proper ends_cut answers final
  proper-join [] ds st down p q = q
  proper-join (x ∷ cs) ds st down p q = (p.0, proper-join cs ds (step e st x).state (is_cut (step e st x).answer) p.1 q)

  -- ---- a call of a list by its place

  -- its answer, from what the calls before it leave
  pub answer-place : (cs : List Call) (st : State) (i : ℕ) → i < length cs → get_or (answers e st cs) i cut ≡ (step e (final e st (take i cs)) (get_or cs i open_disc)).answer
  unfolding answers final
  answer-place [] st i l = absurd (omega arith)
  answer-place (c ∷ cs) st zero l = refl
  answer-place (c ∷ cs) st (suc i) l = answer-place cs (step e st c).state i (omega arith)

  -- after a cut it is an opening
  pub proper-place : (cs : List Call) (st : State) (down : Bool) → Proper down cs (answers e st cs) → (i : ℕ) → i < length cs
      → ends_cut down (answers e st (take i cs)) ≡ true → get_or cs i open_disc ≡ open_disc
  unfolding Proper ends_cut answers
  proper-place [] st down p i l = absurd (omega arith)
  proper-place (c ∷ cs) st down p zero l = p.0
  proper-place (c ∷ cs) st down p (suc i) l = proper-place cs (step e st c).state (is_cut (step e st c).answer) p.1 i (omega arith)

  -- the answers of the first i calls
  pub answers-take : (cs : List Call) (st : State) (i : ℕ) → answers e st (take i cs) ≡ take i (answers e st cs)
  unfolding answers
  answers-take [] st zero = refl
  answers-take [] st (suc i) = refl
  answers-take (c ∷ cs) st zero = refl
  answers-take (c ∷ cs) st (suc i) = ap ((step e st c).answer ∷◌) (answers-take cs (step e st c).state i)

  -- as many answers as calls
  pub answers-count : (cs : List Call) (st : State) → length (answers e st cs) ≡ length cs
  unfolding answers
  answers-count [] st = refl
  answers-count (c ∷ cs) st = ap suc (answers-count cs (step e st c).state)
