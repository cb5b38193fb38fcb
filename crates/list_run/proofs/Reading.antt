-- Laws of the call of six numbers: a call that is carried out as they are read is the one that the definition reads. Assumes nothing.
use Prim.Native.Nat.{ℕ, ◌+◌, ◌-◌, min}
use mathlib.Core.Path.{◌≡◌, refl, sym, ap, ◌∙◌}
use mathlib.Core.Bool.{Bool, true, false}
use mathlib.Core.List.{List}
use native.Mathlib.Omega.{arith}
use lib.ListN.{length, get_or, take, drop, length-drop, drop_of_length-le}
use lib.Seq.{take_all, take-length, take-nil, drop-length}
use Rattle.fields.specs.Bytes.{part}
use Rattle.model.specs.declared.Cut.{Cut}
use Rattle.model.specs.Disc.{Disc}
use Rattle.model.specs.Examine.{Setting}
use Rattle.model.specs.Calls.{State}
use Rattle.model.proofs.Basics.{by-lt}
use Rattle.call_numbers.specs.Numbers.{cut_of}
use Rattle.list_step.specs.declared.Answered.{Answered}
use Rattle.std.specs.Prelude.{Result, Ok, Err}
use Rattle.refusal.specs.declared.Refusal.{Refusal}
use Rattle.list_step.specs.declared.Calling.{Calling}
use Rattle.list_step.proofs.Stepping.{call-of-number}
use Rattle.list_step.specs.Stepped.{calling_of, call_in, call_of, kind_after, Stepped}
use Rattle.list_run.specs.Encoded.{call_at}
use Rattle.list_run.specs.Listed.{mended_call}

-- after a cut the kind is that of an opening
call-after : (down : Bool) (k n : ℕ) (c : Cut) (b : List ℕ) → call_of (kind_after down k) n c b ≡ mended_call down (call_of k n c b)
call-after true k n c b = refl
call-after false k n c b = refl

-- the bytes of a call as they are lent: from the smaller of two numbers on, as many as the pool still has
part-lent : (pool : List ℕ) (f w from count : ℕ) → from ≡ min f (length pool) → count ≡ min w (length pool - from) → take count (drop from pool) ≡ part pool f w
unfolding part
part-lent pool f w from count a b =
    by-lt f (length pool)
    (λ h.
    let e : from ≡ f = omega arith in
    ap (λ (x : ℕ). take count (drop x pool)) e ∙ short (drop f pool) w count (simp length-drop (b ∙ ap (λ (x : ℕ). min w (length pool - x)) e)))
    (λ h.
    let e : from ≡ length pool = omega arith in
    ap (λ (x : ℕ). take count (drop x pool)) e ∙ ap (take count) (drop-length pool) ∙ take-nil count ∙ sym (ap (take w) (drop_of_length-le pool h) ∙ take-nil w))
  where
    short : (l : List ℕ) (w n : ℕ) → n ≡ min w (length l) → take n l ≡ take w l
    short l w n e =
        by-lt w (length l)
        (λ h. let q : n ≡ w = omega arith in ap (λ (x : ℕ). take x l) q)
        (λ h. let q : n ≡ length l = omega arith in ap (λ (x : ℕ). take x l) q ∙ take-length l ∙ sym (take_all w l h))

call-read : (ns pool : List ℕ) (down : Bool) (at kind from count w : ℕ) (c : Cut) → kind ≡ kind_after down (get_or ns at 0) → c ≡ cut_of (get_or ns (at + 2) 0) (get_or ns (at + 3) 0) → from ≡ min (get_or ns (at + 4) 0) (length pool) → count ≡ min (get_or ns (at + 5) 0) (length pool - from) → w ≡ count → call_of kind (get_or ns (at + 1) 0) c (take w (drop from pool)) ≡ mended_call down (call_at ns pool at)
unfolding call_at
call-read ns pool down at kind from count w c qk qc qf qn qw =
    ap (λ (x : ℕ). call_of x (get_or ns (at + 1) 0) c (take w (drop from pool))) qk
    ∙ ap (λ (x : Cut). call_of (kind_after down (get_or ns at 0)) (get_or ns (at + 1) 0) x (take w (drop from pool))) qc
    ∙ ap (call_of (kind_after down (get_or ns at 0)) (get_or ns (at + 1) 0) (cut_of (get_or ns (at + 2) 0) (get_or ns (at + 3) 0))) (part-lent pool (get_or ns (at + 4) 0) (get_or ns (at + 5) 0) from w qf (qw ∙ qn))
    ∙ call-after down (get_or ns at 0) (get_or ns (at + 1) 0) (cut_of (get_or ns (at + 2) 0) (get_or ns (at + 3) 0)) (part pool (get_or ns (at + 4) 0) (get_or ns (at + 5) 0))

-- a call as it is read from six numbers, w bytes from `from` on
pub read_step : (e : Setting) (st : State) (ns pool : List ℕ) (down : Bool) (at from count w : ℕ) (k : Calling) (c : Cut) (a : Result Answered Refusal) (d : Disc) (t : List ℕ) → k ≡ calling_of (kind_after down (get_or ns at 0)) → c ≡ cut_of (get_or ns (at + 2) 0) (get_or ns (at + 3) 0) → from ≡ min (get_or ns (at + 4) 0) (length pool) → count ≡ min (get_or ns (at + 5) 0) (length pool - from) → w ≡ count → Stepped e st (call_in k (get_or ns (at + 1) 0) c (take w (drop from pool))) a d t → Stepped e st (mended_call down (call_at ns pool at)) a d t
read_step e st ns pool down at from count w k c a d t qk qc qf qn qw s =
    let kind = kind_after down (get_or ns at 0) in
    let call = ap (λ (x : Calling). call_in x (get_or ns (at + 1) 0) c (take w (drop from pool))) qk ∙ call-of-number kind (get_or ns (at + 1) 0) c (take w (drop from pool)) in
    rw (call ∙ call-read ns pool down at kind from count w c refl qc qf qn qw) at s
