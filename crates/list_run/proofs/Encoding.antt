-- Laws of calls as numbers: every list of calls is read back from its numbers and its pool. Assumes nothing.
use Prim.Native.Nat.{ℕ, zero, suc, ◌+◌, ◌<◌, ◌≤◌}
use mathlib.Core.Path.{◌≡◌, refl, sym, ap, ap₂, ◌∙◌}
use mathlib.Core.List.{List, [], ◌∷◌, ◌++◌, append_assoc}
use native.Mathlib.Omega.{arith}
use native.Mathlib.Numerals.{add-one}
use lib.ListN.{length, get_or, take, drop, length-append, length-drop}
use lib.Seq.{drop-cons, drop-append_seam, take-append_seam}
use Rattle.fields.specs.Bytes.{part}
use Rattle.model.specs.declared.Effect.{Effect}
use Rattle.model.specs.declared.Cut.{Cut}
use Rattle.model.specs.Calls.{Call, save_virtual, free_virtual, commit, save_block, save_packet, spare_packet, open_disc}
use Rattle.model.specs.Store.{cut_in}
use Rattle.model.specs.Demand.{Below}
use Rattle.call_numbers.specs.Numbers.{effect_of, cut_of}
use Rattle.list_step.specs.Stepped.{call_of}
use Rattle.list_run.specs.Encoded.{decode, call_at, effect_number, kind_of, number_in, bytes_in, encode, pool_of}

-- ---- reading on

one_more : (l : List ℕ) (j k : ℕ) → j < length l → k ≡ j + 1 → drop j l ≡ get_or l j 0 ∷ drop k l
one_more l j k h e = drop-cons l j 0 h ∙ ap (λ (x : ℕ). get_or l j 0 ∷ drop x l) (sym (e ∙ add-one j))

-- six numbers from `at` on are a call
pub decode-next : (ns pool : List ℕ) (at : ℕ) → at + 6 ≤ length ns → decode (drop at ns) pool ≡ call_at ns pool at ∷ decode (drop (at + 6) ns) pool
unfolding decode call_at
decode-next ns pool at h =
    ap (λ (x : List ℕ). decode x pool)
    (one_more ns at (at + 1) (omega arith) refl
    ∙ ap (λ (x : List ℕ). get_or ns at 0 ∷ x)
    (one_more ns (at + 1) (at + 2) (omega arith) (omega arith)
    ∙ ap (λ (x : List ℕ). get_or ns (at + 1) 0 ∷ x)
    (one_more ns (at + 2) (at + 3) (omega arith) (omega arith)
    ∙ ap (λ (x : List ℕ). get_or ns (at + 2) 0 ∷ x)
    (one_more ns (at + 3) (at + 4) (omega arith) (omega arith)
    ∙ ap (λ (x : List ℕ). get_or ns (at + 3) 0 ∷ x)
    (one_more ns (at + 4) (at + 5) (omega arith) (omega arith)
    ∙ ap (λ (x : List ℕ). get_or ns (at + 4) 0 ∷ x) (one_more ns (at + 5) (at + 6) (omega arith) (omega arith)))))))

few : (l pool : List ℕ) → length l < 6 → decode l pool ≡ []
unfolding decode
few [] pool h = refl
few (a ∷ []) pool h = refl
few (a ∷ b ∷ []) pool h = refl
few (a ∷ b ∷ c ∷ []) pool h = refl
few (a ∷ b ∷ c ∷ d ∷ []) pool h = refl
few (a ∷ b ∷ c ∷ d ∷ e ∷ []) pool h = refl
few (a ∷ b ∷ c ∷ d ∷ e ∷ f ∷ l) pool h = absurd (omega arith)

-- fewer are none
pub decode-end : (ns pool : List ℕ) (at : ℕ) → length ns < at + 6 → decode (drop at ns) pool ≡ []
decode-end ns pool at h = few (drop at ns) pool (simp length-drop (omega arith))

-- ---- reading back what was written

effect-back : (x : Effect) → effect_of (effect_number x) ≡ x
unfolding effect_number
effect-back Effect.Old = refl
effect-back Effect.Unreadable = refl
effect-back Effect.Whole = refl

cut-back : (c : Cut) → cut_of c.at (effect_number c.effect) ≡ c
cut-back c = ap (λ (x : Effect). record { at = c.at; effect = x }) (effect-back c.effect)

call_back : (c : Call) → call_of (kind_of c) (number_in c) (cut_of (cut_in c).at (effect_number (cut_in c).effect)) (bytes_in c) ≡ c
unfolding kind_of number_in bytes_in cut_in
call_back (save_virtual v b c) = ap (save_virtual v b) (cut-back c)
call_back (free_virtual v) = refl
call_back (commit c) = ap commit (cut-back c)
call_back (save_block n b c) = ap (save_block n b) (cut-back c)
call_back (save_packet n b c) = ap (save_packet n b) (cut-back c)
call_back (spare_packet n b c) = ap (spare_packet n b) (cut-back c)
call_back open_disc = refl

part-back : (p b r : List ℕ) → part (p ++ (b ++ r)) (length p) (length b) ≡ b
unfolding part
part-back p b r = ap (take (length b)) (drop-append_seam p (b ++ r)) ∙ take-append_seam b r

-- with other bytes before them in the pool
decode-behind : (p : List ℕ) (cs : List Call) → decode (encode (length p) cs) (p ++ pool_of cs) ≡ cs
unfolding encode decode pool_of
decode-behind p [] = refl
decode-behind p (c ∷ cs) =
    ap₂ ◌∷◌
    (ap (call_of (kind_of c) (number_in c) (cut_of (cut_in c).at (effect_number (cut_in c).effect))) (part-back p (bytes_in c) (pool_of cs))
    ∙ call_back c)
    (ap (λ (x : ℕ). decode (encode x cs) (p ++ (bytes_in c ++ pool_of cs))) (sym (length-append p (bytes_in c)))
    ∙ ap (decode (encode (length (p ++ bytes_in c)) cs)) (sym (append_assoc p (bytes_in c) (pool_of cs)))
    ∙ decode-behind (p ++ bytes_in c) cs)

-- every list of calls is read back, with any numbers, any cuts and bytes of any length
pub decode-encode : (cs : List Call) → decode (encode 0 cs) (pool_of cs) ≡ cs
decode-encode cs = decode-behind [] cs

-- ---- which lists can be lent

below-nil : (n : ℕ) → Below n []
unfolding Below
below-nil n i k = absurd (omega arith)

below-cons : (n x : ℕ) (l : List ℕ) → x < n → Below n l → Below n (x ∷ l)
unfolding Below
below-cons n x l h b zero k = h
below-cons n x l h b (suc i) k = b i (omega arith)

-- where a call's numbers are below 2 ^ 32
pub record Lendable (c : Call) : Type 0 where
  pub number : number_in c < 4294967296
  pub cut : (cut_in c).at < 4294967296

kind-low : (c : Call) → kind_of c < 4294967296
unfolding kind_of
kind-low (save_virtual v b c) = omega arith
kind-low (free_virtual v) = omega arith
kind-low (commit c) = omega arith
kind-low (save_block n b c) = omega arith
kind-low (save_packet n b c) = omega arith
kind-low (spare_packet n b c) = omega arith
kind-low open_disc = omega arith

effect-low : (x : Effect) → effect_number x < 4294967296
unfolding effect_number
effect-low Effect.Old = omega arith
effect-low Effect.Unreadable = omega arith
effect-low Effect.Whole = omega arith

-- and the pool is no longer than that, all numbers are below 2 ^ 32, so that such a list can be lent
pub encode-low : (cs : List Call) (at : ℕ) → ((i : ℕ) → i < length cs → Lendable (get_or cs i open_disc)) → at + length (pool_of cs) < 4294967296 → Below 4294967296 (encode at cs)
unfolding encode pool_of
encode-low [] at h p = below-nil _
encode-low (c ∷ cs) at h p =
    let q : at + (length (bytes_in c) + length (pool_of cs)) < 4294967296 = rw (← (length-append (bytes_in c) (pool_of cs))) p in
    let a : at < 4294967296 = omega arith in
    let b : length (bytes_in c) < 4294967296 = omega arith in
    below-cons _ _ _ (kind-low c)
    (below-cons _ _ _ (h 0 (omega arith)).number
    (below-cons _ _ _ (h 0 (omega arith)).cut
    (below-cons _ _ _ (effect-low (cut_in c).effect)
    (below-cons _ _ _ a
    (below-cons _ _ _ b
    (encode-low cs (at + length (bytes_in c)) (λ i k. h (suc i) (omega arith)) (omega arith)))))))

below-head : (n x : ℕ) (l : List ℕ) → Below n (x ∷ l) → x < n
unfolding Below
below-head n x l h = h 0 (omega arith)

below-tail : (n x : ℕ) (l : List ℕ) → Below n (x ∷ l) → Below n l
unfolding Below
below-tail n x l h i k = h (suc i) (omega arith)

below-append : (n : ℕ) (a b : List ℕ) → Below n a → Below n b → Below n (a ++ b)
below-append n [] b h k = k
below-append n (x ∷ a) b h k = below-cons n x (a ++ b) (below-head n x a h) (below-append n a b (below-tail n x a h) k)

-- and where the calls' bytes are bytes, so are the pool's
pub pool-low : (cs : List Call) → ((i : ℕ) → i < length cs → Below 256 (bytes_in (get_or cs i open_disc))) → Below 256 (pool_of cs)
unfolding pool_of
pool-low [] h = below-nil 256
pool-low (c ∷ cs) h = below-append 256 (bytes_in c) (pool_of cs) (h 0 (omega arith)) (pool-low cs (λ i k. h (suc i) (omega arith)))
