-- Laws of what C sees of map lists and VAT files. Assumes nothing.
use Prim.Native.Nat.{ℕ, zero, suc, ◌<◌, ◌≤◌}
use mathlib.Core.Path.{◌≡◌, refl, ap, sym, ◌∙◌}
use mathlib.Core.Bool.{Bool, true, false, cond}
use mathlib.Core.List.{List, [], ◌∷◌, ◌++◌}
use native.Mathlib.Omega.{arith}
use borrow.Author.Tests.{eq-eqb, ne_eqb, le-leb, lt-leb, ltb-false}
use lib.ListN.{length, get_or, set}
use lib.Dec.{eqb, ltb}
use Rattle.refusal.specs.declared.Refusal.{Refusal}
use Rattle.refusal.specs.declared.Refusal.TheVariants.{LentLength, NeitherKind}
use Rattle.refusal.specs.Verdict.{Verdict, verdict_of}
use Rattle.std.specs.Prelude.{Ok, Err, Result}
use Rattle.refusal.specs.Number.{number_of, answer_number}
use Rattle.refusal.specs.Tests.{need}
use Rattle.address.specs.declared.LogicalAddress.{LogicalAddress}
use Rattle.maps.specs.declared.Kind.{Kind}
use Rattle.maps.specs.declared.Kind.TheVariants.{WriteOnce, Rewritable}
use Rattle.maps.specs.declared.Volume.{Volume}
use Rattle.maps.specs.Kinds.{read_maps, volume_with, tables_in_range, volume_read}
use Rattle.maps.specs.Written.{kind_in_range}
use Rattle.maps_written.specs.Writing.{write_tests, write_verdict, written_or, map_bytes}
use Rattle.model.proofs.Basics.{cond-elim}
use Rattle.vat_look_up.specs.File.{looked_up}
use Rattle.maps.specs.Numbers.{four_of, kind_numbers, volume_numbers}
use Rattle.call_lists.specs.Lists.{maps_verdict, volume_after, volume_for, lent_verdict, logical_after, lent_look_up}

-- ---- a map list read

-- eight numbers, each of them set, the last four first
eight-set : (k : List ℕ) (a b c d m n o p : ℕ) → length k ≡ 8 → set (set (set (set (set (set (set (set k 4 m) 5 n) 6 o) 7 p) 0 a) 1 b) 2 c) 3 d ≡ a ∷ b ∷ c ∷ d ∷ m ∷ n ∷ o ∷ p ∷ []
eight-set [] a b c d m n o p h = absurd (omega arith)
eight-set (q ∷ []) a b c d m n o p h = absurd (omega arith)
eight-set (q ∷ r ∷ []) a b c d m n o p h = absurd (omega arith)
eight-set (q ∷ r ∷ s ∷ []) a b c d m n o p h = absurd (omega arith)
eight-set (q ∷ r ∷ s ∷ t ∷ []) a b c d m n o p h = absurd (omega arith)
eight-set (q ∷ r ∷ s ∷ t ∷ u ∷ []) a b c d m n o p h = absurd (omega arith)
eight-set (q ∷ r ∷ s ∷ t ∷ u ∷ v ∷ []) a b c d m n o p h = absurd (omega arith)
eight-set (q ∷ r ∷ s ∷ t ∷ u ∷ v ∷ w ∷ []) a b c d m n o p h = absurd (omega arith)
eight-set (q ∷ r ∷ s ∷ t ∷ u ∷ v ∷ w ∷ x ∷ []) a b c d m n o p h = refl
eight-set (q ∷ r ∷ s ∷ t ∷ u ∷ v ∷ w ∷ x ∷ y ∷ k) a b c d m n o p h = absurd (omega arith)

module _ (k : List ℕ) (v : Volume) (h : length k ≡ 8) where
  -- to those of a write-once volume
  pub eight-once : {p : ℕ} → v.kind ≡ WriteOnce p → set (set (set (set (set (set (set (set k 4 (get_or v.tables 0 0)) 5 (get_or v.tables 1 0)) 6 (get_or v.tables 2 0)) 7 (get_or v.tables 3 0)) 0 0) 1 p) 2 0) 3 0 ≡ volume_numbers v
  eight-once {p} q =
      eight-set k 0 p 0 0 (get_or v.tables 0 0) (get_or v.tables 1 0) (get_or v.tables 2 0) (get_or v.tables 3 0) h
      ∙ sym (ap (λ (x : Kind). kind_numbers x ++ four_of v.tables) q)

  -- to those of a rewritable one
  pub eight-rewritable : {p n size : ℕ} → v.kind ≡ Rewritable p n size → set (set (set (set (set (set (set (set k 4 (get_or v.tables 0 0)) 5 (get_or v.tables 1 0)) 6 (get_or v.tables 2 0)) 7 (get_or v.tables 3 0)) 0 1) 1 p) 2 n) 3 size ≡ volume_numbers v
  eight-rewritable {p} {n} {size} q =
      eight-set k 1 p n size (get_or v.tables 0 0) (get_or v.tables 1 0) (get_or v.tables 2 0) (get_or v.tables 3 0) h
      ∙ sym (ap (λ (x : Kind). kind_numbers x ++ four_of v.tables) q)

module _ (s result : List ℕ) where
  -- what is seen of a verdict: the number that is returned and the lent result
  maps-seen : {v : Verdict} {n : ℕ} {out : List ℕ} → maps_verdict s result ≡ v → n ≡ answer_number v → out ≡ volume_after v (volume_read (read_maps s)) result → (n ≡ answer_number (maps_verdict s result)) × (out ≡ volume_after (maps_verdict s result) (volume_read (read_maps s)) result)
  maps-seen q hn ho = rw q (hn, ho)

  -- a result of another length
  pub maps-short : {n : ℕ} → (length result ≡ 8 → ⊥) → n ≡ number_of LentLength → (n ≡ answer_number (maps_verdict s result)) × (result ≡ volume_after (maps_verdict s result) (volume_read (read_maps s)) result)
  unfolding maps_verdict need
  maps-short h q = let a = ne_eqb (length result) 8 h in maps-seen {v = Err LentLength} (rw a) q refl

  module _ {r : Result Volume Refusal} (h : length result ≡ 8) (q : r ≡ read_maps s) where
    -- where it is as stated, reading decides
    maps-verdict : maps_verdict s result ≡ verdict_of r
    unfolding maps_verdict need
    maps-verdict = let a = eq-eqb (length result) 8 h in rw a (sym (ap verdict_of q))

    -- a list that is read
    pub maps-read : {v : Volume} {out : List ℕ} → r ≡ Ok v → out ≡ volume_numbers v → (0 ≡ answer_number (maps_verdict s result)) × (out ≡ volume_after (maps_verdict s result) (volume_read (read_maps s)) result)
    unfolding volume_read
    maps-read is ho = maps-seen (maps-verdict ∙ ap verdict_of is) refl (ho ∙ ap (λ (x : Result Volume Refusal). volume_numbers (volume_read x)) (sym is ∙ q))

    -- one that is refused
    pub maps-refused : {why : Refusal} {n : ℕ} → r ≡ Err why → n ≡ number_of why → (n ≡ answer_number (maps_verdict s result)) × (result ≡ volume_after (maps_verdict s result) (volume_read (read_maps s)) result)
    maps-refused is hn = maps-seen (maps-verdict ∙ ap verdict_of is) hn refl

-- ---- a map list written

-- more than four tables are out of range, however many they are
many-verdict : (p n size : ℕ) (t out : List ℕ) → 5 ≤ n → write_verdict (volume_with (Rewritable p n size) t) out ≡ need (eqb (length out) 64) LentLength (Err NeitherKind)
unfolding write_verdict write_tests kind_in_range tables_in_range map_bytes volume_with need
many-verdict p n size t out h = let a = le-leb 1 n (omega arith) in let b = lt-leb n 4 (omega arith) in rw (a, b)

-- a verdict that stops the call leaves the lent bytes
stopped-kept : (b : Bool) (v : Volume) (out : List ℕ) → written_or (need b LentLength (Err NeitherKind)) v out ≡ out
unfolding written_or need
stopped-kept true v out = refl
stopped-kept false v out = refl

-- a number that is neither 0 nor 1
above : (n : ℕ) → (n ≡ 0 → ⊥) → (n ≡ 1 → ⊥) → 1 < n
above zero f g = absurd (f refl)
above (suc zero) f g = absurd (g refl)
above (suc (suc n)) f g = omega arith

-- what is written of a volume: the verdict's number and the lent bytes after it
abbrev Writes : Volume → List ℕ → ℕ → List ℕ → Type 0
Writes v out n out' = (n ≡ answer_number (write_verdict v out)) × (out' ≡ written_or (write_verdict v out) v out)

-- so all that are too many are alike
few-written : (p n size : ℕ) (t out : List ℕ) {r : ℕ} {out' : List ℕ} → Writes (volume_with (Rewritable p (cond (ltb n 5) n 5) size) t) out r out' → Writes (volume_with (Rewritable p n size) t) out r out'
few-written p n size t out {r} {out'} =
    cond-elim (λ (m : ℕ). Writes (volume_with (Rewritable p m size) t) out r out' → Writes (volume_with (Rewritable p n size) t) out r out') (ltb n 5)
    (λ _. λ h. h)
    (λ e. λ h.
    let a = many-verdict p 5 size t out (omega arith) in
    let b = many-verdict p n size t out (ltb-false n 5 e) in
    (h.0 ∙ ap answer_number (a ∙ sym b), h.1 ∙ ap (λ (v : Verdict). written_or v (volume_with (Rewritable p 5 size) t) out) a ∙ stopped-kept (eqb (length out) 64) (volume_with (Rewritable p 5 size) t) out ∙ sym (ap (λ (v : Verdict). written_or v (volume_with (Rewritable p n size) t) out) b ∙ stopped-kept (eqb (length out) 64) (volume_with (Rewritable p n size) t) out)))

-- what C sees of it: the number that is returned and the lent bytes after it
abbrev pub Written : ℕ → ℕ → ℕ → List ℕ → List ℕ → ℕ → List ℕ → Type 0
Written kind p size tables out r out' = (r ≡ answer_number (lent_verdict kind p size tables out)) × (out' ≡ written_or (lent_verdict kind p size tables out) (volume_for kind p size tables) out)

-- a rewritable volume, as its parts are taken
pub rewritable-written : (p size : ℕ) (tables out : List ℕ) {m a b c d r : ℕ} {v : Verdict} {out' : List ℕ} → m ≡ cond (ltb (length tables) 5) (length tables) 5 → a ≡ get_or tables 0 0 → b ≡ get_or tables 1 0 → c ≡ get_or tables 2 0 → d ≡ get_or tables 3 0 → v ≡ write_verdict (volume_with (Rewritable p m size) (a ∷ b ∷ c ∷ d ∷ [])) out → r ≡ answer_number v → out' ≡ written_or (write_verdict (volume_with (Rewritable p m size) (a ∷ b ∷ c ∷ d ∷ [])) out) (volume_with (Rewritable p m size) (a ∷ b ∷ c ∷ d ∷ [])) out → Written 1 p size tables out r out'
unfolding lent_verdict volume_for
rewritable-written p size tables out {m} {a} {b} {c} {d} {r} {v} {out'} hm ha hb hc hd hv hr ho =
    let h : Writes (volume_with (Rewritable p m size) (a ∷ b ∷ c ∷ d ∷ [])) out r out' = (hr ∙ ap answer_number hv, ho) in
    few-written p (length tables) size (four_of tables) out (rw (hm, ha, hb, hc, hd) at h)

module _ (p size : ℕ) (tables out : List ℕ) {kind r : ℕ} where
  -- a kind by its number
  pub written_as : {j : ℕ} {out' : List ℕ} → kind ≡ j → Written j p size tables out r out' → Written kind p size tables out r out'
  written_as e h = rw e h

  -- a kind above 1
  pub written-neither : (kind ≡ 0 → ⊥) → (kind ≡ 1 → ⊥) → r ≡ number_of NeitherKind → Written kind p size tables out r out
  unfolding lent_verdict written_or
  written-neither f g h = let a = lt-leb kind 1 (above kind f g) in rw a (h, refl)

-- ---- a VAT file

-- one number, set
pub one_set : (l : List ℕ) (x : ℕ) → length l ≡ 1 → set l 0 x ≡ x ∷ []
one_set [] x h = absurd (omega arith)
one_set (y ∷ []) x h = refl
one_set (y ∷ z ∷ l) x h = absurd (omega arith)

module _ (f : List ℕ) (v : ℕ) (result : List ℕ) where
  -- what is seen of an answer: the number that is returned and the lent result
  look-seen : {a : Result LogicalAddress Refusal} {n : ℕ} {out : List ℕ} → lent_look_up f v result ≡ a → n ≡ answer_number a → out ≡ logical_after a result → (n ≡ answer_number (lent_look_up f v result)) × (out ≡ logical_after (lent_look_up f v result) result)
  look-seen q hn ho = rw q (hn, ho)

  -- a result of another length
  pub look-short : {n : ℕ} → (length result ≡ 1 → ⊥) → n ≡ number_of LentLength → (n ≡ answer_number (lent_look_up f v result)) × (result ≡ logical_after (lent_look_up f v result) result)
  unfolding lent_look_up
  look-short h q = let a = ne_eqb (length result) 1 h in look-seen {a = Err LentLength} (rw a) q refl

  module _ {a : Result LogicalAddress Refusal} (h : length result ≡ 1) (q : a ≡ looked_up f (record { 0 = v })) where
    -- where it is as stated, looking up decides
    look_is : lent_look_up f v result ≡ a
    unfolding lent_look_up
    look_is = let b = eq-eqb (length result) 1 h in rw b (sym q)

    -- an entry that is used
    pub look_at : {b : LogicalAddress} → a ≡ Ok b → (0 ≡ answer_number (lent_look_up f v result)) × (set result 0 b.0 ≡ logical_after (lent_look_up f v result) result)
    look_at {b} is = look-seen (look_is ∙ is) refl (one_set result b.0 h)

    -- a refusal
    pub look-refused : {why : Refusal} {n : ℕ} → a ≡ Err why → n ≡ number_of why → (n ≡ answer_number (lent_look_up f v result)) × (result ≡ logical_after (lent_look_up f v result) result)
    look-refused is hn = look-seen (look_is ∙ is) hn refl
