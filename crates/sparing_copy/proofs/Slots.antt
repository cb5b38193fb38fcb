-- Laws of the slots of packets, and of the mapped starts that are looked at with them, from the last entry down. Assumes nothing.
use Rattle.std.proofs.Common.{◌≡◌, ℕ, ◌+◌, ◌-◌, ◌/◌, ◌%◌, ◌<◌, Bool, true, false, not, eqb, ◌≢◌, List, [], ◌∷◌, length, get_or, drop, set, sym, refl, ap, ◌∙◌, ap₂, arith, length-set, get_or-set_other, get_or-set_same, eq-eqb, ne_eqb}
use Rattle.maps.specs.Kinds.{absent}
use Rattle.model.specs.Sparing.{Geometry, Entry, mapped_of, mapped_fit}
use Rattle.model.proofs.Basics.{both, by-eq, differ, or_left, or_right}
use Rattle.sparing_copy.specs.Entries.{placed}
use Rattle.sparing_copy.specs.Slots.{tag_of, may_hold, held_with, Told}
use Rattle.sparing_copy.proofs.Rule.{mapped_next}

-- ---- a packet's slot

-- it was given several
pub holds-several : (held m : ℕ) → held ≡ 1 → true ≡ may_hold held m
unfolding may_hold
holds-several held m e = sym (or_left _ (eq-eqb held 1 e))

-- it was given none
pub holds-none : (held m : ℕ) → held ≡ 0 → may_hold held m ≡ false
unfolding may_hold
holds-none held m z = rw (ne_eqb held 1 (omega arith), ne_eqb held (tag_of m) (omega arith))

-- it holds the packet's own tag
holds-own : (m : ℕ) → may_hold (tag_of m) m ≡ true
unfolding may_hold
holds-own m = or_right (eqb (tag_of m) 1) (eq-eqb (tag_of m) (tag_of m) refl)

-- one packet more: in an empty slot it stands alone, and in another there are several
pub with-one : (held m t : ℕ) → held ≡ 0 → t ≡ tag_of m → t ≡ held_with held m
unfolding held_with
with-one held m t z e = rw (eq-eqb held 0 z) e

pub with-several : (held m : ℕ) → held ≢ 0 → 1 ≡ held_with held m
unfolding held_with
with-several held m n = rw (ne_eqb held 0 n)

-- what a slot cannot have been given, once it is given the packet of m, is another packet, and it could not before
held-other : (held m k : ℕ) → may_hold (held_with held m) k ≡ false → (k ≢ m) × (may_hold held k ≡ false)
held-other held m k h =
    by-eq held 0
    (λ z.
    let e : held_with held m ≡ tag_of m = sym (with-one held m (tag_of m) z refl) in
    (λ q. differ (ap₂ may_hold e q ∙ holds-own m) h, holds-none held k z))
    (λ n. differ (sym (holds-several (held_with held m) k (sym (with-several held m n)))) h)

-- ---- the mapped starts passed, from the last down

-- the entries from i on fit, and the slots tell of them
pub record Passed (g : Geometry) (es : List Entry) (seen : List ℕ) (i : ℕ) : Type 0 where
  pub fits : mapped_fit g (drop i es) ≡ true
  pub slots : length seen ≡ 256
  pub told : Told seen (drop i es)

module _ (g : Geometry) (es : List Entry) (seen : List ℕ) (i : ℕ) where
  -- none is passed
  pub passed_none : drop i es ≡ [] → length seen ≡ 256 → Passed g es seen i
  unfolding mapped_fit mapped_of absent
  passed_none h l = record { fits = rw h; slots = l; told = λ m z. rw h }

  -- those behind the entry before
  pub passed-behind : 0 < i → Passed g es seen i → Passed g es seen (i - 1 + 1)
  passed-behind z p = let e : i - 1 + 1 ≡ i = omega arith in rw e p

  -- one more, whose mapped start m may be a spare and is none of theirs: its slot s held this, and holds w with it
  module _ (e : Entry) (h : drop i es ≡ e ∷ drop (i + 1) es) (m s : ℕ) (em : m ≡ e.mapped) (t : s ≡ m / 32 % 256) (p : Passed g es seen (i + 1)) (held w : ℕ) (eh : held ≡ get_or seen s 0) (ew : w ≡ held_with held m) where
    -- what its slot cannot have been given now is another packet, and it could not before
    told-before : (k : ℕ) → may_hold (get_or (set seen s w) (k / 32 % 256) 0) k ≡ false → (k ≢ m) × (may_hold (get_or seen (k / 32 % 256) 0) k ≡ false)
    told-before k z =
        by-eq (k / 32 % 256) s
        (λ q.
        let now : w ≡ get_or (set seen s w) (k / 32 % 256) 0 =
        sym (get_or-set_same seen s w 0 (omega (arith, p.slots))) ∙ ap (λ (j : ℕ). get_or (set seen s w) j 0) (sym q) in
        let o = held-other held m k (ap (λ (x : ℕ). may_hold x k) (sym ew ∙ now) ∙ z) in
        (o.0, ap (λ (x : ℕ). may_hold x k) (ap (λ (j : ℕ). get_or seen j 0) q ∙ sym eh) ∙ o.1))
        (λ n. (
          λ q. n (ap (λ (j : ℕ). j / 32 % 256) q ∙ sym t),
          ap (λ (x : ℕ). may_hold x k) (sym (get_or-set_other seen s (k / 32 % 256) w 0 n)) ∙ z,
        ))

    still-told : Told (set seen s w) (drop i es)
    unfolding mapped_of absent
    still-told k z =
        let b = told-before k z in
        ap (λ (x : List Entry). absent k (mapped_of x)) h ∙ rw (← em) (both (ap not (ne_eqb k m b.0)) (p.told k b.1))

    pub passed-next : (r a : Bool) → r ≡ placed g m → r ≡ true → a ≡ absent m (mapped_of (drop (i + 1) es)) → a ≡ true → Passed g es (set seen s w) i
    passed-next r a f q u v =
        record {
          fits = sym (mapped_next es i e h g m em r a f q u v) ∙ p.fits;
          slots = length-set seen s w ∙ p.slots;
          told = still-told;
        }
