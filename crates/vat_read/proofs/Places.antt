-- Laws of where a byte of a file stands, for a loop over its extents. Assumes nothing.
use Prim.Native.Nat.{ℕ, ◌+◌, ◌-◌, ◌*◌, ◌≤◌, ◌<◌}
use mathlib.Core.Path.{◌≡◌, sym, ◌∙◌}
use mathlib.Core.Bool.{true}
use mathlib.Core.List.{List, [], ◌∷◌}
use lib.Dec.{leb}
use borrow.Author.Tests.{lt-ltb, le-ltb, leb-true}
use Rattle.model.specs.Vat.{Extent, blocks_in}
use Rattle.model.proofs.Basics.{and-true}
use Rattle.vat_read.specs.File.{position_of, left_of, on_disc}

-- ---- a loop over the extents: where a byte stands, and how many stand from it on

module _ (s left place bytes : ℕ) (l : List Extent) (p : position_of s l left ≡ place) (q : left_of l left ≡ bytes) where
  -- past all extents
  pub run_none : l ≡ [] → (0 ≡ place) × (0 ≡ bytes)
  unfolding position_of left_of
  run_none e = (sym (rw e) ∙ p, sym (rw e) ∙ q)

  module _ (x : Extent) (m : List Extent) (e : l ≡ x ∷ m) where
    -- in the next
    pub run_here : left < x.size → (2048 * (s + x.block) + left ≡ place) × (x.size - left ≡ bytes)
    unfolding position_of left_of
    run_here lt = (sym (rw (e, lt-ltb _ _ lt)) ∙ p, sym (rw (e, lt-ltb _ _ lt)) ∙ q)

    -- in one behind it
    pub run_later : x.size ≤ left → (position_of s m (left - x.size) ≡ place) × (left_of m (left - x.size) ≡ bytes)
    unfolding position_of left_of
    run_later le = (sym (rw (e, le-ltb _ _ le)) ∙ p, sym (rw (e, le-ltb _ _ le)) ∙ q)

-- the next extent lies on the disc, and so do those behind it
pub next_on_disc : (n s : ℕ) (l : List Extent) (x : Extent) (m : List Extent) → on_disc n s l ≡ true → l ≡ x ∷ m → (2048 * (s + x.block + blocks_in x.size) ≤ n) × (on_disc n s m ≡ true)
unfolding on_disc
next_on_disc n s l x m h e =
    let p = and-true (leb (2048 * (s + x.block + blocks_in x.size)) n) _ (rw e at h) in
    (leb-true _ _ p.0, p.1)
