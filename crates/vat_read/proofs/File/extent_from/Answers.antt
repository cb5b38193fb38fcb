use Prim.Native.Nat.{ℕ, ◌+◌, ◌-◌, ◌*◌, ◌≤◌, ◌<◌}
use mathlib.Core.Path.{◌≡◌, refl}
use mathlib.Core.List.{List, ◌∷◌}
use native.Mathlib.Omega.{arith}
use lib.ListN.{length, take, drop}
use Rattle.model.specs.Vat.{Extent, form, extents}
use Rattle.vat_icb.specs.Extents.{extent_of}
use Rattle.vat_read.specs.declared.File.{File}
use Rattle.vat_read.specs.Content.{content}
use Rattle.vat_read.specs.File.{Standing, position_of, left_of}
use Rattle.vat_read.proofs.Bytes.{extended_below, extended_standing, extended_some, length_file}
use Rattle.vat_read.proofs.Places.{run_none, run_here, run_later, next_on_disc}
use Rattle.vat_read.proofs.File.extent_from.Goals as goal

pub loop-extent-init : goal.loop-extent-init
loop-extent-init c = let f = c.args.self.now in
    let e = c.extents-extents.ensures in
    rw (c.into_iter-extent-iterator.ensures.into_iter_gives, e) (refl, refl, extended_below _ _ _ f.filed c.requires.by_extents)

pub sector_of-sector-requires : goal.sector_of-sector-requires
sector_of-sector-requires c = let on = next_on_disc _ _ _ _ _ c.loop-extent.invariant.2 c.in-Some.ensures.steps in
    omega (arith, on.0)

-- the part of the disc that is lent, from `left` on in extent x
module _ (f : File) (o left at to size : ℕ) (l m : List Extent) (x : Extent) where
  lent : (p : position_of f.s l left ≡ position_of f.s (extents f.entry.icb.bytes.now) o) → left_of l left ≡ left_of (extents f.entry.icb.bytes.now) o → l ≡ x ∷ m → left < size → size ≡ x.size
      → at ≡ 2048 * (f.s + x.block) + left → to ≡ at + (size - left) → (form f.entry.icb.bytes.now ≡ 3 → ⊥) → o < length (content f) → (to ≤ length f.disc.now) × Standing (content f) o (take (to - at) (drop at f.disc.now))
  lent p q next lt e place end by_extents h =
      let here = run_here _ left _ _ _ p q x m next (omega arith) in
      let n = length_file _ _ _ f.filed in
      extended_standing _ _ _ f.filed o at to by_extents (omega arith) (omega arith) (omega arith)

pub slice_bounds-result-end : goal.slice_bounds-result-end
slice_bounds-result-end c = let l = c.loop-extent in
    let x = c.in-Some.extent in
    (lent c.args.self.now c.args.o l.left _ (2048 * c.sector_of-sector.result.0 + l.left + (c.from-size.result - l.left)) _ _ _ (extent_of x) l.invariant.0 l.invariant.1 c.in-Some.ensures.steps c.if-left-size.true c.from-size.ensures (omega (arith, c.sector_of-sector.ensures)) refl c.requires.by_extents c.requires.o_bound).0

pub returns-then-left-size : goal.returns-then-left-size
returns-then-left-size c = let l = c.loop-extent in
    let x = c.in-Some.extent in
    (lent c.args.self.now c.args.o l.left _ _ _ _ _ (extent_of x) l.invariant.0 l.invariant.1 c.in-Some.ensures.steps c.if-left-size.true c.from-size.ensures (omega (arith, c.sector_of-sector.ensures)) refl c.requires.by_extents c.requires.o_bound).1

pub loop-extent-preserved : goal.loop-extent-preserved
loop-extent-preserved c = let l = c.loop-extent in
    let next = c.in-Some.ensures.steps in
    let later = run_later _ l.left _ _ _ l.invariant.0 l.invariant.1 _ _ next (rw (← c.from-size.ensures) c.if-left-size.false) in
    rw c.from-size.ensures (later.0, later.1, (next_on_disc _ _ _ _ _ l.invariant.2 next).1)

pub unreachable-requires : goal.unreachable-requires
unreachable-requires c = let l = c.loop-extent in
    let f = c.args.self.now in
    let none = run_none _ l.left _ _ _ l.invariant.0 l.invariant.1 c.in-None.ensures.steps.0 in
    let some = extended_some _ _ _ f.filed c.args.o c.requires.by_extents (rw (← length_file _ _ _ f.filed) c.requires.o_bound) in
    absurd (omega arith)
