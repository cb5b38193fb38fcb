-- What lines 1 to 6 tell of a rewritable volume: where its partition, its tables and its spares lie. Assumes nothing.
use Prim.Native.Nat.{◌+◌, ◌%◌, ◌≤◌}
use mathlib.Core.Bool.{Bool, true, false}
use mathlib.Core.Path.{◌≡◌, refl}
use native.Mathlib.Omega.{arith}
use lib.Dec.{leb, eqb}
use lib.ListN.{length}
use borrow.Author.Tests.{leb-true, eqb-true}
use Rattle.maps.specs.declared.Kind.{Kind}
use Rattle.maps.specs.declared.Kind.TheVariants.{WriteOnce, Rewritable}
use Rattle.maps.specs.Kinds.{tables_in_range, tables_apart, read_maps, volume_read}
use Rattle.maps.specs.Written.{kind_in_range}
use Rattle.maps.proofs.Laws.{read-fine}
use Rattle.model.specs.Disc.{Disc}
use Rattle.model.specs.Sparing.{Geometry}
use Rattle.model.specs.Examine.{Setting, volume, size_in, write_once, geometry, all_outside, aligned}
use Rattle.model.proofs.Basics.{and-true}
use Rattle.model.proofs.Verdicts.{Examined}
use Rattle.model.proofs.Sectors.{shapely-most, inside-fits}

-- ---- a map list that is read

-- a table has at most 2,048 bytes
pub size-in-range : (k : Kind) → kind_in_range k ≡ true → size_in k ≤ 2048
unfolding kind_in_range tables_in_range size_in
size-in-range (WriteOnce p) h = omega arith
size-in-range (Rewritable p n size) h =
    let a = and-true (leb 1 n) _ h in
    let b = and-true (leb n 4) _ a.1 in
    leb-true _ _ (and-true (leb 56 size) _ b.1).1

-- ---- the ground of a rewritable volume

-- partition, spares and tables lie in packets of the disc
pub record Ground (e : Setting) (g : Geometry) : Type 0 where
  pub start_is : e.start ≡ g.start
  pub span-is : e.span ≡ g.span
  pub flush : aligned g ≡ true
  pub start-32 : g.start % 32 ≡ 0
  pub span-32 : g.span % 32 ≡ 0
  pub outside : all_outside g g.tables ≡ true
  pub apart : tables_apart g.tables ≡ true
  pub size : g.size ≤ 2048
  pub sectors : g.sectors ≤ 1048576
  pub inside : g.start + g.span ≤ g.sectors

pub ground : (e : Setting) (d : Disc) (lent : Bool) → write_once e ≡ false → Examined e d lent → Ground e (geometry e d)
unfolding geometry aligned volume
ground e d lent kind x =
    let a : aligned (geometry e d) ≡ true = rw kind at x.places in
    let p = and-true (eqb (e.start % 32) 0) _ a in
    let q = and-true (eqb (e.span % 32) 0) _ p.1 in
    record {
      start_is = refl;
      span-is = refl;
      flush = a;
      start-32 = eqb-true _ _ p.0;
      span-32 = eqb-true _ _ q.0;
      outside = q.1;
      apart = (read-fine e.maps x.maps).apart;
      size = size-in-range (volume_read (read_maps e.maps)).kind (read-fine e.maps x.maps).kinds;
      sectors = shapely-most d x.shape;
      inside = (inside-fits d e.start e.span x.within).1;
    }

-- the geometry is the same as long as the disc has as many sectors
pub geometry-same : (e : Setting) (d d' : Disc) → length d'.marks ≡ length d.marks → geometry e d' ≡ geometry e d
unfolding geometry
geometry-same e d d' q = rw q
