-- `maps::read_rewritable` meets its contract: the list is the one map. Assumes nothing.
use Prim.Native.Nat.{ℕ}
use mathlib.Core.Path.{sym, ap, ap₂, ◌∙◌}
use mathlib.Core.List.{List}
use native.Mathlib.Omega.{arith}
use lib.ListN.{get_or, take}
use Rattle.std.specs.Prelude.{Ok}
use Rattle.fields.specs.Number.{field}
use Rattle.maps.specs.declared.Kind.TheVariants.{Rewritable}
use Rattle.maps.specs.Kinds.{volume_with, used, words, tables_apart}
use Rattle.maps.proofs.Reading.{rewritable-map, rewritable-tables, read-misaligned, read-rewritable}
use Rattle.maps.proofs.read_rewritable.Goals as goal

pub bounds-maps-42 : goal.bounds-maps-42
bounds-maps-42 c = let m = rewritable-map _ c.requires in omega arith

pub table_sectors-sectors-requires : goal.table_sectors-sectors-requires
table_sectors-sectors-requires c = let m = rewritable-map _ c.requires in omega (arith, rewritable-tables _ m)

pub returns-then-not-tables_apart : goal.returns-then-not-tables_apart
returns-then-not-tables_apart c =
    let s = c.args.maps.now in
    let k = c.from-n.ensures in
    let t = c.table_sectors-sectors.ensures ∙ ap (λ (n : ℕ). used n (words s 48 4)) k in
    let a = c.tables_apart.ensures ∙ ap₂ (λ (n : ℕ) (x : List ℕ). tables_apart (take n x)) k t in
    read-misaligned _ (rewritable-map _ c.requires) (sym a ∙ c.if-not-tables_apart.true)

pub read-partition-requires : goal.read-partition-requires
read-partition-requires c = let m = rewritable-map _ c.requires in omega arith

pub read-size-requires : goal.read-size-requires
read-size-requires c = let m = rewritable-map _ c.requires in omega arith

pub returns : goal.returns
returns c =
    let s = c.args.maps.now in
    let k = c.from-n.ensures in
    let t = c.table_sectors-sectors.ensures ∙ ap (λ (n : ℕ). used n (words s 48 4)) k in
    let a = c.tables_apart.ensures ∙ ap₂ (λ (n : ℕ) (x : List ℕ). tables_apart (take n x)) k t in
    ap Ok c.volume_with.ensures
    ∙ ap (λ (p : ℕ). Ok (volume_with (Rewritable p (get_or s 42 0) c.read-size.result) c.table_sectors-sectors.result)) c.read-partition.ensures
    ∙ ap₂ (λ (z : ℕ) (x : List ℕ). Ok (volume_with (Rewritable (field s 38 2) (get_or s 42 0) z) x)) c.read-size.ensures t
    ∙ read-rewritable s (rewritable-map s c.requires) (sym a ∙ c.if-not-tables_apart.false)
