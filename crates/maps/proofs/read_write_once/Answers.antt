-- `maps::read_write_once` meets its contract: the second map is what stands from byte 6 on. Assumes nothing.
use Prim.Native.Nat.{ℕ}
use mathlib.Core.Path.{ap, ◌∙◌}
use mathlib.Core.List.{List}
use native.Mathlib.Omega.{arith}
use lib.ListN.{replicate}
use Rattle.std.specs.Prelude.{Ok}
use Rattle.fields.specs.Number.{field}
use Rattle.maps.specs.declared.Kind.TheVariants.{WriteOnce}
use Rattle.maps.specs.Kinds.{volume_with}
use Rattle.maps.proofs.Walk.{rest_from}
use Rattle.maps.proofs.Reading.{write-once-maps, read-write-once}
use Rattle.maps.proofs.read_write_once.Goals as goal

pub slice_bounds-second-count : goal.slice_bounds-second-count
slice_bounds-second-count c = let m = write-once-maps _ c.requires in omega arith

pub slice_bounds-second-start : goal.slice_bounds-second-start
slice_bounds-second-start c = let m = write-once-maps _ c.requires in omega arith

pub read-partition-requires : goal.read-partition-requires
read-partition-requires c = let m = write-once-maps _ c.requires in omega arith

pub returns : goal.returns
returns c = let s = c.args.maps.now in
    ap Ok c.volume_with.ensures
    ∙ ap (λ (k : ℕ). Ok (volume_with (WriteOnce k) (replicate 4 0))) (c.read-partition.ensures ∙ ap (λ (x : List ℕ). field x 38 2) (rest_from s 6))
    ∙ read-write-once s (write-once-maps s c.requires)
