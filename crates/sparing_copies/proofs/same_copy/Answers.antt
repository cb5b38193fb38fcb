-- `sparing_copies::same_copy` meets its contract: the bytes compared are those up to the end of the entries. Assumes nothing.
use mathlib.Core.Path.{refl, ◌∙◌, ap₂}
use mathlib.Core.List.{[]}
use native.Mathlib.Omega.{arith}
use Rattle.fields.specs.Bytes.{same}
use Rattle.sparing_copies.proofs.Copies.{used-read}
use Rattle.sparing_copies.proofs.same_copy.Goals as goal

pub slice_bounds-same_bytes-end : goal.slice_bounds-same_bytes-end
slice_bounds-same_bytes-end c = omega (arith, c.count_at.ensures [], c.requires.by_index [])

pub slice_bounds-same_bytes-end-2 : goal.slice_bounds-same_bytes-end-2
slice_bounds-same_bytes-end-2 c = omega (arith, c.count_at.ensures [], c.requires.by_index [])

pub returns : goal.returns
returns c = let d = c.args.disc.now in
    λ m.
    let k = c.from.ensures ∙ c.count_at.ensures m in
    c.same_bytes.ensures
    ∙ ap₂ same
    (used-read d m c.args.t.0 c.args.other.0 c.from.result _ _ k (omega (arith, k, c.requires.by_index m)) c.start_of-a.ensures.0 refl)
    (used-read d m c.args.other.0 c.args.other.0 c.from.result _ _ k (omega (arith, k, c.requires.by_index m)) c.start_of-b.ensures.0 refl)
