-- `maps_written::write_maps` meets its contract: each return by the law of its case. Assumes nothing.
use Prim.Native.Nat.{ℕ}
use mathlib.Core.Path.{sym, ap, ◌∙◌}
use lib.ListN.{take}
use Rattle.maps.specs.Kinds.{tables_apart}
use Rattle.maps.proofs.Tables.{few-tables}
use Rattle.maps_written.proofs.Writing.{as-it-came, write-once-length, write-once-goes, rewritable-length, rewritable-range, rewritable-apart, rewritable-goes}
use Rattle.maps_written.proofs.write_maps.Goals as goal

pub returns-then-out-ne-WRITE_ONCE_BYTES : goal.returns-then-out-ne-WRITE_ONCE_BYTES
returns-then-out-ne-WRITE_ONCE_BYTES c = let told = as-it-came _ _ (write-once-length _ _ _ c.in-WriteOnce.is c.if-out-ne-WRITE_ONCE_BYTES.true) in record { value = told.0; out_after = told.1 }

pub returns-then-out-ne-TYPE_TWO_BYTES : goal.returns-then-out-ne-TYPE_TWO_BYTES
returns-then-out-ne-TYPE_TWO_BYTES c = let told = as-it-came _ _ (rewritable-length _ _ _ _ _ c.in-Rewritable.is c.if-out-ne-TYPE_TWO_BYTES.true) in record { value = told.0; out_after = told.1 }

pub returns-then-not-tables_in_range : goal.returns-then-not-tables_in_range
returns-then-not-tables_in_range c =
    let r = sym c.tables_in_range.ensures ∙ c.if-not-tables_in_range.true in
    let told = as-it-came _ _ (rewritable-range _ _ _ _ _ c.in-Rewritable.is c.if-out-ne-TYPE_TWO_BYTES.false r) in record { value = told.0; out_after = told.1 }

pub returns-then-not-tables_apart : goal.returns-then-not-tables_apart
returns-then-not-tables_apart c =
    let r = sym c.tables_in_range.ensures ∙ c.if-not-tables_in_range.false in
    let a = c.tables_apart.ensures ∙ ap (λ (k : ℕ). tables_apart (take k c.args.volume.tables)) c.from.ensures in
    let told = as-it-came _ _ (rewritable-apart _ _ _ _ _ c.in-Rewritable.is c.if-out-ne-TYPE_TWO_BYTES.false r (sym a ∙ c.if-not-tables_apart.true)) in record { value = told.0; out_after = told.1 }

pub put_rewritable-requires : goal.put_rewritable-requires
put_rewritable-requires c = (few-tables _ _ (sym c.tables_in_range.ensures ∙ c.if-not-tables_in_range.false), c.if-out-ne-TYPE_TWO_BYTES.false)

pub returns-else-out-ne-WRITE_ONCE_BYTES : goal.returns-else-out-ne-WRITE_ONCE_BYTES
returns-else-out-ne-WRITE_ONCE_BYTES c = let told = write-once-goes _ _ _ c.in-WriteOnce.is _ c.if-out-ne-WRITE_ONCE_BYTES.false c.put_write_once.ensures in record { value = told.0; out_after = told.1 }

pub returns-else-not-tables_apart : goal.returns-else-not-tables_apart
returns-else-not-tables_apart c =
    let r = sym c.tables_in_range.ensures ∙ c.if-not-tables_in_range.false in
    let a = c.tables_apart.ensures ∙ ap (λ (k : ℕ). tables_apart (take k c.args.volume.tables)) c.from.ensures in
    let told = rewritable-goes _ _ _ _ _ c.in-Rewritable.is _ c.if-out-ne-TYPE_TWO_BYTES.false r (sym a ∙ c.if-not-tables_apart.false) c.put_rewritable.ensures in record { value = told.0; out_after = told.1 }
