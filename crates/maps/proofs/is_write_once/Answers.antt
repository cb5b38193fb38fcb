-- `maps::is_write_once` meets its contract: the kind by the list's bytes (`write-once-bytes`), test by test. Assumes nothing.
use Prim.Native.Nat.{ℕ}
use mathlib.Core.Path.{refl, sym, ap, ◌∙◌}
use mathlib.Core.List.{List}
use native.Mathlib.Omega.{arith}
use borrow.Author.Tests.{eq-eqb, ne_eqb, le-leb, lt-leb}
use lib.Dec.{eqb}
use Rattle.fields.specs.Number.{field}
use Rattle.fields.specs.Regid.{identifier, regid}
use Rattle.maps.specs.Kinds.{virtual_name}
use Rattle.maps.specs.Told.{one_type_two}
use Rattle.fields.proofs.Tests.{fails, holds}
use Rattle.maps.proofs.Walk.{rest_from}
use Rattle.maps.proofs.Reading.{write-once-bytes, type-two-long}
use Rattle.maps.proofs.is_write_once.Goals as goal

pub returns-then-maps-lt-TYPE_ONE_BYTES : goal.returns-then-maps-lt-TYPE_ONE_BYTES
returns-then-maps-lt-TYPE_ONE_BYTES c = fails _ (lt-leb _ _ c.if-maps-lt-TYPE_ONE_BYTES.true) ∙ sym (write-once-bytes _)

pub returns-then-maps-ne-TYPE_ONE : goal.returns-then-maps-ne-TYPE_ONE
returns-then-maps-ne-TYPE_ONE c = holds (le-leb _ _ c.if-maps-lt-TYPE_ONE_BYTES.false) (fails _ (ne_eqb _ _ c.if-maps-ne-TYPE_ONE.true))
    ∙ sym (write-once-bytes _)

pub returns-then-maps-ne-TYPE_ONE_LENGTH : goal.returns-then-maps-ne-TYPE_ONE_LENGTH
returns-then-maps-ne-TYPE_ONE_LENGTH c = holds (le-leb _ _ c.if-maps-lt-TYPE_ONE_BYTES.false)
    (holds (eq-eqb _ _ c.if-maps-ne-TYPE_ONE.false) (fails _ (ne_eqb _ _ c.if-maps-ne-TYPE_ONE_LENGTH.true)))
    ∙ sym (write-once-bytes _)

pub returns-then-not-is_type_two : goal.returns-then-not-is_type_two
unfolding virtual_name regid identifier
returns-then-not-is_type_two c =
    let s = c.args.maps.now in
    let two = ap (one_type_two virtual_name) (sym (rest_from s 6)) ∙ sym (c.is_type_two.ensures virtual_name refl) in
    holds (le-leb _ _ c.if-maps-lt-TYPE_ONE_BYTES.false)
    (holds (eq-eqb _ _ c.if-maps-ne-TYPE_ONE.false)
    (holds (eq-eqb _ _ c.if-maps-ne-TYPE_ONE_LENGTH.false) (fails _ (two ∙ c.if-not-is_type_two.true))))
    ∙ sym (write-once-bytes _)

pub read-requires-2 : goal.read-requires-2
unfolding virtual_name regid identifier
read-requires-2 c = let l = type-two-long virtual_name _ (sym (c.is_type_two.ensures virtual_name refl) ∙ c.if-not-is_type_two.false) in omega arith

pub returns : goal.returns
unfolding virtual_name regid identifier
returns c =
    let s = c.args.maps.now in
    let two = ap (one_type_two virtual_name) (sym (rest_from s 6)) ∙ sym (c.is_type_two.ensures virtual_name refl) in
    holds (le-leb _ _ c.if-maps-lt-TYPE_ONE_BYTES.false)
    (holds (eq-eqb _ _ c.if-maps-ne-TYPE_ONE.false)
    (holds (eq-eqb _ _ c.if-maps-ne-TYPE_ONE_LENGTH.false)
    (holds (two ∙ c.if-not-is_type_two.false)
    (ap (λ (k : ℕ). eqb k c.read-2.result) c.read.ensures
    ∙ ap (λ (k : ℕ). eqb (field s 4 2) k) (c.read-2.ensures ∙ ap (λ (x : List ℕ). field x 38 2) (rest_from s 6))))))
    ∙ sym (write-once-bytes _)
