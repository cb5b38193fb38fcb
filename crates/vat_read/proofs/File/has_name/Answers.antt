use Prim.Native.Nat.{ℕ}
use mathlib.Core.Path.{◌≡◌, refl, sym, ap, ◌∙◌}
use mathlib.Core.List.{List}
use native.Mathlib.Omega.{arith}
use lib.ListN.{get_or, drop, length-drop}
use lib.Seq.{get_or-drop}
use Rattle.fields.specs.Bytes.{part}
use Rattle.fields.specs.Regid.{regid, identifier}
use Rattle.fields.proofs.Laws.{front-next, regid-differs, regid-agrees, length-regid}
use Rattle.model.specs.Vat.{vat_name}
use Rattle.vat_read.specs.Content.{content}
use Rattle.vat_read.proofs.Bytes.{length_small}
use Rattle.vat_read.proofs.File.has_name.Goals as goal

pub loop-i-init : goal.loop-i-init
unfolding part regid identifier vat_name
loop-i-init c = (refl, refl)

pub overflow_add-from : goal.overflow_add-from
overflow_add-from c = let n = length_small _ _ _ c.args.self.now.filed in omega arith

-- a byte of the constant is that of the regid
same_byte : {l : List ℕ} (i : ℕ) → l ≡ regid vat_name → get_or l i 0 ≡ get_or (regid vat_name) i 0
same_byte i e = ap (λ (l : List ℕ). get_or l i 0) e

pub returns-then-byte-regid : goal.returns-then-byte-regid
returns-then-byte-regid c = let v = c.loop-i in
    sym (regid-differs _ _ _ v.i c.loop-i-test.true (λ e. c.if-byte-regid.true (c.byte.ensures ∙ e ∙ sym (same_byte v.i v.invariant.0))))

pub loop-i-preserved : goal.loop-i-preserved
unfolding part
loop-i-preserved c = let v = c.loop-i in
    let a = c.args in
    let f = content a.self.now in
    let l = length-regid vat_name in
    let d = length-drop a.from f in (
      v.invariant.0,
      front-next (drop a.from f) (regid vat_name) v.i (omega arith) (omega arith)
          (get_or-drop a.from f v.i 0 ∙ sym c.byte.ensures ∙ c.if-byte-regid.false ∙ same_byte v.i v.invariant.0)
          v.invariant.1,
    )

pub returns : goal.returns
returns c = let v = c.loop-i in
    let e : v.i ≡ 24 = omega arith in
    sym (regid-agrees _ _ _ (rw e at v.invariant.1))
