-- `bitmap::Bitmap::look` meets its contract. Assumes nothing.
use Prim.Native.Nat.{ℕ, ◌<◌, ◌^◌}
use mathlib.Core.Path.{refl, sym, ◌∙◌, subst}
use mathlib.Core.Logic.{inl, inr}
use native.Mathlib.Omega.{arith}
use Rattle.fields.proofs.Laws.{AllBytes, field_below}
use Rattle.bitmap.proofs.Windows.{byte-field, state-small, shows}
use Rattle.bitmap.proofs.Bitmap.look.Goals as goal

pub returns-then-self-q-lt-WORD_BYTES : goal.returns-then-self-q-lt-WORD_BYTES
returns-then-self-q-lt-WORD_BYTES c = let x = c.ones.ensures in
    let bytes : AllBytes c.args.self.bytes.now = c.args.self.small in
    shows _ bytes _ 1 _ _ (c.from-byte.ensures ∙ byte-field _ _) (inl refl) (λ h. omega arith) (subst (λ (y : ℕ). y < 256) (sym c.from-byte.ensures) (bytes _)) _ (state-small _) x.free x.allocated

pub returns : goal.returns
returns c = let e = c.read-word.ensures in
    let x = c.ones-2.ensures in
    let bytes : AllBytes c.args.self.bytes.now = c.args.self.small in
    shows _ bytes _ 8 _ _ e (inr refl) (λ h. refl) (subst (λ (y : ℕ). y < 2 ^ 64) (sym e) (field_below _ _ 8 bytes (omega arith))) _ (state-small _) x.free x.allocated
