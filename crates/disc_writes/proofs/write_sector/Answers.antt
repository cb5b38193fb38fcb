-- `disc_writes::write_sector` meets its contract. Assumes nothing.
use Prim.Native.Nat.{ℕ, ◌+◌, ◌-◌, ◌*◌}
use mathlib.Core.Path.{◌≡◌, sym, ap, ◌∙◌}
use mathlib.Core.List.{List, ◌++◌}
use mathlib.Core.Logic.{inl, inr}
use native.Mathlib.Omega.{arith}
use lib.ListN.{set, take, drop}
use Rattle.fields.specs.Bytes.{splice}
use Rattle.fields.proofs.Laws.{lent_back}
use Rattle.model.specs.Disc.{disc}
use Rattle.model.specs.Writes.{landed}
use Rattle.disc_writes.proofs.Laws.{write-landed}
use Rattle.disc_writes.proofs.write_sector.Goals as goal

pub returns-in-Done : goal.returns-in-Done
unfolding landed
returns-in-Done c = let a = c.args in
    let k = 2048 * a.at.0 in
    let n = k + 2048 - k in
    let put : take k a.disc.now ++ (c.copy_from_slice.new.self ++ drop n (drop k a.disc.now)) ≡ splice a.disc.now k a.bytes.now =
    lent_back a.disc.now c.copy_from_slice.new.self k n (omega arith) ∙ ap (splice a.disc.now k) c.copy_from_slice.ensures.after in
    ap (λ (x : List ℕ). disc x (set a.marks.now a.at.0 1)) put
    ∙ write-landed _ _ _ _ _ _ (sym c.in-Done.is ∙ c.lands.ensures)

pub returns-in-Unreadable : goal.returns-in-Unreadable
unfolding landed
returns-in-Unreadable c = write-landed _ _ _ _ _ _ (sym c.in-Unreadable.is ∙ c.lands.ensures)

pub returns-in-Old : goal.returns-in-Old
unfolding landed
returns-in-Old c = elim c.in-Old.is [
  | inl old ↦ write-landed _ _ _ _ _ _ (sym old ∙ c.lands.ensures)
  | inr untouched ↦ write-landed _ _ _ _ _ _ (sym untouched ∙ c.lands.ensures)
]
