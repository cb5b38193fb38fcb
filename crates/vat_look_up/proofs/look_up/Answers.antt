-- `vat_look_up::look_up` meets its contract: the tests of the file, then the translation by its entries. Assumes nothing.
use Prim.Native.Nat.{◌<◌}
use mathlib.Core.Path.{◌≡◌, sym, ◌∙◌}
use borrow.Author.Rules.{rules}
use Rattle.std.specs.Prelude.{Err}
use native.Mathlib.Omega.{arith}
use lib.ListN.{length}
use Rattle.address.proofs.Laws.{no-entry, entered}
use Rattle.model.specs.Vat.{entries_of}
use Rattle.vat_look_up.proofs.Laws.{long, entry_at, entries-long, not-looked, looked, looked-up-so}
use Rattle.vat_look_up.proofs.look_up.Goals as goal

pub overflow_sub-file : goal.overflow_sub-file
overflow_sub-file c = let h = (long _ (sym c.judge_file.ensures ∙ c.in_ok-judge_file.was)).0 in omega arith

pub returns-then-file-i : goal.returns-then-file-i
returns-then-file-i c = let a = c.args in
    let n = entries-long a.file.now in
    looked-up-so _ _ (no-entry _ a.v (omega (arith, n, c.if-file-i.true)) ∙ looked _ _ (sym c.judge_file.ensures ∙ c.in_ok-judge_file.was))

pub returns-in_err-judge_file : goal.returns-in_err-judge_file
returns-in_err-judge_file c =
    let e : c.from_residual.result ≡ Err c.in_err-judge_file.field-0.0 = search rules in
    looked-up-so _ _ (e ∙ not-looked _ _ (sym c.judge_file.ensures ∙ c.in_err-judge_file.was))

pub returns : goal.returns
returns c = let a = c.args in
    let n = entries-long a.file.now in
    let h : a.v.0 < length (entries_of a.file.now) = omega (arith, n, c.if-file-i.false) in
    looked-up-so _ _
    (entered _ _ h (c.read.ensures ∙ sym (entry_at a.file.now a.v.0 h)) c.entry_to_logical.ensures
    ∙ looked _ _ (sym c.judge_file.ensures ∙ c.in_ok-judge_file.was))
