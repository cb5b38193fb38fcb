use Prim.Native.Nat.{ℕ, ◌*◌, ◌/◌, ◌<◌}
use mathlib.Core.Path.{◌≡◌, ap, ◌∙◌}
use mathlib.Core.List.{List, []}
use native.Mathlib.Omega.{arith}
use borrow.Author.Tests.{ne_eqb}
use lib.Dec.{eqb}
use lib.ListN.{length, get_or}
use Rattle.fields.specs.Number.{field}
use Rattle.vat_read.proofs.Table.{chunk_word, below-first, below_last, below-stop, below-unused, below_next}
use Rattle.vat_read.proofs.words_fit.Goals as goal
use Rattle.vat_read.proofs.words_fit.Goals.{then-e+then-k-e, else-e, else-e-via-then-e+else-k-e, else-e-via-else-e}

pub loop-word-init : goal.loop-word-init
loop-word-init c = (omega arith, below-first _ _ _)

pub loop-word-preserved : goal.loop-word-preserved
loop-word-preserved c =
    let b = c.args.bytes.now in
    let l = c.loop-word in
    let i = l.word-index in
    let w = l.invariant.1 in
    let words = c.as_chunks.ensures in
    let more : i < length b / 4 = omega (arith, words.front_len, c.loop-word-test.true) in
    let e : c.read-e.result ≡ field b (4 * i) 4 = c.read-e.ensures ∙ ap (λ (ws : List (List ℕ)). field (get_or ws i []) 0 4) words.front ∙ chunk_word b (length b / 4) i more in
    elim c.if-e.branch [
      | then-e+then-k-e x ↦ (
        omega (arith, x.over-is),
        below-stop _ _ _ _ (eqb l.over 0) w more _ e _ x.if-e.true (omega (arith, x.if-k-e.true)) (ne_eqb c.if-e.over 0 (omega (arith, x.over-is))),
      )
      | else-e x ↦ (
        omega (arith, x.over-is),
        elim x.else-e.branch [
          | else-e-via-then-e+else-k-e y ↦ below_next _ _ _ _ (eqb l.over 0) w more _ e _ y.if-e.true (omega (arith, y.if-k-e.false)) (ap (λ (k : ℕ). eqb k 0) x.over-is)
          | else-e-via-else-e y ↦ below-unused _ _ _ _ (eqb l.over 0) w more _ e _ y.if-e.false (ap (λ (k : ℕ). eqb k 0) x.over-is)
        ],
      )
    ]

pub returns : goal.returns
returns c = below_last _ _ _ _ _ c.loop-word.invariant.1 (omega (arith, c.as_chunks.ensures.front_len, c.loop-word-test.false))
