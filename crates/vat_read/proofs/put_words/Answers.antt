use Prim.Native.Nat.{ℕ, ◌+◌, ◌*◌, ◌/◌, ◌<◌}
use mathlib.Core.Path.{◌≡◌, sym, ap, ◌∙◌}
use mathlib.Core.List.{List, []}
use native.Mathlib.Omega.{arith}
use lib.ListN.{length, get_or}
use Rattle.fields.specs.Number.{field, words}
use Rattle.fields.proofs.Laws.{copying-first, copying-next, copying-last}
use Rattle.fields.proofs.Words.{word_at}
use Rattle.vat_read.proofs.Table.{chunk_word, length-words}
use Rattle.vat_read.proofs.put_words.Goals as goal

pub loop-i-init : goal.loop-i-init
loop-i-init c = copying-first _ _ _

pub loop-i-preserved : goal.loop-i-preserved
loop-i-preserved c = let v = c.loop-i in
    let a = c.args in
    let b = a.bytes.now in
    let n = length b / 4 in
    let l = length-words b 0 n in
    let ws = c.as_chunks.ensures in
    let z : 4 * v.i ≡ 0 + 4 * v.i = omega arith in
    let more : v.i < n = omega (arith, ws.front_len, c.loop-i-test.true) in
    let e : c.read.result ≡ field b (4 * v.i) 4 = c.read.ensures ∙ ap (λ (x : List (List ℕ)). field (get_or x v.i []) 0 4) ws.front ∙ chunk_word b n v.i more in
    copying-next a.table.now a.from (words b 0 n) v.table v.i _ (omega arith) (omega arith)
    (e ∙ ap (λ (at : ℕ). field b at 4) z ∙ sym (word_at b 0 n v.i (omega arith)))
    v.invariant

pub returns : goal.returns
returns c = let v = c.loop-i in
    let a = c.args in
    let b = a.bytes.now in
    let l = length-words b 0 (length b / 4) in
    let ws = c.as_chunks.ensures.front_len in
    copying-last a.table.now a.from (words b 0 (length b / 4)) v.table v.i (omega (arith, c.loop-i-test.false)) v.invariant
