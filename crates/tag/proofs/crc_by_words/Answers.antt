use Rattle.std.proofs.Common.{◌≡◌, ◌+◌, ◌-◌, ◌*◌, ◌%◌, [], ◌∷◌, ◌++◌, List, ℕ, ap, sym, ◌∙◌, length, drop, arith, length-append, length-drop}
use Rattle.tag.specs.Crc.{crc_from}
use Rattle.tag.proofs.Words.{crc-four-off, four-off}
use Rattle.tag.proofs.crc_by_words.Goals as goal

pub loop-w-init : goal.loop-w-init
loop-w-init c = let words = c.chunks_exact-words.ensures in
    rw c.into_iter-w-iterator.ensures.into_iter_gives record {
      by_four = words.size;
      within = omega arith;
      left = words.rest;
      leads = ap (crc_from c.args.start) words.rest;
    }

pub loop-w-preserved : goal.loop-w-preserved
loop-w-preserved c = let at = c.loop-w.invariant in
    let step = c.in-Some.ensures.steps in
    let w = c.in-Some.w.now in
    let four : length w ≡ 4 = step.1.1 ∙ at.by_four in
    let off = four-off c.args.bytes.now _ w _ (4 * length c.loop-w.yielded) at.within at.left four step.1.0 in
    let more : 4 * length (c.loop-w.yielded ++ c.in-Some.w ∷ []) ≡ 4 * length c.loop-w.yielded + 4 =
    omega (arith, length-append c.loop-w.yielded (c.in-Some.w ∷ []))
    in
    rw more record {
      by_four = step.0 ∙ at.by_four;
      within = off.0;
      left = off.1;
      leads = crc-four-off c.loop-w.so_far _ w _ _ four step.1.0 c.crc_word-so_far.ensures ∙ at.leads;
    }

pub returns : goal.returns
returns c = let at = c.loop-w.invariant in
    let bytes = c.args.bytes.now in
    let few = c.in-None.ensures.steps.1.0 in
    let end : 4 * length c.loop-w.yielded ≡ length bytes - length bytes % 4 =
    omega (arith, few, at.by_four, ap (λ (l : List ℕ). length l) at.left, length-drop (4 * length c.loop-w.yielded) bytes)
    in
    let tail = c.remainder-tail.ensures ∙ c.chunks_exact-words.ensures.remainder in
    c.crc_by_bytes.ensures
    ∙ ap (crc_from c.loop-w.so_far) (tail ∙ ap (λ (n : ℕ). drop n bytes) (sym end) ∙ sym at.left)
    ∙ at.leads
