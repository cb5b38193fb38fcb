use Rattle.std.proofs.Common.{ℕ, ◌≡◌, ◌*◌, ◌/◌, ◌∙◌, List, [], length, get_or, drop, ap, sym, arith}
use Rattle.disc_marks.specs.Marks.{highest_of}
use Rattle.disc_marks.proofs.Laws.{highest_chunk}
use Rattle.disc_marks.proofs.highest_many.Goals as goal

pub loop-turn-init : goal.loop-turn-init
unfolding highest_of
loop-turn-init c = omega arith

pub loop-turn-preserved : goal.loop-turn-preserved
loop-turn-preserved c = let m = c.args.marks.now in
    let turns = c.as_chunks.ensures.front in
    let this = ap (λ (x : List (List ℕ)). highest_of (get_or x c.loop-turn.turn-index [])) turns in
    omega (arith, c.loop-turn.invariant, c.raise.ensures, this, highest_chunk 64 (length m / 64) m c.loop-turn.turn-index (omega (arith, c.as_chunks.ensures.front_len)))

pub returns : goal.returns
returns c = let m = c.args.marks.now in
    let e : c.loop-turn.turn-index ≡ length m / 64 = omega (arith, c.as_chunks.ensures.front_len) in
    let rest = ap (λ (x : ℕ). highest_of (drop (x * 64) m)) e ∙ ap highest_of (sym c.as_chunks.ensures.back) in
    omega (arith, c.loop-turn.invariant, rest)
