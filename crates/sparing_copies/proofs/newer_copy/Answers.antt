-- `sparing_copies::newer_copy` meets its contract, by whether there is another, and whether that is newer. Assumes nothing.
use Rattle.std.proofs.Common.{◌≡◌, ℕ, Option, Some, None, sym, ap, ◌∙◌, arith}
use borrow.Author.Tests.{lt-leb}
use Rattle.model.specs.Disc.{disc as disc_of}
use Rattle.model.proofs.Basics.{differ}
use Rattle.sparing_copies.specs.declared.Newest.{Newest}
use Rattle.sparing_copies.specs.Copies.{newest_at, newer_of}
use Rattle.sparing_copies.proofs.Copies.{newer-alone, newer-first, newer-uncounted, newer-older}
use Rattle.sparing_copies.proofs.newer_copy.Goals as goal
use Rattle.sparing_copies.proofs.newer_copy.Goals.{in-Some+then-other-sequence, in-Some+else-other-sequence, in-None}

pub counts_beside-requires : goal.counts_beside-requires
counts_beside-requires c = record {
  count_bound = c.requires.count_bound;
  disc_len = c.requires.disc_len;
  t_in_bounds = (c.requires.t_in_bounds, rw c.in-Some.is at c.requires.at_in_bounds);
  at_value = rw c.in-Some.is at c.requires.at_value;
}

pub returns-then-is_newer : goal.returns-then-is_newer
returns-then-is_newer c = let q = c.sequence_at-sequence.ensures c.args.marks.now in
    let e : ◌≡◌ {A = Option Newest} (Some (record { at = c.args.t; sequence = c.sequence_at-sequence.result })) (Some (newest_at (disc_of c.args.disc.now c.args.marks.now) c.args.t.0)) = ap (λ (n : ℕ). Some (record { at = c.args.t; sequence = n })) q in
    elim c.match-newest.branch [
      | in-Some+then-other-sequence w ↦ e ∙ newer-first _ _ _ w.in-Some.other (sym w.counts_beside.ensures ∙ sym w.is_newer-is ∙ c.if-is_newer.true) (omega (arith, q)) ∙ ap (newer_of _ _ _) (sym w.in-Some.is)
      | in-Some+else-other-sequence w ↦ differ (sym w.is_newer-is ∙ c.if-is_newer.true) (lt-leb _ _ w.if-other-sequence.false)
      | in-None w ↦ e ∙ newer-alone _ _ _ (sym w.copy_counts-is_newer.ensures ∙ sym w.is_newer-is ∙ c.if-is_newer.true) ∙ ap (newer_of _ _ _) (sym w.in-None.is)
    ]

pub returns-else-is_newer : goal.returns-else-is_newer
returns-else-is_newer c = let q = c.sequence_at-sequence.ensures c.args.marks.now in
    elim c.match-newest.branch [
      | in-Some+then-other-sequence w ↦ w.newest-is ∙ newer-uncounted _ _ _ (Some w.in-Some.other) (sym w.counts_beside.ensures ∙ sym w.is_newer-is ∙ c.if-is_newer.false) ∙ ap (newer_of _ _ _) (sym w.in-Some.is)
      | in-Some+else-other-sequence w ↦ w.newest-is ∙ newer-older _ _ _ w.in-Some.other (omega (arith, q)) ∙ ap (newer_of _ _ _) (sym w.in-Some.is)
      | in-None w ↦ w.newest-is ∙ w.in-None.is ∙ newer-uncounted _ _ _ None (sym w.copy_counts-is_newer.ensures ∙ sym w.is_newer-is ∙ c.if-is_newer.false) ∙ ap (newer_of _ _ _) (sym w.in-None.is)
    ]
