-- `once_commit::commit` meets its contract: each return by the law of its line, or of how a commit ends. Assumes nothing.
use mathlib.Core.Bool.{Bool, true, false}
use mathlib.Core.List.{List}
use mathlib.Core.Path.{◌≡◌, refl, sym, ap, ◌∙◌}
use Prim.Native.Nat.{ℕ, ◌≤◌}
use native.Mathlib.Omega.{arith}
use Rattle.refusal.specs.declared.Refusal.{Refusal}
use Rattle.refusal.specs.declared.Refusal.TheVariants.{NoRoom}
use borrow.Author.Rules.{rules}
use Rattle.std.specs.Prelude.{Ok, Err, Result}
use Rattle.refusal.specs.Verdict.{verdict_of}
use Rattle.model.specs.declared.Record.{Record}
use Rattle.model.specs.Disc.{Disc}
use Rattle.model.specs.Examine.{Setting, lent_table}
use Rattle.model.specs.Once.{entries_held, once_verdict, room_to_commit, commit_tests, commit_plan}
use Rattle.model.specs.Plan.{refuse}
use Rattle.model.proofs.Plans.{refused}
use Rattle.maps.specs.declared.Volume.{Volume}
use Rattle.examine.specs.Ground.{JudgedOnce}
use Rattle.examine.proofs.Calls.{going, span-start, span-length, handed-on, table-long}
use Rattle.room.proofs.Laws.{data-few}
use Rattle.once_commit.proofs.Commits.{commit-stops, commit-full, commit-fits, Commits, commits, commit-refused, commit-start, commit-cut, commit-done}
use Rattle.once_commit.proofs.commit.Goals as goal

-- a commit's lent length was told, and its common tests judged
module _ {e : Setting} {d : Disc} {t : List ℕ} {held : Record} {lent : Bool} {r : Result Volume Refusal} (is : lent ≡ lent_table t) (judged : JudgedOnce e d t lent held r) where
  -- they stop it
  turned-down : {why : Refusal} → r ≡ Err why → commit_plan e d t held ≡ refuse why
  turned-down h = commit-refused e d t held (commit-stops e d t held is judged.verdict (ap verdict_of h)) refl

  module _ {volume : Volume} (goes : r ≡ Ok volume) where
    -- N is at most 4,096
    few : entries_held held ≤ 4096
    few = (going e d t (lent_table t) held is judged goes).entries

    -- in the span that was given
    start : volume.span.start ≡ e.start
    start = span-start e d t (lent_table t) held is judged goes

    whole : volume.span.length ≡ e.span
    whole = span-length e d t (lent_table t) held is judged goes

    module _ {x : Bool} (told : x ≡ room_to_commit volume.span.length held) where
      -- there is no room
      full : x ≡ false → commit_plan e d t held ≡ refuse NoRoom
      full h = commit-refused e d t held (commit-full e d t held is judged.verdict (ap verdict_of goes) whole told h) refl

      -- no line stops it
      fits : x ≡ true → (Ok tt) ≡ once_verdict e d t (lent_table t) held (commit_tests e held)
      fits h = commit-fits e d t held is judged.verdict (ap verdict_of goes) whole told h

      safe : x ≡ true → Commits e d t held
      safe h = commits e d t held (fits h) refl

pub judge_once-requires : goal.judge_once-requires
judge_once-requires c = λ h. table-long _ (sym c.is_lent-lent.ensures ∙ h)

pub returns-in_err-volume : goal.returns-in_err-volume
returns-in_err-volume c =
    let e : c.from_residual.result ≡ Err c.in_err-volume.field-0.0 = search rules in
    handed-on _ _ _ _ e (turned-down c.is_lent-lent.ensures c.judge_once.ensures c.in_err-volume.was)

pub has_commit_room-requires : goal.has_commit_room-requires
has_commit_room-requires c = few c.is_lent-lent.ensures c.judge_once.ensures c.in_ok-volume.was

pub returns-then-not-has_commit_room : goal.returns-then-not-has_commit_room
returns-then-not-has_commit_room c = refused _ _ _ _ (full c.is_lent-lent.ensures c.judge_once.ensures c.in_ok-volume.was c.has_commit_room.ensures c.if-not-has_commit_room.true)

pub write_vat-requires : goal.write_vat-requires
write_vat-requires c = let h = safe c.is_lent-lent.ensures c.judge_once.ensures c.in_ok-volume.was c.has_commit_room.ensures c.if-not-has_commit_room.false in
    record {
      held_bound = (h.few, h.entries);
      held_in_bounds = (omega (arith, h.inside, start c.is_lent-lent.ensures c.judge_once.ensures c.in_ok-volume.was), h.most);
      disc_len = h.shape;
    }

pub data_sectors-requires : goal.data_sectors-requires
data_sectors-requires c = let h = safe c.is_lent-lent.ensures c.judge_once.ensures c.in_ok-volume.was c.has_commit_room.ensures c.if-not-has_commit_room.false in omega (arith, c.entries_held-n.ensures, h.few)

pub overflow_add-data_sectors : goal.overflow_add-data_sectors
overflow_add-data_sectors c = let h = safe c.is_lent-lent.ensures c.judge_once.ensures c.in_ok-volume.was c.has_commit_room.ensures c.if-not-has_commit_room.false in omega (arith, data-few _ _ _ c.entries_held-n.ensures c.data_sectors.ensures h.few)

pub returns-then-is_struck : goal.returns-then-is_struck
returns-then-is_struck c = commit-cut _ _ _ _ (fits c.is_lent-lent.ensures c.judge_once.ensures c.in_ok-volume.was c.has_commit_room.ensures c.if-not-has_commit_room.false) refl _ _ _ _ _ c.entries_held-n.ensures c.data_sectors.ensures
    c.is_struck.ensures
    (commit-start _ _ _ _ (start c.is_lent-lent.ensures c.judge_once.ensures c.in_ok-volume.was) c.write_vat.ensures)
    c.if-is_struck.true

pub committed-requires : goal.committed-requires
committed-requires c = let h = safe c.is_lent-lent.ensures c.judge_once.ensures c.in_ok-volume.was c.has_commit_room.ensures c.if-not-has_commit_room.false in (h.few, h.low)

pub returns : goal.returns
returns c = commit-done _ _ _ _ (fits c.is_lent-lent.ensures c.judge_once.ensures c.in_ok-volume.was c.has_commit_room.ensures c.if-not-has_commit_room.false) refl _ _ _ _ _ c.entries_held-n.ensures c.data_sectors.ensures
    c.is_struck.ensures
    (commit-start _ _ _ _ (start c.is_lent-lent.ensures c.judge_once.ensures c.in_ok-volume.was) c.write_vat.ensures)
    c.committed.ensures
    c.if-is_struck.false
