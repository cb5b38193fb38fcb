-- `once_forecast::judge_item` meets its contract: each return by the law of its line. Assumes nothing.
use mathlib.Core.Path.{sym, ◌∙◌}
use Rattle.room.proofs.Laws.{number-low}
use Rattle.once_forecast.proofs.Laws.{commit-full, commit-fits, save-outside, save-full, save-fits}
use Rattle.once_forecast.proofs.judge_item.Goals as goal

pub returns-then-not-has_commit_room : goal.returns-then-not-has_commit_room
returns-then-not-has_commit_room c maps s = commit-full _ _ _ (sym c.is_commit.ensures ∙ c.if-is_commit.true) c.has_commit_room.ensures c.if-not-has_commit_room.true

pub returns-then-is_commit : goal.returns-then-is_commit
returns-then-is_commit c maps s = commit-fits _ _ _ (sym c.is_commit.ensures ∙ c.if-is_commit.true) c.has_commit_room.ensures c.if-not-has_commit_room.false

pub returns-then-not-is_number : goal.returns-then-not-is_number
returns-then-not-is_number c maps s = save-outside _ _ _ (sym c.is_commit.ensures ∙ c.if-is_commit.false) c.is_number.ensures c.if-not-is_number.true

pub has_room-requires : goal.has_room-requires
has_room-requires c = (c.requires, number-low _ _ (sym c.is_number.ensures ∙ c.if-not-is_number.false))

pub returns-then-not-has_room : goal.returns-then-not-has_room
returns-then-not-has_room c maps s = save-full _ _ _ (sym c.is_commit.ensures ∙ c.if-is_commit.false) c.is_number.ensures c.if-not-is_number.false
    c.has_room.ensures
    c.if-not-has_room.true

pub returns : goal.returns
returns c maps s = save-fits _ _ _ (sym c.is_commit.ensures ∙ c.if-is_commit.false) c.is_number.ensures c.if-not-is_number.false
    c.has_room.ensures
    c.if-not-has_room.false
