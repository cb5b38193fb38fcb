-- The record and the lent table of a call on a rewritable disc (document 01, "Calls and their sector writes": "The record handed back goes with
-- the lent table: .. rewritable, R and the sequence").
use Rattle.std.specs.Prelude.{ℕ, ◌*◌, List, take}
use Rattle.model.specs.declared.Record.{Record}
use Rattle.model.specs.Sparing.{Entry, entries}

-- R, 0 of a record of the other kind
unfoldable pub count_held : Record → ℕ
count_held (Record.WriteOnce n next last) = 0
count_held (Record.Rewritable n sequence) = n

-- the sequence, 0 of a record of the other kind
unfoldable pub sequence_held : Record → ℕ
sequence_held (Record.WriteOnce n next last) = 0
sequence_held (Record.Rewritable n sequence) = sequence

-- the entries of the lent table
unfoldable pub entries_lent : List ℕ → Record → List Entry
entries_lent t held = entries (take (2 * count_held held) t)
