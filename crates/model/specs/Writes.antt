-- Sector writes and the cut rule (document 01, "Calls and their sector writes"): writes before c are done, write c is old, unreadable (mark 2,
-- bytes kept) or whole (mark 1), later ones untouched; c of 0 or past the last write is no cut. Cut or not, it is the same list of writes.
use Rattle.std.specs.Prelude.{ℕ, zero, suc, ◌+◌, ◌*◌, Bool, cond, ◌&&◌, List, [], ◌∷◌, set, eqb, leb, ltb}
use Rattle.fields.specs.Bytes.{part, splice}
use Rattle.model.specs.declared.Effect.{Effect}
use Rattle.model.specs.declared.Cut.{Cut}
use Rattle.model.specs.declared.Landing.{Landing}
use Rattle.model.specs.Disc.{Disc, disc}

-- a write to be made: the sector, and its 2,048 bytes
pub record Write : Type 0 where
  pub place : ℕ
  pub bytes : List ℕ

-- what becomes of the write at which the power fails
unfoldable pub on_effect : Effect → Landing
on_effect Effect.Old = Landing.Old
on_effect Effect.Unreadable = Landing.Unreadable
on_effect Effect.Whole = Landing.Done

-- what becomes of write number n
unfoldable pub landing : ℕ → Cut → Landing
landing n c =
    cond (eqb c.at 0) Landing.Done
    (cond (ltb n c.at) Landing.Done
    (cond (ltb c.at n) Landing.Untouched (on_effect c.effect)))

-- a disc once a write of b to sector p has landed so
unfoldable pub landed : Landing → ℕ → List ℕ → Disc → Disc
landed Landing.Done p b d = disc (splice d.bytes (2048 * p) b) (set d.marks p 1)
landed Landing.Old p b d = d
landed Landing.Unreadable p b d = disc d.bytes (set d.marks p 2)
landed Landing.Untouched p b d = d

-- a disc after write number n, of b to sector p
unfoldable pub write : ℕ → Cut → ℕ → List ℕ → Disc → Disc
write n c p b d = landed (landing n c) p b d

-- a disc after the writes ws in turn, the first of which has number n
unfoldable pub writes : ℕ → Cut → List Write → Disc → Disc
writes n c [] d = d
writes n c (w ∷ ws) d = writes (n + 1) c ws (write n c w.place w.bytes d)

-- k writes upward from sector p, of the bytes b from `at` on
unfoldable pub upward : ℕ → ℕ → List ℕ → ℕ → List Write
upward zero p b at = []
upward (suc k) p b at = record { place = p; bytes = part b at 2048 } ∷ upward k (p + 1) b (at + 2048)

-- whether the power fails at one of n writes
unfoldable pub struck : Cut → ℕ → Bool
struck c n = leb 1 c.at && leb c.at n

-- no cut
unfoldable pub no_cut : Cut
no_cut = record { at = 0; effect = Effect.Old }
