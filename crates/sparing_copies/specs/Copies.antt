-- The copies of a table, and the current one (document 01, "The sparing table" and "Why a call is turned down", lines 8 and 10).
use Rattle.std.specs.Prelude.{ℕ, ◌+◌, ◌*◌, ◌<◌, ◌≡◌, Bool, true, cond, not, List, [], ◌∷◌, eqb, ltb, length, Option, Some, None, Result, Ok, Err, IfOk}
use Rattle.refusal.specs.declared.Refusal.{Refusal}
use Rattle.refusal.specs.declared.Refusal.TheVariants.{NoTable, CopiesDiffer}
use Rattle.refusal.specs.Verdict.{Verdict}
use Rattle.refusal.specs.Tests.{test, first}
use Rattle.fields.specs.Bytes.{part, same}
use Rattle.model.specs.Disc.{Disc, sector}
use Rattle.model.specs.Sparing.{Geometry, entries, count_in, counts, counting_of, counting, sequence_at, table_at, with_sequence, current, current_sequence, current_table, agree}
use Rattle.model.specs.Rewrite.{is_none}
use Rattle.sparing_copies.specs.declared.Newest.{Newest}
use Rattle.sparing_copies.specs.declared.Current.{Current}

-- the bytes of sector t, as many as the copy at p has up to the end of its entries
unfoldable pub used_at : Disc → ℕ → ℕ → List ℕ
used_at d p t = part (sector d t) 0 (56 + 8 * count_in (sector d p))

-- the copy at t as the newest
abbrev pub newest_at : Disc → ℕ → Newest
newest_at d t = record { at = record { 0 = t }; sequence = sequence_at d t }

-- the newest of copies of which the first is at t, and n is the newest of the others: of equal sequences the first stays
unfoldable pub newer_of : Disc → Geometry → ℕ → Option Newest → Option Newest
newer_of d g t None = cond (counts d g t) (Some (newest_at d t)) None
newer_of d g t (Some n) =
    cond (counts d g t) (cond (ltb (sequence_at d t) n.sequence) (Some n) (Some (newest_at d t))) (Some n)

-- the newest of the copies ts that count
unfoldable pub newest_of : Disc → Geometry → List ℕ → Option Newest
newest_of d g [] = None
newest_of d g (t ∷ ts) = newer_of d g t (newest_of d g ts)

-- the copy at t does not count, is of another sequence than n, or has the table of the copy at p
unfoldable pub agrees : Disc → Geometry → ℕ → ℕ → ℕ → Bool
agrees d g p n t = cond (counts d g t) (cond (eqb (sequence_at d t) n) (same (table_at d t) (table_at d p)) true) true

-- so it is of the copies ts: those that count and are of sequence n have the table of the copy at p
unfoldable pub agreeing : Disc → Geometry → ℕ → ℕ → List ℕ → Bool
agreeing d g p n ts = agree d (table_at d p) (with_sequence d n (counting_of d g ts))

-- lines 8 and 10
abbrev pub copy_verdict : Disc → Geometry → Verdict
copy_verdict d g =
    first (test (not (is_none (counting d g))) NoTable ∷ test (agree d (current_table d g) (current d g)) CopiesDiffer ∷ [])

-- the verdict of a search
abbrev pub verdict_of : Result Current Refusal → Verdict
verdict_of (Ok c) = Ok tt
verdict_of (Err why) = Err why

-- a sector of the disc with a copy that counts and has the current table, its sequence and the number of its entries
pub record IsCurrent (d : Disc) (g : Geometry) (c : Current) : Type 0 where
  pub place : c.at.0 < g.sectors
  pub counted : counts d g c.at.0 ≡ true
  pub table : table_at d c.at.0 ≡ current_table d g
  pub sequence : c.sequence ≡ current_sequence d g
  pub count : c.entries ≡ length (entries (current_table d g))

-- what was found: the verdict, and where it says Go the current table
pub record FoundCurrent (d : Disc) (g : Geometry) (r : Result Current Refusal) : Type 0 where
  pub verdict : verdict_of r ≡ copy_verdict d g
  pub found : IfOk r (IsCurrent d g)
