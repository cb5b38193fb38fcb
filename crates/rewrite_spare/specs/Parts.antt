-- A sparing in its parts (document 01, "Calls and their sector writes"): what it is judged to be, and its sector writes from their numbers.
use Rattle.std.specs.Prelude.{ℕ, ◌+◌, ◌≡◌, List, ◌++◌, Result, IfOk}
use Rattle.refusal.specs.declared.Refusal.{Refusal}
use Rattle.refusal.specs.Verdict.{Verdict, verdict_of}
use Rattle.model.specs.declared.Record.{Record}
use Rattle.model.specs.Disc.{Disc}
use Rattle.model.specs.Writes.{Write}
use Rattle.model.specs.Sparing.{Geometry, free_of, first_free}
use Rattle.model.specs.Examine.{Setting}
use Rattle.model.specs.Rewrite.{entries_on, sequence_on, rewritable_verdict, packet_lent, spare_tests, packet_writes, copies_to}
use Rattle.model.specs.Lent.{Lent}
use Rattle.sparing_writes.specs.Order.{order_of}
use Rattle.sparing_current.specs.Looked.{Found}
use Rattle.rewrite_spare.specs.declared.Sparing.{Sparing}

-- what a sparing goes by: what was found, the free entry of lowest index, and the sequence plus 1
pub record SparingOn (e : Setting) (d : Disc) (x : Sparing) : Type 0 where
  pub found : Found e d x.looked
  pub first : x.first.0 ≡ first_free (free_of (entries_on e d))
  pub next : x.next ≡ sequence_on e d + 1

-- what a sparing is judged to be: the verdict v, and where it lets the call go on what it goes by
pub record SparingJudgedAs (v : Verdict) (e : Setting) (d : Disc) (r : Result Sparing Refusal) : Type 0 where
  pub verdict : verdict_of r ≡ v
  pub sparing : IfOk r (SparingOn e d)

-- the writes of a sparing: the packet's bytes upward from sector p on, then a table's sector to the copies, those of sequence n last
unfoldable pub sparing_writes : Disc → Geometry → ℕ → ℕ → List ℕ → List ℕ → List Write
sparing_writes d g n p packet table = packet_writes p packet ++ copies_to (order_of d g n) table

-- over the lent lists: sparing the packet that begins at block b
abbrev pub JudgesSparing : Lent → List ℕ → Record → ℕ → List ℕ → Result Sparing Refusal → Type 0
JudgesSparing x t held b packet r =
    SparingJudgedAs
    (rewritable_verdict x.setting x.disc t (packet_lent t packet) held (spare_tests x.setting x.disc b))
    x.setting
    x.disc
    r
