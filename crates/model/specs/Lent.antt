-- What a call on a disc promises, over the lists that it is lent (document 01, "The buyer's note": "a promise that covers its result and each
-- lent byte afterwards, refusals too"). Each promise names the call, what it is lent and given, what it answers and what is left.
use Rattle.std.specs.Prelude.{ℕ, ◌≡◌, List, Result}
use Rattle.refusal.specs.Verdict.{Verdict}
use Rattle.refusal.specs.Number.{answer_number}
use Rattle.model.specs.declared.Cut.{Cut}
use Rattle.model.specs.declared.Record.{Record}
use Rattle.model.specs.declared.Reply.{Reply}
use Rattle.refusal.specs.declared.Refusal.{Refusal}
use Rattle.model.specs.declared.Opened.{Opened}
use Rattle.model.specs.Disc.{Disc, disc}
use Rattle.model.specs.Writes.{no_cut}
use Rattle.model.specs.Plan.{Meets}
use Rattle.model.specs.Examine.{Setting, setting}
use Rattle.model.specs.Once.{save_plan, free_plan, commit_plan}
use Rattle.model.specs.Rewrite.{save_block_plan, save_packet_plan, spare_plan}
use Rattle.model.specs.Both.{open_verdict, opening, opened_table, read_verdict, reading, read_bytes, make_verdict, made}

-- the lent disc with its marks, and the map list, S and L
pub record Lent : Type 0 where
  pub setting : Setting
  pub disc : Disc

-- of the bytes, the marks, the map list, S and L
abbrev pub lent : List ℕ → List ℕ → List ℕ → ℕ → ℕ → Lent
lent bytes marks maps s l = record { setting = setting maps s l; disc = disc bytes marks }

-- ---- both kinds

-- opening, lent the table t, answers r and leaves the table t'
pub record Opens (x : Lent) (t : List ℕ) (r : Result Opened Refusal) (t' : List ℕ) : Type 0 where
  pub answer : r ≡ opening x.setting x.disc t
  pub number : answer_number r ≡ answer_number (open_verdict x.setting x.disc t)
  pub table : t' ≡ opened_table x.setting x.disc t

-- reading block number v, lent the table t and the bytes `out`, answers r and leaves the bytes out'
pub record Reads (x : Lent) (t : List ℕ) (held : Record) (v : ℕ) (out : List ℕ) (r : Verdict) (out' : List ℕ) : Type 0 where
  pub answer : r ≡ reading x.setting x.disc t held v out
  pub number : answer_number r ≡ answer_number (read_verdict x.setting x.disc t held v out)
  pub bytes : out' ≡ read_bytes x.setting x.disc t held v out

-- making, lent a list of spares, answers r and leaves the disc d
pub record Makes (x : Lent) (spares : List ℕ) (r : Verdict) (d : Disc) : Type 0 where
  pub answer : r ≡ make_verdict x.setting x.disc spares
  pub disc : d ≡ made x.setting x.disc spares

-- ---- write-once discs: each writing call, lent the table t, replies r and leaves the disc d and the table t'

-- saving the block as virtual block v
abbrev pub Saves : Lent → List ℕ → Record → ℕ → List ℕ → Cut → Result Reply Refusal → Disc → List ℕ → Type 0
Saves x t held v block cut r d t' = Meets (save_plan x.setting x.disc t held v block) cut x.disc t r d t'

-- freeing virtual block v, which leaves the disc as it came
abbrev pub Frees : Lent → List ℕ → Record → ℕ → Result Reply Refusal → List ℕ → Type 0
Frees x t held v r t' = Meets (free_plan x.setting x.disc t held v) no_cut x.disc t r x.disc t'

-- committing, which leaves the table as it came
abbrev pub Commits : Lent → List ℕ → Record → Cut → Result Reply Refusal → Disc → Type 0
Commits x t held cut r d = Meets (commit_plan x.setting x.disc t held) cut x.disc t r d t

-- ---- rewritable discs: likewise

-- saving the block as block b, which leaves the table as it came
abbrev pub SavesBlock : Lent → List ℕ → Record → ℕ → List ℕ → Cut → Result Reply Refusal → Disc → Type 0
SavesBlock x t held b block cut r d = Meets (save_block_plan x.setting x.disc t held b block) cut x.disc t r d t

-- saving the packet that begins at block b, which leaves the table as it came
abbrev pub SavesPacket : Lent → List ℕ → Record → ℕ → List ℕ → Cut → Result Reply Refusal → Disc → Type 0
SavesPacket x t held b packet cut r d = Meets (save_packet_plan x.setting x.disc t held b packet) cut x.disc t r d t

-- sparing the packet that begins at block b
abbrev pub Spares : Lent → List ℕ → Record → ℕ → List ℕ → Cut → Result Reply Refusal → Disc → List ℕ → Type 0
Spares x t held b packet cut r d t' = Meets (spare_plan x.setting x.disc t held b packet) cut x.disc t r d t'
