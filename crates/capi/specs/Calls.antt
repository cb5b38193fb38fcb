-- What C sees of the calls on a disc (document 01, "Calls and their sector writes"): the number that each returns and every lent thing after
-- it, by the definitions of the calls themselves. C lends the record as five numbers; one of another length belongs to line 3, and so does
-- a result of another length than stated.
use Rattle.std.specs.Prelude.{ℕ, ◌≡◌, Bool, cond, ◌&&◌, List, length, eqb, Result, Ok, Err}
use Rattle.model.specs.declared.Cut.{Cut}
use Rattle.model.specs.declared.Opened.{Opened}
use Rattle.refusal.specs.declared.Refusal.{Refusal}
use Rattle.refusal.specs.Verdict.{Verdict}
use Rattle.model.specs.declared.Forecast.{Forecast}
use Rattle.model.specs.Disc.{Disc}
use Rattle.model.specs.Examine.{Setting}
use Rattle.model.specs.Plan.{Plan, refuse, reply_of, disc_after, table_after}
use Rattle.model.specs.Told.{reply_number}
use Rattle.model.specs.Writes.{no_cut}
use Rattle.model.specs.Lent.{Lent}
use Rattle.model.specs.Once.{save_plan, free_plan, commit_plan}
use Rattle.model.specs.Rewrite.{save_block_plan, save_packet_plan, spare_plan}
use Rattle.model.specs.Both.{opening, opened_table, reading, read_bytes}
use Rattle.model.specs.Forecast.{forecast}
use Rattle.once_open.specs.Calls.{fullness_of, measured_values}
use Rattle.call_numbers.specs.Numbers.{record_of, record_after, length_refusal}

-- whether a lent record has its length
abbrev pub is_record : List ℕ → Bool
is_record k = eqb (length k) 5

-- ---- the writing calls

-- the plan of a call that is lent the record k
unfoldable pub lent_plan : Setting → Disc → List ℕ → Plan → Plan
lent_plan e d k p = cond (is_record k) p (refuse (length_refusal e d))

-- what C sees, the number n, the disc d, the table t and the record k, are those of the plan p under the cut c, from d₀, t₀ and k₀
pub record SeenWrite (p : Plan) (c : Cut) (d₀ : Disc) (t₀ k₀ : List ℕ) (n : ℕ) (d : Disc) (t k : List ℕ) : Type 0 where
  pub number : n ≡ reply_number (reply_of p c)
  pub disc : d ≡ disc_after p c d₀
  pub table : t ≡ table_after p c t₀
  pub kept : k ≡ record_after (reply_of p c) k₀

-- over the lent lists: the call, lent the table t and the record k, returns n and leaves the disc d, the table t' and the record k'

-- saving the block as virtual block v
abbrev pub SeenSave : Lent → List ℕ → List ℕ → ℕ → List ℕ → Cut → ℕ → Disc → List ℕ → List ℕ → Type 0
SeenSave x t k v block c n d t' k' =
    SeenWrite (lent_plan x.setting x.disc k (save_plan x.setting x.disc t (record_of k) v block)) c x.disc t k n d t' k'

-- freeing virtual block v, which leaves the disc as it came
abbrev pub SeenFree : Lent → List ℕ → List ℕ → ℕ → ℕ → List ℕ → List ℕ → Type 0
SeenFree x t k v n t' k' =
    SeenWrite (lent_plan x.setting x.disc k (free_plan x.setting x.disc t (record_of k) v)) no_cut x.disc t k n x.disc t' k'

-- committing, which leaves the table as it came
abbrev pub SeenCommit : Lent → List ℕ → List ℕ → Cut → ℕ → Disc → List ℕ → Type 0
SeenCommit x t k c n d k' =
    SeenWrite (lent_plan x.setting x.disc k (commit_plan x.setting x.disc t (record_of k))) c x.disc t k n d t k'

-- saving the block as block b, which leaves the table as it came
abbrev pub SeenSaveBlock : Lent → List ℕ → List ℕ → ℕ → List ℕ → Cut → ℕ → Disc → List ℕ → Type 0
SeenSaveBlock x t k b block c n d k' =
    SeenWrite (lent_plan x.setting x.disc k (save_block_plan x.setting x.disc t (record_of k) b block)) c x.disc t k n d t k'

-- saving the packet that begins at block b, which leaves the table as it came
abbrev pub SeenSavePacket : Lent → List ℕ → List ℕ → ℕ → List ℕ → Cut → ℕ → Disc → List ℕ → Type 0
SeenSavePacket x t k b packet c n d k' =
    SeenWrite (lent_plan x.setting x.disc k (save_packet_plan x.setting x.disc t (record_of k) b packet)) c x.disc t k n d t k'

-- sparing the packet that begins at block b
abbrev pub SeenSpare : Lent → List ℕ → List ℕ → ℕ → List ℕ → Cut → ℕ → Disc → List ℕ → List ℕ → Type 0
SeenSpare x t k b packet c n d t' k' =
    SeenWrite (lent_plan x.setting x.disc k (spare_plan x.setting x.disc t (record_of k) b packet)) c x.disc t k n d t' k'

-- ---- opening

-- what opening answers that is lent the table t and the record k
unfoldable pub lent_opening : Setting → Disc → List ℕ → List ℕ → Result Opened Refusal
lent_opening e d t k = cond (is_record k) (opening e d t) (Err (length_refusal e d))

-- the table after it
unfoldable pub lent_opened_table : Setting → Disc → List ℕ → List ℕ → List ℕ
lent_opened_table e d t k = cond (is_record k) (opened_table e d t) t

-- ---- reading

-- what reading answers that is lent the table t, the record k and `out`
unfoldable pub lent_reading : Setting → Disc → List ℕ → List ℕ → ℕ → List ℕ → Verdict
lent_reading e d t k v out = cond (is_record k) (reading e d t (record_of k) v out) (Err (length_refusal e d))

-- the lent bytes after it
unfoldable pub lent_read_bytes : Setting → Disc → List ℕ → List ℕ → ℕ → List ℕ → List ℕ
lent_read_bytes e d t k v out = cond (is_record k) (read_bytes e d t (record_of k) v out) out

-- ---- fullness and the forecast, which are lent a result

-- what a call answers that is lent the record k and a result of n numbers: a, or b where one has another length
abbrev pub both_lent : {A : Type 0} → ℕ → List ℕ → List ℕ → A → A → A
both_lent n k result a b = cond (is_record k && eqb (length result) n) a b

-- fullness, one number, that is lent the table t
unfoldable pub lent_fullness : Setting → Disc → List ℕ → List ℕ → List ℕ → Result ℕ Refusal
lent_fullness e d t k result = both_lent 1 k result (fullness_of e d t (record_of k)) (Err (length_refusal e d))

-- the lent result after it
abbrev pub measured_after : Result ℕ Refusal → List ℕ → List ℕ
measured_after (Ok n) result = measured_values (Ok n)
measured_after (Err why) result = result

-- the forecast, three numbers, that is lent the table t and the items xs
unfoldable pub lent_forecast : Setting → Disc → List ℕ → List ℕ → List ℕ → List ℕ → Result Forecast Refusal
lent_forecast e d t k xs result = both_lent 3 k result (forecast e d t (record_of k) xs) (Err (length_refusal e d))
