-- Demand 3 as a promise of `run` (document 01, "The plain store", second paragraph; model, Demand.antt, states it of the definitions): the
-- disc, the table and the record are those that `run` leaves and hands back. And the bound on what an opening passes over (02, slip 12; model,
-- Wait.antt).
use Rattle.std.specs.Prelude.{ℕ, ◌+◌, ◌≤◌, ◌<◌, ◌≡◌, true, false, List, length, get_or, take, Result, Ok, Err}
use Rattle.model.specs.declared.Record.{Record}
use Rattle.model.specs.Disc.{Disc}
use Rattle.model.specs.Examine.{Setting, write_once}
use Rattle.model.specs.Both.{passed_on}
use Rattle.model.specs.Calls.{open_disc, cut, opened, is_opened, ends_cut}
use Rattle.model.specs.Store.{start, shape_of, look}
use Rattle.model.specs.Demand.{followed, seen}
use Rattle.model.specs.Wait.{Count, counted_after}
use Rattle.list_step.specs.Stepped.{state_of}
use Rattle.model.specs.declared.Opened.{Opened}
use Rattle.refusal.specs.declared.Refusal.{Refusal}
use Rattle.list_run.specs.Outcome.{listed, answered}

-- what is promised of a run over the disc d₀ and the lent table t₀ that leaves the disc d and the table t, where its own opening was accepted
pub record DemandMet (e : Setting) (d₀ : Disc) (t₀ numbers pool : List ℕ) (r : Result Opened Refusal) (d : Disc) (t : List ℕ) : Type 0 where
  -- every opening in the list is accepted
  pub opens :
      (held : Record) (passed : ℕ) → r ≡ Ok (record { handed = held; passed = passed })
      → (i : ℕ) → i < length (listed e d₀ t₀ numbers pool) → get_or (listed e d₀ t₀ numbers pool) i open_disc ≡ open_disc
      → is_opened (get_or (answered e d₀ t₀ numbers pool) i cut) ≡ true
  -- unless the list ends in a cut, every block reads as in the plain store that is fed the list
  pub reads :
      (held : Record) (passed : ℕ) → r ≡ Ok (record { handed = held; passed = passed })
      → ends_cut false (answered e d₀ t₀ numbers pool) ≡ false
      → (v : ℕ) (out : List ℕ) → length out ≡ 2048
      → seen e (state_of d t held) v out
      ≡ look (followed (shape_of e) (start e d₀) (listed e d₀ t₀ numbers pool) (answered e d₀ t₀ numbers pool)) v

-- before call i of the list, since the last whole VAT ICB: the sector writes begun, and those of them that became old. What the run's own opening
-- passed over counts as begun, which is none where that was clean
abbrev pub count_before : Setting → Disc → List ℕ → List ℕ → List ℕ → ℕ → Count
count_before e d₀ t₀ numbers pool i = counted_after e d₀ t₀ (passed_on e d₀) (take i (listed e d₀ t₀ numbers pool))

-- what is promised of the sectors passed over in a run over a write-once disc
pub record WaitMet (e : Setting) (d₀ : Disc) (t₀ numbers pool : List ℕ) (r : Result Opened Refusal) : Type 0 where
  -- each opening of the list passed over at most the writes begun before it
  pub each :
      (held : Record) (passed : ℕ) → r ≡ Ok (record { handed = held; passed = passed }) → write_once e ≡ true
      → (i : ℕ) → i < length (listed e d₀ t₀ numbers pool)
      → (h : Record) (n : ℕ) → get_or (answered e d₀ t₀ numbers pool) i cut ≡ opened h n
      → n ≤ (count_before e d₀ t₀ numbers pool i).begun
  -- which are all of them but those that became old
  pub exactly :
      (held : Record) (passed : ℕ) → r ≡ Ok (record { handed = held; passed = passed }) → write_once e ≡ true
      → (i : ℕ) → i < length (listed e d₀ t₀ numbers pool)
      → (h : Record) (n : ℕ) → get_or (answered e d₀ t₀ numbers pool) i cut ≡ opened h n
      → n + (count_before e d₀ t₀ numbers pool i).old ≡ (count_before e d₀ t₀ numbers pool i).begun
  -- the number that is handed back is that of the last of them, and so is bounded by the writes begun before that one
  pub last :
      (held : Record) (passed : ℕ) → r ≡ Ok (record { handed = held; passed = passed }) → write_once e ≡ true
      → (i : ℕ) → i < length (listed e d₀ t₀ numbers pool) → is_opened (get_or (answered e d₀ t₀ numbers pool) i cut) ≡ true
      → ((j : ℕ) → i < j → j < length (listed e d₀ t₀ numbers pool) → is_opened (get_or (answered e d₀ t₀ numbers pool) j cut) ≡ false)
      → passed ≤ (count_before e d₀ t₀ numbers pool i).begun
  -- or, where the list has none, that of the run's own opening
  pub own :
      (held : Record) (passed : ℕ) → r ≡ Ok (record { handed = held; passed = passed })
      → ((j : ℕ) → j < length (listed e d₀ t₀ numbers pool) → is_opened (get_or (answered e d₀ t₀ numbers pool) j cut) ≡ false)
      → passed ≡ passed_on e d₀
