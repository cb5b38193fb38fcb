-- Laws of what C sees of a list of calls. Assumes nothing.
use Prim.Native.Nat.{ℕ}
use mathlib.Core.Path.{◌≡◌, refl, ap, sym, ◌∙◌}
use mathlib.Core.List.{List}
use borrow.Author.Tests.{eq-eqb, ne_eqb}
use lib.ListN.{length}
use Rattle.refusal.specs.declared.Refusal.{Refusal}
use Rattle.refusal.specs.Number.{number_of, answer_number}
use Rattle.model.specs.declared.Record.{Record}
use Rattle.model.specs.Disc.{Disc}
use Rattle.model.specs.Examine.{Setting}
use Rattle.std.specs.Prelude.{Result, Ok, Err}
use Rattle.model.specs.declared.Opened.{Opened}
use Rattle.list_run.specs.Outcome.{outcome, ran}
use Rattle.list_run.specs.Promise.{DemandMet, WaitMet}
use Rattle.list_run.proofs.Ending.{nothing-met}
use Rattle.call_numbers.specs.Numbers.{numbers_of, length_refusal, record_opened}
use Rattle.capi.specs.Run.{lent_ran, SeenRun}

module _ (e : Setting) (d : Disc) (t k calls pool replies : List ℕ) where
  -- what is promised: what C sees, demand 3, and the bound on what openings pass over
  abbrev Promised : ℕ → Disc → List ℕ → List ℕ → List ℕ → Type 0
  Promised n d' t' replies' k' = SeenRun (lent_ran e d t k calls pool replies) k n d' t' replies' k' × (DemandMet e d t calls pool (lent_ran e d t k calls pool replies).result d' t' × WaitMet e d t calls pool (lent_ran e d t k calls pool replies).result)

  -- a record of another length
  pub run_short : {n : ℕ} → (length k ≡ 5 → ⊥) → n ≡ number_of (length_refusal e d) → Promised n d t replies k
  unfolding lent_ran
  run_short h q =
      let a = ne_eqb (length k) 5 h in
      rw a (record { number = q; disc = refl; table = refl; replies = refl; kept = refl }, nothing-met e d t calls pool _ d t (length_refusal e d) refl)

  module _ {r : Result Opened Refusal} {d' : Disc} {t' replies' : List ℕ} (h : length k ≡ 5) (q : outcome r d' t' replies' ≡ ran e d t calls pool replies) (m : DemandMet e d t calls pool r d' t' × WaitMet e d t calls pool r) where
    -- one of five numbers: what the run comes to
    pub run-five : {n : ℕ} {k' : List ℕ} → n ≡ answer_number r → k' ≡ record_opened r k → Promised n d' t' replies' k'
    unfolding lent_ran
    run-five hn hk =
        let a = eq-eqb (length k) 5 h in
        rw (a, ← q) (record { number = hn; disc = refl; table = refl; replies = refl; kept = hk }, m)
