-- Laws of opening on a rewritable disc, one for each way on or out. Assumes nothing.
use Prim.Native.Nat.{ℕ, ◌+◌, ◌*◌, ◌≤◌}
use mathlib.Core.Bool.{Bool}
use mathlib.Core.Path.{◌≡◌, sym, ap, ap₂, ◌∙◌}
use mathlib.Core.List.{List}
use native.Mathlib.Omega.{arith}
use borrow.Author.Tests.{leb-true}
use lib.ListN.{length}
use Rattle.refusal.specs.declared.Refusal.{Refusal}
use Rattle.refusal.specs.Verdict.{Verdict}
use Rattle.std.specs.Prelude.{Ok, Err, Result}
use Rattle.model.specs.declared.Record.{Record}
use Rattle.model.specs.declared.Opened.{Opened}
use Rattle.model.specs.Disc.{Disc, sector}
use Rattle.model.specs.Sparing.{count_in, table_in, table_at}
use Rattle.model.specs.Examine.{Setting, lent_table}
use Rattle.model.specs.Once.{filled_from}
use Rattle.model.specs.Rewrite.{table_on, entries_on, sequence_on, count_on, current_record}
use Rattle.model.specs.Both.{opened_by, filled_by}
use Rattle.sparing_current.specs.declared.Looked.{Looked}
use Rattle.sparing_current.specs.Looked.{look_verdict, Sees}
use Rattle.sparing_current.proofs.Looks.{look-tells, look-count, look-short}
use Rattle.rewrite_open.specs.Calls.{opening_rewritable, opened_rewritable}

module _ (e : Setting) (d : Disc) (t : List ℕ) where
  -- a refusal leaves the lent table as it came
  open-refused : {why : Refusal} {r : Result Opened Refusal} → look_verdict e d (lent_table t) ≡ Err why → r ≡ Err why → (r ≡ opening_rewritable e d t) × (t ≡ opened_rewritable e d t)
  unfolding opening_rewritable opened_rewritable opened_by filled_by
  open-refused h z =
      (z ∙ sym (ap (λ (v : Verdict). opened_by v (current_record e d) 0) h), sym (ap (λ (v : Verdict). filled_by v (table_on e d) t) h))

  -- lent says whether the table is long enough
  module _ {lent : Bool} (q : lent ≡ lent_table t) where
    -- the lines, as the test of the lent length has them
    lines_are : look_verdict e d lent ≡ look_verdict e d (lent_table t)
    lines_are = ap (look_verdict e d) q

    -- lines 1 to 8 and 10
    pub open-stopped : {why : Refusal} {r : Result Opened Refusal} → Sees e d lent (Err why) → r ≡ Err why → (r ≡ opening_rewritable e d t) × (t ≡ opened_rewritable e d t)
    open-stopped s = open-refused (sym (s.verdict ∙ lines_are))

    -- x is what was found
    module _ {x : Looked} (s : Sees e d lent (Ok x)) where
      -- its entries lie in the sector found, and the lent table has room for them
      pub open-room : {b : List ℕ} → b ≡ sector d x.current.at.0 → (56 + 8 * count_in b ≤ 2048) × (2 * count_in b ≤ length t)
      unfolding lent_table
      open-room is =
          let n = ap count_in is ∙ sym (look-count s) in
          let c = look-short s in
          let long = leb-true 4096 (length t) (sym q ∙ (look-tells s).whole.lengths) in
          (omega (arith, n, c), omega (arith, n, c, long))

      handed : Record.Rewritable x.current.entries x.current.sequence ≡ current_record e d
      unfolding current_record count_on entries_on table_on sequence_on
      handed = ap₂ (λ (n v : ℕ). Record.Rewritable n v) s.found.current.count s.found.current.sequence

      -- none of the lines, and the table is filled
      pub open-opened : {b u : List ℕ} → b ≡ sector d x.current.at.0 → u ≡ filled_from (table_in b) t → ((Ok (record { handed = Record.Rewritable x.current.entries x.current.sequence; passed = 0 })) ≡ opening_rewritable e d t) × (u ≡ opened_rewritable e d t)
      unfolding opening_rewritable opened_rewritable opened_by filled_by table_at table_on
      open-opened {b} {u} is f =
          let go = sym (s.verdict ∙ lines_are) in (
            ap (λ (r : Record). (Ok (record { handed = r; passed = 0 }))) handed ∙ sym (ap (λ (v : Verdict). opened_by v (current_record e d) 0) go),
            f
                ∙ ap (λ (l : List ℕ). filled_from l t) (ap table_in is ∙ s.found.current.table)
                ∙ sym (ap (λ (v : Verdict). filled_by v (table_on e d) t) go),
          )
