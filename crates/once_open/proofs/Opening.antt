-- Laws of opening on a write-once disc, one for each way on or out. Assumes nothing.
use Prim.Native.Nat.{ℕ, ◌+◌, ◌-◌, ◌*◌, ◌≤◌, ◌<◌}
use mathlib.Core.Bool.{Bool, true}
use mathlib.Core.Path.{◌≡◌, sym, ap, ap₂, subst, ◌∙◌}
use mathlib.Core.List.{List, [], ◌∷◌}
use native.Mathlib.Omega.{arith}
use borrow.Author.Tests.{leb-true, le-leb, lt-leb}
use lib.Dec.{leb}
use lib.ListN.{length}
use Rattle.refusal.specs.declared.Refusal.{Refusal}
use Rattle.refusal.specs.declared.Refusal.TheVariants.{OtherKind, NoTable, TooManyEntries}
use Rattle.refusal.specs.Verdict.{Verdict}
use Rattle.std.specs.Prelude.{Ok, Err, Result, Option, Some, None}
use Rattle.refusal.specs.Tests.{test, first, and_then}
use Rattle.address.specs.declared.LogicalAddress.{LogicalAddress}
use Rattle.maps.specs.declared.Volume.{Volume}
use Rattle.maps.specs.declared.Kind.TheVariants.{WriteOnce, Rewritable}
use Rattle.model.specs.declared.Record.{Record}
use Rattle.model.specs.declared.Opened.{Opened}
use Rattle.model.specs.Disc.{Disc, nwa}
use Rattle.model.specs.Vat.{Found, icb_at, vat_icb, scan, vat_file, count_of, entries_of}
use Rattle.model.specs.Examine.{Setting, write_once, lent_table}
use Rattle.model.specs.Once.{next_on, is_found, found_at, newest, newest_file, open_once_tests, found_record, passed_over, filled_from}
use Rattle.model.specs.Both.{opened_by, filled_by}
use Rattle.model.proofs.Scan.{found-newest}
use Rattle.model.proofs.Sectors.{shapely-made, shapely-most, inside-fits}
use Rattle.model.proofs.Verdicts.{Examined as Told, stop-test, next-test}
use Rattle.examine.specs.Ground.{examined_of}
use Rattle.examine.proofs.Laws.{seen-stops, seen-goes, seen-tells, seen-volume, seen-once, seen-rewritable}
use Rattle.vat_scan.specs.Scan.{scan_of}
use Rattle.vat_scan.proofs.Laws.{scan-none, scan-at, looked-between}
use Rattle.once_open.specs.Calls.{open_once_verdict, opening_once, opened_once, PassedOver}

-- ---- opening

module _ (e : Setting) (d : Disc) (t : List ℕ) where
  -- what it promises of an answer r that leaves the table u
  abbrev Answered : Result Opened Refusal → List ℕ → Type 0
  Answered r u = (r ≡ opening_once e d t) × ((u ≡ opened_once e d t) × PassedOver e d r)

  -- a refusal leaves the lent table as it came
  open-refused : {why : Refusal} → open_once_verdict e d t ≡ Err why → Answered (Err why) t
  unfolding opening_once opened_once opened_by filled_by
  open-refused {why} h =
      let none : PassedOver e d (Err why) = record { counted = tt } in
      (sym (ap (λ (v : Verdict). opened_by v (found_record e d) (passed_over e d)) h), (sym (ap (λ (v : Verdict). filled_by v (entries_of (newest_file e d)) t) h), none))

  -- nor does one that is handed on
  pub open-handed : {r : Result Opened Refusal} {why : Refusal} → r ≡ Err why → Answered (Err why) t → Answered r t
  open-handed x a = subst (λ (y : Result Opened Refusal). Answered y t) (sym x) a

  -- lent says whether the table is long enough, and r is the answer of the examination
  module _ {lent : Bool} (q : lent ≡ lent_table t) {r : Result Volume Refusal} (f : r ≡ examined_of e d lent) where
    seen : r ≡ examined_of e d (lent_table t)
    unfolding lent_table
    seen = f ∙ ap (examined_of e d) q

    -- lines 1 to 6
    pub open-examined : {why : Refusal} → r ≡ Err why → Answered (Err why) t
    unfolding open_once_verdict
    open-examined h =
        open-refused
        (ap (λ (v : Verdict). and_then v (first (test (write_once e) OtherKind ∷ open_once_tests e d))) (seen-stops e d (lent_table t) seen h))

    module _ {volume : Volume} (h : r ≡ Ok volume) where
      told : Told e d (lent_table t)
      told = seen-tells e d (lent_table t) seen h

      after : open_once_verdict e d t ≡ first (test (write_once e) OtherKind ∷ open_once_tests e d)
      unfolding open_once_verdict
      after = ap (λ (v : Verdict). and_then v (first (test (write_once e) OtherKind ∷ open_once_tests e d))) (seen-goes e d (lent_table t) seen h)

      -- line 7
      pub open-other : {p n size : ℕ} → volume.kind ≡ Rewritable p n size → Answered (Err OtherKind) t
      open-other is = open-refused (after ∙ stop-test OtherKind (open_once_tests e d) (seen-rewritable e d (lent_table t) seen h is))

      -- S and L are the volume's
      pub open-start : volume.span.start ≡ e.start
      open-start = ap (λ (v : Volume). v.span.start) (seen-volume e d (lent_table t) seen h)

      pub open-length : volume.span.length ≡ e.span
      open-length = ap (λ (v : Volume). v.span.length) (seen-volume e d (lent_table t) seen h)

      -- the partition lies on the disc
      pub open_span : e.start + e.span ≤ length d.marks
      open_span = (inside-fits d e.start e.span told.within).1

      pub open-most : length d.marks ≤ 1048576
      open-most = shapely-most d told.shape

      pub open_made : length d.bytes ≡ 2048 * length d.marks
      open_made = (shapely-made d told.shape).sized

      -- the lent table is long enough
      pub open-long : 4096 ≤ length t
      unfolding lent_table
      open-long = leb-true 4096 (length t) told.lengths

      -- next is NWA, and found where the scan from there ends
      module _ {p : ℕ} (is : volume.kind ≡ WriteOnce p) {next : ℕ} (top : next ≡ nwa d e.start e.span) {found : Option LogicalAddress} (ends : found ≡ scan_of (scan d e.start next)) where
        own : open_once_verdict e d t ≡ first (open_once_tests e d)
        own = after ∙ next-test OtherKind (open_once_tests e d) (seen-once e d (lent_table t) seen h is)

        newest-is : scan_of (newest e d) ≡ found
        unfolding newest next_on
        newest-is = sym (ends ∙ ap (λ (n : ℕ). scan_of (scan d e.start n)) top)

        -- line 8
        pub open_none : found ≡ None → Answered (Err NoTable) t
        unfolding open_once_tests is_found
        open_none z = open-refused (own ∙ stop-test NoTable (test (leb (count_of (newest_file e d)) 4096) TooManyEntries ∷ []) (ap is_found (scan-none (newest e d) (newest-is ∙ z))))

        module _ {a : LogicalAddress} (at : found ≡ Some a) where
          place : newest e d ≡ icb_at a.0
          place = scan-at (newest e d) (newest-is ∙ at)

          -- there is a VAT ICB
          pub open-icb : vat_icb d e.start a.0 ≡ true
          unfolding newest
          open-icb = (found-newest d e.start (next_on e d) a.0 place).here

          -- below NWA
          pub open-below : a.0 < next
          unfolding newest next_on
          open-below = let b = (found-newest d e.start (nwa d e.start e.span) a.0 place).below in omega arith

          file : newest_file e d ≡ vat_file d e.start a.0
          unfolding newest_file found_at
          file = ap (λ (x : Found). vat_file d e.start (found_at x)) place

          -- n is the number of its entries
          module _ {n : ℕ} (c : n ≡ count_of (vat_file d e.start a.0)) where
            count : count_of (newest_file e d) ≡ n
            count = ap count_of file ∙ sym c

            line-nine : open_once_verdict e d t ≡ first (test (leb (count_of (newest_file e d)) 4096) TooManyEntries ∷ [])
            unfolding open_once_tests is_found
            line-nine = own ∙ next-test NoTable (test (leb (count_of (newest_file e d)) 4096) TooManyEntries ∷ []) (ap is_found place)

            -- line 9
            pub open-many : 4096 < n → Answered (Err TooManyEntries) t
            open-many x = open-refused (line-nine ∙ stop-test TooManyEntries [] (ap (λ (m : ℕ). leb m 4096) count ∙ lt-leb n 4096 x))

            handed : Record.WriteOnce n next a.0 ≡ found_record e d
            unfolding found_record next_on found_at
            handed =
                ap (λ (m : ℕ). Record.WriteOnce m next a.0) (sym count)
                ∙ ap (λ (m : ℕ). Record.WriteOnce (count_of (newest_file e d)) m a.0) top
                ∙ ap (λ (x : Found). Record.WriteOnce (count_of (newest_file e d)) (nwa d e.start e.span) (found_at x)) (sym place)

            over : next - 1 - a.0 ≡ passed_over e d
            unfolding passed_over next_on found_at
            over =
                ap (λ (m : ℕ). m - 1 - a.0) top ∙ ap (λ (x : Found). nwa d e.start e.span - 1 - found_at x) (sym place)

            -- as many as the scan looked at
            counted : PassedOver e d (Ok (record { handed = Record.WriteOnce n next a.0; passed = next - 1 - a.0 }))
            unfolding newest next_on
            counted = record {
              counted = ap (λ (m : ℕ). m - 1 - a.0) top ∙ sym (looked-between d e.start (nwa d e.start e.span) a.0 place);
            }

            -- none of the lines, and the table is filled
            pub open-opened : n ≤ 4096 → {u : List ℕ} → u ≡ filled_from (entries_of (vat_file d e.start a.0)) t → Answered (Ok (record { handed = Record.WriteOnce n next a.0; passed = next - 1 - a.0 })) u
            unfolding opening_once opened_once opened_by filled_by
            open-opened x g =
                let all = line-nine ∙ next-test TooManyEntries [] (ap (λ (m : ℕ). leb m 4096) count ∙ le-leb n 4096 x) in (
                  ap₂ (λ (h : Record) (n : ℕ). Ok (record { handed = h; passed = n })) handed over ∙ sym (ap (λ (v : Verdict). opened_by v (found_record e d) (passed_over e d)) all),
                  (
                    g
                        ∙ ap (λ (l : List ℕ). filled_from (entries_of l) t) (sym file)
                        ∙ sym (ap (λ (v : Verdict). filled_by v (entries_of (newest_file e d)) t) all),
                    counted,
                  ),
                )
