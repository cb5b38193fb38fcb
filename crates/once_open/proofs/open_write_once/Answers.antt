-- `once_open::open_write_once` meets its contract: each return by the law of its line. Assumes nothing.
use Prim.Native.Nat.{ℕ, ◌+◌, ◌*◌, ◌≤◌, ◌<◌}
use mathlib.Core.Bool.{Bool, true}
use mathlib.Core.List.{List}
use mathlib.Core.Path.{◌≡◌, ap, ap₂, ◌∙◌}
use native.Mathlib.Omega.{arith}
use borrow.Author.Rules.{rules}
use lib.ListN.{length}
use Rattle.std.specs.Prelude.{Ok, Err, Result, Option, Some, None}
use Rattle.address.specs.declared.LogicalAddress.{LogicalAddress}
use Rattle.maps.specs.declared.Kind.TheVariants.{WriteOnce}
use Rattle.model.specs.Disc.{Disc, disc, nwa}
use Rattle.model.specs.Vat.{vat_icb, vat_file, count_of, entries_of, scan}
use Rattle.model.specs.Once.{filled_from}
use Rattle.model.specs.Examine.{Setting, lent_table}
use Rattle.model.proofs.Sectors.{nwa-most}
use Rattle.maps.specs.declared.Volume.{Volume}
use Rattle.refusal.specs.declared.Refusal.{Refusal}
use Rattle.refusal.specs.declared.Refusal.TheVariants.{NoTable}
use Rattle.examine.specs.Ground.{examined_of}
use Rattle.vat_read.specs.File.{Lent}
use Rattle.vat_scan.specs.Scan.{scan_of}
use Rattle.once_open.proofs.Opening.{open-handed, open-examined, open-other, open-start, open-length, open_span, open-most, open_made, open-long, open_none, open-icb, open-below, open-many, open-opened}
use Rattle.once_open.proofs.open_write_once.Goals as goal

-- what holds past line 7
record Ready (e : Setting) (d : Disc) (t : List ℕ) (volume : Volume) : Type 0 where
  pub span : volume.span.start + volume.span.length ≤ length d.marks
  pub most : length d.marks ≤ 1048576
  pub made : length d.bytes ≡ 2048 * length d.marks
  pub long : 4096 ≤ length t
  pub start : volume.span.start ≡ e.start
  pub whole : volume.span.length ≡ e.span

-- what holds of the ICB that is found in block k, where the partition begins at s and NWA is next
record Stands (d : Disc) (s next k : ℕ) : Type 0 where
  pub icb : vat_icb d s k ≡ true
  pub below : k < next
  pub lent : Lent d.bytes d.marks s k
  pub there : s + k < length d.marks

-- the disc was examined, and line 7 lets the call go on
module _ (e : Setting) (d : Disc) (t : List ℕ) {lent : Bool} (q : lent ≡ lent_table t) {r : Result Volume Refusal} (f : r ≡ examined_of e d lent) {volume : Volume} (h : r ≡ Ok volume) where
  ready : Ready e d t volume
  ready =
      let start = open-start e d t q f h in
      let whole = open-length e d t q f h in
      record {
        span = omega (arith, open_span e d t q f h, start, whole);
        most = open-most e d t q f h;
        made = open_made e d t q f h;
        long = open-long e d t q f h;
        start = start;
        whole = whole;
      }

  -- S is the one given, so what stands at S of the volume stands at it
  at_start : {A : Type 0} (g : ℕ → A) {x : A} → x ≡ g volume.span.start → x ≡ g e.start
  at_start g is = is ∙ ap g ready.start

  module _ {next : ℕ} (on : next ≡ nwa d volume.span.start volume.span.length) where
    -- the sectors up to NWA are the disc's
    lent_below : (k : ℕ) → k ≤ next → Lent d.bytes d.marks volume.span.start k
    lent_below k le =
        let w = ready in
        let low = nwa-most d volume.span.start volume.span.length in
        record { made = w.made; inside = omega (arith, w.span, on, low); most = w.most }

    -- what is found is NWA
    top : next ≡ nwa d e.start e.span
    top = let w = ready in on ∙ ap₂ (nwa d) w.start w.whole

    module _ {found : Option LogicalAddress} (ends : found ≡ scan_of (scan d volume.span.start next)) {p : ℕ} (is : volume.kind ≡ WriteOnce p) {a : LogicalAddress} (at : found ≡ Some a) where
      stands : Stands d volume.span.start next a.0
      stands =
          let scanned = at_start (λ (s : ℕ). scan_of (scan d s next)) ends in
          let below = open-below e d t q f h is top scanned at in
          let whole = (lent_below next (omega arith)).inside in
          record {
            icb = ap (λ (s : ℕ). vat_icb d s a.0) ready.start ∙ open-icb e d t q f h is top scanned at;
            below = below;
            lent = lent_below a.0 (omega arith);
            there = omega arith;
          }

pub returns-in_err-volume : goal.returns-in_err-volume
returns-in_err-volume c =
    let e : c.from_residual.result ≡ Err c.in_err-volume.field-0.0 = search rules in
    let told = open-handed _ _ _ e (open-examined _ _ _ c.is_lent-lent.ensures c.examine.ensures c.in_err-volume.was) in
    record { value = told.0; table_after = told.1.0; passed_over = told.1.1 }

pub returns-in-Rewritable : goal.returns-in-Rewritable
returns-in-Rewritable c =
    let told = open-other _ _ _ c.is_lent-lent.ensures c.examine.ensures c.in_ok-volume.was c.in-Rewritable.is in
    record { value = told.0; table_after = told.1.0; passed_over = told.1.1 }

pub next_writable-next-requires : goal.next_writable-next-requires
next_writable-next-requires c = let w = ready _ _ _ c.is_lent-lent.ensures c.examine.ensures c.in_ok-volume.was in record { l_in_bounds = w.span; marks_len_bound = w.most }

pub scan-requires : goal.scan-requires
scan-requires c = lent_below _ _ _ c.is_lent-lent.ensures c.examine.ensures c.in_ok-volume.was (c.next_writable-next.ensures c.args.disc.now) c.next_writable-next.result.0 (omega arith)

pub entry_count-entries-requires : goal.entry_count-entries-requires
entry_count-entries-requires c =
    let at : c.scan.result ≡ Some c.in_ok-k.k = search rules in
    let w = stands _ _ _ c.is_lent-lent.ensures c.examine.ensures c.in_ok-volume.was (c.next_writable-next.ensures c.args.disc.now) c.scan.ensures c.in_default.is at in
    record { lent = w.lent; k_in_bounds = w.there; k_value = w.icb }

pub returns-then-entries-gt-MOST_COUNT : goal.returns-then-entries-gt-MOST_COUNT
returns-then-entries-gt-MOST_COUNT c =
    let at : c.scan.result ≡ Some c.in_ok-k.k = search rules in
    let d = disc c.args.disc.now c.args.marks.now in
    let told = open-many _ _ _ c.is_lent-lent.ensures c.examine.ensures c.in_ok-volume.was c.in_default.is (top _ _ _ c.is_lent-lent.ensures c.examine.ensures c.in_ok-volume.was (c.next_writable-next.ensures c.args.disc.now)) (at_start _ _ _ c.is_lent-lent.ensures c.examine.ensures c.in_ok-volume.was (λ (s : ℕ). scan_of (scan d s c.next_writable-next.result.0)) c.scan.ensures) at
    (at_start _ _ _ c.is_lent-lent.ensures c.examine.ensures c.in_ok-volume.was (λ (s : ℕ). count_of (vat_file d s c.in_ok-k.k.0)) c.entry_count-entries.ensures)
    c.if-entries-gt-MOST_COUNT.true in
    record { value = told.0; table_after = told.1.0; passed_over = told.1.1 }

pub fill-requires : goal.fill-requires
fill-requires c =
    let at : c.scan.result ≡ Some c.in_ok-k.k = search rules in
    let w = stands _ _ _ c.is_lent-lent.ensures c.examine.ensures c.in_ok-volume.was (c.next_writable-next.ensures c.args.disc.now) c.scan.ensures c.in_default.is at in
    let n = c.entry_count-entries.ensures in
    let few = c.if-entries-gt-MOST_COUNT.false in
    record { lent = w.lent; k_in_bounds = w.there; k_value = w.icb; k_bound = (omega arith, (ready _ _ _ c.is_lent-lent.ensures c.examine.ensures c.in_ok-volume.was).long) }

pub overflow_sub-result : goal.overflow_sub-result
overflow_sub-result c =
    let at : c.scan.result ≡ Some c.in_ok-k.k = search rules in
    let below = (stands _ _ _ c.is_lent-lent.ensures c.examine.ensures c.in_ok-volume.was (c.next_writable-next.ensures c.args.disc.now) c.scan.ensures c.in_default.is at).below in omega (arith, below)

pub overflow_sub-result-2 : goal.overflow_sub-result-2
overflow_sub-result-2 c =
    let at : c.scan.result ≡ Some c.in_ok-k.k = search rules in
    let below = (stands _ _ _ c.is_lent-lent.ensures c.examine.ensures c.in_ok-volume.was (c.next_writable-next.ensures c.args.disc.now) c.scan.ensures c.in_default.is at).below in omega (arith, below)

pub returns-in_err-k : goal.returns-in_err-k
returns-in_err-k c =
    let e : c.from_residual-in_err-k.result ≡ Err NoTable = search rules in
    let nowhere : c.scan.result ≡ None = search rules in
    let told = open-handed _ _ _ e (open_none _ _ _ c.is_lent-lent.ensures c.examine.ensures c.in_ok-volume.was c.in_default.is (top _ _ _ c.is_lent-lent.ensures c.examine.ensures c.in_ok-volume.was (c.next_writable-next.ensures c.args.disc.now)) (at_start _ _ _ c.is_lent-lent.ensures c.examine.ensures c.in_ok-volume.was (λ (s : ℕ). scan_of (scan (disc c.args.disc.now c.args.marks.now) s c.next_writable-next.result.0)) c.scan.ensures) nowhere) in
    record { value = told.0; table_after = told.1.0; passed_over = told.1.1 }

pub returns : goal.returns
returns c =
    let at : c.scan.result ≡ Some c.in_ok-k.k = search rules in
    let d = disc c.args.disc.now c.args.marks.now in
    let told = open-opened _ _ _ c.is_lent-lent.ensures c.examine.ensures c.in_ok-volume.was c.in_default.is (top _ _ _ c.is_lent-lent.ensures c.examine.ensures c.in_ok-volume.was (c.next_writable-next.ensures c.args.disc.now)) (at_start _ _ _ c.is_lent-lent.ensures c.examine.ensures c.in_ok-volume.was (λ (s : ℕ). scan_of (scan d s c.next_writable-next.result.0)) c.scan.ensures) at
    (at_start _ _ _ c.is_lent-lent.ensures c.examine.ensures c.in_ok-volume.was (λ (s : ℕ). count_of (vat_file d s c.in_ok-k.k.0)) c.entry_count-entries.ensures)
    c.if-entries-gt-MOST_COUNT.false
    (at_start _ _ _ c.is_lent-lent.ensures c.examine.ensures c.in_ok-volume.was (λ (s : ℕ). filled_from (entries_of (vat_file d s c.in_ok-k.k.0)) c.args.table.now) c.fill.ensures) in
    record { value = told.0; table_after = told.1.0; passed_over = told.1.1 }
