-- Laws of looking and judging: one for each way on or out. Assumes nothing.
use Prim.Native.Nat.{ℕ, ◌+◌, ◌*◌, ◌≤◌, ◌<◌}
use mathlib.Core.Bool.{Bool, true, false, not}
use mathlib.Core.Path.{◌≡◌, sym, ap, subst, ◌∙◌}
use mathlib.Core.List.{List, []}
use native.Mathlib.Omega.{arith}
use lib.ListN.{length, take, length-take}
use Rattle.std.specs.Prelude.{Ok, Err, Result}
use Rattle.std.proofs.lemmas.Result.{IfOk-from_err}
use Rattle.refusal.specs.declared.Refusal.{Refusal}
use Rattle.refusal.specs.declared.Refusal.TheVariants.{OtherKind, StaleRecord}
use Rattle.refusal.specs.Verdict.{Verdict, verdict_of}
use Rattle.maps.specs.declared.Kind.TheVariants.{WriteOnce, Rewritable}
use Rattle.maps.specs.declared.Volume.{Volume}
use Rattle.maps.proofs.Laws.{read-fine}
use Rattle.model.specs.declared.Record.{Record}
use Rattle.model.specs.Disc.{Disc, sector}
use Rattle.model.specs.Sparing.{Geometry, ground_of, entries, count_in, table_at}
use Rattle.model.specs.Examine.{Setting, volume, geometry, all_outside}
use Rattle.model.specs.Rewrite.{table_on, entries_on, count_on, copy_tests, held_current}
use Rattle.model.proofs.Sectors.{shapely-most}
use Rattle.model.proofs.Verdicts.{stop-test, next-test}
use Rattle.model.proofs.Ground.{Ground, ground}
use Rattle.model.proofs.SparingLaws.{table-count}
use Rattle.sparing_copy.specs.declared.shapes.Layout.{Layout}
use Rattle.sparing_copy.specs.Layout.{geometry_in, TablesOn}
use Rattle.sparing_copies.specs.declared.Current.{Current}
use Rattle.sparing_copies.specs.Copies.{FoundCurrent, copy_verdict}
use Rattle.sparing_copy.proofs.Laws.{tables-on}
use Rattle.examine.specs.Ground.{examined_of}
use Rattle.examine.proofs.Laws.{seen-stops, seen-goes, seen-tells, seen-volume, seen-once, seen-rewritable, seen_few, seen-geometry}
use Rattle.sparing_current.specs.declared.Looked.{Looked}
use Rattle.sparing_current.specs.Looked.{layout_verdict, look_verdict, LaidOut, LaysOut, Sees, Judges}
use Rattle.sparing_current.proofs.Laws.{Whole, whole, Tabled, tabled, look-held, look-laid, stopped, passed_on}

-- ---- the layout; r is the answer of the examination

module _ (e : Setting) (d : Disc) (lent : Bool) {r : Result Volume Refusal} (q : r ≡ examined_of e d lent) where
  -- lines 1 to 6
  pub lay-examined : {x : Result Layout Refusal} {why : Refusal} → r ≡ Err why → x ≡ Err why → LaysOut e d lent x
  unfolding layout_verdict
  lay-examined {x} h s = record { verdict = stopped _ _ (sym (seen-stops e d lent q h)) s; layout = IfOk-from_err x _ (rw s) }

  module _ {v : Volume} (h : r ≡ Ok v) where
    -- line 7
    pub lay-other : {p : ℕ} → v.kind ≡ WriteOnce p → LaysOut e d lent (Err OtherKind)
    unfolding layout_verdict
    lay-other is =
        record {
          verdict = passed_on _ _ (sym (seen-goes e d lent q h)) (sym (stop-test OtherKind [] (ap not (seen-once e d lent q h is))));
          layout = tt;
        }

    -- the disc has not too many sectors
    pub lay-most : length d.marks ≤ 1048576
    lay-most = shapely-most d (seen-tells e d lent q h).shape

    module _ {p n size : ℕ} (is : v.kind ≡ Rewritable p n size) where
      lies : Ground e (geometry e d)
      lies = ground e d lent (seen-rewritable e d lent q h is) (seen-tells e d lent q h)

      four : length v.tables ≡ 4
      unfolding volume
      four = ap (λ (w : Volume). length w.tables) (seen-volume e d lent q h) ∙ (read-fine e.maps (seen-tells e d lent q h).maps).places

      few : n ≤ 4
      few = seen_few e d lent q h is

      -- x is the layout of the volume
      module _ (x : Layout) (lay : geometry_in x ≡ ground_of v.span.start v.span.length (length d.marks) (take n v.tables) size) (count : x.count ≡ n) where
        -- it has the geometry of the disc
        layout_is : geometry_in x ≡ geometry e d
        layout_is =
            lay
            ∙ ap (λ (w : Volume). ground_of w.span.start w.span.length (length d.marks) (take n v.tables) size) (seen-volume e d lent q h)
            ∙ sym (seen-geometry e d lent q h is)

        names : length (take x.count x.volume.tables) ≡ n
        names = omega (arith, ap (λ (y : Geometry). length y.tables) lay, length-take n v.tables, four, few)

        on : TablesOn x
        on =
            tables-on x (omega (arith, names, count, length-take x.count x.volume.tables))
            (ap (λ (y : Geometry). all_outside y y.tables) layout_is ∙ lies.outside)

        -- none of the lines
        pub lay-fits : LaysOut e d lent (Ok x)
        unfolding layout_verdict
        lay-fits =
            record {
              verdict = passed_on _ _ (sym (seen-goes e d lent q h)) (sym (next-test OtherKind [] (ap not (seen-rewritable e d lent q h is))));
              layout =
                  record {
                    same = layout_is;
                    copies = count ∙ sym names ∙ ap (λ (y : Geometry). length y.tables) layout_is;
                    few = omega (arith, few, count);
                    short = omega (arith, ap (λ (y : Geometry). y.size) layout_is, lies.size);
                    on = on;
                  };
            }

-- ---- a layout that was laid out has the volume's S and L and the sectors of the disc

module _ {e : Setting} {d : Disc} {x : Layout} (l : LaidOut e d x) where
  pub span-start : x.volume.span.start ≡ e.start
  unfolding geometry
  span-start = ap (λ (g : Geometry). g.start) l.same

  pub span-length : x.volume.span.length ≡ e.span
  unfolding geometry
  span-length = ap (λ (g : Geometry). g.span) l.same

  pub sectors-are : x.sectors ≡ length d.marks
  unfolding geometry
  sectors-are = ap (λ (g : Geometry). g.sectors) l.same

-- ---- looking; x is the layout

module _ (e : Setting) (d : Disc) (lent : Bool) where
  -- lines 1 to 7
  pub look-stopped : {r : Result Looked Refusal} {why : Refusal} → LaysOut e d lent (Err why) → r ≡ Err why → Sees e d lent r
  look-stopped {r} x s = record { verdict = stopped _ _ x.verdict s ∙ sym (look-laid e d lent); found = IfOk-from_err r _ (rw s) }

  module _ {x : Layout} (l : LaysOut e d lent (Ok x)) where
    -- what they tell
    look-whole : Whole e d lent
    look-whole = whole e d lent (sym l.verdict)

    -- what is asked of the layout
    pub look-asks : (x.count ≤ 4) × (x.size ≤ 2048) × (length d.bytes ≡ 2048 * length d.marks) × (x.sectors ≡ length d.marks) × TablesOn x
    look-asks = (l.layout.few, l.layout.short, look-whole.shape, sectors-are l.layout, l.layout.on)

    -- the current table of the disc is that of its geometry
    found-on : {f : Result Current Refusal} → FoundCurrent d (geometry_in x) f → FoundCurrent d (geometry e d) f
    found-on {f} = subst (λ (g : Geometry). FoundCurrent d g f) l.layout.same

    lines : {v : Verdict} → v ≡ copy_verdict d (geometry e d) → v ≡ look_verdict e d lent
    unfolding copy_tests table_on
    lines v = passed_on _ _ l.verdict v ∙ sym (look-laid e d lent)

    -- lines 8 and 10
    pub look-copies : {r : Result Looked Refusal} {why : Refusal} → FoundCurrent d (geometry_in x) (Err why) → r ≡ Err why → Sees e d lent r
    look-copies {r} f s = record { verdict = lines (ap verdict_of s ∙ (found-on f).verdict); found = IfOk-from_err r _ (rw s) }

    -- none of the lines
    pub look-found : {f : Current} → FoundCurrent d (geometry_in x) (Ok f) → Sees e d lent (Ok (record { layout = x; current = f }))
    look-found f = record { verdict = lines (found-on f).verdict; found = record { layout = l.layout; current = (found-on f).found } }

-- ---- judging; x is what was found

module _ {e : Setting} {d : Disc} {lent : Bool} {x : Looked} (s : Sees e d lent (Ok x)) where
  -- what lines 1 to 8 and 10 tell
  pub look-tells : Tabled e d lent
  look-tells = tabled e d lent (sym s.verdict)

  -- the sector found is one of the disc
  pub look-place : (2048 * x.current.at.0 + 2048 ≤ length d.bytes) × (x.current.at.0 < 1048576)
  unfolding geometry
  look-place =
      let w = look-tells.whole in
      (omega (arith, s.found.current.place, w.shape), omega (arith, s.found.current.place, w.few))

  -- its entries lie in it
  pub look-count : x.current.entries ≡ count_in (sector d x.current.at.0)
  unfolding table_at
  look-count =
      s.found.current.count ∙ sym (ap (λ (l : List ℕ). length (entries l)) s.found.current.table) ∙ table-count (sector d x.current.at.0)

  pub look-short : 56 + 8 * x.current.entries ≤ 2048
  unfolding count_on entries_on table_on
  look-short = omega (arith, s.found.current.count, look-tells.short)

module _ (e : Setting) (d : Disc) (t : List ℕ) (lent : Bool) (held : Record) where
  -- lines 1 to 8 and 10
  pub judge-looked : {r : Result Looked Refusal} {why : Refusal} → Sees e d lent (Err why) → r ≡ Err why → Judges e d t lent held r
  judge-looked {r} x s = record { verdict = stopped _ _ x.verdict s ∙ sym (look-held e d t lent held); found = IfOk-from_err r _ (rw s) }

  -- b says whether the record goes with the current table
  module _ {x : Looked} (s : Sees e d lent (Ok x)) {b : Bool} (q : b ≡ held_current e d t held) where
    -- line 11
    pub judge-stale : b ≡ false → Judges e d t lent held (Err StaleRecord)
    judge-stale f =
        record { verdict = passed_on _ _ s.verdict (sym (stop-test StaleRecord [] (sym q ∙ f))) ∙ sym (look-held e d t lent held); found = tt }

    -- none of the lines
    pub judge-fits : b ≡ true → Judges e d t lent held (Ok x)
    judge-fits f =
        record { verdict = passed_on _ _ s.verdict (sym (next-test StaleRecord [] (sym q ∙ f))) ∙ sym (look-held e d t lent held); found = s.found }
