-- The calls of both kinds are those of the kind that the map list tells (document 01, "Calls and their sector writes"). Assumes nothing.
use Prim.Native.Nat.{ℕ, ◌+◌}
use mathlib.Core.Bool.{true, false}
use mathlib.Core.Path.{◌≡◌, refl, sym, ap, ◌∙◌}
use mathlib.Core.List.{List, [], ◌∷◌}
use Rattle.refusal.specs.Verdict.{Verdict}
use Rattle.std.specs.Prelude.{Ok, Err, Result}
use Rattle.refusal.specs.Number.{answer_number}
use Rattle.refusal.proofs.Laws.{answered-number}
use Rattle.refusal.specs.Tests.{need, first}
use Rattle.maps.specs.declared.Kind.TheVariants.{WriteOnce, Rewritable}
use Rattle.refusal.specs.declared.Refusal.{Refusal}
use Rattle.maps.specs.declared.Volume.{Volume}
use Rattle.maps.specs.Kinds.{read_maps, volume_read, volume_with, no_volume}
use Rattle.model.specs.declared.Record.{Record}
use Rattle.model.specs.declared.Opened.{Opened}
use Rattle.model.specs.declared.Forecast.{Forecast}
use Rattle.model.specs.Told.{forecast_number}
use Rattle.model.specs.Lent.{Opens, Reads, Makes}
use Rattle.model.specs.Disc.{Disc}
use Rattle.model.specs.Examine.{Setting, volume, is_once, write_once}
use Rattle.model.specs.Once.{held_verdict}
use Rattle.model.specs.Forecast.{item_tests, item_record, item_by, forecast_from, forecast_by, forecast, ForecastTrue, Forecasts}
use Rattle.model.proofs.Foretold.{forecast-true}
use Rattle.model.specs.Rewrite.{rewritable_verdict}
use Rattle.model.specs.Both.{open_verdict, record_on, numbers_on, passed_on, opened_by, opening, opened_table, block_sector, read_once_tests, read_rewritable_tests, read_verdict, reading, read_bytes, make_tests, make_verdict, make_writes, made}
use Rattle.once_open.specs.Calls.{fullness_of, Measures, open_once_verdict, opening_once, opened_once, read_once_verdict, reading_once, read_once_bytes}
use Rattle.make_volume.specs.WriteOnce.{make_once_verdict, made_once}
use Rattle.sparing_current.specs.Looked.{look_verdict}
use Rattle.rewrite_open.specs.Calls.{opening_rewritable, opened_rewritable, read_block_verdict, reading_block, read_block_bytes}
use Rattle.make_volume.specs.Rewritable.{make_rewritable_verdict, rewritable_writes, made_rewritable}

-- ---- the number that is told is the verdict's

opened-number : (v : Verdict) (r : Record) (n : ℕ) → answer_number (opened_by v r n) ≡ answer_number v
unfolding opened_by
opened-number (Ok _) r n = refl
opened-number (Err why) r n = refl

-- the number of a forecast is 0 where an item is refused, too
item-number : (v : Verdict) (i : ℕ) (f : Result Forecast Refusal) → forecast_number f ≡ 0 → forecast_number (item_by v i f) ≡ 0
unfolding item_by
item-number (Ok _) i f h = h
item-number (Err why) i f h = refl

items-number : (e : Setting) (i : ℕ) (held : Record) (xs : List ℕ) → forecast_number (forecast_from e i held xs) ≡ 0
unfolding forecast_from
items-number e i held [] = refl
items-number e i held (x ∷ xs) = item-number (first (item_tests e held x)) i _ (items-number e (i + 1) (item_record held x) xs)

forecast-number : (v : Verdict) (f : Result Forecast Refusal) → forecast_number f ≡ 0 → forecast_number (forecast_by v f) ≡ answer_number v
unfolding forecast_by
forecast-number (Ok _) f h = h
forecast-number (Err why) f h = refl

-- ---- which kind it is; v is the volume that reading the map list gave

module _ (e : Setting) {v : Volume} (q : v ≡ volume_read (read_maps e.maps)) where
  kind-is : (volume e).kind ≡ v.kind
  unfolding volume
  kind-is = sym (ap (λ (m : Volume). m.kind) q)

  -- a write-once volume, as that of a list that is turned down is
  pub kind-once : {p : ℕ} → v.kind ≡ WriteOnce p → true ≡ write_once e
  unfolding write_once is_once
  kind-once k = sym (ap is_once (kind-is ∙ k))

  -- a rewritable one
  pub kind-rewritable : {p n size : ℕ} → v.kind ≡ Rewritable p n size → false ≡ write_once e
  unfolding write_once is_once
  kind-rewritable k = sym (ap is_once (kind-is ∙ k))

-- ---- a write-once list: what is told of the kind is told of both

module _ (e : Setting) (d : Disc) (w : write_once e ≡ true) where
  -- opening answers the same, and fills the table the same
  pub opens-once : (t : List ℕ) {x : Result Opened Refusal} {u : List ℕ} → (x ≡ opening_once e d t) × (u ≡ opened_once e d t) → (x ≡ opening e d t) × (u ≡ opened_table e d t)
  unfolding opening_once opened_once open_once_verdict opening opened_table open_verdict record_on numbers_on passed_on need
  opens-once t h =
      let answer : opening_once e d t ≡ opening e d t = rw w in
      let table : opened_once e d t ≡ opened_table e d t = rw w in
      (h.0 ∙ answer, h.1 ∙ table)

  -- reading answers the same, and gives the same bytes
  pub reads-once : (t : List ℕ) (held : Record) (v : ℕ) (out : List ℕ) {x : Verdict} {u : List ℕ} → (x ≡ reading_once e d t held v out) × (u ≡ read_once_bytes e d t held v out) → (x ≡ reading e d t held v out) × (u ≡ read_bytes e d t held v out)
  unfolding reading_once read_once_bytes read_once_verdict reading read_bytes read_verdict read_once_tests block_sector need
  reads-once t held v out h =
      let answer : reading_once e d t held v out ≡ reading e d t held v out = rw w in
      let bytes : read_once_bytes e d t held v out ≡ read_bytes e d t held v out = rw w in
      (h.0 ∙ answer, h.1 ∙ bytes)

  -- making is turned down the same, and leaves the same disc
  pub makes-once : (spares : List ℕ) {x : Verdict} {y : Disc} → (x ≡ make_once_verdict e d) × (y ≡ made_once e d) → (x ≡ make_verdict e d spares) × (y ≡ made e d spares)
  unfolding make_once_verdict made_once make_verdict made make_tests make_writes need
  makes-once spares h =
      let verdict : make_once_verdict e d ≡ make_verdict e d spares = rw w in
      let left : made_once e d ≡ made e d spares = rw w in
      (h.0 ∙ verdict, h.1 ∙ left)

-- ---- a rewritable list

module _ (e : Setting) (d : Disc) (w : write_once e ≡ false) where
  -- opening answers the same, and fills the table the same
  pub opens-again : (t : List ℕ) {x : Result Opened Refusal} {u : List ℕ} → (x ≡ opening_rewritable e d t) × (u ≡ opened_rewritable e d t) → (x ≡ opening e d t) × (u ≡ opened_table e d t)
  unfolding opening_rewritable opened_rewritable look_verdict opening opened_table open_verdict record_on numbers_on passed_on need
  opens-again t h =
      let answer : opening_rewritable e d t ≡ opening e d t = rw w in
      let table : opened_rewritable e d t ≡ opened_table e d t = rw w in
      (h.0 ∙ answer, h.1 ∙ table)

  -- reading answers the same, and gives the same bytes
  pub reads-again : (t : List ℕ) (held : Record) (b : ℕ) (out : List ℕ) {x : Verdict} {u : List ℕ} → (x ≡ reading_block e d t held b out) × (u ≡ read_block_bytes e d t held b out) → (x ≡ reading e d t held b out) × (u ≡ read_bytes e d t held b out)
  unfolding reading_block read_block_bytes read_block_verdict rewritable_verdict reading read_bytes read_verdict read_rewritable_tests block_sector need
  reads-again t held b out h =
      let answer : reading_block e d t held b out ≡ reading e d t held b out = rw w in
      let bytes : read_block_bytes e d t held b out ≡ read_bytes e d t held b out = rw w in
      (h.0 ∙ answer, h.1 ∙ bytes)

  -- making is turned down the same, and leaves the same disc
  pub makes-again : (spares : List ℕ) {x : Verdict} {y : Disc} → (x ≡ make_rewritable_verdict e d spares) × (y ≡ made_rewritable e d spares) → (x ≡ make_verdict e d spares) × (y ≡ made e d spares)
  unfolding make_rewritable_verdict made_rewritable rewritable_writes make_verdict made make_tests make_writes need
  makes-again spares h =
      let verdict : make_rewritable_verdict e d spares ≡ make_verdict e d spares = rw w in
      let left : made_rewritable e d spares ≡ made e d spares = rw w in
      (h.0 ∙ verdict, h.1 ∙ left)

-- ---- the promises: an answer, its number, and what is left

module _ (e : Setting) (d : Disc) where
  -- of opening
  pub opened-so : {t t' : List ℕ} {r : Result Opened Refusal} → (r ≡ opening e d t) × (t' ≡ opened_table e d t) → Opens (record { setting = e; disc = d }) t r t'
  unfolding opening
  opened-so {t} h =
      record { answer = h.0; number = ap answer_number h.0 ∙ opened-number (open_verdict e d t) _ _; table = h.1 }

  -- of reading
  pub read-so : {t out : List ℕ} {held : Record} {v : ℕ} {r : Verdict} {out' : List ℕ} → (r ≡ reading e d t held v out) × (out' ≡ read_bytes e d t held v out) → Reads (record { setting = e; disc = d }) t held v out r out'
  unfolding reading
  read-so {t} {out} {held} {v} h =
      record { answer = h.0; number = ap answer_number h.0; bytes = h.1 }

  -- of making
  pub made_so : {spares : List ℕ} {r : Verdict} {d' : Disc} → (r ≡ make_verdict e d spares) × (d' ≡ made e d spares) → Makes (record { setting = e; disc = d }) spares r d'
  made_so h = record { answer = h.0; disc = h.1 }

  -- of fullness
  pub measured-so : {t : List ℕ} {held : Record} {r : Result ℕ Refusal} → r ≡ fullness_of e d t held → Measures (record { setting = e; disc = d }) t held r
  unfolding fullness_of
  measured-so {t} {held} h =
      record { answer = h; number = ap answer_number h ∙ answered-number (held_verdict e d t held) _ }

  -- of a forecast
  pub forecast-so : {t xs : List ℕ} {held : Record} {r : Result Forecast Refusal} → r ≡ forecast e d t held xs → Forecasts (record { setting = e; disc = d }) t held xs r
  unfolding forecast ForecastTrue
  forecast-so {t} {xs} {held} h =
      record {
        answer = h;
        number = ap forecast_number h ∙ forecast-number (held_verdict e d t held) _ (items-number e 0 held xs);
        foretells = λ blocks cuts long. rw h (forecast-true e (record { disc = d; table = t; held = held }) xs blocks cuts long);
      }
