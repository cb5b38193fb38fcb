-- Laws of the forecast: the lines of an item and the record after it, the items one by one, and how the call ends. Assumes nothing.
use Prim.Native.Nat.{ℕ, ◌+◌, ◌≤◌, ◌<◌}
use mathlib.Core.Bool.{Bool, true, false}
use mathlib.Core.Path.{◌≡◌, refl, sym, ap, ◌∙◌}
use mathlib.Core.List.{List, [], ◌∷◌}
use native.Mathlib.Omega.{arith}
use native.Mathlib.Numerals.{add-one}
use borrow.Author.Tests.{leb-true}
use lib.ListN.{length, get_or, drop, drop_of_length-le}
use lib.Seq.{drop-cons}
use Rattle.refusal.specs.declared.Refusal.{Refusal}
use Rattle.refusal.specs.declared.Refusal.TheVariants.{NumberOutside, NoRoom}
use Rattle.refusal.specs.Verdict.{Verdict}
use Rattle.std.specs.Prelude.{Ok, Err, Result}
use Rattle.refusal.specs.Tests.{first}
use Rattle.refusal.proofs.Laws.{goes, stops, passed}
use Rattle.model.specs.declared.Record.{Record}
use Rattle.model.specs.declared.Forecast.{Forecast}
use Rattle.model.specs.Disc.{Disc}
use Rattle.model.specs.VatWritten.{data_sectors}
use Rattle.model.specs.Examine.{Setting, setting, lent_table}
use Rattle.model.specs.Once.{entries_held, next_held, once_verdict, count_after, number_fits, number_test, room_to_save, room_test, saved_record, room_to_commit, commit_tests, icb_block, committed_record, held_verdict}
use Rattle.model.specs.Forecast.{is_commit, item_tests, item_record, item_by, forecast_from, forecast_by, forecast}
use Rattle.model.proofs.Basics.{by_bool}
use Rattle.model.proofs.OnceSave.{saved-few}
use Rattle.room.proofs.Laws.{number-low}

-- ---- an item

module _ (e : Setting) (held : Record) (x : ℕ) where
  -- its tests
  commit-tests : is_commit x ≡ true → first (commit_tests e held) ≡ first (item_tests e held x)
  unfolding item_tests
  commit-tests h = rw h

  save-tests : is_commit x ≡ false → first (number_test held x ∷ room_test e held x ∷ []) ≡ first (item_tests e held x)
  unfolding item_tests
  save-tests h = rw h

  -- a commit; b is whether it has room
  module _ (c : is_commit x ≡ true) {b : Bool} (is : b ≡ room_to_commit e.span held) where
    pub commit-full : b ≡ false → Err NoRoom ≡ first (item_tests e held x)
    unfolding commit_tests
    commit-full h = stops _ (sym is ∙ h) ∙ commit-tests c

    pub commit-fits : b ≡ true → (Ok tt) ≡ first (item_tests e held x)
    unfolding commit_tests
    commit-fits h = goes _ (sym is ∙ h) refl ∙ commit-tests c

  -- a save; a is whether its number fits, and b whether it has room
  module _ (c : is_commit x ≡ false) {a : Bool} (is : a ≡ number_fits held x) where
    pub save-outside : a ≡ false → Err NumberOutside ≡ first (item_tests e held x)
    save-outside h = stops _ (sym is ∙ h) ∙ save-tests c

    module _ (in-range : a ≡ true) {b : Bool} (fits : b ≡ room_to_save e.span held x) where
      pub save-full : b ≡ false → Err NoRoom ≡ first (item_tests e held x)
      save-full h = goes _ (sym is ∙ in-range) (stops _ (sym fits ∙ h)) ∙ save-tests c

      pub save-fits : b ≡ true → (Ok tt) ≡ first (item_tests e held x)
      save-fits h = goes _ (sym is ∙ in-range) (goes _ (sym fits ∙ h) refl) ∙ save-tests c

-- the record after it
pub commit-leaves : (held : Record) (x : ℕ) {r : Record} → is_commit x ≡ true → r ≡ committed_record held → r ≡ item_record held x
unfolding item_record
commit-leaves held x c q = rw c q

pub save-leaves : (held : Record) (x : ℕ) {r : Record} → is_commit x ≡ false → r ≡ saved_record held x → r ≡ item_record held x
unfolding item_record
save-leaves held x c q = rw c q

-- an item that is not refused: N stays within 4,096, and NWA rises and stays within L
record Rises (e : Setting) (held after : Record) : Type 0 where
  few : entries_held after ≤ 4096
  rises : next_held held < next_held after
  within : next_held after ≤ e.span

item-rises : (e : Setting) (held : Record) (x : ℕ) → entries_held held ≤ 4096 → first (item_tests e held x) ≡ Ok tt → Rises e held (item_record held x)
unfolding item_record entries_held next_held commit_tests room_to_commit icb_block room_to_save
item-rises e held x few go =
    by_bool (is_commit x)
    (λ c.
    let room : next_held held + data_sectors (entries_held held) + 1 ≤ e.span = leb-true _ _ (passed (commit_tests e held) (commit-tests e held x c ∙ go)).0 in
    rw c (record { few = few; rises = omega arith; within = omega arith }))
    (λ c.
    let p = passed (number_test held x ∷ room_test e held x ∷ []) (save-tests e held x c ∙ go) in
    let room : next_held held + 1 + data_sectors (count_after (entries_held held) x) + 1 ≤ e.span = leb-true _ _ p.1.0 in
    rw c (record { few = saved-few (entries_held held) x few (number-low held x p.0); rises = omega arith; within = omega arith }))

-- ---- the items one by one

-- what the items xs give from held₀ on is what those from i on give from held on
pub record Foreseen (l : ℕ) (held₀ : Record) (xs : List ℕ) (held : Record) (i : ℕ) : Type 0 where
  pub rest : (maps : List ℕ) (s : ℕ) → forecast_from (setting maps s l) 0 held₀ xs ≡ forecast_from (setting maps s l) i held (drop i xs)
  pub few : entries_held held ≤ 4096
  pub within : next_held held ≤ l
  pub index : i ≤ next_held held

pub foreseen-first : (l : ℕ) (held₀ : Record) (xs : List ℕ) → entries_held held₀ ≤ 4096 → next_held held₀ ≤ l → Foreseen l held₀ xs held₀ 0
foreseen-first l held₀ xs h k = record { rest = λ maps s. refl; few = h; within = k; index = omega arith }

module _ (l : ℕ) (held₀ : Record) (xs : List ℕ) (held : Record) (i : ℕ) (f : Foreseen l held₀ xs held i) where
  -- there is an item i, of which w is the verdict
  module _ (h : i < length xs) {w : Verdict} (says : (maps : List ℕ) (s : ℕ) → w ≡ first (item_tests (setting maps s l) held (get_or xs i 0))) where
    -- what the items after it give
    abbrev after : List ℕ → ℕ → Result Forecast Refusal
    after maps s = forecast_from (setting maps s l) (i + 1) (item_record held (get_or xs i 0)) (drop (i + 1) xs)

    by-item : (maps : List ℕ) (s : ℕ) {v : Verdict} → w ≡ v → forecast_from (setting maps s l) 0 held₀ xs ≡ item_by v i (after maps s)
    unfolding forecast_from
    by-item maps s q =
        f.rest maps s
        ∙ ap (forecast_from (setting maps s l) i held) (drop-cons xs i 0 h ∙ ap (λ (n : ℕ). get_or xs i 0 ∷ drop n xs) (sym (add-one i)))
        ∙ ap (λ (v : Verdict). item_by v i (after maps s)) (sym (says maps s) ∙ q)

    -- it is refused
    pub foreseen-stop : {why : Refusal} → w ≡ Err why → (maps : List ℕ) (s : ℕ) → (Ok (Forecast.Stops i why)) ≡ forecast_from (setting maps s l) 0 held₀ xs
    unfolding item_by
    foreseen-stop q maps s = sym (by-item maps s q)

    -- it is not
    pub foreseen-next : w ≡ Ok tt → {r : Record} → r ≡ item_record held (get_or xs i 0) → Foreseen l held₀ xs r (i + 1)
    unfolding item_by
    foreseen-next q {r} left =
        let up = item-rises (setting [] 0 l) held (get_or xs i 0) f.few (sym (says [] 0) ∙ q) in
        record {
          rest = λ maps s. by-item maps s q ∙ ap (λ (y : Record). forecast_from (setting maps s l) (i + 1) y (drop (i + 1) xs)) (sym left);
          few = rw left up.few;
          within = rw left up.within;
          index = omega (arith, f.index, up.rises, ap next_held left);
        }

  -- there is none left
  pub foreseen-end : length xs ≤ i → {next n : ℕ} → next ≡ next_held held → n ≡ entries_held held → (maps : List ℕ) (s : ℕ) → (Ok (Forecast.Ends next n)) ≡ forecast_from (setting maps s l) 0 held₀ xs
  unfolding forecast_from
  foreseen-end h p q maps s =
      rw (p, q) (sym (f.rest maps s ∙ ap (forecast_from (setting maps s l) i held) (drop_of_length-le xs h)))

-- ---- the call; x is what the test of the lent length did, w what the common tests said

module _ (e : Setting) (d : Disc) (t : List ℕ) (held : Record) (xs : List ℕ) {x : Bool} {w : Verdict} (is : x ≡ lent_table t) (says : w ≡ once_verdict e d t x held []) where
  by_call : {v : Verdict} → w ≡ v → forecast e d t held xs ≡ forecast_by v (forecast_from e 0 held xs)
  unfolding forecast held_verdict
  by_call q =
      ap (λ (v : Verdict). forecast_by v (forecast_from e 0 held xs)) (sym (says ∙ ap (λ (b : Bool). once_verdict e d t b held []) is) ∙ q)

  -- it is turned down
  pub forecast-stopped : {why : Refusal} → w ≡ Err why → Err why ≡ forecast e d t held xs
  unfolding forecast_by
  forecast-stopped h = sym (by_call h)

  -- it is not; l is what the volume says of L
  pub forecast-told : {l : ℕ} {r : Result Forecast Refusal} → w ≡ Ok tt → l ≡ e.span → r ≡ forecast_from (setting e.maps e.start l) 0 held xs → r ≡ forecast e d t held xs
  unfolding forecast_by
  forecast-told h all q = q ∙ ap (λ (n : ℕ). forecast_from (setting e.maps e.start n) 0 held xs) all ∙ sym (by_call h)
