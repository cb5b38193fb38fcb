-- Laws of the nearest run: a definition without a count of steps. Assumes nothing.
use Prim.Native.Nat.{ℕ, zero, suc, ◌+◌, ◌-◌, ◌≤◌, ◌<◌}
use mathlib.Core.Path.{◌≡◌, refl, sym, ap, ◌∙◌}
use mathlib.Core.Bool.{Bool, true, false, cond, ◌&&◌, ◌||◌, false≢true}
use mathlib.Core.List.{List, [], ◌∷◌}
use native.Mathlib.Omega.{arith}
use native.Mathlib.Decide.{ℕ_discrete, dec_le}
use lib.Dec.{leb, eqb}
use borrow.Author.Tests.{le-leb, leb-true, le-ltb, lt-ltb, ltb-true, eqb-false}
use Rattle.refusal.specs.Number.{answer_number}
use Rattle.refusal.specs.Tests.{test, first, need, and_then}
use Rattle.refusal.specs.Verdict.{Verdict}
use Rattle.std.specs.Prelude.{Ok, Err, Result}
use Rattle.refusal.specs.declared.Refusal.{Refusal}
use Rattle.refusal.specs.declared.Refusal.TheVariants.{BitmapMalformed, NumberOutside, WrongRun, NoRun}
use Rattle.refusal.proofs.Laws.{eq, ne, passed, first-append}
use Rattle.fields.proofs.Laws.{by-dec}
use Rattle.bitmap.specs.Formed.{bitmap_fits}
use Rattle.fields.proofs.Tests.{both, by-test, not-true}
use Rattle.bitmap_find.specs.Nearest.{run_at, apart, Nearest, outward, nearest, find_tests, unless_found, found, some_run, find_lines, Finds}

module _ (b : List ℕ) (l w near : ℕ) where
  -- a run ends by L
  pub run_ends : (f : ℕ) → run_at b l w f ≡ true → f + w ≤ l
  unfolding run_at
  run_ends f e = leb-true (f + w) l (both _ _ e).0

  abbrev tail : ℕ → ℕ → Result ℕ Refusal
  tail d n = cond (run_at b l w (near + d)) (Ok (near + d)) (outward b l w near (d + 1) n)

  -- what is nearest is found
  finds : (f : ℕ) → Nearest b l w near f → (d n : ℕ) → d ≤ apart f near → apart f near < d + n → outward b l w near d n ≡ Ok f
  unfolding outward
  finds f h d zero p q = absurd (omega arith)
  finds f h d (suc n) p q =
      by-dec
      (λ e.
      by-dec
      (λ below.
      let g : near - d ≡ f = omega (arith, e, below) in
      ap (λ (x : Bool). cond (x && run_at b l w (near - d)) (Ok (near - d)) (tail d n)) (le-leb d near (omega (arith, e, below)))
      ∙ ap (λ (x : Bool). cond x (Ok (near - d)) (tail d n)) (ap (λ (x : ℕ). run_at b l w x) g ∙ h.run)
      ∙ ap Ok g)
      (λ above.
      let g : near + d ≡ f = omega (arith, e, above) in
      ap (λ (x : Bool). cond x (Ok (near - d)) (tail d n))
      (by-test (leb d near && run_at b l w (near - d))
      (λ y.
      let z = both _ _ y in
      let m = leb-true d near z.0 in
      let s : apart (near - d) near ≡ apart f near = omega (arith, m, e) in
      absurd (above (omega (arith, h.lower (near - d) z.1 s))))
      (λ y. y))
      ∙ ap (λ (x : Bool). cond x (Ok (near + d)) (outward b l w near (d + 1) n)) (ap (λ (x : ℕ). run_at b l w x) g ∙ h.run)
      ∙ ap Ok g)
      (dec_le f near))
      (λ e.
      ap (λ (x : Bool). cond x (Ok (near - d)) (tail d n))
      (by-test (leb d near && run_at b l w (near - d))
      (λ y.
      let z = both _ _ y in
      let m = leb-true d near z.0 in
      let c = h.closest (near - d) z.1 in
      absurd (e (omega (arith, m, c, p))))
      (λ y. y))
      ∙ ap (λ (x : Bool). cond x (Ok (near + d)) (outward b l w near (d + 1) n))
      (by-test (run_at b l w (near + d))
      (λ y. let c = h.closest (near + d) y in absurd (e (omega (arith, c, p))))
      (λ y. y))
      ∙ finds f h (d + 1) n (omega (arith, e, p)) (omega arith))
      (ℕ_discrete (apart f near) d)

  -- so a function that shows it of its answer gives what the definition gives
  pub told : (f : ℕ) → 0 < w → near < l → Nearest b l w near f → Ok f ≡ nearest b l w near
  unfolding nearest
  told f v u h = let m = run_ends f h.run in sym (finds f h 0 l (omega arith) (omega (arith, m)))

  -- and where there is no run, there is none
  none_out : ((g : ℕ) → run_at b l w g ≡ false) → (d n : ℕ) → outward b l w near d n ≡ Err NoRun
  unfolding outward
  none_out h d zero = refl
  none_out h d (suc n) =
      ap (λ (x : Bool). cond (leb d near && x) (Ok (near - d)) (tail d n)) (h (near - d))
      ∙ ap (λ (x : Bool). cond x (Ok (near - d)) (tail d n)) (and_no (leb d near))
      ∙ ap (λ (x : Bool). cond x (Ok (near + d)) (outward b l w near (d + 1) n)) (h (near + d))
      ∙ none_out h (d + 1) n
    where
      and_no : (x : Bool) → x && false ≡ false
      and_no true = refl
      and_no false = refl

  pub told_none : ((g : ℕ) → run_at b l w g ≡ false) → Err NoRun ≡ nearest b l w near
  unfolding nearest
  told_none h = sym (none_out h 0 l)

  -- ---- and back

  -- every run is at distance d or more
  abbrev Beyond : ℕ → Type 0
  Beyond d = (g : ℕ) → run_at b l w g ≡ true → d ≤ apart g near

  -- neither block at distance d begins a run
  next-beyond : (d : ℕ) → Beyond d → leb d near && run_at b l w (near - d) ≡ false → run_at b l w (near + d) ≡ false → Beyond (d + 1)
  next-beyond d h p q g r =
      let k = h g r in
      by-dec
      (λ e.
      absurd (by-dec
      (λ m.
      let s : near - d ≡ g = omega (arith, e, m) in
      false≢true (sym p ∙ ap (λ (x : Bool). x && run_at b l w (near - d)) (le-leb d near (omega (arith, e, m))) ∙ ap (λ (x : ℕ). run_at b l w x) s ∙ r))
      (λ m.
      let s : near + d ≡ g = omega (arith, e, m) in
      false≢true (sym q ∙ ap (λ (x : ℕ). run_at b l w x) s ∙ r))
      (dec_le g near)))
      (λ e. omega (arith, e, k))
      (ℕ_discrete (apart g near) d)

  outward-nearest : (f d n : ℕ) → outward b l w near d n ≡ Ok f → Beyond d → Nearest b l w near f
  unfolding outward
  outward-nearest f d zero e h = absurd (let z : ◌≡◌ {A = ℕ} 0 1 = cc in omega arith)
  outward-nearest f d (suc n) e h =
      by-test (leb d near && run_at b l w (near - d))
      (λ p.
      let t : Ok (near - d) ≡ Ok f = sym (ap (λ (x : Bool). cond x (Ok (near - d)) (tail d n)) p) ∙ e in
      let s : near - d ≡ f = cc in
      let y = both (leb d near) (run_at b l w (near - d)) p in
      let m = leb-true d near y.0 in
      record {
        run = ap (λ (x : ℕ). run_at b l w x) (sym s) ∙ y.1;
        closest = λ g r. let k = h g r in omega (arith, s, m, k);
        lower = λ g r a. omega (arith, s, m, a);
      })
      (λ p.
      by-test (run_at b l w (near + d))
      (λ q.
      let t : Ok (near + d) ≡ Ok f = sym (ap (λ (x : Bool). cond x (Ok (near - d)) (tail d n)) p ∙ ap (λ (x : Bool). cond x (Ok (near + d)) (outward b l w near (d + 1) n)) q) ∙ e in
      let s : near + d ≡ f = cc in
      record {
        run = ap (λ (x : ℕ). run_at b l w x) (sym s) ∙ q;
        closest = λ g r. let k = h g r in omega (arith, s, k);
        lower = λ g r a.
            by-dec (λ m. m) (λ m.
            let u : near - d ≡ g = omega (arith, s, a, m) in
            absurd (false≢true (sym p ∙ ap (λ (x : Bool). x && run_at b l w (near - d)) (le-leb d near (omega (arith, s, a, m))) ∙ ap (λ (x : ℕ). run_at b l w x) u ∙ r))) (dec_le f g);
      })
      (λ q.
      outward-nearest f (d + 1) n
      (sym (ap (λ (x : Bool). cond x (Ok (near - d)) (tail d n)) p ∙ ap (λ (x : Bool). cond x (Ok (near + d)) (outward b l w near (d + 1) n)) q) ∙ e)
      (next-beyond d h p q)))

  -- an answer is nearest
  pub nearest-told : (f : ℕ) → nearest b l w near ≡ Ok f → Nearest b l w near f
  unfolding nearest
  nearest-told f e = outward-nearest f 0 l e (λ g r. omega arith)

  outward-none : (d n : ℕ) → outward b l w near d n ≡ Err NoRun → Beyond d → Beyond (d + n)
  unfolding outward
  outward-none d zero e h = λ g r. let k = h g r in omega (arith, k)
  outward-none d (suc n) e h =
      by-test (leb d near && run_at b l w (near - d))
      (λ p. let t : Ok (near - d) ≡ Err NoRun = sym (ap (λ (x : Bool). cond x (Ok (near - d)) (tail d n)) p) ∙ e in absurd (let z : ◌≡◌ {A = ℕ} 0 1 = cc in omega arith))
      (λ p.
      by-test (run_at b l w (near + d))
      (λ q.
      let t : Ok (near + d) ≡ Err NoRun = sym (ap (λ (x : Bool). cond x (Ok (near - d)) (tail d n)) p ∙ ap (λ (x : Bool). cond x (Ok (near + d)) (outward b l w near (d + 1) n)) q) ∙ e in
      absurd (let z : ◌≡◌ {A = ℕ} 0 1 = cc in omega arith))
      (λ q g r.
      let k = outward-none (d + 1) n
      (sym (ap (λ (x : Bool). cond x (Ok (near - d)) (tail d n)) p ∙ ap (λ (x : Bool). cond x (Ok (near + d)) (outward b l w near (d + 1) n)) q) ∙ e)
      (next-beyond d h p q) g r in
      omega (arith, k)))

  -- and where there is none, no run exists
  pub none_told : 0 < w → near < l → nearest b l w near ≡ Err NoRun → (g : ℕ) → run_at b l w g ≡ false
  unfolding nearest
  none_told v u e g =
      by-test (run_at b l w g)
      (λ r. let k = outward-none 0 l e (λ x y. omega arith) g r in let m = run_ends g r in absurd (omega (arith, k, m, v, u)))
      (λ r. r)

  outward-why : (why : Refusal) (d n : ℕ) → outward b l w near d n ≡ Err why → why ≡ NoRun
  unfolding outward
  outward-why why d zero e = let s : NoRun ≡ why = cc in sym s
  outward-why why d (suc n) e =
      by-test (leb d near && run_at b l w (near - d))
      (λ p. let t : Ok (near - d) ≡ Err why = sym (ap (λ (x : Bool). cond x (Ok (near - d)) (tail d n)) p) ∙ e in absurd (let z : ◌≡◌ {A = ℕ} 0 1 = cc in omega arith))
      (λ p.
      by-test (run_at b l w (near + d))
      (λ q.
      let t : Ok (near + d) ≡ Err why = sym (ap (λ (x : Bool). cond x (Ok (near - d)) (tail d n)) p ∙ ap (λ (x : Bool). cond x (Ok (near + d)) (outward b l w near (d + 1) n)) q) ∙ e in
      absurd (let z : ◌≡◌ {A = ℕ} 0 1 = cc in omega arith))
      (λ q. outward-why why (d + 1) n (sym (ap (λ (x : Bool). cond x (Ok (near - d)) (tail d n)) p ∙ ap (λ (x : Bool). cond x (Ok (near + d)) (outward b l w near (d + 1) n)) q) ∙ e)))

  -- a search is turned down by 33 alone
  pub nearest-why : (why : Refusal) → nearest b l w near ≡ Err why → why ≡ NoRun
  unfolding nearest
  nearest-why why e = outward-why why 0 l e

  -- ---- line 33

  some-told : (f n g : ℕ) → f ≤ g → g < f + n → run_at b l w g ≡ true → some_run b l w f n ≡ true
  unfolding some_run
  some-told f zero g p q r = absurd (omega arith)
  some-told f (suc n) g p q r =
      by-dec
      (λ e. ap (λ (x : Bool). x || some_run b l w (f + 1) n) (ap (λ (x : ℕ). run_at b l w x) e ∙ r))
      (λ e. ap (λ (x : Bool). run_at b l w f || x) (some-told (f + 1) n g (omega (arith, e)) (omega arith) r) ∙ or-true (run_at b l w f))
      (ℕ_discrete f g)
    where
      or-true : (x : Bool) → x || true ≡ true
      or-true true = refl
      or-true false = refl

  none-some : ((g : ℕ) → run_at b l w g ≡ false) → (f n : ℕ) → some_run b l w f n ≡ false
  unfolding some_run
  none-some h f zero = refl
  none-some h f (suc n) = ap (λ (x : Bool). x || some_run b l w (f + 1) n) (h f) ∙ none-some h (f + 1) n

  -- what the tests of a search that they let pass say
  pub let-pass : first (find_tests b l w near) ≡ Ok tt → (bitmap_fits b l ≡ true) × (near < l) × (w ≡ 0 → ⊥)
  let-pass e =
      let t = passed (find_tests b l w near) e in
      (t.0, ltb-true near l t.1.0, eqb-false w 0 (not-true (eqb w 0) t.1.1.0))

  -- the number of a search that they let pass is that of line 33
  last_line : first (find_tests b l w near) ≡ Ok tt → (r : Result ℕ Refusal) → nearest b l w near ≡ r → answer_number r ≡ answer_number (first (test (some_run b l w 0 l) NoRun ∷ []))
  unfolding need
  last_line p (Ok f) e =
      let n = nearest-told f e in
      let m = run_ends f n.run in
      let z = (let-pass p).2 in
      let s = some-told 0 l f (omega arith) (omega (arith, m, z)) n.run in
      rw s refl
  last_line p (Err why) e =
      let y = nearest-why why e in
      let t = let-pass p in
      let s = none-some (none_told (let z = t.2 in omega (arith, z)) t.1 (e ∙ ap Err y)) 0 l in
      rw (s, y) refl

  -- the number of the answer is that of the first line that applies
  finds-so : (r : Result ℕ Refusal) → r ≡ found b l w near → Finds b l w near r
  unfolding found
  finds-so r e =
      record { answer = e; number = ap answer_number e ∙ told-by (first (find_tests b l w near)) refl }
    where
      after : (v : Verdict) → first (find_tests b l w near) ≡ v → first (find_lines b l w near) ≡ and_then v (first (test (some_run b l w 0 l) NoRun ∷ []))
      after v p = first-append (find_tests b l w near) (test (some_run b l w 0 l) NoRun ∷ []) ∙ ap (λ (x : Verdict). and_then x (first (test (some_run b l w 0 l) NoRun ∷ []))) p

      told-by : (v : Verdict) → first (find_tests b l w near) ≡ v → answer_number (unless_found v (nearest b l w near)) ≡ answer_number (first (find_lines b l w near))
      told-by (Ok _) p = last_line p (nearest b l w near) refl ∙ ap answer_number (sym (after (Ok tt) p))
      told-by (Err why) p = ap answer_number (sym (after (Err why) p))

  -- ---- the call

  -- line 31
  pub not-formed : (why : Refusal) → why ≡ BitmapMalformed → bitmap_fits b l ≡ false → Finds b l w near (Err why)
  unfolding found need
  not-formed why e h = finds-so (Err why) (rw h (ap Err e))

  -- line 12
  pub not-inside : bitmap_fits b l ≡ true → l ≤ near → Finds b l w near (Err NumberOutside)
  unfolding found need
  not-inside h o = let e = le-ltb near l o in finds-so (Err NumberOutside) (rw (h, e) refl)

  -- line 32
  pub not_some : bitmap_fits b l ≡ true → near < l → w ≡ 0 → Finds b l w near (Err WrongRun)
  unfolding found need
  not_some h i z = let e = lt-ltb near l i in let n = eq w 0 z in finds-so (Err WrongRun) (rw (h, e, n) refl)

  -- none of them
  pub sought : (r : Result ℕ Refusal) → bitmap_fits b l ≡ true → near < l → (w ≡ 0 → ⊥) → r ≡ nearest b l w near → Finds b l w near r
  unfolding found need
  sought r h i z q = let e = lt-ltb near l i in let n = ne w 0 z in finds-so r (rw (h, e, n) q)
