-- The propositions of specs/Promises.antt, proved. Assumes nothing.
use Prim.Native.Nat.{ℕ, zero, suc, ◌+◌, ◌-◌, ◌*◌, ◌/◌, ◌≤◌, ◌<◌}
use mathlib.Core.Path.{◌≡◌, refl, sym, ap, ap₂, ◌∙◌, subst}
use mathlib.Core.Logic.{◌⊎◌, inl, inr}
use mathlib.Core.Bool.{true, not, false≢true}
use mathlib.Core.List.{List}
use native.Mathlib.Omega.{arith}
use native.Mathlib.Decide.{ℕ_discrete}
use lib.Dec.{lit<, eqb, leb}
use lib.ListN.{length, get_or}
use Rattle.refusal.specs.Tests.{first, need}
use Rattle.refusal.specs.Verdict.{Verdict}
use Rattle.std.specs.Prelude.{Ok, Err}
use Rattle.refusal.proofs.Laws.{passed}
use Rattle.fields.specs.Number.{field}
use Rattle.fields.proofs.Laws.{by-dec, field_next, field-none}
use Rattle.bitmap.specs.Bits.{bit_at, free_from, all_in}
use Rattle.bitmap.specs.Formed.{bitmap_fits}
use Rattle.bitmap.specs.Counted.{counted}
use Rattle.fields.proofs.Tests.{both, together, alike, by-test}
use Rattle.bitmap.proofs.Laws.{Formed, formed, fits-so, room, all_told}
use Rattle.bitmap_find.specs.Nearest.{run_at, find_tests, found, unless_found, nearest}
use Rattle.bitmap_find.proofs.Laws.{run_ends, nearest-told, none_told, nearest-why, told_none, let-pass}
use Rattle.bitmap_find.proofs.Runs.{run-told, run-free}
use Rattle.bitmap_written.specs.Changed.{changed}
use Rattle.tag.specs.Sound.{renewed}
use Rattle.tag.proofs.Renewed.{renewed-long, renewed-other, renewed-sound}
use Rattle.bitmap_written.specs.Written.{run_fits, after_taking, give_verdict}
use Rattle.bitmap_written.specs.Promises.{Untested, NoneCounted, Complete, FoundRun, Moved, AfterTaking, AfterGiving, Restored}
use Rattle.bitmap_written.proofs.After.{changed-long, changed-inside, changed-outside, changed-elsewhere, changed-count, free-same, free_all}
use Rattle.bitmap_written.proofs.Laws.{renewed-bits, given-back-taken}
use Rattle.bitmap_written.proofs.Calls.{went_on, run-state, goes_on, run-turned}

-- ---- line 31

-- a field is its bytes
field-bytes : (x y : List ℕ) (at w : ℕ) → ((k : ℕ) → at ≤ k → k < at + w → get_or x k 0 ≡ get_or y k 0) → field x at w ≡ field y at w
field-bytes x y at zero h = field-none x at ∙ sym (field-none y at)
field-bytes x y at (suc w) h =
    field_next x at (at + 1) w refl
    ∙ ap₂ (λ (m n : ℕ). m + 256 * n) (h at (omega arith) (omega arith)) (field-bytes x y (at + 1) w (λ k l u. h k (omega arith) (omega arith)))
    ∙ sym (field_next y at (at + 1) w refl)

-- bytes that agree where line 31 looks, their tags renewed
module _ (b c : List ℕ) (l : ℕ) (long : 16 ≤ length b) (e : length b ≡ length c) (h : (k : ℕ) → (k < 2) ⊎ ((k ≡ 10) ⊎ ((k ≡ 11) ⊎ (16 ≤ k))) → get_or b k 0 ≡ get_or c k 0) where
  same_length : length (renewed c) ≡ length (renewed b)
  same_length = renewed-long c (omega arith) ∙ sym e ∙ sym (renewed-long b long)

  same_byte : (k : ℕ) → (k ≡ 4 → ⊥) → (k < 8) ⊎ (10 ≤ k) → (k < 2) ⊎ ((k ≡ 10) ⊎ ((k ≡ 11) ⊎ (16 ≤ k))) → get_or (renewed c) k 0 ≡ get_or (renewed b) k 0
  same_byte k z o n = renewed-other c (omega arith) k z o ∙ sym (h k n) ∙ sym (renewed-other b long k z o)

  untested-so : bitmap_fits (renewed b) l ≡ true → bitmap_fits (renewed c) l ≡ true
  untested-so q =
      let g = formed (renewed b) l q in
      let n = same_length in
      let f0 = field-bytes (renewed c) (renewed b) 0 2 (λ k p u. same_byte k (λ z. omega arith) (inl (omega arith)) (inl u)) in
      let f10 = field-bytes (renewed c) (renewed b) 10 2
      (λ k p u. same_byte k (λ z. omega arith) (inr p) (inr (by-dec (λ z. inl z) (λ z. inr (inl (omega (arith, z)))) (ℕ_discrete k 10)))) in
      let behind : (at w : ℕ) → 16 ≤ at → field (renewed c) at w ≡ field (renewed b) at w =
      λ at w m. field-bytes (renewed c) (renewed b) at w (λ k p u. same_byte k (λ z. omega arith) (inr (omega arith)) (inr (inr (inr (omega arith))))) in
      let f16 = behind 16 4 (omega arith) in
      let f20 = behind 20 4 (omega arith) in
      fits-so (renewed c) l
      (record {
        long = omega (arith, n, g.long);
        bits = f16 ∙ g.bits;
        few = omega (arith, f20, g.few);
        inside = omega (arith, f20, n, g.inside);
        identifier = f0 ∙ g.identifier;
        least = omega (arith, f10, g.least);
        covered = omega (arith, f10, n, g.covered);
        right = renewed-sound c (omega arith);
      })

pub untested : Untested
untested b c l long e h =
    alike (bitmap_fits (renewed b) l) (bitmap_fits (renewed c) l) (untested-so b c l long e h)
    (untested-so c b l (omega arith) (sym e) (λ k n. sym (h k n)))

-- ---- searching

module _ (b : List ℕ) (l w near : ℕ) where
  searched : first (find_tests b l w near) ≡ Ok tt → found b l w near ≡ nearest b l w near
  unfolding found
  searched e = ap (λ (v : Verdict). unless_found v (nearest b l w near)) e

  -- an answer comes from a search
  answered : (f : ℕ) → found b l w near ≡ Ok f → first (find_tests b l w near) ≡ Ok tt
  unfolding found
  answered f e = go (first (find_tests b l w near)) e
    where
      go : (v : Verdict) → unless_found v (nearest b l w near) ≡ Ok f → v ≡ Ok tt
      go (Ok _) q = refl
      go (Err why) q = absurd (let z : ◌≡◌ {A = ℕ} 0 1 = cc in omega arith)

pub complete : Complete
complete b l w near why e q =
    let t = let-pass b l w near e in
    let n = sym (searched b l w near e) ∙ q in
    let y = nearest-why b l w near why n in
    (y, none_told b l w near (let z = t.2 in omega (arith, z)) t.1 (n ∙ ap Err y))

pub found-taken : FoundRun
unfolding run_at run_fits
found-taken b l w near f q =
    let e = answered b l w near f q in
    let t = passed (find_tests b l w near) e in
    let p = let-pass b l w near e in
    let n = nearest-told b l w near f (sym (searched b l w near e) ∙ q) in
    let m = run_ends b l w near f n.run in
    let z = p.2 in
    (n, sym (goes_on b l f w 1 p.0 (omega (arith, m, z)) (together t.1.1.0 n.run)))

-- ---- counting

-- of a bitmap that line 31 lets pass the free blocks are counted
counted-go : (b : List ℕ) (l : ℕ) → bitmap_fits b l ≡ true → counted b l ≡ Ok (free_from b 0 l)
unfolding counted need
counted-go b l e = rw e refl

-- where none is counted, none is free
none_free : (b : List ℕ) (s n : ℕ) → free_from b s n ≡ 0 → (i : ℕ) → s ≤ i → i < s + n → bit_at b i ≡ 0
unfolding free_from
none_free b s zero e i p q = absurd (omega arith)
none_free b s (suc n) e i p q =
    by-dec
    (λ z. ap (bit_at b) z ∙ omega (arith, e))
    (λ z. none_free b (s + 1) n (omega (arith, e)) i (omega (arith, z)) (omega arith))
    (ℕ_discrete i s)

pub none-counted : NoneCounted
none-counted b l near e =
    let t = let-pass b l 1 near e in
    let all = counted-go b l t.0 in
    let sought = searched b l 1 near e in (
      λ q.
          let same : Ok (free_from b 0 l) ≡ Ok 0 = sym all ∙ q in
          let zero-free : free_from b 0 l ≡ 0 = cc in
          sought
          ∙ sym (told_none b l 1 near
          (λ g.
          by-test (run_at b l 1 g)
          (λ r.
          let m = run_ends b l 1 near g r in
          let one = run-free b l 1 g r g (omega arith) (omega arith) in
          let none = none_free b 0 l zero-free g (omega arith) (omega (arith, m)) in
          absurd (omega (arith, one, none)))
          (λ r. r))),
      λ q.
          let none = none_told b l 1 near (omega arith) t.1 (sym sought ∙ q) in
          let zeros : free_from b 0 l ≡ 0 * l =
          free_all b 0 l 0 (lit< tt)
          (λ i p u.
          by-dec
          (λ z. z)
          (λ z. absurd (false≢true (sym (none i) ∙ run-told b l 1 i (omega (arith, u)) (λ j x y w. z (ap (bit_at b) (omega (arith, x, y)) ∙ w)))))
          (ℕ_discrete (bit_at b i) 0)) in
          all ∙ ap Ok (omega (arith, zeros)),
    )

-- ---- taking and giving back

module _ (b : List ℕ) (l f n v u : ℕ) (g : Formed b l) (ends : f + n ≤ l) (w : v < 2) (sum : u + v ≡ 1) (state : (i : ℕ) → f ≤ i → i < f + n → bit_at b i ≡ u) where
  abbrev c : List ℕ
  c = changed b f n v

  abbrev a : List ℕ
  a = renewed c

  space : 192 + (f + n) ≤ 8 * length b
  space = let r = room g in omega (arith, r)

  c-long : length c ≡ length b
  c-long = changed-long b f n v space w

  c-tag : 16 ≤ length c
  c-tag = let e = c-long in let h = g.long in omega (arith, e, h)

  a-long : length a ≡ length b
  a-long = renewed-long c c-tag ∙ c-long

  a-kept : (k : ℕ) → (k ≡ 4 → ⊥) → (k < 8) ⊎ (10 ≤ k) → ((i : ℕ) → f ≤ i → i < f + n → k ≡ 24 + i / 8 → ⊥) → get_or a k 0 ≡ get_or b k 0
  a-kept k z o h = renewed-other c c-tag k z o ∙ changed-elsewhere b f n v space w k h

  -- the fields of the bitmap stand outside its bits
  a-field : (at m : ℕ) → ((at + m ≤ 4) ⊎ (10 ≤ at)) → at + m ≤ 24 → field a at m ≡ field b at m
  a-field at m (inl s) h = field-bytes a b at m (λ k p q. a-kept k (λ z. omega arith) (inl (omega arith)) (λ i x y z. omega arith))
  a-field at m (inr s) h = field-bytes a b at m (λ k p q. a-kept k (λ z. omega arith) (inr (omega arith)) (λ i x y z. omega arith))

  a-formed : Formed a l
  a-formed =
      let e = a-long in
      let f10 = a-field 10 2 (inr (omega arith)) (omega arith) in
      let f16 = a-field 16 4 (inr (omega arith)) (omega arith) in
      let f20 = a-field 20 4 (inr (omega arith)) (omega arith) in
      let f0 = a-field 0 2 (inl (omega arith)) (omega arith) in
      record {
        long = omega (arith, e, g.long);
        bits = f16 ∙ g.bits;
        few = omega (arith, f20, g.few);
        inside = omega (arith, f20, e, g.inside);
        identifier = f0 ∙ g.identifier;
        least = omega (arith, f10, g.least);
        covered = omega (arith, f10, e, g.covered);
        right = renewed-sound c c-tag;
      }

  moved-run : Moved b a l f n v
  moved-run =
      let count = changed-count b f n l v u space ends w (omega (arith, sum)) state in
      let same : free_from a 0 l ≡ free_from c 0 l = free-same a c 0 l (λ i p q. renewed-bits c c-tag i) in
      let other : 1 - v ≡ u = omega (arith, sum) in
      record {
        fits = fits-so a l a-formed;
        inside = λ i p q. renewed-bits c c-tag i ∙ changed-inside b f n v space w i p q;
        outside = λ i o. renewed-bits c c-tag i ∙ changed-outside b f n v space w i o;
        free = ap₂ (λ (x y : ℕ). x + y * n) same other ∙ count;
        long = a-long;
        kept = a-kept;
      }

pub after-taking : AfterTaking
after-taking b l f n e =
    let t = went_on b l f n 1 e in
    let s = run-state b l f n 1 t.2 in
    subst (λ (x : List ℕ). Moved b x l f n 0) (sym (run-turned b l f n 1 e)) (moved-run b l f n 0 1 (formed b l t.0) s.0 (lit< tt) refl s.1)

pub after-giving : AfterGiving
after-giving b l f n e =
    let t = went_on b l f n 0 e in
    let s = run-state b l f n 0 t.2 in
    subst (λ (x : List ℕ). Moved b x l f n 1) (sym (run-turned b l f n 0 e)) (moved-run b l f n 1 0 (formed b l t.0) s.0 (lit< tt) refl s.1)

pub restored : Restored
unfolding run_fits
restored b l f n bytes e =
    let t = went_on b l f n 1 e in
    let s = run-state b l f n 1 t.2 in
    let g = formed b l t.0 in
    let r = room g in
    let m = after-taking b l f n e in
    let x = after_taking b l f n in
    let some = (both (not (eqb n 0)) _ t.2).0 in
    let leaves = (both (leb (f + n) l) (all_in b 1 f n) (both (not (eqb n 0)) _ t.2).1).0 in
    let again : give_verdict x l f n ≡ (Ok tt) = sym (goes_on x l f n 0 m.fits t.1 (together some (together leaves (all_told x 0 f n m.inside)))) in (
      again,
      run-turned x l f n 0 again
          ∙ ap (λ (y : List ℕ). renewed (changed y f n 1)) (run-turned b l f n 1 e)
          ∙ given-back-taken b f n g.long (omega (arith, r, s.0)) bytes g.right s.1,
    )
