-- Laws of what a save and a commit take: line 12, N after a save, line 16, and the records. Assumes nothing.
use Prim.Native.Nat.{ℕ, ◌+◌, ◌≤◌, ◌<◌}
use mathlib.Core.Bool.{true, false}
use mathlib.Core.Path.{◌≡◌, sym, ap, ◌∙◌}
use native.Mathlib.Omega.{arith}
use borrow.Author.Tests.{ltb-true, eq-eqb, ne_eqb, le-leb, lt-leb}
use lib.Dec.{leb, ltb}
use Rattle.model.specs.declared.Record.{Record}
use Rattle.model.specs.VatWritten.{data_sectors}
use Rattle.model.specs.Once.{entries_held, next_held, last_held, number_fits, count_after, room_to_save, saved_record, room_to_commit, icb_block, committed_record}
use Rattle.model.proofs.Basics.{and-true, and-false-left}
use Rattle.model.proofs.WrittenVatFile.{data-sectors-most}

-- ---- line 12 of a save

-- v is past N
pub number-beyond : (held : Record) (v : ℕ) {n : ℕ} → n ≡ entries_held held → n < v → false ≡ number_fits held v
unfolding number_fits
number-beyond held v is h = sym (and-false-left _ (lt-leb v (entries_held held) (omega arith)))

-- v is not, and the limit decides
pub number-known : (held : Record) (v : ℕ) {n : ℕ} → n ≡ entries_held held → v ≤ n → ltb v 4096 ≡ number_fits held v
unfolding number_fits
number-known held v is h = let q = le-leb v (entries_held held) (omega arith) in rw q

-- then v is below 4,096
pub number-low : (held : Record) (v : ℕ) → number_fits held v ≡ true → v < 4096
unfolding number_fits
number-low held v h = ltb-true v 4096 (and-true (leb v (entries_held held)) (ltb v 4096) h).1

-- ---- N after a save

-- v = N adds one
pub count-adds : (n v : ℕ) → v ≡ n → n + 1 ≡ count_after n v
unfolding count_after
count-adds n v h = let q = eq-eqb v n h in rw q

-- any other keeps it
pub count-keeps : (n v : ℕ) → (v ≡ n → ⊥) → n ≡ count_after n v
unfolding count_after
count-keeps n v h = let q = ne_eqb v n h in rw q

-- ---- line 16 from the numbers of a record

-- of a save
pub room_after : (l : ℕ) (held : Record) (v : ℕ) {n k a s : ℕ} → n ≡ entries_held held → k ≡ next_held held → a ≡ count_after n v → s ≡ data_sectors a → leb (k + 1 + s + 1) l ≡ room_to_save l held v
unfolding room_to_save
room_after l held v p q f g =
    let a = ap (λ (m : ℕ). count_after m v) p in
    let s = g ∙ ap data_sectors (f ∙ a) in
    rw (s, q)

-- the data sectors of a commit are at most nine
pub data-few : (held : Record) (n count : ℕ) → n ≡ entries_held held → count ≡ data_sectors n → entries_held held ≤ 4096 → count ≤ 9
data-few held n count a q h = omega (arith, a, q, data-sectors-most n (omega (arith, a, h)))

-- of a commit
pub room-same : (l : ℕ) (held : Record) (next n count : ℕ) → next ≡ next_held held → n ≡ entries_held held → count ≡ data_sectors n → leb (next + count + 1) l ≡ room_to_commit l held
unfolding room_to_commit
room-same l held next n count a b q =
    ap (λ (x : ℕ). leb (x + count + 1) l) a ∙ ap (λ (x : ℕ). leb (next_held held + x + 1) l) (q ∙ ap data_sectors b)

-- the block of its ICB
pub icb-same : (held : Record) (next n count : ℕ) → next ≡ next_held held → n ≡ entries_held held → count ≡ data_sectors n → next + count ≡ icb_block held
unfolding icb_block
icb-same held next n count a b q =
    ap (λ (x : ℕ). x + count) a ∙ ap (λ (x : ℕ). next_held held + x) (q ∙ ap data_sectors b)

-- which is not far above NWA
pub icb-near : (held : Record) → entries_held held ≤ 4096 → icb_block held ≤ next_held held + 9
unfolding icb_block
icb-near held h = omega (arith, data-sectors-most (entries_held held) h)

-- ---- the records

-- of a save
pub saved-same : (held : Record) (v : ℕ) {n a k m : ℕ} → n ≡ entries_held held → a ≡ count_after n v → k ≡ next_held held → m ≡ last_held held → Record.WriteOnce a (k + 1) m ≡ saved_record held v
saved-same held v p q f g =
    let a = q ∙ ap (λ (i : ℕ). count_after i v) p in
    rw (a, f, g)

-- of a commit
pub committed-same : (held : Record) {n k : ℕ} → n ≡ entries_held held → k ≡ icb_block held → Record.WriteOnce n (k + 1) k ≡ committed_record held
committed-same held {n} {k} p q =
    ap (λ (x : ℕ). Record.WriteOnce x (k + 1) k) p ∙ ap (λ (x : ℕ). Record.WriteOnce (entries_held held) (x + 1) x) q
