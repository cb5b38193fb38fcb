-- What the plain store shows of each number once a call has changed its blocks. Assumes nothing.
use Prim.Native.Nat.{ℕ, ◌+◌, ◌*◌, ◌%◌, ◌≤◌, ◌<◌}
use mathlib.Core.Bool.{cond}
use mathlib.Core.Logic.{◌≢◌}
use mathlib.Core.Path.{◌≡◌, refl, sym, ap, ◌∙◌}
use mathlib.Core.List.{List, [], ◌∷◌, ◌++◌}
use native.Mathlib.Omega.{arith}
use lib.Dec.{eqb}
use lib.ListN.{length, get_or, set, take, drop, length-append, length-set, length-take, length-drop, get_or-append}
use lib.Seq.{get_or-set_same, get_or-set_other, get_or-take, get_or-drop, get_or_at}
use borrow.Author.Tests.{lt-ltb, le-ltb, eq-eqb, ne_eqb}
use Rattle.refusal.specs.declared.Refusal.TheVariants.{NumberOutside}
use Rattle.fields.specs.Bytes.{part}
use Rattle.model.specs.declared.Cut.{Cut}
use Rattle.model.specs.declared.Landing.{Landing}
use Rattle.model.specs.Writes.{landing}
use Rattle.model.specs.Sparing.{packet_of}
use Rattle.model.specs.Store.{Slot, holds, unused, Store, store, put, puts, puts_cut, slots_in, slot_after, packet_with, Seen, bytes, turned, seen_as, look}
use Rattle.model.specs.Consequences.{seen_landed}
use Rattle.model.proofs.Basics.{by-lt, by-eq}
use Rattle.model.proofs.SparingLaws.{packet-rest}
use Rattle.model.proofs.ReadyCalls.{other-packet}
use Rattle.model.proofs.Slots.{length-blocks, block_in, length_cut, cut-other, cut_inside, length-puts, puts-other, puts-inside}

-- a choice by a number
pub choice : (u v : ℕ) {s a b : Seen} → (u ≡ v → s ≡ a) → (u ≢ v → s ≡ b) → s ≡ cond (eqb u v) a b
choice u v f g = by-eq u v (λ q. rw (eq-eqb u v q) (f q)) (λ q. rw (ne_eqb u v q) (g q))

-- a number that is a block's, and one that is none's
look_in : (σ : Store) (v : ℕ) → v < length σ.blocks → look σ v ≡ seen_as (get_or σ.blocks v unused)
unfolding look
look_in σ v h = rw (lt-ltb v (length σ.blocks) h)

look-out : (σ : Store) (v : ℕ) → length σ.blocks ≤ v → look σ v ≡ turned NumberOutside
unfolding look
look-out σ v h = rw (le-ltb v (length σ.blocks) h)

-- as many blocks, and the same one
look-same : (τ σ : Store) (v : ℕ) → length τ.blocks ≡ length σ.blocks → get_or τ.blocks v unused ≡ get_or σ.blocks v unused → look τ v ≡ look σ v
unfolding look
look-same τ σ v n q = rw (n, q)

-- one block changed
pub look-set : (σ : Store) (c : List Slot) (b : ℕ) (y : Slot) → b < length σ.blocks → (v : ℕ) → look (store (set σ.blocks b y) c) v ≡ cond (eqb v b) (seen_as y) (look σ v)
look-set σ c b y h v =
    let τ : Store = store (set σ.blocks b y) c in
    choice v b
    (λ q.
    rw q
    (look_in τ b (rw length-set h) ∙ ap seen_as (get_or-set_same σ.blocks b y unused h)))
    (λ q. look-same τ σ v (length-set σ.blocks b y) (get_or-set_other σ.blocks b v y unused q))

-- one block changed, or one more at the end
pub look-put : (σ : Store) (c : List Slot) (b : ℕ) (y : Slot) → b ≤ length σ.blocks → (v : ℕ) → look (store (put σ.blocks b y) c) v ≡ cond (eqb v b) (seen_as y) (look σ v)
unfolding put
look-put σ c b y h v =
    by-lt b (length σ.blocks)
    (λ q. rw (lt-ltb b (length σ.blocks) q) (look-set σ c b y q v))
    (λ q.
    let n : length σ.blocks ≡ b = omega arith in
    let τ : Store = store (σ.blocks ++ (y ∷ [])) c in
    let m : length (σ.blocks ++ (y ∷ [])) ≡ length σ.blocks + 1 = length-append σ.blocks (y ∷ []) in
    rw (le-ltb b (length σ.blocks) q)
    (choice v b
    (λ w. look_in τ v (omega arith) ∙ ap seen_as (get_or_at σ.blocks y [] unused v (omega arith)))
    (λ w.
    by-lt v (length σ.blocks)
    (λ u. look_in τ v (omega arith) ∙ ap seen_as (get_or-append σ.blocks (y ∷ []) unused v u) ∙ sym (look_in σ v u))
    (λ u. look-out τ v (omega arith) ∙ sym (look-out σ v u)))))

-- ---- the packet that begins at p

-- the lent bytes of a packet, block by block
pub lent-block : (x : List ℕ) (i : ℕ) → i < 32 → get_or (slots_in 32 x 0) i unused ≡ holds (part x (2048 * i) 2048)
lent-block x i h =
    let q : 0 + 2048 * i ≡ 2048 * i = omega arith in
    block_in 32 x 0 i h ∙ ap (λ (y : ℕ). holds (part x y 2048)) q

module _ (σ : Store) (p : ℕ) (multiple : p % 32 ≡ 0) (fits : p + 32 ≤ length σ.blocks) where
  -- a number of the packet is its start and its place in it
  in-packet : (v : ℕ) → packet_of v ≡ p → v ≡ p + v % 32
  in-packet v q = packet-rest v ∙ ap (λ (x : ℕ). x + v % 32) q

  -- given lent bytes
  pub look-puts : (c : List Slot) (x : List ℕ) (v : ℕ)
      → look (store (puts σ.blocks p (slots_in 32 x 0)) c) v ≡ cond (eqb (packet_of v) p) (bytes (part x (2048 * (v % 32)) 2048)) (look σ v)
  unfolding seen_as
  look-puts c x v =
      let xs : List Slot = slots_in 32 x 0 in
      let τ : Store = store (puts σ.blocks p xs) c in
      let n : length xs ≡ 32 = length-blocks 32 x 0 in
      let m : length (puts σ.blocks p xs) ≡ length σ.blocks = length-puts σ.blocks p xs in
      choice (packet_of v) p
      (λ q.
      let w = in-packet v q in
      let i : ℕ = v % 32 in
      look_in τ v (omega arith)
      ∙ ap (λ (y : ℕ). seen_as (get_or (puts σ.blocks p xs) y unused)) w
      ∙ ap seen_as (puts-inside σ.blocks p xs i (omega arith) (omega arith) ∙ lent-block x i (omega arith)))
      (λ q. look-same τ σ v m (puts-other σ.blocks p xs v (rw n (other-packet p v multiple q))))

  seen-after : (lg : Landing) (o y : Slot) → seen_as (slot_after lg o y) ≡ seen_landed lg (seen_as o) (seen_as y)
  unfolding slot_after seen_landed seen_as
  seen-after Landing.Done o y = refl
  seen-after Landing.Old o y = refl
  seen-after Landing.Unreadable o y = refl
  seen-after Landing.Untouched o y = refl

  -- written by the rule of a cut
  pub look-cut : (k : Cut) (c : List Slot) (xs : List Slot) → length xs ≡ 32 → (v : ℕ)
      → look (store (puts_cut 1 k σ.blocks p xs) c) v
      ≡ cond (eqb (packet_of v) p) (seen_landed (landing (1 + v % 32) k) (look σ v) (seen_as (get_or xs (v % 32) unused))) (look σ v)
  look-cut k c xs n v =
      let τ : Store = store (puts_cut 1 k σ.blocks p xs) c in
      let m : length (puts_cut 1 k σ.blocks p xs) ≡ length σ.blocks = length_cut 1 k σ.blocks p xs in
      choice (packet_of v) p
      (λ q.
      let w = in-packet v q in
      let i : ℕ = v % 32 in
      look_in τ v (omega arith)
      ∙ ap (λ (y : ℕ). seen_as (get_or (puts_cut 1 k σ.blocks p xs) y unused)) w
      ∙ ap seen_as (cut_inside 1 k σ.blocks p xs i (omega arith) (omega arith))
      ∙ seen-after (landing (1 + i) k) (get_or σ.blocks (p + i) unused) (get_or xs i unused)
      ∙ ap (λ (y : Seen). seen_landed (landing (1 + i) k) y (seen_as (get_or xs i unused)))
      (ap (λ (y : ℕ). seen_as (get_or σ.blocks y unused)) (sym w) ∙ sym (look_in σ v (omega arith))))
      (λ q. look-same τ σ v m (cut-other 1 k σ.blocks p xs v (rw n (other-packet p v multiple q))))

-- a packet's blocks with one replaced, as they are seen
pub look-with : (σ : Store) (b : ℕ) (x : List ℕ) → packet_of b + 32 ≤ length σ.blocks → (v : ℕ) → packet_of v ≡ packet_of b
    → seen_as (get_or (packet_with σ.blocks b x) (v % 32) unused) ≡ cond (eqb v b) (bytes x) (look σ v)
unfolding packet_with seen_as
look-with σ b x fits v q =
    let f : List Slot = take 32 (drop (packet_of b) σ.blocks) in
    let w : v ≡ packet_of b + v % 32 = packet-rest v ∙ ap (λ (y : ℕ). y + v % 32) q in
    let u : b ≡ packet_of b + b % 32 = packet-rest b in
    choice v b
    (λ z.
    let i : v % 32 ≡ b % 32 = omega arith in
    rw i (ap seen_as (get_or-set_same f (b % 32) (holds x) unused (rw (length-take, length-drop) (omega arith)))))
    (λ z.
    let i : v % 32 ≢ b % 32 = λ (y : v % 32 ≡ b % 32). z (omega arith) in
    ap seen_as
    (get_or-set_other f (b % 32) (v % 32) (holds x) unused i
    ∙ get_or-take 32 (drop (packet_of b) σ.blocks) (v % 32) unused (omega arith)
    ∙ get_or-drop (packet_of b) σ.blocks (v % 32) unused)
    ∙ ap (λ (y : ℕ). seen_as (get_or σ.blocks y unused)) (sym w)
    ∙ sym (look_in σ v (omega arith)))

pub length-with : (σ : Store) (b : ℕ) (x : List ℕ) → packet_of b + 32 ≤ length σ.blocks → length (packet_with σ.blocks b x) ≡ 32
unfolding packet_with
length-with σ b x fits = rw (length-set, length-take, length-drop) (omega arith)
