-- Demand 3 in its own sentences (document 01, "The plain store"): what follows from the claim of Demand.antt, one by one. Each holds of every
-- list of calls of which demand 3 is claimed.
use Rattle.std.specs.Prelude.{ℕ, ◌+◌, ◌*◌, ◌%◌, ◌<◌, ◌≡◌, Bool, true, false, cond, not, ◌&&◌, ◌||◌, List, [], ◌∷◌, ◌++◌, length, get_or, take, eqb}
use Rattle.refusal.specs.declared.Refusal.TheVariants.{UnusedEntry, BlankSector, UnreadableSector}
use Rattle.fields.specs.Bytes.{part}
use Rattle.model.specs.declared.Cut.{Cut}
use Rattle.model.specs.declared.Landing.{Landing}
use Rattle.model.specs.Disc.{Disc}
use Rattle.model.specs.Writes.{landing, no_cut}
use Rattle.model.specs.Sparing.{packet_of}
use Rattle.model.specs.Examine.{Setting, write_once}
use Rattle.model.specs.Both.{opening}
use Rattle.model.specs.Calls.{Call, save_virtual, free_virtual, commit, save_block, save_packet, spare_packet, open_disc, Answer, cut, step, answers, final, accepted, is_cut, is_opened, answer_of_opening, Proper, ends_cut}
use Rattle.model.specs.Store.{Store, Shape, store, start, shape_of, writes_in, was_cut, whole_at, Seen, bytes, turned, look}
use Rattle.model.specs.Demand.{Below, after_opening, followed, seen}

-- ---- lists of calls

-- the premises of demand 3: opening accepts the disc d with the lent table t, and in the list cs a cut is followed by an opening
pub record Follows (e : Setting) (d : Disc) (t : List ℕ) (cs : List Call) : Type 0 where
  pub low : Below 256 d.bytes
  pub opens : is_opened (answer_of_opening (opening e d t)) ≡ true
  pub proper : Proper false cs (answers e (after_opening e d t) cs)

-- the answer of a call that is made after the list
abbrev pub answer_after : Setting → Disc → List ℕ → List Call → Call → Answer
answer_after e d t cs c = (step e (final e (after_opening e d t) cs) c).answer

-- the plain store after the list
abbrev pub store_after : Setting → Disc → List ℕ → List Call → Store
store_after e d t cs = followed (shape_of e) (start e d) cs (answers e (after_opening e d t) cs)

-- what reading block v into `out` shows after the list
abbrev pub shown_after : Setting → Disc → List ℕ → List Call → ℕ → List ℕ → Seen
shown_after e d t cs v out = seen e (final e (after_opening e d t) cs) v out

-- the call c that ends a list is accepted and not cut
pub record CarriedOut (e : Setting) (d : Disc) (t : List ℕ) (cs : List Call) (c : Call) : Type 0 where
  pub follows : Follows e d t (cs ++ (c ∷ []))
  pub accepts : accepted (answer_after e d t cs c) ≡ true
  pub uncut : is_cut (answer_after e d t cs c) ≡ false

-- the call c is cut, and an opening ends the list
pub record CutShort (e : Setting) (d : Disc) (t : List ℕ) (cs : List Call) (c : Call) : Type 0 where
  pub follows : Follows e d t (cs ++ (c ∷ open_disc ∷ []))
  pub struck : is_cut (answer_after e d t cs c) ≡ true

-- ---- whether a call was cut

-- "It is fed each call's arguments and cut, and whether the call was accepted": the answer of each call says that it was cut exactly if it was
-- accepted and the plain store's own test, before that call, says so. So the store needs no answer to know it, and no call says so of itself
-- without having met its cut.
unfoldable pub CutExactly : Type 0
CutExactly =
    (e : Setting) (d : Disc) (t : List ℕ) (cs : List Call) → Follows e d t cs
    → (i : ℕ) → i < length cs
    → is_cut (get_or (answers e (after_opening e d t) cs) i cut)
    ≡ accepted (get_or (answers e (after_opening e d t) cs) i cut) && was_cut (shape_of e) (store_after e d t (take i cs)) (get_or cs i open_disc)

-- ---- refusals

-- "Refusals change nothing and are never cut"
unfoldable pub RefusalsChangeNothing : Type 0
RefusalsChangeNothing =
    (e : Setting) (d : Disc) (t : List ℕ) (cs : List Call) (c : Call) → Follows e d t (cs ++ (c ∷ [])) → accepted (answer_after e d t cs c) ≡ false
    → (is_cut (answer_after e d t cs c) ≡ false)
    × ((v : ℕ) (out : List ℕ) → length out ≡ 2048 → shown_after e d t (cs ++ (c ∷ [])) v out ≡ shown_after e d t cs v out)

-- ---- write-once discs

-- "Accepted and not cut, a save gives its block the lent bytes (v = N adds a block); free makes it unused": every other number reads as before
pub record OnceEffect : Type 0 where
  pub save :
      (e : Setting) (d : Disc) (t : List ℕ) (cs : List Call) (v : ℕ) (b : List ℕ) (c : Cut) → CarriedOut e d t cs (save_virtual v b c)
      → (u : ℕ) (out : List ℕ) → length out ≡ 2048
      → shown_after e d t (cs ++ (save_virtual v b c ∷ [])) u out ≡ cond (eqb u v) (bytes b) (shown_after e d t cs u out)
  pub free :
      (e : Setting) (d : Disc) (t : List ℕ) (cs : List Call) (v : ℕ) → CarriedOut e d t cs (free_virtual v)
      → (u : ℕ) (out : List ℕ) → length out ≡ 2048
      → shown_after e d t (cs ++ (free_virtual v ∷ [])) u out ≡ cond (eqb u v) (turned UnusedEntry) (shown_after e d t cs u out)

-- "opening a write-once disc returns to the copy"
unfoldable pub LastCommit : Type 0
LastCommit =
    (e : Setting) (d : Disc) (t : List ℕ) (cs : List Call) → write_once e ≡ true → Follows e d t (cs ++ (open_disc ∷ []))
    → (v : ℕ) (out : List ℕ) → length out ≡ 2048
    → shown_after e d t (cs ++ (open_disc ∷ [])) v out ≡ look (store (store_after e d t cs).copy (store_after e d t cs).copy) v

-- whether a call is a commit whose ICB is recorded whole: one that was not cut, or whose last write is whole all the same
unfoldable pub lays_icb : Shape → Store → Call → Bool
lays_icb h σ (save_virtual v b c) = false
lays_icb h σ (free_virtual v) = false
lays_icb h σ (commit c) = not (was_cut h σ (commit c)) || whole_at (writes_in h σ (commit c)) c
lays_icb h σ (save_block b x c) = false
lays_icb h σ (save_packet b x c) = false
lays_icb h σ (spare_packet b x c) = false
lays_icb h σ open_disc = false

-- "commit copies", "a cut commit has copied if its ICB is whole, else not; other cuts on write-once discs keep the copy": the copy is that of
-- the last commit whose ICB was recorded whole
unfoldable pub CopyByCommit : Type 0
CopyByCommit =
    (e : Setting) (d : Disc) (t : List ℕ) (cs : List Call) (c : Call)
    → (store_after e d t (cs ++ (c ∷ []))).copy
    ≡ cond (accepted (answer_after e d t cs c) && lays_icb (shape_of e) (store_after e d t cs) c) (store_after e d t cs).blocks (store_after e d t cs).copy

-- ---- blank blocks (02, slip 5)

-- whether a call saves or frees number v
unfoldable pub saves : ℕ → Call → Bool
saves v (save_virtual u b c) = eqb u v
saves v (free_virtual u) = eqb u v
saves v (commit c) = false
saves v (save_block b x c) = false
saves v (save_packet b x c) = false
saves v (spare_packet b x c) = false
saves v open_disc = false

-- no call of a list that was accepted and not cut does
unfoldable pub leaves : ℕ → List Call → List Answer → Bool
leaves v [] al = true
leaves v (c ∷ cs) [] = true
leaves v (c ∷ cs) (a ∷ al) = not (accepted a && (not (is_cut a) && saves v c)) && leaves v cs al

-- a number that reads 25 on a write-once disc, after whatever list, does so after every list until it is saved or freed: no commit, no opening and
-- no save that was cut, of this number or another, makes it read otherwise
unfoldable pub BlankStays : Type 0
BlankStays =
    (e : Setting) (d : Disc) (t : List ℕ) (cs later : List Call) → write_once e ≡ true → Follows e d t (cs ++ later)
    → ends_cut false (answers e (after_opening e d t) cs) ≡ false
    → ends_cut false (answers e (after_opening e d t) (cs ++ later)) ≡ false
    → (v : ℕ) (out : List ℕ) → length out ≡ 2048
    → shown_after e d t cs v out ≡ turned BlankSector
    → leaves v later (answers e (final e (after_opening e d t) cs) later) ≡ true
    → shown_after e d t (cs ++ later) v out ≡ turned BlankSector

-- ---- rewritable discs

-- "a save gives its block the lent bytes", "save packet and spare packet give 32 blocks the lent bytes": every other number reads as before
pub record FullEffect : Type 0 where
  pub block :
      (e : Setting) (d : Disc) (t : List ℕ) (cs : List Call) (b : ℕ) (x : List ℕ) (c : Cut) → CarriedOut e d t cs (save_block b x c)
      → (v : ℕ) (out : List ℕ) → length out ≡ 2048
      → shown_after e d t (cs ++ (save_block b x c ∷ [])) v out ≡ cond (eqb v b) (bytes x) (shown_after e d t cs v out)
  pub packet :
      (e : Setting) (d : Disc) (t : List ℕ) (cs : List Call) (b : ℕ) (x : List ℕ) (c : Cut) → CarriedOut e d t cs (save_packet b x c)
      → (v : ℕ) (out : List ℕ) → length out ≡ 2048
      → shown_after e d t (cs ++ (save_packet b x c ∷ [])) v out
      ≡ cond (eqb (packet_of v) b) (bytes (part x (2048 * (v % 32)) 2048)) (shown_after e d t cs v out)
  pub spare :
      (e : Setting) (d : Disc) (t : List ℕ) (cs : List Call) (b : ℕ) (x : List ℕ) (c : Cut) → CarriedOut e d t cs (spare_packet b x c)
      → (v : ℕ) (out : List ℕ) → length out ≡ 2048
      → shown_after e d t (cs ++ (spare_packet b x c ∷ [])) v out
      ≡ cond (eqb (packet_of v) b) (bytes (part x (2048 * (v % 32)) 2048)) (shown_after e d t cs v out)

-- "a cut sparing is done if a new table copy is whole, else not": after it every number reads as if the sparing had not been cut, where the
-- first of the copies, its write 33, is whole, and else as before it
unfoldable pub SpareAllOrNothing : Type 0
SpareAllOrNothing =
    (e : Setting) (d : Disc) (t : List ℕ) (cs : List Call) (b : ℕ) (x : List ℕ) (c : Cut) → CutShort e d t cs (spare_packet b x c)
    → (v : ℕ) (out : List ℕ) → length out ≡ 2048
    → shown_after e d t (cs ++ (spare_packet b x c ∷ open_disc ∷ [])) v out
    ≡ cond (whole_at 33 c) (shown_after e d t (cs ++ (spare_packet b x no_cut ∷ [])) v out) (shown_after e d t cs v out)

-- what is seen of a block, seen as o before and to be seen as n, once the write has landed: as new, as before, or 14
unfoldable pub seen_landed : Landing → Seen → Seen → Seen
seen_landed Landing.Done o n = n
seen_landed Landing.Old o n = o
seen_landed Landing.Unreadable o n = turned UnreadableSector
seen_landed Landing.Untouched o n = o

-- "a cut save, of a block or a packet, gives each sector of its packet by the cut's rule": every number outside the packet reads as before,
-- and each number of the packet by how its own write landed
pub record SaveOwnPacket : Type 0 where
  pub block :
      (e : Setting) (d : Disc) (t : List ℕ) (cs : List Call) (b : ℕ) (x : List ℕ) (c : Cut) → CutShort e d t cs (save_block b x c)
      → (v : ℕ) (out : List ℕ) → length out ≡ 2048
      → shown_after e d t (cs ++ (save_block b x c ∷ open_disc ∷ [])) v out
      ≡ cond (eqb (packet_of v) (packet_of b))
      (seen_landed (landing (1 + v % 32) c) (shown_after e d t cs v out) (cond (eqb v b) (bytes x) (shown_after e d t cs v out)))
      (shown_after e d t cs v out)
  pub packet :
      (e : Setting) (d : Disc) (t : List ℕ) (cs : List Call) (b : ℕ) (x : List ℕ) (c : Cut) → CutShort e d t cs (save_packet b x c)
      → (v : ℕ) (out : List ℕ) → length out ≡ 2048
      → shown_after e d t (cs ++ (save_packet b x c ∷ open_disc ∷ [])) v out
      ≡ cond (eqb (packet_of v) b)
      (seen_landed (landing (1 + v % 32) c) (shown_after e d t cs v out) (bytes (part x (2048 * (v % 32)) 2048)))
      (shown_after e d t cs v out)
