-- What the calls do for a rewritable disc (document 01, "The buyer's note"): a call that always refuses would meet demand 3 (Demand.antt) too. A
-- disc that was made is opened, empty; then a block can be saved and a packet spared, once and again, and after another opening they read back. So it
-- is too where spares lie inside the partition (02, slip 8): their blocks give 30, and every other block can be used.
use Rattle.std.specs.Prelude.{ℕ, ◌+◌, ◌*◌, ◌%◌, ◌≤◌, ◌<◌, ◌≡◌, Bool, true, false, ◌≢◌, List, [], ◌∷◌, length, get_or, replicate, Ok}
use Rattle.refusal.specs.declared.Refusal.TheVariants.{NumberOutside, BelongsToSpare}
use Rattle.fields.specs.Bytes.{part}
use Rattle.maps.specs.declared.Kind.TheVariants.{Rewritable}
use Rattle.maps.specs.Kinds.{tables_of}
use Rattle.maps.specs.Written.{maps_of}
use Rattle.model.specs.declared.Record.{Record}
use Rattle.model.specs.Disc.{Disc, shapely}
use Rattle.model.specs.Writes.{no_cut}
use Rattle.model.specs.Sparing.{flat, defective, packet_of, of_spare}
use Rattle.model.specs.Examine.{Setting, setting, volume, write_once}
use Rattle.model.specs.Once.{filled_from}
use Rattle.model.specs.Rewrite.{table_on}
use Rattle.model.specs.Both.{open_verdict, record_on, opening, opened_table, spare_entries, make_verdict, made}
use Rattle.model.specs.Calls.{Call, save_block, spare_packet, open_disc, Answer, done, opened, State, answers, final}
use Rattle.model.specs.Store.{holds, unused, reserved, blocks_on, bytes, turned}
use Rattle.model.specs.Demand.{after_opening, seen}

-- 2,048 zeros: a block as making leaves it ("Calls and their sector writes")
unfoldable pub zero_block : List ℕ
zero_block = replicate 2048 0

-- block v of a disc that is made with these spares belongs to one of them (02, slip 8)
unfoldable pub in_spare : Setting → List ℕ → ℕ → Bool
in_spare e spares v = of_spare e.start (spare_entries spares) v

-- ---- a made disc opens

-- what opening finds on the disc d, which was made with a list of spares, when it is lent the table t ("Calls and their sector writes")
pub record OpensFree (e : Setting) (d : Disc) (spares t : List ℕ) : Type 0 where
  -- no line turns it down
  pub goes : open_verdict e d t ≡ Ok tt
  -- it answers with as many entries as there are spares, sequence 0, and 0 sectors passed over
  pub answer : opening e d t ≡ Ok (record { handed = Record.Rewritable (length spares) 0; passed = 0 })
  pub handed : record_on e d ≡ Record.Rewritable (length spares) 0
  -- all entries are free, and the lent table is filled with them from its start
  pub free : table_on e d ≡ flat (spare_entries spares)
  pub filled : opened_table e d t ≡ filled_from (flat (spare_entries spares)) t
  -- the plain store begins with L blocks, each of zeros ("The plain store") or of a spare
  pub count : length (blocks_on e d) ≡ e.span
  pub zeros : (b : ℕ) → b < e.span → in_spare e spares b ≡ false → get_or (blocks_on e d) b unused ≡ holds zero_block
  pub others : (b : ℕ) → b < e.span → in_spare e spares b ≡ true → get_or (blocks_on e d) b unused ≡ reserved

-- every rewritable disc whose making is accepted is opened, and is empty ("The buyer's note": opening that never accepts)
unfoldable pub RewritableMadeOpens : Type 0
RewritableMadeOpens =
    (e : Setting) (d : Disc) (spares t : List ℕ)
    → write_once e ≡ false
    → make_verdict e d spares ≡ Ok tt
    → 4096 ≤ length t
    → OpensFree e (made e d spares) spares t

-- ---- what is saved and spared there reads back

-- block b is saved, the packet that begins at p spared, and the disc opened again; none is cut ("Calls and their sector writes")
unfoldable pub usual_calls : ℕ → List ℕ → ℕ → List ℕ → List Call
usual_calls b x p y = save_block b x no_cut ∷ spare_packet p y no_cut ∷ open_disc ∷ []

-- each is carried out: R stays, the sequence goes from 0 to 1, and opening passes over 0 sectors ("Calls and their sector writes")
unfoldable pub usual_answers : ℕ → List Answer
usual_answers r = done (Record.Rewritable r 0) ∷ done (Record.Rewritable r 1) ∷ opened (Record.Rewritable r 1) 0 ∷ []

-- what is claimed of these calls from the state st on, on a disc that was made with these spares, and of reading any block v after them ("The plain
-- store")
pub record ReadsBack (e : Setting) (st : State) (spares : List ℕ) (b : ℕ) (x : List ℕ) (p : ℕ) (y : List ℕ) : Type 0 where
  pub answered : answers e st (usual_calls b x p y) ≡ usual_answers (length spares)
  -- a block of the spared packet reads as its part of the lent bytes
  pub spared :
      (v : ℕ) (out : List ℕ) → length out ≡ 2048 → packet_of v ≡ p
      → seen e (final e st (usual_calls b x p y)) v out ≡ bytes (part y (2048 * (v % 32)) 2048)
  -- the saved block, if it is in another packet, as it was saved
  pub saved :
      (v : ℕ) (out : List ℕ) → length out ≡ 2048 → v ≡ b → packet_of v ≢ p
      → seen e (final e st (usual_calls b x p y)) v out ≡ bytes x
  -- every other block of the partition as zeros
  pub zeros :
      (v : ℕ) (out : List ℕ) → length out ≡ 2048 → v ≢ b → packet_of v ≢ p → v < e.span → in_spare e spares v ≡ false
      → seen e (final e st (usual_calls b x p y)) v out ≡ bytes zero_block
  -- but those of spares give 30
  pub thirty :
      (v : ℕ) (out : List ℕ) → length out ≡ 2048 → v < e.span → in_spare e spares v ≡ true
      → seen e (final e st (usual_calls b x p y)) v out ≡ turned BelongsToSpare
  -- and from L upward there is none
  pub beyond :
      (v : ℕ) (out : List ℕ) → length out ≡ 2048 → e.span ≤ v
      → seen e (final e st (usual_calls b x p y)) v out ≡ turned NumberOutside

-- so it is on every made rewritable disc with two tables or more and a spare, for every block and every packet of the partition that belongs to no
-- spare ("The buyer's note": a save that writes nothing, reading that always gives zeros, "no spare" on an unused disc)
unfoldable pub RewritableLives : Type 0
RewritableLives =
    (e : Setting) (d : Disc) (spares t : List ℕ)
    → write_once e ≡ false
    → make_verdict e d spares ≡ Ok tt
    → 4096 ≤ length t
    → 2 ≤ length (tables_of (volume e))
    → 1 ≤ length spares
    → (b : ℕ) (x : List ℕ) → b < e.span → in_spare e spares b ≡ false → length x ≡ 2048
    → (p : ℕ) (y : List ℕ) → p % 32 ≡ 0 → p < e.span → in_spare e spares p ≡ false → length y ≡ 65536
    → ReadsBack e (after_opening e (made e d spares) t) spares b x p y

-- ---- what is spared twice reads back as last spared (02, slip 1)

-- the packet that begins at p is spared with the bytes y, once more with the bytes z, and the disc is opened again; none is cut
unfoldable pub twice_calls : ℕ → List ℕ → List ℕ → List Call
twice_calls p y z = spare_packet p y no_cut ∷ spare_packet p z no_cut ∷ open_disc ∷ []

-- each is carried out: R stays, and the sequence goes from 0 to 1 and to 2
unfoldable pub twice_answers : ℕ → List Answer
twice_answers r = done (Record.Rewritable r 1) ∷ done (Record.Rewritable r 2) ∷ opened (Record.Rewritable r 2) 0 ∷ []

-- the table after them: "its entry turns defective and a free one is taken"; all other spares are free
unfoldable pub twice_table : ℕ → ℕ → ℕ → List ℕ → List ℕ
twice_table p first second more = p ∷ second ∷ defective ∷ first ∷ flat (spare_entries more)

-- what is claimed of these calls from the state st on, on a disc that was made with the spares `first`, `second` and more, and of reading any
-- block v after them
pub record SparedTwice (e : Setting) (st : State) (first second : ℕ) (more : List ℕ) (p : ℕ) (y z : List ℕ) : Type 0 where
  pub answered : answers e st (twice_calls p y z) ≡ twice_answers (2 + length more)
  pub table : table_on e (final e st (twice_calls p y z)).disc ≡ twice_table p first second more
  -- a block of the packet reads as its part of the bytes last lent
  pub last :
      (v : ℕ) (out : List ℕ) → length out ≡ 2048 → packet_of v ≡ p
      → seen e (final e st (twice_calls p y z)) v out ≡ bytes (part z (2048 * (v % 32)) 2048)
  -- every other number as before
  pub others :
      (v : ℕ) (out : List ℕ) → length out ≡ 2048 → packet_of v ≢ p
      → seen e (final e st (twice_calls p y z)) v out ≡ seen e st v out

-- so it is on every made rewritable disc with two tables or more and two spares or more, for every packet of the partition that belongs to no spare:
-- so that no call answers 18 (NewerWriters.antt) is not because sparing refuses
unfoldable pub RespareLives : Type 0
RespareLives =
    (e : Setting) (d : Disc) (first second : ℕ) (more t : List ℕ)
    → write_once e ≡ false
    → make_verdict e d (first ∷ second ∷ more) ≡ Ok tt
    → 4096 ≤ length t
    → 2 ≤ length (tables_of (volume e))
    → (p : ℕ) (y z : List ℕ) → p % 32 ≡ 0 → p < e.span → in_spare e (first ∷ second ∷ more) p ≡ false → length y ≡ 65536 → length z ≡ 65536
    → SparedTwice e (after_opening e (made e d (first ∷ second ∷ more)) t) first second more p y z

-- ---- these claims speak of some disc

-- a volume with tables at sectors 0 and 32 and a partition of two packets from sector 96 on ("The disc and its addresses"); its spares are to be at
-- 128, inside the partition (02, slip 8), and at 64, outside it
unfoldable pub small_volume : Setting
small_volume = setting (maps_of (Rewritable 0 2 72) (0 ∷ 32 ∷ 0 ∷ 0 ∷ [])) 96 64

-- both of them
unfoldable pub small_spares : List ℕ
small_spares = 128 ∷ 64 ∷ []

-- what is claimed of it on the disc d
pub record Makes (d : Disc) : Type 0 where
  pub kind : write_once small_volume ≡ false
  pub tables : 2 ≤ length (tables_of (volume small_volume))
  -- it is made with either spare and with both
  pub inside : make_verdict small_volume d (128 ∷ []) ≡ Ok tt
  pub outside : make_verdict small_volume d (64 ∷ []) ≡ Ok tt
  pub either : make_verdict small_volume d small_spares ≡ Ok tt
  -- the blocks of its first packet belong to no spare, and those of its second to that at 128
  pub free : (b : ℕ) → b < 32 → in_spare small_volume small_spares b ≡ false
  pub of_spares : (b : ℕ) → 32 ≤ b → b < 64 → in_spare small_volume small_spares b ≡ true

-- so it is on every disc of 160 sectors or more that meets line 1 ("Why a call is turned down"), whatever is recorded there
unfoldable pub RewritableMakes : Type 0
RewritableMakes = (d : Disc) → shapely d ≡ true → 160 ≤ length d.marks → Makes d
