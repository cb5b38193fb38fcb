-- Discs from newer writers (02, slip 1), sentence by sentence: what demand 3 does not see of that request, since it speaks of blocks alone. That a
-- packet can be spared again, and is read as last spared, is `RespareLives` (LivesAgain.antt).
use Rattle.std.specs.Prelude.{ℕ, ◌+◌, ◌%◌, ◌≤◌, ◌<◌, ◌≡◌, true, false, ◌≢◌, List, [], ◌∷◌, ◌++◌, length, get_or, take, replicate, Ok, Result}
use Rattle.refusal.specs.declared.Refusal.{Refusal}
use Rattle.refusal.specs.Verdict.{Verdict}
use Rattle.refusal.specs.Number.{number_of, answer_number}
use Rattle.fields.specs.Bytes.{part, splice}
use Rattle.fields.specs.Number.{field}
use Rattle.fields.specs.Regid.{has_regid, regid}
use Rattle.model.specs.declared.Cut.{Cut}
use Rattle.model.specs.declared.Record.{Record}
use Rattle.model.specs.declared.Reply.{Reply}
use Rattle.model.specs.declared.Opened.{Opened}
use Rattle.model.specs.declared.Forecast.{Forecast}
use Rattle.model.specs.Disc.{Disc}
use Rattle.model.specs.Vat.{none}
use Rattle.model.specs.Told.{reply_number, forecast_number}
use Rattle.model.specs.Sparing.{sparing_name, older_name, Geometry, Entry, entries, flat, defective, used_of, defective_of, free_of, entries_fit, table_in, none_defective, copy_fits, counts, sequence_in, sequence_at, table_at, current_sequence, current, current_table, agree, mapped_to, in_place, spot_of, of_spare, locate, first_free, rest, inserted, without, turned_defective, resorted, written_table}
use Rattle.model.specs.Plan.{reply_of, disc_after}
use Rattle.model.specs.Examine.{Setting, write_once, geometry}
use Rattle.model.specs.Rewrite.{no_entry, entries_on, sequence_on, spared_table, spare_plan}
use Rattle.model.specs.Both.{spare_entries, make_verdict, made}
use Rattle.model.specs.Calls.{Call, refused, State, step, final}
use Rattle.model.specs.Demand.{Below, after_opening}
use Rattle.model.specs.Consequences.{Follows}
use Rattle.model.specs.ReadBack.{Stands, small_geometry, each_entry}
use Rattle.model.specs.Examples.{entry}

-- ---- "Refusal 18 no longer occurs, which is to be shown"

-- no refusal has that number; so no call of a list answers it, in whatever state, and none of the numbers by which a caller is told of an opening,
-- a reading, a making, a writing call or a forecast is 18
pub record NoEighteen : Type 0 where
  pub line : (why : Refusal) → number_of why ≢ 18
  pub list : (e : Setting) (st : State) (c : Call) (why : Refusal) → (step e st c).answer ≡ refused why → number_of why ≢ 18
  pub verdict : (v : Verdict) → answer_number v ≢ 18
  pub reply : (r : Result Reply Refusal) → reply_number r ≢ 18
  pub opened : (o : Result Opened Refusal) → answer_number o ≢ 18
  pub given : (r : Verdict) → answer_number r ≢ 18
  pub forecast : (f : Result Forecast Refusal) → forecast_number f ≢ 18

-- ---- which copies count

-- "Both identifiers are to be read", "a copy with the older identifier and that mark still doesn't count", "defective entries stand after used and
-- before free ones, in the copy rule too". A sector counts where it is recorded and its bytes are a copy
pub record Copies : Type 0 where
  -- the bytes of a sector with the newer identifier, and entries that fit, are a copy
  pub newer :
      (g : Geometry) (b : List ℕ)
      → field b 0 2 ≡ 0 → has_regid b 16 sparing_name ≡ true → entries_fit g (entries (table_in b)) ≡ true
      → copy_fits g b ≡ true
  -- and with the older one, where no entry is defective
  pub older :
      (g : Geometry) (b : List ℕ)
      → field b 0 2 ≡ 0 → has_regid b 16 older_name ≡ true → none_defective (entries (table_in b)) ≡ true → entries_fit g (entries (table_in b)) ≡ true
      → copy_fits g b ≡ true
  -- where one is, it does not count, whatever its sequence
  pub older_defective :
      (g : Geometry) (b : List ℕ)
      → has_regid b 16 older_name ≡ true → none_defective (entries (table_in b)) ≡ false
      → copy_fits g b ≡ false
  -- with neither identifier it is no copy
  pub neither : (g : Geometry) (b : List ℕ) → has_regid b 16 sparing_name ≡ false → has_regid b 16 older_name ≡ false → copy_fits g b ≡ false
  -- nor is one with an original from 0xfffffff1 to 0xfffffffe, under either identifier
  pub reserved :
      (g : Geometry) (b : List ℕ) (i : ℕ)
      → i < length (entries (table_in b))
      → 0xfffffff1 ≤ (get_or (entries (table_in b)) i (entry 0 0)).original → (get_or (entries (table_in b)) i (entry 0 0)).original ≤ 0xfffffffe
      → copy_fits g b ≡ false
  -- in one that counts the used entries come first, then the defective ones, then the free ones
  pub order :
      (g : Geometry) (b : List ℕ)
      → g.span ≤ 1048576 → copy_fits g b ≡ true
      → entries (table_in b) ≡ used_of (entries (table_in b)) ++ (defective_of (entries (table_in b)) ++ free_of (entries (table_in b)))

-- the identifier has no other part, also where copies of both stand side by side: two discs on which the same copies count, with the same sequences
-- and entries, have the same current copies and the same table, and line 10 says the same of them, whichever identifiers the copies have
unfoldable pub NamesAside : Type 0
NamesAside =
    (d d' : Disc) (g : Geometry)
    → ((t : ℕ) → counts d g t ≡ counts d' g t)
    → ((t : ℕ) → sequence_at d t ≡ sequence_at d' t)
    → ((t : ℕ) → table_at d t ≡ table_at d' t)
    → (current d g ≡ current d' g)
    × (current_sequence d g ≡ current_sequence d' g)
    × (current_table d g ≡ current_table d' g)
    × ((l ts : List ℕ) → agree d l ts ≡ agree d' l ts)

-- ---- "and the newer one written"

-- whatever the copies had
pub record NewerWritten : Type 0 where
  -- a table as it is written has the newer identifier, and zeros for its suffix
  pub name : (n : ℕ) (l : List ℕ) → has_regid (written_table n l) 16 sparing_name ≡ true
  pub suffix : (n : ℕ) (l : List ℕ) → part (written_table n l) 40 8 ≡ replicate 8 0
  -- it stands in every copy after a sparing that is done, of whatever packet
  pub spared :
      (e : Setting) (d : Disc) (t : List ℕ) (held : Record) (b : ℕ) (packet : List ℕ) (c : Cut) (r : Record)
      → Below 256 d.bytes
      → reply_of (spare_plan e d t held b packet) c ≡ Ok (Reply.Done r)
      → (i : ℕ) → i < length (geometry e d).tables
      → Stands (disc_after (spare_plan e d t held b packet) c d) (get_or (geometry e d).tables i 0) (written_table (sequence_on e d + 1) (spared_table e d b))
  -- and after making
  pub made :
      (e : Setting) (d : Disc) (spares : List ℕ)
      → write_once e ≡ false → make_verdict e d spares ≡ Ok tt
      → (i : ℕ) → i < length (geometry e d).tables
      → Stands (made e d spares) (get_or (geometry e d).tables i 0) (written_table 0 (flat (spare_entries spares)))

-- ---- "Its entry turns defective and a free one is taken"

-- the table once packet p, spared before or not, was spared, from the parts of the table before
pub record Respared : Type 0 where
  -- the packet's entry in its place among the used ones, with the free spare of lowest index; that of every other packet as it was
  pub used :
      (es : List Entry) (p : ℕ) → p % 32 ≡ 0
      → used_of (resorted es p) ≡ inserted (entry p (first_free (free_of es))) (without p (used_of es))
  -- the defective ones as they were, and "a new one last of them": none becomes free or used again
  pub defectives :
      (es : List Entry) (p : ℕ) → p % 32 ≡ 0
      → defective_of (resorted es p) ≡ defective_of es ++ turned_defective p (used_of es)
  -- the free ones but the first
  pub free : (es : List Entry) (p : ℕ) → p % 32 ≡ 0 → free_of (resorted es p) ≡ rest (free_of es)
  -- the new one, in a table that fits, is the spare of the packet that had one
  pub turned :
      (g : Geometry) (es : List Entry) (p m : ℕ)
      → entries_fit g es ≡ true → g.span ≤ 1048576 → p % 32 ≡ 0 → spot_of es p ≡ mapped_to m
      → turned_defective p (used_of es) ≡ entry defective m ∷ []
  -- and there is none where the packet had none
  pub kept : (es : List Entry) (p : ℕ) → p % 32 ≡ 0 → spot_of es p ≡ in_place → turned_defective p (used_of es) ≡ []
  -- the table fits again, where the packet belongs to no spare: used, then defective, then free, as the copy rule has it; and R stays
  pub fits :
      (g : Geometry) (es : List Entry) (p : ℕ)
      → entries_fit g es ≡ true → g.span ≤ 1048576 → p % 32 ≡ 0 → p < g.span → of_spare g.start es p ≡ false → no_entry (free_of es) ≡ false
      → (entries_fit g (resorted es p) ≡ true)
      × (resorted es p ≡ used_of (resorted es p) ++ (defective_of (resorted es p) ++ free_of (resorted es p)))
      × (length (resorted es p) ≡ length es)
  -- the packet is where the free spare was
  pub own :
      (g : Geometry) (es : List Entry) (p : ℕ)
      → entries_fit g es ≡ true → g.span ≤ 1048576 → p % 32 ≡ 0 → p < g.span → no_entry (free_of es) ≡ false
      → spot_of (resorted es p) p ≡ mapped_to (first_free (free_of es))
  -- and every other one where it was
  pub others :
      (g : Geometry) (es : List Entry) (p q : ℕ)
      → entries_fit g es ≡ true → g.span ≤ 1048576 → p % 32 ≡ 0 → p < g.span → no_entry (free_of es) ≡ false
      → q < g.span → q ≢ p
      → spot_of (resorted es p) q ≡ spot_of es q
  -- in a table that fits no block is in a defective spare, but for those that give 30
  pub unread :
      (g : Geometry) (es : List Entry) (i v j : ℕ)
      → entries_fit g es ≡ true → g.start % 32 ≡ 0 → g.span % 32 ≡ 0 → of_spare g.start es v ≡ false → j < 32
      → i < length (defective_of es)
      → locate g.start es v ≢ (get_or (defective_of es) i (entry 0 0)).mapped + j
  -- and none is the spare that a sparing takes
  pub untaken :
      (g : Geometry) (es : List Entry) (i : ℕ)
      → entries_fit g es ≡ true → no_entry (free_of es) ≡ false
      → i < length (defective_of es)
      → first_free (free_of es) ≢ (get_or (defective_of es) i (entry 0 0)).mapped

-- the defective spares of the disc that a list of calls leaves
abbrev pub defective_after : Setting → Disc → List ℕ → List Call → List Entry
defective_after e d t cs = defective_of (entries_on e (final e (after_opening e d t) cs).disc)

-- over whole lists of calls, those of which demand 3 is claimed, wherever the power fails and whether the last call was cut or not: what is a
-- defective spare after the calls cs is one after all later calls, in its place among them. (Two sparings of a packet give one: `RespareLives`.)
unfoldable pub DefectiveStays : Type 0
DefectiveStays =
    (e : Setting) (d : Disc) (t : List ℕ) (cs later : List Call) → write_once e ≡ false → Follows e d t (cs ++ later)
    → take (length (defective_after e d t cs)) (defective_after e d t (cs ++ later)) ≡ defective_after e d t cs

-- ---- there is something of each kind

-- a table under some identifier, and else as it is written
unfoldable pub table_under : List ℕ → ℕ → List ℕ → List ℕ
table_under name n l = splice (written_table n l) 16 (regid name)

-- on the volume of ReadBack.antt: packet 0 is spared at 160, and the spare at 128 is free
unfoldable pub plain_table : List ℕ
plain_table = 0 ∷ 160 ∷ none ∷ 128 ∷ []

-- the same with an original that is reserved
unfoldable pub reserved_table : List ℕ
reserved_table = 0 ∷ 160 ∷ 0xfffffff1 ∷ 128 ∷ []

-- packets 32 and 64 are spared, one spare is defective, and one is free
unfoldable pub spent_table : List Entry
spent_table = entry 32 2080 ∷ entry 64 2048 ∷ entry defective 2144 ∷ entry none 2112 ∷ []

-- a volume in which that table fits: S 512, L 128, tables at 0 and 32
unfoldable pub spent_geometry : Geometry
spent_geometry = record { start = 512; span = 128; sectors = 2176; tables = 0 ∷ 32 ∷ []; size = 88 }

-- each claim speaks of something
pub record NewerMet : Type 0 where
  -- a copy under each identifier
  pub newer : copy_fits small_geometry (written_table 1 (flat each_entry)) ≡ true
  pub older :
      (has_regid (table_under older_name 1 plain_table) 16 older_name ≡ true)
      × (none_defective (entries (table_in (table_under older_name 1 plain_table))) ≡ true)
      × (copy_fits small_geometry (table_under older_name 1 plain_table) ≡ true)
  -- the older one with the mark, which under the newer one is the copy above
  pub older_defective :
      (has_regid (table_under older_name 1 (flat each_entry)) 16 older_name ≡ true)
      × (none_defective (entries (table_in (table_under older_name 1 (flat each_entry)))) ≡ false)
      × (table_under sparing_name 1 (flat each_entry) ≡ written_table 1 (flat each_entry))
  -- one table of one sequence under both identifiers, each of them a copy
  pub alike :
      (table_in (table_under older_name 1 plain_table) ≡ table_in (written_table 1 plain_table))
      × (sequence_in (table_under older_name 1 plain_table) ≡ sequence_in (written_table 1 plain_table))
      × (copy_fits small_geometry (written_table 1 plain_table) ≡ true)
  -- a reserved original, in the place of the free one of that copy
  pub reserved : (get_or (entries (table_in (written_table 1 reserved_table))) 1 (entry 0 0)).original ≡ 0xfffffff1
  -- a packet that is spared and one that is not, in a table that fits
  pub fits : entries_fit spent_geometry spent_table ≡ true
  pub spared : (spot_of spent_table 32 ≡ mapped_to 2080) × (spot_of spent_table 96 ≡ in_place)
  pub again : resorted spent_table 32 ≡ entry 32 2112 ∷ entry 64 2048 ∷ entry defective 2144 ∷ entry defective 2080 ∷ []
  pub first : resorted spent_table 96 ≡ entry 32 2080 ∷ entry 64 2048 ∷ entry 96 2112 ∷ entry defective 2144 ∷ []
