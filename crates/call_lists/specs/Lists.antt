-- What C sees of the calls that are lent no disc: a map list read and written (document 01, "The disc and its addresses"), and an entry looked up
-- in a VAT file ("The plain store", its last paragraph). A result of another length than stated belongs to line 3.
use Rattle.std.specs.Prelude.{ℕ, cond, List, [], ◌∷◌, length, replicate, eqb, leb, Ok, Err, Result}
use Rattle.refusal.specs.declared.Refusal.TheVariants.{LentLength, NeitherKind}
use Rattle.refusal.specs.Verdict.{Verdict, verdict_of}
use Rattle.refusal.specs.Tests.{test, first, and_then}
use Rattle.address.specs.declared.LogicalAddress.{LogicalAddress}
use Rattle.address.specs.Told.{logical_values}
use Rattle.refusal.specs.declared.Refusal.{Refusal}
use Rattle.maps.specs.declared.Kind.TheVariants.{WriteOnce, Rewritable}
use Rattle.maps.specs.declared.Volume.{Volume}
use Rattle.maps.specs.Kinds.{read_maps, volume_with}
use Rattle.maps.specs.Numbers.{four_of, volume_numbers}
use Rattle.maps_written.specs.Writing.{write_verdict}
use Rattle.vat_look_up.specs.File.{looked_up}

-- ---- a map list read: the eight numbers of a volume

-- lines 3 to 6 of reading the map list m into the lent result
unfoldable pub maps_verdict : List ℕ → List ℕ → Verdict
maps_verdict m result = and_then (first (test (eqb (length result) 8) LentLength ∷ [])) (verdict_of (read_maps m))

-- the lent result after a verdict
abbrev pub volume_after : Verdict → Volume → List ℕ → List ℕ
volume_after (Ok _) v result = volume_numbers v
volume_after (Err why) v result = result

-- ---- a map list written

-- the volume of a kind (0 write-once, else rewritable), a partition number, the bytes of each table and the table sectors, which a write-once
-- volume has none of
unfoldable pub volume_for : ℕ → ℕ → ℕ → List ℕ → Volume
volume_for kind p size tables =
    cond (eqb kind 0)
    (volume_with (WriteOnce p) (replicate 4 0))
    (volume_with (Rewritable p (length tables) size) (four_of tables))

-- lines 3, 5 and 6 of writing it: a kind above 1 is neither, whatever the lent length
unfoldable pub lent_verdict : ℕ → ℕ → ℕ → List ℕ → List ℕ → Verdict
lent_verdict kind p size tables out =
    cond (leb kind 1) (write_verdict (volume_for kind p size tables) out) (Err NeitherKind)

-- ---- an entry looked up: one number

-- the lent result after it
abbrev pub logical_after : Result LogicalAddress Refusal → List ℕ → List ℕ
logical_after (Ok b) result = logical_values (Ok b)
logical_after (Err why) result = result

-- what is answered for virtual v in the file f that is lent the result
unfoldable pub lent_look_up : List ℕ → ℕ → List ℕ → Result LogicalAddress Refusal
lent_look_up f v result = cond (eqb (length result) 1) (looked_up f (record { 0 = v })) (Err LentLength)
