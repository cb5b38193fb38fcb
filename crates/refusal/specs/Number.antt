-- The number of each refusal, its line in document 01, "Why a call is turned down", or in document 02; and of an answer.
use Rattle.std.specs.Prelude.{ℕ, Result, Ok, Err}
use Rattle.refusal.specs.declared.Refusal.{Refusal}
use Rattle.refusal.specs.declared.Refusal.TheVariants.{DiscShape, SpanOutside, LentLength, BitmapMalformed, MapCut, NeitherKind, Misaligned, OtherKind, NoTable, TooManyEntries, CopiesDiffer, StaleRecord, NumberOutside, BelongsToSpare, WrongRun, NoRun, UnusedEntry, BlankSector, UnreadableSector, PassesAsIcb, NoRoom, OneTable, NoSpare, LastSequence, NotBlank}

-- the line by which a call is turned down
abbrev pub number_of : Refusal → ℕ
number_of DiscShape = 1
number_of SpanOutside = 2
number_of LentLength = 3
number_of BitmapMalformed = 31
number_of MapCut = 4
number_of NeitherKind = 5
number_of Misaligned = 6
number_of OtherKind = 7
number_of NoTable = 8
number_of TooManyEntries = 9
number_of CopiesDiffer = 10
number_of StaleRecord = 11
number_of NumberOutside = 12
number_of BelongsToSpare = 30
number_of WrongRun = 32
number_of NoRun = 33
number_of UnusedEntry = 13
number_of BlankSector = 25
number_of UnreadableSector = 14
number_of PassesAsIcb = 15
number_of NoRoom = 16
number_of OneTable = 17
number_of NoSpare = 19
number_of LastSequence = 20
number_of NotBlank = 21

-- the number of an answer: 0 where nothing stands in the way of the call, else the line of the refusal
abbrev pub answer_number : {A : Type 0} → Result A Refusal → ℕ
answer_number (Ok x) = 0
answer_number (Err why) = number_of why
