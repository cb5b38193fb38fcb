-- The disc (document 01, "The disc and its addresses"): lent bytes, 2,048 a sector, and a mark byte a sector, 0 blank, 1 recorded,
-- 2 unreadable.
use Rattle.std.specs.Prelude.{ℕ, zero, suc, ◌+◌, ◌*◌, Bool, true, cond, not, ◌&&◌, List, [], ◌∷◌, ◌++◌, length, get_or, eqb, leb}
use Rattle.refusal.specs.declared.Refusal.TheVariants.{BlankSector, UnreadableSector}
use Rattle.refusal.specs.Tests.{Test, test}
use Rattle.fields.specs.Bytes.{part}
use Rattle.address.specs.Translation.{sector_at}

-- the lent bytes and marks
pub record Disc : Type 0 where
  pub bytes : List ℕ
  pub marks : List ℕ

-- the disc of lent bytes and marks
abbrev pub disc : List ℕ → List ℕ → Disc
disc b m = record { bytes = b; marks = m }

-- the bytes of the sector at a physical address
unfoldable pub sector : Disc → ℕ → List ℕ
sector d p = part d.bytes (2048 * p) 2048

-- its mark
unfoldable pub mark : Disc → ℕ → ℕ
mark d p = get_or d.marks p 0

-- mark 1 alone
unfoldable pub recorded : Disc → ℕ → Bool
recorded d p = eqb (mark d p) 1

-- whether n sectors from p on are recorded
unfoldable pub recorded_run : Disc → ℕ → ℕ → Bool
recorded_run d p zero = true
recorded_run d p (suc n) = recorded d p && recorded_run d (p + 1) n

-- the mark of the first of n sectors from p on that is not recorded, lowest first; 1 if all are
unfoldable pub first_mark : Disc → ℕ → ℕ → ℕ
first_mark d p zero = 1
first_mark d p (suc n) = cond (recorded d p) (first_mark d (p + 1) n) (mark d p)

-- lines 25 and 14 (02, slip 5, "Blank or broken"), where m is the mark of the first sector to be read that is not recorded, and 1 if all are: 25
-- where that sector is blank, 14 where it is unreadable
unfoldable pub mark_tests : ℕ → List Test
mark_tests m = test (not (eqb m 0)) BlankSector ∷ test (eqb m 1) UnreadableSector ∷ []

-- the bytes of n sectors from p on, joined
unfoldable pub joined : Disc → ℕ → ℕ → List ℕ
joined d p zero = []
joined d p (suc n) = sector d p ++ joined d (p + 1) n

-- NWA, the logical block one past the last sector of the partition that is not blank, 0 if all are blank ("Calls and their sector
-- writes"): of the first l sectors from s on
unfoldable pub nwa : Disc → ℕ → ℕ → ℕ
nwa d s zero = 0
nwa d s (suc k) = cond (eqb (mark d (sector_at s k)) 0) (nwa d s k) (suc k)

-- no mark exceeds 2
unfoldable pub known : List ℕ → Bool
known [] = true
known (m ∷ l) = leb m 2 && known l

-- line 1: the bytes are 2,048 times the marks, of which there are 1 to 1,048,576, and no mark exceeds 2
unfoldable pub shapely : Disc → Bool
shapely d =
    leb 1 (length d.marks) && (leb (length d.marks) 1048576 && (eqb (length d.bytes) (2048 * length d.marks) && known d.marks))

-- line 2: L is not 0, and S + L does not exceed the sectors
unfoldable pub inside : Disc → ℕ → ℕ → Bool
inside d s l = leb 1 l && leb (s + l) (length d.marks)
