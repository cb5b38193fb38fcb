-- What a map list is asked, one question a function (document 01, "The disc and its addresses"; "Why a call is turned down", lines 4
-- and 5).
use Rattle.std.specs.Prelude.{ℕ, Bool, true, false, ◌&&◌, List, length, get_or, eqb}
use Rattle.fields.specs.Regid.{has_regid}
use Rattle.maps.specs.Walk.{Walked, short, maps}

-- whether a map is cut short, or of length 0: line 4
unfoldable pub is_short : Walked → Bool
is_short short = true
is_short (maps ms) = false

-- whether the maps are of a kind; those of a list that is cut short are of none
unfoldable pub on_maps : (List (List ℕ) → Bool) → Walked → Bool
on_maps kind short = false
on_maps kind (maps ms) = kind ms

-- whether s is one map of type 2 with this name, and nothing else: 64 bytes, type 2, as many bytes by its length byte, the regid at 4
unfoldable pub one_type_two : List ℕ → List ℕ → Bool
one_type_two name s = eqb (length s) 64 && (eqb (get_or s 0 0) 2 && (eqb (get_or s 1 0) 64 && has_regid s 4 name))
