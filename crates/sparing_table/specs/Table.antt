-- Entries of the lent table that are looked for (document 01, "The sparing table" and "Calls and their sector writes").
use Rattle.std.specs.Prelude.{ℕ, suc, ◌+◌, ◌*◌, Bool, cond, List, [], ◌∷◌, Option, Some, None, eqb, ltb, get_or}
use Rattle.model.specs.Sparing.{Entry}
use Rattle.address.specs.declared.PhysicalAddress.{PhysicalAddress}

-- entry number i of the lent table: original and mapped by turns
abbrev pub lent_entry : List ℕ → ℕ → Entry
lent_entry t i = record { original = get_or t (2 * i) 0; mapped = get_or t (2 * i + 1) 0 }

-- an entry has the original o
abbrev pub has : ℕ → Entry → Bool
has o e = eqb e.original o

-- an entry has a higher original than p
abbrev pub above : ℕ → Entry → Bool
above p e = ltb p e.original

-- the place of the first entry for which a test holds; the number of entries where it holds for none
unfoldable pub place_where : (Entry → Bool) → List Entry → ℕ
place_where f [] = 0
place_where f (e ∷ l) = cond (f e) 0 (suc (place_where f l))

-- the mapped start of the first of the free entries, if there is one
unfoldable pub free_in : List Entry → Option PhysicalAddress
free_in [] = None
free_in (e ∷ l) = Some (record { 0 = e.mapped })
