-- What a caller is told of a translation beside its number: the address.
use Rattle.std.specs.Prelude.{ℕ, List, [], ◌∷◌, Result, Ok, Err}
use Rattle.refusal.specs.declared.Refusal.{Refusal}
use Rattle.address.specs.declared.LogicalAddress.{LogicalAddress}
use Rattle.address.specs.declared.PhysicalAddress.{PhysicalAddress}

-- of a translation into the partition
abbrev pub logical_values : Result LogicalAddress Refusal → List ℕ
logical_values (Ok b) = b.0 ∷ []
logical_values (Err why) = []

-- of one to the disc
abbrev pub physical_values : Result PhysicalAddress Refusal → List ℕ
physical_values (Ok p) = p.0 ∷ []
physical_values (Err why) = []
