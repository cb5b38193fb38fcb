-- The scan of opening as it is answered (document 01, "Calls and their sector writes": "Opening goes down from the last sector that is not
-- blank, inside the partition, to the first VAT ICB").
use Rattle.std.specs.Prelude.{ℕ, zero, suc, ◌*◌, ◌≤◌, cond, List, length, Option, Some, None}
use Rattle.address.specs.declared.LogicalAddress.{LogicalAddress}
use Rattle.address.specs.Translation.{most_sectors, sector_at}
use Rattle.model.specs.Disc.{Disc}
use Rattle.model.specs.Vat.{Found, icb_at, nowhere, vat_icb}

-- the first n blocks of a partition that starts at s lie within the bytes of a disc (01, "The disc and its addresses")
pub record Within (bytes : List ℕ) (s n : ℕ) : Type 0 where
  pub inside : 2048 * sector_at s n ≤ length bytes
  pub most : length bytes ≤ 2048 * most_sectors

-- the logical block where it ends, if it finds one
unfoldable pub scan_of : Found → Option LogicalAddress
scan_of (icb_at k) = Some (record { 0 = k })
scan_of nowhere = None

-- how many sectors it looks at and does not take, from below logical block n down to where it ends (01, "Calls and their sector writes":
-- "passed over"). `looked-between` of proofs/Laws.antt says it with no recursion: those strictly between the ICB found and n
unfoldable pub looked : Disc → ℕ → ℕ → ℕ
looked d s zero = 0
looked d s (suc j) = cond (vat_icb d s j) 0 (suc (looked d s j))
