-- What a save is judged to be (document 01, "Why a call is turned down" and "Calls and their sector writes").
use Rattle.std.specs.Prelude.{ℕ, List, Result}
use Rattle.refusal.specs.declared.Refusal.{Refusal}
use Rattle.address.specs.declared.PhysicalAddress.{PhysicalAddress}
use Rattle.model.specs.declared.Record.{Record}
use Rattle.model.specs.Sparing.{packet_of}
use Rattle.model.specs.Rewrite.{rewritable_verdict, place_of, block_lent, save_block_tests}
use Rattle.model.specs.Lent.{Lent}
use Rattle.sparing_place.specs.Placed.{PlacedAs}

-- over the lent lists: saving the block as block b
abbrev pub JudgesBlock : Lent → List ℕ → Record → ℕ → List ℕ → Result PhysicalAddress Refusal → Type 0
JudgesBlock x t held b block r =
    PlacedAs
    (rewritable_verdict x.setting x.disc t (block_lent t block) held (save_block_tests x.setting x.disc b))
    (place_of x.setting x.disc (packet_of b))
    r
