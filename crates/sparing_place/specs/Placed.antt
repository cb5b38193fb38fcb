-- What a call that names a block or a packet of a rewritable disc is judged to be, and where the packet is (documents 01, "Why a call is turned
-- down", and 02: lines 1 to 8, 10 to 12 and 30).
use Rattle.std.specs.Prelude.{ℕ, Bool, ◌≡◌, List, [], ◌∷◌, Result, IfOk}
use Rattle.refusal.specs.declared.Refusal.{Refusal}
use Rattle.refusal.specs.Verdict.{Verdict, verdict_of}
use Rattle.refusal.specs.Tests.{first}
use Rattle.address.specs.declared.PhysicalAddress.{PhysicalAddress}
use Rattle.address.specs.declared.Span.{Span}
use Rattle.model.specs.declared.Record.{Record}
use Rattle.model.specs.Disc.{Disc}
use Rattle.model.specs.Sparing.{packet_of}
use Rattle.model.specs.Examine.{Setting}
use Rattle.model.specs.Rewrite.{entries_on, rewritable_verdict, place_of, block_test, spare_test, packet_tests}
use Rattle.sparing_current.specs.Held.{entries_lent}

-- lines 12 and 30 of a packet that begins at block b, by S and L and the lent table: on any disc of which these are
abbrev pub JudgesStart : Span → List ℕ → Record → ℕ → Verdict → Type 0
JudgesStart s t held b r =
    (e : Setting) (d : Disc) → e.start ≡ s.start → e.span ≡ s.length → entries_on e d ≡ entries_lent t held → r ≡ first (packet_tests e d b)

-- the verdict v, and where it lets the call go on the sector p at which the packet begins
pub record PlacedAs (v : Verdict) (p : ℕ) (r : Result PhysicalAddress Refusal) : Type 0 where
  pub verdict : verdict_of r ≡ v
  pub place : IfOk r (λ m. m.0 ≡ p)

-- of block b, by lines 1 to 8, 10 to 12 and 30
abbrev pub Places : Setting → Disc → List ℕ → Bool → Record → ℕ → Result PhysicalAddress Refusal → Type 0
Places e d t lent held b r =
    PlacedAs (rewritable_verdict e d t lent held (block_test e b ∷ spare_test e d b ∷ [])) (place_of e d (packet_of b)) r

-- of the packet that begins at block b, by the same lines
abbrev pub PlacesPacket : Setting → Disc → List ℕ → Bool → Record → ℕ → Result PhysicalAddress Refusal → Type 0
PlacesPacket e d t lent held b r = PlacedAs (rewritable_verdict e d t lent held (packet_tests e d b)) (place_of e d b) r
