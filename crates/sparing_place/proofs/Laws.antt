-- Laws of where a block is: how a call's own tests follow lines 1 to 8, 10 to 12 and 30, and what these tell of a call that goes on. Assumes
-- nothing.
use Prim.Native.Nat.{ℕ, ◌+◌, ◌*◌, ◌%◌, ◌≤◌, ◌<◌}
use mathlib.Core.Bool.{Bool, true, false, not, ◌&&◌}
use mathlib.Core.Path.{◌≡◌, refl, sym, ap, ◌∙◌}
use mathlib.Core.List.{List, [], ◌∷◌}
use native.Mathlib.Omega.{arith}
use borrow.Author.Tests.{ltb-true, leb-true, lt-ltb, le-ltb}
use lib.Dec.{ltb}
use lib.ListN.{length}
use Rattle.std.specs.Prelude.{Ok, Err, Result}
use Rattle.std.proofs.lemmas.Result.{IfOk-from_err}
use Rattle.refusal.specs.declared.Refusal.{Refusal}
use Rattle.refusal.specs.declared.Refusal.TheVariants.{NumberOutside, BelongsToSpare}
use Rattle.refusal.specs.Verdict.{Verdict, verdict_of, answered}
use Rattle.refusal.specs.Number.{answer_number}
use Rattle.refusal.specs.Tests.{Test, test, first, and_then}
use Rattle.refusal.proofs.Laws.{goes, stops, passed, asked-after, answered-same, answered-number}
use Rattle.address.specs.declared.LogicalAddress.{LogicalAddress}
use Rattle.address.specs.declared.PhysicalAddress.{PhysicalAddress}
use Rattle.address.specs.declared.Span.{Span}
use Rattle.model.specs.declared.Record.{Record}
use Rattle.model.specs.Disc.{Disc}
use Rattle.model.specs.Sparing.{Entry, packet_of, of_spare, locate}
use Rattle.model.specs.Examine.{Setting, lent_table}
use Rattle.model.specs.Rewrite.{rewritable_verdict, place_of, block_test, spare_test, packet_verdict, packet_physical, packet_tests}
use Rattle.model.proofs.Basics.{and-true}
use Rattle.model.proofs.Verdicts.{then-go}
use Rattle.model.proofs.SparingLaws.{packet-own}
use Rattle.sparing_current.specs.declared.Looked.{Looked}
use Rattle.sparing_current.specs.Looked.{Judges}
use Rattle.sparing_current.specs.Held.{count_held, entries_lent}
use Rattle.sparing_current.proofs.Laws.{Common, common, rewritable-own, rewritable-stops, rewritable-goes}
use Rattle.sparing_current.proofs.Looks.{span-start, span-length}
use Rattle.sparing_current.proofs.Held.{room-held, entries-lent, place-lent, place-on}
use Rattle.sparing_place.specs.Placed.{PlacedAs, Places, PlacesPacket}
use Rattle.sparing_place.proofs.Packets.{packet-off, as_lines, packet-as-block}

-- ---- the lent table

-- it is long enough
pub table-lent : (t : List ℕ) (b : Bool) {x : Bool} → x ≡ (lent_table t && b) → x ≡ true → 4096 ≤ length t
unfolding lent_table
table-lent t b h q = leb-true 4096 (length t) (and-true (lent_table t) b (sym h ∙ q)).0

-- ---- a call's own tests after the common ones

module _ {e : Setting} {d : Disc} {t : List ℕ} {lent : Bool} {held : Record} where
  -- what stops the common tests stops the call
  pub stops_call : (own : List Test) {why : Refusal} → Judges e d t lent held (Err why) → Err why ≡ rewritable_verdict e d t lent held own
  stops_call own j = sym (rewritable-stops e d t lent held own (sym j.verdict))

  -- x is what was found where they let it go on
  module _ {x : Looked} (j : Judges e d t lent held (Ok x)) where
    -- what they tell
    pub going : Common e d t lent held
    going = common e d t lent held (sym j.verdict)

    -- the call's own tests decide
    pub goes-call : (own : List Test) {u : Verdict} → u ≡ first own → u ≡ rewritable_verdict e d t lent held own
    goes-call own f = f ∙ sym (rewritable-goes e d t lent held own (sym j.verdict))

    -- room for the entries, and a small sum, as a translation asks
    pub translation-asks : (2 * count_held held ≤ length t) × (x.layout.volume.span.start + x.layout.volume.span.length < 4294967296)
    translation-asks = (room-held going, omega (arith, going.span, going.few, span-start j.found.layout, span-length j.found.layout))

-- where nothing stops a call, neither did the common tests, nor did its own
pub going-all : (e : Setting) (d : Disc) (t : List ℕ) (lent : Bool) (held : Record) (own : List Test) → rewritable_verdict e d t lent held own ≡ Ok tt → Common e d t lent held × (first own ≡ Ok tt)
going-all e d t lent held own h =
    let p = then-go (rewritable_verdict e d t lent held []) (first own) (sym (rewritable-own e d t lent held own) ∙ h) in
    (common e d t lent held p.0, p.1)

-- ---- lines 12 and 30 of a block, by the sparing entries

module _ (s : Span) (es : List Entry) (b : LogicalAddress) where
  -- there is no block b
  pub number-outside : s.length ≤ b.0 → Err NumberOutside ≡ packet_verdict s es b
  unfolding packet_verdict
  number-outside h = stops _ (le-ltb b.0 s.length h)

  -- u tells whether it belongs to a spare
  module _ (low : b.0 < s.length) {u : Bool} (is : u ≡ of_spare s.start es b.0) where
    -- it does
    pub number-spared : u ≡ true → Err BelongsToSpare ≡ packet_verdict s es b
    unfolding packet_verdict
    number-spared h = goes _ (lt-ltb b.0 s.length low) (stops _ (ap not (sym is ∙ h)))

    -- it does not
    pub number-fits : u ≡ false → (Ok tt) ≡ packet_verdict s es b
    unfolding packet_verdict
    number-fits h = goes _ (lt-ltb b.0 s.length low) (goes _ (ap not (sym is ∙ h)) refl)

  -- where none of them applies, b is below L
  pub number-tells : Ok tt ≡ packet_verdict s es b → b.0 < s.length
  unfolding packet_verdict
  number-tells h = ltb-true b.0 s.length (passed (test (ltb b.0 s.length) NumberOutside ∷ test (not (of_spare s.start es b.0)) BelongsToSpare ∷ []) (sym h)).0

  -- ---- the translation: it tells the number of its verdict

  abbrev Ends : Result PhysicalAddress Refusal → Type 0
  Ends r = (r ≡ packet_physical s es b) × (answer_number r ≡ answer_number (packet_verdict s es b))

  ends : {r : Result PhysicalAddress Refusal} → r ≡ packet_physical s es b → Ends r
  unfolding packet_physical
  ends q = (q, ap answer_number q ∙ answered-number (packet_verdict s es b) _)

  -- a line turns it down
  pub ends-stopped : {why : Refusal} {r : Result PhysicalAddress Refusal} → Err why ≡ packet_verdict s es b → r ≡ Err why → Ends r
  unfolding packet_physical
  ends-stopped v q = ends (q ∙ answered-same _ v)

  -- none does, and the packet is at p
  pub ends_at : {p : PhysicalAddress} → Ok tt ≡ packet_verdict s es b → p.0 ≡ locate s.start es (packet_of b.0) → Ends (Ok p)
  unfolding packet_physical
  ends_at v at = ends (ap (λ (n : ℕ). Ok (record { 0 = n })) at ∙ answered-same _ v)

-- an answer as a place
as_place : (v : Verdict) (m : PhysicalAddress) → PlacedAs v m.0 (answered v m)
as_place (Ok _) m = record { verdict = refl; place = refl }
as_place (Err why) m = record { verdict = refl; place = tt }

-- ---- what a call is judged to be

-- a line turns it down
pub placed-stop : {v : Verdict} {p : ℕ} {r : Result PhysicalAddress Refusal} {why : Refusal} → Err why ≡ v → r ≡ Err why → PlacedAs v p r
placed-stop {r = r} h q = record { verdict = ap verdict_of q ∙ h; place = IfOk-from_err r _ (rw q) }

-- by the layout of a call that lines 1 to 8, 10 and 11 let pass
module _ {e : Setting} {d : Disc} {t : List ℕ} {lent : Bool} {held : Record} {x : Looked} (j : Judges e d t lent held (Ok x)) (b : LogicalAddress) where
  abbrev span : Span
  span = x.layout.volume.span

  start : span.start ≡ e.start
  start = span-start j.found.layout

  -- the lines of a translation are 12 and 30 of the call
  lines_are : packet_verdict span (entries_lent t held) b ≡ first (block_test e b.0 ∷ spare_test e d b.0 ∷ [])
  lines_are = as_lines e d b (sym start) (sym (span-length j.found.layout)) (sym (entries-lent (going j)))

  -- and its sector that of the packet
  place_is : locate span.start (entries_lent t held) (packet_of b.0) ≡ place_of e d (packet_of b.0)
  place_is = ap (λ (s : ℕ). locate s (entries_lent t held) (packet_of b.0)) start ∙ place-lent (going j) b.0

  -- a block is where it is translated to
  pub block-placed : {to : Result PhysicalAddress Refusal} → to ≡ packet_physical span (entries_lent t held) b → Places e d t lent held b.0 to
  unfolding packet_physical
  block-placed q =
      let v = goes-call j (block_test e b.0 ∷ spare_test e d b.0 ∷ []) lines_are in
      rw (q, sym v, sym place_is) (as_place (packet_verdict span (entries_lent t held) b) _)

  -- b is no packet's start, and line 12 turns the call down
  pub packet-stopped : (b.0 % 32 ≡ 0 → ⊥) → PlacesPacket e d t lent held b.0 (Err NumberOutside)
  packet-stopped h = placed-stop (goes-call j (packet_tests e d b.0) (packet-off e d b.0 h)) refl

  -- it is one, and the packet is where it is translated to
  pub packet-placed : b.0 % 32 ≡ 0 → {to : Result PhysicalAddress Refusal} → to ≡ packet_physical span (entries_lent t held) b → PlacesPacket e d t lent held b.0 to
  unfolding packet_physical
  packet-placed h q =
      let v = goes-call j (packet_tests e d b.0) (lines_are ∙ packet-as-block e d b.0 h) in
      let at = place_is ∙ ap (place_of e d) (packet-own b.0 h) in
      rw (q, sym v, sym at) (as_place (packet_verdict span (entries_lent t held) b) _)

-- ---- what a call that goes on may rely on; p is where the packet of block b begins

-- what lines 1 to 8, 10 and 11 tell; b is a block of the partition; the packet's sectors are on the disc
pub record Safe (e : Setting) (d : Disc) (t : List ℕ) (lent : Bool) (held : Record) (b p : ℕ) : Type 0 where
  pub told : Common e d t lent held
  pub low : b < e.span
  pub place : p ≡ place_of e d (packet_of b)
  pub on : p + 32 ≤ length d.marks

-- from the verdict of a call whose own tests follow lines 12 and 30
pub safe : (e : Setting) (d : Disc) (t : List ℕ) (lent : Bool) (held : Record) (b : ℕ) (own : List Test) {p : ℕ} → rewritable_verdict e d t lent held (block_test e b ∷ spare_test e d b ∷ own) ≡ Ok tt → p ≡ place_of e d (packet_of b) → Safe e d t lent held b p
unfolding block_test spare_test
safe e d t lent held b own h at =
    let a = going-all e d t lent held (block_test e b ∷ spare_test e d b ∷ own) h in
    let low : b < e.span = ltb-true b e.span (passed (block_test e b ∷ spare_test e d b ∷ own) a.1).0 in
    record { told = a.0; low = low; place = at; on = omega (arith, at, place-on a.0 b low) }

-- ---- a call's own tests after lines 12 and 30

module _ (e : Setting) (d : Disc) (t : List ℕ) (lent : Bool) (held : Record) (b : ℕ) where
  -- they are asked after what `place_block` asks
  own-after : (own : List Test) → rewritable_verdict e d t lent held (block_test e b ∷ spare_test e d b ∷ own) ≡ and_then (rewritable_verdict e d t lent held (block_test e b ∷ spare_test e d b ∷ [])) (first own)
  own-after own =
      rewritable-own e d t lent held (block_test e b ∷ spare_test e d b ∷ own)
      ∙ asked-after (rewritable_verdict e d t lent held []) (block_test e b ∷ spare_test e d b ∷ []) own
      ∙ ap (λ (v : Verdict). and_then v (first own)) (sym (rewritable-own e d t lent held (block_test e b ∷ spare_test e d b ∷ [])))

  -- which stops the call
  pub place-stops : (own : List Test) {why : Refusal} → Places e d t lent held b (Err why) → Err why ≡ rewritable_verdict e d t lent held (block_test e b ∷ spare_test e d b ∷ own)
  place-stops own h = ap (λ (v : Verdict). and_then v (first own)) h.verdict ∙ sym (own-after own)

  module _ {p : PhysicalAddress} (h : Places e d t lent held b (Ok p)) where
    -- or lets it go on, and its own tests decide
    pub place-goes : (own : List Test) → first own ≡ rewritable_verdict e d t lent held (block_test e b ∷ spare_test e d b ∷ own)
    place-goes own = ap (λ (v : Verdict). and_then v (first own)) h.verdict ∙ sym (own-after own)

    -- and this is what the call may rely on
    pub place-tells : Safe e d t lent held b p.0
    place-tells = safe e d t lent held b [] (sym h.verdict) h.place
