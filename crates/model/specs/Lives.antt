-- Discs that live: a disc that was made is opened, takes a block and gives it back after another opening. Demand 3 alone would be met by calls
-- that refuse everything; these claims say that the calls do not ("A call that meets no line here is carried out", document 01, "Why a call is
-- turned down").
use Rattle.std.specs.Prelude.{ℕ, ◌≤◌, ◌≡◌, true, false, List, [], ◌∷◌, length, Ok}
use Rattle.model.specs.declared.Record.{Record}
use Rattle.model.specs.Disc.{Disc}
use Rattle.model.specs.Writes.{no_cut}
use Rattle.model.specs.Vat.{passes}
use Rattle.model.specs.Examine.{Setting, write_once}
use Rattle.model.specs.Both.{open_verdict, record_on, numbers_on, passed_on, opening, opened_table, make_verdict, made}
use Rattle.model.specs.Calls.{Call, save_virtual, commit, open_disc, done, opened, answers, final}
use Rattle.model.specs.Store.{bytes}
use Rattle.model.specs.Demand.{after_opening, seen}

-- ---- write-once discs

-- a disc that opens with an empty VAT in its first block (document 01, "Calls and their sector writes": a blank write-once partition gets an
-- empty VAT); the lent table is t
pub record OpensEmpty (e : Setting) (d : Disc) (t : List ℕ) : Type 0 where
  -- opening is accepted
  pub accepts : open_verdict e d t ≡ Ok tt
  -- its record: N is 0, NWA 1 and the last ICB at 0
  pub held : record_on e d ≡ Record.WriteOnce 0 1 0
  -- the VAT has no entries
  pub numbers : numbers_on e d ≡ []
  -- no sector is passed over
  pub passed : passed_on e d ≡ 0
  -- so this is the answer
  pub answer : opening e d t ≡ Ok (record { handed = Record.WriteOnce 0 1 0; passed = 0 })
  -- and the lent table is kept
  pub table : opened_table e d t ≡ t

-- every write-once disc that was made opens, with every lent table that is long enough
unfoldable pub OnceMadeOpens : Type 0
OnceMadeOpens =
    (e : Setting) (d : Disc) (spares t : List ℕ)
    → write_once e ≡ true
    → make_verdict e d spares ≡ Ok tt
    → 4096 ≤ length t
    → OpensEmpty e (made e d spares) t

-- a first block saved as number 0, committed, and the disc opened again
unfoldable pub first_block : List ℕ → List Call
first_block b = save_virtual 0 b no_cut ∷ commit no_cut ∷ open_disc ∷ []

-- a disc, just opened with the lent table t, that takes the block b and gives it back
pub record TakesFirst (e : Setting) (d : Disc) (t b : List ℕ) : Type 0 where
  -- the save adds a block at NWA 1, the commit lays its ICB at 2, and opening finds that ICB with nothing above it
  pub answered :
      answers e (after_opening e d t) (first_block b)
      ≡ done (Record.WriteOnce 1 2 0) ∷ done (Record.WriteOnce 1 3 2) ∷ opened (Record.WriteOnce 1 3 2) 0 ∷ []
  -- reading number 0 then shows the bytes
  pub reads : (out : List ℕ) → length out ≡ 2048 → seen e (final e (after_opening e d t) (first_block b)) 0 out ≡ bytes b

-- every write-once disc that was made with three blocks or more, one each for the empty VAT, the block and the new VAT, takes every block
-- that line 15 does not refuse at NWA 1
unfoldable pub OnceLives : Type 0
OnceLives =
    (e : Setting) (d : Disc) (spares t b : List ℕ)
    → write_once e ≡ true
    → make_verdict e d spares ≡ Ok tt
    → 3 ≤ e.span
    → 4096 ≤ length t
    → length b ≡ 2048
    → passes (made e d spares) e.start 1 b ≡ false
    → TakesFirst e (made e d spares) t b
