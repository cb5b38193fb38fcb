-- The pieces that the file of a VAT is written in (document 01, "The VAT and its ICB"), between the whole file that the model defines and
-- the lent bytes that one function writes.
use Rattle.std.specs.Prelude.{ℕ, ◌+◌, ◌*◌, List, ◌++◌}
use Rattle.fields.specs.Bytes.{part}
use Rattle.fields.specs.Number.{digits}
use Rattle.fields.specs.Regid.{regid}
use Rattle.model.specs.Vat.{vat_name}
use Rattle.model.specs.VatWritten.{written_file, filled}

-- what stands straight after the last entry: the regid and the previous ICB ("The VAT and its ICB")
unfoldable pub tail : ℕ → List ℕ
tail previous = regid vat_name ++ digits 4 previous

-- the w bytes of b from `from` on, zeros past its end ("every byte not named is 0")
unfoldable pub onward : List ℕ → ℕ → ℕ → List ℕ
onward b from w = part (filled (from + w) b) from w

-- w bytes of the file, from where entry number `first` stands or would stand ("d sectors holding F bytes then zeros")
unfoldable pub file_from : List ℕ → ℕ → ℕ → ℕ → List ℕ
file_from t previous first w = onward (written_file t previous) (4 * first) w
