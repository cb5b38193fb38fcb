-- The ways to hold a file (document 01, "The VAT and its ICB": "the low three bits of byte 34").
use Rattle.std.specs.Prelude.{ℕ}
use Rattle.vat_icb.specs.declared.Form.{Form}
use Rattle.vat_icb.specs.declared.Form.TheVariants.{ShortAds, Embedded}

-- the number of each
abbrev pub form_number : Form → ℕ
form_number ShortAds = 0
form_number Embedded = 3
