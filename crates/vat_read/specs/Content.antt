-- The file of a File Entry on a lent disc, as its bytes (document 01, "The VAT and its ICB").
use Rattle.std.specs.Prelude.{ℕ, List}
use Rattle.vat_read.specs.declared.File.{File}
use Rattle.vat_read.specs.File.{file_in}

-- all of them
abbrev pub content : File → List ℕ
content f = file_in f.disc.now f.s f.entry.icb.bytes.now
