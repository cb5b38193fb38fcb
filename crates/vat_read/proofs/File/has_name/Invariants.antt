-- `vat_read::File::has_name` meets its contract. The loop's invariant: the first `i` bytes are those of the regid. Assumes nothing.
use mathlib.Core.Path.{◌≡◌}
use lib.ListN.{take}
use Rattle.fields.specs.Bytes.{part}
use Rattle.fields.specs.Regid.{regid}
use Rattle.model.specs.Vat.{vat_name}
use Rattle.vat_read.specs.Content.{content}
use Rattle.vat_read.proofs.File.has_name.Given as goal

abbrev pub invariant-loop-i : goal.invariant-loop-i
invariant-loop-i l = (l.regid ≡ regid vat_name) × (part (content l.self) l.from l.i ≡ take l.i (regid vat_name))
