-- `vat_scan::scan` meets its contract. The loop's invariant: the blocks below `end` give what all give. Assumes nothing.
use Prim.Native.Nat.{◌≤◌}
use mathlib.Core.Path.{◌≡◌}
use Rattle.model.specs.Disc.{disc}
use Rattle.model.specs.Vat.{scan}
use Rattle.vat_scan.proofs.scan.Given as goal

abbrev pub invariant-scan : goal.invariant-scan
invariant-scan l = (l.end.0 ≤ l.initial.end.0) × (scan (disc l.disc l.marks) l.s l.end.0 ≡ scan (disc l.disc l.marks) l.s l.initial.end.0)

abbrev pub decreases-scan : goal.decreases-scan
decreases-scan l = l.end.0
