-- `fields::has_regid` meets its contract. The loop's invariant: whether the bytes so far are the same. Assumes nothing.
use Rattle.std.proofs.Common.{◌≡◌, take}
use Rattle.fields.specs.Bytes.{part, same}
use Rattle.fields.proofs.has_regid.Given as goal

abbrev pub invariant-loop-i : goal.invariant-loop-i
invariant-loop-i l = l.alike ≡ same (part l.s l.at l.i) (take l.i l.regid)
