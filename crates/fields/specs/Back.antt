-- Numbers of several bytes read back. Assumes nothing.
use native.Mathlib.Omega.{arith}
use native.Mathlib.Nat.{pow-suc}
use Rattle.std.specs.Prelude.{ℕ, zero, suc, ◌≡◌, ◌/◌, ◌^◌, ◌<◌}
use Rattle.fields.specs.Number.{value, digits}

-- enough digits of a number have its value
pub value-digits : (w n : ℕ) → n < 256 ^ w → value (digits w n) ≡ n
unfolding value digits
value-digits zero n h = omega arith
value-digits (suc w) n h =
    let l : n / 256 < 256 ^ w = omega (arith, pow-suc 256 w) in
    omega (arith, value-digits w (n / 256) l)
