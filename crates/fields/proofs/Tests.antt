-- Laws of tests, alone and joined by &&. Assumes nothing.
use mathlib.Core.Path.{◌≡◌, refl, sym}
use mathlib.Core.Bool.{Bool, true, false, ◌&&◌}
-- both of two tests hold; and a test turned round
pub use Rattle.std.proofs.lemmas.Bool.{and_parts as both, not-true, not-false}

-- two tests that hold do so together
pub together : {a b : Bool} → a ≡ true → b ≡ true → a && b ≡ true
together p q = rw (p, q)

-- a test that does not hold, before others
pub fails : {a : Bool} (b : Bool) → a ≡ false → false ≡ a && b
fails b p = rw p

-- a test that holds, before others
pub holds : {a b x : Bool} → a ≡ true → x ≡ b → x ≡ a && b
holds p q = rw p q

-- tests that hold in the same cases are the same
pub alike : (a b : Bool) → (a ≡ true → b ≡ true) → (b ≡ true → a ≡ true) → a ≡ b
alike true b f g = sym (f refl)
alike false true f g = g refl
alike false false f g = refl

-- a test holds or does not
pub by-test : {P : Type 0} (b : Bool) → (b ≡ true → P) → (b ≡ false → P) → P
by-test true f g = f refl
by-test false f g = g refl
