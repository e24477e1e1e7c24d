-- Systems: polynomials that are to vanish, and polynomials that must not.
use Rattle.std.specs.Prelude.{ℕ, List}
use Rattle.polynomials.specs.Polynomials.{Polynomial}
use Rattle.zero_sets.specs.Domains.{Tables}
use Rattle.zero_sets.specs.ZeroSets.{InZeroSet, AreNonZero}

-- polynomials modulo a prime whose common zeros are sought, and polynomials that must not vanish
-- there
pub record PolynomialSystem : Type 0 where
  pub prime : ℕ
  pub inputs : List Polynomial
  pub nonzero : List Polynomial

-- the point is a solution: it makes each input zero, and no polynomial that must not vanish
abbrev pub IsSolution : Tables → List ℕ → PolynomialSystem → Type 0
IsSolution r xs system = InZeroSet r xs system.inputs × AreNonZero r xs system.nonzero
