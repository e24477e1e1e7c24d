-- Pairs of terms whose products have exponents of 16 bits.
use Rattle.std.specs.Prelude.{List, [], ◌∷◌}
use Rattle.polynomials.specs.Monomials.{Monomial, ExponentsFit}
use Rattle.polynomials.specs.Polynomials.{Term}

-- m fits with each monomial of g
abbrev pub FitsEach : Monomial → List Term → Type 0
FitsEach m [] = Unit {0}
FitsEach m (u ∷ g) = ExponentsFit m u.0 × FitsEach m g

-- each monomial of f fits with each of g
abbrev pub PairsFit : List Term → List Term → Type 0
PairsFit [] g = Unit {0}
PairsFit (t ∷ f) g = FitsEach t.0 g × PairsFit f g
