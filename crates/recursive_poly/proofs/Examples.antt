-- The definitions, tried by computation on polynomials in x and y modulo 5.
use Rattle.std.proofs.Common.{◌≡◌, ◌^◌, [], ◌∷◌, refl}
use Rattle.polynomials.specs.Polynomials.{Polynomial, term}
use Rattle.recursive_poly.specs.Recursive.{coefficients_in, recursive_in, polynomial_of}

-- x y^2 + y + 1
abbrev f : Polynomial
f = term (1 ∷ 2 ∷ []) 1 ∷ term (0 ∷ 1 ∷ []) 1 ∷ term (0 ∷ 0 ∷ []) 1 ∷ []

-- 1, x, y + 1, y^2 and 3 y^2 + 4
abbrev one : Polynomial
one = term (0 ∷ 0 ∷ []) 1 ∷ []

abbrev x : Polynomial
x = term (1 ∷ 0 ∷ []) 1 ∷ []

abbrev y_plus_one : Polynomial
y_plus_one = term (0 ∷ 1 ∷ []) 1 ∷ term (0 ∷ 0 ∷ []) 1 ∷ []

abbrev y_squared : Polynomial
y_squared = term (0 ∷ 2 ∷ []) 1 ∷ []

abbrev with_a_gap : Polynomial
with_a_gap = term (0 ∷ 2 ∷ []) 3 ∷ term (0 ∷ 0 ∷ []) 4 ∷ []

in_y : coefficients_in 1 f ≡ one ∷ one ∷ x ∷ []
in_y = refl

in_x : coefficients_in 0 f ≡ y_plus_one ∷ y_squared ∷ []
in_x = refl

of_zero : coefficients_in 1 [] ≡ []
of_zero = refl

of_one : coefficients_in 1 one ≡ one ∷ []
of_one = refl

-- a power that doesn't occur has the coefficient 0
gap_in_y : coefficients_in 1 with_a_gap ≡ (term (0 ∷ 0 ∷ []) 4 ∷ []) ∷ [] ∷ (term (0 ∷ 0 ∷ []) 3 ∷ []) ∷ []
gap_in_y = refl

back_from_y : polynomial_of 5 2 (record { variable = 1; coefficients = one ∷ one ∷ x ∷ [] }) ≡ f
back_from_y = refl

back_from_x : polynomial_of 5 2 (record { variable = 0; coefficients = y_plus_one ∷ y_squared ∷ [] }) ≡ f
back_from_x = refl

-- the modulus doesn't matter, as long as it is greater than the coefficients
back_modulo_more : polynomial_of (2 ^ 32) 2 (recursive_in 1 with_a_gap) ≡ with_a_gap
back_modulo_more = refl
