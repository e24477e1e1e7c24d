-- Products that fit a width, and powers made by them.
use Rattle.std.specs.Prelude.{ℕ, zero, suc, ◌*◌, max, Bool, true, false, ◌&&◌, ◌||◌, leb, [], ◌∷◌, length, Option, Some, None}
use Rattle.polynomials.specs.Monomials.{Monomial, monomial_product}
pub use Rattle.polynomials.specs.Monomials.{most_exponent}
use Rattle.polynomials.specs.Polynomials.{Polynomial, product_of, one_of, is_zero}
use Rattle.polynomials.specs.Sums.{power_by}

-- the greater exponent of each variable
abbrev pub greater_exponents : Monomial → Monomial → Monomial
greater_exponents [] m = m
greater_exponents (d ∷ l) [] = d ∷ l
greater_exponents (d ∷ l) (e ∷ m) = max d e ∷ greater_exponents l m

-- the degree of f in each variable
abbrev pub degrees : Polynomial → Monomial
degrees [] = []
degrees (t ∷ f) = greater_exponents t.0 (degrees f)

-- no exponent is greater than the greatest that is allowed
abbrev pub is_exponent_list : Monomial → Bool
is_exponent_list [] = true
is_exponent_list (e ∷ m) = leb e most_exponent && is_exponent_list m

-- f times g fits the width w: a factor is 0, or the numbers of terms have a product of at most w
-- and in each variable the degrees add to at most the greatest exponent
abbrev pub fits : ℕ → Polynomial → Polynomial → Bool
fits w f g =
    is_zero f
    || (is_zero g
    || (leb (length f * length g) w
    && is_exponent_list (monomial_product (degrees f) (degrees g))))

-- the product, where it fits
abbrev pub product_within : ℕ → ℕ → Polynomial → Polynomial → Option Polynomial
product_within p w f g = elim (fits w f g) [ true ↦ Some (product_of p f g) | false ↦ None ]

-- f to the power e, in n variables
abbrev pub power_of : ℕ → ℕ → Polynomial → ℕ → Polynomial
power_of p n f e = power_by (one_of n) (product_of p) f e

-- the product by f of what was made so far, where there is any and it fits
abbrev pub product_so_far : ℕ → ℕ → Polynomial → Option Polynomial → Option Polynomial
product_so_far p w f None = None
product_so_far p w f (Some g) = product_within p w g f

-- f to the power e, where each product on the way fits
abbrev pub power_within : ℕ → ℕ → ℕ → Polynomial → ℕ → Option Polynomial
power_within p n w f zero = Some (one_of n)
power_within p n w f (suc zero) = Some f
power_within p n w f (suc (suc e)) = product_so_far p w f (power_within p n w f (suc e))
