-- Exact quotients of polynomials by division from the greatest term down, and removal of factors.
use Rattle.std.specs.Prelude.{ℕ, zero, suc, ◌*◌, ◌-◌, ◌%◌, Bool, true, false, ◌&&◌, leb, List, [], ◌∷◌, Option, Some, None, sum}
use Rattle.polynomials.specs.Primes.{inverse_of}
use Rattle.polynomials.specs.Monomials.{Monomial}
use Rattle.polynomials.specs.Polynomials.{Term, term, Polynomial, collected, product_of, difference_of, same_polynomial}
use Rattle.polynomials.specs.Views.{is_constant}
use Rattle.polynomials.specs.Fits.{fits, degrees}

-- l divides m: no exponent of l is greater than that of m
abbrev pub monomial_divides : Monomial → Monomial → Bool
monomial_divides [] m = true
monomial_divides (d ∷ l) [] = false
monomial_divides (d ∷ l) (e ∷ m) = leb d e && monomial_divides l m

-- m divided by l: exponents are taken away
abbrev pub monomial_over : Monomial → Monomial → Monomial
monomial_over [] l = []
monomial_over (e ∷ m) [] = e ∷ m
monomial_over (e ∷ m) (d ∷ l) = (e - d) ∷ monomial_over m l

-- t divided by u
abbrev pub term_over : ℕ → Term → Term → Term
term_over p t u = term (monomial_over t.0 u.0) (t.1 * inverse_of p u.1 % p)

-- the terms of the quotient of f by u ∷ g, from the greatest down: at most k of them, and while the
-- first term of what is left is a multiple of u
abbrev pub quotient_terms : ℕ → Term → Polynomial → ℕ → Polynomial → List Term
quotient_terms p u g zero f = []
quotient_terms p u g (suc k) [] = []
quotient_terms p u g (suc k) (t ∷ f) = elim (monomial_divides u.0 t.0) [
  | true ↦ term_over p t u
      ∷ quotient_terms p u g k
      (difference_of p (t ∷ f) (product_of p (term_over p t u ∷ []) (u ∷ g)))
  | false ↦ []
]

-- q, where it is the quotient of f by g and fits
abbrev pub tested_quotient : ℕ → ℕ → Polynomial → Polynomial → Polynomial → Option Polynomial
tested_quotient p w f g q =
    elim (same_polynomial (product_of p q g) f && fits w q g) [ true ↦ Some q | false ↦ None ]

-- the quotient of f by g that fits the width, where there is one; it has at most w terms
abbrev pub quotient_within : ℕ → ℕ → Polynomial → Polynomial → Option Polynomial
quotient_within p w f [] = None
quotient_within p w f (u ∷ g) =
    tested_quotient p w f (u ∷ g) (collected p (quotient_terms p u g (suc w) f))

-- the quotient, or f where there is none
abbrev pub divided_once : Polynomial → Option Polynomial → Polynomial
divided_once f None = f
divided_once f (Some q) = q

-- f divided by b as often as it has a quotient, k times at most
abbrev pub without_factor : ℕ → ℕ → Polynomial → ℕ → Polynomial → Polynomial
without_factor p w b zero f = f
without_factor p w b (suc k) f =
    elim (quotient_within p w f b) [ None ↦ f | Some q ↦ without_factor p w b k q ]

-- 1 and the sum of the degrees of f: more than any number of factors that aren't constant
abbrev pub factor_bound : Polynomial → ℕ
factor_bound f = suc (sum (degrees f))

-- f divided by each member of a list in turn, as often as it has a quotient; constants are passed
-- over
abbrev pub without_factors : ℕ → ℕ → List Polynomial → Polynomial → Polynomial
without_factors p w [] f = f
without_factors p w (b ∷ bs) f =
    elim (is_constant b) [
      | true ↦ without_factors p w bs f
      | false ↦ without_factors p w bs (without_factor p w b (factor_bound f) f)
    ]
