-- Sparse polynomials over the residues modulo p, and their ring operations.
use Rattle.std.specs.Prelude.{◌≡◌, ℕ, zero, suc, ◌+◌, ◌*◌, ◌-◌, ◌%◌, ◌<◌, Bool, true, false, eqb, ◌&&◌, List, [], ◌∷◌, ◌++◌, length, map, replicate, set}
use Rattle.std.specs.declared.cmp.Ordering.{Ordering}
use Rattle.std.specs.declared.cmp.Ordering.TheVariants.{Less, Equal, Greater}
use Rattle.polynomials.specs.Monomials.{Monomial, monomial_order, monomial_product, same_monomial}
use Rattle.polynomials.specs.Primes.{inverse_of}

-- a monomial and its coefficient
abbrev pub Term : Type 0
Term = Monomial × ℕ

-- the term of a monomial and a coefficient
abbrev pub term : Monomial → ℕ → Term
term m c = (m, c)

-- a polynomial: its terms, the greatest monomial first
abbrev pub Polynomial : Type 0
Polynomial = List Term

-- the first monomial of f, where there is one, is less than m
abbrev pub StartsBelow : Monomial → Polynomial → Type 0
StartsBelow m [] = Unit {0}
StartsBelow m (u ∷ f) = monomial_order u.0 m ≡ Less

-- canonical form: n exponents a term, coefficients from 1 to p - 1, strictly falling monomials
abbrev pub IsPolynomial : ℕ → ℕ → Polynomial → Type 0
IsPolynomial p n [] = Unit {0}
IsPolynomial p n (t ∷ f) =
    (length t.0 ≡ n) × (0 < t.1) × (t.1 < p) × StartsBelow t.0 f × IsPolynomial p n f

-- each of them is in canonical form
abbrev pub ArePolynomials : ℕ → ℕ → List Polynomial → Type 0
ArePolynomials p n [] = Unit {0}
ArePolynomials p n (f ∷ fs) = IsPolynomial p n f × ArePolynomials p n fs

-- a term before f, left out where its coefficient is 0
abbrev pub with_first : Term → Polynomial → Polynomial
with_first t f = elim (t.1) [ zero ↦ f | suc c ↦ t ∷ f ]

-- t added to u ∷ f, by how t's monomial compares with u's; later is t added to f
abbrev pub added_beside : ℕ → Term → Term → Polynomial → Polynomial → Ordering → Polynomial
added_beside p t u f later Greater = with_first (term t.0 (t.1 % p)) (u ∷ f)
added_beside p t u f later Equal = with_first (term u.0 ((t.1 + u.1) % p)) f
added_beside p t u f later Less = u ∷ later

-- f with one term added
abbrev pub with_term : ℕ → Term → Polynomial → Polynomial
with_term p t [] = with_first (term t.0 (t.1 % p)) []
with_term p t (u ∷ f) = added_beside p t u f (with_term p t f) (monomial_order t.0 u.0)

-- the sum of terms in any order: the coefficients of equal monomials are added, zeros dropped
abbrev pub collected : ℕ → List Term → Polynomial
collected p [] = []
collected p (t ∷ ts) = with_term p t (collected p ts)

-- the sum
abbrev pub sum_of : ℕ → Polynomial → Polynomial → Polynomial
sum_of p f g = collected p (f ++ g)

-- the product of two terms
abbrev pub term_product : Term → Term → Term
term_product t u = term (monomial_product t.0 u.0) (t.1 * u.1)

-- the products of each term of f by each of g
abbrev pub term_products : List Term → List Term → List Term
term_products [] g = []
term_products (t ∷ f) g = map (term_product t) g ++ term_products f g

-- the product
abbrev pub product_of : ℕ → Polynomial → Polynomial → Polynomial
product_of p f g = collected p (term_products f g)

-- the term with the opposite coefficient
abbrev pub opposite_term : ℕ → Term → Term
opposite_term p t = term t.0 (p - t.1)

-- the negative of f
abbrev pub negative_of : ℕ → Polynomial → Polynomial
negative_of p f = map (opposite_term p) f

-- the difference
abbrev pub difference_of : ℕ → Polynomial → Polynomial → Polynomial
difference_of p f g = sum_of p f (negative_of p g)

-- the constant c in n variables, for a residue c
abbrev pub constant_of : ℕ → ℕ → Polynomial
constant_of n c = with_first (term (replicate n 0) c) []

-- the polynomial 1 in n variables
abbrev pub one_of : ℕ → Polynomial
one_of n = term (replicate n 0) 1 ∷ []

-- the variable v to the power e, in n variables
abbrev pub variable_power : ℕ → ℕ → ℕ → Polynomial
variable_power n v e = term (set (replicate n 0) v e) 1 ∷ []

-- the term times the residue c
abbrev pub scaled_term : ℕ → ℕ → Term → Term
scaled_term p c t = term t.0 (c * t.1 % p)

-- f times a residue c other than 0
abbrev pub scaled : ℕ → ℕ → Polynomial → Polynomial
scaled p c f = map (scaled_term p c) f

-- f divided by the coefficient of its greatest monomial; 0 stays
abbrev pub monic : ℕ → Polynomial → Polynomial
monic p [] = []
monic p (t ∷ f) = scaled p (inverse_of p t.1) (t ∷ f)

-- f is 0
abbrev pub is_zero : Polynomial → Bool
is_zero [] = true
is_zero (t ∷ f) = false

-- both have the same terms
abbrev pub same_polynomial : Polynomial → Polynomial → Bool
same_polynomial [] [] = true
same_polynomial [] (u ∷ g) = false
same_polynomial (t ∷ f) [] = false
same_polynomial (t ∷ f) (u ∷ g) = same_monomial t.0 u.0 && (eqb t.1 u.1 && same_polynomial f g)
