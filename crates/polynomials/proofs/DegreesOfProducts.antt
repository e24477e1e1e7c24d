-- Over a prime field degrees add and leads multiply.
use Rattle.std.proofs.Common.{◌≡◌, ◌≢◌, ℕ, ◌+◌, ◌<◌, ◌≤◌, [], ◌∷◌, refl, sym, ap, ◌∙◌, arith}
use Rattle.polynomials.specs.Primes.{IsPrime}
use Rattle.polynomials.specs.Monomials.{exponent_of}
use Rattle.polynomials.specs.Polynomials.{Polynomial, IsPolynomial, sum_of, product_of}
use Rattle.polynomials.specs.Views.{degree_in, coefficient_in, lead_in, IsFreeOf}
use Rattle.polynomials.specs.Laws.{DegreeOfProduct, LeadOfProduct, FreenessIsKept, FactorsAreFree}
use Rattle.polynomials.proofs.Monomialwise.{EachMonomial, EachMonomial-implied}
use Rattle.polynomials.proofs.Coefficients.{IsPolynomial-coefficient_in}
use Rattle.polynomials.proofs.CoefficientsOfOperations.{coefficient_in-product_by, adds_at_bounds, adds_with_zero}
use Rattle.polynomials.proofs.Integral.{product_of_nonzero, product_of-zero, factors_nonzero}
use Rattle.polynomials.proofs.Degrees.{DegreeAtMost-from_degree, degree_in-sum_of, degree_in-product_of, degree_in_reached, lead_in_nonzero, coefficient_in_itself}

module _ (p n v : ℕ) where
  module _ (positive : 0 < p) where
    -- the coefficient of a product at the sum of two bounds
    pub coefficient_in-product_of : (d e : ℕ) (f g : Polynomial) → IsPolynomial p n f → IsPolynomial p n g → degree_in v f ≤ d → degree_in v g ≤ e → coefficient_in v (d + e) (product_of p f g) ≡ product_of p (coefficient_in v d f) (coefficient_in v e g)
    coefficient_in-product_of d e f g i j a b = coefficient_in-product_by v d e (d + e) (λ x. x ≤ d) (λ y. y ≤ e) (adds_at_bounds d e) p n positive f g i j (DegreeAtMost-from_degree v d f a) (DegreeAtMost-from_degree v e g b)

    -- a factor without v stays outside
    pub coefficient_in-product_free : (e : ℕ) (f g : Polynomial) → IsPolynomial p n f → IsPolynomial p n g → IsFreeOf v f → coefficient_in v e (product_of p f g) ≡ product_of p f (coefficient_in v e g)
    coefficient_in-product_free e f g i j free = coefficient_in-product_by v 0 e e (λ x. x ≡ 0) (λ y. Unit {0}) (adds_with_zero e) p n positive f g i j (EachMonomial-implied (λ m. exponent_of v m ≤ 0) (λ m. exponent_of v m ≡ 0) (λ m h. omega arith) f (DegreeAtMost-from_degree v 0 f (omega arith))) (everywhere g) ∙ ap (λ x. product_of p x (coefficient_in v e g)) (coefficient_in_itself v f free)
      where
        everywhere : (g : Polynomial) → EachMonomial (λ m. Unit {0}) g
        everywhere [] = tt
        everywhere (u ∷ g) = (tt, everywhere g)

  -- the leads of factors other than 0 have a product other than 0
  pub leads_nonzero : (f g : Polynomial) → IsPrime p → IsPolynomial p n f → IsPolynomial p n g → f ≢ [] → g ≢ [] → product_of p (lead_in v f) (lead_in v g) ≢ []
  leads_nonzero f g prime i j hf hg = product_of_nonzero p n (lead_in v f) (lead_in v g) prime (IsPolynomial-coefficient_in v (degree_in v f) p n f i) (IsPolynomial-coefficient_in v (degree_in v g) p n g j) (lead_in_nonzero v f hf) (lead_in_nonzero v g hg)

  module _ (prime : IsPrime p) where
    positive : 0 < p
    positive = omega (arith, prime.many)

    top_of_product : (f g : Polynomial) → IsPolynomial p n f → IsPolynomial p n g → coefficient_in v (degree_in v f + degree_in v g) (product_of p f g) ≡ product_of p (lead_in v f) (lead_in v g)
    top_of_product f g i j = coefficient_in-product_of positive (degree_in v f) (degree_in v g) f g i j (omega arith) (omega arith)

    -- degrees add
    pub degree_adds : (f g : Polynomial) → IsPolynomial p n f → IsPolynomial p n g → f ≢ [] → g ≢ [] → degree_in v (product_of p f g) ≡ degree_in v f + degree_in v g
    degree_adds f g i j hf hg = degree_in_reached v (degree_in v f + degree_in v g) (product_of p f g) (degree_in-product_of v p (degree_in v f) (degree_in v g) f g (omega arith) (omega arith)) (λ e. leads_nonzero f g prime i j hf hg (sym (top_of_product f g i j) ∙ e))

    lead_multiplies_nonzero : (f g : Polynomial) → IsPolynomial p n f → IsPolynomial p n g → f ≢ [] → g ≢ [] → lead_in v (product_of p f g) ≡ product_of p (lead_in v f) (lead_in v g)
    lead_multiplies_nonzero f g i j hf hg = ap (λ k. coefficient_in v k (product_of p f g)) (degree_adds f g i j hf hg) ∙ top_of_product f g i j

    -- leads multiply
    pub lead_multiplies : (f g : Polynomial) → IsPolynomial p n f → IsPolynomial p n g → lead_in v (product_of p f g) ≡ product_of p (lead_in v f) (lead_in v g)
    lead_multiplies [] g i j = refl
    lead_multiplies (t ∷ f) [] i j = ap (lead_in v) (product_of-zero p (t ∷ f)) ∙ sym (product_of-zero p (lead_in v (t ∷ f)))
    lead_multiplies (t ∷ f) (u ∷ g) i j = lead_multiplies_nonzero (t ∷ f) (u ∷ g) i j (λ e. cc) (λ e. cc)

-- the law of degrees
pub degree_of_product : DegreeOfProduct
degree_of_product p n v f g prime i j hf hg = degree_adds p n v prime f g i j hf hg

-- the law of leads
pub lead_of_product : LeadOfProduct
lead_of_product p n v f g prime i j = lead_multiplies p n v prime f g i j

-- sums and products of polynomials without v are without v
pub sum_is_free : (p v : ℕ) (f g : Polynomial) → IsFreeOf v f → IsFreeOf v g → IsFreeOf v (sum_of p f g)
sum_is_free p v f g h i =
    let bound = degree_in-sum_of v p 0 f g (omega arith) (omega arith) in
    omega arith

-- products of polynomials without v are without v
pub product_is_free : (p v : ℕ) (f g : Polynomial) → IsFreeOf v f → IsFreeOf v g → IsFreeOf v (product_of p f g)
product_is_free p v f g h i =
    let bound = degree_in-product_of v p 0 0 f g (omega arith) (omega arith) in
    omega arith

-- the law of freeness
pub freeness_is_kept : FreenessIsKept
freeness_is_kept p n v f g i j h k = (sum_is_free p v f g h k, product_is_free p v f g h k)

-- the factors of a product without v are without v
pub factors_are_free : FactorsAreFree
factors_are_free p n v f g prime i j nonzero free =
    let factors = factors_nonzero p f g nonzero in
    let adds = degree_adds p n v prime f g i j factors.0 factors.1 in
    (omega arith, omega arith)
