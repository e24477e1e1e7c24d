-- Monic forms have the degrees of the polynomial, and leads that are multiples by constants.
use Rattle.std.proofs.Common.{◌≡◌, ◌≢◌, ℕ, ◌<◌, [], ◌∷◌, refl, sym, ap, ◌∙◌, arith}
use Rattle.polynomials.specs.Primes.{IsPrime}
use Rattle.polynomials.specs.Polynomials.{Polynomial, IsPolynomial, product_of, constant_of, monic}
use Rattle.polynomials.specs.Views.{degree_in, lead_in}
use Rattle.polynomials.proofs.Canonical.{IsPolynomial-constant_of}
use Rattle.polynomials.proofs.ConstantLemmas.{constant_of_nonzero, constant_of_free, constant_of-product_of}
use Rattle.polynomials.proofs.DegreesOfProducts.{degree_of_product, lead_of_product}
use Rattle.polynomials.proofs.MonicLemmas.{IsPolynomial-monic, scaled-monic}

module _ (p n : ℕ) (prime : IsPrime p) where
  -- a polynomial is a constant times its monic form
  pub constant_times_monic : (f : Polynomial) → IsPolynomial p n f → f ≢ [] → (c : ℕ) × (0 < c) × (c < p) × (product_of p (constant_of n c) (monic p f) ≡ f)
  constant_times_monic [] i some = absurd (some refl)
  constant_times_monic (t ∷ f) i some = (t.1, i.1, i.2, constant_of-product_of p n t.1 (monic p (t ∷ f)) prime i.1 i.2 (IsPolynomial-monic p n (t ∷ f) prime i) ∙ scaled-monic p n t f prime i)

  -- so degrees are the same
  pub degree_in-monic : (v : ℕ) (f : Polynomial) → IsPolynomial p n f → degree_in v (monic p f) ≡ degree_in v f
  degree_in-monic v [] i = refl
  degree_in-monic v (t ∷ f) i =
      let parts = constant_times_monic (t ∷ f) i (λ e. cc) in
      let monic_form = IsPolynomial-monic p n (t ∷ f) prime i in
      let adds = degree_of_product p n v (constant_of n parts.0) (monic p (t ∷ f)) prime (IsPolynomial-constant_of p n parts.0 parts.2) monic_form (constant_of_nonzero n parts.0 parts.1) (λ e. cc) in
      let whole = ap (degree_in v) parts.3 in
      let none = constant_of_free v n parts.0 in
      omega arith

  -- and the lead is a multiple of that of the monic form
  pub lead_in-monic : (v : ℕ) (f : Polynomial) → IsPolynomial p n f → f ≢ [] → (u : Polynomial) × (product_of p u (lead_in v (monic p f)) ≡ lead_in v f)
  lead_in-monic v f i some =
      let parts = constant_times_monic f i some in
      (lead_in v (constant_of n parts.0), sym (lead_of_product p n v (constant_of n parts.0) (monic p f) prime (IsPolynomial-constant_of p n parts.0 parts.2) (IsPolynomial-monic p n f prime i)) ∙ ap (lead_in v) parts.3)
