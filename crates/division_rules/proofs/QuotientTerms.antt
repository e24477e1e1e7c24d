-- Division from the greatest term down finds the factor of a product.
use Rattle.std.proofs.Common.{◌≡◌, ℕ, zero, suc, ◌*◌, ◌%◌, ◌<◌, ◌≤◌, Bool, true, false, List, [], ◌∷◌, length, refl, sym, ap, ◌∙◌, arith}
use Rattle.polynomials.specs.Primes.{IsPrime}
use Rattle.polynomials.specs.Monomials.{monomial_product}
use Rattle.polynomials.specs.Polynomials.{Term, term, Polynomial, IsPolynomial, product_of, difference_of, term_products}
use Rattle.polynomials.specs.Rings.{Ring}
use Rattle.polynomials.proofs.RingLaws.{plus_comm, plus_assoc, plus-nil, plus-neg, plus-times}
use Rattle.polynomials.proofs.Monomialwise.{HaveLength, HaveLength-from_IsPolynomial, HaveLength-term_products}
use Rattle.polynomials.proofs.Canonical.{IsPolynomial-collected, IsPolynomial-difference_of}
use Rattle.polynomials.proofs.SamePolynomials.{collected_itself}
use Rattle.polynomials.proofs.PolynomialRing.{polynomial_ring}
use Rattle.polynomials.proofs.FirstTerms.{first_term_of_product}
use Rattle.division_rules.specs.Quotients.{monomial_divides, term_over, quotient_terms}
use Rattle.division_rules.proofs.TermQuotients.{monomial_divides-product, length-monomial_over, term_over-product}

-- a product of a sum, less the product of its first part
rest_of_sum : {A : Type 0} (r : Ring A) (x y z : A) → r.◌⊕◌ (r.◌⊗◌ (r.◌⊕◌ x y) z) (r.neg (r.◌⊗◌ x z)) ≡ r.◌⊗◌ y z
rest_of_sum r x y z = ap (λ w. r.◌⊕◌ w (r.neg (r.◌⊗◌ x z))) (plus-times r x y z ∙ plus_comm r (r.◌⊗◌ x z) (r.◌⊗◌ y z)) ∙ plus_assoc r (r.◌⊗◌ y z) (r.◌⊗◌ x z) (r.neg (r.◌⊗◌ x z)) ∙ ap (r.◌⊕◌ (r.◌⊗◌ y z)) (plus-neg r (r.◌⊗◌ x z)) ∙ plus-nil r (r.◌⊗◌ y z)

-- a product less that of the first term is the product of the rest
pub product_without_first : (p n : ℕ) → 1 < p → (s : Term) (q g : Polynomial) → IsPolynomial p n (s ∷ q) → IsPolynomial p n g → difference_of p (product_of p (s ∷ q) g) (product_of p (s ∷ []) g) ≡ product_of p q g
product_without_first p n many s q g i j = ap (λ k. difference_of p (product_of p k g) (product_of p (s ∷ []) g)) (sym (collected_itself p n (s ∷ q) i)) ∙ ap (λ x. x.0) (rest_of_sum (polynomial_ring p n many) (s ∷ [], (i.0, i.1, i.2, tt, tt)) (q, i.4) (g, j))

module _ (p n : ℕ) (u : Term) (g : Polynomial) (j : IsPolynomial p n (u ∷ g)) where
  -- one step of the division, with its quotient s of the first terms
  pub quotient_terms-step : (k : ℕ) (t s : Term) (f : Polynomial) → monomial_divides u.0 t.0 ≡ true → term_over p t u ≡ s → quotient_terms p u g (suc k) (t ∷ f) ≡ s ∷ quotient_terms p u g k (difference_of p (t ∷ f) (product_of p (s ∷ []) (u ∷ g)))
  quotient_terms-step k t s f divides over = ap (λ b. elim b as (λ _. List Term) [ true ↦ term_over p t u ∷ quotient_terms p u g k (difference_of p (t ∷ f) (product_of p (term_over p t u ∷ []) (u ∷ g))) | false ↦ [] ]) divides ∙ ap (λ x. x ∷ quotient_terms p u g k (difference_of p (t ∷ f) (product_of p (x ∷ []) (u ∷ g)))) over

  -- the division of a product by u ∷ g finds the other factor
  pub quotient_terms-product : IsPrime p → (k : ℕ) (q : Polynomial) → IsPolynomial p n q → length q ≤ k → quotient_terms p u g k (product_of p q (u ∷ g)) ≡ q
  quotient_terms-product prime zero [] i less = refl
  quotient_terms-product prime (suc k) [] i less = refl
  quotient_terms-product prime zero (s ∷ q) i less = absurd (omega arith)
  quotient_terms-product prime (suc k) (s ∷ q) i less =
      let first = term (monomial_product s.0 u.0) (s.1 * u.1 % p) in
      let start = first_term_of_product p n s u q g prime i j in
      ap (quotient_terms p u g (suc k)) start.1
      ∙ quotient_terms-step k first s start.0 (monomial_divides-product u.0 s.0) (term_over-product p prime s u (i.0 ∙ sym j.0) i.2 j.1 j.2)
      ∙ ap (λ x. s ∷ quotient_terms p u g k (difference_of p x (product_of p (s ∷ []) (u ∷ g)))) (sym start.1)
      ∙ ap (λ x. s ∷ quotient_terms p u g k x) (product_without_first p n prime.many s q (u ∷ g) i j)
      ∙ ap (λ x. s ∷ x) (quotient_terms-product prime k q i.4 (omega arith))

  -- each term of a quotient has n exponents
  pub HaveLength-quotient_terms : 0 < p → (k : ℕ) (f : Polynomial) → IsPolynomial p n f → HaveLength n (quotient_terms p u g k f)
  HaveLength-quotient_terms positive zero f i = tt
  HaveLength-quotient_terms positive (suc k) [] i = tt
  HaveLength-quotient_terms positive (suc k) (t ∷ f) i = go (monomial_divides u.0 t.0) (HaveLength-quotient_terms positive k next (IsPolynomial-difference_of p n positive (t ∷ f) (product_of p (s ∷ []) (u ∷ g)) i multiple))
    where
      s : Term
      s = term_over p t u

      next : Polynomial
      next = difference_of p (t ∷ f) (product_of p (s ∷ []) (u ∷ g))

      s_length : length s.0 ≡ n
      s_length = length-monomial_over t.0 u.0 ∙ i.0

      multiple : IsPolynomial p n (product_of p (s ∷ []) (u ∷ g))
      multiple = IsPolynomial-collected p n positive (term_products (s ∷ []) (u ∷ g)) (HaveLength-term_products n (s ∷ []) (u ∷ g) (s_length, tt) (HaveLength-from_IsPolynomial p n (u ∷ g) j))

      go : (b : Bool) → HaveLength n (quotient_terms p u g k next) → HaveLength n (elim b as (λ _. List Term) [ true ↦ s ∷ quotient_terms p u g k next | false ↦ [] ])
      go true h = (s_length, h)
      go false h = tt
