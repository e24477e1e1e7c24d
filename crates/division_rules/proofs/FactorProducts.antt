-- What was divided away is a product of members of the list.
use Rattle.std.proofs.Common.{◌≡◌, ℕ, List, [], ◌∷◌, Some, All, Contains, sym, ap, ◌∙◌}
use Rattle.std.proofs.lemmas.List.Elements.{All-nil, All-cons, All-head, All-tail}
use Rattle.polynomials.specs.Primes.{IsPrime}
use Rattle.polynomials.specs.Polynomials.{Polynomial, IsPolynomial, ArePolynomials, product_of}
use Rattle.polynomials.specs.Rings.{Ring}
use Rattle.polynomials.proofs.RingLaws.{times-one, times_comm, times_assoc}
use Rattle.polynomials.proofs.PolynomialRing.{polynomial_ring}
use Rattle.division_rules.specs.Quotients.{quotient_within, without_factors}
use Rattle.division_rules.specs.Factors.{IsProductByMembers}
use Rattle.division_rules.specs.Lists.{list_operations}
use Rattle.division_rules.specs.Points.{product_of_all}
use Rattle.division_rules.proofs.Quotients.{quotient_within_exact}
use Rattle.division_rules.proofs.Factors.{IsPolynomial-member, IsPolynomial-product_of_all, without_factors_relates}

-- a list of members of canonical polynomials is one of canonical polynomials
pub ArePolynomials-members : (p n : ℕ) (bs cs : List Polynomial) → ArePolynomials p n bs → All (Contains bs) cs → ArePolynomials p n cs
ArePolynomials-members p n bs [] are members = tt
ArePolynomials-members p n bs (c ∷ cs) are members = (IsPolynomial-member p n bs c are (All-head (Contains bs) c cs members), ArePolynomials-members p n bs cs are (All-tail (Contains bs) c cs members))

-- the first factor of two can be the last of the whole
factor_last : {A : Type 0} (r : Ring A) (x y z : A) → r.◌⊗◌ x (r.◌⊗◌ y z) ≡ r.◌⊗◌ (r.◌⊗◌ x z) y
factor_last r x y z = ap (r.◌⊗◌ x) (times_comm r y z) ∙ sym (times_assoc r x z y)

module _ (p n w : ℕ) (prime : IsPrime p) (bs : List Polynomial) (are : ArePolynomials p n bs) where
  -- each polynomial is itself times no member
  product_by_none : (f : Polynomial) → IsPolynomial p n f → IsProductByMembers p n bs f f
  product_by_none f i = ([], All-nil (Contains bs), ap (λ x. x.0) (times-one (polynomial_ring p n prime.many) (f, i)))

  -- a dividend has one member more than its quotient
  product_by_one_more : (b f q g : Polynomial) → Contains bs b → IsPolynomial p n g → quotient_within p w f b ≡ Some q → IsProductByMembers p n bs q g → IsProductByMembers p n bs f g
  product_by_one_more b f q g member ig e h = (b ∷ h.0, All-cons (Contains bs) b h.0 member h.1, multiplied)
    where
      ib : IsPolynomial p n b
      ib = IsPolynomial-member p n bs b are member

      product : IsPolynomial p n (product_of_all (list_operations p n) h.0)
      product = IsPolynomial-product_of_all p n prime.many h.0 (ArePolynomials-members p n bs h.0 are h.1)

      multiplied : product_of p g (product_of p b (product_of_all (list_operations p n) h.0)) ≡ f
      multiplied = ap (λ x. x.0) (factor_last (polynomial_ring p n prime.many) (g, ig) (b, ib) (product_of_all (list_operations p n) h.0, product)) ∙ ap (λ x. product_of p x b) h.2 ∙ quotient_within_exact p w f b q e

  -- f is its form without the members times a product of members
  pub without_factors_product : (f : Polynomial) → IsPolynomial p n f → IsProductByMembers p n bs f (without_factors p w bs f)
  without_factors_product f i = (without_factors_relates p n w prime bs (λ x y. IsPolynomial p n y × IsProductByMembers p n bs x y) (λ x j. (j, product_by_none x j)) (λ b x q y member c ib j e h. (h.0, product_by_one_more b x q y member h.0 e h.1)) are f i).1
