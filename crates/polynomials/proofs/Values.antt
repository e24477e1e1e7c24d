-- Values of polynomials at a point of a ring.
use Rattle.std.proofs.Common.{◌≡◌, ℕ, zero, suc, List, [], ◌∷◌, replicate, refl, sym, ap, ap₂, ◌∙◌}
use Rattle.polynomials.specs.Monomials.{Monomial, monomial_product}
use Rattle.polynomials.specs.Polynomials.{Polynomial, IsPolynomial, sum_of, product_of, difference_of, scaled, constant_of, one_of, term_products}
use Rattle.polynomials.specs.Rings.{Ring, natural_in, power_in, monomial_value, value, HasCharacteristic}
use Rattle.polynomials.proofs.RingLaws.{one-times, times-one, times_four, power_in-add}
use Rattle.polynomials.proofs.WeightedSums.{weighted_sum-multiplicative}
use Rattle.polynomials.proofs.SumsOfOperations.{weighted_sum-collected, weighted_sum-sum_of, weighted_sum-difference_of, weighted_sum-scaled, weighted_sum-constant_of, weighted_sum-monomial}

module _ {A : Type 0} (r : Ring A) where
  open r use {◌⊕◌, ◌⊗◌, nil, one, neg}

  -- the value of a product of monomials is the product of the values
  pub monomial_value-product : (xs : List A) (l m : Monomial) → monomial_value r xs (monomial_product l m) ≡ monomial_value r xs l ⊗ monomial_value r xs m
  monomial_value-product [] l m = sym (one-times r one)
  monomial_value-product (x ∷ xs) [] m = sym (one-times r (monomial_value r (x ∷ xs) m))
  monomial_value-product (x ∷ xs) (d ∷ l) [] = sym (times-one r (monomial_value r (x ∷ xs) (d ∷ l)))
  monomial_value-product (x ∷ xs) (d ∷ l) (e ∷ m) = ap₂ ◌⊗◌ (power_in-add r x d e) (monomial_value-product xs l m) ∙ times_four r (power_in r x d) (power_in r x e) (monomial_value r xs l) (monomial_value r xs m)

  -- the value of the monomial 1
  pub monomial_value-one : (xs : List A) (n : ℕ) → monomial_value r xs (replicate n 0) ≡ one
  monomial_value-one [] n = refl
  monomial_value-one (x ∷ xs) zero = refl
  monomial_value-one (x ∷ xs) (suc n) = one-times r (monomial_value r xs (replicate n 0)) ∙ monomial_value-one xs n

  -- the value of a constant
  pub value-constant_of : (xs : List A) (n c : ℕ) → value r xs (constant_of n c) ≡ natural_in r c
  value-constant_of xs n c = weighted_sum-constant_of r (monomial_value r xs) n c ∙ ap (λ w. natural_in r c ⊗ w) (monomial_value-one xs n) ∙ times-one r (natural_in r c)

  -- and of 1
  pub value-one_of : (xs : List A) (n : ℕ) → value r xs (one_of n) ≡ one
  value-one_of xs n = weighted_sum-monomial r (monomial_value r xs) (replicate n 0) ∙ monomial_value-one xs n

  module _ (p : ℕ) (characteristic : HasCharacteristic r p) (xs : List A) where
    -- values follow the operations
    pub value-sum_of : (f g : Polynomial) → value r xs (sum_of p f g) ≡ value r xs f ⊕ value r xs g
    value-sum_of = weighted_sum-sum_of r p characteristic (monomial_value r xs)

    -- the product
    pub value-product_of : (f g : Polynomial) → value r xs (product_of p f g) ≡ value r xs f ⊗ value r xs g
    value-product_of f g = weighted_sum-collected r p characteristic (monomial_value r xs) (term_products f g) ∙ weighted_sum-multiplicative r (monomial_value r xs) (monomial_value-product xs) f g

    -- the difference
    pub value-difference_of : (n : ℕ) (f g : Polynomial) → IsPolynomial p n g → value r xs (difference_of p f g) ≡ value r xs f ⊕ neg (value r xs g)
    value-difference_of = weighted_sum-difference_of r p characteristic (monomial_value r xs)

    -- the multiple by a residue
    pub value-scaled : (c : ℕ) (f : Polynomial) → value r xs (scaled p c f) ≡ natural_in r c ⊗ value r xs f
    value-scaled = weighted_sum-scaled r p characteristic (monomial_value r xs)
