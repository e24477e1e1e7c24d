-- A product by parts of one factor, and by a single term.
use Rattle.std.proofs.Common.{◌≡◌, ◌<◌, ◌*◌, ◌%◌, ℕ, [], ◌∷◌, ◌++◌, map, length, refl, ap, ap₂, sym, ◌∙◌}
use Rattle.std.proofs.Math.Nat.{mod-lt}
use Rattle.polynomials.specs.Primes.{IsPrime}
use Rattle.polynomials.specs.Monomials.{Monomial, monomial_product}
use Rattle.polynomials.specs.MonomialOrders.{monomial_order-product, length-monomial_product}
use Rattle.polynomials.specs.Polynomials.{Term, term, Polynomial, IsPolynomial, StartsBelow, sum_of, product_of, term_product, term_products}
use Rattle.polynomials.specs.Rings.{Ring, weighted_sum}
use Rattle.polynomials.proofs.NaturalsInRings.{natural_in-mod}
use Rattle.polynomials.proofs.MonicLemmas.{residue_product_positive}
use Rattle.polynomials.proofs.WeightedSums.{weighted_sum-append, weighted_sum-term_products}
use Rattle.polynomials.proofs.SumsOfOperations.{weighted_sum-collected, weighted_sum-sum_of}
use Rattle.polynomials.proofs.Residues.{Residue, residues, residues_characteristic}
use Rattle.polynomials.proofs.Canonical.{IsPolynomial-sum_of, IsPolynomial-product_of}
use Rattle.polynomials.proofs.SamePolynomials.{same_from_sums, SameSums-from_one}
use Rattle.sparse_poly.proofs.Moduli.{positive_modulus}

-- the first of two parts is a polynomial
pub IsPolynomial-append_left : (p n : ℕ) (f g : Polynomial) → IsPolynomial p n (f ++ g) → IsPolynomial p n f
IsPolynomial-append_left p n [] g i = tt
IsPolynomial-append_left p n (t ∷ []) g i = (i.0, i.1, i.2, tt, tt)
IsPolynomial-append_left p n (t ∷ u ∷ f) g i = (i.0, i.1, i.2, i.3, IsPolynomial-append_left p n (u ∷ f) g i.4)

-- and so is the second
pub IsPolynomial-append_right : (p n : ℕ) (f g : Polynomial) → IsPolynomial p n (f ++ g) → IsPolynomial p n g
IsPolynomial-append_right p n [] g i = i
IsPolynomial-append_right p n (t ∷ f) g i = IsPolynomial-append_right p n f g i.4

-- the term t times u, its coefficient reduced
abbrev pub reduced_product : ℕ → Term → Term → Term
reduced_product p t u = term (monomial_product t.0 u.0) (t.1 * u.1 % p)

module _ (p n : ℕ) (prime : IsPrime p) where
  positive : 0 < p
  positive = positive_modulus prime.many

  -- a polynomial times a term starts below the product of what it starts below
  starts_below-times : (t : Term) (m : Monomial) (g : Polynomial) → length m ≡ n → IsPolynomial p n g → StartsBelow m g → StartsBelow (monomial_product t.0 m) (map (reduced_product p t) g)
  starts_below-times t m [] l i s = tt
  starts_below-times t m (u ∷ g) l i s = monomial_order-product t.0 u.0 m (i.0 ∙ sym l) ∙ s

  -- a term times a polynomial is a polynomial as it stands
  pub IsPolynomial-times : (t : Term) (g : Polynomial) → length t.0 ≡ n → 0 < t.1 → t.1 < p → IsPolynomial p n g → IsPolynomial p n (map (reduced_product p t) g)
  IsPolynomial-times t [] l a b i = tt
  IsPolynomial-times t (u ∷ g) l a b i = (
    length-monomial_product n t.0 u.0 l i.0,
    residue_product_positive p prime t.1 u.1 a b i.1 i.2,
    mod-lt (t.1 * u.1) positive,
    starts_below-times t u.0 g i.0 i.4 i.3,
    IsPolynomial-times t g l a b i.4,
  )

  abbrev R : Ring (Residue p)
  R = residues p positive

  -- reducing coefficients keeps weighted sums
  weighted_sum-reduced : (h : Monomial → Residue p) (t : Term) (g : Polynomial) → weighted_sum R h (map (reduced_product p t) g) ≡ weighted_sum R h (map (term_product t) g)
  weighted_sum-reduced h t [] = refl
  weighted_sum-reduced h t (u ∷ g) = ap₂ R.◌⊕◌ (ap (λ w. R.◌⊗◌ w (h (monomial_product t.0 u.0))) (natural_in-mod R p (residues_characteristic p positive) (t.1 * u.1))) (weighted_sum-reduced h t g)

  -- and it is the product by that term
  pub product_of-term : (t : Term) (g : Polynomial) → IsPolynomial p n (t ∷ []) → IsPolynomial p n g → product_of p (t ∷ []) g ≡ map (reduced_product p t) g
  product_of-term t g i j =
      same_from_sums p n _ _
      (IsPolynomial-product_of p n positive (t ∷ []) g i j)
      (IsPolynomial-times t g i.0 i.1 i.2 j)
      (SameSums-from_one p positive _ _ (λ h.
      weighted_sum-collected R p (residues_characteristic p positive) h (term_products (t ∷ []) g)
      ∙ (weighted_sum-append R h (map (term_product t) g) []
      ∙ (R.add_comm (weighted_sum R h (map (term_product t) g)) R.nil
      ∙ (R.nil-add (weighted_sum R h (map (term_product t) g))
      ∙ sym (weighted_sum-reduced h t g))))))

  -- a product by parts of a factor is the sum of the products by the parts
  pub product_of-append : (f g k : Polynomial) → IsPolynomial p n (f ++ g) → IsPolynomial p n k → product_of p (f ++ g) k ≡ sum_of p (product_of p f k) (product_of p g k)
  product_of-append f g k i j =
      same_from_sums p n _ _
      (IsPolynomial-product_of p n positive (f ++ g) k i j)
      (IsPolynomial-sum_of p n positive (product_of p f k) (product_of p g k) (IsPolynomial-product_of p n positive f k (IsPolynomial-append_left p n f g i) j) (IsPolynomial-product_of p n positive g k (IsPolynomial-append_right p n f g i) j))
      (SameSums-from_one p positive _ _ (λ h.
      weighted_product h (f ++ g)
      ∙ (weighted_sum-append R (λ l. weighted_sum R (λ m. h (monomial_product l m)) k) f g
      ∙ (ap₂ R.◌⊕◌ (sym (weighted_product h f)) (sym (weighted_product h g))
      ∙ sym (weighted_sum-sum_of R p (residues_characteristic p positive) h (product_of p f k) (product_of p g k))))))
    where
      weighted_product : (h : Monomial → Residue p) (f : Polynomial) → weighted_sum R h (product_of p f k) ≡ weighted_sum R (λ l. weighted_sum R (λ m. h (monomial_product l m)) k) f
      weighted_product h f = weighted_sum-collected R p (residues_characteristic p positive) h (term_products f k) ∙ weighted_sum-term_products R h f k
