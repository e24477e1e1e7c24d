-- The operations make canonical polynomials.
use Rattle.std.proofs.Common.{◌≡◌, ℕ, zero, suc, ◌+◌, ◌%◌, ◌<◌, List, [], ◌∷◌, ◌++◌, length, replicate, refl, ap, ◌∙◌, mod-lt, arith}
use Rattle.std.proofs.lemmas.List.{length-replicate}
use Rattle.std.specs.Ordering.{ordering_reverse}
use Rattle.std.specs.declared.cmp.Ordering.{Ordering}
use Rattle.std.specs.declared.cmp.Ordering.TheVariants.{Less, Equal, Greater}
use Rattle.polynomials.specs.Monomials.{Monomial, monomial_order}
use Rattle.polynomials.specs.MonomialOrders.{monomial_order-reverse, monomial_order_trans}
use Rattle.polynomials.specs.Polynomials.{Term, term, Polynomial, StartsBelow, IsPolynomial, with_first, added_beside, with_term, collected, sum_of, product_of, negative_of, difference_of, constant_of, one_of, term_products}
use Rattle.polynomials.proofs.Monomialwise.{HaveLength, EachMonomial-append, HaveLength-from_IsPolynomial, HaveLength-term_products}

-- what is greater than another has that other below it
pub monomial_order_greater : (l m : Monomial) → monomial_order l m ≡ Greater → monomial_order m l ≡ Less
monomial_order_greater l m e = monomial_order-reverse m l ∙ ap ordering_reverse e

-- what starts below m starts below whatever is greater
pub StartsBelow_trans : (m k : Monomial) (f : Polynomial) → StartsBelow m f → monomial_order m k ≡ Less → StartsBelow k f
StartsBelow_trans m k [] h e = tt
StartsBelow_trans m k (u ∷ f) h e = monomial_order_trans u.0 m k h e

StartsBelow-with_first : (k : Monomial) (t : Term) (f : Polynomial) → monomial_order t.0 k ≡ Less → StartsBelow k f → StartsBelow k (with_first t f)
StartsBelow-with_first k (m, zero) f h i = i
StartsBelow-with_first k (m, suc c) f h i = h

module _ (p n : ℕ) where
  -- a term before a polynomial that starts below it
  pub IsPolynomial-with_first : (t : Term) (f : Polynomial) → length t.0 ≡ n → t.1 < p → StartsBelow t.0 f → IsPolynomial p n f → IsPolynomial p n (with_first t f)
  IsPolynomial-with_first (m, zero) f h i j k = k
  IsPolynomial-with_first (m, suc c) f h i j k = (h, omega arith, i, j, k)

  StartsBelow-added_beside : (k : Monomial) (t u : Term) (f later : Polynomial) (o : Ordering) → IsPolynomial p n (u ∷ f) → monomial_order t.0 k ≡ Less → monomial_order u.0 k ≡ Less → StartsBelow k (added_beside p t u f later o)
  StartsBelow-added_beside k t u f later Greater i a b = StartsBelow-with_first k (term t.0 (t.1 % p)) (u ∷ f) a b
  StartsBelow-added_beside k t u f later Equal i a b = StartsBelow-with_first k (term u.0 ((t.1 + u.1) % p)) f b (StartsBelow_trans u.0 k f i.3 b)
  StartsBelow-added_beside k t u f later Less i a b = b

  -- with a smaller term added, a polynomial still starts below k
  pub StartsBelow-with_term : (k : Monomial) (t : Term) (f : Polynomial) → IsPolynomial p n f → monomial_order t.0 k ≡ Less → StartsBelow k f → StartsBelow k (with_term p t f)
  StartsBelow-with_term k t [] i a b = StartsBelow-with_first k (term t.0 (t.1 % p)) [] a tt
  StartsBelow-with_term k t (u ∷ f) i a b = StartsBelow-added_beside k t u f (with_term p t f) (monomial_order t.0 u.0) i a b

  module _ (positive : 0 < p) where
    IsPolynomial-added_beside : (t u : Term) (f : Polynomial) (o : Ordering) → monomial_order t.0 u.0 ≡ o → length t.0 ≡ n → IsPolynomial p n (u ∷ f) → IsPolynomial p n (with_term p t f) → IsPolynomial p n (added_beside p t u f (with_term p t f) o)
    IsPolynomial-added_beside t u f Greater e h i j = IsPolynomial-with_first (term t.0 (t.1 % p)) (u ∷ f) h (mod-lt t.1 positive) (monomial_order_greater t.0 u.0 e) i
    IsPolynomial-added_beside t u f Equal e h i j = IsPolynomial-with_first (term u.0 ((t.1 + u.1) % p)) f i.0 (mod-lt (t.1 + u.1) positive) i.3 i.4
    IsPolynomial-added_beside t u f Less e h i j = (i.0, i.1, i.2, StartsBelow-with_term u.0 t f i.4 e i.3, j)

    -- a polynomial with a term added is one
    pub IsPolynomial-with_term : (t : Term) (f : Polynomial) → length t.0 ≡ n → IsPolynomial p n f → IsPolynomial p n (with_term p t f)
    IsPolynomial-with_term t [] h i = IsPolynomial-with_first (term t.0 (t.1 % p)) [] h (mod-lt t.1 positive) tt tt
    IsPolynomial-with_term t (u ∷ f) h i = IsPolynomial-added_beside t u f (monomial_order t.0 u.0) refl h i (IsPolynomial-with_term t f h i.4)

    -- collected terms are a polynomial
    pub IsPolynomial-collected : (ts : List Term) → HaveLength n ts → IsPolynomial p n (collected p ts)
    IsPolynomial-collected [] h = tt
    IsPolynomial-collected (t ∷ ts) h = IsPolynomial-with_term t (collected p ts) h.0 (IsPolynomial-collected ts h.1)

    -- sums, products, negatives and differences of polynomials are polynomials
    pub IsPolynomial-sum_of : (f g : Polynomial) → IsPolynomial p n f → IsPolynomial p n g → IsPolynomial p n (sum_of p f g)
    IsPolynomial-sum_of f g i j = IsPolynomial-collected (f ++ g) (EachMonomial-append (λ m. length m ≡ n) f g (HaveLength-from_IsPolynomial p n f i) (HaveLength-from_IsPolynomial p n g j))

    -- products
    pub IsPolynomial-product_of : (f g : Polynomial) → IsPolynomial p n f → IsPolynomial p n g → IsPolynomial p n (product_of p f g)
    IsPolynomial-product_of f g i j = IsPolynomial-collected (term_products f g) (HaveLength-term_products n f g (HaveLength-from_IsPolynomial p n f i) (HaveLength-from_IsPolynomial p n g j))

  -- with other coefficients a polynomial starts where it did
  StartsBelow-negative_of : (m : Monomial) (f : Polynomial) → StartsBelow m f → StartsBelow m (negative_of p f)
  StartsBelow-negative_of m [] h = tt
  StartsBelow-negative_of m (u ∷ f) h = h

  -- the negative
  pub IsPolynomial-negative_of : (f : Polynomial) → IsPolynomial p n f → IsPolynomial p n (negative_of p f)
  IsPolynomial-negative_of [] i = tt
  IsPolynomial-negative_of (t ∷ f) i =
      let above = i.1 in
      let below = i.2 in
      (i.0, omega arith, omega arith, StartsBelow-negative_of t.0 f i.3, IsPolynomial-negative_of f i.4)

  -- the difference
  pub IsPolynomial-difference_of : 0 < p → (f g : Polynomial) → IsPolynomial p n f → IsPolynomial p n g → IsPolynomial p n (difference_of p f g)
  IsPolynomial-difference_of positive f g i j = IsPolynomial-sum_of positive f (negative_of p g) i (IsPolynomial-negative_of g j)

  -- a residue as a constant
  pub IsPolynomial-constant_of : (c : ℕ) → c < p → IsPolynomial p n (constant_of n c)
  IsPolynomial-constant_of c h = IsPolynomial-with_first (term (replicate n 0) c) [] (length-replicate n 0) h tt tt

  -- the polynomial 1
  pub IsPolynomial-one_of : 1 < p → IsPolynomial p n (one_of n)
  IsPolynomial-one_of h = (length-replicate n 0, omega arith, h, tt, tt)
