-- The first term of a product is the product of the first terms.
use Rattle.std.proofs.Common.{◌≡◌, ◌≢◌, ◌⊎◌, ℕ, zero, suc, ◌*◌, ◌%◌, List, [], ◌∷◌, ◌++◌, map, length, refl, sym, ap, ap₂, ◌∙◌, inl, inr, mod-eq_of_lt, arith}
use Rattle.std.specs.Ordering.{ordering_reverse}
use Rattle.std.specs.declared.cmp.Ordering.TheVariants.{Less}
use Rattle.polynomials.specs.Primes.{IsPrime}
use Rattle.polynomials.specs.Monomials.{Monomial, monomial_order, monomial_product}
use Rattle.polynomials.specs.MonomialOrders.{monomial_order-reverse, monomial_order_trans, monomial_order-product, monomial_product_comm}
use Rattle.polynomials.specs.Polynomials.{Term, term, Polynomial, StartsBelow, IsPolynomial, with_first, added_beside, with_term, collected, product_of, term_product, term_products}
use Rattle.polynomials.specs.Laws.{FirstTermOfProduct, NoZeroDivisors}
use Rattle.polynomials.proofs.InverseLemmas.{prime_divides_a_factor}
use Rattle.polynomials.proofs.Monomialwise.{EachMonomial, EachMonomial-append, EachMonomial-term_products, EachMonomial-collected, EachMonomial-both, EachMonomial-implied, HaveLength-from_IsPolynomial}
use Rattle.polynomials.proofs.Canonical.{StartsBelow_trans}

-- each monomial is less than m
abbrev pub AreBelow : Monomial → List Term → Type 0
AreBelow m ts = EachMonomial (λ l. monomial_order l m ≡ Less) ts

-- a list of smaller monomials starts below m
pub StartsBelow-from_AreBelow : (m : Monomial) (f : Polynomial) → AreBelow m f → StartsBelow m f
StartsBelow-from_AreBelow m [] h = tt
StartsBelow-from_AreBelow m (u ∷ f) h = h.0

-- and a polynomial that starts below m has smaller monomials alone
pub AreBelow-from_StartsBelow : (p n : ℕ) (m : Monomial) (f : Polynomial) → IsPolynomial p n f → StartsBelow m f → AreBelow m f
AreBelow-from_StartsBelow p n m [] i h = tt
AreBelow-from_StartsBelow p n m (u ∷ f) i h = (h, AreBelow-from_StartsBelow p n m f i.4 (StartsBelow_trans u.0 m f i.3 h))

-- a term above all of f is added as the first
pub with_term_above : (p : ℕ) (t : Term) (f : Polynomial) → StartsBelow t.0 f → with_term p t f ≡ with_first (term t.0 (t.1 % p)) f
with_term_above p t [] h = refl
with_term_above p t (u ∷ f) h = ap (added_beside p t u f (with_term p t f)) (monomial_order-reverse t.0 u.0 ∙ ap ordering_reverse h)

-- a term whose coefficient isn't 0 stands before f
pub with_first_nonzero : (m : Monomial) (c : ℕ) (f : Polynomial) → c ≢ 0 → with_first (term m c) f ≡ term m c ∷ f
with_first_nonzero m zero f h = absurd (h refl)
with_first_nonzero m (suc c) f h = refl

-- a smaller factor makes a smaller product
product_below_left : (k l m : Monomial) → length l ≡ length m → monomial_order l m ≡ Less → monomial_order (monomial_product l k) (monomial_product m k) ≡ Less
product_below_left k l m e h = ap₂ monomial_order (monomial_product_comm l k) (monomial_product_comm m k) ∙ monomial_order-product k l m e ∙ h

-- a smaller factor by one that isn't greater makes a smaller product
product_below : (n : ℕ) (t u l m : Monomial) → length t ≡ n → length u ≡ n → length l ≡ n → length m ≡ n → monomial_order l t ≡ Less → (m ≡ u) ⊎ (monomial_order m u ≡ Less) → monomial_order (monomial_product l m) (monomial_product t u) ≡ Less
product_below n t u l m a b c d h (inl same) = ap (λ x. monomial_order (monomial_product l x) (monomial_product t u)) same ∙ product_below_left u l t (c ∙ sym a) h
product_below n t u l m a b c d h (inr less) = monomial_order_trans (monomial_product l m) (monomial_product l u) (monomial_product t u) (monomial_order-product l m u (d ∙ sym b) ∙ less) (product_below_left u l t (c ∙ sym a) h)

module _ (p n : ℕ) (t u : Term) (f g : Polynomial) (i : IsPolynomial p n (t ∷ f)) (j : IsPolynomial p n (u ∷ g)) where
  -- the monomials of the first row but the first
  first_row_below : AreBelow (monomial_product t.0 u.0) (map (term_product t) g)
  first_row_below = row g (EachMonomial-both (λ l. monomial_order l u.0 ≡ Less) (λ m. length m ≡ n) g (AreBelow-from_StartsBelow p n u.0 g j.4 j.3) (HaveLength-from_IsPolynomial p n g j.4))
    where
      row : (k : List Term) → EachMonomial (λ l. (monomial_order l u.0 ≡ Less) × (length l ≡ n)) k → AreBelow (monomial_product t.0 u.0) (map (term_product t) k)
      row [] h = tt
      row (x ∷ k) h = (monomial_order-product t.0 x.0 u.0 (h.0.1 ∙ sym j.0) ∙ h.0.0, row k h.1)

  -- those of the later rows
  later_rows_below : AreBelow (monomial_product t.0 u.0) (term_products f (u ∷ g))
  later_rows_below =
      EachMonomial-term_products
      (λ l. (monomial_order l t.0 ≡ Less) × (length l ≡ n))
      (λ m. ((m ≡ u.0) ⊎ (monomial_order m u.0 ≡ Less)) × (length m ≡ n))
      (λ k. monomial_order k (monomial_product t.0 u.0) ≡ Less)
      (λ l m a b. product_below n t.0 u.0 l m i.0 j.0 a.1 b.1 a.0 b.0)
      f (u ∷ g)
      (EachMonomial-both (λ l. monomial_order l t.0 ≡ Less) (λ m. length m ≡ n) f (AreBelow-from_StartsBelow p n t.0 f i.4 i.3) (HaveLength-from_IsPolynomial p n f i.4))
      ((inl refl, j.0), EachMonomial-both (λ m. (m ≡ u.0) ⊎ (monomial_order m u.0 ≡ Less)) (λ m. length m ≡ n) g (EachMonomial-implied (λ m. monomial_order m u.0 ≡ Less) (λ m. (m ≡ u.0) ⊎ (monomial_order m u.0 ≡ Less)) (λ m h. inr h) g (AreBelow-from_StartsBelow p n u.0 g j.4 j.3)) (HaveLength-from_IsPolynomial p n g j.4))

  -- the product without its first term
  abbrev rest_of_product : Polynomial
  rest_of_product = collected p (map (term_product t) g ++ term_products f (u ∷ g))

  rest_of_product_below : StartsBelow (monomial_product t.0 u.0) rest_of_product
  rest_of_product_below = StartsBelow-from_AreBelow (monomial_product t.0 u.0) rest_of_product (EachMonomial-collected (λ l. monomial_order l (monomial_product t.0 u.0) ≡ Less) p (map (term_product t) g ++ term_products f (u ∷ g)) (EachMonomial-append (λ l. monomial_order l (monomial_product t.0 u.0) ≡ Less) (map (term_product t) g) (term_products f (u ∷ g)) first_row_below later_rows_below))

  -- over a prime the product of the first coefficients isn't 0
  pub first_coefficients_nonzero : IsPrime p → t.1 * u.1 % p ≢ 0
  first_coefficients_nonzero prime e =
      let t_positive = i.1 in
      let u_positive = j.1 in
      elim (prime_divides_a_factor p t.1 u.1 prime e) [
        | inl zero_t ↦ omega (arith, sym (mod-eq_of_lt i.2) ∙ zero_t)
        | inr zero_u ↦ omega (arith, sym (mod-eq_of_lt j.2) ∙ zero_u)
      ]

  -- the first term of the product
  pub product_starts : IsPrime p → product_of p (t ∷ f) (u ∷ g) ≡ term (monomial_product t.0 u.0) (t.1 * u.1 % p) ∷ rest_of_product
  product_starts prime = with_term_above p (term_product t u) rest_of_product rest_of_product_below ∙ with_first_nonzero (monomial_product t.0 u.0) (t.1 * u.1 % p) rest_of_product (first_coefficients_nonzero prime)

-- the law of first terms
pub first_term_of_product : FirstTermOfProduct
first_term_of_product p n t u f g prime i j = (rest_of_product p n t u f g i j, product_starts p n t u f g i j prime)

-- a product is 0 only where a factor is
pub no_zero_divisors : NoZeroDivisors
no_zero_divisors p n [] g prime i j e = inl refl
no_zero_divisors p n (t ∷ f) [] prime i j e = inr refl
no_zero_divisors p n (t ∷ f) (u ∷ g) prime i j e =
    let start = product_starts p n t u f g i j prime in
    cc
