-- Quotients of monomials and of terms.
use Rattle.std.proofs.Common.{◌≡◌, ◌↔◌, ℕ, zero, suc, ◌+◌, ◌*◌, ◌%◌, ◌<◌, true, leb, [], ◌∷◌, length, refl, sym, ap, ap₂, ◌∙◌, mod-eq_of_lt, mul_comm, mul_assoc, mul-one, arith}
use Rattle.std.proofs.lemmas.Bool.{and_parts, and_from, leb-true, le-leb}
use Rattle.std.proofs.lemmas.Nat.{mul-mod_first, mul-mod_second}
use Rattle.polynomials.specs.Primes.{IsPrime, inverse_of}
use Rattle.polynomials.specs.Monomials.{Monomial, monomial_product, MonomialDivides}
use Rattle.polynomials.specs.Polynomials.{Term, term}
use Rattle.polynomials.proofs.InverseLemmas.{inverse_of_is}
use Rattle.division_rules.specs.Quotients.{monomial_divides, monomial_over, term_over}

-- a monomial divides its products
pub monomial_divides-product : (l m : Monomial) → monomial_divides l (monomial_product m l) ≡ true
monomial_divides-product [] m = refl
monomial_divides-product (d ∷ l) [] = and_from (leb d d) (monomial_divides l l) (le-leb d d (omega arith)) (monomial_divides-product l [])
monomial_divides-product (d ∷ l) (e ∷ m) = and_from (leb d (e + d)) (monomial_divides l (monomial_product m l)) (le-leb d (e + d) (omega arith)) (monomial_divides-product l m)

-- and the quotient is the other factor
pub monomial_over-product : (l m : Monomial) → length l ≡ length m → monomial_over (monomial_product m l) l ≡ m
monomial_over-product [] [] h = refl
monomial_over-product [] (e ∷ m) h = refl
monomial_over-product (d ∷ l) [] h = absurd (omega arith)
monomial_over-product (d ∷ l) (e ∷ m) h = ap₂ ◌∷◌ (omega arith) (monomial_over-product l m (omega arith))

-- the quotient times the divisor
pub product-monomial_over : (l m : Monomial) → monomial_divides l m ≡ true → monomial_product (monomial_over m l) l ≡ m
product-monomial_over [] [] h = refl
product-monomial_over [] (e ∷ m) h = refl
product-monomial_over (d ∷ l) [] h = cc
product-monomial_over (d ∷ l) (e ∷ m) h =
    let both = and_parts (leb d e) (monomial_divides l m) h in
    let less = leb-true d e both.0 in
    ap₂ ◌∷◌ (omega arith) (product-monomial_over l m both.1)

-- the quotient has as many exponents
pub length-monomial_over : (m l : Monomial) → length (monomial_over m l) ≡ length m
length-monomial_over [] l = refl
length-monomial_over (e ∷ m) [] = refl
length-monomial_over (e ∷ m) (d ∷ l) = ap suc (length-monomial_over m l)

divides_each : (l m : Monomial) → monomial_divides l m ≡ true → MonomialDivides l m
divides_each [] m h v = omega arith
divides_each (d ∷ l) [] h v = cc
divides_each (d ∷ l) (e ∷ m) h zero = leb-true d e (and_parts (leb d e) (monomial_divides l m) h).0
divides_each (d ∷ l) (e ∷ m) h (suc v) = divides_each l m (and_parts (leb d e) (monomial_divides l m) h).1 v

divides_from_each : (l m : Monomial) → length l ≡ length m → MonomialDivides l m → monomial_divides l m ≡ true
divides_from_each [] m e h = refl
divides_from_each (c ∷ l) [] e h = absurd (omega arith)
divides_from_each (c ∷ l) (d ∷ m) e h = and_from (leb c d) (monomial_divides l m) (le-leb c d (h 0)) (divides_from_each l m (omega arith) (λ v. h (suc v)))

-- the test of divisibility looks at each exponent
pub monomial_divides_iff : (l m : Monomial) → length l ≡ length m → (monomial_divides l m ≡ true) ↔ MonomialDivides l m
monomial_divides_iff l m e = (divides_each l m, divides_from_each l m e)

module _ (p : ℕ) (prime : IsPrime p) where
  -- a residue times another one and its inverse
  pub residue_over-product : (c d : ℕ) → c < p → 0 < d → d < p → (c * d % p) * inverse_of p d % p ≡ c
  residue_over-product c d c_small d_positive d_small =
      let b = inverse_of p d in
      let inverse = inverse_of_is p d prime d_positive d_small in
      mul-mod_first (c * d) b p
      ∙ ap (λ x. x % p) (mul_assoc c d b)
      ∙ sym (mul-mod_second c (d * b) p)
      ∙ ap (λ x. c * x % p) inverse.1
      ∙ ap (λ x. x % p) (mul-one c)
      ∙ mod-eq_of_lt c_small

  -- and a quotient of residues times the divisor
  pub product-residue_over : (c d : ℕ) → c < p → 0 < d → d < p → (c * inverse_of p d % p) * d % p ≡ c
  product-residue_over c d c_small d_positive d_small =
      let b = inverse_of p d in
      let inverse = inverse_of_is p d prime d_positive d_small in
      mul-mod_first (c * b) d p
      ∙ ap (λ x. x % p) (mul_assoc c b d ∙ ap (λ x. c * x) (mul_comm b d))
      ∙ sym (mul-mod_second c (d * b) p)
      ∙ ap (λ x. c * x % p) inverse.1
      ∙ ap (λ x. x % p) (mul-one c)
      ∙ mod-eq_of_lt c_small

  -- the product of two terms, divided by the second
  pub term_over-product : (s u : Term) → length s.0 ≡ length u.0 → s.1 < p → 0 < u.1 → u.1 < p → term_over p (term (monomial_product s.0 u.0) (s.1 * u.1 % p)) u ≡ s
  term_over-product s u same s_small u_positive u_small = ap₂ term (monomial_over-product u.0 s.0 (sym same)) (residue_over-product s.1 u.1 s_small u_positive u_small)
