-- Multiples by a residue, and monic polynomials.
use Rattle.std.proofs.Common.{◌≡◌, ◌≢◌, ℕ, zero, suc, ◌*◌, ◌%◌, ◌<◌, [], ◌∷◌, refl, sym, ap, ap₂, ◌∙◌, inl, inr, mod-lt, mod-eq_of_lt, mul_comm, mul_assoc, one-mul, arith}
use Rattle.std.proofs.lemmas.Nat.{mul-mod_first, mul-mod_second}
use Rattle.polynomials.specs.Primes.{IsPrime, IsInverse, inverse_of}
use Rattle.polynomials.specs.Monomials.{Monomial}
use Rattle.polynomials.specs.Polynomials.{Term, term, Polynomial, StartsBelow, IsPolynomial, scaled, monic}
use Rattle.polynomials.specs.Laws.{MonicIsMonic}
use Rattle.polynomials.proofs.InverseLemmas.{inverse_of_is, prime_divides_a_factor, mod-zero}

-- an inverse isn't 0
pub inverse_positive : (p a b : ℕ) → IsInverse p a b → 0 < b
inverse_positive p a zero inverse =
    let none = sym (mod-zero p a) ∙ inverse.1 in
    absurd (omega arith)
inverse_positive p a (suc b) inverse = omega arith

module _ (p : ℕ) (prime : IsPrime p) where
  -- over a prime a product of residues other than 0 isn't 0
  pub residue_product_positive : (a b : ℕ) → 0 < a → a < p → 0 < b → b < p → 0 < a * b % p
  residue_product_positive a b ha a_small hb b_small = positive (a * b % p) (λ e. elim (prime_divides_a_factor p a b prime e) [
    | inl zero_a ↦ impossible a ha (sym (mod-eq_of_lt a_small) ∙ zero_a)
    | inr zero_b ↦ impossible b hb (sym (mod-eq_of_lt b_small) ∙ zero_b)
  ])
    where
      positive : (x : ℕ) → x ≢ 0 → 0 < x
      positive x h = omega arith

      impossible : (x : ℕ) → 0 < x → x ≡ 0 → ⊥
      impossible x h e = omega arith

  module _ (n c : ℕ) (c_positive : 0 < c) (c_small : c < p) where
    StartsBelow-scaled : (m : Monomial) (f : Polynomial) → StartsBelow m f → StartsBelow m (scaled p c f)
    StartsBelow-scaled m [] h = tt
    StartsBelow-scaled m (u ∷ f) h = h

    -- a multiple by a residue other than 0 is canonical as it stands
    pub IsPolynomial-scaled : (f : Polynomial) → IsPolynomial p n f → IsPolynomial p n (scaled p c f)
    IsPolynomial-scaled [] i = tt
    IsPolynomial-scaled (t ∷ f) i = (i.0, residue_product_positive c t.1 c_positive c_small i.1 i.2, mod-lt (c * t.1) (omega (arith, prime.many)), StartsBelow-scaled t.0 f i.3, IsPolynomial-scaled f i.4)

-- multiples of multiples
pub scaled-scaled : (p b c : ℕ) (f : Polynomial) → scaled p b (scaled p c f) ≡ scaled p (b * c % p) f
scaled-scaled p b c [] = refl
scaled-scaled p b c (t ∷ f) = ap₂ (λ x g. term t.0 x ∷ g) (mul-mod_second b (c * t.1) p ∙ ap (λ x. x % p) (sym (mul_assoc b c t.1)) ∙ sym (mul-mod_first (b * c) t.1 p)) (scaled-scaled p b c f)

-- the multiple by 1
pub scaled-one : (p n : ℕ) (f : Polynomial) → IsPolynomial p n f → scaled p 1 f ≡ f
scaled-one p n [] i = refl
scaled-one p n (t ∷ f) i = ap₂ (λ x g. term t.0 x ∷ g) (ap (λ x. x % p) (one-mul t.1) ∙ mod-eq_of_lt i.2) (scaled-one p n f i.4)

-- the first coefficient of the monic form is 1
first_of_monic : (p n : ℕ) (t : Term) (f : Polynomial) → IsPrime p → IsPolynomial p n (t ∷ f) → inverse_of p t.1 * t.1 % p ≡ 1
first_of_monic p n t f prime i = ap (λ x. x % p) (mul_comm (inverse_of p t.1) t.1) ∙ (inverse_of_is p t.1 prime i.1 i.2).1

-- the inverse of the first coefficient is a residue other than 0
inverse_of_first : (p n : ℕ) (t : Term) (f : Polynomial) → IsPrime p → IsPolynomial p n (t ∷ f) → (0 < inverse_of p t.1) × (inverse_of p t.1 < p)
inverse_of_first p n t f prime i =
    let inverse = inverse_of_is p t.1 prime i.1 i.2 in
    (inverse_positive p t.1 (inverse_of p t.1) inverse, inverse.0)

-- the law of monic forms
pub monic_is_monic : MonicIsMonic
monic_is_monic p n t f prime i =
    let c = inverse_of_first p n t f prime i in
    (IsPolynomial-scaled p prime n (inverse_of p t.1) c.0 c.1 (t ∷ f) i, (scaled p (inverse_of p t.1) f, ap (λ x. term t.0 x ∷ scaled p (inverse_of p t.1) f) (first_of_monic p n t f prime i)))

-- the monic form is canonical
pub IsPolynomial-monic : (p n : ℕ) (f : Polynomial) → IsPrime p → IsPolynomial p n f → IsPolynomial p n (monic p f)
IsPolynomial-monic p n [] prime i = tt
IsPolynomial-monic p n (t ∷ f) prime i = (monic_is_monic p n t f prime i).0

-- f is its first coefficient times its monic form
pub scaled-monic : (p n : ℕ) (t : Term) (f : Polynomial) → IsPrime p → IsPolynomial p n (t ∷ f) → scaled p t.1 (monic p (t ∷ f)) ≡ t ∷ f
scaled-monic p n t f prime i = scaled-scaled p t.1 (inverse_of p t.1) (t ∷ f) ∙ ap (λ c. scaled p c (t ∷ f)) (inverse_of_is p t.1 prime i.1 i.2).1 ∙ scaled-one p n (t ∷ f) i
