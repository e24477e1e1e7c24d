-- Which polynomials are monic, and monic forms of multiples.
use Rattle.std.proofs.Common.{◌≡◌, ℕ, [], ◌∷◌, refl, sym, ap, ◌∙◌, subst, mod-eq_of_lt, arith}
use Rattle.polynomials.specs.Primes.{IsPrime, inverse_of}
use Rattle.polynomials.specs.Polynomials.{Term, term, Polynomial, IsPolynomial, scaled, monic}
use Rattle.polynomials.proofs.InverseLemmas.{inverse_of_unique}
use Rattle.polynomials.proofs.MonicLemmas.{monic_is_monic, scaled-one}

module _ (p n : ℕ) (prime : IsPrime p) where
  -- the inverse of 1 is 1
  inverse_of-one : inverse_of p 1 ≡ 1
  inverse_of-one = sym (inverse_of_unique p 1 1 prime (omega arith) prime.many prime.many (mod-eq_of_lt prime.many))

  -- a polynomial is its monic form where its first coefficient is 1
  pub monic_itself : (t : Term) (f : Polynomial) → IsPolynomial p n (t ∷ f) → t.1 ≡ 1 → monic p (t ∷ f) ≡ t ∷ f
  monic_itself t f i one = ap (λ c. scaled p (inverse_of p c) (t ∷ f)) one ∙ ap (λ c. scaled p c (t ∷ f)) inverse_of-one ∙ scaled-one p n (t ∷ f) i

  -- the monic form is its own monic form
  pub monic-monic : (f : Polynomial) → IsPolynomial p n f → monic p (monic p f) ≡ monic p f
  monic-monic [] i = refl
  monic-monic (t ∷ f) i =
      let form = monic_is_monic p n t f prime i in
      let rest = form.1.0 in
      let shape = form.1.1 in
      ap (monic p) shape ∙ monic_itself (term t.0 1) rest (subst (IsPolynomial p n) shape form.0) refl ∙ sym shape
