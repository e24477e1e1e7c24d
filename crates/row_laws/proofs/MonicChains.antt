-- Reductions of lists of terms by the monic forms of polynomials.
use Rattle.std.proofs.Common.{◌≡◌, ◌⊎◌, inl, inr, ℕ, ◌<◌, List, [], ◌∷◌, map, refl, sym, ap, ◌∙◌}
use Rattle.polynomials.specs.Primes.{IsPrime, inverse_of}
use Rattle.polynomials.specs.Polynomials.{Polynomial, IsPolynomial, ArePolynomials, scaled, constant_of, monic}
use Rattle.polynomials.specs.Monomials.{greatest_variable}
use Rattle.polynomials.specs.Views.{main_var, greater_variable}
use Rattle.polynomials.proofs.Canonical.{IsPolynomial-constant_of}
use Rattle.polynomials.proofs.ConstantLemmas.{constant_of_nonzero, constant_of_free, constant_of-product_of}
use Rattle.polynomials.proofs.ExponentsBelow.{ExponentsBelow-one}
use Rattle.polynomials.proofs.InverseLemmas.{inverse_of_is}
use Rattle.polynomials.proofs.MonicLemmas.{IsPolynomial-monic, inverse_positive}
use Rattle.polynomials.proofs.PolynomialRing.{CanonicalPolynomial, canonical_path}
use Rattle.polynomials.proofs.RingLaws.{times-nil}
use Rattle.division_rules.specs.Lists.{variable_or_zero}
use Rattle.division_rules.specs.PolynomialRows.{ArePolynomialRows}
use Rattle.division_rules.specs.Rows.{Row, plain, plains, reduction}
use Rattle.division_rules.proofs.CanonicalViews.{canonical_operations}
use Rattle.division_rules.proofs.FreeNonzero.{one_free_nonzero}
use Rattle.division_rules.proofs.PolynomialSetting.{polynomial_setting}
use Rattle.division_rules.proofs.Settings.{ViewedRing}
use Rattle.division_rules.proofs.Up.{up, up_rows, plains_canonical}
use Rattle.row_laws.specs.Scaling.{MonicChainsReduceAlike}
use Rattle.row_laws.proofs.ReductionValues.{chain_rows, canonical_reduction, reduction_is}
use Rattle.row_laws.proofs.ScaledDivisors.{IsMultipleOf, AreMultiplesOf, reduction-divisors}

-- a multiple has the same main variable
main_var-scaled : (p k : ℕ) (f : Polynomial) → main_var (scaled p k f) ≡ main_var f
main_var-scaled p k [] = refl
main_var-scaled p k (t ∷ f) = ap (greater_variable (greatest_variable t.0)) (main_var-scaled p k f)

-- and so has the monic form
main_var-monic : (p : ℕ) (f : Polynomial) → main_var (monic p f) ≡ main_var f
main_var-monic p [] = refl
main_var-monic p (t ∷ f) = main_var-scaled p (inverse_of p t.1) (t ∷ f)

module _ (p n : ℕ) (prime : IsPrime p) where
  abbrev P : ViewedRing (CanonicalPolynomial p n)
  P = polynomial_setting p n prime

  -- the monic form is a multiple by a constant
  monic_multiple : (f : Polynomial) (i : IsPolynomial p n f) (j : IsPolynomial p n (monic p f)) → IsMultipleOf P (record { first = (monic p f, j); cofactors = [] }) (record { first = (f, i); cofactors = [] })
  monic_multiple [] i j = (P.ring.one, (P.laws.one_not_nil, λ x. (one_free_nonzero P x).1), ap (λ g. record { first = g; cofactors = [] }) (canonical_path p n _ _ refl))
  monic_multiple (t ∷ f) i j = ((constant_of n k, IsPolynomial-constant_of p n k small), ((λ e. constant_of_nonzero n k positive (ap (λ x. x.0) e)), λ x. (ExponentsBelow-one x (constant_of n k)).1 (constant_of_free x n k)), ap (λ g. record { first = g; cofactors = [] }) (canonical_path p n _ _ (sym (constant_of-product_of p n k (t ∷ f) prime positive small i))))
    where
      k : ℕ
      k = inverse_of p t.1

      positive : 0 < k
      positive = inverse_positive p t.1 k (inverse_of_is p t.1 prime i.1 i.2)

      small : k < p
      small = (inverse_of_is p t.1 prime i.1 i.2).0

  -- so are the monic forms of a chain, as rows
  monic_multiples : (chain : List Polynomial) (are : ArePolynomialRows p n (plains chain)) (monics : ArePolynomialRows p n (plains (map (monic p) chain))) → AreMultiplesOf P (up_rows p n prime.many (plains (map (monic p) chain)) monics) (up_rows p n prime.many (plains chain) are)
  monic_multiples [] are monics = tt
  monic_multiples (t ∷ chain) are monics = ((monic_multiple t are.0.0 monics.0.0, ap variable_or_zero (main_var-monic p t)), monic_multiples chain are.1 monics.1)

  -- they are canonical
  monics_canonical : (chain : List Polynomial) → ArePolynomials p n chain → ArePolynomials p n (map (monic p) chain)
  monics_canonical [] are = tt
  monics_canonical (t ∷ chain) are = (IsPolynomial-monic p n t prime are.0, monics_canonical chain are.1)

-- the law
pub monic_chains_reduce_alike : MonicChainsReduceAlike
monic_chains_reduce_alike p n chain f prime are i = (λ e. sym (reduction_is p n prime chain are f i) ∙ ap (λ g. g.0) (forth (canonical_path p n _ _ (reduction_is p n prime (map (monic p) chain) monics f i ∙ e))), λ e. sym (reduction_is p n prime (map (monic p) chain) monics f i) ∙ ap (λ g. g.0) (back (canonical_path p n _ _ (reduction_is p n prime chain are f i ∙ e))))
  where
    P : ViewedRing (CanonicalPolynomial p n)
    P = polynomial_setting p n prime

    monics : ArePolynomials p n (map (monic p) chain)
    monics = monics_canonical p n prime chain are

    multiple : IsMultipleOf (polynomial_setting p n prime) (reduction (canonical_operations p n prime.many) (chain_rows p n prime (map (monic p) chain) monics) (up p n prime.many (plain f) (i, tt))) (reduction (canonical_operations p n prime.many) (chain_rows p n prime chain are) (up p n prime.many (plain f) (i, tt)))
    multiple = reduction-divisors (polynomial_setting p n prime) (chain_rows p n prime (map (monic p) chain) monics) (chain_rows p n prime chain are) (monic_multiples p n prime chain (plains_canonical p n chain are) (plains_canonical p n (map (monic p) chain) monics)) (up p n prime.many (plain f) (i, tt))

    first_is : canonical_reduction p n prime (map (monic p) chain) monics f i ≡ P.ring.◌⊗◌ multiple.0 (canonical_reduction p n prime chain are f i)
    first_is = ap (λ (h : Row (CanonicalPolynomial p n)). h.first) multiple.2

    back : canonical_reduction p n prime chain are f i ≡ P.ring.nil → canonical_reduction p n prime (map (monic p) chain) monics f i ≡ P.ring.nil
    back e = first_is ∙ ap (P.ring.◌⊗◌ multiple.0) e ∙ times-nil P.ring multiple.0

    forth : canonical_reduction p n prime (map (monic p) chain) monics f i ≡ P.ring.nil → canonical_reduction p n prime chain are f i ≡ P.ring.nil
    forth e = go (P.laws.integral multiple.0 (canonical_reduction p n prime chain are f i) (sym first_is ∙ e))
      where
        go : (multiple.0 ≡ P.ring.nil) ⊎ (canonical_reduction p n prime chain are f i ≡ P.ring.nil) → canonical_reduction p n prime chain are f i ≡ P.ring.nil
        go (inl none) = absurd (multiple.1.0 none)
        go (inr none) = none
