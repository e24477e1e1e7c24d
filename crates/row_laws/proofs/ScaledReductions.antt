-- Reductions of multiples of lists of terms by constants.
use Rattle.std.proofs.Common.{◌≡◌, ℕ, [], ◌∷◌, sym, ap, ◌∙◌}
use Rattle.polynomials.specs.Primes.{inverse_of}
use Rattle.polynomials.specs.Polynomials.{Polynomial, IsPolynomial, scaled, constant_of, product_of}
use Rattle.polynomials.proofs.Canonical.{IsPolynomial-constant_of}
use Rattle.polynomials.proofs.ConstantLemmas.{constant_of_nonzero, constant_of_free, constant_of-product_of}
use Rattle.polynomials.proofs.ExponentsBelow.{ExponentsBelow-one}
use Rattle.polynomials.proofs.InverseLemmas.{inverse_of_is}
use Rattle.polynomials.proofs.PolynomialRing.{CanonicalPolynomial}
use Rattle.polynomials.proofs.ScaledLemmas.{scaled_zero}
use Rattle.polynomials.proofs.MonicLemmas.{inverse_positive}
use Rattle.division_rules.specs.Rows.{plain}
use Rattle.division_rules.proofs.CanonicalViews.{canonical_operations}
use Rattle.division_rules.proofs.PolynomialSetting.{polynomial_setting}
use Rattle.division_rules.proofs.Up.{up}
use Rattle.row_laws.specs.Words.{reduction_of}
use Rattle.row_laws.specs.Scaling.{ReductionsOfMultiples, MonicReducesAlike}
use Rattle.row_laws.proofs.ReductionValues.{chain_rows, canonical_reduction, reduction_is}
use Rattle.row_laws.proofs.ScaledSteps.{reduction-scaled}

-- the reduction of a multiple
pub reductions_of_multiples : ReductionsOfMultiples
reductions_of_multiples p n k chain f prime positive small are i = ap (reduction_of p n chain) (sym (as_product f i)) ∙ sym (reduction_is p n prime chain are multiple.0 multiple.1) ∙ ap (λ h. h.first.0) (reduction-scaled (polynomial_setting p n prime) factor (λ e. constant_of_nonzero n k positive (ap (λ x. x.0) e)) (λ x. (ExponentsBelow-one x (constant_of n k)).1 (constant_of_free x n k)) (chain_rows p n prime chain are) (up p n prime.many (plain f) (i, tt))) ∙ as_product (canonical_reduction p n prime chain are f i).0 (canonical_reduction p n prime chain are f i).1 ∙ ap (scaled p k) (reduction_is p n prime chain are f i)
  where
    factor : CanonicalPolynomial p n
    factor = (constant_of n k, IsPolynomial-constant_of p n k small)

    multiple : CanonicalPolynomial p n
    multiple = (canonical_operations p n prime.many).times factor (f, i)

    as_product : (g : Polynomial) → IsPolynomial p n g → product_of p (constant_of n k) g ≡ scaled p k g
    as_product g j = constant_of-product_of p n k g prime positive small j

pub monic_reduces_alike : MonicReducesAlike
monic_reduces_alike p n chain [] prime are i = (λ e. e, λ e. e)
monic_reduces_alike p n chain (t ∷ f) prime are i = (λ e. scaled_zero p k (reduction_of p n chain (t ∷ f)) (sym multiple ∙ e), λ e. multiple ∙ ap (scaled p k) e)
  where
    k : ℕ
    k = inverse_of p t.1

    multiple : reduction_of p n chain (scaled p k (t ∷ f)) ≡ scaled p k (reduction_of p n chain (t ∷ f))
    multiple =
        let inverse = inverse_of_is p t.1 prime i.1 i.2 in
        reductions_of_multiples p n k chain (t ∷ f) prime (inverse_positive p t.1 k inverse) inverse.0 are i
