-- What the value of a result is, from what the result is.
use Rattle.std.proofs.Common.{◌≡◌, ℕ, get_or, ap, sym, ◌∙◌, subst}
use Rattle.polynomials.specs.Primes.{IsPrime}
use Rattle.polynomials.specs.Polynomials.{Polynomial, IsPolynomial, sum_of, difference_of, product_of, monic}
use Rattle.polynomials.specs.Views.{degree_in, lead_in, tail_in}
use Rattle.zero_sets.specs.Domains.{value_at, plus_in, times_in, power_at}
use Rattle.zero_sets.proofs.ValueLaws.{value_at-sum_of, value_at-difference_of, value_at-product_of, value_at-monic}
use Rattle.zero_sets.proofs.LeadValues.{value_of_lead_and_tail}
use Rattle.sparse_poly.specs.Values.{HasValueOfSum, HasValueOfDifference, HasValueOfProduct, HasZerosOf, SplitsValue}

-- of a sum
pub has_value_of_sum : (p : ℕ) (f g h : Polynomial) → h ≡ sum_of p f g → HasValueOfSum p f g h
has_value_of_sum p f g h e r xs over = ap (value_at r xs) e ∙ value_at-sum_of p r over.domain.ring xs over.point f g

-- of a difference
pub has_value_of_difference : (p n : ℕ) (f g h : Polynomial) → IsPolynomial p n g → h ≡ difference_of p f g → HasValueOfDifference p f g h
has_value_of_difference p n f g h i e = subst (HasValueOfDifference p f g) (sym e) (λ r xs over. value_at-difference_of p r over.domain.ring xs over.point n f g i)

-- of a product
pub has_value_of_product : (p : ℕ) (f g h : Polynomial) → h ≡ product_of p f g → HasValueOfProduct p f g h
has_value_of_product p f g h e r xs over = ap (value_at r xs) e ∙ value_at-product_of p r over.domain.ring xs over.point f g

-- of a monic form: the same zeros
pub has_zeros_of : (p n : ℕ) (f h : Polynomial) → IsPrime p → IsPolynomial p n f → h ≡ monic p f → HasZerosOf p f h
has_zeros_of p n f h prime i e = subst (HasZerosOf p f) (sym e) (λ r xs over. value_at-monic p r over.domain.ring xs over.point n f prime i)

-- of a lead and a tail
pub splits_value : (p v : ℕ) (f tail : Polynomial) → tail ≡ tail_in v f → SplitsValue p v f (lead_in v f) tail
splits_value p v f tail e r xs over = value_of_lead_and_tail p v r xs f over.domain.ring over.point ∙ ap (λ g. plus_in r (times_in r (value_at r xs (lead_in v f)) (power_at r (get_or xs v r.one) (degree_in v f))) (value_at r xs g)) (sym e)
