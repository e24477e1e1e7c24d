-- The laws of division for canonical lists of terms.
use Rattle.std.proofs.Common.{refl}
use Rattle.division_rules.specs.Lists.{list_operations}
use Rattle.division_rules.specs.Statements.{QuotientIsExact, QuotientIsNone, NoQuotientByZero, FactorsAreDividedAway, LastFactorIsGone, StepsKeepCanonical, WithinIsUnlimited}
use Rattle.division_rules.proofs.QuotientCases.{quotient_within_iff, quotient_within_none_iff}
use Rattle.division_rules.proofs.Factors.{IsPolynomial-without_factors, without_factors_nonzero, degree_in-without_factors}
use Rattle.division_rules.proofs.FactorProducts.{without_factors_product}
use Rattle.division_rules.proofs.FactorBounds.{without_factors_has_none}
use Rattle.division_rules.proofs.CanonicalRows.{IsPolynomialRow-elimination, IsPolynomialRow-sparse_remainder, IsPolynomialRow-pseudo_remainder, IsPolynomialRow-reduction, AreRemainderRows-remainder_rows}
use Rattle.division_rules.proofs.WithinLimits.{gives-elimination, gives-sparse_remainder, gives-pseudo_remainder, gives-reduction, gives-power_of, gives-remainder_rows}

-- the quotient is the factor that fits
pub quotient_is_exact : QuotientIsExact
quotient_is_exact p n w a b q prime i j some = quotient_within_iff p n w a b prime i j some q

-- and there is none where none fits
pub quotient_is_none : QuotientIsNone
quotient_is_none p n w a b prime i j some = quotient_within_none_iff p n w a b prime i j some

-- nor by 0
pub no_quotient_by_zero : NoQuotientByZero
no_quotient_by_zero p w a = refl

-- what was divided away is a product of members
pub factors_are_divided_away : FactorsAreDividedAway
factors_are_divided_away p n w bs f prime are i = record {
  canonical = IsPolynomial-without_factors p n w prime bs f are i;
  product = without_factors_product p n w prime bs are f i;
  nonzero = without_factors_nonzero p n w prime bs f are i;
  degrees = λ v. degree_in-without_factors p n w prime bs f v are i;
}

-- the last member divides no more
pub last_factor_is_gone : LastFactorIsGone
last_factor_is_gone p n w bs b f prime are ib varies i some = without_factors_has_none p n w bs b f prime are ib varies i some

-- canonical polynomials stay canonical
pub steps_keep_canonical : StepsKeepCanonical
steps_keep_canonical p n many = record {
  elimination = IsPolynomialRow-elimination p n many;
  sparse_remainder = IsPolynomialRow-sparse_remainder p n many;
  pseudo_remainder = IsPolynomialRow-pseudo_remainder p n many;
  reduction = IsPolynomialRow-reduction p n many;
  remainder_rows = AreRemainderRows-remainder_rows p n many;
}

-- the steps within a width don't look at the laws of polynomials
pub within_is_unlimited : WithinIsUnlimited
within_is_unlimited p n w = record {
  elimination = gives-elimination (list_operations p n) w;
  sparse_remainder = gives-sparse_remainder (list_operations p n) w;
  pseudo_remainder = gives-pseudo_remainder (list_operations p n) w;
  reduction = gives-reduction (list_operations p n) w;
  power = gives-power_of (list_operations p n) w;
  remainder_rows = gives-remainder_rows (list_operations p n) w;
}
