-- Values of reductions at points where the chain is zero.
use Rattle.std.proofs.Common.{◌≡◌, ℕ, suc, List, [], ◌∷◌, map, All, Contains, refl, sym, ap, ap₂, ◌∙◌, subst}
use Rattle.polynomials.specs.Primes.{IsPrime}
use Rattle.polynomials.specs.Polynomials.{Polynomial, IsPolynomial, ArePolynomials}
use Rattle.polynomials.specs.Views.{initial_of}
use Rattle.polynomials.proofs.PolynomialRing.{CanonicalPolynomial}
use Rattle.zero_sets.specs.Domains.{Tables, IsFiniteDomain, IsPoint, times_in, value_at}
use Rattle.zero_sets.specs.ZeroSets.{InZeroSet, AreNonZero}
use Rattle.zero_sets.proofs.TableRings.{Element}
use Rattle.division_rules.specs.Lists.{list_operations}
use Rattle.division_rules.specs.Units.{unit_rows}
use Rattle.division_rules.specs.Rows.{Row, plain, plains, reduction, first_entries}
use Rattle.division_rules.proofs.CanonicalViews.{canonical_operations}
use Rattle.division_rules.proofs.Down.{terms_all}
use Rattle.division_rules.proofs.Points.{IsScaled, val-reduction, zero-reduction, zero_iff_reduction_zero}
use Rattle.division_rules.proofs.PolynomialSetting.{polynomial_setting}
use Rattle.division_rules.proofs.Settings.{ViewedRing, Evaluation, IsZero, AllZero, InitialsNotZero}
use Rattle.division_rules.specs.Points.{product_of_all}
use Rattle.division_rules.proofs.Up.{up, up_rows, plains_canonical}
use Rattle.row_laws.specs.Words.{reduction_of}
use Rattle.row_laws.specs.Values.{IsMultipleByInitials, ReductionsMultiplyValues, ReductionsKeepZeros, ReductionsHaveSameZeros, ReducedToZeroVanishes}
use Rattle.row_laws.proofs.Lifts.{lifted-reduction}
use Rattle.row_laws.proofs.TablePoints.{table_evaluation, table_number, table_zero, zero_table, chain_zero, chain_initials}
use Rattle.row_laws.proofs.Initials.{terms-product_of_all, initial_members}

-- polynomials as rows have themselves as first entries
pub first_entries-plains : (fs : List Polynomial) → first_entries (plains fs) ≡ fs
first_entries-plains [] = refl
first_entries-plains (f ∷ fs) = ap (λ x. f ∷ x) (first_entries-plains fs)

-- so have the rows of generators
pub first_entries-unit_rows : (p n before : ℕ) (fs : List Polynomial) → first_entries (unit_rows (list_operations p n) before fs) ≡ fs
first_entries-unit_rows p n before [] = refl
first_entries-unit_rows p n before (f ∷ fs) = ap (λ x. f ∷ x) (first_entries-unit_rows p n (suc before) fs)

module _ (p n : ℕ) (prime : IsPrime p) (chain : List Polynomial) (are : ArePolynomials p n chain) where
  -- the chain as rows of canonical polynomials
  abbrev pub chain_rows : List (Row (CanonicalPolynomial p n))
  chain_rows = up_rows p n prime.many (plains chain) (plains_canonical p n chain are)

  -- the reduction as a canonical polynomial
  abbrev pub canonical_reduction : (f : Polynomial) → IsPolynomial p n f → CanonicalPolynomial p n
  canonical_reduction f i = (reduction (canonical_operations p n prime.many) chain_rows (up p n prime.many (plain f) (i, tt))).first

  pub reduction_is : (f : Polynomial) (i : IsPolynomial p n f) → (canonical_reduction f i).0 ≡ reduction_of p n chain f
  reduction_is f i = ap (λ h. h.first) (lifted-reduction p n prime.many (plains chain) (plains_canonical p n chain are) (plain f) (i, tt))

  module _ (r : Tables) (domain : IsFiniteDomain p r) (xs : List ℕ) (point : IsPoint r xs) where
    abbrev P : ViewedRing (CanonicalPolynomial p n)
    P = polynomial_setting p n prime

    abbrev E : Evaluation (polynomial_setting p n prime) (Element r)
    E = table_evaluation p n prime r domain xs point

    number : (g : CanonicalPolynomial p n) → (E.val g).0 ≡ value_at r xs g.0
    number g = table_number p n prime r domain xs point g

    pub chain_rows_zero : InZeroSet r xs chain → AllZero P E chain_rows
    chain_rows_zero zeros = chain_zero p n prime r domain xs point (plains chain) (plains_canonical p n chain are) (subst (InZeroSet r xs) (sym (first_entries-plains chain)) zeros)

    pub chain_rows_initials : AreNonZero r xs (map initial_of chain) → InitialsNotZero P E chain_rows
    chain_rows_initials others = chain_initials p n prime r domain xs point (plains chain) (plains_canonical p n chain are) (subst (λ fs. AreNonZero r xs (map initial_of fs)) (sym (first_entries-plains chain)) others)

    module _ (f : Polynomial) (i : IsPolynomial p n f) (zeros : InZeroSet r xs chain) where
      abbrev row : Row (CanonicalPolynomial p n)
      row = up p n prime.many (plain f) (i, tt)

      -- the value of the reduction is a multiple by initials
      pub reduction_multiple : IsMultipleByInitials p n r xs chain (value_at r xs f) (value_at r xs (reduction_of p n chain f))
      reduction_multiple = (terms_all p n prime.many scaled.0, subst (λ fs. All (Contains (map initial_of fs)) (terms_all p n prime.many scaled.0)) (first_entries-plains chain) (initial_members p n prime.many (plains chain) (plains_canonical p n chain are) scaled.0 scaled.1), ap (value_at r xs) (sym (reduction_is f i)) ∙ sym (number (canonical_reduction f i)) ∙ ap (λ u. u.0) scaled.2 ∙ ap₂ (times_in r) (number (product_of_all (canonical_operations p n prime.many) scaled.0) ∙ ap (value_at r xs) (terms-product_of_all p n prime.many scaled.0)) (number (f, i)))
        where
          scaled : IsScaled P E chain_rows (E.val (f, i)) (E.val (canonical_reduction f i))
          scaled = val-reduction P E chain_rows (chain_rows_zero zeros) row

      to_reduction : IsZero P E (canonical_reduction f i) → value_at r xs (reduction_of p n chain f) ≡ r.nil
      to_reduction z = ap (value_at r xs) (sym (reduction_is f i)) ∙ zero_table p n prime r domain xs point (canonical_reduction f i) z

      from_reduction : value_at r xs (reduction_of p n chain f) ≡ r.nil → IsZero P E (canonical_reduction f i)
      from_reduction z = table_zero p n prime r domain xs point (canonical_reduction f i) (ap (value_at r xs) (reduction_is f i) ∙ z)

      -- it is zero where f is
      pub reduction_zero : value_at r xs f ≡ r.nil → value_at r xs (reduction_of p n chain f) ≡ r.nil
      reduction_zero z = to_reduction (zero-reduction P E chain_rows (chain_rows_zero zeros) row (table_zero p n prime r domain xs point (f, i) z))

      -- and only there, where no initial is
      pub zero_only_by_reduction : AreNonZero r xs (map initial_of chain) → value_at r xs (reduction_of p n chain f) ≡ r.nil → value_at r xs f ≡ r.nil
      zero_only_by_reduction others z = zero_table p n prime r domain xs point (f, i) ((zero_iff_reduction_zero P E chain_rows (chain_rows_zero zeros) (chain_rows_initials others) row).1 (from_reduction z))

-- the laws of reductions
pub reductions_multiply_values : ReductionsMultiplyValues
reductions_multiply_values p n r xs chain f prime at are i zeros = reduction_multiple p n prime chain are r at.domain xs at.point f i zeros

pub reductions_keep_zeros : ReductionsKeepZeros
reductions_keep_zeros p n r xs chain f prime at are i zeros = reduction_zero p n prime chain are r at.domain xs at.point f i zeros

pub reductions_have_same_zeros : ReductionsHaveSameZeros
reductions_have_same_zeros p n r xs chain f prime at are i inside = (reduction_zero p n prime chain are r at.domain xs at.point f i inside.0, zero_only_by_reduction p n prime chain are r at.domain xs at.point f i inside.0 inside.1)

pub reduced_to_zero_vanishes : ReducedToZeroVanishes
reduced_to_zero_vanishes p n r xs chain f prime at are i inside none = zero_only_by_reduction p n prime chain are r at.domain xs at.point f i inside.0 inside.1 (ap (value_at r xs) none)
