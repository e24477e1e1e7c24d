-- What is reduced stays so: reductions of lists of terms that change nothing.
use Rattle.std.proofs.Common.{◌≡◌, ℕ, suc, List, [], ◌∷◌, ◌++◌, sym, ap, ◌∙◌, subst}
use Rattle.polynomials.specs.Primes.{IsPrime}
use Rattle.polynomials.specs.Polynomials.{Polynomial, IsPolynomial, ArePolynomials}
use Rattle.zero_sets.specs.ZeroSets.{IsTriangularFrom}
use Rattle.division_rules.specs.Lists.{list_operations}
use Rattle.division_rules.specs.PolynomialRows.{IsPolynomialRow, ArePolynomialRows}
use Rattle.division_rules.specs.Rows.{Row, plain, plains, reduction, first_entries}
use Rattle.division_rules.proofs.Down.{down}
use Rattle.division_rules.proofs.PolynomialSetting.{polynomial_setting}
use Rattle.division_rules.proofs.Reduced.{reduction-same}
use Rattle.division_rules.proofs.Up.{up, up_rows, down-up, plains_canonical}
use Rattle.row_laws.specs.Words.{IsReducedBy}
use Rattle.row_laws.specs.Degrees.{ReducedStaysSame, ReducedByMore}
use Rattle.row_laws.proofs.Lifts.{lifted-reduction}
use Rattle.row_laws.proofs.ReductionValues.{first_entries-plains}
use Rattle.row_laws.proofs.Starts.{reduced_from_degrees}

-- rows that are reduced are their own reductions
reduced_same : (p n : ℕ) (prime : IsPrime p) (u : ℕ) (chain : List (Row Polynomial)) (f : Row Polynomial) (are : ArePolynomialRows p n chain) (i : IsPolynomialRow p n f) → IsTriangularFrom u (first_entries chain) → IsReducedBy f.first (first_entries chain) → reduction (list_operations p n) chain f ≡ f
reduced_same p n prime u chain f are i triangular reduced = sym (lifted-reduction p n prime.many chain are f i) ∙ ap (down p n prime.many) (reduction-same (polynomial_setting p n prime) (up_rows p n prime.many chain are) (up p n prime.many f i) (reduced_from_degrees p n prime (f.first, i.0) u chain are triangular reduced)) ∙ down-up p n prime.many f i

pub reduced_stays_same : ReducedStaysSame
reduced_stays_same p n chain f prime are triangular reduced = reduced_same p n prime 0 chain f are.1 are.0 triangular reduced

-- the last members, by which f is reduced, change nothing
without_more : (p n : ℕ) (prime : IsPrime p) (v : ℕ) (chain more : List Polynomial) (f : Polynomial) → ArePolynomials p n (chain ++ more) → IsPolynomial p n f → IsTriangularFrom v (chain ++ more) → IsReducedBy f more → reduction (list_operations p n) (plains (chain ++ more)) (plain f) ≡ reduction (list_operations p n) (plains chain) (plain f)
without_more p n prime v [] more f are i triangular reduced = reduced_same p n prime v (plains more) (plain f) (plains_canonical p n more are) (i, tt) (subst (IsTriangularFrom v) (sym (first_entries-plains more)) triangular) (subst (IsReducedBy f) (sym (first_entries-plains more)) reduced)
without_more p n prime v (t ∷ chain) more f are i (u, main, up_to, later) reduced = ap (λ h. reduction (list_operations p n) (plain t ∷ []) h) (without_more p n prime (suc u) chain more f are.1 i later reduced)

pub reduced_by_more : ReducedByMore
reduced_by_more p n chain more f prime are i triangular reduced = ap (λ h. h.first) (without_more p n prime 0 chain more f are i triangular reduced)
