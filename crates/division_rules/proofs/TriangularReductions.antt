-- The reduction of lists of terms by a triangular set is reduced by it.
use Rattle.std.proofs.Common.{◌≡◌, ℕ, suc, ◌<◌, ◌≤◌, List, [], ◌∷◌, Some, sym, ap, ap₂, ◌∙◌, subst, arith}
use Rattle.polynomials.specs.Primes.{IsPrime}
use Rattle.polynomials.specs.Polynomials.{Polynomial}
use Rattle.polynomials.specs.Views.{degree_in, main_var}
use Rattle.polynomials.proofs.PolynomialRing.{CanonicalPolynomial}
use Rattle.polynomials.proofs.MainVariables.{degree_in_main_var, free_above_main_var}
use Rattle.polynomials.proofs.ExponentsBelow.{ExponentsBelow, ExponentsBelow-one, degree_in-less}
use Rattle.division_rules.specs.Rows.{Row, reduction, first_entries}
use Rattle.division_rules.specs.Lists.{list_operations, variable_or_zero}
use Rattle.division_rules.specs.Chains.{EachRow, IsBelow, IsChain, IsReduced}
use Rattle.division_rules.specs.PolynomialRows.{ArePolynomialRows}
use Rattle.division_rules.specs.Triangular.{AreTriangular, HasLessDegree}
use Rattle.division_rules.specs.Statements.{ReductionIsReduced}
use Rattle.division_rules.proofs.Settings.{ViewedRing}
use Rattle.division_rules.proofs.Steps.{reduction-reduced}
use Rattle.division_rules.proofs.PolynomialSetting.{polynomial_setting}
use Rattle.division_rules.proofs.CanonicalViews.{canonical_operations}
use Rattle.division_rules.proofs.Down.{down, down_all, down-reduction}
use Rattle.polynomials.specs.Triangular.{IsTriangularFrom}
use Rattle.division_rules.proofs.Up.{up, up_rows, down-up, down-up_rows}

module _ (p n : ℕ) (prime : IsPrime p) where
  abbrev P : ViewedRing (CanonicalPolynomial p n)
  P = polynomial_setting p n prime

  -- a polynomial lies below each with a greater main variable
  below_later : (t : Row (CanonicalPolynomial p n)) (u v : ℕ) (chain : List (Row (CanonicalPolynomial p n))) → main_var t.first.0 ≡ Some u → u < v → IsTriangularFrom v (first_entries (down_all p n prime.many chain)) → EachRow (IsBelow P.ring P.views P.laws t) chain
  below_later t u v [] e less are = tt
  below_later t u v (x ∷ chain) e less (m, main, up_to, later) = ((smaller, free), below_later t u (suc m) chain e (omega arith) later)
    where
      main_t : variable_or_zero (main_var t.first.0) ≡ u
      main_t = ap variable_or_zero e

      main_x : variable_or_zero (main_var x.first.0) ≡ m
      main_x = ap variable_or_zero main

      smaller : variable_or_zero (main_var t.first.0) < variable_or_zero (main_var x.first.0)
      smaller = omega (arith, main_t, main_x)

      free : ExponentsBelow (variable_or_zero (main_var x.first.0)) 1 t.first.0
      free = subst (λ y. ExponentsBelow y 1 t.first.0) (sym main_x) ((ExponentsBelow-one m t.first.0).1 (free_above_main_var u m t.first.0 e (omega arith)))

  -- a triangular set is a chain
  pub chain_from_triangular : (v : ℕ) (chain : List (Row (CanonicalPolynomial p n))) → IsTriangularFrom v (first_entries (down_all p n prime.many chain)) → IsChain P.ring P.views P.laws chain
  chain_from_triangular v [] are = tt
  chain_from_triangular v (t ∷ chain) (u, main, up_to, later) = (subst (λ y. 1 ≤ degree_in y t.first.0) (sym (ap variable_or_zero main)) (degree_in_main_var u t.first.0 main), below_later t u (suc u) chain main (omega arith) later, chain_from_triangular (suc u) chain later)

  -- what is reduced by a chain has less degree than each member in its main variable
  pub less_degrees : (h : CanonicalPolynomial p n) (chain : List (Row Polynomial)) (are : ArePolynomialRows p n chain) → IsReduced P.ring P.views P.laws (up_rows p n prime.many chain are) h → EachRow (HasLessDegree h.0) chain
  less_degrees h [] are reduced = tt
  less_degrees h (t ∷ chain) are reduced = (less, less_degrees h chain are.1 reduced.1)
    where
      less : (v : ℕ) → main_var t.first ≡ Some v → degree_in v h.0 < degree_in v t.first
      less v main = degree_in-less v (degree_in v t.first) h.0 (degree_in_main_var v t.first main) (subst (λ y. ExponentsBelow y (degree_in y t.first) h.0) (ap variable_or_zero main) reduced.0)

-- the law of reductions
pub reduction_is_reduced : ReductionIsReduced
reduction_is_reduced p n chain f prime are i triangular = subst (λ h. EachRow (HasLessDegree h.first) chain) same (less_degrees p n prime (reduction (canonical_operations p n prime.many) canonical (up p n prime.many f i)).first chain are (reduction-reduced (polynomial_setting p n prime) canonical (chain_from_triangular p n prime 0 canonical (subst AreTriangular (sym (down-up_rows p n prime.many chain are)) triangular)) (up p n prime.many f i)))
  where
    canonical : List (Row (CanonicalPolynomial p n))
    canonical = up_rows p n prime.many chain are

    same : down p n prime.many (reduction (canonical_operations p n prime.many) canonical (up p n prime.many f i)) ≡ reduction (list_operations p n) chain f
    same = down-reduction p n prime.many canonical (up p n prime.many f i) ∙ ap₂ (reduction (list_operations p n)) (down-up_rows p n prime.many chain are) (down-up p n prime.many f i)
