-- Where remainder rows start on lists of terms, they start on canonical polynomials.
use Rattle.std.proofs.Common.{◌≡◌, ◌≢◌, ℕ, suc, ◌<◌, true, List, [], ◌∷◌, Option, Some, None, sym, ap, subst, arith}
use Rattle.std.proofs.lemmas.Bool.{ltb-true}
use Rattle.polynomials.specs.Primes.{IsPrime}
use Rattle.polynomials.specs.Polynomials.{Polynomial}
use Rattle.polynomials.specs.Views.{degree_in, main_var}
use Rattle.polynomials.proofs.PolynomialRing.{CanonicalPolynomial}
use Rattle.zero_sets.specs.ZeroSets.{IsTriangularFrom, is_variable_below}
use Rattle.division_rules.specs.Chains.{EachRow, IsReduced, IsFree}
use Rattle.division_rules.specs.Lists.{variable_or_zero}
use Rattle.division_rules.specs.PolynomialRows.{IsPolynomialRow, ArePolynomialRows}
use Rattle.division_rules.specs.Rows.{Row, first_entries}
use Rattle.division_rules.specs.Turns.{IsBase, IsTurn}
use Rattle.division_rules.proofs.Settings.{ViewedRing}
use Rattle.division_rules.proofs.Bounds.{under_degree}
use Rattle.division_rules.proofs.ListLaws.{free_above_main}
use Rattle.division_rules.proofs.PolynomialSetting.{polynomial_setting}
use Rattle.division_rules.proofs.TriangularReductions.{chain_from_triangular}
use Rattle.division_rules.proofs.ChainParts.{first_turn}
use Rattle.division_rules.proofs.Up.{up, up_rows, down-up_rows}
use Rattle.row_laws.specs.Words.{AreBelow, IsReducedBy, StartRemainderRows}

-- a lesser main variable
pub variable_below : (v : ℕ) (o : Option ℕ) → is_variable_below v o ≡ true → variable_or_zero o < v
variable_below v None e = cc
variable_below v (Some u) e = ltb-true u v e

module _ (p n : ℕ) (prime : IsPrime p) where
  abbrev P : ViewedRing (CanonicalPolynomial p n)
  P = polynomial_setting p n prime

  -- each differs from v in its main variable, and doesn't have v
  below_apart : (v : ℕ) (chain : List (Row Polynomial)) (are : ArePolynomialRows p n chain) → AreBelow v (first_entries chain) → EachRow (λ t. v ≢ P.views.main t.first) (up_rows p n prime.many chain are)
  below_apart v [] are below = tt
  below_apart v (t ∷ chain) are below =
      let less = variable_below v (main_var t.first) below.0 in
      ((λ e. omega (arith, less, e)), below_apart v chain are.1 below.1)

  below_free : (v : ℕ) (chain : List (Row Polynomial)) (are : ArePolynomialRows p n chain) → AreBelow v (first_entries chain) → IsFree P.ring P.views P.laws v (up_rows p n prime.many chain are)
  below_free v [] are below = tt
  below_free v (t ∷ chain) are below = (free_above_main t.first v (variable_below v (main_var t.first) below.0), below_free v chain are.1 below.1)

  -- a triangular set of rows is a chain below v
  pub chain_base : (v : ℕ) (chain : List (Row Polynomial)) (are : ArePolynomialRows p n chain) → IsTriangularFrom 0 (first_entries chain) → AreBelow v (first_entries chain) → IsBase P.ring P.views P.laws v (up_rows p n prime.many chain are)
  chain_base v chain are triangular below = record {
    increasing = chain_from_triangular p n prime 0 (up_rows p n prime.many chain are) (subst (λ rows. IsTriangularFrom 0 (first_entries rows)) (sym (down-up_rows p n prime.many chain are)) triangular);
    apart = below_apart v chain are below;
    free = below_free v chain are below;
  }

  -- what has lesser degrees is reduced
  pub reduced_from_degrees : (c : CanonicalPolynomial p n) (v : ℕ) (chain : List (Row Polynomial)) (are : ArePolynomialRows p n chain) → IsTriangularFrom v (first_entries chain) → IsReducedBy c.0 (first_entries chain) → IsReduced P.ring P.views P.laws (up_rows p n prime.many chain are) c
  reduced_from_degrees c v [] are triangular reduced = tt
  reduced_from_degrees c v (t ∷ chain) are (u, main, up_to, later) reduced = (subst (λ x. P.laws.Under x (degree_in x t.first) c) (sym (ap variable_or_zero main)) (under_degree P u (degree_in u t.first) c (reduced.0 u main)), reduced_from_degrees c (suc u) chain are.1 later reduced.1)

  -- so t and c make the first turn
  pub start_turn : (v : ℕ) (chain : List (Row Polynomial)) (are : ArePolynomialRows p n chain) (t c : Row Polynomial) (i : IsPolynomialRow p n t) (j : IsPolynomialRow p n c) → StartRemainderRows v (first_entries chain) t.first c.first → IsTurn P.ring P.views P.laws v (up_rows p n prime.many chain are) None (up p n prime.many t i) (up p n prime.many c j)
  start_turn v chain are t c i j start = first_turn P v (up_rows p n prime.many chain are) (up p n prime.many t i) (up p n prime.many c j) start.occurs start.falls (reduced_from_degrees (c.first, j.0) 0 chain are start.triangular start.reduced)

  pub start_base : (v : ℕ) (chain : List (Row Polynomial)) (are : ArePolynomialRows p n chain) (t c : Polynomial) → StartRemainderRows v (first_entries chain) t c → IsBase P.ring P.views P.laws v (up_rows p n prime.many chain are)
  start_base v chain are t c start = chain_base v chain are start.triangular start.below
