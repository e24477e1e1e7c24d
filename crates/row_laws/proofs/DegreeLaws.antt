-- Degrees of remainders and reductions of lists of terms.
use Rattle.std.proofs.Common.{◌≡◌, ◌≢◌, ℕ, suc, ◌<◌, ◌≤◌, List, [], ◌∷◌, Some, sym, ap, ◌∙◌, subst, arith}
use Rattle.polynomials.specs.Primes.{IsPrime}
use Rattle.polynomials.specs.Polynomials.{Polynomial}
use Rattle.polynomials.specs.Views.{degree_in, main_var, IsFreeOf, AreFreeOf}
use Rattle.polynomials.proofs.ExponentsBelow.{ExponentsBelow-one, degree_in-from_ExponentsBelow, degree_in-less}
use Rattle.polynomials.proofs.MainVariables.{degree_in_main_var}
use Rattle.polynomials.proofs.PolynomialRing.{CanonicalPolynomial}
use Rattle.zero_sets.specs.ZeroSets.{IsTriangularFrom}
use Rattle.division_rules.specs.Chains.{EachRow, IsFree}
use Rattle.division_rules.specs.Lists.{list_operations, variable_or_zero}
use Rattle.division_rules.specs.PolynomialRows.{IsPolynomialRow, ArePolynomialRows}
use Rattle.division_rules.specs.Rows.{Row, plain, plains, elimination, sparse_remainder, turns, pseudo_remainder, first_entries}
use Rattle.division_rules.proofs.Bounds.{eliminated-under}
use Rattle.division_rules.proofs.CanonicalViews.{canonical_operations}
use Rattle.division_rules.proofs.Down.{down}
use Rattle.division_rules.proofs.PolynomialSetting.{polynomial_setting}
use Rattle.division_rules.proofs.RowsFree.{pseudo_remainder-other}
use Rattle.division_rules.proofs.Settings.{ViewedRing}
use Rattle.division_rules.proofs.Steps.{sparse_remainder-under, pseudo_remainder-under, elimination-other, sparse_remainder_by-keeps, reduction-other}
use Rattle.division_rules.proofs.Up.{up, up_rows, plains_canonical}
use Rattle.row_laws.specs.Degrees.{EliminationsLowerDegree, HaveLessDegree, RemaindersHaveLessDegree, KeepDegrees, DivisionsKeepDegrees, ReductionsKeepDegrees}
use Rattle.row_laws.proofs.Lifts.{lifted-elimination, lifted-sparse_remainder, lifted-pseudo_remainder}
use Rattle.row_laws.proofs.ReductionValues.{first_entries-plains, chain_rows, reduction_is}

-- x isn't the main variable of what doesn't have it
pub main_differs : (x u : ℕ) (t : Polynomial) → main_var t ≡ Some u → IsFreeOf x t → x ≢ variable_or_zero (main_var t)
main_differs x u t main free same =
    let occurs : 0 < degree_in u t = degree_in_main_var u t main in
    let is : degree_in u t ≡ 0 = ap (λ y. degree_in y t) (sym (same ∙ ap variable_or_zero main)) ∙ free in
    omega (arith, occurs, is)

module _ (p n : ℕ) (prime : IsPrime p) where
  abbrev P : ViewedRing (CanonicalPolynomial p n)
  P = polynomial_setting p n prime

  module _ (v : ℕ) (f g : Row Polynomial) (i : IsPolynomialRow p n f) (j : IsPolynomialRow p n g) where
    abbrev y : Row (CanonicalPolynomial p n)
    y = up p n prime.many f i

    abbrev z : Row (CanonicalPolynomial p n)
    z = up p n prime.many g j

    sparse : down p n prime.many (sparse_remainder (canonical_operations p n prime.many) v y z) ≡ sparse_remainder (list_operations p n) v f g
    sparse = lifted-sparse_remainder p n prime.many v f g i j

    pseudo : down p n prime.many (pseudo_remainder (canonical_operations p n prime.many) v y z) ≡ pseudo_remainder (list_operations p n) v f g
    pseudo = lifted-pseudo_remainder p n prime.many v f g i j

    -- remainders have less degree than the divisor
    pub have_less_degree : 0 < degree_in v g.first → HaveLessDegree p n v f g
    have_less_degree some = record {
      by_sparse_remainder = subst (λ h. degree_in v h.first < degree_in v g.first) sparse (degree_in-less v (degree_in v g.first) (sparse_remainder (canonical_operations p n prime.many) v y z).first.0 some (sparse_remainder-under P v y z));
      by_pseudo_remainder = subst (λ h. degree_in v h.first < degree_in v g.first) pseudo (degree_in-less v (degree_in v g.first) (pseudo_remainder (canonical_operations p n prime.many) v y z).first.0 some (pseudo_remainder-under P v y z));
    }

    module _ (x : ℕ) (other : x ≢ v) (free : IsFreeOf x g.first) where
      abbrev Bounded : Row Polynomial → Type 0
      Bounded h = degree_in x h.first ≤ degree_in x f.first

      abbrev Kept : Row (CanonicalPolynomial p n) → Type 0
      Kept h = P.laws.Under x (suc (degree_in x f.first)) h.first

      bounded : (h : Row (CanonicalPolynomial p n)) → Kept h → Bounded (down p n prime.many h)
      bounded h kept = degree_in-from_ExponentsBelow x (degree_in x f.first) h.first.0 kept

      under_free : P.laws.Under x 1 z.first
      under_free = (ExponentsBelow-one x g.first).1 free

      own : Kept y
      own = P.laws.degree-under x y.first

      -- degrees in x don't grow
      pub keep_degrees : KeepDegrees p n v x f g
      keep_degrees = record {
        by_elimination = subst Bounded (lifted-elimination p n prime.many v f g i j) (bounded (elimination (canonical_operations p n prime.many) v y z) (elimination-other P x (suc (degree_in x f.first)) v y z other under_free own));
        by_sparse_remainder = subst Bounded sparse (bounded (sparse_remainder (canonical_operations p n prime.many) v y z) (sparse_remainder_by-keeps P Kept v z (λ h e kept. elimination-other P x (suc (degree_in x f.first)) v h z other under_free kept) (turns (canonical_operations p n prime.many) v y.first z.first) y own));
        by_pseudo_remainder = subst Bounded pseudo (bounded (pseudo_remainder (canonical_operations p n prime.many) v y z) (pseudo_remainder-other P x (suc (degree_in x f.first)) v y z other under_free own));
      }

  -- a triangular set without x: no main variable is x, and no polynomial has it
  pub free_apart : (x u : ℕ) (chain : List (Row Polynomial)) (are : ArePolynomialRows p n chain) → IsTriangularFrom u (first_entries chain) → AreFreeOf x (first_entries chain) → EachRow (λ t. x ≢ P.views.main t.first) (up_rows p n prime.many chain are)
  free_apart x u [] are triangular free = tt
  free_apart x u (t ∷ chain) are (m, main, up_to, later) free = (main_differs x m t.first main free.0, free_apart x (suc m) chain are.1 later free.1)

  pub free_rows : (x : ℕ) (chain : List (Row Polynomial)) (are : ArePolynomialRows p n chain) → AreFreeOf x (first_entries chain) → IsFree P.ring P.views P.laws x (up_rows p n prime.many chain are)
  free_rows x [] are free = tt
  free_rows x (t ∷ chain) are free = ((ExponentsBelow-one x t.first).1 free.0, free_rows x chain are.1 free.1)

-- the laws
pub eliminations_lower_degree : EliminationsLowerDegree
eliminations_lower_degree p n v f g prime i j occurs at_most = subst (λ h. degree_in v h.first < degree_in v f.first) (lifted-elimination p n prime.many v f g i j) (degree_in-less v (degree_in v f.first) (elimination (canonical_operations p n prime.many) v (up p n prime.many f i) (up p n prime.many g j)).first.0 occurs (eliminated-under (polynomial_setting p n prime) v (f.first, i.0) (g.first, j.0) at_most))

pub remainders_have_less_degree : RemaindersHaveLessDegree
remainders_have_less_degree p n v f g prime i j some = have_less_degree p n prime v f g i j some

pub divisions_keep_degrees : DivisionsKeepDegrees
divisions_keep_degrees p n v x f g prime i j other free = keep_degrees p n prime v f g i j x other free

pub reductions_keep_degrees : ReductionsKeepDegrees
reductions_keep_degrees p n x chain f prime are i triangular free = subst (λ g. degree_in x g ≤ degree_in x f) (reduction_is p n prime chain are f i) (degree_in-from_ExponentsBelow x (degree_in x f) _ (reduction-other (polynomial_setting p n prime) x (suc (degree_in x f)) (chain_rows p n prime chain are) (free_apart p n prime x 0 (plains chain) (plains_canonical p n chain are) (subst (IsTriangularFrom 0) (sym (first_entries-plains chain)) triangular) (subst (AreFreeOf x) (sym (first_entries-plains chain)) free)) (free_rows p n prime x (plains chain) (plains_canonical p n chain are) (subst (AreFreeOf x) (sym (first_entries-plains chain)) free)) (up p n prime.many (plain f) (i, tt)) ((polynomial_setting p n prime).laws.degree-under x (f, i))))
