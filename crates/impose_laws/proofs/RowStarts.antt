-- Where remainder rows of lists of terms start, in terms of the laws of division.
use Rattle.std.proofs.Common.{◌≡◌, ◌≢◌, ℕ, suc, ◌<◌, ◌≤◌, List, [], ◌∷◌, None, sym, ap, ◌∙◌, subst, arith}
use Rattle.std.specs.List.{AllByRecursion}
use Rattle.polynomials.specs.Primes.{IsPrime}
use Rattle.polynomials.specs.Polynomials.{Polynomial, IsPolynomial, ArePolynomials}
use Rattle.polynomials.specs.Views.{degree_in, main_var}
use Rattle.polynomials.proofs.PolynomialRing.{CanonicalPolynomial}
use Rattle.polynomials.proofs.MainVariables.{free_above_main_var}
use Rattle.polynomials.proofs.ExponentsBelow.{ExponentsBelow, ExponentsBelow-one, ExponentsBelow-more, ExponentsBelow-degree}
use Rattle.zero_sets.specs.ZeroSets.{IsTriangular}
use Rattle.impose_rules.proofs.ChainParts.{HasMainBelow, triangular_plains}
use Rattle.division_rules.specs.Rows.{Row, plain, plains, first_entries}
use Rattle.division_rules.specs.Lists.{variable_or_zero}
use Rattle.division_rules.specs.Chains.{EachRow, IsReduced, IsFree}
use Rattle.division_rules.specs.Turns.{IsBase, IsTurn}
use Rattle.division_rules.specs.Triangular.{HasLessDegree}
use Rattle.division_rules.proofs.Settings.{ViewedRing}
use Rattle.division_rules.proofs.PolynomialSetting.{polynomial_setting}
use Rattle.division_rules.proofs.ChainParts.{first_turn}
use Rattle.division_rules.proofs.TriangularReductions.{chain_from_triangular}
use Rattle.division_rules.proofs.Down.{down_all, down-plains}
use Rattle.polynomials.specs.Triangular.{IsTriangularFrom}
use Rattle.division_rules.proofs.Up.{up_all, terms-up_all}

-- t and c start remainder rows in v below the chain
pub record IsStart (p n v : ℕ) (chain : List Polynomial) (t c : Polynomial) : Type 0 where
  pub canonical_chain : ArePolynomials p n chain
  pub canonical_t : IsPolynomial p n t
  pub canonical_c : IsPolynomial p n c
  pub triangular : IsTriangular chain
  pub below : AllByRecursion (HasMainBelow v) chain
  pub reduced : AllByRecursion (λ u. HasLessDegree c (plain u)) chain
  pub occurs : 1 ≤ degree_in v c
  pub falls : degree_in v c < degree_in v t

module _ (p n : ℕ) (prime : IsPrime p) where
  abbrev pub P : ViewedRing (CanonicalPolynomial p n)
  P = polynomial_setting p n prime

  -- canonical lists of terms, as rows of canonical polynomials
  abbrev pub lifted : (chain : List Polynomial) → ArePolynomials p n chain → List (Row (CanonicalPolynomial p n))
  lifted chain are = plains (up_all p n prime.many chain are)

  -- which have those lists as first entries
  pub down-lifted : (chain : List Polynomial) (are : ArePolynomials p n chain) → down_all p n prime.many (lifted chain are) ≡ plains chain
  down-lifted chain are = down-plains p n prime.many (up_all p n prime.many chain are) ∙ ap plains (terms-up_all p n prime.many chain are)

  -- what holds of each list holds of its row
  pub each_lifted : (Q : Polynomial → Type 0) (R : Row (CanonicalPolynomial p n) → Type 0) → ((t : CanonicalPolynomial p n) → Q t.0 → R (plain t)) → (chain : List Polynomial) (are : ArePolynomials p n chain) → AllByRecursion Q chain → EachRow R (lifted chain are)
  each_lifted Q R step [] are h = tt
  each_lifted Q R step (t ∷ chain) are h = (step (t, are.0) h.0, each_lifted Q R step chain are.1 h.1)

  -- a variable that isn't less than the main variables is none of them, and doesn't occur
  pub apart_from : (v x : ℕ) → v ≤ x → (chain : List Polynomial) (are : ArePolynomials p n chain) → AllByRecursion (HasMainBelow v) chain → EachRow (λ t. x ≢ P.views.main t.first) (lifted chain are)
  apart_from v x up chain are below = each_lifted (HasMainBelow v) (λ t. x ≢ P.views.main t.first) (λ t h same. different h.0 (same ∙ ap variable_or_zero h.1) h.2) chain are below
    where
      different : (u : ℕ) → x ≡ u → u < v → ⊥
      different u same less = omega arith

  pub free_of : (v x : ℕ) → v ≤ x → (chain : List Polynomial) (are : ArePolynomials p n chain) → AllByRecursion (HasMainBelow v) chain → IsFree P.ring P.views P.laws x (lifted chain are)
  free_of v x up chain are below = each_lifted (HasMainBelow v) (λ t. ExponentsBelow x 1 t.first.0) (λ t h. (ExponentsBelow-one x t.0).1 (free_above_main_var h.0 x t.0 h.1 (omega (arith, h.2)))) chain are below

  module _ (v : ℕ) (chain : List Polynomial) (t c : Polynomial) (start : IsStart p n v chain t c) where
    abbrev pub below_rows : List (Row (CanonicalPolynomial p n))
    below_rows = lifted chain start.canonical_chain

    abbrev pub row_t : Row (CanonicalPolynomial p n)
    row_t = plain (t, start.canonical_t)

    abbrev pub row_c : Row (CanonicalPolynomial p n)
    row_c = plain (c, start.canonical_c)

    -- the chain lies below v
    pub start_base : IsBase P.ring P.views P.laws v below_rows
    start_base = record {
      increasing = chain_from_triangular p n prime 0 below_rows (subst (λ rows. IsTriangularFrom 0 (first_entries rows)) (sym (down-lifted chain start.canonical_chain)) (triangular_plains 0 chain start.triangular));
      apart = apart_from v v (omega arith) chain start.canonical_chain start.below;
      free = free_of v v (omega arith) chain start.canonical_chain start.below;
    }

    -- c is reduced by the chain
    pub start_reduced : IsReduced P.ring P.views P.laws below_rows row_c.first
    start_reduced = each_both chain start.canonical_chain start.below start.reduced
      where
        less_exponents : (u : CanonicalPolynomial p n) → HasMainBelow v u.0 → HasLessDegree c (plain u.0) → ExponentsBelow (variable_or_zero (main_var u.0)) (degree_in (variable_or_zero (main_var u.0)) u.0) c
        less_exponents u main less = subst (λ x. ExponentsBelow x (degree_in x u.0) c) (sym (ap variable_or_zero main.1)) (ExponentsBelow-more main.0 (suc (degree_in main.0 c)) (degree_in main.0 u.0) c (less main.0 main.1) (ExponentsBelow-degree main.0 c))

        each_both : (us : List Polynomial) (are : ArePolynomials p n us) → AllByRecursion (HasMainBelow v) us → AllByRecursion (λ u. HasLessDegree c (plain u)) us → IsReduced P.ring P.views P.laws (lifted us are) (c, start.canonical_c)
        each_both [] are mains less = tt
        each_both (u ∷ us) are mains less = (less_exponents (u, are.0) mains.0 less.0, each_both us are.1 mains.1 less.1)

    -- so they make a first turn
    pub start_turn : IsTurn P.ring P.views P.laws v below_rows None row_t row_c
    start_turn = first_turn P v below_rows row_t row_c start.occurs start.falls start_reduced
