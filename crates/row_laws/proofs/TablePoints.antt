-- Values at a point of a finite domain, as values of canonical polynomials in a ring.
use Rattle.std.proofs.Common.{◌≡◌, ◌≢◌, ℕ, List, [], ◌∷◌, map, ap, sym, ◌∙◌}
use Rattle.polynomials.specs.Primes.{IsPrime}
use Rattle.polynomials.specs.Polynomials.{Polynomial}
use Rattle.polynomials.specs.Views.{initial_of}
use Rattle.polynomials.proofs.PolynomialRing.{CanonicalPolynomial}
use Rattle.zero_sets.specs.Domains.{Tables, IsFiniteDomain, IsPoint, value_at}
use Rattle.zero_sets.specs.ZeroSets.{InZeroSet, AreNonZero}
use Rattle.zero_sets.proofs.TableRings.{Element, element_path, table_ring, has_characteristic, is_integral, coordinates, value-table}
use Rattle.division_rules.specs.PolynomialRows.{ArePolynomialRows}
use Rattle.division_rules.specs.Rows.{Row, first_entries}
use Rattle.division_rules.proofs.Settings.{ViewedRing, Evaluation, IsZero, NotZero, AllZero, InitialsNotZero}
use Rattle.division_rules.proofs.ListWords.{list_initial}
use Rattle.division_rules.proofs.PolynomialSetting.{polynomial_setting, polynomial_evaluation}
use Rattle.division_rules.proofs.Up.{up_rows}

module _ (p n : ℕ) (prime : IsPrime p) (r : Tables) (domain : IsFiniteDomain p r) (xs : List ℕ) (point : IsPoint r xs) where
  abbrev P : ViewedRing (CanonicalPolynomial p n)
  P = polynomial_setting p n prime

  -- 1 is not 0 in it
  pub one_not_nil : (table_ring p r domain.ring).one ≢ (table_ring p r domain.ring).nil
  one_not_nil e = domain.ring.one_not_nil (ap (λ u. u.0) e)

  -- values at the point
  abbrev pub table_evaluation : Evaluation (polynomial_setting p n prime) (Element r)
  table_evaluation = polynomial_evaluation p n prime (table_ring p r domain.ring) (has_characteristic p r domain.ring) (coordinates p r domain.ring xs point) (is_integral p r domain) one_not_nil

  -- are those by the tables
  pub table_number : (f : CanonicalPolynomial p n) → (table_evaluation.val f).0 ≡ value_at r xs f.0
  table_number f = value-table p r domain.ring xs point f.0

  -- what is zero by the tables is zero, and the other way round
  pub table_zero : (f : CanonicalPolynomial p n) → value_at r xs f.0 ≡ r.nil → IsZero P table_evaluation f
  table_zero f e = element_path r (table_number f ∙ e)

  pub zero_table : (f : CanonicalPolynomial p n) → IsZero P table_evaluation f → value_at r xs f.0 ≡ r.nil
  zero_table f e = sym (table_number f) ∙ ap (λ u. u.0) e

  -- so is what isn't
  pub table_not_zero : (f : CanonicalPolynomial p n) → value_at r xs f.0 ≢ r.nil → NotZero P table_evaluation f
  table_not_zero f other z = other (zero_table f z)

  -- each of a chain is zero
  pub chain_zero : (chain : List (Row Polynomial)) (are : ArePolynomialRows p n chain) → InZeroSet r xs (first_entries chain) → AllZero P table_evaluation (up_rows p n prime.many chain are)
  chain_zero [] are zeros = tt
  chain_zero (t ∷ chain) are zeros = (table_zero (t.first, are.0.0) zeros.0, chain_zero chain are.1 zeros.1)

  -- its initials are not
  pub chain_initials : (chain : List (Row Polynomial)) (are : ArePolynomialRows p n chain) → AreNonZero r xs (map initial_of (first_entries chain)) → InitialsNotZero P table_evaluation (up_rows p n prime.many chain are)
  chain_initials [] are others = tt
  chain_initials (t ∷ chain) are others = ((λ z. others.0 (ap (value_at r xs) (sym (list_initial p n t.first)) ∙ sym (value-table p r domain.ring xs point _) ∙ ap (λ u. u.0) z)), chain_initials chain are.1 others.1)
