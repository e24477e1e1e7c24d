-- Values of eliminations, remainders and reductions at points where the divisors are zero.
use Rattle.std.proofs.Common.{◌≡◌, ℕ, List, sym, ap, ap₂, ◌∙◌}
use Rattle.polynomials.specs.Primes.{IsPrime}
use Rattle.polynomials.specs.Polynomials.{Polynomial}
use Rattle.polynomials.specs.Views.{lead_in}
use Rattle.polynomials.specs.Rings.{power_in}
use Rattle.polynomials.proofs.PolynomialRing.{CanonicalPolynomial}
use Rattle.zero_sets.specs.Domains.{Tables, IsFiniteDomain, IsPoint, times_in, power_at, value_at}
use Rattle.zero_sets.proofs.TableRings.{Element, power-table}
use Rattle.division_rules.specs.Lists.{list_operations}
use Rattle.division_rules.specs.Operations.{lead}
use Rattle.division_rules.specs.PolynomialRows.{IsPolynomialRow}
use Rattle.division_rules.specs.Rows.{Row, elimination, sparse_remainder, turns, pseudo_remainder}
use Rattle.division_rules.proofs.CanonicalViews.{canonical_operations}
use Rattle.division_rules.proofs.Down.{down}
use Rattle.division_rules.proofs.Points.{val-elimination, val-sparse_remainder, val-pseudo_remainder, zero_iff_pseudo_remainder_zero, zero-pseudo_remainder}
use Rattle.division_rules.proofs.PolynomialSetting.{polynomial_setting}
use Rattle.division_rules.proofs.Settings.{ViewedRing, Evaluation}
use Rattle.division_rules.proofs.Up.{up}
use Rattle.row_laws.specs.Values.{MultiplyValues, DivisionsMultiplyValues}
use Rattle.row_laws.proofs.Lifts.{lifted-elimination, lifted-sparse_remainder, lifted-pseudo_remainder}
use Rattle.row_laws.proofs.TablePoints.{table_evaluation, table_number, table_zero, zero_table, table_not_zero}

module _ (p n : ℕ) (prime : IsPrime p) (r : Tables) (domain : IsFiniteDomain p r) (xs : List ℕ) (point : IsPoint r xs) where
  abbrev P : ViewedRing (CanonicalPolynomial p n)
  P = polynomial_setting p n prime

  abbrev E : Evaluation (polynomial_setting p n prime) (Element r)
  E = table_evaluation p n prime r domain xs point

  number : (f : CanonicalPolynomial p n) → (E.val f).0 ≡ value_at r xs f.0
  number f = table_number p n prime r domain xs point f

  -- the value of the first entry of a row that is that of a canonical one
  first_number : (f : Row (CanonicalPolynomial p n)) (g : Row Polynomial) → down p n prime.many f ≡ g → value_at r xs g.first ≡ (E.val f.first).0
  first_number f g same = ap (λ h. value_at r xs h.first) (sym same) ∙ sym (number f.first)

  module _ (v : ℕ) (f g : Row Polynomial) (i : IsPolynomialRow p n f) (j : IsPolynomialRow p n g) (zero : value_at r xs g.first ≡ r.nil) where
    abbrev x : Row (CanonicalPolynomial p n)
    x = up p n prime.many f i

    abbrev y : Row (CanonicalPolynomial p n)
    y = up p n prime.many g j

    -- the value of the lead
    abbrev l : Element r
    l = E.val (lead (canonical_operations p n prime.many) v y.first)

    power : (e : ℕ) → (power_in E.values l e).0 ≡ power_at r (value_at r xs (lead_in v g.first)) e
    power e = power-table p r domain.ring l e ∙ ap (λ a. power_at r a e) (number (lead (canonical_operations p n prime.many) v y.first))

    scaled : (h : Row (CanonicalPolynomial p n)) (s : Row Polynomial) → down p n prime.many h ≡ s → (e : ℕ) → E.val h.first ≡ E.values.◌⊗◌ (power_in E.values l e) (E.val x.first) → value_at r xs s.first ≡ times_in r (power_at r (value_at r xs (lead_in v g.first)) e) (value_at r xs f.first)
    scaled h s same e is = first_number h s same ∙ ap (λ u. u.0) is ∙ ap₂ (times_in r) (power e) (number x.first)

    zero_y : E.val y.first ≡ E.values.nil
    zero_y = table_zero p n prime r domain xs point (g.first, j.0) zero

    pseudo : down p n prime.many (pseudo_remainder (canonical_operations p n prime.many) v x y) ≡ pseudo_remainder (list_operations p n) v f g
    pseudo = lifted-pseudo_remainder p n prime.many v f g i j

    -- what divisions by g do to the value of f
    pub multiply_values : MultiplyValues p n v r xs f g
    multiply_values = record {
      by_elimination = first_number (elimination (canonical_operations p n prime.many) v x y) (elimination (list_operations p n) v f g) (lifted-elimination p n prime.many v f g i j) ∙ ap (λ u. u.0) (val-elimination P E v x y zero_y) ∙ ap₂ (times_in r) (number (lead (canonical_operations p n prime.many) v y.first)) (number x.first);
      by_sparse_remainder = (by_some.0, scaled (sparse_remainder (canonical_operations p n prime.many) v x y) (sparse_remainder (list_operations p n) v f g) (lifted-sparse_remainder p n prime.many v f g i j) by_some.0 by_some.1);
      by_pseudo_remainder = scaled (pseudo_remainder (canonical_operations p n prime.many) v x y) (pseudo_remainder (list_operations p n) v f g) pseudo (turns (list_operations p n) v f.first g.first) (val-pseudo_remainder P E v x y zero_y);
      keeps_zero = λ z. first_number (pseudo_remainder (canonical_operations p n prime.many) v x y) (pseudo_remainder (list_operations p n) v f g) pseudo ∙ ap (λ u. u.0) (zero-pseudo_remainder P E v x y (table_zero p n prime r domain xs point (f.first, i.0) z) zero_y);
      no_other_zero = λ other z. zero_table p n prime r domain xs point (f.first, i.0) ((zero_iff_pseudo_remainder_zero P E v x y zero_y (table_not_zero p n prime r domain xs point (lead (canonical_operations p n prime.many) v y.first) other)).1 (table_zero p n prime r domain xs point (pseudo_remainder (canonical_operations p n prime.many) v x y).first (ap (λ h. value_at r xs h.first) pseudo ∙ z)));
    }
      where
        by_some : (e : ℕ) × (E.val (sparse_remainder (canonical_operations p n prime.many) v x y).first ≡ E.values.◌⊗◌ (power_in E.values l e) (E.val x.first))
        by_some = val-sparse_remainder P E v x y zero_y

-- at every point
pub divisions_multiply_values : DivisionsMultiplyValues
divisions_multiply_values p n v r xs f g prime at i j zero = multiply_values p n prime r at.domain xs at.point v f g i j zero
