-- Reductions and remainder rows of lists of terms at points of a finite domain.
use Rattle.std.proofs.Common.{◌≡◌, ◌≢◌, ℕ, ◌<◌, List, [], ◌∷◌, Some, option_map, refl, sym, ap, ◌∙◌, subst, arith}
use Rattle.polynomials.specs.Primes.{IsPrime}
use Rattle.polynomials.specs.Polynomials.{Polynomial, IsPolynomial, ArePolynomials}
use Rattle.polynomials.specs.Views.{lead_in, IsFreeOf}
use Rattle.polynomials.proofs.PolynomialRing.{CanonicalPolynomial}
use Rattle.polynomials.proofs.ExponentsBelow.{ExponentsBelow-one}
use Rattle.zero_sets.specs.Domains.{Tables, IsFiniteDomain, IsPoint, value_at}
use Rattle.zero_sets.specs.ZeroSets.{InZeroSet, AreNonZero}
use Rattle.zero_sets.proofs.TableRings.{Element, table_ring, has_characteristic, is_integral, coordinates}
use Rattle.zero_sets.proofs.ValueLaws.{zero_number, zero_element}
use Rattle.division_rules.specs.Rows.{Row, plain, plains, reduction}
use Rattle.division_rules.specs.Lists.{list_operations}
use Rattle.division_rules.specs.Chains.{EachRow}
use Rattle.division_rules.specs.RemainderRows.{LaterRows, leads}
use Rattle.division_rules.specs.Turns.{last_row}
use Rattle.division_rules.proofs.Settings.{Evaluation, operations, AllZero}
use Rattle.division_rules.proofs.PolynomialSetting.{polynomial_evaluation}
use Rattle.division_rules.proofs.Points.{zero-reduction}
use Rattle.division_rules.proofs.CofactorPoints.{LeadOfRowNotZero}
use Rattle.division_rules.proofs.Outcome.{remainder_rows_end_well}
use Rattle.division_rules.proofs.Down.{down, down_all, down-reduction}
use Rattle.division_rules.proofs.DownRows.{down_rows}
use Rattle.impose_laws.proofs.RowStarts.{IsStart, P, lifted, down-lifted, apart_from, free_of, below_rows, row_t, row_c, start_base, start_turn}
use Rattle.impose_laws.proofs.RowShapes.{lifted_rows, rows, down-lifted_rows}

module _ (p n : ℕ) (prime : IsPrime p) (r : Tables) (domain : IsFiniteDomain p r) (xs : List ℕ) (point : IsPoint r xs) where
  -- values at the point
  abbrev evaluation : Evaluation (P p n prime) (Element r)
  evaluation = polynomial_evaluation p n prime (table_ring p r domain.ring) (has_characteristic p r domain.ring) (coordinates p r domain.ring xs point) (is_integral p r domain) (λ e. domain.ring.one_not_nil (ap (λ x. x.0) e))

  zeros_lifted : (chain : List Polynomial) (are : ArePolynomials p n chain) → InZeroSet r xs chain → AllZero (P p n prime) evaluation (lifted p n prime chain are)
  zeros_lifted [] are h = tt
  zeros_lifted (t ∷ chain) are h = (zero_element p r domain.ring xs point t h.0, zeros_lifted chain are.1 h.1)

  -- where the chain is zero, a reduction by it is zero where f is
  pub reduction_zero : (chain : List Polynomial) (f : Polynomial) → ArePolynomials p n chain → IsPolynomial p n f → InZeroSet r xs chain → value_at r xs f ≡ r.nil → value_at r xs (reduction (list_operations p n) (plains chain) (plain f)).first ≡ r.nil
  reduction_zero chain f are i zeros zero_f = subst (λ h. value_at r xs h.first ≡ r.nil) (down-reduction p n prime.many (lifted p n prime chain are) (plain (f, i)) ∙ ap (λ x. reduction (list_operations p n) x (plain f)) (down-lifted p n prime chain are)) (zero_number p r domain.ring xs point (reduction (operations (P p n prime)) (lifted p n prime chain are) (plain (f, i))).first.0 (zero-reduction (P p n prime) evaluation (lifted p n prime chain are) (zeros_lifted chain are zeros) (plain (f, i)) (zero_element p r domain.ring xs point f zero_f)))

  -- the last row of lists of terms
  last_down : (g : Row (CanonicalPolynomial p n)) (later : List (Row (CanonicalPolynomial p n))) → last_row (down p n prime.many g) (down_all p n prime.many later) ≡ down p n prime.many (last_row g later)
  last_down g [] = refl
  last_down g (h ∷ later) = last_down h later

  module _ (w v : ℕ) (chain : List Polynomial) (t c : Polynomial) (start : IsStart p n v chain t c) where
    leads_lifted : (later : List (Row (CanonicalPolynomial p n))) → AreNonZero r xs (leads (list_operations p n) v (down_all p n prime.many later)) → EachRow (LeadOfRowNotZero (P p n prime) evaluation v) later
    leads_lifted [] h = tt
    leads_lifted (f ∷ later) h = ((λ z. h.0 (zero_number p r domain.ring xs point (lead_in v f.first.0) z)), leads_lifted later h.1)

    -- where t, c and the chain are zero and no lead is, the rows end with a zero row, and the last row
    -- before it is zero, while its lead is not
    pub record IsCommonEnd : Type 0 where
      pub zero_row : Row Polynomial
      pub ends : (rows p n prime w v chain t c start).last ≡ Some zero_row
      pub is_zero : value_at r xs (last_row (plain c) (rows p n prime w v chain t c start).later).first ≡ r.nil
      pub lead : value_at r xs (lead_in v (last_row (plain c) (rows p n prime w v chain t c start).later).first) ≢ r.nil

    pub rows_end : InZeroSet r xs chain → value_at r xs t ≡ r.nil → value_at r xs c ≡ r.nil → ((x : ℕ) → v < x → IsFreeOf x t) → ((x : ℕ) → v < x → IsFreeOf x c) → AreNonZero r xs (leads (list_operations p n) v (plain c ∷ (rows p n prime w v chain t c start).later)) → IsCommonEnd
    rows_end zeros zero_t zero_c free_t free_c nonzero =
        let ended = remainder_rows_end_well (P p n prime) evaluation w v (below_rows p n prime v chain t c start) (start_base p n prime v chain t c start) (zeros_lifted chain start.canonical_chain zeros) (λ x less. apart_from p n prime v x (omega arith) chain start.canonical_chain start.below) (λ x less. free_of p n prime v x (omega arith) chain start.canonical_chain start.below) (row_t p n prime v chain t c start) (row_c p n prime v chain t c start) start.occurs (start_turn p n prime v chain t c start) (zero_element p r domain.ring xs point t zero_t) (zero_element p r domain.ring xs point c zero_c) (λ x less. (ExponentsBelow-one x t).1 (free_t x less)) (λ x less. (ExponentsBelow-one x c).1 (free_c x less)) (λ z. nonzero.0 (zero_number p r domain.ring xs point (lead_in v c) z)) (leads_lifted lifts.later (subst (λ x. AreNonZero r xs (leads (list_operations p n) v x.later)) (sym same) nonzero.1)) in
        record {
          zero_row = down p n prime.many ended.0;
          ends = sym (ap (λ x. x.last) same) ∙ ap (option_map (down p n prime.many)) ended.1;
          is_zero = subst (λ h. value_at r xs h.first ≡ r.nil) last_same (zero_number p r domain.ring xs point last.first.0 ended.2.is_zero);
          lead = subst (λ h. value_at r xs (lead_in v h.first) ≢ r.nil) last_same (λ z. ended.2.lead_not_zero (zero_element p r domain.ring xs point (lead_in v last.first.0) z));
        }
      where
        lifts : LaterRows (CanonicalPolynomial p n)
        lifts = lifted_rows p n prime w v chain t c start

        same : down_rows p n prime.many lifts ≡ rows p n prime w v chain t c start
        same = down-lifted_rows p n prime w v chain t c start

        last : Row (CanonicalPolynomial p n)
        last = last_row (row_c p n prime v chain t c start) lifts.later

        last_same : down p n prime.many last ≡ last_row (plain c) (rows p n prime w v chain t c start).later
        last_same = sym (last_down (row_c p n prime v chain t c start) lifts.later) ∙ ap (λ x. last_row (plain c) x.later) same
