-- The leads and the last of remainder rows.
use Rattle.std.proofs.Common.{◌≡◌, ◌≢◌, ℕ, ◌<◌, ◌≤◌, List, [], ◌∷◌, Some, ap, subst, arith}
use Rattle.std.specs.List.{AllByRecursion}
use Rattle.polynomials.specs.Primes.{IsPrime}
use Rattle.polynomials.specs.Polynomials.{Polynomial, IsPolynomial, ArePolynomials}
use Rattle.polynomials.specs.Views.{degree_in, lead_in, main_var, IsFreeOf}
use Rattle.polynomials.proofs.Coefficients.{IsPolynomial-coefficient_in}
use Rattle.polynomials.proofs.Degrees.{coefficient_in_free, degree_in-coefficient_in, lead_in_nonzero}
use Rattle.polynomials.proofs.MainVariables.{main_variable_is_greatest, free_above_main_var}
use Rattle.division_rules.specs.Rows.{Row, plain}
use Rattle.division_rules.specs.Lists.{list_operations}
use Rattle.division_rules.specs.Chains.{EachRow}
use Rattle.division_rules.specs.RemainderRows.{leads}
use Rattle.division_rules.specs.Turns.{last_row, DegreesFall}
use Rattle.division_rules.specs.PolynomialRows.{IsPolynomialRow}
use Rattle.division_rules.proofs.RowsShape.{last_occurs}
use Rattle.impose_rules.proofs.Lists.{each_implied}
use Rattle.impose_laws.proofs.RowStarts.{IsStart}
use Rattle.impose_rules.proofs.ChainParts.{HasMainBelow, canonical_each}
use Rattle.impose_laws.proofs.RowShapes.{rows, rows_canonical, rows_nonzero, rows_degrees, rows_without}

-- what holds of the first and each later row holds of the last
pub last_of : (Q : Row Polynomial → Type 0) (g : Row Polynomial) (later : List (Row Polynomial)) → Q g → EachRow Q later → Q (last_row g later)
last_of Q g [] h each = h
last_of Q g (f ∷ later) h each = last_of Q f later each.0 each.1

-- what holds of the leads of each row
each_lead : (p n v : ℕ) (Q : Row Polynomial → Type 0) (R : Polynomial → Type 0) → ((h : Row Polynomial) → Q h → R (lead_in v h.first)) → (later : List (Row Polynomial)) → EachRow Q later → AllByRecursion R (leads (list_operations p n) v later)
each_lead p n v Q R step [] h = tt
each_lead p n v Q R step (f ∷ later) h = (step f h.0, each_lead p n v Q R step later h.1)

-- a lead is without each variable that the polynomial is without
pub lead_in_keeps_free : (x v : ℕ) (f : Polynomial) → IsFreeOf x f → IsFreeOf x (lead_in v f)
lead_in_keeps_free x v f free =
    let bound = degree_in-coefficient_in x v (degree_in v f) 0 f (omega arith) in
    omega arith

-- what has v isn't 0
pub occurring_nonzero : (v : ℕ) (f : Polynomial) → 1 ≤ degree_in v f → f ≢ []
occurring_nonzero v f high none = let zero_v = ap (degree_in v) none in omega arith

module _ (p n : ℕ) (prime : IsPrime p) (w v : ℕ) (chain : List Polynomial) (t c : Polynomial) (start : IsStart p n v chain t c) where
  -- the rows after c, their leads and that of c, and the last of them and c
  abbrev pub later_rows : List (Row Polynomial)
  later_rows = (rows p n prime w v chain t c start).later

  abbrev pub row_leads : List Polynomial
  row_leads = leads (list_operations p n) v (plain c ∷ later_rows)

  abbrev pub last_polynomial : Polynomial
  last_polynomial = (last_row (plain c) later_rows).first

  -- leads are canonical
  pub leads_canonical : ArePolynomials p n row_leads
  leads_canonical = canonical_each p n row_leads (each_lead p n v (IsPolynomialRow p n) (IsPolynomial p n) (λ h i. IsPolynomial-coefficient_in v (degree_in v h.first) p n h.first i.0) (plain c ∷ later_rows) ((start.canonical_c, tt), (rows_canonical p n prime w v chain t c start).0))

  -- not 0
  pub leads_nonzero : AllByRecursion (λ l. l ≢ []) row_leads
  leads_nonzero = each_lead p n v (λ h. h.first ≢ []) (λ l. l ≢ []) (λ h some. lead_in_nonzero v h.first some) (plain c ∷ later_rows) (occurring_nonzero v c start.occurs, rows_nonzero p n prime w v chain t c start)

  -- and without v
  pub leads_free : AllByRecursion (IsFreeOf v) row_leads
  leads_free = each_lead p n v (λ h. h.first ≢ []) (IsFreeOf v) (λ h some. coefficient_in_free v (degree_in v h.first) h.first) (plain c ∷ later_rows) (occurring_nonzero v c start.occurs, rows_nonzero p n prime w v chain t c start)

  -- variables that don't occur at the start don't occur in leads
  pub leads_without : (x : ℕ) → AllByRecursion (IsFreeOf x) chain → IsFreeOf x t → IsFreeOf x c → AllByRecursion (IsFreeOf x) row_leads
  leads_without x free_chain free_t free_c = each_lead p n v (λ h. IsFreeOf x h.first) (IsFreeOf x) (λ h free. lead_in_keeps_free x v h.first free) (plain c ∷ later_rows) (free_c, rows_without p n prime w v chain t c start x free_chain free_t free_c)

  -- the last is canonical
  pub last_canonical : IsPolynomial p n last_polynomial
  last_canonical = (last_of (IsPolynomialRow p n) (plain c) later_rows (start.canonical_c, tt) (rows_canonical p n prime w v chain t c start).0).0

  -- and without the variables that don't occur at the start
  pub last_without : (x : ℕ) → AllByRecursion (IsFreeOf x) chain → IsFreeOf x t → IsFreeOf x c → IsFreeOf x last_polynomial
  last_without x free_chain free_t free_c = last_of (λ h. IsFreeOf x h.first) (plain c) later_rows free_c (rows_without p n prime w v chain t c start x free_chain free_t free_c)

  -- those are all greater variables, where v is the main variable of t and c
  pub chain_without : (x : ℕ) → v < x → AllByRecursion (IsFreeOf x) chain
  chain_without x less = each_implied (HasMainBelow v) (IsFreeOf x) (λ u h. free_above_main_var h.0 x u h.1 (omega (arith, h.2))) chain start.below

  -- where a zero row ends the rows, v is the main variable of the last
  pub last_main : (z : Row Polynomial) → (rows p n prime w v chain t c start).last ≡ Some z → main_var t ≡ Some v → main_var c ≡ Some v → main_var last_polynomial ≡ Some v
  last_main z e main_t main_c = (main_variable_is_greatest v last_polynomial).1 (last_occurs (list_operations p n) v (plain c) later_rows z (subst (DegreesFall (list_operations p n) v (plain c) later_rows) e (rows_degrees p n prime w v chain t c start)), λ x less. last_without x (chain_without x less) (free_above_main_var v x t main_t less) (free_above_main_var v x c main_c less))
