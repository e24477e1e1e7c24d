-- The cofactor of c along the remainder rows of t and c: its degree, its lead, and both at a point.
use Rattle.std.specs.Prelude.{◌≡◌, ◌≢◌, ◌⊎◌, ℕ, ◌+◌, List, [], ◌∷◌, ◌++◌, map, Any, Some, None}
use Rattle.polynomials.specs.Primes.{IsPrime}
use Rattle.polynomials.specs.Polynomials.{Polynomial, ArePolynomials}
use Rattle.polynomials.specs.Views.{degree_in, lead_in, main_var, initial_of}
use Rattle.zero_sets.specs.Domains.{Tables, IsPointOver, value_at}
use Rattle.zero_sets.specs.ZeroSets.{InZeroSet, InQuasiComponent, AreNonZero, IsTriangular}
use Rattle.zero_sets.specs.Certificates.{IsFreeOfMain}
use Rattle.division_rules.specs.Chains.{IfRow}
use Rattle.division_rules.specs.Lists.{list_operations}
use Rattle.division_rules.specs.Rows.{Row}
use Rattle.division_rules.specs.Turns.{last_row}
use Rattle.division_rules.specs.Cofactors.{first_cofactor, AreCofactorSteps}
use Rattle.row_laws.specs.Combinations.{IsRowOver, AreRowsOver}
use Rattle.row_laws.specs.Words.{reduction_of, StartRemainderRows}
use Rattle.cofactor_laws.specs.RowsWithCofactors.{row_of_c, row_of_t, rows_of_chain, rows_with_cofactors, leads_from_c, EndWithZeroRow}

-- from row to row the degree of the cofactor of c grows by the fall of the degrees, and its lead
-- is, up to the divisor, minus a product of initials of the chain and of three leads
abbrev pub CofactorsGrowByFalls : Type 0
CofactorsGrowByFalls =
    (p n w v : ℕ) (t c : Polynomial) (chain : List Polynomial)
    → IsPrime p
    → ArePolynomials p n (c ∷ t ∷ chain)
    → StartRemainderRows v chain t c
    → AreCofactorSteps (list_operations p n) w v (rows_of_chain p n chain) (degree_in v t) None
    (row_of_t n t chain) (row_of_c n c chain) (rows_with_cofactors p n w v t c chain).later
    (rows_with_cofactors p n w v t c chain).last

-- each row with cofactors, the zero row too, is the combination of its cofactors with c, t and the
-- chain
abbrev pub RowsWithCofactorsAreCombinations : Type 0
RowsWithCofactorsAreCombinations =
    (p n w v : ℕ) (t c : Polynomial) (chain : List Polynomial)
    → IsPrime p
    → ArePolynomials p n (c ∷ t ∷ chain)
    → StartRemainderRows v chain t c
    → AreRowsOver p n (c ∷ t ∷ chain) (rows_with_cofactors p n w v t c chain).later
    × IfRow (IsRowOver p n (c ∷ t ∷ chain)) (rows_with_cofactors p n w v t c chain).last

-- the degrees of the zero row's cofactor of c and of the row before it have the sum that of t
abbrev pub LastCofactorHasDegree : Type 0
LastCofactorHasDegree =
    (p n w v : ℕ) (t c : Polynomial) (chain : List Polynomial) (z : Row Polynomial)
    → EndWithZeroRow p n w v t c chain z
    → degree_in v (first_cofactor (list_operations p n) z)
    + degree_in v
    (last_row (row_of_c n c chain) (rows_with_cofactors p n w v t c chain).later).first
    ≡ degree_in v t

-- where no initial of the chain is zero, nor the lead of t, the lead of the zero row's cofactor of
-- c is zero only where the lead of c or of a later row is
abbrev pub CofactorLeadIsZeroByLeads : Type 0
CofactorLeadIsZeroByLeads =
    (p n w v : ℕ) (r : Tables) (xs : List ℕ) (t c : Polynomial) (chain : List Polynomial)
    (z : Row Polynomial)
    → EndWithZeroRow p n w v t c chain z
    → IsPointOver p r xs
    → AreNonZero r xs (map initial_of chain)
    → value_at r xs (lead_in v t) ≢ r.nil
    → value_at r xs (lead_in v (first_cofactor (list_operations p n) z)) ≡ r.nil
    → Any (λ l. value_at r xs l ≡ r.nil) (leads_from_c p n w v t c chain)

-- t has the main variable v in a triangular set that goes on with more, and c is free of the main
-- variables of more
pub record StandsInTriangular
    (p n v : ℕ) (t c : Polynomial) (chain more : List Polynomial) : Type 0 where
  pub main : main_var t ≡ Some v
  pub triangular : IsTriangular (chain ++ t ∷ more)
  pub canonical : ArePolynomials p n more
  pub free : IsFreeOfMain c more

-- on the quasi-component of the chain, where the lead of t isn't zero, and the zero row's cofactor
-- of c reduces to 0 by the chain, t and what follows them, the lead of c or of a later row is zero
abbrev pub ReducedCofactorShowsLead : Type 0
ReducedCofactorShowsLead =
    (p n w v : ℕ) (r : Tables) (xs : List ℕ) (t c : Polynomial) (chain more : List Polynomial)
    (z : Row Polynomial)
    → EndWithZeroRow p n w v t c chain z
    → StandsInTriangular p n v t c chain more
    → IsPointOver p r xs
    → InQuasiComponent r xs chain
    → value_at r xs (lead_in v t) ≢ r.nil
    → reduction_of p n (chain ++ t ∷ more) (first_cofactor (list_operations p n) z) ≡ []
    → Any (λ l. value_at r xs l ≡ r.nil) (leads_from_c p n w v t c chain)

-- where t and the chain are zero, the zero row's cofactor of c is zero, or c is
abbrev pub ZeroRowSplitsZeros : Type 0
ZeroRowSplitsZeros =
    (p n w v : ℕ) (r : Tables) (xs : List ℕ) (t c : Polynomial) (chain : List Polynomial)
    (z : Row Polynomial)
    → EndWithZeroRow p n w v t c chain z
    → IsPointOver p r xs
    → InZeroSet r xs (t ∷ chain)
    → (value_at r xs (first_cofactor (list_operations p n) z) ≡ r.nil) ⊎ (value_at r xs c ≡ r.nil)
