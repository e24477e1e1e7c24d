-- What follows where the zero row's first cofactor reduces to 0.
use Rattle.std.proofs.Common.{◌≡◌, ℕ, zero, suc, ◌<◌, List, [], ◌∷◌, ◌++◌, length, replicate, get_or, Some, refl, sym, ap, ◌∙◌, subst, arith}
use Rattle.std.proofs.lemmas.Option.{same_Some}
use Rattle.polynomials.specs.Primes.{IsPrime}
use Rattle.polynomials.specs.Polynomials.{Polynomial, IsPolynomial, ArePolynomials, one_of}
use Rattle.polynomials.specs.Views.{degree_in, main_var, IsFreeOf, AreFreeOf}
use Rattle.polynomials.proofs.ExponentsBelow.{ExponentsBelow-one}
use Rattle.polynomials.proofs.MainVariables.{degree_in_main_var, free_above_main_var}
use Rattle.polynomials.proofs.PolynomialRing.{CanonicalPolynomial, canonical_path}
use Rattle.polynomials.proofs.PolynomialLists.{ArePolynomials-append}
use Rattle.polynomials.proofs.Powers.{one_is_free}
use Rattle.zero_sets.specs.ZeroSets.{IsTriangularFrom}
use Rattle.zero_sets.specs.Certificates.{LacksVariable, IsFreeOfMain}
use Rattle.division_rules.specs.Chains.{EachRow, IfRow}
use Rattle.division_rules.specs.Lists.{list_operations}
use Rattle.division_rules.specs.PolynomialRows.{ArePolynomialRows}
use Rattle.division_rules.specs.Rows.{Row, plain, plains, reduction, first_entries}
use Rattle.division_rules.specs.Triangular.{HasLessDegree}
use Rattle.division_rules.specs.Turns.{DegreesFall}
use Rattle.division_rules.specs.Units.{unit_rows}
use Rattle.division_rules.specs.Cofactors.{first_cofactor}
use Rattle.division_rules.proofs.CanonicalViews.{canonical_operations}
use Rattle.division_rules.proofs.ListLaws.{free_above_main}
use Rattle.division_rules.proofs.RowsShape.{last_occurs}
use Rattle.row_laws.specs.Words.{reduction_of, AreBelow, IsReducedBy, StartRemainderRows}
use Rattle.row_laws.specs.Degrees.{IsRowFreeOf}
use Rattle.row_laws.proofs.CombinationRows.{combinations_are_kept, canonical_rows}
use Rattle.row_laws.proofs.FallingRows.{remainder_rows_fall, remainder_rows_are_free}
use Rattle.row_laws.proofs.Lifts.{lifted-reduction}
use Rattle.row_laws.proofs.ReducedRows.{reduced_by_more}
use Rattle.row_laws.proofs.ReductionValues.{first_entries-unit_rows}
use Rattle.row_laws.proofs.Starts.{variable_below}
use Rattle.cofactor_laws.specs.RowsWithCofactors.{row_of_c, row_of_t, rows_of_chain, rows_with_cofactors, EndWithZeroRow}
use Rattle.cofactor_laws.specs.Laws.{StandsInTriangular, CofactorLeadIsZeroByLeads, ReducedCofactorShowsLead}
use Rattle.cofactor_laws.proofs.CofactorRows.{last_cofactor_has_degree}
use Rattle.cofactor_laws.proofs.DownSteps.{terms-first_cofactor}
use Rattle.cofactor_laws.proofs.GeneratorLists.{canonical_chain, plain_rows_are, up-plains}
use Rattle.cofactor_laws.proofs.LeadPoints.{zero_row_above, lead_shows_lead, reduction_shows_lead}

-- behind t main variables are greater than that of t
pub main_variables_behind : (u v : ℕ) (chain more : List Polynomial) (t : Polynomial) → main_var t ≡ Some v → IsTriangularFrom u (chain ++ t ∷ more) → IsTriangularFrom (suc v) more
main_variables_behind u v [] more t main (m, is, up_to, later) = subst (λ x. IsTriangularFrom (suc x) more) (same_Some m v (sym is ∙ main)) later
main_variables_behind u v (s ∷ chain) more t main (m, is, up_to, later) = main_variables_behind (suc m) v chain more t main later

-- no polynomial with a lesser main variable has x
pub chain_free : (v x : ℕ) (chain : List Polynomial) → v < x → AreBelow v chain → AreFreeOf x chain
chain_free v x [] less below = tt
chain_free v x (t ∷ chain) less below =
    let smaller = variable_below v (main_var t) below.0 in
    ((ExponentsBelow-one x t).0 (free_above_main t x (omega (arith, smaller, less))), chain_free v x chain less below.1)

-- the first cofactor is free where the row is
cofactor_free : (p n x : ℕ) (z : Row Polynomial) → IsRowFreeOf x z → IsFreeOf x (first_cofactor (list_operations p n) z)
cofactor_free p n x z free = go z.cofactors free.1
  where
    go : (cs : List Polynomial) → AreFreeOf x cs → IsFreeOf x (get_or cs 0 [])
    go [] h = refl
    go (c ∷ cs) h = h.0

module _ (p n : ℕ) (prime : IsPrime p) where
  -- 0 and 1 have no variable
  pub zeros_free : (x k : ℕ) → AreFreeOf x (replicate k [])
  zeros_free x zero = tt
  zeros_free x (suc k) = (refl, zeros_free x k)

  pub unit_free : (x before behind : ℕ) → AreFreeOf x (replicate before [] ++ one_of n ∷ replicate behind [])
  unit_free x zero behind = (one_is_free x n, zeros_free x behind)
  unit_free x (suc before) behind = (refl, unit_free x before behind)

  pub rows_free : (x before : ℕ) (fs : List Polynomial) → AreFreeOf x fs → EachRow (IsRowFreeOf x) (unit_rows (list_operations p n) before fs)
  rows_free x before [] free = tt
  rows_free x before (f ∷ fs) free = ((free.0, unit_free x before (length fs)), rows_free x (suc before) fs free.1)

-- the chain as rows starts remainder rows where the chain does
pub start_rows : (p n v : ℕ) (t c : Polynomial) (chain : List Polynomial) → StartRemainderRows v chain t c → StartRemainderRows v (first_entries (rows_of_chain p n chain)) t c
start_rows p n v t c chain start = subst (λ fs. StartRemainderRows v fs t c) (sym (first_entries-unit_rows p n 2 chain)) start

module _ (p n : ℕ) (prime : IsPrime p) (v : ℕ) (t c : Polynomial) (chain : List Polynomial) where
  -- canonical polynomials as rows are canonical
  pub are_rows : ArePolynomials p n (c ∷ t ∷ chain) → ArePolynomialRows p n (row_of_t n t chain ∷ row_of_c n c chain ∷ rows_of_chain p n chain)
  are_rows are =
      let units = canonical_rows p n prime (c ∷ t ∷ chain) are (unit_rows (list_operations p n) 0 (c ∷ t ∷ chain)) (combinations_are_kept p n (c ∷ t ∷ chain) prime are).units in
      (units.1.0, (units.0, units.1.1))

  -- no entry of the rows has a variable from v on that c and t don't have
  pub rows_lack : (x : ℕ) → v < x → AreBelow v chain → IsFreeOf x t → IsFreeOf x c → EachRow (IsRowFreeOf x) (row_of_t n t chain ∷ row_of_c n c chain ∷ rows_of_chain p n chain)
  rows_lack x less below free_t free_c = ((free_t, unit_free p n prime x 1 (length chain)), ((free_c, unit_free p n prime x 0 (suc (length chain))), rows_free p n prime x 2 chain (chain_free v x chain less below)))

module _ (p n w v : ℕ) (t c : Polynomial) (chain : List Polynomial) (z : Row Polynomial) (ends : EndWithZeroRow p n w v t c chain z) where
  abbrev a : Polynomial
  a = first_cofactor (list_operations p n) z

  abbrev starts : StartRemainderRows v (first_entries (rows_of_chain p n chain)) t c
  starts = start_rows p n v t c chain ends.start

  abbrev are : ArePolynomialRows p n (row_of_t n t chain ∷ row_of_c n c chain ∷ rows_of_chain p n chain)
  are = are_rows p n ends.prime v t c chain ends.canonical

  -- the cofactor has less degree than t
  less_than_t : degree_in v a < degree_in v t
  less_than_t =
      let sum = last_cofactor_has_degree p n w v t c chain z ends in
      let occurs = last_occurs (list_operations p n) v (row_of_c n c chain) (rows_with_cofactors p n w v t c chain).later z (subst (DegreesFall (list_operations p n) v (row_of_c n c chain) (rows_with_cofactors p n w v t c chain).later) ends.last (remainder_rows_fall p n w v (rows_of_chain p n chain) (row_of_t n t chain) (row_of_c n c chain) ends.prime are starts).falls) in
      omega (arith, sum, occurs)

  -- and lacks each greater variable that c lacks
  lacks_greater : (x : ℕ) → v < x → main_var t ≡ Some v → IsFreeOf x c → IsFreeOf x a
  lacks_greater x less main free_c = cofactor_free p n x z (subst (IfRow (IsRowFreeOf x)) ends.last (remainder_rows_are_free p n w v x (rows_of_chain p n chain) (row_of_t n t chain) (row_of_c n c chain) ends.prime are starts (λ same. omega (arith, less, same)) (rows_lack p n ends.prime v t c chain x less ends.start.below (free_above_main_var v x t main less) free_c)).1)

  -- so it is reduced by what follows t
  reduced_behind : (u : ℕ) (more : List Polynomial) → v < u → main_var t ≡ Some v → IsTriangularFrom u more → IsFreeOfMain c more → IsReducedBy a more
  reduced_behind u [] less main triangular free = tt
  reduced_behind u (s ∷ more) less main (m, is, up_to, later) free = (by_s, reduced_behind (suc m) more (omega (arith, less, up_to)) main later free.1)
    where
      by_s : HasLessDegree a (plain s)
      by_s x is_x =
          let greater : v < x = subst (λ y. v < y) (same_Some m x (sym is ∙ is_x)) (omega (arith, less, up_to)) in
          let none : degree_in x a ≡ 0 = lacks_greater x greater main (subst (λ o. LacksVariable o c) is_x free.0) in
          let some : 0 < degree_in x s = degree_in_main_var x s is_x in
          omega (arith, none, some)

  pub reduced_from_t : (more : List Polynomial) → StandsInTriangular p n v t c chain more → IsReducedBy a (t ∷ more)
  reduced_from_t more stands = ((λ x is. subst (λ y. degree_in y a < degree_in y t) (same_Some v x (sym stands.main ∙ is)) less_than_t), reduced_behind (suc v) more (omega arith) stands.main (main_variables_behind 0 v chain more t stands.main stands.triangular) stands.free)

-- the laws
pub cofactor_lead_is_zero_by_leads : CofactorLeadIsZeroByLeads
cofactor_lead_is_zero_by_leads p n w v r xs t c chain z ends at others lead_t null = lead_shows_lead p n ends.prime r at.domain xs at.point w v t c chain ends.canonical ends.start z ends.last others lead_t null

pub reduced_cofactor_shows_lead : ReducedCofactorShowsLead
reduced_cofactor_shows_lead p n w v r xs t c chain more z ends stands at inside lead_t null = reduction_shows_lead p n ends.prime r at.domain xs at.point w v t c chain ends.canonical ends.start z ends.last inside.1 lead_t inside.0 (canonical_path p n _ _ reduces)
  where
    y : Row (CanonicalPolynomial p n)
    y = (zero_row_above p n ends.prime r at.domain xs at.point w v t c chain ends.canonical ends.start z ends.last).0

    b : CanonicalPolynomial p n
    b = first_cofactor (canonical_operations p n ends.prime.many) y

    is : b.0 ≡ first_cofactor (list_operations p n) z
    is = terms-first_cofactor p n ends.prime.many y ∙ ap (first_cofactor (list_operations p n)) (zero_row_above p n ends.prime r at.domain xs at.point w v t c chain ends.canonical ends.start z ends.last).2

    are : ArePolynomials p n (chain ++ t ∷ more)
    are = ArePolynomials-append p n chain (t ∷ more) ends.canonical.1.1 (ends.canonical.1.0, stands.canonical)

    shorter : reduction_of p n (chain ++ t ∷ more) (first_cofactor (list_operations p n) z) ≡ reduction_of p n chain (first_cofactor (list_operations p n) z)
    shorter = reduced_by_more p n chain (t ∷ more) (first_cofactor (list_operations p n) z) ends.prime are (subst (IsPolynomial p n) is b.1) stands.triangular (reduced_from_t p n w v t c chain z ends more stands)

    reduces : (reduction (canonical_operations p n ends.prime.many) (plains (canonical_chain p n ends.prime w v t c chain ends.canonical ends.start)) (plain b)).first.0 ≡ []
    reduces = ap (λ rows. (reduction (canonical_operations p n ends.prime.many) rows (plain b)).first.0) (sym (up-plains p n ends.prime chain ends.canonical.1.1)) ∙ ap (λ h. h.first) (lifted-reduction p n ends.prime.many (plains chain) (plain_rows_are p n chain ends.canonical.1.1) (plain b.0) (b.1, tt)) ∙ ap (reduction_of p n chain) is ∙ sym shorter ∙ null
