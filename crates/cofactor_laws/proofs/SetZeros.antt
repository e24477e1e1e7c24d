-- The zero row at a polynomial of a triangular set, at points of the quasi-component.
use Rattle.std.proofs.Common.{◌≡◌, ◌⊎◌, inl, inr, ℕ, suc, ◌<◌, List, [], ◌∷◌, ◌++◌, get_or, sym, ap, ◌∙◌, subst, arith}
use Rattle.polynomials.specs.Polynomials.{Polynomial, IsPolynomial, ArePolynomials}
use Rattle.zero_sets.specs.Domains.{value_at}
use Rattle.zero_sets.specs.ZeroSets.{IsTriangularFrom, members_below}
use Rattle.zero_sets.specs.Certificates.{LacksVariable, IsFreeOfMain}
use Rattle.division_rules.specs.Lists.{list_operations}
use Rattle.division_rules.specs.Cofactors.{first_cofactor}
use Rattle.division_rules.specs.Rows.{Row}
use Rattle.division_rules.specs.Chains.{IfRow}
use Rattle.row_laws.specs.Words.{reduction_of}
use Rattle.row_laws.specs.Combinations.{IsRowOver}
use Rattle.row_laws.specs.Members.{IsMember, IsPointAtMember, LacksMainFrom}
use Rattle.row_laws.proofs.Members.{members_are_placed, members_start_remainder_rows, points_at_members}
use Rattle.row_laws.proofs.ReductionValues.{reductions_keep_zeros}
use Rattle.cofactor_laws.specs.RowsWithCofactors.{EndWithZeroRow}
use Rattle.cofactor_laws.specs.Laws.{StandsInTriangular}
use Rattle.cofactor_laws.specs.TriangularSets.{EndWithZeroRowIn, ZeroRowsShowZeros}
use Rattle.cofactor_laws.proofs.ReducedCofactors.{main_variables_behind, reduced_cofactor_shows_lead}
use Rattle.cofactor_laws.proofs.ZeroRows.{rows_with_cofactors_are_combinations, zero_row_splits_zeros}

-- parts of a canonical list
pub ArePolynomials-parts : (p n : ℕ) (fs gs : List Polynomial) → ArePolynomials p n (fs ++ gs) → ArePolynomials p n fs × ArePolynomials p n gs
ArePolynomials-parts p n [] gs h = (tt, h)
ArePolynomials-parts p n (f ∷ fs) gs h =
    let rest = ArePolynomials-parts p n fs gs h.1 in
    ((h.0, rest.0), rest.1)

-- the last polynomials lack what all lack
lacks_behind : (v : ℕ) (c : Polynomial) (fs gs : List Polynomial) → LacksMainFrom (suc v) c (fs ++ gs) → LacksMainFrom (suc v) c gs
lacks_behind v c [] gs h = h
lacks_behind v c (f ∷ fs) gs h = lacks_behind v c fs gs h.1

-- behind v all main variables are greater
free_behind : (v u : ℕ) (c : Polynomial) (more : List Polynomial) → v < u → IsTriangularFrom u more → LacksMainFrom (suc v) c more → IsFreeOfMain c more
free_behind v u c [] less triangular lacks = tt
free_behind v u c (s ∷ more) less (m, main, up_to, later) lacks = (subst (λ o. LacksVariable o c) (sym main) (lacks.0 m main (omega (arith, less, up_to))), free_behind v (suc m) c more (omega (arith, less, up_to)) later lacks.1)

module _ (p n w v : ℕ) (chain : List Polynomial) (t c : Polynomial) (z : Row Polynomial) (ends : EndWithZeroRowIn p n w v chain t c z) where
  member : IsMember v chain t
  member = members_are_placed v chain t ends.starts.triangular ends.starts.member

  below : List Polynomial
  below = members_below v chain

  are : ArePolynomials p n (members_below v chain) × ArePolynomials p n (t ∷ member.more)
  are = ArePolynomials-parts p n (members_below v chain) (t ∷ member.more) (subst (ArePolynomials p n) member.parts ends.starts.canonical.1)

  -- the rows below v
  ends_below : EndWithZeroRow p n w v t c (members_below v chain) z
  ends_below = record {
    prime = ends.starts.prime;
    canonical = (ends.starts.canonical.0, (are.1.0, are.0));
    start = members_start_remainder_rows v chain t c ends.starts.triangular ends.starts.member ends.starts.reduced ends.starts.occurs;
    last = ends.last;
  }

  triangular_parts : IsTriangularFrom 0 (members_below v chain ++ t ∷ member.more)
  triangular_parts = subst (IsTriangularFrom 0) member.parts ends.starts.triangular

  stands : StandsInTriangular p n v t c (members_below v chain) member.more
  stands = record {
    main = member.main;
    triangular = triangular_parts;
    canonical = are.1.1;
    free = free_behind v (suc v) c member.more (omega arith) (main_variables_behind 0 v (members_below v chain) member.more t member.main triangular_parts) (lacks_behind v c (t ∷ []) member.more (lacks_behind v c (members_below v chain) (t ∷ member.more) (subst (LacksMainFrom (suc v) c) member.parts ends.starts.lacks)));
  }

  over : IsRowOver p n (c ∷ t ∷ members_below v chain) z
  over = subst (IfRow (IsRowOver p n (c ∷ t ∷ members_below v chain))) ends.last (rows_with_cofactors_are_combinations p n w v t c (members_below v chain) ends.starts.prime ends_below.canonical ends_below.start).1

-- the first cofactor of a canonical row is canonical
first_canonical : (p n : ℕ) (cs : List Polynomial) → ArePolynomials p n cs → IsPolynomial p n (get_or cs 0 [])
first_canonical p n [] h = tt
first_canonical p n (c ∷ cs) h = h.0

-- the law
pub zero_rows_show_zeros : ZeroRowsShowZeros
zero_rows_show_zeros p n w v r xs chain t c z ends at inside = record {
  splits = split (zero_row_splits_zeros p n w v r xs t c (members_below v chain) z (ends_below p n w v chain t c z ends) at (at_t.zero, at_t.below.0));
  lead = λ null. reduced_cofactor_shows_lead p n w v r xs t c (members_below v chain) (member p n w v chain t c z ends).more z (ends_below p n w v chain t c z ends) (stands p n w v chain t c z ends) at at_t.below at_t.lead (ap (λ fs. reduction_of p n fs a) (sym (member p n w v chain t c z ends).parts) ∙ null);
}
  where
    a : Polynomial
    a = first_cofactor (list_operations p n) z

    at_t : IsPointAtMember v r xs chain t
    at_t = points_at_members v r xs chain t ends.starts.triangular ends.starts.member inside

    split : (value_at r xs a ≡ r.nil) ⊎ (value_at r xs c ≡ r.nil) → (value_at r xs (reduction_of p n chain a) ≡ r.nil) ⊎ (value_at r xs c ≡ r.nil)
    split (inl null) = inl (reductions_keep_zeros p n r xs chain a ends.starts.prime at ends.starts.canonical.1 (first_canonical p n z.cofactors (over p n w v chain t c z ends).canonical.1) inside.0 null)
    split (inr null) = inr null
