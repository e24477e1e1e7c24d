-- The remainder rows of a turn: what they start with, what they are made of, and their leads.
use Rattle.std.proofs.Common.{◌≡◌, ◌≢◌, ℕ, suc, List, [], ◌∷◌, length, Some, IfSome, sym, subst}
use Rattle.std.specs.List.{AllByRecursion}
use Rattle.polynomials.specs.Polynomials.{Polynomial, IsPolynomial, ArePolynomials}
use Rattle.polynomials.specs.Views.{degree_in, main_var, IsFreeOf, AreFreeOf}
use Rattle.polynomials.proofs.Coefficients.{IsPolynomial-coefficient_in}
use Rattle.polynomials.proofs.Degrees.{lead_in_nonzero}
use Rattle.zero_sets.specs.ZeroSets.{members_below}
use Rattle.division_rules.specs.Chains.{EachRow, IfRow}
use Rattle.division_rules.specs.Lists.{list_operations}
use Rattle.division_rules.specs.PolynomialRows.{ArePolynomialRows}
use Rattle.division_rules.specs.RemainderRows.{LaterRows, leads}
use Rattle.division_rules.specs.Rows.{Row, first_entries}
use Rattle.division_rules.proofs.WithinLimits.{gives-remainder_rows}
use Rattle.row_laws.specs.Combinations.{IsRowOver, AreRowsOver}
use Rattle.row_laws.specs.Degrees.{HaveFallingDegrees, IsRowFreeOf}
use Rattle.row_laws.specs.Words.{StartRemainderRows}
use Rattle.row_laws.proofs.CombinationRows.{combinations_are_kept}
use Rattle.row_laws.proofs.FallingRows.{remainder_rows_fall, remainder_rows_are_free}
use Rattle.row_laws.proofs.Members.{members_start_remainder_rows}
use Rattle.cofactor_laws.specs.RowsWithCofactors.{row_of_c, row_of_t, rows_of_chain, rows_with_cofactors}
use Rattle.cofactor_laws.specs.TriangularSets.{StartIn}
use Rattle.cofactor_laws.proofs.ReducedCofactors.{start_rows, are_rows, unit_free, rows_free}
use Rattle.cofactor_laws.proofs.ZeroRows.{rows_with_cofactors_are_combinations}
use Rattle.impose_rules.proofs.ChainParts.{each_canonical, canonical_each, each_below, member_of_chain}
use Rattle.finish_laws.specs.Identities.{IsMemberOver, IsIdentity}
use Rattle.finish_laws.proofs.Turns.{MakesRows}

-- canonical rows of combinations
pub rows_canonical : (p n : ℕ) (gs : List Polynomial) (rows : List (Row Polynomial)) → AreRowsOver p n gs rows → ArePolynomialRows p n rows
rows_canonical p n gs [] are = tt
rows_canonical p n gs (f ∷ rows) are = (are.0.canonical, rows_canonical p n gs rows are.1)

-- leads of canonical rows that aren't 0
leads_are : (p n v : ℕ) (rows : List (Row Polynomial)) → ArePolynomialRows p n rows → EachRow (λ h. h.first ≢ []) rows → AllByRecursion (λ l. IsPolynomial p n l × (l ≢ [])) (leads (list_operations p n) v rows)
leads_are p n v [] are some = tt
leads_are p n v (h ∷ rows) are some = ((IsPolynomial-coefficient_in v (degree_in v h.first) p n h.first are.0.0, lead_in_nonzero v h.first some.0), leads_are p n v rows are.1 some.1)

module _ (p n w v u : ℕ) (chain ns : List Polynomial) (s : Polynomial) (member : IsMemberOver p n v chain s) (h : Polynomial) (f : Row Polynomial) (is : IsIdentity p n v (suc u) chain h f) (t : Polynomial) (made : LaterRows Polynomial) (makes : MakesRows p n w u chain ns f t made) where
  abbrev pub below : List Polynomial
  below = members_below u chain

  abbrev pub c : Row Polynomial
  c = row_of_c n f.first below

  abbrev rows : LaterRows Polynomial
  rows = rows_with_cofactors p n w u t f.first below

  -- within the width they are those without a limit
  pub rows_are : rows_with_cofactors p n w u t f.first (members_below u chain) ≡ made
  rows_are = sym (subst (λ o. IfSome o (λ x. x ≡ rows)) makes.fits (gives-remainder_rows (list_operations p n) w u (rows_of_chain p n below) (row_of_t n t below) c))

  pub starts : StartIn p n u chain t f.first
  starts = record {
    prime = member.prime;
    canonical = (is.over.canonical.0, member.canonical);
    triangular = member.triangular;
    member = makes.found;
    reduced = is.reduced;
    occurs = makes.occurs;
    lacks = is.lacks;
  }

  member_is : IsPolynomial p n t × (main_var t ≡ Some u)
  member_is = member_of_chain (IsPolynomial p n) u chain t makes.found (each_canonical p n chain member.canonical)

  pub main_t : main_var t ≡ Some u
  main_t = member_is.1

  pub are_generators : ArePolynomials p n (f.first ∷ t ∷ members_below u chain)
  are_generators = (is.over.canonical.0, (member_is.0, canonical_each p n below (each_below (IsPolynomial p n) u chain (each_canonical p n chain member.canonical))))

  start : StartRemainderRows u below t f.first
  start = members_start_remainder_rows u chain t f.first member.triangular makes.found is.reduced makes.occurs

  are : ArePolynomialRows p n (row_of_t n t below ∷ c ∷ rows_of_chain p n below)
  are = are_rows p n member.prime u t f.first below are_generators

  -- c and the later rows are combinations, and so is the zero row
  pub later_over : AreRowsOver p n (f.first ∷ t ∷ members_below u chain) (row_of_c n f.first (members_below u chain) ∷ made.later)
  later_over = ((combinations_are_kept p n (f.first ∷ t ∷ below) member.prime are_generators).units.0, subst (λ x. AreRowsOver p n (f.first ∷ t ∷ below) x.later) rows_are (rows_with_cofactors_are_combinations p n w u t f.first below member.prime are_generators start).0)

  pub last_over : IfRow (IsRowOver p n (f.first ∷ t ∷ members_below u chain)) made.last
  last_over = subst (λ x. IfRow (IsRowOver p n (f.first ∷ t ∷ below)) x.last) rows_are (rows_with_cofactors_are_combinations p n w u t f.first below member.prime are_generators start).1

  -- none is 0, and their degrees fall
  pub falling : HaveFallingDegrees p n u (first_entries (rows_of_chain p n (members_below u chain))) (row_of_c n f.first (members_below u chain)) made
  falling = subst (HaveFallingDegrees p n u (first_entries (rows_of_chain p n below)) c) rows_are (remainder_rows_fall p n w u (rows_of_chain p n below) (row_of_t n t below) c member.prime are (start_rows p n u t f.first below start))

  -- so are their leads
  pub are_leads : AllByRecursion (λ l. IsPolynomial p n l × (l ≢ [])) (leads (list_operations p n) u (row_of_c n f.first (members_below u chain) ∷ made.later))
  are_leads = leads_are p n u (c ∷ made.later) (rows_canonical p n (f.first ∷ t ∷ below) (c ∷ made.later) later_over) (is.nonzero, falling.nonzero)

  -- a variable other than u that t, c and the chain below u don't have is in no entry of the rows
  pub entries_free : (x : ℕ) → x ≢ u → IsFreeOf x t → IsFreeOf x f.first → AreFreeOf x (members_below u chain) → EachRow (IsRowFreeOf x) (row_of_c n f.first (members_below u chain) ∷ made.later) × IfRow (IsRowFreeOf x) made.last
  entries_free x other free_t free_c free = ((free_of_c, each.0), each.1)
    where
      free_of_c : IsRowFreeOf x c
      free_of_c = (free_c, unit_free p n member.prime x 0 (suc (length below)))

      each : EachRow (IsRowFreeOf x) made.later × IfRow (IsRowFreeOf x) made.last
      each = subst (λ y. EachRow (IsRowFreeOf x) y.later × IfRow (IsRowFreeOf x) y.last) rows_are (remainder_rows_are_free p n w u x (rows_of_chain p n below) (row_of_t n t below) c member.prime are (start_rows p n u t f.first below start) other ((free_t, unit_free p n member.prime x 1 (length below)), (free_of_c, rows_free p n member.prime x 2 below free)))
