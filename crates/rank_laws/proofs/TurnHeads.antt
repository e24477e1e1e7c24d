-- What a turn gives way to are new heads.
use Rattle.std.proofs.Common.{◌≡◌, ◌≢◌, ℕ, suc, ◌≤◌, Bool, true, false, cond, not, List, [], ◌∷◌, filter, map, Some, sym, subst, arith}
use Rattle.std.specs.List.{AllByRecursion}
use Rattle.polynomials.specs.Primes.{IsPrime}
use Rattle.polynomials.specs.Polynomials.{Polynomial, IsPolynomial, ArePolynomials, monic, is_zero}
use Rattle.polynomials.specs.Views.{IsFreeOf}
use Rattle.polynomials.proofs.MainVariables.{free_above_main_var}
use Rattle.zero_sets.specs.ZeroSets.{IsTriangular, members_below}
use Rattle.zero_sets.specs.Tasks.{is_known_nonzero}
use Rattle.division_rules.specs.Chains.{EachRow, IfRow}
use Rattle.division_rules.specs.Cofactors.{first_cofactor}
use Rattle.division_rules.specs.Lists.{list_operations}
use Rattle.division_rules.specs.PolynomialRows.{IsPolynomialRow, ArePolynomialRows}
use Rattle.division_rules.specs.RemainderRows.{LaterRows, leads}
use Rattle.division_rules.specs.Rows.{Row, plain, plains, first_entries}
use Rattle.division_rules.proofs.CanonicalRows.{IsPolynomialRow-reduction}
use Rattle.division_rules.proofs.ListLaws.{not_zero_by_test}
use Rattle.division_rules.proofs.Steps.{choose}
use Rattle.division_rules.proofs.TriangularReductions.{reduction_is_reduced}
use Rattle.division_rules.proofs.Up.{plains_canonical}
use Rattle.row_laws.specs.Combinations.{IsRowOver}
use Rattle.row_laws.specs.Degrees.{IsRowFreeOf}
use Rattle.row_laws.specs.Words.{reduction_of, IsReducedBy}
use Rattle.row_laws.proofs.Members.{members_reduce}
use Rattle.row_laws.proofs.ReductionValues.{first_entries-unit_rows}
use Rattle.cofactor_laws.specs.RowsWithCofactors.{row_of_c, rows_of_chain}
use Rattle.impose_rules.proofs.ChainParts.{HasMainBelow, below_are_below, triangular_plains}
use Rattle.impose_rules.proofs.Lists.{each_implied}
use Rattle.finish_rules.specs.Remainders.{remainder_of}
use Rattle.finish_rules.specs.Turns.{IdentitySoFar, unknown_monic, composed_first, vanishing}
use Rattle.finish_laws.specs.Identities.{IsMemberOver, IsIdentity}
use Rattle.finish_laws.proofs.Reductions.{remainder_is}
use Rattle.finish_laws.proofs.RowsAt.{rows_canonical, main_t, later_over, last_over, falling, entries_free}
use Rattle.finish_laws.proofs.Turns.{MakesRows}
use Rattle.rank_laws.proofs.Leads.{IsReducedRow, lacks_alike, leads_new}
use Rattle.rank_laws.proofs.Phases.{IsNewHead, monic_new}

-- the first cofactor of a canonical row is canonical
first_canonical : (p n : ℕ) (z : Row Polynomial) → IsPolynomialRow p n z → IsPolynomial p n (first_cofactor (list_operations p n) z)
first_canonical p n z i = go z.cofactors i.1
  where
    go : (cs : List Polynomial) → ArePolynomials p n cs → IsPolynomial p n (first_cofactor (list_operations p n) (record { first = []; cofactors = cs }))
    go [] are = tt
    go (c ∷ cs) are = are.0

module _ (p n w : ℕ) (prime : IsPrime p) (chain ns : List Polynomial) (are : ArePolynomials p n chain) (triangular : IsTriangular chain) where
  -- a remainder other than 0 is a new head
  pub remainder_new : (a b : Polynomial) → IsPolynomial p n a → remainder_of p n w chain a ≡ Some b → b ≢ [] → IsNewHead p n chain b
  remainder_new a b i made some = record {
    canonical = subst (IsPolynomial p n) (sym b_is) (IsPolynomialRow-reduction p n prime.many (plains chain) (plain a) (plains_canonical p n chain are) (i, tt)).0;
    nonzero = some;
    reduced = subst (λ x. IsReducedBy x chain) (sym b_is) (reduction_is_reduced p n (plains chain) (plain a) prime (plains_canonical p n chain are) (i, tt) (triangular_plains 0 chain triangular));
  }
    where
      b_is : b ≡ reduction_of p n chain a
      b_is = remainder_is p n w chain a b made

  -- leads that aren't known nonzero, made monic
  pub unknown_new : (ls : List Polynomial) → AllByRecursion (IsNewHead p n chain) ls → AllByRecursion (IsNewHead p n chain) (unknown_monic p ns ls)
  unknown_new [] each = tt
  unknown_new (l ∷ ls) each = go (is_known_nonzero p ns l) (unknown_new ls each.1)
    where
      later : List Polynomial
      later = filter (λ f. not (is_known_nonzero p ns f)) ls

      go : (known : Bool) → AllByRecursion (IsNewHead p n chain) (map (monic p) later) → AllByRecursion (IsNewHead p n chain) (map (monic p) (cond (not known) (l ∷ later) later))
      go true rest = rest
      go false rest = (monic_new p n w prime chain are triangular l each.0, rest)

module _ (p n w v u : ℕ) (chain ns : List Polynomial) (t : Polynomial) (member : IsMemberOver p n v chain t) (h : Polynomial) (s : IdentitySoFar) (is : IsIdentity p n v (suc u) chain h s.row) (q : Polynomial) (made : LaterRows Polynomial) (makes : MakesRows p n w u chain ns s.row q made) where
  abbrev below : List Polynomial
  below = members_below u chain

  abbrev c : Row Polynomial
  c = row_of_c n s.row.first below

  -- after u the rows lack what c lacks
  rows_alike : (x : ℕ) → suc u ≤ x → IsFreeOf x s.row.first → EachRow (IsRowFreeOf x) (c ∷ made.later)
  rows_alike x from free = (entries_free p n w v u chain ns t member h s.row is q made makes x (λ same. omega (arith, from, same)) (free_above_main_var u x q (main_t p n w v u chain ns t member h s.row is q made makes) from) free (each_implied (HasMainBelow u) (IsFreeOf x) (λ g main. let less = main.2 in free_above_main_var main.0 x g main.1 (omega (arith, less, from))) below (below_are_below u chain))).0

  rows_join : (later : List (Row Polynomial)) → ArePolynomialRows p n later → EachRow (λ g. g.first ≢ []) later → EachRow (λ g. IsReducedBy g.first (first_entries (rows_of_chain p n below))) later → ((x : ℕ) → suc u ≤ x → IsFreeOf x s.row.first → EachRow (IsRowFreeOf x) later) → EachRow (IsReducedRow p n u chain) later
  rows_join [] canonical nonzero less free = tt
  rows_join (g ∷ later) canonical nonzero less free = (
    record {
      canonical = canonical.0.0;
      nonzero = nonzero.0;
      below = subst (IsReducedBy g.first) (first_entries-unit_rows p n 2 below) less.0;
      lacks = lacks_alike (suc u) s.row.first g.first chain (λ x from none. (free x from none).0.0) is.lacks;
    },
    rows_join later canonical.1 nonzero.1 less.1 (λ x from none. (free x from none).1),
  )

  rows_new : EachRow (IsReducedRow p n u chain) (c ∷ made.later)
  rows_new =
      let gens = s.row.first ∷ q ∷ below in
      let fall = falling p n w v u chain ns t member h s.row is q made makes in (
        record { canonical = is.over.canonical.0; nonzero = is.nonzero; below = members_reduce u s.row.first chain is.reduced; lacks = is.lacks },
        rows_join made.later (rows_canonical p n gens made.later (later_over p n w v u chain ns t member h s.row is q made makes).1) fall.nonzero fall.reduced (λ x from none. (rows_alike x from none).1),
      )

  -- what vanishes where the rows end with a zero row
  pub vanishing_new : (z : Row Polynomial) → made.last ≡ Some z → (b : Polynomial) → remainder_of p n w chain (first_cofactor (list_operations p n) z) ≡ Some b → AllByRecursion (IsNewHead p n chain) (vanishing p n w chain ns s (leads (list_operations p n) u (row_of_c n s.row.first (members_below u chain) ∷ made.later)) b)
  vanishing_new z last b reduced = choose (AllByRecursion (IsNewHead p n chain)) (is_zero b) (unknown_monic p ns ls) (b ∷ composed_first p n w chain ns s) (λ null. unknown_new p n w member.prime chain ns member.canonical member.triangular ls (leads_new p n u chain (c ∷ made.later) rows_new)) (λ some. (
    remainder_new p n w member.prime chain ns member.canonical member.triangular (first_cofactor (list_operations p n) z) b (first_canonical p n z z_canonical) reduced (not_zero_by_test b some),
    choose (AllByRecursion (IsNewHead p n chain)) s.composed (s.row.first ∷ []) [] (λ e. (record { canonical = is.over.canonical.0; nonzero = is.nonzero; reduced = is.reduced }, tt)) (λ e. tt),
  ))
    where
      ls : List Polynomial
      ls = leads (list_operations p n) u (c ∷ made.later)

      z_canonical : IsPolynomialRow p n z
      z_canonical = (subst (IfRow (IsRowOver p n (s.row.first ∷ q ∷ below))) last (last_over p n w v u chain ns t member h s.row is q made makes)).canonical
