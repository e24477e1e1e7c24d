-- At a point of the quasi-component one of the polynomials vanishes that a turn gives way to.
use Rattle.std.proofs.Common.{◌≡◌, ◌≢◌, ◌⊎◌, inl, inr, ℕ, suc, Bool, true, false, cond, not, List, [], ◌∷◌, filter, map, Some, Any, refl, sym, ap, ◌∙◌, subst}
use Rattle.std.specs.List.{AllByRecursion}
use Rattle.polynomials.specs.Primes.{IsPrime}
use Rattle.polynomials.specs.Polynomials.{Polynomial, IsPolynomial, monic, is_zero}
use Rattle.zero_sets.specs.Domains.{Tables, value_at}
use Rattle.zero_sets.specs.Tasks.{is_known_nonzero}
use Rattle.zero_sets.specs.ZeroSets.{members_below}
use Rattle.zero_sets.proofs.ValueLaws.{value_at-monic}
use Rattle.division_rules.specs.Cofactors.{first_cofactor}
use Rattle.division_rules.specs.Lists.{list_operations}
use Rattle.division_rules.specs.RemainderRows.{LaterRows, leads}
use Rattle.division_rules.specs.Rows.{Row}
use Rattle.division_rules.proofs.ListLaws.{zero_by_test}
use Rattle.division_rules.proofs.Steps.{choose}
use Rattle.row_laws.specs.Words.{reduction_of}
use Rattle.cofactor_laws.specs.RowsWithCofactors.{row_of_c, rows_with_cofactors}
use Rattle.cofactor_laws.specs.TriangularSets.{ShowsZeros}
use Rattle.cofactor_laws.proofs.SetZeros.{zero_rows_show_zeros}
use Rattle.impose_laws.proofs.KnownNonzero.{known_nonzero}
use Rattle.tree_laws.proofs.Some.{some_first, some_right, some_nowhere, some_cases}
use Rattle.finish_rules.specs.Remainders.{remainder_of}
use Rattle.finish_rules.specs.Turns.{IdentitySoFar, unknown_monic, composed_first, vanishing}
use Rattle.finish_laws.specs.Identities.{IsMemberOver, IsIdentity}
use Rattle.finish_laws.specs.Laws.{IsPointOff}
use Rattle.finish_laws.proofs.Reductions.{remainder_is}
use Rattle.finish_laws.proofs.RowsAt.{rows_are, starts, are_leads}
use Rattle.finish_laws.proofs.Turns.{MakesRows}

module _ (p n : ℕ) (prime : IsPrime p) (r : Tables) (xs : List ℕ) (chain ns : List Polynomial) (off : IsPointOff p r xs chain ns) where
  abbrev pub Vanishes : Polynomial → Type 0
  Vanishes f = value_at r xs f ≡ r.nil

  -- one of the leads that vanishes isn't known not to
  unknown_vanishes : (ls : List Polynomial) → AllByRecursion (λ l. IsPolynomial p n l × (l ≢ [])) ls → Any Vanishes ls → Any Vanishes (unknown_monic p ns ls)
  unknown_vanishes [] are any = absurd (some_nowhere Vanishes any)
  unknown_vanishes (l ∷ ls) are any = go (is_known_nonzero p ns l) refl (unknown_vanishes ls are.1) (some_cases Vanishes l ls any)
    where
      later : List Polynomial
      later = filter (λ f. not (is_known_nonzero p ns f)) ls

      go : (known : Bool) → is_known_nonzero p ns l ≡ known → (Any Vanishes ls → Any Vanishes (unknown_monic p ns ls)) → Vanishes l ⊎ Any Vanishes ls → Any Vanishes (map (monic p) (cond (not known) (l ∷ later) later))
      go true known rest (inl null) = absurd (known_nonzero p n prime r off.over.domain xs off.over.point ns l are.0.0 are.0.1 known off.nonzero null)
      go true known rest (inr behind) = rest behind
      go false unknown rest (inl null) = some_first Vanishes (monic p l) (unknown_monic p ns ls) ((value_at-monic p r off.over.domain.ring xs off.over.point n l prime are.0.0).1 null)
      go false unknown rest (inr behind) = some_right Vanishes (monic p l ∷ []) (unknown_monic p ns ls) (rest behind)

  module _ (w v u : ℕ) (t : Polynomial) (member : IsMemberOver p n v chain t) (h : Polynomial) (s : IdentitySoFar) (is : IsIdentity p n v (suc u) chain h s.row) (first : s.composed ≡ false → value_at r xs s.row.first ≢ r.nil) (q : Polynomial) (made : LaterRows Polynomial) (makes : MakesRows p n w u chain ns s.row q made) where
    -- the polynomial so far vanishes only where it was composed, and then it is one of them
    composed_vanishes : Vanishes s.row.first → Any Vanishes (composed_first p n w chain ns s)
    composed_vanishes null = choose (Any Vanishes) s.composed (s.row.first ∷ []) [] (λ e. some_first Vanishes s.row.first [] null) (λ e. absurd (first e null))

    pub some_vanishes : (z : Row Polynomial) → made.last ≡ Some z → (b : Polynomial) → remainder_of p n w chain (first_cofactor (list_operations p n) z) ≡ Some b → Any Vanishes (vanishing p n w chain ns s (leads (list_operations p n) u (row_of_c n s.row.first (members_below u chain) ∷ made.later)) b)
    some_vanishes z last b reduced = choose (Any Vanishes) (is_zero b) (unknown_monic p ns ls) (b ∷ composed_first p n w chain ns s) (λ null. unknown_vanishes ls (are_leads p n w v u chain ns t member h s.row is q made makes) (subst (λ x. Any Vanishes (leads (list_operations p n) u (row_of_c n s.row.first (members_below u chain) ∷ x.later))) same (shows.lead (sym b_is ∙ zero_by_test b null)))) (λ some. elim shows.splits [
      | inl null ↦ some_first Vanishes b (composed_first p n w chain ns s) (ap (value_at r xs) b_is ∙ null)
      | inr null ↦ some_right Vanishes (b ∷ []) (composed_first p n w chain ns s) (composed_vanishes null)
    ])
      where
        ls : List Polynomial
        ls = leads (list_operations p n) u (row_of_c n s.row.first (members_below u chain) ∷ made.later)

        a : Polynomial
        a = first_cofactor (list_operations p n) z

        same : rows_with_cofactors p n w u q s.row.first (members_below u chain) ≡ made
        same = rows_are p n w v u chain ns t member h s.row is q made makes

        b_is : b ≡ reduction_of p n chain a
        b_is = remainder_is p n w chain a b reduced

        shows : ShowsZeros p n w u r xs chain q s.row.first z
        shows = zero_rows_show_zeros p n w u r xs chain q s.row.first z (record { starts = starts p n w v u chain ns t member h s.row is q made makes; last = ap (λ x. x.last) same ∙ last }) off.over off.inside
