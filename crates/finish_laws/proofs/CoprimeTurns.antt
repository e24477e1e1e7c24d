-- Where remainder rows end without a zero row the last of them makes an identity again.
use Rattle.std.proofs.Common.{◌≡◌, ℕ, suc, ◌<◌, List, ◌∷◌, ◌++◌, Some, None, sym, ap, ◌∙◌, subst}
use Rattle.polynomials.specs.Polynomials.{Polynomial, ArePolynomials}
use Rattle.zero_sets.specs.ZeroSets.{members_below}
use Rattle.division_rules.specs.RemainderRows.{LaterRows}
use Rattle.division_rules.specs.Rows.{Row}
use Rattle.division_rules.specs.Turns.{last_row}
use Rattle.division_rules.proofs.RowsShape.{last_of}
use Rattle.row_laws.specs.Combinations.{IsRowOver}
use Rattle.row_laws.specs.Compositions.{composition}
use Rattle.row_laws.proofs.Compositions.{compositions_are_rows}
use Rattle.row_laws.proofs.Members.{members_are_split}
use Rattle.cofactor_laws.specs.RowsWithCofactors.{row_of_c, rows_with_cofactors}
use Rattle.cofactor_laws.specs.TriangularSets.{IsReducedBelow}
use Rattle.cofactor_laws.proofs.LastRows.{last_rows_are_reduced}
use Rattle.finish_rules.specs.Identities.{composed_within}
use Rattle.finish_laws.specs.Identities.{IsMemberOver, IsIdentity}
use Rattle.finish_laws.proofs.Compositions.{composed_is}
use Rattle.finish_laws.proofs.RowsAt.{rows_are, starts, later_over}
use Rattle.finish_laws.proofs.Turns.{MakesRows}

module _ (p n w v u : ℕ) (chain ns : List Polynomial) (s : Polynomial) (member : IsMemberOver p n v chain s) (h : Polynomial) (are_generators : ArePolynomials p n (h ∷ members_below v chain)) (f : Row Polynomial) (is : IsIdentity p n v (suc u) chain h f) (less : u < v) (t : Polynomial) (made : LaterRows Polynomial) (makes : MakesRows p n w u chain ns f t made) where
  abbrev next : Row Polynomial
  next = last_row (row_of_c n f.first (members_below u chain)) made.later

  -- the last row is reduced below u
  next_reduced : made.last ≡ None → IsReducedBelow u chain next.first
  next_reduced none = subst (λ x. IsReducedBelow u chain (last_row (row_of_c n f.first (members_below u chain)) x.later).first) same (last_rows_are_reduced p n w u chain t f.first (starts p n w v u chain ns s member h f is t made makes) (ap (λ x. x.last) same ∙ none))
    where
      same : rows_with_cofactors p n w u t f.first (members_below u chain) ≡ made
      same = rows_are p n w v u chain ns s member h f is t made makes

  -- it is a combination
  next_over : IsRowOver p n (f.first ∷ t ∷ members_below u chain) next
  next_over =
      let each = later_over p n w v u chain ns s member h f is t made makes in
      last_of (IsRowOver p n (f.first ∷ t ∷ members_below u chain)) (row_of_c n f.first (members_below u chain)) made.later each.0 each.1

  -- so what is composed is an identity
  pub composed_identity : made.last ≡ None → (g : Row Polynomial) → composed_within p n w f (last_row (row_of_c n f.first (members_below u chain)) made.later) ≡ Some g → IsIdentity p n v u chain h g
  composed_identity none g composes =
      let reduced = next_reduced none in
      subst (IsIdentity p n v u chain h) (sym (composed_is p n w f next g composes)) (record {
        over = subst (λ gs. IsRowOver p n (h ∷ gs) (composition p n f next)) (sym split.1) (compositions_are_rows p n h t (members_below u chain) split.0 f next member.prime (subst (λ gs. ArePolynomials p n (h ∷ gs)) split.1 are_generators) (subst (λ gs. IsRowOver p n (h ∷ gs) f) split.1 is.over) next_over);
        nonzero = reduced.nonzero;
        reduced = reduced.reduced;
        lacks = reduced.lacks;
      })
    where
      split : (more : List Polynomial) × (members_below v chain ≡ members_below u chain ++ t ∷ more)
      split = members_are_split u v chain t less member.triangular makes.found
