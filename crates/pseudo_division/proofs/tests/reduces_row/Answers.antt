-- The rows have main variables that increase.
use Rattle.std.proofs.Common.{◌≡◌, [], ◌∷◌, ◌++◌, refl, ap, sym, subst, ◌∙◌}
use Rattle.polynomials.specs.Polynomials.{Polynomial}
use Rattle.division_rules.specs.Rows.{Row, plains}
use Rattle.division_rules.specs.Triangular.{AreTriangular}
use Rattle.pseudo_division.proofs.tests.reduces_row.Goals as goal

-- rows are triangular where their first entries are
rows_triangular : (t s : Row Polynomial) (a b : Polynomial) → a ≡ t.first → b ≡ s.first → AreTriangular (plains (a ∷ b ∷ [])) → AreTriangular (t ∷ s ∷ [])
rows_triangular t s a b first second h = subst (λ x. AreTriangular (plains (t.first ∷ x ∷ []))) second (subst (λ x. AreTriangular (plains (x ∷ b ∷ []))) first h)

pub reduce_rows-requires-clause-triangular : goal.reduce_rows-requires-clause-triangular
reduce_rows-requires-clause-triangular c =
    subst AreTriangular (sym (c.in_ok-push-2.ensures.ok ∙ ap (λ l. l ++ c.in_ok-s.s ∷ []) (c.in_ok-push.ensures.ok ∙ ap (λ l. l ++ c.in_ok-t.t ∷ []) c.new-by.ensures)))
    (rows_triangular c.in_ok-t.t c.in_ok-s.s c.t.inside.first c.s.inside.first (ap (λ (x : Row Polynomial). x.first) c.t.view_is) (ap (λ (x : Row Polynomial). x.first) c.s.view_is) (c.if-not-are_triangular.ensures refl))
