-- Rows with cofactors as combinations of their generators, and the zero row at a point.
use Rattle.std.proofs.Common.{◌≡◌, ◌⊎◌, inl, inr, ℕ, List, [], ◌∷◌, Some, sym, ap, ◌∙◌, subst}
use Rattle.polynomials.specs.Polynomials.{Polynomial}
use Rattle.polynomials.proofs.PolynomialRing.{CanonicalPolynomial, canonical_path}
use Rattle.zero_sets.specs.Domains.{value_at}
use Rattle.zero_sets.proofs.TableRings.{Element}
use Rattle.division_rules.specs.Chains.{IfRow}
use Rattle.division_rules.specs.Lists.{list_operations}
use Rattle.division_rules.specs.Rows.{Row, first_entries}
use Rattle.division_rules.specs.Turns.{DegreesFall}
use Rattle.division_rules.specs.Cofactors.{first_cofactor}
use Rattle.division_rules.proofs.CanonicalViews.{canonical_operations}
use Rattle.division_rules.proofs.CombinationPoints.{first_product_zero}
use Rattle.division_rules.proofs.PolynomialSetting.{polynomial_setting}
use Rattle.division_rules.proofs.Settings.{Evaluation, IsZero}
use Rattle.division_rules.proofs.Up.{up, up_all, down-up}
use Rattle.row_laws.specs.Words.{StartRemainderRows}
use Rattle.row_laws.specs.Combinations.{IsRowOver, AreRowsOver, KeepCombinations}
use Rattle.row_laws.proofs.CombinationRows.{combinations_are_kept, up_combination}
use Rattle.row_laws.proofs.FallingRows.{remainder_rows_fall}
use Rattle.row_laws.proofs.ReductionValues.{first_entries-unit_rows}
use Rattle.row_laws.proofs.TablePoints.{table_evaluation, zero_table}
use Rattle.row_laws.proofs.VanishingRows.{generators_zero}
use Rattle.cofactor_laws.specs.RowsWithCofactors.{row_of_c, row_of_t, rows_of_chain, rows_with_cofactors}
use Rattle.cofactor_laws.specs.Laws.{RowsWithCofactorsAreCombinations, ZeroRowSplitsZeros}
use Rattle.cofactor_laws.proofs.DownSteps.{terms-first_cofactor}
use Rattle.cofactor_laws.proofs.ReducedCofactors.{start_rows, are_rows}

-- the rows, since the generators as rows are combinations
pub rows_with_cofactors_are_combinations : RowsWithCofactorsAreCombinations
rows_with_cofactors_are_combinations p n w v t c chain prime are start = (kept.later_rows w v (rows_of_chain p n chain) (row_of_t n t chain) (row_of_c n c chain) over from, kept.zero_row w v (rows_of_chain p n chain) (row_of_t n t chain) (row_of_c n c chain) over from)
  where
    kept : KeepCombinations p n (c ∷ t ∷ chain)
    kept = combinations_are_kept p n (c ∷ t ∷ chain) prime are

    over : AreRowsOver p n (c ∷ t ∷ chain) (row_of_t n t chain ∷ row_of_c n c chain ∷ rows_of_chain p n chain)
    over = (kept.units.1.0, (kept.units.0, kept.units.1.1))

    from : StartRemainderRows v (first_entries (rows_of_chain p n chain)) t c
    from = subst (λ fs. StartRemainderRows v fs t c) (sym (first_entries-unit_rows p n 2 chain)) start

-- the zero row is 0
last_is_zero : (p n v : ℕ) (g : Row Polynomial) (later : List (Row Polynomial)) (z : Row Polynomial) → DegreesFall (list_operations p n) v g later (Some z) → z.first ≡ []
last_is_zero p n v g [] z falls = falls.1
last_is_zero p n v g (h ∷ later) z falls = last_is_zero p n v h later z falls.2

pub zero_row_splits_zeros : ZeroRowSplitsZeros
zero_row_splits_zeros p n w v r xs t c chain z ends at zeros = split (E.integral (E.val a) (E.val (c, ends.canonical.0)) (first_product_zero (polynomial_setting p n ends.prime) E (c, ends.canonical.0) (up_all p n ends.prime.many (t ∷ chain) ends.canonical.1) y (up_combination p n ends.prime (c ∷ t ∷ chain) ends.canonical z over) (generators_zero p n ends.prime r at.domain xs at.point (t ∷ chain) ends.canonical.1 zeros) (canonical_path p n _ _ is_zero)))
  where
    E : Evaluation (polynomial_setting p n ends.prime) (Element r)
    E = table_evaluation p n ends.prime r at.domain xs at.point

    over : IsRowOver p n (c ∷ t ∷ chain) z
    over = subst (IfRow (IsRowOver p n (c ∷ t ∷ chain))) ends.last (rows_with_cofactors_are_combinations p n w v t c chain ends.prime ends.canonical ends.start).1

    y : Row (CanonicalPolynomial p n)
    y = up p n ends.prime.many z over.canonical

    a : CanonicalPolynomial p n
    a = first_cofactor (canonical_operations p n ends.prime.many) y

    is_zero : z.first ≡ []
    is_zero = last_is_zero p n v (row_of_c n c chain) (rows_with_cofactors p n w v t c chain).later z (subst (DegreesFall (list_operations p n) v (row_of_c n c chain) (rows_with_cofactors p n w v t c chain).later) ends.last (remainder_rows_fall p n w v (rows_of_chain p n chain) (row_of_t n t chain) (row_of_c n c chain) ends.prime (are_rows p n ends.prime v t c chain ends.canonical) (start_rows p n v t c chain ends.start)).falls)

    first_is : a.0 ≡ first_cofactor (list_operations p n) z
    first_is = terms-first_cofactor p n ends.prime.many y ∙ ap (first_cofactor (list_operations p n)) (down-up p n ends.prime.many z over.canonical)

    split : IsZero (polynomial_setting p n ends.prime) E a ⊎ IsZero (polynomial_setting p n ends.prime) E (c, ends.canonical.0) → (value_at r xs (first_cofactor (list_operations p n) z) ≡ r.nil) ⊎ (value_at r xs c ≡ r.nil)
    split (inl null) = inl (ap (value_at r xs) (sym first_is) ∙ zero_table p n ends.prime r at.domain xs at.point a null)
    split (inr null) = inr (zero_table p n ends.prime r at.domain xs at.point (c, ends.canonical.0) null)
