-- The initial and the polynomials below as rows over one another.
use Rattle.std.proofs.Common.{◌≡◌, ℕ, ◌+◌, true, List, length, refl, sym, ap, ◌∙◌, subst, arith}
use Rattle.polynomials.specs.Polynomials.{Polynomial}
use Rattle.polynomials.specs.Triangular.{IsTriangular}
use Rattle.division_rules.specs.Chains.{EachRow}
use Rattle.division_rules.specs.Rows.{Row}
use Rattle.division_rules.specs.Triangular.{AreTriangular}
use Rattle.subresultants.specs.Generators.{generator_row, generator_rows}
use Rattle.subresultants.proofs.GeneratorRows.{generator_row-count, generator_rows-count, generator_rows-entries}

module _ (p : ℕ) (h : Polynomial) (below : List Polynomial) (row : Row Polynomial) (rows : List (Row Polynomial)) (row_is : row ≡ generator_row true 0 (length below) h) (rows_is : rows ≡ generator_rows p true 1 below) where
  -- a triangular set as rows
  pub rows_triangular : IsTriangular below → AreTriangular rows
  rows_triangular triangular = subst AreTriangular (sym rows_is) (subst IsTriangular (sym (generator_rows-entries p true 1 below)) triangular)

  -- with as many cofactors as the initial
  pub rows_counts : EachRow (λ t. length t.cofactors ≡ length row.cofactors) rows
  rows_counts =
      let one : length row.cofactors ≡ 1 + length below = ap (λ (x : Row Polynomial). length x.cofactors) row_is ∙ generator_row-count true 0 (length below) (1 + length below) h (omega arith) in
      subst (λ k. EachRow (λ t. length t.cofactors ≡ k) rows) (sym one) (subst (EachRow (λ t. length t.cofactors ≡ 1 + length below)) (sym rows_is) (generator_rows-count p true 1 (1 + length below) below refl))
