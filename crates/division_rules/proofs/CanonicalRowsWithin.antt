-- What the steps within a width give for canonical lists of terms is canonical.
use Rattle.std.proofs.Common.{◌≡◌, ℕ, ◌<◌, List, Some, ap, ap₂, ◌∙◌}
use Rattle.polynomials.specs.Polynomials.{Polynomial, IsPolynomial}
use Rattle.division_rules.specs.Lists.{list_operations}
use Rattle.division_rules.specs.Rows.{Row}
use Rattle.division_rules.specs.Within.{elimination_within, times_row_within, power_of_within}
use Rattle.division_rules.specs.RemainderRows.{LaterRows}
use Rattle.division_rules.specs.RemainderRowsWithin.{remainder_rows_within}
use Rattle.division_rules.specs.PolynomialRows.{IsPolynomialRow, ArePolynomialRows, AreRemainderRows}
use Rattle.division_rules.proofs.CanonicalViews.{canonical_operations}
use Rattle.division_rules.proofs.Down.{down}
use Rattle.division_rules.proofs.DownWithin.{down-elimination_within, down-times_row_within, terms-power_of_within}
use Rattle.division_rules.proofs.DownRowsWithin.{down-remainder_rows_within}
use Rattle.division_rules.proofs.Up.{up, up_rows, down-up, down-up_rows, if_canonical, if_row_canonical, if_rows_canonical}

module _ (p n : ℕ) (many : 1 < p) (w : ℕ) where
  -- powers
  pub IsPolynomial-power_of_within : (f : Polynomial) (e : ℕ) (h : Polynomial) → IsPolynomial p n f → power_of_within (list_operations p n) w f e ≡ Some h → IsPolynomial p n h
  IsPolynomial-power_of_within f e h i same = if_canonical p n many (power_of_within (canonical_operations p n many) w (f, i) e) h (terms-power_of_within p n many w (f, i) e ∙ same)

  -- an elimination
  pub IsPolynomialRow-elimination_within : (v : ℕ) (f g h : Row Polynomial) → IsPolynomialRow p n f → IsPolynomialRow p n g → elimination_within (list_operations p n) w v f g ≡ Some h → IsPolynomialRow p n h
  IsPolynomialRow-elimination_within v f g h i j e = if_row_canonical p n many (elimination_within (canonical_operations p n many) w v (up p n many f i) (up p n many g j)) h (down-elimination_within p n many w v (up p n many f i) (up p n many g j) ∙ ap₂ (elimination_within (list_operations p n) w v) (down-up p n many f i) (down-up p n many g j) ∙ e)

  -- a row times a polynomial
  pub IsPolynomialRow-times_row_within : (x : Polynomial) (f h : Row Polynomial) → IsPolynomial p n x → IsPolynomialRow p n f → times_row_within (list_operations p n) w x f ≡ Some h → IsPolynomialRow p n h
  IsPolynomialRow-times_row_within x f h ix i e = if_row_canonical p n many (times_row_within (canonical_operations p n many) w (x, ix) (up p n many f i)) h (down-times_row_within p n many w (x, ix) (up p n many f i) ∙ ap (times_row_within (list_operations p n) w x) (down-up p n many f i) ∙ e)

  -- from the first two rows on
  pub AreRemainderRows-remainder_rows_within : (v : ℕ) (chain : List (Row Polynomial)) (t c : Row Polynomial) (rows : LaterRows Polynomial) → ArePolynomialRows p n chain → IsPolynomialRow p n t → IsPolynomialRow p n c → remainder_rows_within (list_operations p n) w v chain t c ≡ Some rows → AreRemainderRows p n rows
  AreRemainderRows-remainder_rows_within v chain t c rows are i j e = if_rows_canonical p n many (remainder_rows_within (canonical_operations p n many) w v (up_rows p n many chain are) (up p n many t i) (up p n many c j)) rows (down-remainder_rows_within p n many w v (up_rows p n many chain are) (up p n many t i) (up p n many c j) ∙ ap₂ (λ x y. remainder_rows_within (list_operations p n) w v x y (down p n many (up p n many c j))) (down-up_rows p n many chain are) (down-up p n many t i) ∙ ap (remainder_rows_within (list_operations p n) w v chain t) (down-up p n many c j) ∙ e)
