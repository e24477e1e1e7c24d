-- The steps of division on canonical lists of terms give canonical ones.
use Rattle.std.proofs.Common.{ℕ, ◌<◌, List, ap, ap₂, ◌∙◌, subst}
use Rattle.polynomials.specs.Polynomials.{Polynomial, IsPolynomial}
use Rattle.division_rules.specs.Lists.{list_operations}
use Rattle.division_rules.specs.Operations.{power, sign}
use Rattle.division_rules.specs.Rows.{Row, elimination, sparse_remainder, pseudo_remainder, reduction}
use Rattle.division_rules.specs.RemainderRows.{remainder_rows}
use Rattle.division_rules.specs.PolynomialRows.{IsPolynomialRow, ArePolynomialRows, AreRemainderRows}
use Rattle.division_rules.proofs.CanonicalViews.{canonical_operations}
use Rattle.division_rules.proofs.Down.{down, terms-power_of, terms-sign, down-elimination, down-sparse_remainder, down-pseudo_remainder, down-reduction}
use Rattle.division_rules.proofs.DownRows.{down-remainder_rows}
use Rattle.division_rules.proofs.Up.{up, up_rows, down-up, down-up_rows, down_canonical, down_rows_canonical}

module _ (p n : ℕ) (many : 1 < p) where
  -- powers
  pub IsPolynomial-power_of : (f : Polynomial) (e : ℕ) → IsPolynomial p n f → IsPolynomial p n (power (list_operations p n) f e)
  IsPolynomial-power_of f e i = subst (IsPolynomial p n) (terms-power_of p n many (f, i) e) (power (canonical_operations p n many) (f, i) e).1

  -- signs
  pub IsPolynomial-sign : (k : ℕ) → IsPolynomial p n (sign (list_operations p n) k)
  IsPolynomial-sign k = subst (IsPolynomial p n) (terms-sign p n many k) (sign (canonical_operations p n many) k).1

  -- an elimination
  pub IsPolynomialRow-elimination : (v : ℕ) (f g : Row Polynomial) → IsPolynomialRow p n f → IsPolynomialRow p n g → IsPolynomialRow p n (elimination (list_operations p n) v f g)
  IsPolynomialRow-elimination v f g i j = subst (IsPolynomialRow p n) (down-elimination p n many v (up p n many f i) (up p n many g j) ∙ ap₂ (elimination (list_operations p n) v) (down-up p n many f i) (down-up p n many g j)) (down_canonical p n many (elimination (canonical_operations p n many) v (up p n many f i) (up p n many g j)))

  -- with the turns of the definition
  pub IsPolynomialRow-sparse_remainder : (v : ℕ) (f g : Row Polynomial) → IsPolynomialRow p n f → IsPolynomialRow p n g → IsPolynomialRow p n (sparse_remainder (list_operations p n) v f g)
  IsPolynomialRow-sparse_remainder v f g i j = subst (IsPolynomialRow p n) (down-sparse_remainder p n many v (up p n many f i) (up p n many g j) ∙ ap₂ (sparse_remainder (list_operations p n) v) (down-up p n many f i) (down-up p n many g j)) (down_canonical p n many (sparse_remainder (canonical_operations p n many) v (up p n many f i) (up p n many g j)))

  -- with the turns of the definition
  pub IsPolynomialRow-pseudo_remainder : (v : ℕ) (f g : Row Polynomial) → IsPolynomialRow p n f → IsPolynomialRow p n g → IsPolynomialRow p n (pseudo_remainder (list_operations p n) v f g)
  IsPolynomialRow-pseudo_remainder v f g i j = subst (IsPolynomialRow p n) (down-pseudo_remainder p n many v (up p n many f i) (up p n many g j) ∙ ap₂ (pseudo_remainder (list_operations p n) v) (down-up p n many f i) (down-up p n many g j)) (down_canonical p n many (pseudo_remainder (canonical_operations p n many) v (up p n many f i) (up p n many g j)))

  -- reductions
  pub IsPolynomialRow-reduction : (chain : List (Row Polynomial)) (f : Row Polynomial) → ArePolynomialRows p n chain → IsPolynomialRow p n f → IsPolynomialRow p n (reduction (list_operations p n) chain f)
  IsPolynomialRow-reduction chain f are i = subst (IsPolynomialRow p n) (down-reduction p n many (up_rows p n many chain are) (up p n many f i) ∙ ap₂ (reduction (list_operations p n)) (down-up_rows p n many chain are) (down-up p n many f i)) (down_canonical p n many (reduction (canonical_operations p n many) (up_rows p n many chain are) (up p n many f i)))

  -- remainder rows
  pub AreRemainderRows-remainder_rows : (w v : ℕ) (chain : List (Row Polynomial)) (t c : Row Polynomial) → ArePolynomialRows p n chain → IsPolynomialRow p n t → IsPolynomialRow p n c → AreRemainderRows p n (remainder_rows (list_operations p n) w v chain t c)
  AreRemainderRows-remainder_rows w v chain t c are i j = subst (AreRemainderRows p n) (down-remainder_rows p n many w v (up_rows p n many chain are) (up p n many t i) (up p n many c j) ∙ ap₂ (λ x y. remainder_rows (list_operations p n) w v x y (down p n many (up p n many c j))) (down-up_rows p n many chain are) (down-up p n many t i) ∙ ap (remainder_rows (list_operations p n) w v chain t) (down-up p n many c j)) (down_rows_canonical p n many (remainder_rows (canonical_operations p n many) w v (up_rows p n many chain are) (up p n many t i) (up p n many c j)))
