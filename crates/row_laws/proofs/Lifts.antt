-- Steps of division on canonical lists of terms are those of canonical polynomials.
use Rattle.std.proofs.Common.{◌≡◌, ℕ, ◌<◌, List, ap, ap₂, ◌∙◌}
use Rattle.polynomials.specs.Polynomials.{Polynomial}
use Rattle.division_rules.specs.Lists.{list_operations}
use Rattle.division_rules.specs.PolynomialRows.{IsPolynomialRow, ArePolynomialRows}
use Rattle.division_rules.specs.Rows.{Row, elimination, sparse_remainder, pseudo_remainder, reduction}
use Rattle.division_rules.specs.RemainderRows.{remainder_rows}
use Rattle.division_rules.proofs.CanonicalViews.{canonical_operations}
use Rattle.division_rules.proofs.Down.{down, down-elimination, down-sparse_remainder, down-pseudo_remainder, down-reduction}
use Rattle.division_rules.proofs.DownRows.{down_rows, down-remainder_rows}
use Rattle.division_rules.proofs.Up.{up, up_rows, down-up, down-up_rows}

module _ (p n : ℕ) (many : 1 < p) where
  module _ (v : ℕ) (f g : Row Polynomial) (i : IsPolynomialRow p n f) (j : IsPolynomialRow p n g) where
    -- an elimination
    pub lifted-elimination : down p n many (elimination (canonical_operations p n many) v (up p n many f i) (up p n many g j)) ≡ elimination (list_operations p n) v f g
    lifted-elimination = down-elimination p n many v (up p n many f i) (up p n many g j) ∙ ap₂ (elimination (list_operations p n) v) (down-up p n many f i) (down-up p n many g j)

    -- the sparse remainder
    pub lifted-sparse_remainder : down p n many (sparse_remainder (canonical_operations p n many) v (up p n many f i) (up p n many g j)) ≡ sparse_remainder (list_operations p n) v f g
    lifted-sparse_remainder = down-sparse_remainder p n many v (up p n many f i) (up p n many g j) ∙ ap₂ (sparse_remainder (list_operations p n) v) (down-up p n many f i) (down-up p n many g j)

    -- the pseudo-remainder
    pub lifted-pseudo_remainder : down p n many (pseudo_remainder (canonical_operations p n many) v (up p n many f i) (up p n many g j)) ≡ pseudo_remainder (list_operations p n) v f g
    lifted-pseudo_remainder = down-pseudo_remainder p n many v (up p n many f i) (up p n many g j) ∙ ap₂ (pseudo_remainder (list_operations p n) v) (down-up p n many f i) (down-up p n many g j)

  module _ (chain : List (Row Polynomial)) (are : ArePolynomialRows p n chain) where
    -- the reduction by a chain
    pub lifted-reduction : (f : Row Polynomial) (i : IsPolynomialRow p n f) → down p n many (reduction (canonical_operations p n many) (up_rows p n many chain are) (up p n many f i)) ≡ reduction (list_operations p n) chain f
    lifted-reduction f i = down-reduction p n many (up_rows p n many chain are) (up p n many f i) ∙ ap₂ (reduction (list_operations p n)) (down-up_rows p n many chain are) (down-up p n many f i)

    -- remainder rows
    pub lifted-remainder_rows : (w v : ℕ) (t c : Row Polynomial) (i : IsPolynomialRow p n t) (j : IsPolynomialRow p n c) → down_rows p n many (remainder_rows (canonical_operations p n many) w v (up_rows p n many chain are) (up p n many t i) (up p n many c j)) ≡ remainder_rows (list_operations p n) w v chain t c
    lifted-remainder_rows w v t c i j = down-remainder_rows p n many w v (up_rows p n many chain are) (up p n many t i) (up p n many c j) ∙ ap₂ (λ x y. remainder_rows (list_operations p n) w v x y (down p n many (up p n many c j))) (down-up_rows p n many chain are) (down-up p n many t i) ∙ ap (remainder_rows (list_operations p n) w v chain t) (down-up p n many c j)
