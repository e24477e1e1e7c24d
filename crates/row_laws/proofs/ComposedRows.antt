-- A multiple of a row with a combination added, on lists of terms.
use Rattle.std.proofs.Common.{◌≡◌, ℕ, ◌<◌, List, [], ◌∷◌, map, refl, sym, ap, ap₂, ◌∙◌, subst}
use Rattle.polynomials.specs.Polynomials.{sum_of, product_of}
use Rattle.polynomials.proofs.PolynomialRing.{CanonicalPolynomial}
use Rattle.division_rules.specs.Lists.{list_operations}
use Rattle.division_rules.specs.Rows.{Row, combined, times_row}
use Rattle.division_rules.specs.Units.{entrywise_sum}
use Rattle.division_rules.proofs.CanonicalViews.{canonical_operations}
use Rattle.division_rules.proofs.Down.{terms_all, down, terms-combined, down-times_row}
use Rattle.division_rules.proofs.Identity.{combination-composed}
use Rattle.division_rules.proofs.PolynomialSetting.{polynomial_setting}
use Rattle.division_rules.proofs.Up.{up, up_all, terms-up_all, down-up, length-up_all}
use Rattle.row_laws.specs.Combinations.{IsRowOver, composed_row, ComposedRowsAreCombinations}
use Rattle.row_laws.proofs.CombinationRows.{generators, up_combination, down_combination}

-- sums of entries are those of the lists of terms
terms-entrywise_sum : (p n : ℕ) (many : 1 < p) (cs ds : List (CanonicalPolynomial p n)) → terms_all p n many (entrywise_sum (canonical_operations p n many) cs ds) ≡ entrywise_sum (list_operations p n) (terms_all p n many cs) (terms_all p n many ds)
terms-entrywise_sum p n many [] ds = refl
terms-entrywise_sum p n many (c ∷ cs) [] = refl
terms-entrywise_sum p n many (c ∷ cs) (d ∷ ds) = ap (λ fs. sum_of p c.0 d.0 ∷ fs) (terms-entrywise_sum p n many cs ds)

-- the law
pub composed_rows_are_combinations : ComposedRowsAreCombinations
composed_rows_are_combinations p n gs a f es prime are i h ies lengths = subst (IsRowOver p n gs) same (down_combination p n prime gs are composed (combination-composed (polynomial_setting p n prime) (generators p n prime gs are) y (a, i) composed.first es_up (up_combination p n prime gs are f h) (length-up_all p n prime.many es ies ∙ lengths ∙ sym (length-up_all p n prime.many gs are)) refl))
  where
    y : Row (CanonicalPolynomial p n)
    y = up p n prime.many f h.canonical

    es_up : List (CanonicalPolynomial p n)
    es_up = up_all p n prime.many es ies

    scaled_row : Row (CanonicalPolynomial p n)
    scaled_row = times_row (canonical_operations p n prime.many) (a, i) y

    composed : Row (CanonicalPolynomial p n)
    composed = record { first = (canonical_operations p n prime.many).plus scaled_row.first (combined (canonical_operations p n prime.many) es_up (generators p n prime gs are)); cofactors = entrywise_sum (canonical_operations p n prime.many) scaled_row.cofactors es_up }

    scaled_is : terms_all p n prime.many scaled_row.cofactors ≡ map (product_of p a) f.cofactors
    scaled_is = ap (λ g. g.cofactors) (down-times_row p n prime.many (a, i) y) ∙ ap (λ g. map (product_of p a) g.cofactors) (down-up p n prime.many f h.canonical)

    same : down p n prime.many composed ≡ composed_row p n gs a f es
    same = ap₂ (λ x xs. record { first = sum_of p (product_of p a f.first) x; cofactors = xs }) (terms-combined p n prime.many es_up (generators p n prime gs are) ∙ ap₂ (combined (list_operations p n)) (terms-up_all p n prime.many es ies) (terms-up_all p n prime.many gs are)) (terms-entrywise_sum p n prime.many scaled_row.cofactors es_up ∙ ap₂ (entrywise_sum (list_operations p n)) scaled_is (terms-up_all p n prime.many es ies))
