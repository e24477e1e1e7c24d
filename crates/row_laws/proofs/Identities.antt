-- Pseudo-remainders and reductions of lists of terms as identities.
use Rattle.std.proofs.Common.{◌≡◌, ℕ, suc, ◌-◌, ◌<◌, List, [], ◌∷◌, length, map, All, Contains, refl, sym, ap, ap₂, ◌∙◌, subst}
use Rattle.polynomials.specs.Polynomials.{Polynomial, sum_of, product_of}
use Rattle.polynomials.specs.Rings.{power_in}
use Rattle.polynomials.specs.Sums.{combination}
use Rattle.polynomials.specs.Views.{degree_in, initial_of}
use Rattle.polynomials.proofs.PolynomialRing.{CanonicalPolynomial}
use Rattle.polynomials.proofs.Powers.{power_of-ring}
use Rattle.division_rules.specs.Operations.{lead}
use Rattle.division_rules.specs.PolynomialRows.{ArePolynomialRows}
use Rattle.division_rules.specs.Rows.{Row, plain, plains, first_entries, pseudo_remainder}
use Rattle.division_rules.proofs.CanonicalViews.{canonical_operations}
use Rattle.division_rules.proofs.Down.{terms, terms_all, terms-combined}
use Rattle.division_rules.proofs.Identity.{length-map_by}
use Rattle.division_rules.proofs.Multiples.{IsDivided, multiple-pseudo_remainder_by, divided-reduction}
use Rattle.division_rules.proofs.PolynomialSetting.{polynomial_setting}
use Rattle.division_rules.proofs.Settings.{ViewedRing}
use Rattle.division_rules.proofs.Up.{up_rows, plains_canonical, terms_canonical}
use Rattle.row_laws.specs.Identities.{PseudoRemaindersDivide, ReductionsDivide}
use Rattle.row_laws.proofs.Initials.{terms-product_of_all, initial_members}
use Rattle.row_laws.proofs.Lifts.{lifted-pseudo_remainder}
use Rattle.row_laws.proofs.ReductionValues.{first_entries-plains, chain_rows, canonical_reduction, reduction_is}

-- the law of pseudo-remainders
pub pseudo_remainders_divide : PseudoRemaindersDivide
pseudo_remainders_divide p n v f g prime i j = record {
  quotient = whole.0.0;
  canonical = whole.0.1;
  identity =
      ap (λ x. product_of p x f) (sym (power_of-ring p n prime.many l turns))
      ∙ ap (λ u. u.0) whole.1
      ∙ ap (λ x. sum_of p (product_of p whole.0.0 g) x) (ap (λ h. h.first) (lifted-pseudo_remainder p n prime.many v (plain f) (plain g) (i, tt) (j, tt)));
}
  where
    P : ViewedRing (CanonicalPolynomial p n)
    P = polynomial_setting p n prime

    turns : ℕ
    turns = suc (degree_in v f - degree_in v g)

    l : CanonicalPolynomial p n
    l = lead (canonical_operations p n prime.many) v (g, j)

    above : Row (CanonicalPolynomial p n)
    above = pseudo_remainder (canonical_operations p n prime.many) v (plain (f, i)) (plain (g, j))

    whole : (q : CanonicalPolynomial p n) × (P.ring.◌⊗◌ (power_in P.ring l turns) (f, i) ≡ P.ring.◌⊕◌ (P.ring.◌⊗◌ q (g, j)) above.first)
    whole = multiple-pseudo_remainder_by P v (plain (g, j)) turns (plain (f, i))

-- the first entries of rows of canonical polynomials are those of the lists of terms
terms-first_entries : (p n : ℕ) (many : 1 < p) (rows : List (Row Polynomial)) (are : ArePolynomialRows p n rows) → terms_all p n many (first_entries (up_rows p n many rows are)) ≡ first_entries rows
terms-first_entries p n many [] are = refl
terms-first_entries p n many (t ∷ rows) are = ap (λ fs. t.first ∷ fs) (terms-first_entries p n many rows are.1)

-- there are as many of them
length-up_rows : (p n : ℕ) (many : 1 < p) (rows : List (Row Polynomial)) (are : ArePolynomialRows p n rows) → length (up_rows p n many rows are) ≡ length rows
length-up_rows p n many [] are = refl
length-up_rows p n many (t ∷ rows) are = ap suc (length-up_rows p n many rows are.1)

-- the law of reductions
pub reductions_divide : ReductionsDivide
reductions_divide p n chain f prime are i = record {
  factors = terms_all p n prime.many whole.factors;
  initials = subst (λ fs. All (Contains (map initial_of fs)) (terms_all p n prime.many whole.factors)) (first_entries-plains chain) (initial_members p n prime.many (plains chain) (plains_canonical p n chain are) whole.factors whole.initials);
  quotients = terms_all p n prime.many whole.quotients;
  canonical = terms_canonical p n prime.many whole.quotients;
  one_each = length-map_by (terms p n prime.many) whole.quotients ∙ whole.one_each ∙ length-up_rows p n prime.many (plains chain) (plains_canonical p n chain are) ∙ length-map_by (λ (f : Polynomial). plain f) chain;
  identity =
      ap (λ x. product_of p x f) (sym (terms-product_of_all p n prime.many whole.factors))
      ∙ ap (λ u. u.0) whole.identity
      ∙ ap₂ (sum_of p) (reduction_is p n prime chain are f i) (terms-combined p n prime.many whole.quotients (first_entries (chain_rows p n prime chain are)) ∙ ap (combination p (terms_all p n prime.many whole.quotients)) (terms-first_entries p n prime.many (plains chain) (plains_canonical p n chain are) ∙ first_entries-plains chain));
}
  where
    P : ViewedRing (CanonicalPolynomial p n)
    P = polynomial_setting p n prime

    whole : IsDivided P (chain_rows p n prime chain are) (f, i) (canonical_reduction p n prime chain are f i)
    whole = divided-reduction P (chain_rows p n prime chain are) (plain (f, i))
