-- What the steps within a width give of combinations is a combination of the same polynomials.
use Rattle.std.proofs.Common.{◌≡◌, ℕ, List, [], ◌∷◌, Option, Some, None, IfSome, sym, ap, ap₂, ◌∙◌, subst}
use Rattle.polynomials.specs.Primes.{IsPrime}
use Rattle.polynomials.specs.Polynomials.{Polynomial, ArePolynomials}
use Rattle.polynomials.proofs.PolynomialRing.{CanonicalPolynomial, canonical_path}
use Rattle.division_rules.specs.Rows.{Row, combined, elimination, pseudo_remainder, reduction}
use Rattle.division_rules.specs.Chains.{EachRow}
use Rattle.division_rules.specs.Lists.{list_operations}
use Rattle.division_rules.specs.PolynomialRows.{IsPolynomialRow, ArePolynomialRows}
use Rattle.division_rules.specs.Units.{IsCombinationOf}
use Rattle.division_rules.specs.Triangular.{AreTriangular, HasLessDegree}
use Rattle.division_rules.specs.Within.{elimination_within, pseudo_remainder_within, reduction_within}
use Rattle.division_rules.proofs.Settings.{ViewedRing, operations}
use Rattle.division_rules.proofs.PolynomialSetting.{polynomial_setting}
use Rattle.division_rules.proofs.CanonicalViews.{canonical_operations}
use Rattle.division_rules.proofs.Down.{terms, terms_all, down, terms-combined, down-elimination, down-pseudo_remainder, down-reduction}
use Rattle.division_rules.proofs.Up.{up_all, up, up_rows, terms-up_all, down-up, down-up_rows, length-up_all}
use Rattle.division_rules.proofs.Identity.{length-map_by, combination-elimination, combination-pseudo_remainder, combination-reduction}
use Rattle.division_rules.proofs.WithinLimits.{Gives, gives-elimination, gives-pseudo_remainder, gives-reduction}
use Rattle.division_rules.proofs.TriangularReductions.{reduction_is_reduced}

-- what is there and is given is the same
given_is : {A : Type 0} (o : Option A) (h x : A) → o ≡ Some h → Gives o x → h ≡ x
given_is None h x e gives = cc
given_is (Some y) h x e gives = cc

-- what follows from what is there
pub IfSome-from : {A : Type 0} (P : A → Type 0) (r : Option A) (o : Option A) → ((h : A) → o ≡ Some h → P h) → r ≡ o → IfSome r P
IfSome-from P None o follows e = tt
IfSome-from P (Some h) o follows e = follows h (sym e)

module _ (p n : ℕ) (prime : IsPrime p) where
  abbrev P : ViewedRing (CanonicalPolynomial p n)
  P = polynomial_setting p n prime

  module _ (gs : List Polynomial) (are : ArePolynomials p n gs) where
    abbrev Holds : Row Polynomial → Type 0
    Holds f = IsCombinationOf (list_operations p n) gs f

    abbrev HoldsAbove : Row (CanonicalPolynomial p n) → Type 0
    HoldsAbove f = IsCombinationOf (operations P) (up_all p n prime.many gs are) f

    -- a combination of lists of terms is one of canonical polynomials
    holds_above : (f : Row Polynomial) (i : IsPolynomialRow p n f) → Holds f → HoldsAbove (up p n prime.many f i)
    holds_above f i h = record {
      one_each = length-up_all p n prime.many f.cofactors i.1 ∙ h.one_each ∙ sym (length-up_all p n prime.many gs are);
      identity = canonical_path p n (f.first, i.0) (combined (operations P) (up_all p n prime.many f.cofactors i.1) (up_all p n prime.many gs are))
          (h.identity ∙ sym (terms-combined p n prime.many (up_all p n prime.many f.cofactors i.1) (up_all p n prime.many gs are) ∙ ap₂ (combined (list_operations p n)) (terms-up_all p n prime.many f.cofactors i.1) (terms-up_all p n prime.many gs are)));
    }

    -- and the other way round
    holds_below : (f : Row (CanonicalPolynomial p n)) → HoldsAbove f → Holds (down p n prime.many f)
    holds_below f h = record {
      one_each = length-map_by (terms p n prime.many) f.cofactors ∙ h.one_each ∙ length-up_all p n prime.many gs are;
      identity = ap (terms p n prime.many) h.identity ∙ terms-combined p n prime.many f.cofactors (up_all p n prime.many gs are) ∙ ap (combined (list_operations p n) (terms_all p n prime.many f.cofactors)) (terms-up_all p n prime.many gs are);
    }

    -- of each row
    each_above : (rows : List (Row Polynomial)) (i : ArePolynomialRows p n rows) → EachRow Holds rows → EachRow HoldsAbove (up_rows p n prime.many rows i)
    each_above [] i each = tt
    each_above (f ∷ rows) i each = (holds_above f i.0 each.0, each_above rows i.1 each.1)

    module _ (w v : ℕ) (f g h : Row Polynomial) (i : IsPolynomialRow p n f) (j : IsPolynomialRow p n g) (holds_f : Holds f) (holds_g : Holds g) where
      -- an elimination
      pub holds_elimination : elimination_within (list_operations p n) w v f g ≡ Some h → Holds h
      holds_elimination e =
          subst Holds (down-elimination p n prime.many v (up p n prime.many f i) (up p n prime.many g j) ∙ ap₂ (elimination (list_operations p n) v) (down-up p n prime.many f i) (down-up p n prime.many g j) ∙ sym (given_is (elimination_within (list_operations p n) w v f g) h (elimination (list_operations p n) v f g) e (gives-elimination (list_operations p n) w v f g)))
          (holds_below (elimination (canonical_operations p n prime.many) v (up p n prime.many f i) (up p n prime.many g j)) (combination-elimination P (up_all p n prime.many gs are) v (up p n prime.many f i) (up p n prime.many g j) (holds_above f i holds_f) (holds_above g j holds_g)))

      -- a pseudo-remainder
      pub holds_pseudo_remainder : pseudo_remainder_within (list_operations p n) w v f g ≡ Some h → Holds h
      holds_pseudo_remainder e =
          subst Holds (down-pseudo_remainder p n prime.many v (up p n prime.many f i) (up p n prime.many g j) ∙ ap₂ (pseudo_remainder (list_operations p n) v) (down-up p n prime.many f i) (down-up p n prime.many g j) ∙ sym (given_is (pseudo_remainder_within (list_operations p n) w v f g) h (pseudo_remainder (list_operations p n) v f g) e (gives-pseudo_remainder (list_operations p n) w v f g)))
          (holds_below (pseudo_remainder (canonical_operations p n prime.many) v (up p n prime.many f i) (up p n prime.many g j)) (combination-pseudo_remainder P (up_all p n prime.many gs are) v (up p n prime.many f i) (up p n prime.many g j) (holds_above f i holds_f) (holds_above g j holds_g)))

    -- a reduction
    pub holds_reduction : (w : ℕ) (chain : List (Row Polynomial)) (f h : Row Polynomial) → ArePolynomialRows p n chain → IsPolynomialRow p n f → EachRow Holds chain → Holds f → reduction_within (list_operations p n) w chain f ≡ Some h → Holds h
    holds_reduction w chain f h i j each holds_f e =
        subst Holds (down-reduction p n prime.many (up_rows p n prime.many chain i) (up p n prime.many f j) ∙ ap₂ (reduction (list_operations p n)) (down-up_rows p n prime.many chain i) (down-up p n prime.many f j) ∙ sym (given_is (reduction_within (list_operations p n) w chain f) h (reduction (list_operations p n) chain f) e (gives-reduction (list_operations p n) w chain f)))
        (holds_below (reduction (canonical_operations p n prime.many) (up_rows p n prime.many chain i) (up p n prime.many f j)) (combination-reduction P (up_all p n prime.many gs are) (up_rows p n prime.many chain i) (each_above chain i each) (up p n prime.many f j) (holds_above f j holds_f)))

  -- a reduction within a width has less degree than each member in its main variable
  pub less_than_members : (w : ℕ) (chain : List (Row Polynomial)) (f h : Row Polynomial) → ArePolynomialRows p n chain → IsPolynomialRow p n f → AreTriangular chain → reduction_within (list_operations p n) w chain f ≡ Some h → EachRow (HasLessDegree h.first) chain
  less_than_members w chain f h i j triangular e = subst (λ x. EachRow (HasLessDegree x.first) chain) (sym (given_is (reduction_within (list_operations p n) w chain f) h (reduction (list_operations p n) chain f) e (gives-reduction (list_operations p n) w chain f))) (reduction_is_reduced p n chain f prime i j triangular)
