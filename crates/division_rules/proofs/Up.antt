-- Canonical lists of terms are those of canonical polynomials, and so are rows of them.
use Rattle.std.proofs.Common.{◌≡◌, ℕ, ◌<◌, List, [], ◌∷◌, Option, Some, None, option_map, refl, ap, ap₂, subst, suc, length}
use Rattle.std.proofs.lemmas.Option.{same_Some}
use Rattle.polynomials.specs.Polynomials.{Polynomial, IsPolynomial, ArePolynomials}
use Rattle.polynomials.proofs.PolynomialRing.{CanonicalPolynomial}
use Rattle.division_rules.specs.Rows.{Row, plains}
use Rattle.division_rules.specs.RemainderRows.{LaterRows}
use Rattle.division_rules.specs.Chains.{IfRow}
use Rattle.division_rules.specs.PolynomialRows.{IsPolynomialRow, ArePolynomialRows, AreRemainderRows}
use Rattle.division_rules.proofs.Down.{terms, terms_all, down, down_all}
use Rattle.division_rules.proofs.DownRows.{down_rows}

-- canonical lists of terms as rows without cofactors
pub plains_canonical : (p n : ℕ) (fs : List Polynomial) → ArePolynomials p n fs → ArePolynomialRows p n (plains fs)
plains_canonical p n [] are = tt
plains_canonical p n (f ∷ fs) are = ((are.0, tt), plains_canonical p n fs are.1)

module _ (p n : ℕ) (many : 1 < p) where
  -- canonical lists of terms as canonical polynomials
  abbrev pub up_all : (fs : List Polynomial) → ArePolynomials p n fs → List (CanonicalPolynomial p n)
  up_all [] are = []
  up_all (f ∷ fs) are = (f, are.0) ∷ up_all fs are.1

  -- a row of them
  abbrev pub up : (f : Row Polynomial) → IsPolynomialRow p n f → Row (CanonicalPolynomial p n)
  up f i = record { first = (f.first, i.0); cofactors = up_all f.cofactors i.1 }

  -- rows of them
  abbrev pub up_rows : (fs : List (Row Polynomial)) → ArePolynomialRows p n fs → List (Row (CanonicalPolynomial p n))
  up_rows [] are = []
  up_rows (f ∷ fs) are = up f are.0 ∷ up_rows fs are.1

  -- their lists of terms are what they were made of
  pub terms-up_all : (fs : List Polynomial) (are : ArePolynomials p n fs) → terms_all p n many (up_all fs are) ≡ fs
  terms-up_all [] are = refl
  terms-up_all (f ∷ fs) are = ap (λ x. f ∷ x) (terms-up_all fs are.1)

  -- as many as there are lists
  pub length-up_all : (fs : List Polynomial) (are : ArePolynomials p n fs) → length (up_all fs are) ≡ length fs
  length-up_all [] are = refl
  length-up_all (f ∷ fs) are = ap suc (length-up_all fs are.1)

  -- so is a row
  pub down-up : (f : Row Polynomial) (i : IsPolynomialRow p n f) → down p n many (up f i) ≡ f
  down-up f i = ap (λ cs. record { first = f.first; cofactors = cs }) (terms-up_all f.cofactors i.1)

  -- and a list of rows
  pub down-up_rows : (fs : List (Row Polynomial)) (are : ArePolynomialRows p n fs) → down_all p n many (up_rows fs are) ≡ fs
  down-up_rows [] are = refl
  down-up_rows (f ∷ fs) are = ap₂ ◌∷◌ (down-up f are.0) (down-up_rows fs are.1)

  -- the lists of terms of canonical polynomials are canonical
  pub terms_canonical : (fs : List (CanonicalPolynomial p n)) → ArePolynomials p n (terms_all p n many fs)
  terms_canonical [] = tt
  terms_canonical (f ∷ fs) = (f.1, terms_canonical fs)

  -- a row of them
  pub down_canonical : (f : Row (CanonicalPolynomial p n)) → IsPolynomialRow p n (down p n many f)
  down_canonical f = (f.first.1, terms_canonical f.cofactors)

  -- a list of rows of them
  pub down_all_canonical : (fs : List (Row (CanonicalPolynomial p n))) → ArePolynomialRows p n (down_all p n many fs)
  down_all_canonical [] = tt
  down_all_canonical (f ∷ fs) = (down_canonical f, down_all_canonical fs)

  -- remainder rows of canonical polynomials are canonical
  pub down_rows_canonical : (rows : LaterRows (CanonicalPolynomial p n)) → AreRemainderRows p n (down_rows p n many rows)
  down_rows_canonical rows = (down_all_canonical rows.later, last rows.last)
    where
      last : (z : Option (Row (CanonicalPolynomial p n))) → IfRow (IsPolynomialRow p n) (option_map (down p n many) z)
      last None = tt
      last (Some f) = down_canonical f

  -- and what is there of an option
  pub if_canonical : (x : Option (CanonicalPolynomial p n)) (f : Polynomial) → option_map (terms p n many) x ≡ Some f → IsPolynomial p n f
  if_canonical None f e = cc
  if_canonical (Some g) f e = subst (IsPolynomial p n) (same_Some g.0 f e) g.1

  -- a row
  pub if_row_canonical : (x : Option (Row (CanonicalPolynomial p n))) (f : Row Polynomial) → option_map (down p n many) x ≡ Some f → IsPolynomialRow p n f
  if_row_canonical None f e = cc
  if_row_canonical (Some g) f e = subst (IsPolynomialRow p n) (same_Some (down p n many g) f e) (down_canonical g)

  -- remainder rows
  pub if_rows_canonical : (x : Option (LaterRows (CanonicalPolynomial p n))) (rows : LaterRows Polynomial) → option_map (down_rows p n many) x ≡ Some rows → AreRemainderRows p n rows
  if_rows_canonical None rows e = cc
  if_rows_canonical (Some g) rows e = subst (AreRemainderRows p n) (same_Some (down_rows p n many g) rows e) (down_rows_canonical g)
