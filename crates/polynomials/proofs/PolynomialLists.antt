-- Lists of canonical polynomials.
use Rattle.std.proofs.Common.{◌≡◌, ℕ, zero, suc, List, [], ◌∷◌, ◌++◌, Some, subst}
use Rattle.std.specs.List.{slice_get}
use Rattle.std.proofs.lemmas.Option.{same_Some}
use Rattle.polynomials.specs.Polynomials.{Polynomial, IsPolynomial, ArePolynomials}

-- each of them is canonical
pub IsPolynomial-at : (p n : ℕ) (fs : List Polynomial) (i : ℕ) (f : Polynomial) → ArePolynomials p n fs → slice_get fs i ≡ Some f → IsPolynomial p n f
IsPolynomial-at p n [] i f are e = cc
IsPolynomial-at p n (g ∷ fs) zero f are e = subst (IsPolynomial p n) (same_Some g f e) are.0
IsPolynomial-at p n (g ∷ fs) (suc i) f are e = IsPolynomial-at p n fs i f are.1 e

-- two lists of them, one after the other
pub ArePolynomials-append : (p n : ℕ) (fs gs : List Polynomial) → ArePolynomials p n fs → ArePolynomials p n gs → ArePolynomials p n (fs ++ gs)
ArePolynomials-append p n [] gs are further = further
ArePolynomials-append p n (f ∷ fs) gs are further = (are.0, ArePolynomials-append p n fs gs are.1 further)

-- one more at the end
pub ArePolynomials-push : (p n : ℕ) (fs : List Polynomial) (f : Polynomial) → ArePolynomials p n fs → IsPolynomial p n f → ArePolynomials p n (fs ++ f ∷ [])
ArePolynomials-push p n fs f are i = ArePolynomials-append p n fs (f ∷ []) are (i, tt)
