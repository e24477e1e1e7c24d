-- The tests of equality of monomials and of polynomials decide it.
use Rattle.std.proofs.Common.{◌≡◌, Bool, true, eqb, ◌&&◌, [], ◌∷◌, refl, sym, ap, ap₂, ◌∙◌}
use Rattle.std.specs.Bool.{Decides}
use Rattle.std.specs.Cmp.{IsEquivalence}
use Rattle.std.proofs.lemmas.Bool.{eqb-true, eq-eqb, and_parts, and_from}
use Rattle.std.proofs.lemmas.Bool.Decides.{same_from_decides}
use Rattle.polynomials.specs.Monomials.{Monomial, same_monomial}
use Rattle.polynomials.specs.Polynomials.{term, Polynomial, same_polynomial}

-- a test that decides equality is an equivalence
equivalence_from_decides :
    {K : Type 0} (E : K → K → Bool) → ((x y : K) → Decides (E x y) (x ≡ y)) → IsEquivalence E
equivalence_from_decides E each = record {
  refl = λ x. (each x x).1 refl;
  symm =
      λ x y.
      same_from_decides (E x y) (E y x) (each x y)
      ((λ h. sym ((each y x).0 h)), (λ e. (each y x).1 (sym e)));
  congr = λ x y z h. ap (λ k. E k z) ((each x y).0 h);
}

-- monomials that pass the test are the same
same_monomial_true : (l m : Monomial) → same_monomial l m ≡ true → l ≡ m
same_monomial_true [] [] h = refl
same_monomial_true [] (e ∷ m) h = cc
same_monomial_true (d ∷ l) [] h = cc
same_monomial_true (d ∷ l) (e ∷ m) h =
    let both = and_parts (eqb d e) (same_monomial l m) h in
    ap₂ ◌∷◌ (eqb-true d e both.0) (same_monomial_true l m both.1)

-- a monomial passes the test against itself
pub same_monomial-refl : (m : Monomial) → same_monomial m m ≡ true
same_monomial-refl [] = refl
same_monomial-refl (e ∷ m) =
    and_from (eqb e e) (same_monomial m m) (eq-eqb e e refl) (same_monomial-refl m)

-- the test of monomials decides equality
pub same_monomial_decides : (l m : Monomial) → Decides (same_monomial l m) (l ≡ m)
same_monomial_decides l m =
    (same_monomial_true l m, λ e. ap (λ x. same_monomial x m) e ∙ same_monomial-refl m)

-- polynomials that pass the test are the same
same_polynomial_true : (f g : Polynomial) → same_polynomial f g ≡ true → f ≡ g
same_polynomial_true [] [] h = refl
same_polynomial_true [] (u ∷ g) h = cc
same_polynomial_true (t ∷ f) [] h = cc
same_polynomial_true (t ∷ f) (u ∷ g) h =
    let both = and_parts (same_monomial t.0 u.0) (eqb t.1 u.1 && same_polynomial f g) h in
    let rest = and_parts (eqb t.1 u.1) (same_polynomial f g) both.1 in
    ap₂ ◌∷◌ (ap₂ term (same_monomial_true t.0 u.0 both.0) (eqb-true t.1 u.1 rest.0))
    (same_polynomial_true f g rest.1)

-- a polynomial passes the test against itself
pub same_polynomial-refl : (f : Polynomial) → same_polynomial f f ≡ true
same_polynomial-refl [] = refl
same_polynomial-refl (t ∷ f) =
    and_from (same_monomial t.0 t.0) (eqb t.1 t.1 && same_polynomial f f) (same_monomial-refl t.0)
    (and_from (eqb t.1 t.1) (same_polynomial f f) (eq-eqb t.1 t.1 refl) (same_polynomial-refl f))

-- the test of polynomials decides equality
pub same_polynomial_decides : (f g : Polynomial) → Decides (same_polynomial f g) (f ≡ g)
same_polynomial_decides f g =
    (same_polynomial_true f g, λ e. ap (λ x. same_polynomial x g) e ∙ same_polynomial-refl g)

-- the tests are equivalences
pub same_monomial_equivalence : IsEquivalence same_monomial
same_monomial_equivalence = equivalence_from_decides same_monomial same_monomial_decides

pub same_polynomial_equivalence : IsEquivalence same_polynomial
same_polynomial_equivalence = equivalence_from_decides same_polynomial same_polynomial_decides
