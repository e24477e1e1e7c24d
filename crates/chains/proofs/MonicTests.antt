-- Multiples of a polynomial by a residue, compared term by term with another polynomial.
use Rattle.std.proofs.Common.{◌≡◌, ◌≢◌, ℕ, zero, suc, ◌*◌, ◌%◌, ◌<◌, Bool, true, false, eqb, ◌&&◌, [], ◌∷◌, length, get_or, refl, sym, ap, ◌∙◌, subst, arith}
use Rattle.polynomials.specs.Monomials.{same_monomial}
use Rattle.polynomials.specs.Polynomials.{Term, Polynomial, IsPolynomial, scaled, same_polynomial}

-- a conjunction with a test that fails
and_fails : (a b : Bool) → (a && (b && false)) ≡ false
and_fails true true = refl
and_fails true false = refl
and_fails false b = refl

-- polynomials of different length differ
pub different_lengths : (p c : ℕ) (f g : Polynomial) → length f ≢ length g → false ≡ same_polynomial (scaled p c f) g
different_lengths p c [] [] h = absurd (h refl)
different_lengths p c [] (u ∷ g) h = refl
different_lengths p c (t ∷ f) [] h = refl
different_lengths p c (t ∷ f) (u ∷ g) h = sym (ap (λ x. same_monomial t.0 u.0 && (eqb (c * t.1 % p) u.1 && x)) (sym (different_lengths p c f g (λ e. h (ap suc e)))) ∙ and_fails (same_monomial t.0 u.0) (eqb (c * t.1 % p) u.1))

-- a coefficient of a canonical polynomial is a residue
pub coefficient_small : (p n : ℕ) (f : Polynomial) (i : ℕ) (t : Term) → IsPolynomial p n f → i < length f → t ≡ get_or f i t → t.1 < p
coefficient_small p n [] i t h below e = absurd (omega arith)
coefficient_small p n (u ∷ f) zero t h below e = subst (λ x. x.1 < p) (sym e) h.2
coefficient_small p n (u ∷ f) (suc i) t h below e = coefficient_small p n f i t h.4 (omega arith) e
