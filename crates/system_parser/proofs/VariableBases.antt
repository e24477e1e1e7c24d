-- A name stands for the polynomial that is this variable.
use Rattle.std.proofs.Common.{◌≡◌, ℕ, ◌<◌, [], ◌∷◌, replicate, set, sym, ap, ◌∙◌}
use Rattle.polynomials.specs.Monomials.{Monomial}
use Rattle.polynomials.specs.Polynomials.{Polynomial, term, collected, variable_power}
use Rattle.polynomials.proofs.SamePolynomials.{collected_itself}
use Rattle.polynomials.proofs.LeadAndTail.{IsPolynomial-variable_power}

-- the term of a variable alone
pub variable_from_term : (p n v : ℕ) (m : Monomial) (f : Polynomial) → 1 < p → m ≡ set (replicate n 0) v 1 → f ≡ collected p (term m 1 ∷ []) → variable_power n v 1 ≡ f
variable_from_term p n v m f many power is =
    sym (is
    ∙ ap (λ k. collected p (term k 1 ∷ [])) power
    ∙ collected_itself p n (variable_power n v 1) (IsPolynomial-variable_power p n v 1 many))
