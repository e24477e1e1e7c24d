-- A polynomial is the sum of its coefficients times the powers of the variable.
use Rattle.std.proofs.Common.{◌≡◌, ◌≢◌, ℕ, zero, suc, ◌+◌, ◌<◌, ◌≤◌, cond, eqb, List, [], ◌∷◌, map, set, refl, sym, ap, ap₂, ◌∙◌, inl, inr, arith}
use Rattle.std.proofs.lemmas.Bool.{cond-true, cond-false, eqb-true, ne_eqb, cases_Bool}
use Rattle.std.specs.List.{range_with_len}
use Rattle.polynomials.specs.Monomials.{exponent_of}
use Rattle.polynomials.specs.Polynomials.{Term, term, Polynomial, IsPolynomial, sum_of, product_of, variable_power}
use Rattle.polynomials.specs.Views.{degree_in, coefficient_in, without_power}
use Rattle.polynomials.proofs.Monomialwise.{EachMonomial, EachMonomial-implied}
use Rattle.polynomials.proofs.Coefficients.{EachMonomial-without_power, IsPolynomial-without_power}
use Rattle.polynomials.proofs.Degrees.{DegreeAtMost-itself}
use Rattle.polynomials.proofs.LeadAndTail.{by_power}
use Rattle.recursive_poly.specs.Recursive.{sum_by_powers}
use Rattle.recursive_poly.specs.Laws.{CoefficientsDetermine}

-- the coefficients of the other powers stay where a power is left out
pub coefficient_in-without_power : (v j k : ℕ) (f : List Term) → j ≢ k → coefficient_in v j (without_power v k f) ≡ coefficient_in v j f
coefficient_in-without_power v j k [] other = refl
coefficient_in-without_power v j k (t ∷ f) other = elim (cases_Bool (eqb (exponent_of v t.0) k)) [
  | inl e ↦
      ap (coefficient_in v j) (cond-true (eqb (exponent_of v t.0) k) (without_power v k f) (t ∷ without_power v k f) e)
      ∙ (coefficient_in-without_power v j k f other
      ∙ sym (cond-false (eqb (exponent_of v t.0) j) (term (set t.0 v 0) t.1 ∷ coefficient_in v j f) (coefficient_in v j f) (ne_eqb (exponent_of v t.0) j (λ same. other (sym same ∙ eqb-true (exponent_of v t.0) k e)))))
  | inr e ↦
      ap (coefficient_in v j) (cond-false (eqb (exponent_of v t.0) k) (without_power v k f) (t ∷ without_power v k f) e)
      ∙ ap (λ l. cond (eqb (exponent_of v t.0) j) (term (set t.0 v 0) t.1 ∷ l) l) (coefficient_in-without_power v j k f other)
]

-- so do those of the powers from a greater one on
later_coefficients : (v k : ℕ) (f : List Term) (m a : ℕ) → k < a → map (λ j. coefficient_in v j f) (range_with_len a m) ≡ map (λ j. coefficient_in v j (without_power v k f)) (range_with_len a m)
later_coefficients v k f zero a above = refl
later_coefficients v k f (suc m) a above = ap₂ ◌∷◌ (sym (coefficient_in-without_power v a k f (λ same. omega arith))) (later_coefficients v k f m (a + 1) (omega arith))

-- where no exponent is possible there is no term
no_terms : (v k : ℕ) (f : Polynomial) → EachMonomial (λ l. (k ≤ exponent_of v l) × (exponent_of v l < k + 0)) f → f ≡ []
no_terms v k [] each = refl
no_terms v k (t ∷ f) each = let least = each.0.0 in let most = each.0.1 in absurd (omega arith)

-- a polynomial whose exponents of v are the m from k on is the sum by those powers
sum_by_powers-part : (p n v : ℕ) → 1 < p → v < n → (m k a : ℕ) → a ≡ k → (f : Polynomial) → IsPolynomial p n f → EachMonomial (λ l. (k ≤ exponent_of v l) × (exponent_of v l < k + m)) f → sum_by_powers p n v k (map (λ j. coefficient_in v j f) (range_with_len a m)) ≡ f
sum_by_powers-part p n v many below zero k a same f i each = sym (no_terms v k f each)
sum_by_powers-part p n v many below (suc m) k a same f i each =
    ap₂ (λ j rest. sum_of p (product_of p (coefficient_in v j f) (variable_power n v k)) rest) same
    (ap (sum_by_powers p n v (suc k)) (later_coefficients v k f m (a + 1) (omega arith))
    ∙ sum_by_powers-part p n v many below m (suc k) (a + 1) (omega arith) (without_power v k f) (IsPolynomial-without_power v k p n f i)
    (EachMonomial-without_power v k (λ l. (k ≤ exponent_of v l) × (exponent_of v l < k + suc m)) (λ l. (suc k ≤ exponent_of v l) × (exponent_of v l < suc k + m)) (λ l other h. let least = h.0 in let most = h.1 in (omega arith, omega arith)) f each))
    ∙ by_power p n v (omega arith) below many k f i

-- the law
pub coefficients_determine : CoefficientsDetermine
coefficients_determine p n v [] many below i = refl
coefficients_determine p n v (t ∷ f) many below i =
    sum_by_powers-part p n v many below (suc (degree_in v (t ∷ f))) 0 0 refl (t ∷ f) i
    (EachMonomial-implied (λ l. exponent_of v l ≤ degree_in v (t ∷ f)) (λ l. (0 ≤ exponent_of v l) × (exponent_of v l < 0 + suc (degree_in v (t ∷ f)))) (λ l h. (omega arith, omega arith)) (t ∷ f) (DegreeAtMost-itself v (t ∷ f)))
