-- The list of coefficients of a polynomial.
use Rattle.std.proofs.Common.{◌≡◌, ◌≢◌, ℕ, zero, suc, ◌+◌, ◌-◌, ◌<◌, [], ◌∷◌, length, map, Some, sym, ap, ◌∙◌, subst, arith}
use Rattle.std.specs.Prelude.{slice_get, IfSome}
use Rattle.std.specs.List.{range_with_len}
use Rattle.std.proofs.lemmas.List.FromFn.{length-map-range_with_len}
use Rattle.polynomials.specs.Polynomials.{Polynomial, IsPolynomial, ArePolynomials}
use Rattle.polynomials.specs.Views.{degree_in, coefficient_in, AreFreeOf}
use Rattle.polynomials.proofs.Coefficients.{IsPolynomial-coefficient_in}
use Rattle.polynomials.proofs.Degrees.{coefficient_in_free, lead_in_nonzero}
use Rattle.recursive_poly.specs.Recursive.{coefficient_count, coefficients_in}
use Rattle.recursive_poly.specs.Laws.{CoefficientsAreFree}

module _ (p n v : ℕ) (f : Polynomial) where
  -- the coefficients of the powers from a on are canonical
  coefficients_canonical : IsPolynomial p n f → (m a : ℕ) → ArePolynomials p n (map (λ k. coefficient_in v k f) (range_with_len a m))
  coefficients_canonical i zero a = tt
  coefficients_canonical i (suc m) a = (IsPolynomial-coefficient_in v a p n f i, coefficients_canonical i m (a + 1))

  -- and free of v
  coefficients_free : (m a : ℕ) → AreFreeOf v (map (λ k. coefficient_in v k f) (range_with_len a m))
  coefficients_free zero a = tt
  coefficients_free (suc m) a = (coefficient_in_free v a f, coefficients_free m (a + 1))

-- an item of what is made of a range
item_of_range : {X : Type 0} (g : ℕ → X) (m a i : ℕ) → i < m → slice_get (map g (range_with_len a m)) i ≡ Some (g (a + i))
item_of_range g zero a i below = absurd (omega arith)
item_of_range g (suc m) a zero below = ap (λ k. Some (g k)) (omega arith)
item_of_range g (suc m) a (suc i) below = item_of_range g m (a + 1) i (omega arith) ∙ ap (λ k. Some (g k)) (omega arith)

-- the last coefficient is the lead, which isn't 0
last_nonzero : (v : ℕ) (f : Polynomial) → IfSome (slice_get (coefficients_in v f) (length (coefficients_in v f) - 1)) (λ c. c ≢ [])
last_nonzero v [] = tt
last_nonzero v (t ∷ f) =
    let d = degree_in v (t ∷ f) in
    let g = λ (k : ℕ). coefficient_in v k (t ∷ f) in
    let count : length (map g (range_with_len 0 (suc d))) ≡ suc d = length-map-range_with_len g 0 (suc d) in
    let last : slice_get (map g (range_with_len 0 (suc d))) (length (map g (range_with_len 0 (suc d))) - 1) ≡ Some (g d) = ap (slice_get (map g (range_with_len 0 (suc d)))) (omega arith) ∙ (item_of_range g (suc d) 0 d (omega arith) ∙ ap (λ k. Some (g k)) (omega arith)) in
    subst (λ o. IfSome o (λ c. c ≢ [])) (sym last) (lead_in_nonzero v (t ∷ f) (λ e. cc))

-- the law of the coefficients of a polynomial
pub coefficients_are_free : CoefficientsAreFree
coefficients_are_free p n v f i = record {
  canonical = coefficients_canonical p n v f i (coefficient_count v f) 0;
  free = coefficients_free p n v f (coefficient_count v f) 0;
  ends = last_nonzero v f;
}
