-- The polynomial of a list of coefficients has these.
use Rattle.std.proofs.Common.{◌≡◌, ◌≢◌, ℕ, zero, suc, ◌+◌, ◌-◌, ◌<◌, ◌≤◌, cond, List, [], ◌∷◌, length, get_or, set, refl, sym, ap, ap₂, ◌∙◌, subst, arith}
use Rattle.std.specs.Prelude.{slice_get, IfSome}
use Rattle.std.proofs.lemmas.Bool.{ne_eqb}
use Rattle.std.proofs.lemmas.List.{ext_get_or}
use Rattle.std.proofs.lemmas.List.FromFn.{length-map-range_with_len, get_or-map-range_with_len}
use Rattle.polynomials.specs.Monomials.{exponent_of}
use Rattle.polynomials.specs.Polynomials.{term, Polynomial, IsPolynomial, ArePolynomials, sum_of, product_of, variable_power, one_of}
use Rattle.polynomials.specs.Views.{degree_in, coefficient_in, IsFreeOf, AreFreeOf}
use Rattle.polynomials.proofs.Exponents.{power_monomial, exponent_of-power_monomial}
use Rattle.polynomials.proofs.Canonical.{IsPolynomial-sum_of, IsPolynomial-product_of, IsPolynomial-one_of}
use Rattle.polynomials.proofs.CoefficientsOfOperations.{coefficient_in-sum_of}
use Rattle.polynomials.proofs.Degrees.{degree_in-sum_of, degree_in-product_of, degree_in_reached}
use Rattle.polynomials.proofs.DegreesOfProducts.{coefficient_in-product_free}
use Rattle.polynomials.proofs.Integral.{product_of-zero}
use Rattle.polynomials.proofs.LeadAndTail.{IsPolynomial-variable_power}
use Rattle.polynomials.proofs.PolynomialLaws.{sum_of-zero, zero-sum_of, product_of_comm, one_of-product_of}
use Rattle.polynomials.proofs.VariablePowers.{coefficient_in-variable_power}
use Rattle.recursive_poly.specs.Recursive.{coefficient_count, coefficients_in, sum_by_powers}
use Rattle.recursive_poly.specs.Laws.{AreCoefficients, EachListHasAPolynomial}

module _ (p n v : ℕ) (many : 1 < p) (below : v < n) where
  positive : 0 < p
  positive = omega arith

  -- the sum by powers
  abbrev S : ℕ → List Polynomial → Polynomial
  S k cs = sum_by_powers p n v k cs

  -- a summand is canonical
  summand_canonical : (k : ℕ) (c : Polynomial) → IsPolynomial p n c → IsPolynomial p n (product_of p c (variable_power n v k))
  summand_canonical k c i = IsPolynomial-product_of p n positive c (variable_power n v k) i (IsPolynomial-variable_power p n v k many)

  -- so is the sum
  sum_canonical : (k : ℕ) (cs : List Polynomial) → ArePolynomials p n cs → IsPolynomial p n (S k cs)
  sum_canonical k [] are = tt
  sum_canonical k (c ∷ cs) are = IsPolynomial-sum_of p n positive (product_of p c (variable_power n v k)) (S (suc k) cs) (summand_canonical k c are.0) (sum_canonical (suc k) cs are.1)

  -- a summand has its coefficient at its power
  summand_at : (k : ℕ) (c : Polynomial) → IsPolynomial p n c → IsFreeOf v c → coefficient_in v k (product_of p c (variable_power n v k)) ≡ c
  summand_at k c i free =
      coefficient_in-product_free p n v positive k c (variable_power n v k) i (IsPolynomial-variable_power p n v k many) free
      ∙ (ap (product_of p c) (coefficient_in-variable_power n v k below)
      ∙ (product_of_comm p positive n c (one_of n) i (IsPolynomial-one_of p n many) ∙ one_of-product_of p positive n many c i))

  -- and 0 at the others
  summand_off : (j k : ℕ) → j ≢ k → (c : Polynomial) → IsPolynomial p n c → IsFreeOf v c → coefficient_in v j (product_of p c (variable_power n v k)) ≡ []
  summand_off j k other c i free =
      coefficient_in-product_free p n v positive j c (variable_power n v k) i (IsPolynomial-variable_power p n v k many) free
      ∙ (ap (product_of p c) (ap (λ b. cond b (term (set (power_monomial n v k) v 0) 1 ∷ []) []) (ne_eqb (exponent_of v (power_monomial n v k)) j (λ same. other (sym same ∙ exponent_of-power_monomial n v k below))))
      ∙ product_of-zero p c)

  -- the coefficient of the first summand and of the others
  parts : (j k : ℕ) (c : Polynomial) (cs : List Polynomial) → IsPolynomial p n c → ArePolynomials p n cs → coefficient_in v j (S k (c ∷ cs)) ≡ sum_of p (coefficient_in v j (product_of p c (variable_power n v k))) (coefficient_in v j (S (suc k) cs))
  parts j k c cs i are = coefficient_in-sum_of v j p n positive (product_of p c (variable_power n v k)) (S (suc k) cs) (summand_canonical k c i) (sum_canonical (suc k) cs are)

  -- there are no lesser powers
  coefficient_before : (j k : ℕ) (cs : List Polynomial) → j < k → ArePolynomials p n cs → AreFreeOf v cs → coefficient_in v j (S k cs) ≡ []
  coefficient_before j k [] less are free = refl
  coefficient_before j k (c ∷ cs) less are free =
      parts j k c cs are.0 are.1
      ∙ ap₂ (sum_of p) (summand_off j k (λ same. omega arith) c are.0 free.0) (coefficient_before j (suc k) cs (omega arith) are.1 free.1)

  -- the members are the coefficients
  coefficient_at : (i j k : ℕ) (cs : List Polynomial) → j ≡ k + i → i < length cs → ArePolynomials p n cs → AreFreeOf v cs → coefficient_in v j (S k cs) ≡ get_or cs i []
  coefficient_at i j k [] at some are free = absurd (omega arith)
  coefficient_at zero j k (c ∷ cs) at some are free =
      let here : j ≡ k = omega arith in
      parts j k c cs are.0 are.1
      ∙ (ap₂ (sum_of p) (ap (λ e. coefficient_in v e (product_of p c (variable_power n v k))) here ∙ summand_at k c are.0 free.0) (coefficient_before j (suc k) cs (omega arith) are.1 free.1)
      ∙ sum_of-zero p positive n c are.0)
  coefficient_at (suc i) j k (c ∷ cs) at some are free =
      let later = coefficient_at i j (suc k) cs (omega arith) (omega arith) are.1 free.1 in
      parts j k c cs are.0 are.1
      ∙ (ap (λ x. sum_of p x (coefficient_in v j (S (suc k) cs))) (summand_off j k (λ same. omega arith) c are.0 free.0)
      ∙ (ap (sum_of p []) later
      ∙ zero-sum_of p positive n (get_or cs i []) (member_canonical i cs are.1)))
    where
      member_canonical : (i : ℕ) (cs : List Polynomial) → ArePolynomials p n cs → IsPolynomial p n (get_or cs i [])
      member_canonical i [] are = tt
      member_canonical zero (c ∷ cs) are = are.0
      member_canonical (suc i) (c ∷ cs) are = member_canonical i cs are.1

  -- no power is greater than that of the last member
  degree_bound : (d k : ℕ) (cs : List Polynomial) → k + length cs ≤ suc d → AreFreeOf v cs → degree_in v (S k cs) ≤ d
  degree_bound d k [] fits free = omega arith
  degree_bound d k (c ∷ cs) fits free =
      let exponent = exponent_of-power_monomial n v k below in
      let first = degree_in-product_of v p 0 k c (variable_power n v k) (let none = free.0 in omega arith) (omega arith) in
      degree_in-sum_of v p d (product_of p c (variable_power n v k)) (S (suc k) cs) (omega arith) (degree_bound d (suc k) cs (omega arith) free.1)

  module _ (cs : List Polynomial) (are : AreCoefficients p n v cs) where
    -- the last member is the lead
    last_member : (c : Polynomial) (ds : List Polynomial) → cs ≡ c ∷ ds → coefficient_in v (length ds) (S 0 cs) ≢ []
    last_member c ds is none = last_is cs (length ds) (let count = ap length is in omega arith) (sym (coefficient_at (length ds) (length ds) 0 cs (omega arith) (let count = ap length is in omega arith) are.canonical are.free) ∙ none) are.ends
      where
        last_is : (bs : List Polynomial) (i : ℕ) → length bs ≡ suc i → get_or bs i [] ≡ [] → IfSome (slice_get bs (length bs - 1)) (λ b. b ≢ []) → ⊥
        last_is bs i count gone ends = go bs i (omega arith) gone (subst (λ k. IfSome (slice_get bs k) (λ b. b ≢ [])) (omega arith) ends)
          where
            go : (bs : List Polynomial) (i : ℕ) → i < length bs → get_or bs i [] ≡ [] → IfSome (slice_get bs i) (λ b. b ≢ []) → ⊥
            go [] i some gone ends = omega arith
            go (b ∷ bs) zero some gone ends = ends gone
            go (b ∷ bs) (suc i) some gone ends = go bs i (omega arith) gone ends

    -- there are as many coefficients
    count_is : coefficient_count v (S 0 cs) ≡ length cs
    count_is = go cs refl
      where
        nonempty : (f : Polynomial) → f ≢ [] → coefficient_count v f ≡ suc (degree_in v f)
        nonempty [] some = absurd (some refl)
        nonempty (t ∷ f) some = refl

        go : (bs : List Polynomial) → cs ≡ bs → coefficient_count v (S 0 cs) ≡ length cs
        go [] is = ap (λ b. coefficient_count v (S 0 b)) is ∙ sym (ap length is)
        go (c ∷ ds) is =
            let count = ap length is in
            let lead = last_member c ds is in
            nonempty (S 0 cs) (λ gone. lead (ap (coefficient_in v (length ds)) gone))
            ∙ (ap suc (degree_in_reached v (length ds) (S 0 cs) (degree_bound (length ds) 0 cs (omega arith) are.free) lead) ∙ sym count)

    -- and they are the members
    coefficients_back : coefficients_in v (S 0 cs) ≡ cs
    coefficients_back =
        let many_made : length (coefficients_in v (S 0 cs)) ≡ length cs = length-map-range_with_len (λ k. coefficient_in v k (S 0 cs)) 0 (coefficient_count v (S 0 cs)) ∙ count_is in
        ext_get_or [] (coefficients_in v (S 0 cs)) cs many_made (λ i some.
        get_or-map-range_with_len (λ k. coefficient_in v k (S 0 cs)) 0 (coefficient_count v (S 0 cs)) i i [] (let counted = count_is in omega arith) (omega arith)
        ∙ coefficient_at i i 0 cs (omega arith) (omega arith) are.canonical are.free)

-- the law of the polynomial of a list
pub each_list_has_a_polynomial : EachListHasAPolynomial
each_list_has_a_polynomial p n r many below are = record {
  canonical = sum_canonical p n r.variable many below 0 r.coefficients are.canonical;
  coefficients = coefficients_back p n r.variable many below r.coefficients are;
}
