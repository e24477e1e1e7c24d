-- Polynomials of total degree at most 1.
use Rattle.std.proofs.Common.{◌≡◌, ◌≢◌, inl, inr, ℕ, zero, suc, ◌+◌, ◌-◌, ◌*◌, ◌<◌, ◌≤◌, true, false, [], ◌∷◌, length, sum, set, refl, sym, ap, ap₂, ◌∙◌, subst, arith}
use Rattle.std.proofs.lemmas.Bool.{cases_eq, ltb-false}
use Rattle.polynomials.specs.Primes.{IsPrime}
use Rattle.polynomials.specs.Monomials.{Monomial, exponent_of}
use Rattle.polynomials.specs.Polynomials.{Polynomial, IsPolynomial, sum_of, product_of, negative_of, scaled, constant_of, variable_power}
use Rattle.polynomials.specs.Views.{degree_in, lead_in, is_constant, IsFreeOf}
use Rattle.polynomials.specs.Fits.{fits}
use Rattle.polynomials.proofs.Coefficients.{EachMonomial-coefficient_in, IsPolynomial-coefficient_in}
use Rattle.polynomials.proofs.ConstantLemmas.{constant_of-product_of, constant_of_free}
use Rattle.polynomials.proofs.Degrees.{degree_in-from_bound, lead_in_nonzero}
use Rattle.polynomials.proofs.Exponents.{exponent_of-set_same, exponent_of-set_other}
use Rattle.polynomials.proofs.ExponentsBelow.{variable_power-zero}
use Rattle.polynomials.proofs.FitsLemmas.{fits_in_each_variable}
use Rattle.polynomials.proofs.MainVariables.{constant_from_free, is_constant_iff}
use Rattle.polynomials.proofs.Monomialwise.{EachMonomial, EachMonomial-sum_of, EachMonomial-negative_of, EachMonomial-implied}
use Rattle.polynomials.proofs.MonicLemmas.{IsPolynomial-scaled}
use Rattle.polynomials.proofs.PolynomialRing.{polynomials_make_a_ring}
use Rattle.division_rules.specs.Lists.{list_operations}
use Rattle.division_rules.specs.Operations.{shifted_lead}
use Rattle.division_rules.specs.Rows.{plain, is_reduced_by}
use Rattle.step_bounds.specs.Terms.{total_degree, HasVariablesBelow}
use Rattle.step_bounds.proofs.FewTerms.{sum_parts, terms_are_few}
use Rattle.step_bounds.proofs.Fitting.{eliminated, EliminationsFit}

-- a constant passes the test for constants
pub constant_passes : (n c : ℕ) → is_constant (constant_of n c) ≡ true
constant_passes n c = (is_constant_iff (constant_of n c)).1 (λ v. constant_of_free v n c)

-- exponents of total degree at most 1, of variables below k
abbrev pub IsLinearMonomial : ℕ → Monomial → Type 0
IsLinearMonomial k m = (sum m ≤ 1) × ((v : ℕ) → k ≤ v → exponent_of v m ≡ 0)

-- a canonical polynomial of such monomials
pub record IsLinear (p n k : ℕ) (f : Polynomial) : Type 0 where
  pub canonical : IsPolynomial p n f
  pub monomials : EachMonomial (IsLinearMonomial k) f

-- multiples have the same monomials
pub scaled_monomials : (Q : Monomial → Type 0) (p c : ℕ) (f : Polynomial) → EachMonomial Q f → EachMonomial Q (scaled p c f)
scaled_monomials Q p c [] each = tt
scaled_monomials Q p c (t ∷ f) each = (each.0, scaled_monomials Q p c f each.1)

-- an exponent is at most the total degree, and so is the sum of two
one_exponent : (v : ℕ) (m : Monomial) → exponent_of v m ≤ sum m
one_exponent v [] = omega arith
one_exponent zero (e ∷ m) = let parts = sum_parts e m in omega (arith, parts)
one_exponent (suc v) (e ∷ m) = let parts = sum_parts e m in let rest = one_exponent v m in omega (arith, parts, rest)

two_exponents : (x v : ℕ) (m : Monomial) → x ≢ v → exponent_of x m + exponent_of v m ≤ sum m
two_exponents x v [] other = omega arith
two_exponents zero zero (e ∷ m) other = absurd (other refl)
two_exponents zero (suc v) (e ∷ m) other = let parts = sum_parts e m in let rest = one_exponent v m in omega (arith, parts, rest)
two_exponents (suc x) zero (e ∷ m) other = let parts = sum_parts e m in let rest = one_exponent x m in omega (arith, parts, rest)
two_exponents (suc x) (suc v) (e ∷ m) other = let parts = sum_parts e m in let rest = two_exponents x v m (λ same. other (ap suc same)) in omega (arith, parts, rest)

-- the total degree, from the monomials
total_low : (k : ℕ) (f : Polynomial) → EachMonomial (IsLinearMonomial k) f → total_degree f ≤ 1
total_low k [] each = omega arith
total_low k (t ∷ f) each = let rest = total_low k f each.1 in let first = each.0.0 in omega (arith, rest, first)

module _ (p n k w : ℕ) (prime : IsPrime p) where
  -- the variables
  pub linear_below : (f : Polynomial) → IsLinear p n k f → HasVariablesBelow k f
  linear_below f is v past = let none = degree_in-from_bound v 0 f (EachMonomial-implied (IsLinearMonomial k) (λ m. exponent_of v m ≤ 0) (λ m of_m. let e = of_m.1 v past in omega (arith, e)) f is.monomials) in omega (arith, none)

  -- the degree in each variable
  pub linear_degree : (v : ℕ) (f : Polynomial) → IsLinear p n k f → degree_in v f ≤ 1
  linear_degree v f is = degree_in-from_bound v 1 f (EachMonomial-implied (IsLinearMonomial k) (λ m. exponent_of v m ≤ 1) (λ m of_m. let e = one_exponent v m in let low = of_m.0 in omega (arith, e, low)) f is.monomials)

  -- the number of terms
  pub linear_count : (f : Polynomial) → IsLinear p n k f → length f ≤ suc k
  linear_count f is = (terms_are_few p n f is.canonical).linear k (linear_below f is) (total_low k f is.monomials)

  -- a lead is a constant where the variable occurs
  pub linear_lead : (v : ℕ) (f : Polynomial) → IsLinear p n k f → 1 ≤ degree_in v f → (c : ℕ) × (0 < c) × (c < p) × (lead_in v f ≡ constant_of n c)
  linear_lead v f is occurs = go constant
    where
      none_left : (m : Monomial) → exponent_of v m ≡ degree_in v f → IsLinearMonomial k m → (x : ℕ) → exponent_of x (set m v 0) ≤ 0
      none_left m e of_m x = elim (cases_eq x v) [
        | inl same ↦ let none = exponent_of-set_same v m in subst (λ y. exponent_of y (set m v 0) ≤ 0) (sym same) (omega (arith, none))
        | inr other ↦ let kept = exponent_of-set_other v x m other in let both = two_exponents x v m other in let low = of_m.0 in omega (arith, kept, both, low, e, occurs)
      ]

      free : (x : ℕ) → IsFreeOf x (lead_in v f)
      free x = let none = degree_in-from_bound x 0 (lead_in v f) (EachMonomial-coefficient_in v (degree_in v f) (IsLinearMonomial k) (λ m. exponent_of x m ≤ 0) (λ m e of_m. none_left m e of_m x) f is.monomials) in omega (arith, none)

      constant : (c : ℕ) × (c < p) × (lead_in v f ≡ constant_of n c)
      constant = constant_from_free p n (lead_in v f) (let many = prime.many in omega (arith, many)) (IsPolynomial-coefficient_in v (degree_in v f) p n f is.canonical) free

      go : (c : ℕ) × (c < p) × (lead_in v f ≡ constant_of n c) → (c : ℕ) × (0 < c) × (c < p) × (lead_in v f ≡ constant_of n c)
      go (zero, small, same) = absurd (lead_in_nonzero v f (λ null. let e = ap (degree_in v) null in omega (arith, e, occurs)) same)
      go (suc c, small, same) = (suc c, omega arith, small, same)

  -- a constant times a linear polynomial fits
  pub constant_fits : k < w → (c : ℕ) (f : Polynomial) → IsLinear p n k f → fits w (constant_of n c) f ≡ true
  constant_fits wide c f is = (fits_in_each_variable w (constant_of n c) f).1 (inr (inr (few c, λ v. let none = constant_of_free v n c in let low = linear_degree v f is in omega (arith, none, low))))
    where
      few : (c : ℕ) → length (constant_of n c) * length f ≤ w
      few zero = omega arith
      few (suc c) = let count = linear_count f is in omega (arith, count, wide)

  -- multiples, sums and differences
  pub linear_scaled : (c : ℕ) (f : Polynomial) → 0 < c → c < p → IsLinear p n k f → IsLinear p n k (scaled p c f)
  linear_scaled c f positive small is = record { canonical = IsPolynomial-scaled p prime n c positive small f is.canonical; monomials = scaled_monomials (IsLinearMonomial k) p c f is.monomials }

  pub linear_difference : (f g : Polynomial) → IsLinear p n k f → IsLinear p n k g → IsLinear p n k (sum_of p f (negative_of p g))
  linear_difference f g of_f of_g = record {
    canonical = (polynomials_make_a_ring p n prime.many).sum_of_them f (negative_of p g) of_f.canonical ((polynomials_make_a_ring p n prime.many).negative_of_them g of_g.canonical);
    monomials = EachMonomial-sum_of (IsLinearMonomial k) p f (negative_of p g) of_f.monomials (EachMonomial-negative_of (IsLinearMonomial k) p g of_g.monomials);
  }

  -- where v occurs in both, an elimination takes multiples by constants
  pub record IsLinearStep (v : ℕ) (f g : Polynomial) : Type 0 where
    pub a : ℕ
    pub a_positive : 0 < a
    pub a_small : a < p
    pub b : ℕ
    pub b_positive : 0 < b
    pub b_small : b < p
    pub lead : lead_in v g ≡ constant_of n a
    pub shifted : shifted_lead (list_operations p n) v f g ≡ constant_of n b
    pub same : eliminated p n w v f g ≡ sum_of p (scaled p a f) (negative_of p (scaled p b g))

  pub linear_step : (v : ℕ) (f g : Polynomial) → IsLinear p n k f → IsLinear p n k g → 1 ≤ degree_in v f → 1 ≤ degree_in v g → IsLinearStep v f g
  linear_step v f g of_f of_g occurs_f occurs_g = record {
    a = lead_g.0;
    a_positive = lead_g.1;
    a_small = lead_g.2;
    b = lead_f.0;
    b_positive = lead_f.1;
    b_small = lead_f.2;
    lead = lead_g.3;
    shifted = shifted;
    same = ap₂ (λ x y. sum_of p x (negative_of p y)) (ap (λ l. product_of p l f) lead_g.3 ∙ constant_of-product_of p n lead_g.0 f prime lead_g.1 lead_g.2 of_f.canonical) (ap (λ l. product_of p l g) shifted ∙ constant_of-product_of p n lead_f.0 g prime lead_f.1 lead_f.2 of_g.canonical);
  }
    where
      lead_g : (c : ℕ) × (0 < c) × (c < p) × (lead_in v g ≡ constant_of n c)
      lead_g = linear_lead v g of_g occurs_g

      lead_f : (c : ℕ) × (0 < c) × (c < p) × (lead_in v f ≡ constant_of n c)
      lead_f = linear_lead v f of_f occurs_f

      none : degree_in v f - degree_in v g ≡ 0
      none = let low_f = linear_degree v f of_f in omega (arith, low_f, occurs_g)

      shifted : shifted_lead (list_operations p n) v f g ≡ constant_of n lead_f.0
      shifted = ap (λ x. product_of p x (lead_in v f)) (ap (λ d. variable_power n v d) none ∙ variable_power-zero n v) ∙ (polynomials_make_a_ring p n prime.many).one-mul (lead_in v f) (IsPolynomial-coefficient_in v (degree_in v f) p n f of_f.canonical) ∙ lead_f.3

  -- not reduced: v occurs
  pub not_reduced : (v : ℕ) (f g : Polynomial) → 1 ≤ degree_in v g → is_reduced_by (list_operations p n) v (plain g) (plain f) ≡ false → 1 ≤ degree_in v f
  not_reduced v [] g occurs e = cc
  not_reduced v (t ∷ f) g occurs e = let from = ltb-false (degree_in v (t ∷ f)) (degree_in v g) e in omega (arith, from, occurs)

  -- so linear polynomials stay linear, and all products fit
  pub linear_fits : k < w → (v : ℕ) (g : Polynomial) → IsLinear p n k g → 1 ≤ degree_in v g → EliminationsFit p n w (IsLinear p n k) v g
  linear_fits wide v g of_g occurs f of_f unreduced =
      let step = linear_step v f g of_f of_g (not_reduced v f g occurs unreduced) occurs in
      (ap (λ l. fits w l f) step.lead ∙ constant_fits wide step.a f of_f, ap (λ l. fits w l g) step.shifted ∙ constant_fits wide step.b g of_g, subst (IsLinear p n k) (sym step.same) (linear_difference (scaled p step.a f) (scaled p step.b g) (linear_scaled step.a f step.a_positive step.a_small of_f) (linear_scaled step.b g step.b_positive step.b_small of_g)))
