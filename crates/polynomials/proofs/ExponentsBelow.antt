-- Bounds on the exponents of one variable that hold of 0 too.
use Rattle.std.proofs.Common.{◌≡◌, ◌≢◌, ◌↔◌, ℕ, zero, suc, ◌+◌, ◌<◌, ◌≤◌, [], ◌∷◌, set, replicate, refl, sym, ap, ◌∙◌, subst, inl, inr, arith}
use Rattle.std.proofs.lemmas.Bool.{cases_lt}
use Rattle.std.proofs.lemmas.Bool.Decides.{nat_tests}
use Rattle.std.proofs.lemmas.List.{get_or_past}
use Rattle.polynomials.specs.Monomials.{exponent_of}
use Rattle.polynomials.specs.Polynomials.{term, Polynomial, IsPolynomial, sum_of, product_of, negative_of, one_of, variable_power}
use Rattle.polynomials.specs.Views.{degree_in, coefficient_in, without_power, IsFreeOf}
use Rattle.polynomials.proofs.Monomialwise.{EachMonomial, EachMonomial-implied, EachMonomial-sum_of, EachMonomial-negative_of, EachMonomial-product_of}
use Rattle.polynomials.proofs.Exponents.{exponent_of-product, exponent_of-power_monomial, exponent_of-power_monomial_other, exponent_of-replicate}
use Rattle.polynomials.proofs.Coefficients.{EachMonomial-coefficient_in, EachMonomial-without_power}
use Rattle.polynomials.proofs.CoefficientsOfOperations.{AddOnlyAs, coefficient_in-product_by}
use Rattle.polynomials.proofs.Degrees.{DegreeAtMost-from_degree, degree_in-from_bound, coefficient_in_above, absent_power, exponent_of-set-le, coefficient_in_itself}
use Rattle.polynomials.proofs.DegreesOfProducts.{coefficient_in-product_free}
use Rattle.polynomials.proofs.Powers.{one_is_free}
use Rattle.polynomials.proofs.VariablePowers.{set-replicate, coefficient_in-variable_power}

-- each exponent of v is less than d
abbrev pub ExponentsBelow : ℕ → ℕ → Polynomial → Type 0
ExponentsBelow v d f = EachMonomial (λ m. exponent_of v m < d) f

module _ (v : ℕ) where
  -- a greater bound
  pub ExponentsBelow-more : (d e : ℕ) (f : Polynomial) → d ≤ e → ExponentsBelow v d f → ExponentsBelow v e f
  ExponentsBelow-more d e f up h = EachMonomial-implied (λ m. exponent_of v m < d) (λ m. exponent_of v m < e) (λ m i. omega arith) f h

  -- nothing is less than 0
  pub ExponentsBelow-none : (f : Polynomial) → ExponentsBelow v 0 f → f ≡ []
  ExponentsBelow-none [] h = refl
  ExponentsBelow-none (t ∷ f) h =
      let first = h.0 in
      absurd (omega arith)

  -- the degree is such a bound
  pub ExponentsBelow-degree : (f : Polynomial) → ExponentsBelow v (suc (degree_in v f)) f
  ExponentsBelow-degree f = EachMonomial-implied (λ m. exponent_of v m ≤ degree_in v f) (λ m. exponent_of v m < suc (degree_in v f)) (λ m i. omega arith) f (DegreeAtMost-from_degree v (degree_in v f) f (omega arith))

  -- a bound on the degree gives one on the exponents
  pub ExponentsBelow-from_degree : (d : ℕ) (f : Polynomial) → degree_in v f ≤ d → ExponentsBelow v (suc d) f
  ExponentsBelow-from_degree d f h = ExponentsBelow-more (suc (degree_in v f)) (suc d) f (omega arith) (ExponentsBelow-degree f)

  -- and the other way round
  pub degree_in-from_ExponentsBelow : (d : ℕ) (f : Polynomial) → ExponentsBelow v (suc d) f → degree_in v f ≤ d
  degree_in-from_ExponentsBelow d f h = degree_in-from_bound v d f (EachMonomial-implied (λ m. exponent_of v m < suc d) (λ m. exponent_of v m ≤ d) (λ m i. omega arith) f h)

  -- from a bound that isn't 0, the degree is less
  pub degree_in-less : (d : ℕ) (f : Polynomial) → 0 < d → ExponentsBelow v d f → degree_in v f < d
  degree_in-less zero f some h = absurd (omega arith)
  degree_in-less (suc d) f some h =
      let bound = degree_in-from_ExponentsBelow d f h in
      omega arith

  -- without v, each is less than 1
  pub ExponentsBelow-one : (f : Polynomial) → ExponentsBelow v 1 f ↔ IsFreeOf v f
  ExponentsBelow-one f = (
    λ h. let bound = degree_in-from_ExponentsBelow 0 f h in omega arith,
    λ h. ExponentsBelow-from_degree 0 f (omega arith),
  )

  -- sums, negatives and products
  pub ExponentsBelow-sum_of : (p d : ℕ) (f g : Polynomial) → ExponentsBelow v d f → ExponentsBelow v d g → ExponentsBelow v d (sum_of p f g)
  ExponentsBelow-sum_of p d f g h i = EachMonomial-sum_of (λ m. exponent_of v m < d) p f g h i

  -- the negative has the same exponents
  pub ExponentsBelow-negative_of : (p d : ℕ) (f : Polynomial) → ExponentsBelow v d f → ExponentsBelow v d (negative_of p f)
  ExponentsBelow-negative_of p d f h = EachMonomial-negative_of (λ m. exponent_of v m < d) p f h

  -- in products the greatest possible exponents add
  pub ExponentsBelow-product_of : (p d e : ℕ) (f g : Polynomial) → ExponentsBelow v (suc d) f → ExponentsBelow v (suc e) g → ExponentsBelow v (suc (d + e)) (product_of p f g)
  ExponentsBelow-product_of p d e f g h i = EachMonomial-product_of (λ m. exponent_of v m < suc d) (λ m. exponent_of v m < suc e) (λ m. exponent_of v m < suc (d + e)) (λ l m a b. subst (λ x. x < suc (d + e)) (sym (exponent_of-product v l m)) (add_bounds (exponent_of v l) (exponent_of v m) a b)) p f g h i
    where
      add_bounds : (x y : ℕ) → x < suc d → y < suc e → x + y < suc (d + e)
      add_bounds x y a b = omega arith

  -- a coefficient in any variable, and the other powers
  pub ExponentsBelow-coefficient_in : (d w k : ℕ) (f : Polynomial) → ExponentsBelow v d f → ExponentsBelow v d (coefficient_in w k f)
  ExponentsBelow-coefficient_in d w k f h = EachMonomial-coefficient_in w k (λ m. exponent_of v m < d) (λ m. exponent_of v m < d) (λ m e i. smaller (exponent_of v (set m w 0)) (exponent_of v m) (exponent_of-set-le v w m) i) f h
    where
      smaller : (x y : ℕ) → x ≤ y → y < d → x < d
      smaller x y a b = omega arith

  -- the other powers keep each bound
  pub ExponentsBelow-without_power : (d w k : ℕ) (f : Polynomial) → ExponentsBelow v d f → ExponentsBelow v d (without_power w k f)
  ExponentsBelow-without_power d w k f h = EachMonomial-without_power w k (λ m. exponent_of v m < d) (λ m. exponent_of v m < d) (λ m e i. i) f h

  -- a bound that isn't reached is less
  pub ExponentsBelow-unreached : (d : ℕ) (f : Polynomial) → ExponentsBelow v (suc d) f → coefficient_in v d f ≡ [] → ExponentsBelow v d f
  ExponentsBelow-unreached d f h e = both f h (absent_power v d f e)
    where
      both : (f : Polynomial) → ExponentsBelow v (suc d) f → EachMonomial (λ m. exponent_of v m ≢ d) f → ExponentsBelow v d f
      both [] h i = tt
      both (t ∷ f) h i =
          let first = h.0 in
          let other = i.0 in
          (omega arith, both f h.1 i.1)

  -- from the bound on the coefficients are 0
  pub coefficient_in-from_bound : (d e : ℕ) (f : Polynomial) → d ≤ e → ExponentsBelow v d f → coefficient_in v e f ≡ []
  coefficient_in-from_bound zero e f up h = ap (coefficient_in v e) (ExponentsBelow-none f h)
  coefficient_in-from_bound (suc d) e f up h =
      let bound = degree_in-from_ExponentsBelow d f h in
      coefficient_in_above v e f (omega arith)

-- numbers below bounds add to the sum of the greatest only there
adds_below_bounds : (d e : ℕ) → AddOnlyAs d e (d + e) (λ x. x < suc d) (λ y. y < suc e)
adds_below_bounds d e x y h i = grind (arith, nat_tests)

module _ (p n v : ℕ) (positive : 0 < p) where
  -- the coefficient of a product at the sum of the greatest possible exponents
  pub coefficient_in-product_below : (d e : ℕ) (f g : Polynomial) → IsPolynomial p n f → IsPolynomial p n g → ExponentsBelow v (suc d) f → ExponentsBelow v (suc e) g → coefficient_in v (d + e) (product_of p f g) ≡ product_of p (coefficient_in v d f) (coefficient_in v e g)
  coefficient_in-product_below d e f g i j a b = coefficient_in-product_by v d e (d + e) (λ x. x < suc d) (λ y. y < suc e) (adds_below_bounds d e) p n positive f g i j a b

  -- a factor without v goes out of a coefficient
  pub coefficient_in-product_scale : (k : ℕ) (u f : Polynomial) → IsPolynomial p n u → IsPolynomial p n f → ExponentsBelow v 1 u → coefficient_in v k (product_of p u f) ≡ product_of p u (coefficient_in v k f)
  coefficient_in-product_scale k u f i j h = coefficient_in-product_free p n v positive k u f i j ((ExponentsBelow-one v u).0 h)

-- the power 0 of a variable is 1
pub variable_power-zero : (n v : ℕ) → variable_power n v 0 ≡ one_of n
variable_power-zero n v = ap (λ m. term m 1 ∷ []) (set-replicate n v)

-- past the variables, every exponent is 0
past_variables : (n v e : ℕ) → n ≤ v → set {A = ℕ} (replicate n 0) v e ≡ replicate n 0
past_variables zero v e up = refl
past_variables (suc n) zero e up = absurd (omega arith)
past_variables (suc n) (suc v) e up = ap (λ m. 0 ∷ m) (past_variables n v e (omega arith))

-- the exponent of a power of v, whether or not v is a variable
pub ExponentsBelow-variable_power : (n v k : ℕ) → ExponentsBelow v (suc k) (variable_power n v k)
ExponentsBelow-variable_power n v k = (
  elim (cases_lt v n) [
    | inl below ↦ let exponent = exponent_of-power_monomial n v k below in omega arith
    | inr past ↦ let exponent = ap (exponent_of v) (past_variables n v k past) ∙ exponent_of-replicate n v in omega arith
  ],
  tt,
)

-- those of other variables are 0
pub ExponentsBelow-variable_power_other : (n w v k : ℕ) → w ≢ v → ExponentsBelow w 1 (variable_power n v k)
ExponentsBelow-variable_power_other n w v k other =
    let exponent = exponent_of-power_monomial_other n v w k other in
    (omega arith, tt)

-- no polynomial has a variable past the last
pub degree_in-past : (p n v : ℕ) (f : Polynomial) → n ≤ v → IsPolynomial p n f → degree_in v f ≡ 0
degree_in-past p n v [] up i = refl
degree_in-past p n v (t ∷ f) up i =
    let first : exponent_of v t.0 ≡ 0 = get_or_past t.0 v 0 (omega (arith, i.0)) in
    let rest = degree_in-past p n v f up i.4 in
    omega arith

-- a power that some polynomial reaches has the coefficient 1
pub coefficient_in-variable_power_reached : (p n v k : ℕ) (f : Polynomial) → IsPolynomial p n f → k ≤ degree_in v f → coefficient_in v k (variable_power n v k) ≡ one_of n
coefficient_in-variable_power_reached p n v k f i h = elim (cases_lt v n) [
  | inl below ↦ coefficient_in-variable_power n v k below
  | inr past ↦
      let none = degree_in-past p n v f past i in
      ap (λ e. coefficient_in v e (variable_power n v e)) (zero_then k (omega arith)) ∙ ap (coefficient_in v 0) (variable_power-zero n v) ∙ coefficient_in_itself v (one_of n) (one_is_free v n)
]
  where
    zero_then : (k : ℕ) → k ≤ 0 → k ≡ 0
    zero_then k h = omega arith
