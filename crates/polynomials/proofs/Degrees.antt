-- Degrees in one variable, and bounds on them.
use Rattle.std.proofs.Common.{◌≡◌, ◌≢◌, ℕ, ◌+◌, ◌<◌, ◌≤◌, max, cond, eqb, List, [], ◌∷◌, set, refl, sym, ap, ap₂, ◌∙◌, inl, inr, subst, arith}
use Rattle.std.proofs.lemmas.Bool.{cond-true, cond-false, eqb-false, eq-eqb, ne_eqb, cases_lt, cases_eq, cases_Bool}
use Rattle.polynomials.specs.Monomials.{Monomial, exponent_of}
use Rattle.polynomials.specs.Polynomials.{Term, term, Polynomial, sum_of, product_of, negative_of, scaled}
use Rattle.polynomials.specs.Views.{degree_in, coefficient_in, without_power, lead_in, tail_in, IsFreeOf}
use Rattle.polynomials.proofs.Monomialwise.{EachMonomial, EachMonomial-implied, EachMonomial-both, EachMonomial-sum_of, EachMonomial-product_of}
use Rattle.polynomials.proofs.Exponents.{exponent_of-product, exponent_of-set_same, exponent_of-set_other, set_zero_itself}
use Rattle.polynomials.proofs.Coefficients.{EachMonomial-coefficient_in, EachMonomial-without_power}

-- no exponent of v is greater than d
abbrev pub DegreeAtMost : ℕ → ℕ → List Term → Type 0
DegreeAtMost v d f = EachMonomial (λ m. exponent_of v m ≤ d) f

module _ (v : ℕ) where
  -- the degree is the least such bound
  pub DegreeAtMost-from_degree : (d : ℕ) (f : Polynomial) → degree_in v f ≤ d → DegreeAtMost v d f
  DegreeAtMost-from_degree d [] h = tt
  DegreeAtMost-from_degree d (t ∷ f) h = (omega arith, DegreeAtMost-from_degree d f (omega arith))

  -- a bound on the exponents bounds the degree
  pub degree_in-from_bound : (d : ℕ) (f : Polynomial) → DegreeAtMost v d f → degree_in v f ≤ d
  degree_in-from_bound d [] h = omega arith
  degree_in-from_bound d (t ∷ f) h =
      let first = h.0 in
      let rest = degree_in-from_bound d f h.1 in
      omega arith

  -- the degree itself is a bound
  pub DegreeAtMost-itself : (f : Polynomial) → DegreeAtMost v (degree_in v f) f
  DegreeAtMost-itself f = DegreeAtMost-from_degree (degree_in v f) f (omega arith)

  -- the degrees of sums, negatives and products
  pub degree_in-sum_of : (p d : ℕ) (f g : Polynomial) → degree_in v f ≤ d → degree_in v g ≤ d → degree_in v (sum_of p f g) ≤ d
  degree_in-sum_of p d f g h i = degree_in-from_bound d (sum_of p f g) (EachMonomial-sum_of (λ m. exponent_of v m ≤ d) p f g (DegreeAtMost-from_degree d f h) (DegreeAtMost-from_degree d g i))

  -- the negative has the degree of f
  pub degree_in-negative_of : (p : ℕ) (f : Polynomial) → degree_in v (negative_of p f) ≡ degree_in v f
  degree_in-negative_of p [] = refl
  degree_in-negative_of p (t ∷ f) = ap (max (exponent_of v t.0)) (degree_in-negative_of p f)

  -- a multiple has the degree of f
  pub degree_in-scaled : (p c : ℕ) (f : Polynomial) → degree_in v (scaled p c f) ≡ degree_in v f
  degree_in-scaled p c [] = refl
  degree_in-scaled p c (t ∷ f) = ap (max (exponent_of v t.0)) (degree_in-scaled p c f)

  -- bounds on the factors add to one on the product
  pub degree_in-product_of : (p d e : ℕ) (f g : Polynomial) → degree_in v f ≤ d → degree_in v g ≤ e → degree_in v (product_of p f g) ≤ d + e
  degree_in-product_of p d e f g h i = degree_in-from_bound (d + e) (product_of p f g) (EachMonomial-product_of (λ m. exponent_of v m ≤ d) (λ m. exponent_of v m ≤ e) (λ m. exponent_of v m ≤ d + e) (λ l m a b. subst (λ x. x ≤ d + e) (sym (exponent_of-product v l m)) (add_bounds (exponent_of v l) (exponent_of v m) a b)) p f g (DegreeAtMost-from_degree d f h) (DegreeAtMost-from_degree e g i))
    where
      add_bounds : (x y : ℕ) → x ≤ d → y ≤ e → x + y ≤ d + e
      add_bounds x y a b = omega arith

  -- v doesn't occur in a coefficient of v's powers
  pub coefficient_in_free : (k : ℕ) (f : Polynomial) → IsFreeOf v (coefficient_in v k f)
  coefficient_in_free k f =
      let bound = degree_in-from_bound 0 (coefficient_in v k f) (EachMonomial-coefficient_in v k (λ m. Unit {0}) (λ m. exponent_of v m ≤ 0) (λ m e h. subst (λ x. x ≤ 0) (sym (exponent_of-set_same v m)) (omega arith)) f (everywhere f)) in
      omega arith
    where
      everywhere : (f : List Term) → EachMonomial (λ m. Unit {0}) f
      everywhere [] = tt
      everywhere (t ∷ f) = (tt, everywhere f)

  -- without the variable w, an exponent of v isn't greater
  pub exponent_of-set-le : (w : ℕ) (m : Monomial) → exponent_of v (set m w 0) ≤ exponent_of v m
  exponent_of-set-le w m = elim (cases_eq v w) [
    | inl same ↦ subst (λ x. exponent_of v (set m x 0) ≤ exponent_of v m) same (subst (λ x. x ≤ exponent_of v m) (sym (exponent_of-set_same v m)) (omega arith))
    | inr other ↦ subst (λ x. x ≤ exponent_of v m) (sym (exponent_of-set_other w v m other)) (omega arith)
  ]

  -- a coefficient, and the other powers, have no greater degree
  pub degree_in-coefficient_in : (w k d : ℕ) (f : Polynomial) → degree_in v f ≤ d → degree_in v (coefficient_in w k f) ≤ d
  degree_in-coefficient_in w k d f h = degree_in-from_bound d (coefficient_in w k f) (EachMonomial-coefficient_in w k (λ m. exponent_of v m ≤ d) (λ m. exponent_of v m ≤ d) (λ m e i. smaller (exponent_of v (set m w 0)) (exponent_of v m) (exponent_of-set-le w m) i) f (DegreeAtMost-from_degree d f h))
    where
      smaller : (x y : ℕ) → x ≤ y → y ≤ d → x ≤ d
      smaller x y a b = omega arith

  -- the other powers have no greater degree
  pub degree_in-without_power : (w k d : ℕ) (f : Polynomial) → degree_in v f ≤ d → degree_in v (without_power w k f) ≤ d
  degree_in-without_power w k d f h = degree_in-from_bound d (without_power w k f) (EachMonomial-without_power w k (λ m. exponent_of v m ≤ d) (λ m. exponent_of v m ≤ d) (λ m e i. i) f (DegreeAtMost-from_degree d f h))

  -- above the degree the coefficients are 0
  no_power : (k : ℕ) (f : Polynomial) → EachMonomial (λ m. exponent_of v m ≢ k) f → coefficient_in v k f ≡ []
  no_power k [] h = refl
  no_power k (t ∷ f) h = ap (λ b. cond b (term (set t.0 v 0) t.1 ∷ coefficient_in v k f) (coefficient_in v k f)) (ne_eqb (exponent_of v t.0) k h.0) ∙ no_power k f h.1

  -- above the degree a coefficient is 0
  pub coefficient_in_above : (k : ℕ) (f : Polynomial) → degree_in v f < k → coefficient_in v k f ≡ []
  coefficient_in_above k f h = no_power k f (EachMonomial-implied (λ m. exponent_of v m ≤ degree_in v f) (λ m. exponent_of v m ≢ k) (λ m i e. omega arith) f (DegreeAtMost-itself f))

  -- where a coefficient is 0, its power doesn't occur
  pub absent_power : (k : ℕ) (f : Polynomial) → coefficient_in v k f ≡ [] → EachMonomial (λ m. exponent_of v m ≢ k) f
  absent_power k [] h = tt
  absent_power k (t ∷ f) h = elim (cases_Bool (eqb (exponent_of v t.0) k)) [
    | inl e ↦ let kept = sym (cond-true (eqb (exponent_of v t.0) k) (term (set t.0 v 0) t.1 ∷ coefficient_in v k f) (coefficient_in v k f) e) ∙ h in cc
    | inr e ↦ (eqb-false (exponent_of v t.0) k e, absent_power k f (sym (cond-false (eqb (exponent_of v t.0) k) (term (set t.0 v 0) t.1 ∷ coefficient_in v k f) (coefficient_in v k f) e) ∙ h))
  ]

  -- a bound whose power doesn't occur isn't reached
  below_bound : (d : ℕ) (f : Polynomial) → degree_in v f ≤ d → EachMonomial (λ m. exponent_of v m ≢ d) f → EachMonomial (λ m. exponent_of v m < d) f
  below_bound d f h i = EachMonomial-implied (λ m. (exponent_of v m ≤ d) × (exponent_of v m ≢ d)) (λ m. exponent_of v m < d) (λ m a. strictly (exponent_of v m) a.0 a.1) f (EachMonomial-both (λ m. exponent_of v m ≤ d) (λ m. exponent_of v m ≢ d) f (DegreeAtMost-from_degree d f h) i)
    where
      strictly : (x : ℕ) → x ≤ d → x ≢ d → x < d
      strictly x a b = omega arith

  -- strictly bounded exponents bound the degree strictly, where the bound isn't 0
  degree_in_below : (d : ℕ) (f : Polynomial) → 0 < d → EachMonomial (λ m. exponent_of v m < d) f → degree_in v f < d
  degree_in_below d [] h i = h
  degree_in_below d (t ∷ f) h i =
      let first = i.0 in
      let rest = degree_in_below d f h i.1 in
      omega arith

  -- one with another coefficient is the degree
  pub degree_in_reached : (d : ℕ) (f : Polynomial) → degree_in v f ≤ d → coefficient_in v d f ≢ [] → degree_in v f ≡ d
  degree_in_reached d f h nonzero = elim (cases_lt (degree_in v f) d) [
    | inl less ↦ absurd (nonzero (coefficient_in_above d f less))
    | inr least ↦ omega arith
  ]

  -- the lead of what isn't 0 isn't 0
  pub lead_in_nonzero : (f : Polynomial) → f ≢ [] → lead_in v f ≢ []
  lead_in_nonzero [] nonzero e = nonzero refl
  lead_in_nonzero (t ∷ f) nonzero e =
      let below = below_bound (degree_in v (t ∷ f)) (t ∷ f) (omega arith) (absent_power (degree_in v (t ∷ f)) (t ∷ f) e) in
      let first = below.0 in
      let falls = degree_in_below (degree_in v (t ∷ f)) (t ∷ f) (omega arith) below in
      omega arith

  -- the tail has the smaller degree
  pub degree_in-tail_in : (f : Polynomial) → 0 < degree_in v f → degree_in v (tail_in v f) < degree_in v f
  degree_in-tail_in f positive = degree_in_below (degree_in v f) (tail_in v f) positive (EachMonomial-without_power v (degree_in v f) (λ m. exponent_of v m ≤ degree_in v f) (λ m. exponent_of v m < degree_in v f) (λ m a b. omega arith) f (DegreeAtMost-itself f))

  -- a polynomial without v is its own coefficient at 0
  without_v : (f : Polynomial) → EachMonomial (λ m. exponent_of v m ≡ 0) f → coefficient_in v 0 f ≡ f
  without_v [] h = refl
  without_v (t ∷ f) h = ap (λ b. cond b (term (set t.0 v 0) t.1 ∷ coefficient_in v 0 f) (coefficient_in v 0 f)) (eq-eqb (exponent_of v t.0) 0 h.0) ∙ ap₂ (λ m g. term m t.1 ∷ g) (set_zero_itself v t.0 h.0) (without_v f h.1)

  -- without v, f is its own coefficient at 0
  pub coefficient_in_itself : (f : Polynomial) → IsFreeOf v f → coefficient_in v 0 f ≡ f
  coefficient_in_itself f h = without_v f (EachMonomial-implied (λ m. exponent_of v m ≤ 0) (λ m. exponent_of v m ≡ 0) (λ m i. omega arith) f (DegreeAtMost-from_degree 0 f (omega arith)))

  -- and its own lead
  pub lead_in_itself : (f : Polynomial) → IsFreeOf v f → lead_in v f ≡ f
  lead_in_itself f h = ap (λ k. coefficient_in v k f) h ∙ coefficient_in_itself f h
