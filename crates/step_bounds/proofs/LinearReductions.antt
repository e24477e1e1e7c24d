-- Reductions of linear polynomials by linear chains.
use Rattle.std.proofs.Common.{◌≡◌, ◌≢◌, inl, inr, ℕ, suc, ◌<◌, ◌≤◌, List, [], ◌∷◌, Some, IfSome, refl, sym, ap, ◌∙◌, subst, arith}
use Rattle.std.specs.List.{AllByRecursion}
use Rattle.polynomials.specs.Primes.{IsPrime}
use Rattle.polynomials.specs.Polynomials.{Polynomial, IsPolynomial, ArePolynomials, sum_of, product_of, negative_of, one_of}
use Rattle.polynomials.specs.Views.{degree_in, lead_in, main_var}
use Rattle.polynomials.proofs.Degrees.{lead_in_nonzero, degree_in-negative_of}
use Rattle.polynomials.proofs.DegreesOfProducts.{freeness_is_kept}
use Rattle.polynomials.proofs.FirstTerms.{no_zero_divisors}
use Rattle.polynomials.proofs.MainVariables.{degree_in_main_var, free_above_main_var}
use Rattle.polynomials.proofs.PolynomialRing.{polynomial_ring, polynomials_make_a_ring}
use Rattle.polynomials.proofs.Solver.{var, number, minus, ◌:+◌, ◌:-◌, ◌:*◌, solve}
use Rattle.zero_sets.specs.ZeroSets.{IsTriangularFrom, IsTriangular}
use Rattle.division_rules.specs.Lists.{list_operations, variable_or_zero}
use Rattle.division_rules.specs.Operations.{shifted_lead}
use Rattle.division_rules.specs.Rows.{plain, plains, reduction}
use Rattle.division_rules.specs.Within.{reduction_within}
use Rattle.division_rules.proofs.TriangularReductions.{reduction_is_reduced}
use Rattle.division_rules.proofs.Up.{plains_canonical}
use Rattle.division_rules.proofs.WithinLimits.{gives-reduction}
use Rattle.row_laws.specs.Words.{reduction_of, IsReducedBy}
use Rattle.impose_rules.proofs.ChainParts.{canonical_each, triangular_plains}
use Rattle.impose_rules.proofs.Lists.{each_implied}
use Rattle.step_bounds.proofs.Fitting.{eliminated, EliminationsFit, reduction_fits}
use Rattle.step_bounds.proofs.Linear.{IsLinear, IsLinearStep, linear_degree, linear_step, linear_fits, not_reduced}
use Rattle.step_bounds.proofs.Spans.{IsScalar, IsSpanned, LacksMains, AreApart, scalar_product, scalar_constant, scalar_one, spanned_canonical, zero_spanned, scaled_spanned, sum_spanned, members_spanned, spanned_zero}

-- each member of a triangular set has a main variable, and none of those behind it
triangular_apart : (p n v : ℕ) (prime : IsPrime p) (chain : List Polynomial) → IsTriangularFrom v chain → AreApart p n prime chain
triangular_apart p n v prime [] h = tt
triangular_apart p n v prime (t ∷ chain) (u, main, up, later) = (behind (suc u) chain (omega arith) later, (u, main, degree_in_main_var u t main), triangular_apart p n (suc u) prime chain later)
  where
    behind : (m : ℕ) (rest : List Polynomial) → u < m → IsTriangularFrom m rest → LacksMains p n prime rest t
    behind m [] less h = tt
    behind m (s ∷ rest) less (x, main_s, up_s, further) = (
      (λ y is.
          let same : x ≡ y = let d = sym main_s ∙ is in cc in
          free_above_main_var u y t main (omega (arith, less, up_s, same))),
      behind (suc x) rest (omega (arith, less, up_s)) further,
    )

module _ (p n k w : ℕ) (prime : IsPrime p) (wide : k < w) (chain : List Polynomial) (linear : AllByRecursion (IsLinear p n k) chain) (triangular : IsTriangular chain) where
  pub are_linear : ArePolynomials p n chain
  are_linear = canonical_each p n chain (each_implied (IsLinear p n k) (IsPolynomial p n) (λ t is. is.canonical) chain linear)

  -- a multiple of f by a constant is x and something that the chain spans
  pub record Reaches (f x : Polynomial) : Type 0 where
    pub a : Polynomial
    pub scalar : IsScalar p n a
    pub nonzero : a ≢ []
    pub d : Polynomial
    pub spanned : IsSpanned p n chain d
    pub same : product_of p a f ≡ sum_of p x d

  pub record IsReached (f x : Polynomial) : Type 0 where
    pub linear_x : IsLinear p n k x
    pub reaches : Reaches f x

  reaches_itself : (f : Polynomial) → IsPolynomial p n f → Reaches f f
  reaches_itself f i = record { a = one_of n; scalar = scalar_one p n prime; nonzero = λ e. cc; d = []; spanned = zero_spanned p n prime chain; same = (polynomials_make_a_ring p n prime.many).one-mul f i ∙ ap (λ u. u.0) (solve (polynomial_ring p n prime.many) ((f, i) ∷ []) (var 0) (var 0 :+ number 0) refl) }

  -- an elimination by a member
  reaches_further : (f : Polynomial) → IsPolynomial p n f → (v : ℕ) (t : Polynomial) → IsLinear p n k t → IsSpanned p n chain t → 1 ≤ degree_in v t → (x : Polynomial) → IsReached f x → 1 ≤ degree_in v x → Reaches f (eliminated p n w v x t)
  reaches_further f i v t of_t spanned_t occurs_t x at occurs_x = record {
    a = product_of p l at.reaches.a;
    scalar = scalar_product p n prime l at.reaches.a scalar_l at.reaches.scalar;
    nonzero = λ null. elim (no_zero_divisors p n l at.reaches.a prime scalar_l.canonical at.reaches.scalar.canonical null) [ inl zero_l ↦ lead_in_nonzero v t (λ none. let e = ap (degree_in v) none in omega (arith, e, occurs_t)) zero_l | inr zero_a ↦ at.reaches.nonzero zero_a ];
    d = sum_of p (product_of p m t) (product_of p l at.reaches.d);
    spanned = sum_spanned p n prime chain are_linear (product_of p m t) (product_of p l at.reaches.d) (scaled_spanned p n prime m scalar_m chain are_linear t spanned_t) (scaled_spanned p n prime l scalar_l chain are_linear at.reaches.d at.reaches.spanned);
    same = (polynomials_make_a_ring p n prime.many).mul_assoc l at.reaches.a f scalar_l.canonical at.reaches.scalar.canonical i ∙ ap (product_of p l) at.reaches.same ∙ ap (λ u. u.0) (solve (polynomial_ring p n prime.many) ((l, scalar_l.canonical) ∷ (x, at.linear_x.canonical) ∷ (at.reaches.d, spanned_canonical p n prime chain are_linear at.reaches.d at.reaches.spanned) ∷ (m, scalar_m.canonical) ∷ (t, of_t.canonical) ∷ []) (var 0 :* (var 1 :+ var 2)) ((var 0 :* var 1 :- var 3 :* var 4) :+ (var 3 :* var 4 :+ var 0 :* var 2)) refl);
  }
    where
      l : Polynomial
      l = lead_in v t

      m : Polynomial
      m = shifted_lead (list_operations p n) v x t

      step : IsLinearStep p n k w prime v x t
      step = linear_step p n k w prime v x t at.linear_x of_t occurs_x occurs_t

      scalar_l : IsScalar p n (lead_in v t)
      scalar_l = subst (IsScalar p n) (sym step.lead) (scalar_constant p n prime step.a step.a_small)

      scalar_m : IsScalar p n (shifted_lead (list_operations p n) v x t)
      scalar_m = subst (IsScalar p n) (sym step.shifted) (scalar_constant p n prime step.b step.b_small)

  -- the reduction fits, and is reached
  pub reduction_reached : (f : Polynomial) → IsLinear p n k f → (g : Polynomial) × (reduction_within (list_operations p n) w (plains chain) (plain f) ≡ Some (plain g)) × IsReached f g
  reduction_reached f of_f = reduction_fits p n w (IsReached f) chain (each chain linear (members_spanned p n prime chain are_linear) (mains 0 chain triangular)) f (record { linear_x = of_f; reaches = reaches_itself f of_f.canonical })
    where
      mains : (v : ℕ) (ts : List Polynomial) → IsTriangularFrom v ts → AllByRecursion (λ t. (u : ℕ) × (main_var t ≡ Some u)) ts
      mains v [] h = tt
      mains v (t ∷ ts) h = ((h.0, h.1), mains (suc h.0) ts h.3)

      each : (ts : List Polynomial) → AllByRecursion (IsLinear p n k) ts → AllByRecursion (λ t. IsPolynomial p n t × IsSpanned p n chain t) ts → AllByRecursion (λ t. (u : ℕ) × (main_var t ≡ Some u)) ts → AllByRecursion (λ t. EliminationsFit p n w (IsReached f) (variable_or_zero (main_var t)) t) ts
      each [] lin spanned main = tt
      each (t ∷ ts) lin spanned main = (
        (λ x at unreduced.
            let occurs = subst (λ u. 1 ≤ degree_in u t) (sym (ap variable_or_zero main.0.1)) (degree_in_main_var main.0.0 t main.0.1) in
            let fits = linear_fits p n k w prime wide (variable_or_zero (main_var t)) t lin.0 occurs x at.linear_x unreduced in
            (fits.0, fits.1, record { linear_x = fits.2; reaches = reaches_further f of_f.canonical (variable_or_zero (main_var t)) t lin.0 spanned.0.1 occurs x at (not_reduced p n k w prime (variable_or_zero (main_var t)) x t occurs unreduced) })),
        each ts lin.1 spanned.1 main.1,
      )

  -- it lacks all main variables
  pub reached_lacks : (f g : Polynomial) → IsLinear p n k f → reduction_within (list_operations p n) w (plains chain) (plain f) ≡ Some (plain g) → LacksMains p n prime chain g
  reached_lacks f g of_f made = less chain linear (subst (λ x. IsReducedBy x chain) (sym g_is) (reduction_is_reduced p n (plains chain) (plain f) prime (plains_canonical p n chain are_linear) (of_f.canonical, tt) (triangular_plains 0 chain triangular)))
    where
      g_is : g ≡ reduction_of p n chain f
      g_is = ap (λ h. h.first) (subst (λ o. IfSome o (λ h. h ≡ reduction (list_operations p n) (plains chain) (plain f))) made (gives-reduction (list_operations p n) w (plains chain) (plain f)))

      less : (ts : List Polynomial) → AllByRecursion (IsLinear p n k) ts → IsReducedBy g ts → LacksMains p n prime ts g
      less [] lin reduced = tt
      less (t ∷ ts) lin reduced = ((λ u main. let low = reduced.0 u main in let one = linear_degree p n k w prime u t lin.0 in omega (arith, low, one)), less ts lin.1 reduced.1)

  -- a multiple of f by a constant is spanned
  pub record IsDone (f : Polynomial) : Type 0 where
    pub b : Polynomial
    pub scalar : IsScalar p n b
    pub nonzero : b ≢ []
    pub spanned : IsSpanned p n chain (product_of p b f)

  -- then f reduces to 0
  pub done_reduces : (f g : Polynomial) → IsLinear p n k f → IsDone f → reduction_within (list_operations p n) w (plains chain) (plain f) ≡ Some (plain g) → IsReached f g → g ≡ []
  done_reduces f g of_f done made at = elim (no_zero_divisors p n b g prime done.scalar.canonical at.linear_x.canonical zero_product) [ inl zero_b ↦ absurd (done.nonzero zero_b) | inr zero_g ↦ zero_g ]
    where
      b : Polynomial
      b = done.b

      d : Polynomial
      d = at.reaches.d

      id : IsPolynomial p n at.reaches.d
      id = spanned_canonical p n prime chain are_linear at.reaches.d at.reaches.spanned

      minus_b : IsScalar p n (negative_of p done.b)
      minus_b = record { canonical = (polynomials_make_a_ring p n prime.many).negative_of_them b done.scalar.canonical; free = λ v. degree_in-negative_of v p b ∙ done.scalar.free v }

      bg_is : product_of p done.b g ≡ sum_of p (product_of p at.reaches.a (product_of p done.b f)) (product_of p (negative_of p done.b) at.reaches.d)
      bg_is = ap (λ u. u.0) (solve (polynomial_ring p n prime.many) ((b, done.scalar.canonical) ∷ (g, at.linear_x.canonical) ∷ (d, id) ∷ []) (var 0 :* var 1) (var 0 :* (var 1 :+ var 2) :+ minus (var 0) :* var 2) refl) ∙ ap (λ x. sum_of p (product_of p b x) (product_of p (negative_of p b) d)) (sym at.reaches.same) ∙ ap (λ u. u.0) (solve (polynomial_ring p n prime.many) ((b, done.scalar.canonical) ∷ (at.reaches.a, at.reaches.scalar.canonical) ∷ (f, of_f.canonical) ∷ (d, id) ∷ []) (var 0 :* (var 1 :* var 2) :+ minus (var 0) :* var 3) (var 1 :* (var 0 :* var 2) :+ minus (var 0) :* var 3) refl)

      lacks : (ts : List Polynomial) → LacksMains p n prime ts g → LacksMains p n prime ts (product_of p done.b g)
      lacks [] h = tt
      lacks (t ∷ ts) h = ((λ u main. (freeness_is_kept p n u b g done.scalar.canonical at.linear_x.canonical (done.scalar.free u) (h.0 u main)).1), lacks ts h.1)

      zero_product : product_of p done.b g ≡ []
      zero_product = spanned_zero p n prime chain are_linear (triangular_apart p n 0 prime chain triangular) (product_of p b g) (subst (IsSpanned p n chain) (sym bg_is) (sum_spanned p n prime chain are_linear (product_of p at.reaches.a (product_of p b f)) (product_of p (negative_of p b) d) (scaled_spanned p n prime at.reaches.a at.reaches.scalar chain are_linear (product_of p b f) done.spanned) (scaled_spanned p n prime (negative_of p b) minus_b chain are_linear d at.reaches.spanned))) (lacks chain (reached_lacks f g of_f made))
