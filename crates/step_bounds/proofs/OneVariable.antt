-- One variable: triangular sets, reductions by them, and what is left without factors.
use Rattle.std.proofs.Common.{◌≡◌, ◌≢◌, ℕ, ◌<◌, ◌≤◌, false, List, [], ◌∷◌, Contains, Some, IfSome, refl, sym, ap, ◌∙◌, subst, arith}
use Rattle.std.specs.List.{AllByRecursion}
use Rattle.polynomials.specs.Primes.{IsPrime}
use Rattle.polynomials.specs.Polynomials.{Polynomial, IsPolynomial, ArePolynomials, product_of, one_of, monic}
use Rattle.polynomials.specs.Views.{degree_in, main_var, is_constant}
use Rattle.polynomials.proofs.Canonical.{IsPolynomial-one_of}
use Rattle.polynomials.proofs.MainVariables.{main_variable_is_greatest}
use Rattle.polynomials.proofs.MonicLemmas.{IsPolynomial-monic}
use Rattle.polynomials.proofs.PolynomialRing.{polynomials_make_a_ring}
use Rattle.zero_sets.specs.ZeroSets.{IsTriangular}
use Rattle.division_rules.specs.Lists.{list_operations, variable_or_zero}
use Rattle.division_rules.specs.Quotients.{quotient_within, without_factors}
use Rattle.division_rules.specs.Rows.{plain, plains, reduction}
use Rattle.division_rules.specs.Within.{reduction_within}
use Rattle.division_rules.proofs.Factors.{without_factors_relates, without_factors_nonzero}
use Rattle.division_rules.proofs.Quotients.{IsPolynomial-quotient_within, quotient_within_exact}
use Rattle.division_rules.proofs.QuotientFacts.{quotient_within_nonzero}
use Rattle.division_rules.proofs.TriangularReductions.{reduction_is_reduced}
use Rattle.division_rules.proofs.Up.{plains_canonical}
use Rattle.division_rules.proofs.WithinLimits.{gives-reduction}
use Rattle.row_laws.specs.Words.{reduction_of, IsReducedBy}
use Rattle.impose_rules.specs.Factors.{stripped}
use Rattle.impose_rules.proofs.ChainParts.{canonical_each, triangular_plains}
use Rattle.impose_rules.proofs.Lists.{each_implied}
use Rattle.impose_laws.proofs.MonicForms.{degree_in-monic}
use Rattle.impose_laws.proofs.Stripped.{IsPolynomial-stripped, degree_in-stripped, stripped_free}
use Rattle.step_bounds.proofs.Divisors.{divides_monic}
use Rattle.step_bounds.proofs.Fitting.{EliminationsFit, IsPlainOf, reduction_fits}
use Rattle.step_bounds.proofs.Units.{unit_one}
use Rattle.step_bounds.proofs.Univariate.{IsLow}
use Rattle.step_bounds.proofs.UnivariateRows.{DividesMultiple, Leaves, leaves_itself, leaves_eliminated}

-- several of low degree
abbrev pub AreLow : ℕ → ℕ → ℕ → List Polynomial → Type 0
AreLow p n d fs = AllByRecursion (IsLow p n d) fs

-- a triangular set in one variable: nothing, or one polynomial of low degree that isn't constant
abbrev pub IsLowChain : ℕ → ℕ → ℕ → List Polynomial → Type 0
IsLowChain p n d [] = Unit {0}
IsLowChain p n d (t ∷ []) = IsLow p n d t × (1 ≤ degree_in 0 t)
IsLowChain p n d (t ∷ u ∷ more) = ⊥

-- what isn't constant isn't 0
pub occurs_some : (t : Polynomial) → 1 ≤ degree_in 0 t → t ≢ []
occurs_some t occurs null = let none = ap (degree_in 0) null in omega (arith, none, occurs)

module _ (p n d w : ℕ) (prime : IsPrime p) (wide : d < w) (small : d ≤ 65535) where
  pub canonical_low : (fs : List Polynomial) → AreLow p n d fs → ArePolynomials p n fs
  canonical_low fs each = canonical_each p n fs (each_implied (IsLow p n d) (IsPolynomial p n) (λ f is. is.canonical) fs each)

  -- the one variable is the main variable
  pub main_zero : (t : Polynomial) → IsLow p n d t → 1 ≤ degree_in 0 t → main_var t ≡ Some 0
  main_zero t is occurs = (main_variable_is_greatest 0 t).1 (occurs, λ x less. is.below x (omega (arith, less)))

  pub low_triangular : (t : Polynomial) → IsLow p n d t → 1 ≤ degree_in 0 t → IsTriangular (t ∷ [])
  low_triangular t is occurs = (0, main_zero t is occurs, omega arith, tt)

  pub low_monic : (f : Polynomial) → IsLow p n d f → IsLow p n d (monic p f)
  low_monic f is = record {
    canonical = IsPolynomial-monic p n f prime is.canonical;
    below = λ v past. degree_in-monic p n prime v f is.canonical ∙ is.below v past;
    low = subst (λ e. e ≤ d) (sym (degree_in-monic p n prime 0 f is.canonical)) is.low;
  }

  -- g is what the chain leaves of f
  abbrev pub IsLeftBy : List Polynomial → Polynomial → Polynomial → Type 0
  IsLeftBy [] f g = g ≡ f
  IsLeftBy (t ∷ more) f g = Leaves p n d w prime wide small f t g × (degree_in 0 g < degree_in 0 t)

  -- the reduction fits, and is that
  pub record HasLeft (chain : List Polynomial) (f g : Polynomial) : Type 0 where
    pub made : reduction_within (list_operations p n) w (plains chain) (plain f) ≡ Some (plain g)
    pub low : IsLow p n d g
    pub left : IsLeftBy chain f g

  module _ (t : Polynomial) (of_t : IsLow p n d t) (occurs : 1 ≤ degree_in 0 t) (f : Polynomial) (of_f : IsLow p n d f) where
    eliminations_fit : EliminationsFit p n w (Leaves p n d w prime wide small f t) (variable_or_zero (main_var t)) t
    eliminations_fit = subst (λ v. EliminationsFit p n w (Leaves p n d w prime wide small f t) v t) (sym (ap variable_or_zero (main_zero t of_t occurs))) (leaves_eliminated p n d w prime wide small f t of_f of_t (occurs_some t occurs))

    -- of less degree
    less_degree : (g : Polynomial) → reduction_within (list_operations p n) w (plains (t ∷ [])) (plain f) ≡ Some (plain g) → degree_in 0 g < degree_in 0 t
    less_degree g made = reduced.0 0 (main_zero t of_t occurs)
      where
        g_is : g ≡ reduction_of p n (t ∷ []) f
        g_is = ap (λ h. h.first) (subst (λ o. IfSome o (λ h. h ≡ reduction (list_operations p n) (plains (t ∷ [])) (plain f))) made (gives-reduction (list_operations p n) w (plains (t ∷ [])) (plain f)))

        reduced : IsReducedBy g (t ∷ [])
        reduced = subst (λ x. IsReducedBy x (t ∷ [])) (sym g_is) (reduction_is_reduced p n (plains (t ∷ [])) (plain f) prime (plains_canonical p n (t ∷ []) (of_t.canonical, tt)) (of_f.canonical, tt) (triangular_plains 0 (t ∷ []) (low_triangular t of_t occurs)))

    one_left : IsPlainOf (Leaves p n d w prime wide small f t) (reduction_within (list_operations p n) w (plains (t ∷ [])) (plain f)) → (g : Polynomial) × HasLeft (t ∷ []) f g
    one_left (g, made, at) = (g, record { made = made; low = at.low; left = (at, less_degree g made) })

  pub reduction_low : (chain : List Polynomial) → IsLowChain p n d chain → (f : Polynomial) → IsLow p n d f → (g : Polynomial) × HasLeft chain f g
  reduction_low [] of_chain f of_f = (f, record { made = refl; low = of_f; left = refl })
  reduction_low (t ∷ []) of_chain f of_f = one_left t of_chain.0 of_chain.1 f of_f (reduction_fits p n w (Leaves p n d w prime wide small f t) (t ∷ []) (eliminations_fit t of_chain.0 of_chain.1 f of_f, tt) f (leaves_itself p n d w prime wide small f t of_f))
  reduction_low (t ∷ u ∷ more) of_chain f of_f = absurd of_chain

  -- what is left without factors has low degree
  pub low_stripped : (ns : List Polynomial) → ArePolynomials p n ns → (g : Polynomial) → IsLow p n d g → IsLow p n d (stripped p w ns g)
  low_stripped ns are g is = record {
    canonical = IsPolynomial-stripped p n w prime ns are g is.canonical;
    below = λ v past. stripped_free p n w prime ns are v g is.canonical (is.below v past);
    low = (let falls = degree_in-stripped p n w prime ns are 0 g is.canonical in let low = is.low in omega (arith, falls, low));
  }

  -- and divides it
  abbrev IsMultiple : Polynomial → Polynomial → Type 0
  IsMultiple x y = x ≢ [] → (q : Polynomial) × IsPolynomial p n y × IsPolynomial p n q × (product_of p q y ≡ x)

  factors_divide : (bs : List Polynomial) → ArePolynomials p n bs → (x : Polynomial) → IsPolynomial p n x → IsMultiple x (without_factors p w bs x)
  factors_divide bs are x i = without_factors_relates p n w prime bs IsMultiple (λ y j some. (one_of n, j, IsPolynomial-one_of p n prime.many, (polynomials_make_a_ring p n prime.many).one-mul y j)) step are x i
    where
      step : (b x q y : Polynomial) → Contains bs b → is_constant b ≡ false → IsPolynomial p n b → IsPolynomial p n x → quotient_within p w x b ≡ Some q → IsMultiple q y → IsMultiple x y
      step b x q y member varies ib i e left some =
          let iq = IsPolynomial-quotient_within p n w x b q (let many = prime.many in omega (arith, many)) i ib e in
          let (s, iy, is, made) = left (quotient_within_nonzero p n w x b q prime i ib e some) in
          let r = polynomials_make_a_ring p n prime.many in
          (product_of p b s, iy, r.product_of_them b s ib is, r.mul_assoc b s y ib is iy ∙ ap (product_of p b) made ∙ r.mul_comm b q ib iq ∙ quotient_within_exact p w x b q e)

  pub stripped_divides : (ns : List Polynomial) → ArePolynomials p n ns → (g : Polynomial) → IsLow p n d g → g ≢ [] → DividesMultiple p n (stripped p w ns g) g
  stripped_divides ns are g is some =
      let y = without_factors p w ns g in
      let (q, iy, iq, made) = factors_divide ns are g is.canonical some in
      divides_monic p n d w prime wide small y g iy (IsPolynomial-monic p n y prime iy) (without_factors_nonzero p n w prime ns g are is.canonical some) (record {
        a = one_of n;
        unit = unit_one p n d w prime wide small;
        q = q;
        canonical = iq;
        same = (polynomials_make_a_ring p n prime.many).one-mul g is.canonical ∙ sym made;
      })
