-- Polynomials in one variable of bounded degree: all products of eliminations fit.
use Rattle.std.proofs.Common.{◌≡◌, ◌≢◌, inr, ℕ, zero, suc, ◌+◌, ◌-◌, ◌*◌, ◌<◌, ◌≤◌, true, false, [], ◌∷◌, length, sym, ap, ◌∙◌, subst, arith}
use Rattle.std.proofs.lemmas.Bool.{ltb-false}
use Rattle.polynomials.specs.Primes.{IsPrime}
use Rattle.polynomials.specs.Polynomials.{Polynomial, IsPolynomial, product_of, negative_of, constant_of, variable_power}
use Rattle.polynomials.specs.Views.{degree_in, lead_in, IsFreeOf}
use Rattle.polynomials.specs.Fits.{fits}
use Rattle.polynomials.proofs.Coefficients.{IsPolynomial-coefficient_in}
use Rattle.polynomials.proofs.ConstantLemmas.{constant_of-product_of}
use Rattle.polynomials.proofs.Degrees.{coefficient_in_free, lead_in_nonzero, degree_in-sum_of, degree_in-negative_of, degree_in-product_of}
use Rattle.polynomials.proofs.ExponentsBelow.{ExponentsBelow-one, ExponentsBelow-variable_power, ExponentsBelow-variable_power_other, degree_in-from_ExponentsBelow}
use Rattle.polynomials.proofs.FitsLemmas.{fits_in_each_variable}
use Rattle.polynomials.proofs.LeadAndTail.{IsPolynomial-variable_power}
use Rattle.polynomials.proofs.MainVariables.{constant_from_free}
use Rattle.polynomials.proofs.PolynomialRing.{polynomials_make_a_ring}
use Rattle.division_rules.specs.Lists.{list_operations}
use Rattle.division_rules.specs.Operations.{shifted_lead}
use Rattle.division_rules.specs.Rows.{plain, is_reduced_by}
use Rattle.impose_laws.proofs.CommonRows.{lead_in_keeps_free}
use Rattle.step_bounds.specs.Terms.{HasVariablesBelow}
use Rattle.step_bounds.proofs.FewTerms.{terms_are_few}
use Rattle.step_bounds.proofs.Fitting.{EliminationsFit}

-- a canonical polynomial in the first variable, of degree at most d
pub record IsLow (p n d : ℕ) (f : Polynomial) : Type 0 where
  pub canonical : IsPolynomial p n f
  pub below : HasVariablesBelow 1 f
  pub low : degree_in 0 f ≤ d

-- a constant has at most one term
pub constant_short : (n c : ℕ) → length (constant_of n c) ≤ 1
constant_short n zero = omega arith
constant_short n (suc c) = omega arith

module _ (p n d w : ℕ) (prime : IsPrime p) (wide : d < w) (small : d ≤ 65535) where
  -- the lead is a constant other than 0
  pub low_lead : (f : Polynomial) → IsLow p n d f → f ≢ [] → (c : ℕ) × (0 < c) × (c < p) × (lead_in 0 f ≡ constant_of n c)
  low_lead f is some = go (constant_from_free p n (lead_in 0 f) (let many = prime.many in omega (arith, many)) (IsPolynomial-coefficient_in 0 (degree_in 0 f) p n f is.canonical) free)
    where
      free : (v : ℕ) → IsFreeOf v (lead_in 0 f)
      free zero = coefficient_in_free 0 (degree_in 0 f) f
      free (suc v) = lead_in_keeps_free (suc v) 0 f (is.below (suc v) (omega arith))

      go : (c : ℕ) × (c < p) × (lead_in 0 f ≡ constant_of n c) → (c : ℕ) × (0 < c) × (c < p) × (lead_in 0 f ≡ constant_of n c)
      go (zero, less, same) = absurd (lead_in_nonzero 0 f some same)
      go (suc c, less, same) = (suc c, omega arith, less, same)

  -- what has at most one term and a degree that adds to at most d fits
  pub few_fits : (m g : Polynomial) → IsLow p n d g → length m ≤ 1 → HasVariablesBelow 1 m → degree_in 0 m + degree_in 0 g ≤ d → fits w m g ≡ true
  few_fits m g is one below adds = (fits_in_each_variable w m g).1 (inr (inr (counted (length m) (length g) one (let count = (terms_are_few p n g is.canonical).in_one_variable is.below in let low = is.low in omega (arith, count, low, wide)), each)))
    where
      counted : (a b : ℕ) → a ≤ 1 → b ≤ w → a * b ≤ w
      counted zero b one few = omega arith
      counted (suc zero) b one few = omega arith
      counted (suc (suc a)) b one few = absurd (omega (arith, one))

      each : (v : ℕ) → degree_in v m + degree_in v g ≤ 65535
      each zero = omega (arith, adds, small)
      each (suc v) = let none_m = below (suc v) (omega arith) in let none_g = is.below (suc v) (omega arith) in omega (arith, none_m, none_g)

  -- the shifted lead: one term, and the degree by which f passes g
  shifted_few : (f g : Polynomial) → IsLow p n d f → f ≢ [] → (length (shifted_lead (list_operations p n) 0 f g) ≤ 1) × HasVariablesBelow 1 (shifted_lead (list_operations p n) 0 f g) × (degree_in 0 (shifted_lead (list_operations p n) 0 f g) ≤ degree_in 0 f - degree_in 0 g)
  shifted_few f g is some = (count, below, low)
    where
      e : ℕ
      e = degree_in 0 f - degree_in 0 g

      lead : (c : ℕ) × (0 < c) × (c < p) × (lead_in 0 f ≡ constant_of n c)
      lead = low_lead f is some

      power : Polynomial
      power = variable_power n 0 (degree_in 0 f - degree_in 0 g)

      ip : IsPolynomial p n (variable_power n 0 (degree_in 0 f - degree_in 0 g))
      ip = IsPolynomial-variable_power p n 0 (degree_in 0 f - degree_in 0 g) prime.many

      il : IsPolynomial p n (lead_in 0 f)
      il = IsPolynomial-coefficient_in 0 (degree_in 0 f) p n f is.canonical

      -- a multiple of a power by a constant
      count : length (shifted_lead (list_operations p n) 0 f g) ≤ 1
      count = subst (λ x. length x ≤ 1) (sym ((polynomials_make_a_ring p n prime.many).mul_comm power (lead_in 0 f) ip il ∙ ap (λ l. product_of p l power) lead.3 ∙ constant_of-product_of p n lead.0 power prime lead.1 lead.2 ip)) (omega arith)

      below : HasVariablesBelow 1 (shifted_lead (list_operations p n) 0 f g)
      below v past =
          let power = (ExponentsBelow-one v (variable_power n 0 (degree_in 0 f - degree_in 0 g))).0 (ExponentsBelow-variable_power_other n v 0 (degree_in 0 f - degree_in 0 g) (λ same. omega (arith, same, past))) in
          let rest = lead_in_keeps_free v 0 f (is.below v past) in
          let both = degree_in-product_of v p 0 0 (variable_power n 0 (degree_in 0 f - degree_in 0 g)) (lead_in 0 f) (omega (arith, power)) (omega (arith, rest)) in
          omega (arith, both)

      low : degree_in 0 (shifted_lead (list_operations p n) 0 f g) ≤ degree_in 0 f - degree_in 0 g
      low =
          let power = degree_in-from_ExponentsBelow 0 (degree_in 0 f - degree_in 0 g) (variable_power n 0 (degree_in 0 f - degree_in 0 g)) (ExponentsBelow-variable_power n 0 (degree_in 0 f - degree_in 0 g)) in
          let rest = coefficient_in_free 0 (degree_in 0 f) f in
          let both = degree_in-product_of 0 p (degree_in 0 f - degree_in 0 g) 0 (variable_power n 0 (degree_in 0 f - degree_in 0 g)) (lead_in 0 f) power (omega (arith, rest)) in
          omega (arith, both)

  -- multiples by the lead of g
  pub low_multiple : (g : Polynomial) → IsLow p n d g → g ≢ [] → (f : Polynomial) → IsLow p n d f → (fits w (lead_in 0 g) f ≡ true) × IsLow p n d (product_of p (lead_in 0 g) f)
  low_multiple g of_g some f is =
      let l = low_lead g of_g some in
      let i = IsPolynomial-coefficient_in 0 (degree_in 0 g) p n g of_g.canonical in (
        few_fits (lead_in 0 g) f is (subst (λ x. length x ≤ 1) (sym l.3) (constant_short n l.0)) (λ v past. lead_in_keeps_free v 0 g (of_g.below v past)) (let none = coefficient_in_free 0 (degree_in 0 g) g in let low = is.low in omega (arith, none, low)),
        record {
          canonical = (polynomials_make_a_ring p n prime.many).product_of_them (lead_in 0 g) f i is.canonical;
          below = λ v past. let none_l = lead_in_keeps_free v 0 g (of_g.below v past) in let none_f = is.below v past in let both = degree_in-product_of v p 0 0 (lead_in 0 g) f (omega (arith, none_l)) (omega (arith, none_f)) in omega (arith, both);
          low = let none = coefficient_in_free 0 (degree_in 0 g) g in let both = degree_in-product_of 0 p 0 d (lead_in 0 g) f (omega (arith, none)) is.low in omega (arith, both);
        },
      )

  -- what isn't reduced by g isn't 0, and has no less degree
  unreduced : (f g : Polynomial) → is_reduced_by (list_operations p n) 0 (plain g) (plain f) ≡ false → (f ≢ []) × (degree_in 0 g ≤ degree_in 0 f)
  unreduced [] g e = cc
  unreduced (t ∷ f) g e = ((λ null. cc), ltb-false (degree_in 0 (t ∷ f)) (degree_in 0 g) e)

  -- eliminations fit, and the degree stays low
  pub low_fits : (g : Polynomial) → IsLow p n d g → g ≢ [] → EliminationsFit p n w (IsLow p n d) 0 g
  low_fits g of_g some f is free_of_g =
      let parts = unreduced f g free_of_g in
      let first = low_multiple g of_g some f is in
      let m = shifted_lead (list_operations p n) 0 f g in
      let few = shifted_few f g is parts.0 in
      let adds : degree_in 0 m + degree_in 0 g ≤ degree_in 0 f = let low = few.2 in let from = parts.1 in omega (arith, low, from) in
      let low_f = is.low in
      let im = (polynomials_make_a_ring p n prime.many).product_of_them (variable_power n 0 (degree_in 0 f - degree_in 0 g)) (lead_in 0 f) (IsPolynomial-variable_power p n 0 (degree_in 0 f - degree_in 0 g) prime.many) (IsPolynomial-coefficient_in 0 (degree_in 0 f) p n f is.canonical) in (
        first.0,
        few_fits m g of_g few.0 few.1 (omega (arith, adds, low_f)),
        record {
          canonical = (polynomials_make_a_ring p n prime.many).sum_of_them (product_of p (lead_in 0 g) f) (negative_of p (product_of p m g)) first.1.canonical ((polynomials_make_a_ring p n prime.many).negative_of_them (product_of p m g) ((polynomials_make_a_ring p n prime.many).product_of_them m g im of_g.canonical));
          below = λ v past.
              let none_m = few.1 v past in
              let none_g = of_g.below v past in
              let second = degree_in-product_of v p 0 0 m g (omega (arith, none_m)) (omega (arith, none_g)) in
              let minus = degree_in-negative_of v p (product_of p m g) in
              let none_first = first.1.below v past in
              let both = degree_in-sum_of v p 0 (product_of p (lead_in 0 g) f) (negative_of p (product_of p m g)) (omega (arith, none_first)) (omega (arith, minus, second)) in
              omega (arith, both);
          low =
              let second = degree_in-product_of 0 p (degree_in 0 m) (degree_in 0 g) m g (omega arith) (omega arith) in
              let minus = degree_in-negative_of 0 p (product_of p m g) in
              degree_in-sum_of 0 p d (product_of p (lead_in 0 g) f) (negative_of p (product_of p m g)) first.1.low (omega (arith, minus, second, adds, low_f));
        },
      )
