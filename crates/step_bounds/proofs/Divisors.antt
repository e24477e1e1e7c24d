-- Polynomials that divide multiples by constants.
use Rattle.std.proofs.Common.{◌≡◌, ◌≢◌, inl, inr, ℕ, ◌<◌, ◌≤◌, [], ◌∷◌, refl, sym, ap, ◌∙◌, arith}
use Rattle.polynomials.specs.Primes.{IsPrime}
use Rattle.polynomials.specs.Polynomials.{Polynomial, IsPolynomial, sum_of, product_of, negative_of, constant_of, one_of, monic}
use Rattle.polynomials.specs.Views.{degree_in}
use Rattle.polynomials.proofs.DegreesOfProducts.{degree_of_product}
use Rattle.polynomials.proofs.FirstTerms.{no_zero_divisors}
use Rattle.polynomials.proofs.PolynomialRing.{polynomial_ring, polynomials_make_a_ring}
use Rattle.polynomials.proofs.Solver.{var, ◌:+◌, ◌:-◌, ◌:*◌, solve}
use Rattle.impose_laws.proofs.MonicForms.{constant_times_monic}
use Rattle.step_bounds.proofs.Spans.{scalar_constant}
use Rattle.step_bounds.proofs.Units.{unit_one, unit_product}
use Rattle.step_bounds.proofs.Univariate.{IsLow}
use Rattle.step_bounds.proofs.UnivariateRows.{DividesMultiple, Leaves}

module _ (p n d w : ℕ) (prime : IsPrime p) (wide : d < w) (small : d ≤ 65535) where
  product_canonical : (f g : Polynomial) → IsPolynomial p n f → IsPolynomial p n g → IsPolynomial p n (product_of p f g)
  product_canonical f g i j = (polynomials_make_a_ring p n prime.many).product_of_them f g i j

  -- 0 is divided
  pub divides_zero : (h : Polynomial) → DividesMultiple p n h []
  divides_zero h = record { a = one_of n; unit = unit_one p n d w prime wide small; q = []; canonical = tt; same = (polynomials_make_a_ring p n prime.many).one-mul [] tt }

  -- what divides a divisor divides
  pub divides_through : (c h f : Polynomial) → IsPolynomial p n c → IsPolynomial p n h → IsPolynomial p n f → DividesMultiple p n c h → DividesMultiple p n h f → DividesMultiple p n c f
  divides_through c h f ic ih if by_c by_h = record {
    a = product_of p by_c.a by_h.a;
    unit = unit_product p n d w prime wide small by_c.a by_h.a by_c.unit by_h.unit;
    q = product_of p by_h.q by_c.q;
    canonical = product_canonical by_h.q by_c.q by_h.canonical by_c.canonical;
    same = (polynomials_make_a_ring p n prime.many).mul_assoc by_c.a by_h.a f by_c.unit.canonical by_h.unit.canonical if ∙ ap (product_of p by_c.a) by_h.same ∙ ap (λ u. u.0) (solve (polynomial_ring p n prime.many) ((by_c.a, by_c.unit.canonical) ∷ (by_h.q, by_h.canonical) ∷ (h, ih) ∷ []) (var 0 :* (var 1 :* var 2)) (var 1 :* (var 0 :* var 2)) refl) ∙ ap (product_of p by_h.q) by_c.same ∙ sym ((polynomials_make_a_ring p n prime.many).mul_assoc by_h.q by_c.q c by_h.canonical by_c.canonical ic);
  }

  -- so does its monic form
  pub divides_monic : (h f : Polynomial) → IsPolynomial p n h → IsPolynomial p n (monic p h) → h ≢ [] → DividesMultiple p n h f → DividesMultiple p n (monic p h) f
  divides_monic h f ih im some by = record {
    a = by.a;
    unit = by.unit;
    q = product_of p by.q (constant_of n c);
    canonical = product_canonical by.q (constant_of n c) by.canonical ic;
    same = by.same ∙ ap (product_of p by.q) (sym multiple.3) ∙ sym ((polynomials_make_a_ring p n prime.many).mul_assoc by.q (constant_of n c) (monic p h) by.canonical ic im);
  }
    where
      multiple : (c : ℕ) × (0 < c) × (c < p) × (product_of p (constant_of n c) (monic p h) ≡ h)
      multiple = constant_times_monic p n prime h ih some

      c : ℕ
      c = multiple.0

      ic : IsPolynomial p n (constant_of n multiple.0)
      ic = (scalar_constant p n prime multiple.0 multiple.2).canonical

  module _ (f t x : Polynomial) (of_f : IsPolynomial p n f) (of_t : IsLow p n d t) (at : Leaves p n d w prime wide small f t x) (by : DividesMultiple p n t f) where
    abbrev e : Polynomial
    e = sum_of p (product_of p at.a by.q) (negative_of p (product_of p by.a at.s))

    ie : IsPolynomial p n (sum_of p (product_of p at.a by.q) (negative_of p (product_of p by.a at.s)))
    ie = (polynomials_make_a_ring p n prime.many).sum_of_them (product_of p at.a by.q) (negative_of p (product_of p by.a at.s)) (product_canonical at.a by.q at.unit.canonical by.canonical) ((polynomials_make_a_ring p n prime.many).negative_of_them (product_of p by.a at.s) (product_canonical by.a at.s by.unit.canonical at.canonical))

    -- a multiple of what is left is one of t
    left_is : product_of p by.a x ≡ product_of p e t
    left_is = ap (λ u. u.0) (solve (polynomial_ring p n prime.many) ((by.a, by.unit.canonical) ∷ (x, at.low.canonical) ∷ (at.s, at.canonical) ∷ (t, of_t.canonical) ∷ []) (var 0 :* var 1) (var 0 :* (var 1 :+ var 2 :* var 3) :- var 0 :* (var 2 :* var 3)) refl) ∙ ap (λ z. sum_of p (product_of p by.a z) (negative_of p (product_of p by.a (product_of p at.s t)))) (sym at.same) ∙ ap (λ u. u.0) (solve (polynomial_ring p n prime.many) ((by.a, by.unit.canonical) ∷ (at.a, at.unit.canonical) ∷ (f, of_f) ∷ (at.s, at.canonical) ∷ (t, of_t.canonical) ∷ []) (var 0 :* (var 1 :* var 2) :- var 0 :* (var 3 :* var 4)) (var 1 :* (var 0 :* var 2) :- var 0 :* (var 3 :* var 4)) refl) ∙ ap (λ z. sum_of p (product_of p at.a z) (negative_of p (product_of p by.a (product_of p at.s t)))) by.same ∙ ap (λ u. u.0) (solve (polynomial_ring p n prime.many) ((at.a, at.unit.canonical) ∷ (by.q, by.canonical) ∷ (t, of_t.canonical) ∷ (by.a, by.unit.canonical) ∷ (at.s, at.canonical) ∷ []) (var 0 :* (var 1 :* var 2) :- var 3 :* (var 4 :* var 2)) ((var 0 :* var 1 :- var 3 :* var 4) :* var 2) refl)

    -- of less degree it is 0
    pub remainder_zero : degree_in 0 x < degree_in 0 t → x ≡ []
    remainder_zero less = go x refl
      where
        e_some : x ≢ [] → e ≢ []
        e_some some null = elim (no_zero_divisors p n by.a x prime by.unit.canonical at.low.canonical (left_is ∙ ap (λ z. product_of p z t) null)) [
          | inl zero_a ↦ by.unit.nonzero zero_a
          | inr zero_x ↦ some zero_x
        ]

        clash : x ≢ [] → ⊥
        clash some =
            let t_some : t ≢ [] = λ null. let none = ap (degree_in 0) null in omega (arith, none, less) in
            let adds = degree_of_product p n 0 by.a x prime by.unit.canonical at.low.canonical by.unit.nonzero some in
            let adds_e = degree_of_product p n 0 e t prime ie of_t.canonical (e_some some) t_some in
            let same = ap (degree_in 0) left_is in
            let free = by.unit.free 0 in
            omega (arith, adds, adds_e, same, free, less)

        go : (y : Polynomial) → x ≡ y → x ≡ []
        go [] null = null
        go (u ∷ y) same = absurd (clash (λ null. let d = sym same ∙ null in cc))
