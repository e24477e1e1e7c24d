-- Constants other than 0: their powers, psi and beta fit.
use Rattle.std.proofs.Common.{◌≡◌, ◌≢◌, inl, inr, ℕ, zero, suc, ◌-◌, ◌<◌, ◌≤◌, true, false, [], ◌∷◌, length, Option, Some, None, unwrap_or, refl, sym, ap, ◌∙◌, subst, arith}
use Rattle.polynomials.specs.Primes.{IsPrime}
use Rattle.polynomials.specs.Polynomials.{Polynomial, IsPolynomial, product_of, negative_of, constant_of, one_of}
use Rattle.polynomials.specs.Views.{IsFreeOf}
use Rattle.polynomials.specs.Fits.{fits}
use Rattle.polynomials.proofs.Degrees.{degree_in-negative_of}
use Rattle.polynomials.proofs.DegreesOfProducts.{freeness_is_kept}
use Rattle.polynomials.proofs.FirstTerms.{no_zero_divisors}
use Rattle.polynomials.proofs.MainVariables.{constant_from_free}
use Rattle.polynomials.proofs.PolynomialRing.{polynomials_make_a_ring}
use Rattle.polynomials.proofs.Powers.{one_is_free}
use Rattle.division_rules.specs.Lists.{list_operations}
use Rattle.division_rules.specs.Operations.{sign}
use Rattle.division_rules.specs.Quotients.{quotient_within}
use Rattle.division_rules.specs.RemainderRowsWithin.{psi_within, beta_within}
use Rattle.division_rules.specs.Within.{and_then, power_of_within, times_within}
use Rattle.division_rules.proofs.Quotients.{IsPolynomial-quotient_within}
use Rattle.division_rules.proofs.QuotientFacts.{quotient_within_nonzero, quotient_within_degree}
use Rattle.step_bounds.proofs.Univariate.{constant_short, few_fits}

-- a constant other than 0
pub record IsUnit (p n : ℕ) (c : Polynomial) : Type 0 where
  pub canonical : IsPolynomial p n c
  pub free : (v : ℕ) → IsFreeOf v c
  pub nonzero : c ≢ []

-- there is a result, and it is one
abbrev pub IsUnitOf : ℕ → ℕ → Option Polynomial → Type 0
IsUnitOf p n o = (c : Polynomial) × (o ≡ Some c) × IsUnit p n c

module _ (p n d w : ℕ) (prime : IsPrime p) (wide : d < w) (small : d ≤ 65535) where
  -- products
  unit_fits : (a b : Polynomial) → IsUnit p n a → IsUnit p n b → fits w a b ≡ true
  unit_fits a b of_a of_b = few_fits p n d w prime wide small a b (record { canonical = of_b.canonical; below = λ v past. of_b.free v; low = let none = of_b.free 0 in omega (arith, none) }) (short (constant_from_free p n a (let many = prime.many in omega (arith, many)) of_a.canonical of_a.free)) (λ v past. of_a.free v) (let none_a = of_a.free 0 in let none_b = of_b.free 0 in omega (arith, none_a, none_b))
    where
      short : (c : ℕ) × (c < p) × (a ≡ constant_of n c) → length a ≤ 1
      short (c, less, same) = subst (λ x. length x ≤ 1) (sym same) (constant_short n c)

  pub unit_product : (a b : Polynomial) → IsUnit p n a → IsUnit p n b → IsUnit p n (product_of p a b)
  unit_product a b of_a of_b = record {
    canonical = (polynomials_make_a_ring p n prime.many).product_of_them a b of_a.canonical of_b.canonical;
    free = λ v. (freeness_is_kept p n v a b of_a.canonical of_b.canonical (of_a.free v) (of_b.free v)).1;
    nonzero = λ null. elim (no_zero_divisors p n a b prime of_a.canonical of_b.canonical null) [ inl zero_a ↦ of_a.nonzero zero_a | inr zero_b ↦ of_b.nonzero zero_b ];
  }

  pub unit_times : (a b : Polynomial) → IsUnit p n a → IsUnit p n b → IsUnitOf p n (times_within (list_operations p n) w a b)
  unit_times a b of_a of_b = (product_of p a b, ap (λ x. elim x as (λ _. Option Polynomial) [ true ↦ Some (product_of p a b) | false ↦ None ]) (unit_fits a b of_a of_b), unit_product a b of_a of_b)

  -- 1 and negatives
  pub unit_one : IsUnit p n (one_of n)
  unit_one = record { canonical = (polynomials_make_a_ring p n prime.many).one_of_them; free = λ v. one_is_free v n; nonzero = λ e. cc }

  pub unit_minus : (c : Polynomial) → IsUnit p n c → IsUnit p n (negative_of p c)
  unit_minus c of_c = record { canonical = (polynomials_make_a_ring p n prime.many).negative_of_them c of_c.canonical; free = λ v. degree_in-negative_of v p c ∙ of_c.free v; nonzero = go c of_c.nonzero }
    where
      go : (x : Polynomial) → x ≢ [] → negative_of p x ≢ []
      go [] some null = some refl
      go (t ∷ x) some null = cc

  unit_sign : (k : ℕ) → IsUnit p n (sign (list_operations p n) k)
  unit_sign zero = unit_one
  unit_sign (suc k) = unit_minus (sign (list_operations p n) k) (unit_sign k)

  -- powers
  pub unit_power : (a : Polynomial) → IsUnit p n a → (e : ℕ) → IsUnitOf p n (power_of_within (list_operations p n) w a e)
  unit_power a of_a zero = (one_of n, refl, unit_one)
  unit_power a of_a (suc zero) = (a, refl, of_a)
  unit_power a of_a (suc (suc e)) =
      let (x, made, of_x) = unit_power a of_a (suc e) in
      let (y, further, of_y) = unit_times x a of_x of_a in
      (y, ap (λ o. and_then o (λ z. times_within (list_operations p n) w z a)) made ∙ further, of_y)

  -- quotients, where there are
  unit_quotient : (a b : Polynomial) → IsUnit p n a → IsUnit p n b → IsUnit p n (unwrap_or (quotient_within p w a b) a)
  unit_quotient a b of_a of_b = go (quotient_within p w a b) refl
    where
      go : (o : Option Polynomial) → quotient_within p w a b ≡ o → IsUnit p n (unwrap_or o a)
      go None e = of_a
      go (Some q) e = record {
        canonical = IsPolynomial-quotient_within p n w a b q (let many = prime.many in omega (arith, many)) of_a.canonical of_b.canonical e;
        free = λ v. let adds = quotient_within_degree p n w a b q prime of_a.canonical of_b.canonical e of_a.nonzero v in let none = of_a.free v in omega (arith, adds, none);
        nonzero = quotient_within_nonzero p n w a b q prime of_a.canonical of_b.canonical e of_a.nonzero;
      }

  -- psi of the turn before, where there was one
  abbrev pub IsUnitMemory : Option (Polynomial × ℕ) → Type 0
  IsUnitMemory None = Unit {0}
  IsUnitMemory (Some m) = IsUnit p n m.0

  pub unit_psi : (m : Option (Polynomial × ℕ)) → IsUnitMemory m → (l : Polynomial) → IsUnit p n l → IsUnitOf p n (psi_within (list_operations p n) w m l)
  unit_psi None of_m l of_l = (negative_of p (one_of n), refl, unit_minus (one_of n) unit_one)
  unit_psi (Some m) of_m l of_l =
      let (top, made, of_top) = unit_power (negative_of p l) (unit_minus l of_l) m.1 in
      let (low, further, of_low) = unit_power m.0 of_m (m.1 - 1) in
      (unwrap_or (quotient_within p w top low) top, ap (λ o. and_then o (λ t. and_then (power_of_within (list_operations p n) w m.0 (m.1 - 1)) (λ b. Some (unwrap_or (quotient_within p w t b) t)))) made ∙ ap (λ o. and_then o (λ b. Some (unwrap_or (quotient_within p w top b) top))) further, unit_quotient top low of_top of_low)

  pub unit_beta : (m : Option (Polynomial × ℕ)) → (l q : Polynomial) → IsUnit p n l → IsUnit p n q → (k : ℕ) → IsUnitOf p n (beta_within (list_operations p n) w m l q k)
  unit_beta None l q of_l of_q k = (sign (list_operations p n) (suc k), refl, unit_sign (suc k))
  unit_beta (Some m) l q of_l of_q k =
      let (x, made, of_x) = unit_power q of_q k in
      let (y, further, of_y) = unit_times (negative_of p l) x (unit_minus l of_l) of_x in
      (y, ap (λ o. and_then o (λ z. times_within (list_operations p n) w (negative_of p l) z)) made ∙ further, of_y)
